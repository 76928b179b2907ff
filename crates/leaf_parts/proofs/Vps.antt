-- The list of a TD's virtual processors in TDCS, and the words of their pages.
use Rattle.std.proofs.Common.{◌≡◌, ℕ, zero, suc, ◌+◌, ◌<◌, ◌≤◌, Bool, false, ◌==◌, nat_lt, List, ◌∷◌, slice_get, Option, Some, refl, sym, ◌∙◌, subst, arith}
use Rattle.std.proofs.lemmas.Bool.Decides.{nat_tests}
use Rattle.td_words.specs.declared.names.PageKind.TheVariants as kind
use Rattle.td_words.specs.declared.names.LifeState.TheVariants as life
use Rattle.td_words.specs.declared.machines.Machine.{Machine}
use Rattle.td_words.specs.NameNumber.{life_number}
use Rattle.td_words.specs.Place.{WordPlace}
use Rattle.td_words.specs.Place as place
use Rattle.flat_core.specs.World.{World}
use Rattle.flat_core.specs.Processor.{LockId}
use Rattle.flat_core.specs.Lawful.{IsPageOf}
use Rattle.flat_core.specs.Event.{State}
use Rattle.flat_core.proofs.Tests.{by_test}
use Rattle.word_rules.specs.Lines.{in_lines}
use Rattle.word_rules.specs.Rules.{TdcsWord}
use Rattle.word_rules.specs.Views.{no_page}
use Rattle.word_rules.specs.Spots.{spot, or_unused, tdcs_classes, vp_classes}
use Rattle.word_rules.specs.Cells.{Shows, IsAs, lock_word, td_lock_lines, tdcs_lines, vp_lines}
use Rattle.leaf_parts.specs.Words.{vps_told}
use Rattle.leaf_parts.proofs.Told.{tdcs-shown}

-- the lines of TDCS that name virtual processors
pub vp-line : (w : World) (locks : LockId → ℕ) (t k : ℕ) → k < 8 → in_lines (td_lock_lines locks t (tdcs_lines w t)) (40 + k) ≡ slice_get (w.tds.vps t) k
vp-line w locks t zero b = refl
vp-line w locks t (suc zero) b = refl
vp-line w locks t (suc (suc zero)) b = refl
vp-line w locks t (suc (suc (suc zero))) b = refl
vp-line w locks t (suc (suc (suc (suc zero)))) b = refl
vp-line w locks t (suc (suc (suc (suc (suc zero))))) b = refl
vp-line w locks t (suc (suc (suc (suc (suc (suc zero)))))) b = refl
vp-line w locks t (suc (suc (suc (suc (suc (suc (suc zero))))))) b = refl
vp-line w locks t (suc (suc (suc (suc (suc (suc (suc (suc k)))))))) b = absurd (omega (arith, b))

pub vp-class : (current empty : ℕ → Bool) (k : ℕ) → k < 8 → or_unused (in_lines (tdcs_classes current empty) (40 + k)) ≡ TdcsWord
vp-class current empty zero b = refl
vp-class current empty (suc zero) b = refl
vp-class current empty (suc (suc zero)) b = refl
vp-class current empty (suc (suc (suc zero))) b = refl
vp-class current empty (suc (suc (suc (suc zero)))) b = refl
vp-class current empty (suc (suc (suc (suc (suc zero))))) b = refl
vp-class current empty (suc (suc (suc (suc (suc (suc zero)))))) b = refl
vp-class current empty (suc (suc (suc (suc (suc (suc (suc zero))))))) b = refl
vp-class current empty (suc (suc (suc (suc (suc (suc (suc (suc k)))))))) b = absurd (omega (arith, b))

-- their number, read back
pub vps-back : (n : ℕ) → n ≤ 8 → vps_told n ≡ n
vps-back n few = by_test (nat_lt n 8) (λ e. rw e refl) (λ e. (let all : n ≡ 8 = grind (arith, nat_tests) in rw e (sym all)))

module _ (m : Machine) (words : WordPlace → ℕ) (slots : ℕ → Option (List ℕ)) (s : State) (sh : Shows m words slots s) (t : ℕ) (alive : (life_number (s.world.tds.lives t) == life_number life.Teardown) ≡ false) where
  -- the virtual processor of that number
  pub vp-said : (c : ℕ) (rest : List ℕ) → s.world.tds.controls t ≡ c ∷ rest → IsPageOf s.world.pages t c kind.Tdcx → c < m.pages → (k v : ℕ) → k < 8 → slice_get (s.world.tds.vps t) k ≡ Some v → words (place.Word c (40 + k)) ≡ v
  vp-said c rest list page c_in k v b e = subst (λ (o : Option ℕ). IsAs o (words (place.Word c (40 + k)))) (vp-line s.world (lock_word s.lps s.lp_count) t k b ∙ e)
      (tdcs-shown m words slots s sh t (40 + k) c rest list page alive c_in (omega (arith, b)))

  -- a word of its TDVPR page
  pub vp-shown : (v i : ℕ) → IsPageOf s.world.pages t v kind.Tdvpr → v < m.pages → i < 512 → IsAs (in_lines (vp_lines s.world v) i) (words (place.Word v i))
  vp-shown v i page in_page in_word = rw (page.kind, page.owner, alive) at (sh.word (place.Word v i) (in_page, in_word))

-- what that word is
pub vp-spot : (w : World) (t v i : ℕ) → IsPageOf w.pages t v kind.Tdvpr → spot w (place.Word v i) ≡ record { class = or_unused (in_lines vp_classes i); td = t; page = v; named = no_page }
vp-spot w t v i page = rw (page.kind, page.owner) refl
