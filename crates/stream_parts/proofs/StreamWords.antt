-- The list of a TD's streams in TDCS, and the words of their pages.
use Rattle.std.proofs.Common.{◌≡◌, ℕ, zero, suc, ◌+◌, ◌<◌, ◌≤◌, Bool, true, false, ◌==◌, nat_lt, List, ◌∷◌, length, slice_get, Option, Some, refl, sym, ◌∙◌, subst, arith}
use Rattle.std.specs.List.{list_any}
use Rattle.std.proofs.lemmas.Bool.Decides.{nat_tests}
use Rattle.std.proofs.lemmas.Option.{slice_get-get_or}
use Rattle.td_words.specs.declared.names.PageKind.TheVariants as kind
use Rattle.td_words.specs.declared.names.LifeState.TheVariants as life
use Rattle.td_words.specs.declared.names.OpState.{OpState}
use Rattle.td_words.specs.declared.names.OpState.TheVariants as op
use Rattle.td_words.specs.declared.machines.Machine.{Machine}
use Rattle.td_words.specs.NameNumber.{life_number, op_number}
use Rattle.td_words.specs.Place.{WordPlace}
use Rattle.td_words.specs.Place as place
use Rattle.flat_core.specs.World.{World}
use Rattle.flat_core.specs.Processor.{LockId}
use Rattle.flat_core.specs.Lawful.{Lawful, IsAlive, IsPageOf, is_exporting}
use Rattle.flat_core.specs.ExportRows.{abortable_ops}
use Rattle.flat_core.specs.Sessions.{stream_page}
use Rattle.flat_core.specs.Event.{State}
use Rattle.flat_core.proofs.Parts.{page_at}
use Rattle.flat_core.proofs.Tests.{by_test}
use Rattle.word_rules.specs.Lines.{in_lines}
use Rattle.word_rules.specs.Rules.{TdcsWord}
use Rattle.word_rules.specs.Spots.{spot, or_unused, tdcs_classes, stream_classes}
use Rattle.word_rules.specs.Cells.{Shows, IsAs, lock_word, td_lock_lines, tdcs_lines, stream_lines}
use Rattle.leaf_parts.proofs.Checks.{spot_of}
use Rattle.leaf_parts.proofs.Told.{tdcs-shown}
use Rattle.stream_parts.specs.Streams.{streams_told}

-- the lines of TDCS that name streams
pub stream-line : (w : World) (locks : LockId → ℕ) (t k : ℕ) → k < 4 → in_lines (td_lock_lines locks t (tdcs_lines w t)) (49 + k) ≡ slice_get (w.tds.streams t) k
stream-line w locks t zero b = refl
stream-line w locks t (suc zero) b = refl
stream-line w locks t (suc (suc zero)) b = refl
stream-line w locks t (suc (suc (suc zero))) b = refl
stream-line w locks t (suc (suc (suc (suc k)))) b = absurd (omega (arith, b))

pub stream-class : (current empty : ℕ → Bool) (k : ℕ) → k < 4 → or_unused (in_lines (tdcs_classes current empty) (49 + k)) ≡ TdcsWord
stream-class current empty zero b = refl
stream-class current empty (suc zero) b = refl
stream-class current empty (suc (suc zero)) b = refl
stream-class current empty (suc (suc (suc zero))) b = refl
stream-class current empty (suc (suc (suc (suc k)))) b = absurd (omega (arith, b))

-- what a word of a stream page is
pub stream-spot : (w : World) (t p i : ℕ) → IsPageOf w.pages t p kind.Migsc → spot w (place.Word p i) ≡ spot_of (or_unused (in_lines stream_classes i)) t p
stream-spot w t p i page = rw (page.kind, page.owner) refl

-- their number, read back
pub streams-back : (n : ℕ) → n ≤ 4 → streams_told n ≡ n
streams-back n few = by_test (nat_lt n 4) (λ e. rw e refl) (λ e. (let all : n ≡ 4 = grind (arith, nat_tests) in rw e (sym all)))

-- the page of a stream that there is
pub listed : (w : World) (t k : ℕ) → k < length (w.tds.streams t) → slice_get (w.tds.streams t) k ≡ Some (stream_page w t k)
listed w t k small = slice_get-get_or (w.tds.streams t) k 0 small

pub page-of : (m : Machine) (w : World) (t k : ℕ) → Lawful m w → IsAlive w.pages w.tds t → k < length (w.tds.streams t) → IsPageOf w.pages t (stream_page w t k) kind.Migsc
page-of m w t k la alive small = page_at w.pages t kind.Migsc (w.tds.streams t) k (stream_page w t k) (la.tds.streams t alive) (listed w t k small)

-- a TD whose export can be aborted is being exported
pub abortable : (s : OpState) → list_any (λ a. op_number a == op_number s) abortable_ops ≡ true → is_exporting s ≡ true
abortable op.LiveExport h = refl
abortable op.PausedExport h = refl
abortable _ h = cc

module _ (m : Machine) (words : WordPlace → ℕ) (slots : ℕ → Option (List ℕ)) (s : State) (sh : Shows m words slots s) (t : ℕ) (alive : (life_number (s.world.tds.lives t) == life_number life.Teardown) ≡ false) where
  -- the page of the stream of that number
  pub stream-said : (c : ℕ) (rest : List ℕ) → s.world.tds.controls t ≡ c ∷ rest → IsPageOf s.world.pages t c kind.Tdcx → c < m.pages → (k p : ℕ) → k < 4 → slice_get (s.world.tds.streams t) k ≡ Some p → words (place.Word c (49 + k)) ≡ p
  stream-said c rest list page c_in k p b e = subst (λ (o : Option ℕ). IsAs o (words (place.Word c (49 + k)))) (stream-line s.world (lock_word s.lps s.lp_count) t k b ∙ e)
      (tdcs-shown m words slots s sh t (49 + k) c rest list page alive c_in (omega (arith, b)))

  -- a word of its page
  pub stream-shown : (p i : ℕ) → IsPageOf s.world.pages t p kind.Migsc → p < m.pages → i < 512 → IsAs (in_lines (stream_lines s.world p) i) (words (place.Word p i))
  stream-shown p i page in_page in_word = rw (page.kind, page.owner, alive) at (sh.word (place.Word p i) (in_page, in_word))
