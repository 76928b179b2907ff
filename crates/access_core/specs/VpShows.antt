-- Words of a virtual processor's page that an operation of its guest stores show its act.
use Rattle.std.proofs.Common.{◌≡◌, ℕ, zero, suc, ◌+◌, ◌-◌, ◌%◌, ◌^◌, ◌<◌, true, false, ◌==◌, List, Option, Some, refl, ap, sym, ◌∙◌, subst, arith}
use Rattle.std.specs.Prelude.{nat_le}
use Rattle.std.proofs.lemmas.Bool.{eq-eqb, eqb-true}
use Rattle.std.proofs.lemmas.Bool.Decides.{nat_tests}
use Rattle.td_words.specs.declared.names.PageKind.TheVariants as kind
use Rattle.td_words.specs.declared.names.LifeState.TheVariants as life
use Rattle.td_words.specs.declared.machines.Machine.{Machine}
use Rattle.td_words.specs.NameNumber.{life_number}
use Rattle.td_words.specs.Place.{WordPlace}
use Rattle.td_words.specs.Place as place
use Rattle.flat_core.specs.World.{World}
use Rattle.flat_core.specs.Effects.{pass_operation, set_register}
use Rattle.flat_core.specs.Lawful.{IsPageOf}
use Rattle.flat_core.specs.Event.{State}
use Rattle.flat_core.proofs.Tests.{by_test}
use Rattle.word_rules.specs.Lines.{in_lines}
use Rattle.word_rules.specs.Rules.{VcpuWord}
use Rattle.word_rules.specs.Spots.{or_unused, vp_classes}
use Rattle.word_rules.specs.Cells.{Shows, IsAs, vp_lines}
use Rattle.lock_words.specs.LockWords.{put_word}
use Rattle.leaf_engine.specs.Means.{IsAtOperation}
use Rattle.leaf_parts.proofs.Aside.{aside, back, kept-but, control-kept}
use Rattle.leaf_parts.proofs.Vps.{vp-shown}

-- the line of a register, and what its word is
pub register-line : (w : World) (v r : ℕ) → r < 8 → in_lines (vp_lines w v) (8 + r) ≡ Some (w.hidden.registers v r)
register-line w v zero b = refl
register-line w v (suc zero) b = refl
register-line w v (suc (suc zero)) b = refl
register-line w v (suc (suc (suc zero))) b = refl
register-line w v (suc (suc (suc (suc zero)))) b = refl
register-line w v (suc (suc (suc (suc (suc zero))))) b = refl
register-line w v (suc (suc (suc (suc (suc (suc zero)))))) b = refl
register-line w v (suc (suc (suc (suc (suc (suc (suc zero))))))) b = refl
register-line w v (suc (suc (suc (suc (suc (suc (suc (suc k)))))))) b = absurd (omega (arith, b))

pub register-class : (r : ℕ) → r < 8 → or_unused (in_lines vp_classes (8 + r)) ≡ VcpuWord
register-class zero b = refl
register-class (suc zero) b = refl
register-class (suc (suc zero)) b = refl
register-class (suc (suc (suc zero))) b = refl
register-class (suc (suc (suc (suc zero)))) b = refl
register-class (suc (suc (suc (suc (suc zero))))) b = refl
register-class (suc (suc (suc (suc (suc (suc zero)))))) b = refl
register-class (suc (suc (suc (suc (suc (suc (suc zero))))))) b = refl
register-class (suc (suc (suc (suc (suc (suc (suc (suc k)))))))) b = absurd (omega (arith, b))

module _ (m : Machine) (words : WordPlace → ℕ) (slots : ℕ → Option (List ℕ)) (s : State) (sh : Shows m words slots s) (t v : ℕ) (stands : (life_number (s.world.tds.lives t) == life_number life.Teardown) ≡ false) (its : IsPageOf s.world.pages t v kind.Tdvpr)
    (in_page : v < m.pages) where
  itself : (v == v) ≡ true
  itself = eq-eqb v v refl

  -- a word of the page that stays, and whose line does
  stays : (i x : ℕ) (o : Option ℕ) → i < 512 → o ≡ in_lines (vp_lines s.world v) i → words (place.Word v i) ≡ x → IsAs o x
  stays i x o b line same =
      subst (λ (y : ℕ). IsAs o y) same (subst (λ (z : Option ℕ). IsAs z (words (place.Word v i))) (sym line) (vp-shown m words slots s sh t stands v i its in_page b))

  -- the position behind an operation
  abbrev passed : World
  passed = pass_operation v s.world

  abbrev words_passed : WordPlace → ℕ
  words_passed = put_word words (place.Word v 4) ((s.world.vps.positions v + 1) % 2 ^ 64)

  module _ (few : IsAtOperation s.world v) where
    counts : (s.world.vps.positions v + 1) % 2 ^ 64 ≡ s.world.vps.positions v + 1
    counts = omega (arith, few)

    passed-line : (i : ℕ) → (i == 4) ≡ false → in_lines (vp_lines passed v) i ≡ in_lines (vp_lines s.world v) i
    passed-line i n = rw n refl

    passed-word : (i : ℕ) → i < 512 → IsAs (in_lines (vp_lines passed v) i) (words_passed (place.Word v i))
    passed-word i b = by_test (i == 4)
        (λ e. rw (e, eqb-true i 4 e, itself) counts)
        (λ n. stays i (words_passed (place.Word v i)) (in_lines (vp_lines passed v) i) b (passed-line i n) (rw (itself, n) refl))

    pub passed-shown : Shows m words_passed slots (record s { world = passed })
    passed-shown = record {
      word = back (kept-but passed (aside v m words s sh.word) (record {
        kinds = refl;
        owners = refl;
        blocked = refl;
        key_table = refl;
        page = λ q o n. record {
          words = λ i. refl;
          tdr = λ is i. refl;
          owned = λ h. record { stands = λ z. z; level = refl; number = refl; entries = λ l e. refl; vp = λ i. rw o refl; stream = λ i. refl; control = λ is z. control-kept refl (λ l e. refl) (λ f i. refl) };
        };
      })) words_passed (λ r. refl) (λ r. refl) (λ k. refl) (λ r i o. rw o refl) (λ i b. rw (its.kind, its.owner, stands) (passed-word i b));
      hasher = sh.hasher;
    }

  -- a register
  module _ (r x : ℕ) (few : r < 8) where
    abbrev registered : World
    registered = set_register v r x s.world

    abbrev words_registered : WordPlace → ℕ
    words_registered = put_word words (place.Word v (8 + r)) x

    registered-line : (i : ℕ) → (i == 8 + r) ≡ false → in_lines (vp_lines registered v) i ≡ in_lines (vp_lines s.world v) i
    registered-line i n = by_test (nat_le 8 i)
        (λ y. (let o : (i - 8 == r) ≡ false = grind (arith, nat_tests) in rw (itself, o) refl))
        (λ y. rw y refl)

    registered-value : in_lines (vp_lines registered v) (8 + r) ≡ Some x
    registered-value = register-line registered v r few ∙ ap Some (rw (itself, eq-eqb r r refl) refl)

    registered-word : (i : ℕ) → i < 512 → IsAs (in_lines (vp_lines registered v) i) (words_registered (place.Word v i))
    registered-word i b = by_test (i == 8 + r)
        (λ e. subst (λ (o : Option ℕ). IsAs o (words_registered (place.Word v i))) (sym (ap (in_lines (vp_lines registered v)) (eqb-true i (8 + r) e) ∙ registered-value)) (rw (itself, e) refl))
        (λ n. stays i (words_registered (place.Word v i)) (in_lines (vp_lines registered v) i) b (registered-line i n) (rw (itself, n) refl))

    pub registered-shown : Shows m words_registered slots (record s { world = registered })
    registered-shown = record {
      word = back (kept-but registered (aside v m words s sh.word) (record {
        kinds = refl;
        owners = refl;
        blocked = refl;
        key_table = refl;
        page = λ q o n. record {
          words = λ i. refl;
          tdr = λ is i. refl;
          owned = λ h. record { stands = λ z. z; level = refl; number = refl; entries = λ l e. refl; vp = λ i. rw o refl; stream = λ i. refl; control = λ is z. control-kept refl (λ l e. refl) (λ f i. refl) };
        };
      })) words_registered (λ q. refl) (λ q. refl) (λ k. refl) (λ q i o. rw o refl) (λ i b. rw (its.kind, its.owner, stands) (registered-word i b));
      hasher = sh.hasher;
    }
