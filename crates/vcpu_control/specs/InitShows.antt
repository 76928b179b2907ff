-- The words that VP.INIT leaves show its act.
use Rattle.std.proofs.Common.{◌≡◌, ℕ, ◌-◌, ◌<◌, true, false, ◌==◌, Option, refl, sym, subst, arith}
use Rattle.std.specs.Prelude.{nat_le}
use Rattle.std.proofs.lemmas.Bool.{eq-eqb, eqb-true}
use Rattle.std.proofs.lemmas.Bool.Decides.{nat_tests}
use Rattle.td_words.specs.declared.names.PageKind.TheVariants as kind
use Rattle.td_words.specs.declared.names.VcpuState.TheVariants as vcpu
use Rattle.td_words.specs.declared.machines.Machine.{Machine}
use Rattle.td_words.specs.Place as place
use Rattle.flat_core.specs.World.{World}
use Rattle.flat_core.specs.Effects.{set_vp_state, set_register}
use Rattle.flat_core.specs.Lawful.{IsAlive, IsPageOf}
use Rattle.flat_core.specs.Event.{State}
use Rattle.flat_core.proofs.Tests.{by_test}
use Rattle.word_rules.specs.Lines.{in_lines}
use Rattle.word_rules.specs.Cells.{Shows, IsAs, vp_lines}
use Rattle.leaf_engine.specs.Changes.{Memory, changed_all}
use Rattle.leaf_parts.proofs.Aside.{aside, back, kept-but, control-kept}
use Rattle.leaf_parts.proofs.Vps.{vp-shown}
use Rattle.vcpu_control.specs.VpTrees.{init_changes}

module _ (m : Machine) (s : State) (mem : Memory) (t v x : ℕ) (sh : Shows m mem.words mem.slots s) (alive : IsAlive s.world.pages s.world.tds t) (its : IsPageOf s.world.pages t v kind.Tdvpr) (in_page : v < m.pages) where
  abbrev after : Memory
  after = changed_all (init_changes v x) mem

  abbrev w' : World
  w' = set_register v 0 x (set_vp_state v vcpu.Ready s.world)

  itself : (v == v) ≡ true
  itself = eq-eqb v v refl

  other-line : (i : ℕ) → (i == 8) ≡ false → (i == 1) ≡ false → in_lines (vp_lines w' v) i ≡ in_lines (vp_lines s.world v) i
  other-line i eight one = by_test (nat_le 8 i)
      (λ y. (let o : (i - 8 == 0) ≡ false = grind (arith, nat_tests) in rw (itself, one, y, o) refl))
      (λ y. rw (itself, one, y) refl)

  vp-word : (i : ℕ) → i < 512 → IsAs (in_lines (vp_lines w' v) i) (after.words (place.Word v i))
  vp-word i b = by_test (i == 8)
      (λ e. rw (e, eqb-true i 8 e, itself) refl)
      (λ eight. by_test (i == 1)
      (λ e. rw (e, eqb-true i 1 e, itself) refl)
      (λ one. (let same : mem.words (place.Word v i) ≡ after.words (place.Word v i) = rw (itself, eight, one) refl in
      subst (λ (x : ℕ). IsAs (in_lines (vp_lines w' v) i) x) same (subst (λ (o : Option ℕ). IsAs o (mem.words (place.Word v i))) (sym (other-line i eight one)) (vp-shown m mem.words mem.slots s sh t alive.life v i its in_page b)))))

  pub initialized : Shows m after.words after.slots (record s { world = w' })
  initialized = record {
    word = back (kept-but w' (aside v m mem.words s sh.word) (record {
      kinds = refl;
      owners = refl;
      blocked = refl;
      key_table = refl;
      page = λ q o n. record {
        words = λ i. refl;
        tdr = λ is i. refl;
        owned = λ h. record { stands = λ z. z; level = refl; number = refl; entries = λ l e. refl; vp = λ i. rw o refl; stream = λ i. refl; control = λ is z. control-kept refl (λ l e. refl) (λ f i. refl) };
      };
    })) after.words (λ r. refl) (λ r. refl) (λ k. refl) (λ r i o. rw o refl) (λ i b. rw (its.kind, its.owner, alive.life) (vp-word i b));
    hasher = sh.hasher;
  }
