-- Where one entry of level 0 changes its state, and none becomes EXPORTED_BLOCKEDW.
use Rattle.std.proofs.Common.{◌≡◌, refl, sym, ◌∙◌, ap, subst, ℕ, ◌≤◌, Bool, true, false, ◌==◌, ◌&&◌}
use Rattle.std.specs.List.{list_any}
use Rattle.std.proofs.lemmas.Bool.{eqb-true, and_parts}
use Rattle.td_words.specs.declared.names.EntryState.{EntryState}
use Rattle.td_words.specs.declared.names.EntryState.TheVariants as entry
use Rattle.td_words.specs.Packing.{Entry, is_exported}
use Rattle.flat_core.specs.World.{World, put}
use Rattle.flat_core.specs.Tree.{same_state}
use Rattle.flat_core.specs.Effects.{put_in}
use Rattle.flat_core.specs.ExportRows.{writable_states, write_blocked, write_blocked_states, write_unblocked}
use Rattle.flat_core.specs.Exports.{is_dirty}
use Rattle.flat_core.specs.Lawful.{IsAlive}
use Rattle.flat_core.proofs.Tests.{by_test, same_self}
use Rattle.mig_laws.proofs.Stays.{PageStays, IsBeside, own, same_page, session_stays, tracks, same_entered, same_counters, goes_same}

-- what such a change keeps
pub record EntryGoes (s r : EntryState) : Type 0 where
  pub exported : is_exported s ≡ true → is_exported r ≡ true
  pub clean : is_dirty r ≡ false → is_exported s ≡ true → is_dirty s ≡ false
  pub other : r ≡ entry.ExportedBlockedW → ⊥

pub blocked_goes : (s : EntryState) → list_any (λ a. same_state a s) writable_states ≡ true → EntryGoes s (write_blocked s)
blocked_goes entry.Mapped h = record { exported = λ e. cc; clean = λ d e. cc; other = λ e. cc }
blocked_goes entry.ExportedDirty h = record { exported = λ e. refl; clean = λ d e. cc; other = λ e. cc }
blocked_goes _ h = cc

pub unblocked_goes : (s : EntryState) → list_any (λ a. same_state a s) write_blocked_states ≡ true → EntryGoes s (write_unblocked s)
unblocked_goes entry.BlockedW h = record { exported = λ e. cc; clean = λ d e. cc; other = λ e. cc }
unblocked_goes entry.ExportedBlockedW h = record { exported = λ e. refl; clean = λ d e. cc; other = λ e. cc }
unblocked_goes entry.ExportedDirtyBlockedW h = record { exported = λ e. refl; clean = λ d e. cc; other = λ e. cc }
unblocked_goes _ h = cc

-- one that wasn't exported
pub fresh_goes : (s r : EntryState) → is_exported s ≡ false → (r ≡ entry.ExportedBlockedW → ⊥) → EntryGoes s r
fresh_goes s r none other = record {
  exported = λ e. absurd (let no : true ≡ false = sym e ∙ none in cc);
  clean = λ d e. absurd (let no : true ≡ false = sym e ∙ none in cc);
  other = other;
}

abbrev pub Place : (x n t i : ℕ) → Bool
Place x n t i = x == t && n == i

module _ (w v : World) (t i : ℕ) (e : Entry) (bundles : v.outgoing.bundles ≡ w.outgoing.bundles) (last : v.key_table.last_exported ≡ w.key_table.last_exported)
    (owns : (x : ℕ) → own v x ≡ own w x) (ops : v.tds.ops ≡ w.tds.ops) (counters : v.streams.counters ≡ w.streams.counters) (entered : v.vps.entered ≡ w.vps.entered)
    (back : (x : ℕ) → IsAlive v.pages v.tds x → IsAlive w.pages w.tds x) (entries : v.tds.entries ≡ put w.tds.entries t (put_in (w.tds.entries t) 0 i e))
    (memories : (x n : ℕ) → Place x n t i ≡ false → v.hidden.memories x n ≡ w.hidden.memories x n)
    (here : is_exported (w.tds.entries t 0 i).state ≡ true → v.hidden.memories t i ≡ w.hidden.memories t i)
    (goes : EntryGoes (w.tds.entries t 0 i).state e.state)
    (lower : (x n : ℕ) → IsAlive w.pages w.tds x → Place x n t i ≡ false → (w.tds.entries x 0 n).state ≡ entry.ExportedBlockedW → v.pages.blocked (w.tds.entries x 0 n).page ≤ w.pages.blocked (w.tds.entries x 0 n).page) where
  at : (x n : ℕ) → v.tds.entries x 0 n ≡ put w.tds.entries t (put_in (w.tds.entries t) 0 i e) x 0 n
  at x n = ap (λ (f : ℕ → ℕ → ℕ → Entry). f x 0 n) entries

  elsewhere : (x n : ℕ) → Place x n t i ≡ false → v.tds.entries x 0 n ≡ w.tds.entries x 0 n
  elsewhere x n off = at x n ∙ by_test (x == t)
      (λ y. let z : (n == i) ≡ false = rw y at off in rw (y, z) (ap (λ (k : ℕ). w.tds.entries k 0 n) (sym (eqb-true x t y))))
      (λ y. rw y refl)

  changed : PageStays w v t i
  changed =
      let new : v.tds.entries t 0 i ≡ e = at t i ∙ rw (same_self t, same_self i) refl in
      record {
        exported = λ k. ap (λ (z : Entry). is_exported z.state) new ∙ goes.exported k;
        clean = λ d k. (goes.clean (ap (λ (z : Entry). is_dirty z.state) (sym new) ∙ d) k, here k);
        tracked = λ s. absurd (goes.other (ap (λ (z : Entry). z.state) (sym new) ∙ s));
      }

  pub restated : IsBeside w v
  restated = record {
    bundles = bundles;
    last = last;
    each = λ x a. (let g = goes_same w v ops x a.standing in
        let living = back x a.alive in
        record {
          session = session_stays w v x (record { alive = living; standing = g.0 }) g.1 (owns x) (same_counters w v x counters);
          page = λ n. by_test (Place x n t i)
              (λ y. (let both = and_parts (x == t) (n == i) y in
              subst (λ (z : ℕ). PageStays w v z n) (sym (eqb-true x t both.0)) (subst (λ (z : ℕ). PageStays w v t z) (sym (eqb-true n i both.1)) changed)))
              (λ y. same_page w v x n (elsewhere x n y) (memories x n y) (λ s. tracks w v x (w.tds.entries x 0 n).page (owns x) (lower x n living y s) (same_entered w v x entered)));
        });
  }
