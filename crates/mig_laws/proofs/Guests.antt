-- Guests leave the TDs that are exported as this crate asks: no store reaches a page that was sent and isn't dirty.
use Rattle.std.proofs.Common.{◌≡◌, refl, sym, ◌∙◌, ap, subst, ℕ, suc, List, [], ◌∷◌, Option, Some, true, false, ◌==◌, ◌&&◌, arith}
use Rattle.std.specs.Prelude.{Contains}
use Rattle.std.specs.List.{list_any}
use Rattle.std.proofs.lemmas.Bool.{eqb-true, and_parts}
use Rattle.td_words.specs.declared.names.Access.{Access}
use Rattle.td_words.specs.declared.names.Access.TheVariants.{Read, Write}
use Rattle.td_words.specs.declared.names.OpState.{OpState}
use Rattle.td_words.specs.declared.names.OpState.TheVariants as op
use Rattle.td_words.specs.declared.names.EntryState.{EntryState}
use Rattle.td_words.specs.declared.names.EntryState.TheVariants as entry
use Rattle.td_words.specs.declared.calls.GuestOp.{GuestOp}
use Rattle.td_words.specs.NameNumber.{op_number}
use Rattle.td_words.specs.Packing.{is_exported}
use Rattle.flat_core.specs.World.{World, Pages, Tds, Made}
use Rattle.flat_core.specs.Processor.{Guest, Translation}
use Rattle.flat_core.specs.Opening.{Opening}
use Rattle.flat_core.specs.Row.{OperationRow}
use Rattle.flat_core.specs.Conditions.{running_ops}
use Rattle.flat_core.specs.Tree.{page_of_gpa, number_at, entry_at}
use Rattle.flat_core.specs.Tracking.{is_tracked}
use Rattle.flat_core.specs.Effects.{pass_operation, tell_words, leave_guest}
use Rattle.flat_core.specs.Translations.{is_of_page, allows_access, look_up}
use Rattle.flat_core.specs.Guest.{ByRow, operation_of, is_pending_at, accept_page, reach}
use Rattle.flat_core.specs.Exports.{is_dirty}
use Rattle.flat_core.specs.Lawful.{is_exporting}
use Rattle.flat_core.specs.Event.{State}
use Rattle.flat_core.specs.Guests.{IsOccupied}
use Rattle.flat_core.specs.Access.{inside}
use Rattle.flat_core.specs.AccessLaw.{IsGuarded}
use Rattle.flat_core.proofs.Tests.{by_test}
use Rattle.flat_core.proofs.Operations.{operation_row, accepted}
use Rattle.flat_core.proofs.Kept.{is_pending}
use Rattle.flat_core.proofs.Always.{occ-of}
use Rattle.flat_laws.specs.Usable.{MayUse}
use Rattle.flat_laws.specs.Unreached.{is_unchanged}
use Rattle.flat_laws.proofs.Unreached.{closed-in-guarded}
use Rattle.mig_laws.specs.Ivs.{IsExporting}
use Rattle.mig_laws.specs.Source.{AreSentTracked}
use Rattle.mig_laws.proofs.Stays.{PageStays, IsBeside, same_page, session_stays, all_stays, left_now, unmoved}
use Rattle.mig_laws.proofs.Entries.{Place, fresh_goes, restated}
use Rattle.mig_laws.proofs.CallChanges.{le_same}

-- an operation of a guest, and its count step

-- where pages, TDs, bundles, counters, memories and who is in guest are as they were
record Same : Type 0 where
  pages : Pages
  tds : Tds
  bundles : List Made
  last : ℕ
  counters : ℕ → ℕ
  memories : ℕ → ℕ → Option (ℕ → ℕ)
  entered : ℕ → Option ℕ

abbrev same_of : World → Same
same_of v = record { pages = v.pages; tds = v.tds; bundles = v.outgoing.bundles; last = v.key_table.last_exported; counters = v.streams.counters; memories = v.hidden.memories; entered = v.vps.entered }

untouched : (w v : World) → same_of v ≡ same_of w → IsBeside w v
untouched w v same = unmoved w v
    (λ j. record {
      bundles = (same j).bundles;
      last = (same j).last;
      owns = λ x. record { session = (same j).tds.sessions x; streams = (same j).tds.streams x; epoch = (same j).tds.epochs x; vps = (same j).tds.vps x };
      counters = (same j).counters;
      memories = (same j).memories;
      entered = (same j).entered;
    })
    (ap (λ (z : Same). z.tds.ops) same) (λ x n. ap (λ (z : Same). z.tds.entries x 0 n) same) (ap (λ (z : Same). z.pages) same)
    (ap (λ (z : Same). z.tds.lives) same)

-- a page that is accepted was pending, and so wasn't exported
accept_beside : (t v gpa : ℕ) (w : World) → (entry_at w t 0 gpa).state ≡ entry.Pending → IsBeside w (tell_words [] (pass_operation v (accept_page true t gpa w)))
accept_beside t v gpa w pending =
    let unmarked : is_exported (entry_at w t 0 gpa).state ≡ false = ap is_exported pending in
    restated w (tell_words [] (pass_operation v (accept_page true t gpa w))) t (number_at 0 gpa) (record { state = entry.Mapped; page = (entry_at w t 0 gpa).page; mark = 0 }) refl refl (λ x. refl) refl refl refl
    (λ x a. record { kind = a.kind; life = a.life }) refl (λ x n off. rw off refl) (λ k. absurd (let no : true ≡ false = sym k ∙ unmarked in cc)) (fresh_goes _ entry.Mapped unmarked (λ e. cc)) (λ x n a off s. le_same _)

pub operation_beside : (o : Opening) (t v line : ℕ) (op : GuestOp) (row : OperationRow) (w : World) → operation_of o t v line op ≡ ByRow row → IsBeside w (tell_words (row.tells w) (row.act w))
operation_beside o t v line op row w is = operation_row o t v line (λ x. IsBeside w (tell_words (x.tells w) (x.act w)))
    (λ r x. untouched w _ refl)
    (λ r s. untouched w _ refl)
    (λ r gpa. untouched w _ refl)
    (λ r gpa. untouched w _ refl)
    (λ gpa. accepted (λ x. IsBeside w (tell_words [] (pass_operation v x))) (is_pending_at w t gpa) t gpa w
    (λ y. accept_beside t v gpa w (is_pending (entry_at w t 0 gpa).state y))
    (λ y. untouched w _ refl))
    (λ i. untouched w _ refl)
    (untouched w _ refl)
    (λ r. untouched w _ refl) op row is

pub left_beside : (v : ℕ) (w : World) → IsBeside w (leave_guest v w)
left_beside v w = record {
  bundles = refl;
  last = refl;
  each = λ x a. all_stays w (leave_guest v w) x
      (session_stays w (leave_guest v w) x (record { alive = record { kind = a.alive.kind; life = a.alive.life }; standing = a.standing }) (λ e. e) refl (λ k m. le_same _))
      refl (λ b m k. left_now w.vps.entered b v (w.tds.vps x) k) (λ n s. le_same _) (λ n. refl) (λ n. refl);
}

-- a store: an exported page that isn't dirty isn't reached
module _ (t v r gpa page : ℕ) (w : World) (never : IsExporting w t → is_exported (w.tds.entries t 0 (page_of_gpa gpa)).state ≡ true → is_dirty (w.tds.entries t 0 (page_of_gpa gpa)).state ≡ false → ⊥) where
  abbrev g : ℕ
  g = page_of_gpa gpa

  abbrev after : World
  after = reach t v Write r gpa page w

  own_page : IsExporting w t → PageStays w after t g
  own_page a = record { exported = λ k. k; clean = λ d k. absurd (never a k d); tracked = λ s. (s, λ k. k) }

  stored_beside : IsBeside w after
  stored_beside = record {
    bundles = refl;
    last = refl;
    each = λ x a. (let was : IsExporting w x = record { alive = record { kind = a.alive.kind; life = a.alive.life }; standing = a.standing } in
        record {
          session = session_stays w after x was (λ e. e) refl (λ k m. le_same _);
          page = λ n. by_test (Place x n t g)
              (λ y. (let both = and_parts (x == t) (n == g) y in
              subst (λ (z : ℕ). PageStays w after z n) (sym (eqb-true x t both.0)) (subst (λ (z : ℕ). PageStays w after t z) (sym (eqb-true n g both.1)) (own_page (subst (λ (z : ℕ). IsExporting w z) (eqb-true x t both.0) was)))))
              (λ y. same_page w after x n refl (rw y refl) (λ s k. k));
        });
  }

pub reached_beside : (t v : ℕ) (access : Access) (r gpa page : ℕ) (w : World) → (access ≡ Write → IsExporting w t → is_exported (w.tds.entries t 0 (page_of_gpa gpa)).state ≡ true → is_dirty (w.tds.entries t 0 (page_of_gpa gpa)).state ≡ false → ⊥)
    → IsBeside w (reach t v access r gpa page w)
reached_beside t v Read r gpa page w never = unmoved w (reach t v Read r gpa page w) refl refl (λ x n. refl) refl refl
reached_beside t v Write r gpa page w never = stored_beside t v r gpa page w (never refl)

-- one that a store is allowed through may write
found_writes : (cs : List Translation) (t n page : ℕ) → look_up cs t n Write ≡ Some page → (c : Translation) × Contains cs c × (c.tdr ≡ t) × (c.gpa_page ≡ n) × (c.may_write ≡ true)
found_writes [] t n page e = cc
found_writes (c ∷ cs) t n page e = by_test (is_of_page t n c && allows_access Write c)
    (λ y. let a = and_parts (is_of_page t n c) (allows_access Write c) y in let b = and_parts (c.tdr == t) (c.gpa_page == n) a.0 in
    (c, (0, omega arith, refl), eqb-true _ t b.0, eqb-true _ n b.1, a.1))
    (λ y. let r = found_writes cs t n page (rw y at e) in let i = r.1 in let low = i.1 in (r.0, (suc i.0, omega (arith, low), i.2), r.2, r.3, r.4))

clean_sent : (s : EntryState) → is_exported s ≡ true → is_dirty s ≡ false → s ≡ entry.ExportedBlockedW
clean_sent entry.ExportedBlockedW e d = refl
clean_sent entry.ExportedDirty e d = cc
clean_sent entry.ExportedDirtyBlockedW e d = cc
clean_sent _ e d = cc

runs_live : (s : OpState) → list_any (λ a. op_number a == op_number s) running_ops ≡ true → is_exporting s ≡ true → s ≡ op.LiveExport
runs_live op.LiveExport r e = refl
runs_live op.PausedExport r e = cc
runs_live op.PostExport r e = cc
runs_live _ r e = cc

pub unchanged_sent : (w : World) (t n : ℕ) → w.tds.ops t ≡ op.LiveExport → (w.tds.entries t 0 n).state ≡ entry.ExportedBlockedW → is_tracked w t (w.tds.entries t 0 n).page ≡ true → is_unchanged w t n ≡ true
unchanged_sent w t n live s over = rw (s, over, live) refl

module _ (o : Opening) (s : State) (p : ℕ) (all : IsGuarded o s) (tracked : AreSentTracked s.world) where
  abbrev w : World
  w = s.world

  -- no store reaches a page that was sent and isn't dirty
  pub never_stored : (g : Guest) (gpa page : ℕ) → (s.lps p).guest ≡ Some g → look_up (s.lps p).cached g.tdr (page_of_gpa gpa) Write ≡ Some page → IsExporting w g.tdr
      → is_exported (w.tds.entries g.tdr 0 (page_of_gpa gpa)).state ≡ true → is_dirty (w.tds.entries g.tdr 0 (page_of_gpa gpa)).state ≡ false → ⊥
  never_stored g gpa page is found exporting e d =
      let occupied : IsOccupied w p g.tdr g.vp = occ-of o s all.timely p g is in
      let n : ℕ = page_of_gpa gpa in
      let state = clean_sent (w.tds.entries g.tdr 0 n).state e d in
      let live = runs_live (w.tds.ops g.tdr) occupied.running exporting.standing in
      let shut = (closed-in-guarded o s all).unchanged p g.tdr n exporting.alive (unchanged_sent w g.tdr n live state (tracked g.tdr n exporting.alive live state)) in
      let c = found_writes (s.lps p).cached g.tdr n page found in
      let may : MayUse s p c.0 = record { cached = c.1; epoch = occupied.epoch; usable = inside g is (sym c.2) occupied.entered } in
      shut.gpa_page c.0 may (λ must. c.4) c.2 c.3
