-- What the conditions of a row say that have passed, by name: a record for what many rows ask, and for what stands behind a walk.
-- `search` finds a record's fields, or one condition, among those of the row, wherever they stand there; so a condition that is
-- added to a row shifts no proof.
use Rattle.std.proofs.Common.{◌≡◌, refl, subst, ℕ, suc, ◌-◌, ◌/◌, ◌^◌, ◌<◌, List, [], ◌∷◌, ◌++◌, length, true, false, not, ◌==◌, nat_lt, arith}
use Rattle.std.specs.Prelude.{Option, flat_map}
use Rattle.std.specs.List.{list_any}
use Rattle.std.proofs.lemmas.Bool.{eqb-true, and_parts, ltb-true}
use Rattle.td_words.specs.declared.names.PageKind.{PageKind}
use Rattle.td_words.specs.declared.names.PageKind.TheVariants as kind
use Rattle.td_words.specs.declared.names.LifeState.TheVariants as life
use Rattle.td_words.specs.declared.names.OpState.{OpState}
use Rattle.td_words.specs.declared.names.OpState.TheVariants as op
use Rattle.td_words.specs.declared.names.EntryState.TheVariants as entry
use Rattle.td_words.specs.declared.machines.Machine.{Machine}
use Rattle.td_words.specs.declared.replies.Reply.{Reply}
use Rattle.td_words.specs.NameNumber.{life_number, op_number}
use Rattle.flat_core.specs.World.{World}
use Rattle.flat_core.specs.Row.{Item, Passes}
use Rattle.flat_core.specs.Conditions.{same_kind, is_host, is_page_of, host_page, page_exclusive, growing_ops, augmented_ops}
use Rattle.flat_core.specs.Tracking.{tracked_page, is_tracked}
use Rattle.flat_core.specs.Tree.{number_at, entry_at, same_state, is_passed, state_in, empty_below}
use Rattle.flat_core.specs.MemRows.{open_states, blocked_states, removed_states, block_range, unblock_range, remove_page, another_page, relocate_page, remove_sept, add_sept, add_page, augment_page}
use Rattle.flat_core.specs.Arguments.{aligned_argument}
use Rattle.flat_core.specs.ExportRows.{abortable_ops}
use Rattle.flat_core.specs.Sessions.{stream_page, stream_counter, counter_room}
use Rattle.flat_core.specs.PageLists.{page_count, count_argument, gpas_argument, gpas_from}
use Rattle.flat_core.specs.BundleRows.{page_to_export, tracked_in, export_conditions, export_pages}
use Rattle.flat_core.specs.Lawful.{IsAlive, IsPageOf, is_free}
use Rattle.flat_core.proofs.Tests.{tdr_kind, range_of}
use Rattle.flat_core.proofs.Maps.{not_free, walk_passed}
use Rattle.flat_core.proofs.PageLists.{passes_first, passes_behind, AllMayExport, all_may_export}
use Rattle.flat_core.proofs.Ranges.{NamedPassed, named_passed, living}

-- the beginning of the rows of a TD's calls: its TDR page, its life, its two TDCX pages and its operation state
pub record TdPassed (w : World) (t : ℕ) (ops : List OpState) : Type 0 where
  pub root : same_kind (w.pages.kinds t) kind.Tdr ≡ true
  pub life : list_any (λ b. life_number b == life_number (w.tds.lives t)) (life.KeysConfigured ∷ []) ≡ true
  pub built : (length (w.tds.controls t) == 2) ≡ true
  pub op : list_any (λ b. op_number b == op_number (w.tds.ops t)) ops ≡ true

pub td_alive : {w : World} {t : ℕ} {ops : List OpState} → TdPassed w t ops → IsAlive w.pages w.tds t
td_alive {w = w} {t = t} p = record { kind = tdr_kind _ p.root; life = living (w.tds.lives t) p.life }

-- a virtual processor's page is one, of its TD
vp_kind : (k : PageKind) → same_kind k kind.Tdvpr ≡ true → k ≡ kind.Tdvpr
vp_kind kind.Tdvpr h = refl
vp_kind _ h = cc

pub vp_of : (w : World) (t v : ℕ) → is_page_of w t v kind.Tdvpr ≡ true → IsPageOf w.pages t v kind.Tdvpr
vp_of w t v h =
    let its = and_parts (same_kind (w.pages.kinds v) kind.Tdvpr) (w.pages.owners v == t) h in
    record { kind = vp_kind _ its.0; owner = eqb-true _ t its.1 }

-- a walk to level 0 passed over an entry that isn't FREE
pub lowest_above : (w : World) (t gpa : ℕ) → is_passed w t gpa 1 ≡ true → 0 < 3 → is_free (w.tds.entries t 1 (number_at 0 gpa / 512)).state ≡ false
lowest_above w t gpa h few = subst (λ (i : ℕ). is_free (w.tds.entries t 1 i).state ≡ false) (omega arith) (not_free (w.tds.entries t 1 (number_at 1 gpa)).state h)

-- rows by which a host page becomes the one that a FREE entry names
pub record MapPassed (m : Machine) (w : World) (t gpa level p : ℕ) (ops : List OpState) : Type 0 where
  pub td : TdPassed w t ops
  pub gpa_fits : nat_lt gpa (2 ^ 47) ≡ true
  pub page_fits : nat_lt p m.pages ≡ true
  pub free : list_any (λ s. same_state s (entry_at w t level gpa).state) (entry.Free ∷ []) ≡ true
  pub host : is_host w p ≡ true
  pub above : level < 3 → is_free (w.tds.entries t (suc level) (number_at level gpa / 512)).state ≡ false

pub sept_passed : (m : Machine) (w : World) (t gpa level p : ℕ) → Passes ((add_sept m t gpa level p).items w) → MapPassed m w t gpa level p growing_ops
sept_passed m w t gpa level p ps =
    let behind = walk_passed w t gpa (state_in w t gpa level (entry.Free ∷ []) ∷ page_exclusive p ∷ host_page w p ∷ []) level (range_of level 3 (search)).1 (search) in
    record { td = search; gpa_fits = search; page_fits = search; free = behind.0.0; host = behind.0.1.0; above = behind.1 }

pub page_passed : (m : Machine) (w : World) (t gpa p source : ℕ) → Passes ((add_page m t gpa p source).items w) → MapPassed m w t gpa 0 p (op.Initialized ∷ [])
page_passed m w t gpa p source ps = record { td = search; gpa_fits = search; page_fits = search; free = search; host = search; above = lowest_above w t gpa (search) }

pub augment_passed : (m : Machine) (w : World) (t gpa p : ℕ) → Passes ((augment_page m t gpa p).items w) → MapPassed m w t gpa 0 p augmented_ops
augment_passed m w t gpa p ps = record { td = search; gpa_fits = search; page_fits = search; free = search; host = search; above = lowest_above w t gpa (search) }

-- the row that exports pages
pub record ExportPassed (w : World) (t k : ℕ) (gpas : List ℕ) : Type 0 where
  pub td : TdPassed w t abortable_ops
  pub few : k < length (w.tds.streams t)
  pub pages : AllMayExport w t gpas
  pub room : stream_counter w t k < 2 ^ 32 - 1
  pub tracked : Passes (tracked_in (w.tds.ops t) w t gpas)

pub export_passed : (m : Machine) (w : World) (t gpa k slot : ℕ) (count : Option ℕ) → Passes ((export_pages m t gpa k slot count).items w)
    → ExportPassed w t k (gpas_from gpa (page_count count))
export_passed m w t gpa k slot count ps =
    let gpas : List ℕ = gpas_from gpa (page_count count) in
    let last : List (Item Reply) = page_exclusive (stream_page w t k) ∷ counter_room w t k ∷ tracked_in (w.tds.ops t) w t gpas in
    let body : List (Item Reply) = export_conditions w t k gpas in
    let counted = passes_behind (count_argument 5 count) (aligned_argument 2 0 gpa ∷ (gpas_argument 5 gpa count ++ body)) ps.1.1.1 in
    let head = passes_behind (gpas_argument 5 gpa count) body counted.1 in
    let behind = head.1.1.1.1.1 in
    let end = passes_behind (flat_map (page_to_export w t) gpas) last behind in
    record {
      td = record { root = head.0; life = head.1.0; built = head.1.1.0; op = head.1.1.1.0 };
      few = ltb-true _ _ head.1.1.1.1.0;
      pages = all_may_export w t gpas (passes_first (flat_map (page_to_export w t) gpas) last behind);
      room = ltb-true _ _ end.0;
      tracked = end.1;
    }

-- the row that moves what an entry names to a host page
abbrev pub moving : World → (t gpa p : ℕ) → List (Item Reply)
moving w t gpa p = another_page w t gpa p ∷ page_exclusive p ∷ host_page w p ∷ tracked_page w t (entry_at w t 0 gpa).page ∷ []

pub record MovePassed (m : Machine) (w : World) (t gpa p : ℕ) : Type 0 where
  pub named : NamedPassed w t gpa 0 removed_states (moving w t gpa p)
  pub gpa_fits : nat_lt gpa (2 ^ 47) ≡ true
  pub page_fits : nat_lt p m.pages ≡ true
  pub other : not (p == (entry_at w t 0 gpa).page) ≡ true
  pub host : is_host w p ≡ true
  pub tracked : is_tracked w t (entry_at w t 0 gpa).page ≡ true
  pub above : 0 < 3 → is_free (w.tds.entries t 1 (number_at 0 gpa / 512)).state ≡ false

pub relocate_passed : (m : Machine) (w : World) (t gpa p : ℕ) → Passes ((relocate_page m t gpa p).items w) → MovePassed m w t gpa p
relocate_passed m w t gpa p ps = record {
  named = named_passed w t gpa 0 removed_states (moving w t gpa p) (search);
  gpa_fits = search;
  page_fits = search;
  other = search;
  host = search;
  tracked = search;
  above = lowest_above w t gpa (search);
}

-- rows that block, unblock and remove what an entry names
pub block_passed : (m : Machine) (w : World) (t gpa level : ℕ) → Passes ((block_range m t gpa level).items w) → NamedPassed w t gpa level open_states []
block_passed m w t gpa level ps = named_passed w t gpa level open_states [] (search)

pub unblock_passed : (m : Machine) (w : World) (t gpa level : ℕ) → Passes ((unblock_range m t gpa level).items w) → NamedPassed w t gpa level blocked_states (tracked_page w t (entry_at w t level gpa).page ∷ [])
unblock_passed m w t gpa level ps = named_passed w t gpa level blocked_states (tracked_page w t (entry_at w t level gpa).page ∷ []) (search)

pub remove_passed : (m : Machine) (w : World) (t gpa : ℕ) → Passes ((remove_page m t gpa).items w) → NamedPassed w t gpa 0 removed_states (tracked_page w t (entry_at w t 0 gpa).page ∷ [])
remove_passed m w t gpa ps = named_passed w t gpa 0 removed_states (tracked_page w t (entry_at w t 0 gpa).page ∷ []) (search)

pub sept_remove_passed : (m : Machine) (w : World) (t gpa level : ℕ) → Passes ((remove_sept m t gpa level).items w)
    → NamedPassed w t gpa level (entry.NlBlocked ∷ []) (empty_below w t gpa level ∷ tracked_page w t (entry_at w t level gpa).page ∷ [])
sept_remove_passed m w t gpa level ps =
    named_passed w t gpa level (entry.NlBlocked ∷ []) (empty_below w t gpa level ∷ tracked_page w t (entry_at w t level gpa).page ∷ []) (search)
