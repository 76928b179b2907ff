-- A walk of a table whose words show a lawful state follows the map.
use Rattle.std.proofs.Common.{◌≡◌, ℕ, suc, ◌+◌, ◌*◌, ◌^◌, ◌<◌, ◌≤◌, true, List, ◌++◌, Option, None, ap, sym, ◌∙◌}
use Rattle.td_words.specs.declared.machines.Machine.{Machine}
use Rattle.td_words.specs.declared.replies.Reply.{Reply}
use Rattle.td_words.specs.Place as place
use Rattle.flat_core.specs.World.{World}
use Rattle.flat_core.specs.Event.{State, start}
use Rattle.flat_core.specs.Run.{play}
use Rattle.flat_core.specs.Laws.{EveryWorldIsLawful}
use Rattle.flat_core.specs.Row.{Item, next}
use Rattle.flat_core.specs.Tree.{walk}
use Rattle.sept_walk.specs.declared.walks.Walked.{Walked}
use Rattle.sept_walk.specs.SecureEpt.{is_mapped_on}
use Rattle.sept_walk.specs.Maps.{HoldsMap, map_end, row_behind}
use Rattle.sept_walk.specs.Laws.{WalksFind, WalksMeetMaps, entries_in}
use Rattle.mrtd_measure.specs.declared.measures.Measure.{Measure}
use Rattle.step_core.specs.Items.{Table}
use Rattle.leaf_engine.specs.Changes.{Memory}
use Rattle.leaf_engine.specs.Tables.{IsMemory}
use Rattle.leaf_engine.specs.Merges.{order}
use Rattle.merge_laws.specs.Laws.{IsShownBy, MergesAreRuns}
use Rattle.sept_parts.specs.SeptWords.{entry_told}
use Rattle.map_laws.specs.SeptMaps.{ShowsTd, entries_on}
use Rattle.map_laws.specs.Laws.{WalksFollow, WalksFollowMerges, table_walk}
use Rattle.map_laws.proofs.Held.{root-in, held, below-in}

module _ (find : WalksFind) (meet : WalksMeetMaps) (m : Machine) (mem : Memory) (s : State) (t root : ℕ) (u : Table) (hasher : Option Measure) (x : ShowsTd m mem s t root) (is : IsMemory m u hasher mem) where
  abbrev w : World
  w = s.world

  -- the table has the map at its addresses
  on-table : HoldsMap (entries_in (entries_on m.pages u)) root w t
  on-table = record { at_root = top; below = down }
    where
      top : (i : ℕ) → i < 512 → entries_in (entries_on m.pages u) root i ≡ w.tds.entries t 3 i
      top i small = ap (entry_told m.pages) (is.words (place.Word root i) (root-in m mem s t root x, small)) ∙ (held m mem s t root x).at_root i small

      down : (l n i : ℕ) → l < 3 → is_mapped_on (w.tds.entries t (suc l) n) ≡ true → i < 512 → entries_in (entries_on m.pages u) (w.tds.entries t (suc l) n).page i ≡ w.tds.entries t l (512 * n + i)
      down l n i few on small =
          ap (entry_told m.pages) (is.words (place.Word (w.tds.entries t (suc l) n).page i) (below-in m mem s t root x l n on, small)) ∙ (held m mem s t root x).below l n i few on small

  ended : (gpa level : ℕ) → gpa < 2 ^ 47 → level ≤ 3 → table_walk m u root gpa level ≡ map_end w t gpa level
  ended gpa level small few = find.find (entries_on m.pages u) root gpa level few ∙ meet.maps (entries_in (entries_on m.pages u)) root w t gpa level on-table small few

  row-ended : (gpa level granted : ℕ) (rest : List (Item Reply)) → gpa < 2 ^ 47 → level ≤ 3
      → next (walk w t gpa level ++ rest) granted ≡ row_behind (table_walk m u root gpa level) (next rest granted)
  row-ended gpa level granted rest small few = meet.rows w t gpa level granted rest ∙ ap (λ (p : Walked). row_behind p (next rest granted)) (sym (ended gpa level small few))

pub walks-follow : WalksFind → WalksMeetMaps → WalksFollow
walks-follow find meet = record {
  ends = λ m mem s t root gpa level u hasher x is small few. ended find meet m mem s t root u hasher x is gpa level small few;
  rows = λ m mem s t root gpa level u hasher granted rest x is small few. row-ended find meet m mem s t root u hasher x is gpa level granted rest small few;
}

-- the table that a merge leads to
pub walks-follow-merges : EveryWorldIsLawful → MergesAreRuns → WalksFollow → WalksFollowMerges
walks-follow-merges lawful runs follow o leaf is now u limit most are codes merge t tdcs root gpa level alive controls small few =
    let by : IsShownBy o.machine u (play o (order is) (start o None)) = (runs.turns o leaf is now u most are codes merge).0 in
    follow.ends o.machine by.memory (play o (order is) (start o None)) t root gpa level u None
    (record { limit = limit; lawful = lawful o None (order is); shown = by.shows; alive = alive; tdcs = tdcs; controls = controls }) by.is small few
