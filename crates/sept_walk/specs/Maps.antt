-- The secure EPT in memory beside the map that the flat machine has of a TD.
use Rattle.std.specs.Prelude.{◌≡◌, ℕ, suc, ◌+◌, ◌*◌, ◌<◌, true}
use Rattle.td_words.specs.declared.refusals.Status.TheVariants.{EptWalkFailed}
use Rattle.td_words.specs.declared.replies.Reply.{Reply}
use Rattle.td_words.specs.declared.replies.Reply.TheVariants.{Refused}
use Rattle.td_words.specs.Packing.{Entry}
use Rattle.flat_core.specs.World.{World}
use Rattle.flat_core.specs.Row.{Move, Refuses}
use Rattle.flat_core.specs.Tree.{entry_at, levels_above}
use Rattle.sept_walk.specs.declared.walks.Walked.{Walked}
use Rattle.sept_walk.specs.declared.walks.Walked.TheVariants.{More, Found, Failed}
use Rattle.sept_walk.specs.SecureEpt.{is_mapped_on, passes}

-- memory holds a TD's map: the root the entries of level 3, and the page that an NL_MAPPED entry names the 512 below it
pub record HoldsMap (entries : ℕ → ℕ → Entry) (root : ℕ) (w : World) (t : ℕ) : Type 0 where
  pub at_root : (i : ℕ) → i < 512 → entries root i ≡ w.tds.entries t 3 i
  pub below : (l n i : ℕ) → l < 3 → is_mapped_on (w.tds.entries t (suc l) n) ≡ true → i < 512
      → entries (w.tds.entries t (suc l) n).page i ≡ w.tds.entries t l (512 * n + i)

-- what a walk over a TD's map ends with
abbrev pub map_end : World → (t gpa level : ℕ) → Walked
map_end w t gpa level = passes (λ l. entry_at w t l gpa) level (levels_above level)

-- a row goes on behind its walk, or is refused with the level at which the walk failed
abbrev pub row_behind : Walked → Move Reply → Move Reply
row_behind (Found e) later = later
row_behind (Failed l) later = Refuses (Refused (EptWalkFailed l))
row_behind More later = later
