-- A removal beside a guest, which computes: when its page is out of reach, and that an old translation of it stays cached.
use Rattle.std.specs.Prelude.{◌≡◌, ℕ, [], ◌∷◌, ◌++◌, replicate, None, true, false}
use Rattle.td_words.specs.declared.names.PageKind.TheVariants as kind
use Rattle.td_words.specs.declared.calls.Call.TheVariants.{HostRead, MrFinalize, VpEnter, MemPageAdd, MemPageRemove, MemRangeBlock, MemTrack}
use Rattle.td_words.specs.declared.calls.GuestOp.TheVariants.{Set, Load}
use Rattle.flat_core.specs.Processor.{Translation}
use Rattle.flat_core.specs.Opening.{Opening}
use Rattle.flat_core.specs.Event.{State}
use Rattle.flat_core.specs.Laws.{reached}
use Rattle.flat_core.specs.Worked.{building}
use Rattle.flat_core.specs.GuestWorked.{opening_with}
use Rattle.flat_laws.specs.Unreached.{is_unreached}

-- TD 1 has page 8 at GPA 0, and processor 0 enters its guest, which loads from there; processor 1 removes the page
abbrev pub removing : Opening
removing =
    let runs = building ++ MemPageAdd 1 0 8 0 ∷ MrFinalize 1 ∷ VpEnter 1 4 100 ∷ [] in
    let removes = MemRangeBlock 1 0 0 ∷ MemPageRemove 1 0 ∷ MemTrack 1 ∷ MemPageRemove 1 0 ∷ MemPageRemove 1 0 ∷ HostRead 8 0 ∷ [] in
    opening_with (Load 1 0 ∷ Set 2 5 ∷ []) (runs ∷ removes ∷ [])

-- after the guest's load, in 91 events; after so many of processor 1; and then after so many of both
abbrev pub beside : (others own last : ℕ) → State
beside others own last = reached removing None (replicate 91 0 ++ (replicate others 1 ++ (replicate own 0 ++ replicate last 1)))

abbrev pub old_translation : Translation
old_translation = record { tdr = 1; gpa_page = 0; page = 8; may_write = true }

pub record RemovalExample : Type 0 where
  -- the guest reaches the page until its block is tracked, which it is at the exit: not by the block, nor by MEM.TRACK
  pub mapped : is_unreached (beside 0 0 0).world 1 0 ≡ false
  pub blocked : is_unreached (beside 11 0 0).world 1 0 ≡ false
  pub epoch_raised : is_unreached (beside 29 0 0).world 1 0 ≡ false
  pub left : is_unreached (beside 40 10 0).world 1 0 ≡ true
  -- the translation that it has cached stays cached, also once the page is the host's
  pub cached : ((beside 0 0 0).lps 0).cached ≡ old_translation ∷ []
  pub stale : ((beside 40 10 11).lps 0).cached ≡ old_translation ∷ []
  pub removed : (beside 40 10 11).world.pages.kinds 8 ≡ kind.Nda
