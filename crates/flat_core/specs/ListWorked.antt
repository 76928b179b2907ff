-- Worked lists of pages, which compute: a TD with two pages is exported, both in one bundle, and imported. Each row is gone
-- through at once, as if every try were granted.
use Rattle.std.specs.Prelude.{◌≡◌, ℕ, List, [], ◌∷◌, ◌++◌, map, length, drop, slice_index_or, Option, Some, None, false}
use Rattle.td_words.specs.declared.names.PageKind.TheVariants as kind
use Rattle.td_words.specs.declared.names.EntryState.TheVariants as entry
use Rattle.td_words.specs.declared.names.HeaderField.TheVariants as field
use Rattle.td_words.specs.declared.calls.Call.{Call}
use Rattle.td_words.specs.declared.calls.Call.TheVariants.{HostWrite, MemPageAdd, MrFinalize, MigStreamCreate, MemTrack, ExportStateImmutable, ExportBlockw, ExportPause}
use Rattle.td_words.specs.declared.refusals.Status.TheVariants.{OperandInvalid, PageMetadataIncorrect, EptEntryStateIncorrect, TlbTrackingNotDone, BundleHeader, BundleTag}
use Rattle.td_words.specs.declared.replies.Reply.{Reply}
use Rattle.td_words.specs.declared.replies.Reply.TheVariants.{Refused}
use Rattle.flat_core.specs.World.{World, Made, first_world}
use Rattle.flat_core.specs.Opening.{Opening, Incoming}
use Rattle.flat_core.specs.Row.{Row}
use Rattle.flat_core.specs.Effects.{map_page}
use Rattle.flat_core.specs.BundleRows.{export_pages}
use Rattle.flat_core.specs.ImportRows.{import_pages}
use Rattle.flat_core.specs.Worked.{usual_opening, built}
use Rattle.flat_core.specs.ImportWorked.{first_fault, done_from, arrived, begun}

abbrev pub idle : Opening
idle = usual_opening ([] ∷ [])

abbrev pub refused : Row → World → Option Reply
refused row w = first_fault (row.items w)

-- the source, where the session has begun, after further calls; and EXPORT.MEM there, on stream 0
abbrev pub source_after : List Call → World
source_after calls = (done_from idle (first_world 32 None) (HostWrite 0 0 7 ∷ (built ++ HostWrite 0 0 5 ∷ MemPageAdd 1 4096 10 0 ∷ MrFinalize 1
    ∷ MigStreamCreate 1 11 ∷ ExportStateImmutable 1 0 ∷ calls))).world

abbrev pub sends : (gpa : ℕ) → Option ℕ → Row
sends gpa count = export_pages idle.machine 1 gpa 0 1 count

-- both pages are blocked for writing; and the block of the second one is noted once that of the first one is tracked
abbrev pub blocked : World
blocked = source_after (ExportBlockw 1 0 ∷ ExportBlockw 1 4096 ∷ MemTrack 1 ∷ [])

abbrev pub blocked_late : World
blocked_late = source_after (ExportBlockw 1 0 ∷ MemTrack 1 ∷ ExportBlockw 1 4096 ∷ [])

abbrev pub paused : World
paused = source_after (ExportPause 1 ∷ [])

abbrev pub listed : World
listed = (sends 0 (Some 2)).act paused

-- of a bundle its version, type, count, GPA and counter, how many words it has, and the first of each of two pages
abbrev pub list_line : Made → List ℕ
list_line b = b.header.version ∷ b.header.kind ∷ b.header.info ∷ b.header.gpa ∷ b.header.counter ∷ length b.payload
    ∷ slice_index_or b.payload 0 0 ∷ slice_index_or b.payload 512 0 ∷ []

-- the destination, where the session has begun; where its first GPA has page 9 already; and IMPORT.MEM there, with pages 8 and on
abbrev pub destination : World
destination = (done_from (arrived listed.outgoing.bundles) (first_world 32 None) begun).world

abbrev pub half_mapped : World
half_mapped = map_page 9 kind.Reg entry.Mapped 1 0 0 destination

abbrev pub takes : Option Incoming → Option ℕ → Row
takes b count = import_pages idle.machine b 1 1 8 count

abbrev pub came : Option Incoming
came = (arrived listed.outgoing.bundles).bundles 1

abbrev pub tampered : Option Incoming → Option Incoming
tampered None = None
tampered (Some b) = Some (record b { «opens» = false })

pub record ListExamples : Type 0 where
  -- two pages are one bundle, which is counted once; and each is exported
  pub sent : map list_line (drop 1 listed.outgoing.bundles) ≡ (2 ∷ 3 ∷ 2 ∷ 0 ∷ 1 ∷ 1024 ∷ 7 ∷ 5 ∷ []) ∷ []
  pub exported : map (λ n. (listed.tds.entries 1 0 n).state) (0 ∷ 1 ∷ []) ≡ entry.ExportedBlockedW ∷ entry.ExportedBlockedW ∷ []
  -- while the TD runs, the latest block has to be tracked, also that of a later page
  pub live : refused (sends 0 (Some 2)) blocked ≡ None
  pub untracked : refused (sends 0 (Some 2)) blocked_late ≡ Some (Refused TlbTrackingNotDone)
  pub first_tracked : refused (sends 0 None) blocked_late ≡ None
  -- a third page isn't there
  pub whole : refused (sends 0 (Some 3)) paused ≡ Some (Refused (EptEntryStateIncorrect entry.Free))
  -- COUNT's range comes with the other ranges, where the run of GPAs ends behind alignment
  pub operands : refused (sends 1 (Some 0)) paused ∷ refused (sends 1 (Some 17)) paused ∷ refused (sends 1 (Some 2)) paused
      ∷ refused (sends 0x7ffffffff000 (Some 2)) paused ∷ []
      ≡ Some (Refused (OperandInvalid 5)) ∷ Some (Refused (OperandInvalid 5)) ∷ Some (Refused (OperandInvalid 2)) ∷ Some (Refused (OperandInvalid 5)) ∷ []
  -- both come in, in GPA order
  pub taken : refused (takes came (Some 2)) destination ≡ None
  pub words : let w = (takes came (Some 2)).act destination in w.words 8 0 ∷ w.words 9 0 ∷ [] ≡ 7 ∷ 5 ∷ []
  -- another COUNT; a page that the call has locked for an entry before; a tag that isn't right
  pub count : refused (takes came (Some 1)) destination ≡ Some (Refused (BundleHeader field.Count))
  pub locked : refused (takes came (Some 2)) half_mapped ≡ Some (Refused (PageMetadataIncorrect 9))
  pub tag : refused (takes (tampered came) (Some 2)) destination ≡ Some (Refused BundleTag)
