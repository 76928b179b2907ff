-- What is told of pages, read from the words of a machine by their addresses.
use Rattle.std.specs.Prelude.{ℕ, zero, suc, ◌+◌, ◌-◌, ◌*◌, ◌%◌, ◌==◌, if◌then◌else◌, List, [], ◌++◌, Option, Some, None, slice_index}
use Rattle.td_words.specs.declared.names.PageKind.{PageKind}
use Rattle.td_words.specs.declared.names.PageKind.TheVariants as kind
use Rattle.td_words.specs.declared.names.VcpuState.{VcpuState}
use Rattle.td_words.specs.declared.names.VcpuState.TheVariants as vcpu
use Rattle.td_words.specs.declared.places.TheConstants.{TDR_LIFE, TDR_HKID, TDR_CHILDREN, TDR_TDCX_COUNT, TDR_TDCS, TDR_ROOT, TDCS_OP, TDCS_EPOCH, TDCS_ENTERED, TDCS_MIG_EPOCH, TDCS_SESSION, TDCS_VP_COUNT, TDCS_STREAM_COUNT, VP_INDEX, VP_STATE, VP_ASSOCIATED, VP_LAST_EPOCH, VP_POSITION, STREAM_COUNTER}
use Rattle.td_words.specs.Address.{pamt_at, word_at}
use Rattle.td_words.specs.Packing.{Pamt, Entry, pamt_in, entry_in}
use Rattle.flat_core.specs.Arguments.{level_size}
use Rattle.field_lines.specs.declared.lines.Form.{Form}
use Rattle.state_lines.specs.declared.seen.TdcsSeen.{TdcsSeen}
use Rattle.state_lines.specs.declared.seen.TdSeen.{TdSeen}
use Rattle.state_lines.specs.declared.seen.VcpuSeen.{VcpuSeen}
use Rattle.state_lines.specs.declared.seen.StreamSeen.{StreamSeen}
use Rattle.state_lines.specs.declared.seen.Content.{Content}
use Rattle.state_lines.specs.declared.seen.Content.TheVariants as content
use Rattle.leaf_parts.specs.Words.{life_told, op_told}
use Rattle.state_lines.specs.Lines.{texts_below, in_use, entry_lines, page_text}
use Rattle.state_lines.specs.StateText.{stands}

-- a content word of a page
abbrev pub word_in : List ℕ → (page index : ℕ) → ℕ
word_in words p i = slice_index words (word_at p i)

abbrev pub pamt_seen : List ℕ → ℕ → Option Pamt
pamt_seen words p = pamt_in (slice_index words (pamt_at p))

abbrev pub tdcs_seen : List ℕ → (page : ℕ) → TdcsSeen
tdcs_seen words c =
    let epoch = word_in words c TDCS_EPOCH in
    record {
      page = c;
      op = op_told (word_in words c TDCS_OP);
      epoch = epoch;
      entered = word_in words c (TDCS_ENTERED + epoch % 2);
      entered_before = word_in words c (TDCS_ENTERED + (1 - epoch % 2));
      vcpus = word_in words c TDCS_VP_COUNT;
      streams = word_in words c TDCS_STREAM_COUNT;
      session = word_in words c TDCS_SESSION;
      mig_epoch = word_in words c TDCS_MIG_EPOCH;
    }

abbrev pub tdcs_found : List ℕ → (tdr : ℕ) → Option TdcsSeen
tdcs_found words t =
    if word_in words t TDR_TDCX_COUNT == 0 then None
    else stands (life_told (word_in words t TDR_LIFE)) (Some (tdcs_seen words (word_in words t TDR_TDCS % 65536))) None

abbrev pub td_seen : List ℕ → ℕ → TdSeen
td_seen words t = record {
  life = life_told (word_in words t TDR_LIFE);
  hkid = word_in words t TDR_HKID;
  children = word_in words t TDR_CHILDREN;
  tdcs = tdcs_found words t;
}

-- the logical processor with that number, where it isn't 0, less 1
abbrev pub lp_in : ℕ → Option ℕ
lp_in word = if word == 0 then None else Some (word - 1)

-- the state of a virtual processor of that number; each but 0 is that of the last
abbrev pub vcpu_told : ℕ → VcpuState
vcpu_told n = if n == 0 then vcpu.Created else vcpu.Ready

abbrev pub vcpu_seen : List ℕ → ℕ → VcpuSeen
vcpu_seen words v = record {
  index = word_in words v VP_INDEX;
  state = vcpu_told (word_in words v VP_STATE);
  position = word_in words v VP_POSITION;
  associated = lp_in (word_in words v VP_ASSOCIATED);
  last_epoch = word_in words v VP_LAST_EPOCH;
}

abbrev pub stream_seen : List ℕ → ℕ → StreamSeen
stream_seen words s = record { counter = word_in words s STREAM_COUNTER }

abbrev pub content_in : List ℕ → (page owner : ℕ) → PageKind → Content
content_in words p t kind.Tdr = content.Td (td_seen words p)
content_in words p t kind.Tdvpr = stands (life_told (word_in words t TDR_LIFE)) (content.Vcpu (vcpu_seen words p)) content.Nothing
content_in words p t kind.Migsc = stands (life_told (word_in words t TDR_LIFE)) (content.Stream (stream_seen words p)) content.Nothing
content_in words p t _ = content.Nothing

-- an entry in a page, unless its word is none, or one that is FREE
abbrev pub if_used : Option Entry → Option Entry
if_used None = None
if_used (Some e) = in_use e

abbrev pub used_entry : List ℕ → (page index : ℕ) → Option Entry
used_entry words p i = if_used (entry_in (word_in words p i))

-- the entries in a page, each with those in the page that it names
abbrev pub entry_read : Form → List ℕ → (below : (page gpa : ℕ) → List ℕ) → (t level page gpa index : ℕ) → List ℕ
entry_read f words below t l p g i = let at = g + level_size l * i in entry_lines f t l at (λ e. below e.page at) (used_entry words p i)

unfoldable pub table_read : Form → List ℕ → (t level page gpa : ℕ) → List ℕ
table_read f words t zero p g = []
table_read f words t (suc l) p g = texts_below (entry_read f words (λ q at. table_read f words t l q at) t l p g) 512

-- the root of a TD that has both control pages and isn't in TD_TEARDOWN
abbrev pub root_in : List ℕ → (tdr : ℕ) → Option ℕ
root_in words t = if word_in words t TDR_TDCX_COUNT == 2 then stands (life_told (word_in words t TDR_LIFE)) (Some (word_in words t TDR_ROOT % 65536)) None else None

abbrev pub tree_from : Form → List ℕ → (tdr : ℕ) → Option ℕ → List ℕ
tree_from f words t None = []
tree_from f words t (Some r) = table_read f words t 4 r 0

abbrev pub tree_in : Form → List ℕ → (tdr : ℕ) → PageKind → List ℕ
tree_in f words t kind.Tdr = tree_from f words t (root_in words t)
tree_in f words t _ = []

abbrev pub page_if : Form → List ℕ → ℕ → Option Pamt → List ℕ
page_if f words p None = []
page_if f words p (Some m) = page_text f p m (content_in words p m.owner m.kind) ++ tree_in f words p m.kind

abbrev pub page_read : Form → List ℕ → ℕ → List ℕ
page_read f words p = page_if f words p (pamt_seen words p)

-- the TD that a page is of
abbrev pub owner_if : Option Pamt → ℕ
owner_if None = 0
owner_if (Some m) = m.owner

abbrev pub owner_read : List ℕ → ℕ → ℕ
owner_read words p = owner_if (pamt_seen words p)
