-- What is told of a state, line by line, in either form.
use Rattle.std.specs.Prelude.{ℕ, zero, suc, ◌+◌, ◌*◌, ◌%◌, ◌==◌, if◌then◌else◌, List, [], ◌∷◌, ◌++◌, length, map, Option, Some, None}
use Rattle.std.specs.List.{concat}
use Rattle.td_words.specs.declared.names.PageKind.{PageKind}
use Rattle.td_words.specs.declared.names.PageKind.TheVariants as kind
use Rattle.td_words.specs.declared.names.LifeState.{LifeState}
use Rattle.td_words.specs.declared.names.LifeState.TheVariants as life
use Rattle.td_words.specs.NameNumber.{life_number}
use Rattle.td_words.specs.Packing.{Pamt}
use Rattle.flat_core.specs.World.{World}
use Rattle.flat_core.specs.Arguments.{level_size}
use Rattle.flat_core.specs.Processor.{LockId, OfPage, OfOp, OfTree, OfEpoch, OfRtmr, OfKeys, name_of, Held, Guest, Translation, Lp}
use Rattle.flat_core.specs.Conditions.{children}
use Rattle.flat_core.specs.Opening.{Opening}
use Rattle.flat_core.specs.Event.{State, calls_of}
use Rattle.word_rules.specs.Cells.{entered_of_parity}
use Rattle.field_lines.specs.declared.lines.Form.{Form}
use Rattle.state_lines.specs.declared.seen.TdcsSeen.{TdcsSeen}
use Rattle.state_lines.specs.declared.seen.TdSeen.{TdSeen}
use Rattle.state_lines.specs.declared.seen.VcpuSeen.{VcpuSeen}
use Rattle.state_lines.specs.declared.seen.StreamSeen.{StreamSeen}
use Rattle.state_lines.specs.declared.seen.Content.{Content}
use Rattle.state_lines.specs.declared.seen.Content.TheVariants as content
use Rattle.state_lines.specs.declared.seen.Holder.{Holder}
use Rattle.state_lines.specs.declared.seen.Holder.TheVariants as holder
use Rattle.state_lines.specs.Lines.{texts_below, in_use, entry_lines, page_text, done_line, held_line, guest_line, cached_line}

-- the PAMT's entry of a page
abbrev pub pamt_of : World → ℕ → Pamt
pamt_of w p = record { kind = w.pages.kinds p; owner = w.pages.owners p; epoch = w.pages.blocked p }

-- the virtual processors of a TD that are in guest since an epoch of that parity
abbrev pub entered_at : World → (t epoch : ℕ) → ℕ
entered_at w t e = entered_of_parity (e % 2) w.vps.entered (w.tds.vps t)

abbrev pub tdcs_of : World → (t page : ℕ) → TdcsSeen
tdcs_of w t c = record {
  page = c;
  op = w.tds.ops t;
  epoch = w.tds.epochs t;
  entered = entered_at w t (w.tds.epochs t);
  entered_before = entered_at w t (w.tds.epochs t + 1);
  vcpus = length (w.tds.vps t);
  streams = length (w.tds.streams t);
  session = w.tds.sessions t;
  mig_epoch = w.tds.mig_epochs t;
}

-- unless the TD is in TD_TEARDOWN, where nothing but its life and its children count
abbrev pub stands : {A : Type 0} → LifeState → A → A → A
stands l x otherwise = if life_number l == life_number life.Teardown then otherwise else x

-- TDCS is its first control page
abbrev pub tdcs_in : World → ℕ → List ℕ → Option TdcsSeen
tdcs_in w t [] = None
tdcs_in w t (c ∷ cs) = stands (w.tds.lives t) (Some (tdcs_of w t c)) None

abbrev pub td_of : World → ℕ → TdSeen
td_of w t = record { life = w.tds.lives t; hkid = w.tds.hkids t; children = children w t; tdcs = tdcs_in w t (w.tds.controls t) }

abbrev pub vcpu_of : World → ℕ → VcpuSeen
vcpu_of w v = record { index = w.vps.indexes v; state = w.vps.states v; position = w.vps.positions v; associated = w.vps.associated v; last_epoch = w.vps.lasts v }

abbrev pub stream_of : World → ℕ → StreamSeen
stream_of w s = record { counter = w.streams.counters s }

-- what a page has, by its kind
abbrev pub content_of : World → ℕ → PageKind → Content
content_of w p kind.Tdr = content.Td (td_of w p)
content_of w p kind.Tdvpr = stands (w.tds.lives (w.pages.owners p)) (content.Vcpu (vcpu_of w p)) content.Nothing
content_of w p kind.Migsc = stands (w.tds.lives (w.pages.owners p)) (content.Stream (stream_of w p)) content.Nothing
content_of w p _ = content.Nothing

-- the entries that aren't FREE of a node of a TD's secure EPT, each with those below it: of the node of that level and number, which
-- begins at that GPA
abbrev pub entry_seen : Form → World → (below : (number gpa : ℕ) → List ℕ) → (t level number gpa index : ℕ) → List ℕ
entry_seen f w below t l n g i = let at = g + level_size l * i in entry_lines f t l at (λ e. below (512 * n + i) at) (in_use (w.tds.entries t l (512 * n + i)))

unfoldable pub table_text : Form → World → (t level number gpa : ℕ) → List ℕ
table_text f w t zero n g = []
table_text f w t (suc l) n g = texts_below (entry_seen f w (λ m at. table_text f w t l m at) t l n g) 512

-- of a TD with both control pages, from the root on, which is a node of level 4 here
abbrev pub tree_of : Form → World → ℕ → PageKind → List ℕ
tree_of f w t kind.Tdr = if length (w.tds.controls t) == 2 then stands (w.tds.lives t) (table_text f w t 4 0 0) [] else []
tree_of f w t _ = []

abbrev pub page_seen : Form → World → ℕ → List ℕ
page_seen f w p = page_text f p (pamt_of w p) (content_of w p (w.pages.kinds p)) ++ tree_of f w p (w.pages.kinds p)

-- the TD that a lock is of; 0 where it is of none
abbrev pub td_of_lock : LockId → ℕ
td_of_lock (OfPage p) = 0
td_of_lock (OfOp t) = t
td_of_lock (OfTree t) = t
td_of_lock (OfEpoch t) = t
td_of_lock (OfRtmr t) = t
td_of_lock OfKeys = 0

-- the locks that are held, the oldest first
abbrev pub held_text : Form → ℕ → Holder → List Held → List ℕ
held_text f p who [] = []
held_text f p who (h ∷ hs) = held_text f p who hs ++ held_line f p who (name_of h.lock) (td_of_lock h.lock) h.mode

abbrev pub guest_text : Form → ℕ → Option Guest → List ℕ
guest_text f p None = []
guest_text f p (Some g) = guest_line f p g.tdr g.vp g.completed g.most ++ held_text f p holder.Guest g.operation.held

abbrev pub translation_line : Form → ℕ → Translation → List ℕ
translation_line f p c = cached_line f p c.tdr c.gpa_page c.page c.may_write

-- a logical processor with so many calls
abbrev pub lp_text : Form → (p calls : ℕ) → Lp → List ℕ
lp_text f p calls lp =
    done_line f p (length lp.replies) calls ++ (held_text f p holder.Call lp.call.held ++ (guest_text f p lp.guest ++ concat (map (translation_line f p) lp.cached)))

-- all pages, and then all logical processors
unfoldable pub state_text : Form → Opening → State → List ℕ
state_text f o s = texts_below (page_seen f s.world) o.machine.pages ++ texts_below (λ p. lp_text f p (length (calls_of o.calls p)) (s.lps p)) (length o.calls)
