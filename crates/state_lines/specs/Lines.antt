-- The lines of a state, in either form.
use Rattle.std.specs.Prelude.{ℕ, zero, suc, ◌==◌, if◌then◌else◌, Bool, true, false, List, [], ◌∷◌, ◌++◌, Option, Some, None, codes}
use Rattle.td_words.specs.declared.names.PageKind.TheVariants as kind
use Rattle.td_words.specs.declared.names.LifeState.{LifeState}
use Rattle.td_words.specs.declared.names.LifeState.TheVariants as life
use Rattle.td_words.specs.declared.names.LockName.{LockName}
use Rattle.td_words.specs.declared.names.LockName.TheVariants as lock
use Rattle.td_words.specs.declared.names.Mode.{Mode}
use Rattle.td_words.specs.NameNumber.{kind_number}
use Rattle.td_words.specs.NameText.{kind_text, life_text, op_text, vcpu_text, lock_text, entry_text}
use Rattle.td_words.specs.Packing.{Pamt, Entry}
use Rattle.field_lines.specs.declared.lines.Form.{Form}
use Rattle.field_lines.specs.Fields.{Number, Address, PageAddress, Word, FieldSeen, field, mode_text, line_text}
use Rattle.flat_core.specs.Lawful.{is_free}
use Rattle.state_lines.specs.declared.seen.TdcsSeen.{TdcsSeen}
use Rattle.state_lines.specs.declared.seen.VcpuSeen.{VcpuSeen}
use Rattle.state_lines.specs.declared.seen.StreamSeen.{StreamSeen}
use Rattle.state_lines.specs.declared.seen.Content.{Content}
use Rattle.state_lines.specs.declared.seen.Content.TheVariants as content
use Rattle.state_lines.specs.declared.seen.Holder.{Holder}
use Rattle.state_lines.specs.declared.seen.Holder.TheVariants as holder

-- the texts of the first n numbers, in order
abbrev pub texts_below : (ℕ → List ℕ) → ℕ → List ℕ
texts_below f zero = []
texts_below f (suc n) = texts_below f n ++ f n

-- a page: its kind, its TDR page, and BEPOCH where it has one
abbrev pub page_fields : ℕ → Pamt → List FieldSeen
page_fields p m = field (codes "page ") (codes "page") (Number p) ∷ field (codes " ") (codes "kind") (Word (kind_text m.kind)) ∷ field (codes " of ") (codes "td") (Number m.owner) ∷ []

abbrev pub page_line : Form → ℕ → Pamt → List ℕ
page_line f p m =
    if m.epoch == 0 then line_text f (codes "page") (page_fields p m)
    else line_text f (codes "page") (page_fields p m ++ field (codes " BEPOCH ") (codes "bepoch") (Number m.epoch) ∷ [])

-- a TD: its life state, its HKID while it has one, and how many pages it has besides its TDR page
abbrev pub life_fields : ℕ → LifeState → List FieldSeen
life_fields t l = field (codes "td ") (codes "td") (Number t) ∷ field (codes " ") (codes "life") (Word (life_text l)) ∷ []

abbrev pub children_fields : ℕ → List FieldSeen
children_fields children = field (codes " children ") (codes "children") (Number children) ∷ []

abbrev pub life_line : Form → ℕ → LifeState → (hkid children : ℕ) → List ℕ
life_line f t life.Teardown hkid children = line_text f (codes "td") (life_fields t life.Teardown ++ children_fields children)
life_line f t l hkid children = line_text f (codes "td") (life_fields t l ++ field (codes " HKID ") (codes "hkid") (Number hkid) ∷ children_fields children)

-- what its TDCS says: the page where it stands, its op state, TD_EPOCH, how many virtual processors are in guest since this epoch
-- and since the one before, how many virtual processors and streams it has, and its session and migration epoch
abbrev pub tdcs_line : Form → ℕ → TdcsSeen → List ℕ
tdcs_line f t c =
    line_text f (codes "tdcs")
    (field (codes "td ") (codes "td") (Number t)
    ∷ field (codes " TDCS ") (codes "page") (Number c.page)
    ∷ field (codes " ") (codes "op") (Word (op_text c.op))
    ∷ field (codes " TD_EPOCH ") (codes "td_epoch") (Number c.epoch)
    ∷ field (codes " in guest ") (codes "in_guest") (Number c.entered)
    ∷ field (codes " before ") (codes "in_guest_before") (Number c.entered_before)
    ∷ field (codes " vcpus ") (codes "vcpus") (Number c.vcpus)
    ∷ field (codes " streams ") (codes "streams") (Number c.streams)
    ∷ field (codes " session ") (codes "session") (Number c.session)
    ∷ field (codes " epoch ") (codes "migration_epoch") (Number c.mig_epoch)
    ∷ [])

abbrev pub tdcs_text : Form → ℕ → Option TdcsSeen → List ℕ
tdcs_text f t None = []
tdcs_text f t (Some c) = tdcs_line f t c

-- a virtual processor, with the logical processor that it is associated with
abbrev pub vcpu_fields : ℕ → VcpuSeen → List FieldSeen
vcpu_fields v c =
    field (codes "vcpu ") (codes "vcpu") (Number v)
    ∷ field (codes " index ") (codes "index") (Number c.index)
    ∷ field (codes " ") (codes "state") (Word (vcpu_text c.state))
    ∷ field (codes " position ") (codes "position") (Number c.position)
    ∷ []

abbrev pub vcpu_line : Form → ℕ → VcpuSeen → Option ℕ → List ℕ
vcpu_line f v c None = line_text f (codes "vcpu") (vcpu_fields v c)
vcpu_line f v c (Some lp) =
    line_text f (codes "vcpu") (vcpu_fields v c ++ field (codes " lp ") (codes "processor") (Number lp) ∷ field (codes " TD_EPOCH ") (codes "td_epoch") (Number c.last_epoch) ∷ [])

-- a stream: bundles made or imported
abbrev pub stream_line : Form → ℕ → StreamSeen → List ℕ
stream_line f s c = line_text f (codes "stream") (field (codes "stream ") (codes "stream") (Number s) ∷ field (codes " counter ") (codes "counter") (Number c.counter) ∷ [])

-- an entry of a TD's secure EPT: the GPA where it begins, its level, its state and the page that it names, and the migration epoch of
-- its last export where it has one
abbrev pub entry_fields : (t level gpa : ℕ) → Entry → List FieldSeen
entry_fields t l g e =
    field (codes "entry ") (codes "gpa") (Address g)
    ∷ field (codes " level ") (codes "level") (Number l)
    ∷ field (codes " of ") (codes "td") (Number t)
    ∷ field (codes " ") (codes "state") (Word (entry_text e.state))
    ∷ field (codes " page ") (codes "page") (Number e.page)
    ∷ []

abbrev pub entry_line : Form → (t level gpa : ℕ) → Entry → List ℕ
entry_line f t l g e =
    if e.mark == 0 then line_text f (codes "entry") (entry_fields t l g e)
    else line_text f (codes "entry") (entry_fields t l g e ++ field (codes " mark ") (codes "mark") (Number e.mark) ∷ [])

-- an entry, unless it is FREE
abbrev pub in_use : Entry → Option Entry
in_use e = if is_free e.state then None else Some e

-- it, and behind it those below
abbrev pub entry_lines : Form → (t level gpa : ℕ) → (below : Entry → List ℕ) → Option Entry → List ℕ
entry_lines f t l g below None = []
entry_lines f t l g below (Some e) = entry_line f t l g e ++ below e

abbrev pub content_text : Form → ℕ → Content → List ℕ
content_text f p content.Nothing = []
content_text f p (content.Td t) = life_line f p t.life t.hkid t.children ++ tdcs_text f p t.tdcs
content_text f p (content.Vcpu v) = vcpu_line f p v v.associated
content_text f p (content.Stream s) = stream_line f p s

-- a page with what it has, unless it is the host's
abbrev pub page_text : Form → ℕ → Pamt → Content → List ℕ
page_text f p m c = if kind_number m.kind == kind_number kind.Nda then [] else page_line f p m ++ content_text f p c

-- how far a logical processor is: how many of its calls are done
abbrev pub done_line : Form → (p done calls : ℕ) → List ℕ
done_line f p done calls =
    line_text f (codes "done") (field (codes "lp ") (codes "processor") (Number p) ∷ field (codes " done ") (codes "done") (Number done) ∷ field (codes " of ") (codes "calls") (Number calls) ∷ [])

-- a lock that it holds, of which TD where it is one of a TD's four, and how: by its call, or by what its guest does
abbrev pub is_of_td : LockName → Bool
is_of_td (lock.Page p) = false
is_of_td lock.Keys = false
is_of_td _ = true

abbrev pub of_td_fields : LockName → (tdr : ℕ) → List FieldSeen
of_td_fields n t = if is_of_td n then field (codes " of ") (codes "td") (Number t) ∷ [] else []

abbrev pub holder_text : Holder → List ℕ
holder_text holder.Call = codes "call"
holder_text holder.Guest = codes "guest"

abbrev pub held_line : Form → (p : ℕ) → Holder → LockName → (tdr : ℕ) → Mode → List ℕ
held_line f p who n t m =
    line_text f (codes "holds")
    (field (codes "lp ") (codes "processor") (Number p)
    ∷ field (codes " ") (codes "holder") (Word (holder_text who))
    ∷ field (codes " holds ") (codes "lock") (Word (lock_text n))
    ∷ of_td_fields n t
    ++ field (codes " ") (codes "mode") (Word (mode_text m)) ∷ [])

-- the guest that it is in: its TD, its virtual processor, and how many operations it has completed of those that it may
abbrev pub guest_line : Form → (p tdr vp completed most : ℕ) → List ℕ
guest_line f p t v completed most =
    line_text f (codes "guest")
    (field (codes "lp ") (codes "processor") (Number p)
    ∷ field (codes " in guest of ") (codes "td") (Number t)
    ∷ field (codes " vcpu ") (codes "vcpu") (Number v)
    ∷ field (codes " completed ") (codes "completed") (Number completed)
    ∷ field (codes " of ") (codes "most") (Number most)
    ∷ [])

-- a translation that it has cached
abbrev pub access_text : Bool → List ℕ
access_text true = codes "READ WRITE"
access_text false = codes "READ"

abbrev pub cached_line : Form → (p tdr gpa_page page : ℕ) → (may_write : Bool) → List ℕ
cached_line f p t g page may_write =
    line_text f (codes "cached")
    (field (codes "lp ") (codes "processor") (Number p)
    ∷ field (codes " cached ") (codes "gpa") (PageAddress g)
    ∷ field (codes " of ") (codes "td") (Number t)
    ∷ field (codes " page ") (codes "page") (Number page)
    ∷ field (codes " ") (codes "access") (Word (access_text may_write))
    ∷ [])
