-- The one law of a leaf. At one instant, over words that show a lawful state, its tree goes through the items of its row,
-- under the locks of its tries: each try is that lock at its place; each load stays as it is until the act, or is the act;
-- each condition is the row's; and at the end the stores are allowed, and laid over the words they show what the row's act
-- makes of the world.
use Rattle.std.specs.Prelude.{◌≡◌, ◌≢◌, ◌⊎◌, ℕ, zero, suc, ◌+◌, ◌<◌, ◌≤◌, true, false, Option, Some, None, List, [], ◌∷◌, ◌++◌, map, length}
use Rattle.td_words.specs.declared.names.PageKind.TheVariants as kind
use Rattle.td_words.specs.declared.machines.Machine.{Machine}
use Rattle.td_words.specs.declared.names.Access.{Access}
use Rattle.td_words.specs.declared.names.Access.TheVariants.{Read, Write}
use Rattle.td_words.specs.declared.replies.Outcome.{Outcome}
use Rattle.td_words.specs.declared.replies.Value.TheVariants as value
use Rattle.td_words.specs.declared.replies.Reply.{Reply}
use Rattle.td_words.specs.declared.replies.Reply.TheVariants.{Done, Exited}
use Rattle.td_words.specs.Packing.{Entry}
use Rattle.td_words.specs.Place.{WordPlace, IsIn, Word}
use Rattle.flat_core.specs.World.{World}
use Rattle.flat_core.specs.Processor.{LockId, Held, Translation, Guest, Entering, Note, LoadNote, RtmrNote, ReportNote}
use Rattle.flat_core.specs.Row.{Item, Check, Try, Row, OperationRow}
use Rattle.flat_core.specs.Digests.{digest_bytes}
use Rattle.flat_core.specs.Effects.{tell_words, leave_guest}
use Rattle.flat_core.specs.Translations.{look_up}
use Rattle.flat_core.specs.Tree.{page_of_gpa, number_at, entry_at, may_write}
use Rattle.flat_core.specs.Guest.{reach, reach_notes, word_reached, walk_level, goes_on, cached_after}
use Rattle.flat_core.specs.Lawful.{Lawful, IsPageOf, IsNodeOf}
use Rattle.flat_core.specs.Event.{State}
use Rattle.word_rules.specs.Guards.{Grip}
use Rattle.word_rules.specs.Rules.{View, Whole, Grade, KeepsNothing}
use Rattle.word_rules.specs.Permissions.{Reads, Sees, Writes, Owes, Fills, Tries, SwapsAct, SwapsOwed, Respects}
use Rattle.word_rules.specs.Cells.{Shows}
use Rattle.lock_words.specs.Grips.{lock_grip, grip_with}
use Rattle.lock_words.specs.LockWords.{place_of, Stands}
use Rattle.leaf_engine.specs.declared.needs.Place.{Place}
use Rattle.word_rules.specs.Views.{look, rights_by, IsKept}
use Rattle.leaf_engine.specs.Facts.{GuestFits, Facts}
use Rattle.leaf_engine.specs.Changes.{Memory, Change, Put, PutHash, Raise, Clear, Copy, Swap, changed, changed_all}
use Rattle.leaf_engine.specs.Trees.{Answer, added, Tree, Lock, Load, Test, End, Since, has_acted}

-- what a leaf does: a call by its row; an operation of a guest by its; a guest's access to a word of a page through a cached
-- translation; the load of an entry in a guest's walk, from the page where it stands; and the count step of the exit
pub data Meaning : Type 0 where
  OfCall : (row : Row) → Meaning
  OfOperation : (tdr vp : ℕ) (row : OperationRow) → Meaning
  OfAccess : (tdr vp line : ℕ) (access : Access) (register gpa page : ℕ) → Meaning
  OfWalk : (tdr vp : ℕ) (access : Access) (gpa level page : ℕ) → Meaning
  OfExit : (tdr vp : ℕ) (outcome : Outcome) → Meaning

-- a leaf: where it was made for, its tree, and its row
pub record Task : Type 0 where
  pub place : Place
  pub tree : Tree
  pub meaning : Meaning

-- a row as its leaf sees it

abbrev pub exit_of : Option Outcome → Reply
exit_of None = Done value.Nothing
exit_of (Some out) = Exited out

abbrev pub exit_item : Item (Option Outcome) → Item Reply
exit_item (Check b out) = Check b (exit_of out)
exit_item (Try l m) = Try l m

-- an operation that is completed answers what it read or stored; no reply shows a report
abbrev pub operation_reply : List Note → List ℕ → Option Outcome → Reply
operation_reply notes told (Some out) = Exited out
operation_reply (LoadNote line gpa word ∷ notes) told None = Done (value.Number word)
operation_reply (RtmrNote line index words ∷ notes) told None = Done (value.Digest (digest_bytes words))
operation_reply (ReportNote line facts ∷ notes) told None = Done value.Nothing
operation_reply [] (x ∷ xs) None = Done (value.Number x)
operation_reply [] [] None = Done value.Nothing

-- where it is told: a state, what memory is there, and the locks that the processor holds besides the leaf's own
pub record Instant : Type 0 where
  pub state : State
  pub memory : Memory
  pub me : ℕ
  pub kept : List Held

-- what it has of the guards by its locks alone, which no step of another takes from it
abbrev pub hold : Instant → List Held → Grip
hold c hs = lock_grip (hs ++ c.kept)

-- and, at that instant, by what is cached as well: its own translations, and that no other's reach a page
abbrev pub grasp_of : Instant → List Held → Grip
grasp_of c hs = grip_with c.state c.me (hs ++ c.kept)

-- what there is to do: a row, with what it makes of its processor besides its reply, and what its act and the stores before
-- it are guarded by
pub record Work : Type 0 where
  pub items : World → List (Item Reply)
  pub act : World → World
  pub reply : World → Reply
  pub cached : World → List Translation → List Translation
  pub enters : Option Entering
  pub notes : World → List Note
  pub tells : World → List ℕ
  pub grasp : Instant → List Held → Grip

-- a single event that makes nothing of its processor
abbrev pub event_work : (World → World) → (World → Reply) → Work
event_work act reply = record { items = λ w. []; act = act; reply = reply; cached = λ w ts. ts; enters = None; notes = λ w. []; tells = λ w. []; grasp = hold }

abbrev pub access_word : Access → (vp register gpa page : ℕ) → World → ℕ
access_word Read v r gpa page w = word_reached w page gpa
access_word Write v r gpa page w = w.hidden.registers v r

-- the translations once an entry of a TD was loaded
abbrev pub cached_by : Access → (level gpa tdr : ℕ) → Entry → List Translation → List Translation
cached_by access level gpa t e ts = cached_after (goes_on access level e) level (record { tdr = t; gpa_page = page_of_gpa gpa; page = e.page; may_write = may_write e.state }) ts

abbrev pub work_of : Meaning → Work
work_of (OfCall row) = record {
  items = row.items;
  act = row.act;
  reply = λ w. Done (row.value w);
  cached = row.cached;
  enters = row.enters;
  notes = λ w. [];
  tells = λ w. [];
  grasp = hold;
}
work_of (OfOperation t v row) = record {
  items = λ w. map exit_item (row.items w);
  act = λ w. tell_words (row.tells w) (row.act w);
  reply = λ w. operation_reply (row.notes w) (row.tells w) (row.answer w);
  cached = λ w ts. ts;
  enters = None;
  notes = row.notes;
  tells = row.tells;
  grasp = grasp_of;
}
-- what an access answers: the word
work_of (OfAccess t v line access r gpa page) =
    record (event_work (reach t v access r gpa page) (λ w. Done (value.Number (access_word access v r gpa page w)))) { notes = λ w. reach_notes w access line gpa page; grasp = grasp_of }
-- the load of an entry: which page it names, and what it allows
work_of (OfWalk t v access gpa level page) =
    record (event_work (λ w. w) (λ w. Done (value.Number (rights_by (entry_at w t level gpa))))) { cached = λ w ts. cached_by access level gpa t (entry_at w t level gpa) ts }
work_of (OfExit t v out) = event_work (leave_guest v) (λ w. Exited out)

-- the virtual processor that is in guest on it, under the locks of its VP.ENTER
pub record IsInGuest (c : Instant) (t v : ℕ) (g : Guest) : Type 0 where
  pub guest : (c.state.lps c.me).guest ≡ Some g
  pub td : g.tdr ≡ t
  pub vp : g.vp ≡ v
  pub fits : GuestFits c.state.world c.me c.kept t v

-- it stands at an operation of its list, which has at most 256
abbrev pub IsAtOperation : World → (vp : ℕ) → Type 0
IsAtOperation w v = w.vps.positions v < 256

-- the page where the entry of a level stands that maps a GPA: the root, or the node above it
abbrev pub IsEntryPage : World → (tdr level gpa page : ℕ) → Type 0
IsEntryPage w t (suc (suc (suc zero))) gpa page = (d : ℕ) × (w.tds.controls t ≡ d ∷ page ∷ [])
IsEntryPage w t level gpa page = IsNodeOf w.pages t page kind.Ept (suc level) (number_at (suc level) gpa)

-- who makes it: a call's processor has no guest, an operation's has
abbrev pub IsMaker : Meaning → Instant → Type 0
IsMaker (OfCall row) c = ((c.state.lps c.me).guest ≡ None) × (c.kept ≡ [])
IsMaker (OfOperation t v row) c = (g : Guest) × IsInGuest c t v g × IsAtOperation c.state.world v
IsMaker (OfAccess t v line access r gpa page) c =
    (g : Guest) × IsInGuest c t v g × IsAtOperation c.state.world v × (line ≡ length (c.state.lps c.me).replies + 1) × (look_up (c.state.lps c.me).cached t (page_of_gpa gpa) access ≡ Some page) × IsPageOf c.state.world.pages t page kind.Reg
IsMaker (OfWalk t v access gpa level page) c = (g : Guest) × IsInGuest c t v g × (walk_level g.walk ≡ level) × IsEntryPage c.state.world t level gpa page
IsMaker (OfExit t v out) c = (g : Guest) × IsInGuest c t v g

-- the premise of the law
pub record IsAt (task : Task) (c : Instant) : Type 0 where
  pub processor : c.me ≡ task.place.lp
  pub lawful : Lawful task.place.machine c.state.world
  pub shown : Shows task.place.machine c.memory.words c.memory.slots c.state
  pub empty_hand : c.memory.hand ≡ None
  pub nothing_to_tell : c.state.world.outgoing.to_tell ≡ None
  pub facts : Facts c.state
  pub maker : IsMaker task.meaning c

-- a try is of that lock, at its place, which stands
pub record Locks (m : Machine) (c : Instant) (hs : List Held) (l : LockId) (q : WordPlace) : Type 0 where
  pub in_machine : IsIn m q
  pub at : q ≡ place_of c.state.world l
  pub stands : Stands c.state.world l
  pub allowed : Tries (hold c hs) c.state.world q

-- a load stays until the act, as far as it is looked at, by locks alone; or it finds what is shown, and is the act; or it
-- stays by what is cached as well, as of a page that no guest may write to any more
abbrev pub Loads : Instant → Work → List Held → View → WordPlace → (ℕ → Tree) → Type 0
Loads c k hs v q further =
    Reads (hold c hs) c.state.world q v
    ⊎ ((Sees (k.grasp c hs) c.state.world q v × (has_acted (further (look v (c.memory.words q))) ≡ true)) ⊎ Reads (grasp_of c hs) c.state.world q v)

-- a page's words, each
abbrev pub EachWord : (WordPlace → Type 0) → ℕ → Type 0
EachWord P p = (i : ℕ) → i < 512 → P (Word p i)

-- a store before the act
abbrev pub MayFill : Machine → Grip → World → Change → Type 0
MayFill m g w (Put q x) = IsIn m q × Fills g w q
MayFill m g w (Clear p) = (p < m.pages) × EachWord (Fills g w) p
MayFill m g w (Copy p q) = (p < m.pages) × (q < m.pages) × (p ≢ q) × EachWord (Fills g w) q
MayFill m g w _ = ⊥

-- the words that it copies stay until the act, as a load does
abbrev pub MayTake : Grip → World → Change → Type 0
MayTake h w (Copy p q) = EachWord (λ r. Reads h w r Whole) p
MayTake h w _ = Unit {0}

abbrev pub MayTakeAll : Grip → World → List Change → Type 0
MayTakeAll h w [] = Unit {0}
MayTakeAll h w (c ∷ cs) = MayTake h w c × MayTakeAll h w cs

abbrev pub MayFillAll : Machine → Grip → World → List Change → Type 0
MayFillAll m g w [] = Unit {0}
MayFillAll m g w (c ∷ cs) = MayFill m g w c × MayFillAll m g w cs

-- the stores before the act, by what it acts under, and the words that they copy, by what is cached as well
abbrev pub FillsAllowed : Machine → (act wide : Grip) → World → List Change → Type 0
FillsAllowed m g h w [] = Unit {0}
FillsAllowed m g h w (c ∷ cs) = MayFillAll m g w (c ∷ cs) × MayTakeAll h w (c ∷ cs)

abbrev pub IsHkid : Machine → ℕ → Type 0
IsHkid m h = (1 ≤ h) × (h ≤ m.hkids)

-- the act's store, by the world before it
abbrev pub MayAct : Machine → Grip → World → Memory → Change → Type 0
MayAct m g w mem (Put q x) = IsIn m q × ((k : Grade) × Writes g w q k × IsKept k (mem.words q) x)
MayAct m g w mem (PutHash q x) = IsIn m q × Writes g w q KeepsNothing
MayAct m g w mem (Raise q more) = IsIn m q × Writes g w q KeepsNothing
MayAct m g w mem (Swap h made) = IsHkid m h × SwapsAct g w h
MayAct m g w mem _ = ⊥

-- a store that comes after it, by the world after it
abbrev pub MayOwe : Machine → Grip → World → Memory → Change → Type 0
MayOwe m g w mem (Put q x) = IsIn m q × ((k : Grade) × Owes g w q k × IsKept k (mem.words q) x)
MayOwe m g w mem (PutHash q x) = IsIn m q × Owes g w q KeepsNothing
MayOwe m g w mem (Clear p) = (p < m.pages) × EachWord (λ r. Owes g w r KeepsNothing) p
MayOwe m g w mem (Swap h made) = IsHkid m h × SwapsOwed g w h
MayOwe m g w mem _ = ⊥

abbrev pub MayOweAll : Machine → Grip → World → Memory → List Change → Type 0
MayOweAll m g w mem [] = Unit {0}
MayOweAll m g w mem (c ∷ cs) = MayOwe m g w mem c × MayOweAll m g w (changed c mem) cs

-- the act's store and those after it, in a world before it and one after it
abbrev pub MayChangeBy : Machine → (now later : Grip) → (before after : World) → Memory → List Change → Type 0
MayChangeBy m g h w w' mem [] = Unit {0}
MayChangeBy m g h w w' mem (c ∷ cs) = MayAct m g w mem c × MayOweAll m h w' (changed c mem) cs

abbrev pub MayChange : Machine → Grip → (before after : World) → Memory → List Change → Type 0
MayChange m g w w' mem cs = MayChangeBy m g g w w' mem cs

-- the state after an act, as far as words show it
abbrev pub acted : Work → State → State
acted k s = record s { world = k.act s.world }

-- the locks held stay where they are, and stand
abbrev pub LocksStay : (before after : World) → List Held → Type 0
LocksStay w w' [] = Unit {0}
LocksStay w w' (h ∷ hs) = ((place_of w' h.lock ≡ place_of w h.lock) × (Stands w h.lock → Stands w' h.lock)) × LocksStay w w' hs

-- an answer is what there was to do, in each of its parts; the bundles are those that the act adds
pub record AnswersAs (k : Work) (w : World) (a : Answer) : Type 0 where
  pub reply_is : a.reply ≡ k.reply w
  pub cached_is : a.cached ≡ k.cached w
  pub enters_is : a.enters ≡ k.enters
  pub notes_are : a.notes ≡ k.notes w
  pub tells_are : a.tells ≡ k.tells w
  pub bundles_are : (k.act w).outgoing.bundles ≡ added w.outgoing.bundles a.bundles

-- the changes are allowed, and are the act
pub record Acts (m : Machine) (c : Instant) (k : Work) (hs : List Held) (answer : Answer) (fills changes : List Change) : Type 0 where
  pub answers : AnswersAs k c.state.world answer
  pub fills_allowed : FillsAllowed m (k.grasp c hs) (grasp_of c hs) c.state.world fills
  pub respects : Respects (k.grasp c hs) c.state.world (k.act c.state.world)
  pub locks_stay : LocksStay c.state.world (k.act c.state.world) hs
  pub shows : let mem = changed_all changes (changed_all fills c.memory) in Shows m mem.words mem.slots (acted k c.state)

-- the row's items, with the tries so far
abbrev pub Means : Machine → Instant → Work → List Held → Tree → List (Item Reply) → Type 0
Means m c k hs (Lock l q mode t) (Try l' mode' ∷ r) = (l ≡ l') × (mode ≡ mode') × Locks m c hs l q × Means m c k (record { lock = l; mode = mode } ∷ hs) t r
Means m c k hs (Lock l q mode t) _ = ⊥
Means m c k hs (Load v q t) items = IsIn m q × Loads c k hs v q t × Means m c k hs (t (look v (c.memory.words q))) items
Means m c k hs (Test b out t) (Check b' out' ∷ r) = (b ≡ b') × (b ≡ false → out ≡ out') × (b' ≡ true → Means m c k hs t r)
Means m c k hs (Test b out t) _ = ⊥
Means m c k hs (End answer fills cs) [] =
    Acts m c k hs answer fills cs × MayChangeBy m (k.grasp c hs) (hold c hs) c.state.world (k.act c.state.world) (changed_all fills c.memory) cs
Means m c k hs (End answer fills cs) _ = ⊥
Means m c k hs (Since answer cs) [] = Acts m c k hs answer [] cs × MayOweAll m (hold c hs) (k.act c.state.world) c.memory cs
Means m c k hs (Since answer cs) _ = ⊥

-- a leaf means its row
pub record MeansRow (task : Task) : Type 0 where
  pub means : (c : Instant) → IsAt task c → let k = work_of task.meaning in Means task.place.machine c k [] task.tree (k.items c.state.world)
