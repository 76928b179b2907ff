-- Own lists: the word steps that a logical processor makes, in its order, with their answers, and which of them are events.
use Rattle.std.specs.Prelude.{◌≡◌, ℕ, zero, suc, ◌+◌, Bool, true, false, Option, Some, None, List, [], ◌∷◌, ◌++◌, map, length}
use Rattle.td_words.specs.declared.machines.Machine.{Machine}
use Rattle.td_words.specs.declared.calls.Call.{Call}
use Rattle.td_words.specs.declared.calls.GuestOp.{GuestOp}
use Rattle.td_words.specs.declared.replies.Reply.{Reply}
use Rattle.step_core.specs.declared.items.Taken.{Taken}
use Rattle.leaf_engine.specs.declared.needs.Need.{Need}
use Rattle.leaf_engine.specs.declared.needs.Need.TheVariants as need
use Rattle.leaf_engine.specs.declared.events.Event.{Event}
use Rattle.leaf_engine.specs.declared.events.RunTurn.{RunTurn}
use Rattle.leaf_engine.specs.declared.events.Stage.{Stage}
use Rattle.leaf_engine.specs.declared.events.Stage.TheVariants as stage
use Rattle.leaf_engine.specs.Changes.{Change, Clear, Copy}
use Rattle.leaf_engine.specs.Trees.{Tree, End, Since, settle, passed}
use Rattle.leaf_engine.specs.Besides.{Beside, nothing_beside, beside_after}
use Rattle.leaf_engine.specs.Means.{Task}
use Rattle.leaf_engine.specs.Guests.{WordGuest, guest_after, Step, Leaves, step_of, stepped, gives_epoch_back}
use Rattle.leaf_engine.specs.Turns.{Standing, standing, Advances, TurnBy, IsTurn, has_ended, last_reply}

-- a piece of an own list: a word step that is no event, one that is, or an event without a word step
pub data Piece : Type 0 where
  Unmarked : (taken : Taken) → Piece
  Marked : (taken : Taken) → Piece
  Wordless : Piece

-- what is taken on a bench
abbrev pub taken_in : List Piece → List Taken
taken_in [] = []
taken_in (Unmarked x ∷ ps) = x ∷ taken_in ps
taken_in (Marked x ∷ ps) = x ∷ taken_in ps
taken_in (Wordless ∷ ps) = taken_in ps

-- lists of pieces one after another
abbrev pub joined : List (List Piece) → List Piece
joined [] = []
joined (ps ∷ pss) = ps ++ joined pss

-- how many items a change is made in
abbrev pub items_of : Change → ℕ
items_of (Clear p) = 512
items_of (Copy p q) = 1024
items_of _ = 1

abbrev pub items_in : List Change → ℕ
items_in [] = 0
items_in (c ∷ cs) = items_of c + items_in cs

-- where the event is the last item, and where it is the one behind so many; if there is none, it has no word step
abbrev pub last_marked : List Taken → List Piece
last_marked [] = Wordless ∷ []
last_marked (x ∷ []) = Marked x ∷ []
last_marked (x ∷ y ∷ xs) = Unmarked x ∷ last_marked (y ∷ xs)

abbrev pub marked_behind : ℕ → List Taken → List Piece
marked_behind n [] = Wordless ∷ []
marked_behind zero (x ∷ xs) = Marked x ∷ map Unmarked xs
marked_behind (suc n) (x ∷ xs) = Unmarked x ∷ marked_behind n xs

-- The act is the first store that isn't a fill; of one that stores nothing the last load since the last try, which also
-- is the act of a leaf whose stores come after it.
abbrev pub act_pieces : Tree → (loads changes : List Taken) → List Piece
act_pieces (End r [] []) loads xs = last_marked loads
act_pieces (End r fs cs) loads xs = map Unmarked loads ++ marked_behind (items_in fs) xs
act_pieces (Since r cs) loads xs = last_marked loads ++ map Unmarked xs
act_pieces _ loads xs = []

-- a try is the last item of its turn
abbrev pub pieces_for : Need → Tree → (loads items changes : List Taken) → List Piece
pieces_for (need.Verdict r) t loads items changes = act_pieces t loads changes
pieces_for _ t loads items changes = last_marked items

-- what is left of a turn's items behind its loads
abbrev pub behind : List Taken → List Taken → List Taken
behind [] xs = xs
behind (l ∷ ls) [] = []
behind (l ∷ ls) (x ∷ xs) = behind ls xs

-- the turn of a leaf on its way in pieces
pub record GoesIn (m : Machine) (s : Standing) (ps : List Piece) (s' : Standing) (e : Event) : Type 0 where
  pub items : List Taken
  pub goes : Advances m s items s' e
  pub pieces : ps ≡ pieces_for goes.need (passed (settle goes.tree)) goes.loads items (behind goes.loads items)

-- every other turn is one step
pub record StepsIn (m : Machine) (s : Standing) (ps : List Piece) (s' : Standing) (e : Event) : Type 0 where
  pub items : List Taken
  pub turn : TurnBy s.stage m s items s' e
  pub pieces : ps ≡ last_marked items

abbrev pub TurnIn : Stage → Machine → Standing → List Piece → Standing → Event → Type 0
TurnIn stage.Trying m s ps s' e = GoesIn m s ps s' e
TurnIn _ m s ps s' e = StepsIn m s ps s' e

-- how many events are among these pieces
abbrev pub events_among : List Piece → ℕ
events_among [] = 0
events_among (Unmarked x ∷ ps) = events_among ps
events_among (Marked x ∷ ps) = suc (events_among ps)
events_among (Wordless ∷ ps) = suc (events_among ps)

-- Every turn of a run can be told in pieces: its items in order, with one event among them.
pub record TurnsInPieces : Type 0 where
  pub told : (m : Machine) (s s' : Standing) (xs : List Taken) (result : RunTurn) → IsTurn m s xs s' result
      → (ps : List Piece) × TurnIn s.stage m s ps s' result.event × (taken_in ps ≡ xs)
  pub one : (m : Machine) (s s' : Standing) (ps : List Piece) (e : Event) → TurnIn s.stage m s ps s' e → events_among ps ≡ 1

-- what a logical processor makes its events by: the leaf of each call, and of each step of a guest of a TD's virtual processor
-- at a call line; and the lists of operations, by TDR page and index
pub record LeafTable : Type 0 where
  pub call : Call → Task
  pub step : (tdr vp line : ℕ) → Step → Task
  pub codes : ℕ → ℕ → List GuestOp

-- a logical processor over words: its lines from the present one on, the run of that line's leaf once its first event is
-- made, the guest that it is in, its replies, and what it has besides
pub record WordLp : Type 0 where
  pub lines : List Call
  pub run : Option Standing
  pub guest : Option WordGuest
  pub replies : List Reply
  pub beside : Beside

abbrev pub first_lp : List Call → WordLp
first_lp cs = record { lines = cs; run = None; guest = None; replies = []; beside = nothing_beside }

abbrev pub running : Task → Option Standing → Standing
running task None = standing (settle task.tree) stage.Trying [] None
running task (Some s) = s

abbrev pub after_turn : Call → List Call → Option WordGuest → List Reply → Beside → Standing → Option Reply → WordLp
after_turn c cs g rs b s None = record { lines = c ∷ cs; run = Some s; guest = g; replies = rs; beside = b }
after_turn c cs g rs b s (Some r) = record { lines = cs; run = None; guest = None; replies = rs ++ r ∷ []; beside = b }

-- a turn of the run of a processor's present line, in pieces; the guest that it enters, and what the leaf answers besides its
-- reply, come with its act
pub record LineTurn (leaf : Call → Task) (m : Machine) (c : Call) (cs : List Call) (run : Option Standing) (g : Option WordGuest) (rs : List Reply) (b : Beside) (e : Event) (ps : List Piece) (after : WordLp) : Type 0 where
  pub stands : Standing
  pub turn : TurnIn (running (leaf c) run).stage m (running (leaf c) run) ps stands e
  pub going : has_ended (running (leaf c) run).stage (running (leaf c) run).held ≡ false
  pub after_is : after ≡ after_turn c cs (guest_after e stands.rest g) rs (beside_after e stands.rest b) stands (last_reply stands.stage stands.held)

-- its VP.ENTER is answered at the exit
abbrev pub line_after : Step → Reply → Standing → Standing
line_after (Leaves out) r line = record line { stage = stage.Answered r }
line_after _ r line = line

abbrev pub after_step : Call → List Call → (line : Standing) → WordGuest → List Reply → Beside → Step → Standing → Option Reply → WordLp
after_step c cs line g rs b step s None = record { lines = c ∷ cs; run = Some line; guest = Some (record g { run = Some s }); replies = rs; beside = b }
after_step c cs line g rs b step s (Some r) = record { lines = c ∷ cs; run = Some (line_after step r line); guest = stepped step r g; replies = rs; beside = b }

-- the leaf of a guest's next step, and a turn of its run
abbrev pub step_leaf : LeafTable → WordGuest → List Reply → Beside → Task
step_leaf t g rs b = t.step g.tdr g.vp (length rs + 1) (step_of t.codes b.cached g)

pub record GuestTurn (t : LeafTable) (m : Machine) (c : Call) (cs : List Call) (line : Standing) (g : WordGuest) (rs : List Reply) (b : Beside) (e : Event) (ps : List Piece) (after : WordLp) : Type 0 where
  pub stands : Standing
  pub turn : TurnIn (running (step_leaf t g rs b) g.run).stage m (running (step_leaf t g rs b) g.run) ps stands e
  pub going : has_ended (running (step_leaf t g rs b) g.run).stage (running (step_leaf t g rs b) g.run).held ≡ false
  pub after_is : after ≡ after_step c cs line g rs (beside_after e stands.rest b) (step_of t.codes b.cached g) stands (last_reply stands.stage stands.held)

-- in a guest, its VP.ENTER gives E back first
abbrev pub EnteredTurn : LeafTable → Machine → Call → List Call → (line : Standing) → WordGuest → List Reply → Beside → Event → List Piece → WordLp → Bool → Type 0
EnteredTurn t m c cs line g rs b e ps after true = LineTurn t.call m c cs (Some line) (Some g) rs b e ps after
EnteredTurn t m c cs line g rs b e ps after false = GuestTurn t m c cs line g rs b e ps after

abbrev pub CallTurn : LeafTable → Machine → Call → List Call → Option Standing → Option WordGuest → List Reply → Beside → Event → List Piece → WordLp → Type 0
CallTurn t m c cs run None rs b e ps after = LineTurn t.call m c cs run None rs b e ps after
CallTurn t m c cs None (Some g) rs b e ps after = ⊥
CallTurn t m c cs (Some line) (Some g) rs b e ps after = EnteredTurn t m c cs line g rs b e ps after (gives_epoch_back line.held)

-- A processor makes this event in these pieces; none where it has no line left.
abbrev pub LinesTurn : LeafTable → Machine → List Call → Option Standing → Option WordGuest → List Reply → Beside → Event → List Piece → WordLp → Type 0
LinesTurn t m [] run g rs b e ps after = ⊥
LinesTurn t m (c ∷ cs) run g rs b e ps after = CallTurn t m c cs run g rs b e ps after

abbrev pub LpTurns : LeafTable → Machine → WordLp → Event → List Piece → WordLp → Type 0
LpTurns t m p e ps q = LinesTurn t m p.lines p.run p.guest p.replies p.beside e ps q

-- its own list over any number of turns, turn by turn
abbrev pub OwnTurns : LeafTable → Machine → WordLp → List (List Piece) → WordLp → Type 0
OwnTurns t m p [] q = p ≡ q
OwnTurns t m p (ps ∷ pss) q = (e : Event) × ((r : WordLp) × LpTurns t m p e ps r × OwnTurns t m r pss q)
