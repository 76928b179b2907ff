-- What a turn without a run of its leaf makes, and what is kept in place of that run.
use Rattle.std.specs.Prelude.{◌≡◌, ℕ, ◌+◌, ◌%◌, ◌^◌, List, [], ◌∷◌, Option, Some, None, option_map, IfSome, MatchOption}
use Rattle.td_words.specs.declared.machines.Machine.{Machine}
use Rattle.td_words.specs.declared.replies.Reply.{Reply}
use Rattle.td_words.specs.Address.{word_at}
use Rattle.step_core.specs.declared.steps.WordStep.TheVariants as step
use Rattle.step_core.specs.declared.items.Taken.{Taken}
use Rattle.step_core.specs.declared.items.Taken.TheVariants.{Stepped}
use Rattle.leaf_engine.specs.declared.events.Event.{Event}
use Rattle.leaf_engine.specs.declared.events.Event.TheVariants as event
use Rattle.leaf_engine.specs.declared.events.RunTurn.{RunTurn}
use Rattle.leaf_engine.specs.declared.events.Stage.{Stage}
use Rattle.leaf_engine.specs.declared.events.Stage.TheVariants as stage
use Rattle.leaf_engine.specs.Trees.{Tree, settle}
use Rattle.leaf_engine.specs.Turns.{Standing, standing, Turned}
use Rattle.guest_turns.specs.declared.runs.LeafTurn.{LeafTurn}
use Rattle.guest_turns.specs.declared.words.Moved.{Moved}

-- the reply that came with a turn's act
abbrev pub act_of : Event → Stage → Option Reply
act_of event.Act (stage.Answered r) = Some r
act_of _ _ = None

-- a turn's event and its reply, without the reply of its act
abbrev pub turn_of : LeafTurn → RunTurn
turn_of t = record { event = t.event; reply = t.reply }

-- what is kept of a run after a turn: nothing where its reply has come
abbrev pub kept_after : Option Reply → Standing → Option Standing
kept_after None s = Some s
kept_after (Some reply) s = None

-- from the start of its run a tree came to its act in one turn, with this reply, and holds nothing
abbrev pub MadeAtOnce : {B : Type 0} → (List Taken → B → Type 0) → Machine → Tree → B → Reply → Type 0
MadeAtOnce did m t bench reply = (rest : Tree) × Turned did m (standing (settle t) stage.Trying [] None) bench (standing rest (stage.Answered reply) [] None) (record { event = event.Act; reply = Some reply })

-- a word was loaded and stored, between the load of its processor's position and the store of the one behind it
abbrev pub HasMoved : {B : Type 0} → (List Taken → B → Type 0) → (vp from to : ℕ) → B → Moved → Type 0
HasMoved did v from to bench w =
    did (Stepped (step.Load (word_at v 4)) w.position ∷ Stepped (step.Load from) w.word ∷ Stepped (step.Store to w.word) 0 ∷ Stepped (step.Store (word_at v 4) ((w.position + 1) % 2 ^ 64)) 0 ∷ []) bench

-- The turn of a run that stood there, where what is kept of it is a small record that stands where the run would; and what is
-- so of that record in its machine.
pub record ShortTurned {A : Type 0} {B : Type 0} (stands_at : A → Standing) (IsAt : Machine → A → Type 0) (did : List Taken → B → Type 0) (m : Machine) (s : Standing) (bench : B) (kept : Option A) (result : LeafTurn) : Type 0 where
  pub stands : Standing
  pub turned : Turned did m s bench stands (turn_of result)
  pub act_is : result.act ≡ act_of result.event stands.stage
  pub seen : option_map stands_at kept ≡ kept_after result.reply stands
  pub inside : IfSome kept (IsAt m)

-- the next turn of the one that is kept
abbrev pub ShortGoesOn : {A : Type 0} → {B : Type 0} → (A → Standing) → (Machine → A → Type 0) → (List Taken → B → Type 0) → Machine → Option A → B → Option A → LeafTurn → Type 0
ShortGoesOn stands_at IsAt did m before bench kept result = MatchOption before ⊥ (λ r. ShortTurned stands_at IsAt did m (stands_at r) bench kept result)
