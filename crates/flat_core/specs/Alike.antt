-- Two worlds that differ in private words alone: the words of private pages, registers, RTMRs, guests' memories, what is noted of
-- TDs at a pause and at a commit, and payloads of private bundles. The same words were told, and the bundles made have the same
-- slots, headers, lengths and public payloads.
use Rattle.flat_core.specs.Lawful.{Lawful}
use Rattle.flat_core.specs.Conditions.{same_kind}
use Rattle.td_words.specs.declared.machines.Machine.{Machine}
use Rattle.td_words.specs.declared.names.OpState.TheVariants as op
use Rattle.td_words.specs.declared.names.OpState.{OpState}
use Rattle.std.specs.Prelude.{◌≡◌, ℕ, List, ◌++◌, map, Some, None, Bool, true, false, not, ◌||◌}
use Rattle.td_words.specs.declared.names.PageKind.TheVariants as kind
use Rattle.flat_core.specs.World.{World, Pages, Tds}
use Rattle.flat_core.specs.Processor.{Translation}
use Rattle.flat_core.specs.Opening.{public_bundle}
use Rattle.flat_core.specs.Row.{Row, OperationRow, Passes}
use Rattle.flat_core.specs.Effects.{tell_words}
use Rattle.flat_core.specs.Guest.{Operation, ByRow, Private}

-- until MR.FINALIZE no guest of a TD has run, and its pages hold what the host put there
abbrev pub is_being_built : OpState → Bool
is_being_built op.Uninitialized = true
is_being_built op.Initialized = true
is_being_built _ = false

-- the words of a private page are its guest's alone, once its TD is built
abbrev pub is_public : Pages → Tds → ℕ → Bool
is_public pages tds p = not (same_kind (pages.kinds p) kind.Reg) || is_being_built (tds.ops (pages.owners p))

pub record Alike (v w : World) : Type 0 where
  pub size : v.size ≡ w.size
  pub pages : v.pages ≡ w.pages
  pub words : (p i : ℕ) → is_public v.pages v.tds p ≡ true → v.words p i ≡ w.words p i
  pub tds : v.tds ≡ w.tds
  pub vps : v.vps ≡ w.vps
  pub streams : v.streams ≡ w.streams
  pub key_table : v.key_table ≡ w.key_table
  pub told : v.outgoing.told ≡ w.outgoing.told
  pub bundles : map public_bundle v.outgoing.bundles ≡ map public_bundle w.outgoing.bundles

-- A call's rows in two worlds: they ask and answer the same, and their acts keep the worlds alike.
pub record AreBlind (m : Machine) (r q : Row) : Type 0 where
  pub enters : r.enters ≡ q.enters
  pub items : (v w : World) → Alike v w → r.items v ≡ q.items w
  pub value : (v w : World) → Alike v w → r.value v ≡ q.value w
  pub cached : (v w : World) (ts : List Translation) → Alike v w → r.cached v ts ≡ q.cached w ts
  pub act : (v w : World) → Lawful m v → Lawful m w → Alike v w → Passes (r.items v) → Alike (r.act v) (q.act w)

-- Two such worlds, where the guests of the first tell their registers' words, and those of the second have these to tell
pub record TellAlike (v w : World) (words : List ℕ) : Type 0 where
  pub alike : Alike v w
  pub own : v.outgoing.to_tell ≡ None
  pub given : w.outgoing.to_tell ≡ Some words

-- A guest operation's rows, where the second world has the words to tell that the first one's act tells, and then others:
-- they ask, answer and tell the same, and their acts, with the words told, keep the worlds alike. Their notes may differ.
pub record AreBlindActs (r q : OperationRow) : Type 0 where
  pub items : (v w : World) → Alike v w → r.items v ≡ q.items w
  pub answer : (v w : World) (rest : List ℕ) → TellAlike v w (r.tells v ++ rest) → r.answer v ≡ q.answer w
  pub tells : (v w : World) (rest : List ℕ) → TellAlike v w (r.tells v ++ rest) → r.tells v ≡ q.tells w
  pub act : (v w : World) (rest : List ℕ) → TellAlike v w (r.tells v ++ rest) → TellAlike (tell_words (r.tells v) (r.act v)) (tell_words (q.tells w) (q.act w)) rest

-- the operation, however it is done: a private access is the same one
abbrev pub AreBlindOperations : Operation → Operation → Type 0
AreBlindOperations (ByRow r) (ByRow q) = AreBlindActs r q
AreBlindOperations (Private access r gpa) x = x ≡ Private access r gpa
AreBlindOperations (ByRow r) (Private access q gpa) = ⊥
