-- A host page's words are replaced, as a leaf does before its act.
use Rattle.std.proofs.Common.{◌≡◌, ℕ, ◌<◌, true, refl}
use Rattle.std.proofs.lemmas.Bool.{eq-eqb}
use Rattle.td_words.specs.declared.machines.Machine.{Machine}
use Rattle.flat_core.specs.World.{World, put}
use Rattle.flat_core.specs.Conditions.{is_host}
use Rattle.flat_core.specs.Effects.{set_page}
use Rattle.flat_core.specs.Lawful.{Lawful}
use Rattle.flat_core.specs.Event.{State}
use Rattle.flat_core.proofs.Tests.{host_kind}
use Rattle.word_rules.specs.Cells.{Shows}
use Rattle.leaf_engine.specs.Changes.{Memory, put_page}
use Rattle.leaf_parts.proofs.Aside.{aside, back, words-but}

-- by these words, which are those that the page has then
pub page-set : (m : Machine) (mem : Memory) (s : State) (p : ℕ) (xs ys : ℕ → ℕ) → ((i : ℕ) → i < 512 → ys i ≡ xs i) → Shows m mem.words mem.slots s → is_host s.world p ≡ true
    → Shows m (put_page mem.words p ys) mem.slots (record s { world = set_page p xs s.world })
page-set m mem s p xs ys same sh host = record {
  word = back (words-but (aside p m mem.words s sh.word) (put s.world.words p xs) (λ q i o. rw o refl)) (put_page mem.words p ys) (λ r. refl) (λ r. refl) (λ k. refl) (λ r i o. rw o refl)
      (λ i b. rw (host_kind (s.world.pages.kinds p) host, eq-eqb p p refl) (same i b));
  hasher = sh.hasher;
}

-- no invariant speaks of words
pub words-lawful : (m : Machine) (w : World) (words : ℕ → ℕ → ℕ) → Lawful m w → Lawful m (record w { words = words })
words-lawful m w words la = record { size = la.size; pages = la.pages; tds = la.tds; lists = la.lists; tree = la.tree; keys = la.keys; beginnings = la.beginnings; counts = la.counts; streams = la.streams; sessions = la.sessions }

pub set-lawful : (m : Machine) (w : World) (p : ℕ) (xs : ℕ → ℕ) → Lawful m w → Lawful m (set_page p xs w)
set-lawful m w p xs la = words-lawful m w (put w.words p xs) la
