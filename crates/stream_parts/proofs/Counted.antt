-- A stream has counted a bundle: what words show, what changes of what they are, and who may still store the counter.
use Rattle.std.proofs.Common.{◌≡◌, ℕ, ◌+◌, ◌<◌, true, false, ◌==◌, List, Option, Some, refl, ap, sym, ◌∙◌, subst, inl, inr}
use Rattle.std.proofs.lemmas.Bool.{eq-eqb, eqb-true}
use Rattle.td_words.specs.declared.names.PageKind.TheVariants as kind
use Rattle.td_words.specs.declared.names.LifeState.TheVariants as life
use Rattle.td_words.specs.declared.machines.Machine.{Machine}
use Rattle.td_words.specs.NameNumber.{life_number}
use Rattle.td_words.specs.Place.{WordPlace}
use Rattle.td_words.specs.Place as place
use Rattle.flat_core.specs.World.{World, Streams, Made, Outgoing}
use Rattle.flat_core.specs.Processor.{OfPage, OfOp}
use Rattle.flat_core.specs.Effects.{add_bundle}
use Rattle.flat_core.specs.Lawful.{IsPageOf}
use Rattle.flat_core.specs.Sessions.{About, stream_page, stream_counter, count_bundle, make_bundle}
use Rattle.flat_core.specs.Event.{State}
use Rattle.flat_core.proofs.Tests.{by_test}
use Rattle.word_rules.specs.Guards.{Grip, Locked}
use Rattle.word_rules.specs.Lines.{in_lines}
use Rattle.word_rules.specs.Rules.{StreamWord, KeepsNothing, owes}
use Rattle.word_rules.specs.Permissions.{Owes, Respects}
use Rattle.word_rules.specs.Cells.{Shows, IsAs, stream_lines}
use Rattle.lock_words.specs.LockWords.{put_word}
use Rattle.act_rules.proofs.Respected.{leaves, all-same}
use Rattle.leaf_engine.specs.Changes.{Memory, Put, changed}
use Rattle.leaf_parts.proofs.Aside.{aside, back, kept-but, control-kept}
use Rattle.leaf_parts.proofs.Checks.{spot_of, at-spot}
use Rattle.stream_parts.proofs.StreamWords.{stream-spot, stream-shown}

pub bundle-respects : (g : Grip) (w : World) (t slot : ℕ) (a : About) (payload : List ℕ) → Respects g w (make_bundle t slot a payload w)
bundle-respects g w t slot a payload =
    let w' : World = make_bundle t slot a payload w in
    leaves g w w' (all-same w w' refl (λ u. record { op = refl; controls = refl; epoch = refl; empty = λ b. refl; named = λ n. refl })) (λ h. refl) refl

pub counter-owed : (g : Grip) (w : World) (t p : ℕ) → g.has (Locked (OfPage t)) ≡ true → g.sole (Locked (OfOp t)) ≡ true → IsPageOf w.pages t p kind.Migsc → Owes g w (place.Word p 0) KeepsNothing
counter-owed g w t p td alone its = at-spot g w (place.Word p 0) (spot_of StreamWord t p) (λ z. owes z KeepsNothing) (stream-spot w t p 0 its) (inr (inl (td, (alone, tt))))

-- other words of streams, and another of what has left the machine
abbrev pub with_streams : Streams → Outgoing → World → World
with_streams ss out w = record w { streams = ss; outgoing = out }

-- a word of a stream's page is stored
module _ (m : Machine) (s : State) (words : WordPlace → ℕ) (slots : ℕ → Option (List ℕ)) (t p : ℕ) (sh : Shows m words slots s) (alive : (life_number (s.world.tds.lives t) == life_number life.Teardown) ≡ false)
    (its : IsPageOf s.world.pages t p kind.Migsc) (in_page : p < m.pages) (ss : Streams) (out : Outgoing) (at x : ℕ) (is : in_lines (stream_lines (with_streams ss out s.world) p) at ≡ Some x)
    (line : (i : ℕ) → (i == at) ≡ false → in_lines (stream_lines s.world p) i ≡ in_lines (stream_lines (with_streams ss out s.world) p) i)
    (other : (q i : ℕ) → (q == p) ≡ false → in_lines (stream_lines (with_streams ss out s.world) q) i ≡ in_lines (stream_lines s.world q) i) where
  abbrev v' : World
  v' = with_streams ss out s.world

  abbrev later : WordPlace → ℕ
  later = put_word words (place.Word p at) x

  its-own : (p == p) ≡ true
  its-own = eq-eqb p p refl

  stored : (i : ℕ) → (i == at) ≡ true → later (place.Word p i) ≡ x
  stored i e = rw (its-own, e) refl

  stream-word : (i : ℕ) → i < 512 → IsAs (in_lines (stream_lines v' p) i) (later (place.Word p i))
  stream-word i b = by_test (i == at)
      (λ e. (let here : in_lines (stream_lines v' p) i ≡ Some x = ap (λ (j : ℕ). in_lines (stream_lines v' p) j) (eqb-true i at e) ∙ is in
      subst (λ (o : Option ℕ). IsAs o (later (place.Word p i))) (sym here) (stored i e)))
      (λ n. (let same : words (place.Word p i) ≡ later (place.Word p i) = rw (its-own, n) refl in
      subst (λ (y : ℕ). IsAs (in_lines (stream_lines v' p) i) y) same (subst (λ (o : Option ℕ). IsAs o (words (place.Word p i))) (line i n) (stream-shown m words slots s sh t alive p i its in_page b))))

  pub stream-stored : Shows m later slots (record s { world = v' })
  stream-stored = record {
    word = back (kept-but v' (aside p m words s sh.word) (record {
      kinds = refl;
      owners = refl;
      blocked = refl;
      key_table = refl;
      page = λ q o n. record {
        words = λ i. refl;
        tdr = λ is i. refl;
        owned = λ h. record { stands = λ z. z; level = refl; number = refl; entries = λ l e. refl; vp = λ i. refl; stream = λ i. other q i o; control = λ is z. control-kept refl (λ l e. refl) (λ f i. refl) };
      };
    })) later (λ r. refl) (λ r. refl) (λ q. refl) (λ r i o. rw o refl) (λ i b. rw (its.kind, its.owner, alive) (stream-word i b));
    hasher = sh.hasher;
  }

-- its counter: a bundle came in, and one was made
module _ (m : Machine) (s : State) (mem : Memory) (t k : ℕ) (sh : Shows m mem.words mem.slots s) (alive : (life_number (s.world.tds.lives t) == life_number life.Teardown) ≡ false)
    (its : IsPageOf s.world.pages t (stream_page s.world t k) kind.Migsc) (in_page : stream_page s.world t k < m.pages) where
  abbrev p : ℕ
  p = stream_page s.world t k

  abbrev after : Memory
  after = changed (Put (place.Word (stream_page s.world t k) 0) (stream_counter s.world t k + 1)) mem

  itself : (p == p) ≡ true
  itself = eq-eqb p p refl

  counter-stored : (out : Outgoing) → Shows m after.words after.slots (record s { world = with_streams ((count_bundle t k s.world).streams) out s.world })
  counter-stored out = stream-stored m s mem.words mem.slots t p sh alive its in_page ((count_bundle t k s.world).streams) out 0 (stream_counter s.world t k + 1) (rw itself refl) (λ i n. rw n refl) (λ q i o. rw o refl)

  pub input-counted : Shows m after.words after.slots (record s { world = count_bundle t k s.world })
  input-counted = counter-stored s.world.outgoing

pub bundle-counted : (m : Machine) (s : State) (mem : Memory) (t k : ℕ) (made : Made) → Shows m mem.words mem.slots s → (life_number (s.world.tds.lives t) == life_number life.Teardown) ≡ false
    → IsPageOf s.world.pages t (stream_page s.world t k) kind.Migsc → stream_page s.world t k < m.pages
    → let after = changed (Put (place.Word (stream_page s.world t k) 0) (stream_counter s.world t k + 1)) mem in Shows m after.words after.slots (record s { world = count_bundle t k (add_bundle made s.world) })
bundle-counted m s mem t k made sh alive its in_page = counter-stored m s mem t k sh alive its in_page ((add_bundle made s.world).outgoing)
