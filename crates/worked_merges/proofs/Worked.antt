-- The worked merges compute.
use Rattle.std.proofs.Common.{◌≡◌, ℕ, zero, suc, ◌<◌, ◌≤◌, ◌==◌, true, false, List, [], ◌∷◌, None, Some, refl, subst, arith}
use Rattle.std.proofs.lemmas.Bool.{ne_eqb}
use Rattle.std.proofs.lemmas.List.Elements.{All-nil}
use Rattle.td_words.specs.Limits.{IsMachine}
use Rattle.td_words.specs.declared.names.LockName.TheVariants as lock
use Rattle.td_words.specs.declared.names.Mode.TheVariants.{Shared}
use Rattle.td_words.specs.declared.machines.Machine.{Machine}
use Rattle.td_words.specs.declared.calls.Call.TheVariants.{HostRead, HostWrite}
use Rattle.td_words.specs.declared.replies.Value.TheVariants.{Number}
use Rattle.td_words.specs.declared.replies.Reply.TheVariants.{Done}
use Rattle.flat_core.specs.Event.{calls_of}
use Rattle.flat_core.specs.Run.{run}
use Rattle.flat_core.specs.Worked.{success}
use Rattle.step_core.specs.declared.steps.WordStep.TheVariants as step
use Rattle.step_core.specs.declared.items.Taken.TheVariants.{Stepped}
use Rattle.leaf_engine.specs.declared.needs.Need.TheVariants as need
use Rattle.leaf_engine.specs.declared.needs.Write.TheVariants as write
use Rattle.leaf_engine.specs.declared.events.Event.TheVariants as event
use Rattle.leaf_engine.specs.declared.events.HeldLock.{HeldLock}
use Rattle.leaf_engine.specs.declared.events.Stage.TheVariants as stage
use Rattle.leaf_engine.specs.Trees.{Tree, settle, fed, passed}
use Rattle.leaf_engine.specs.Besides.{nothing_beside}
use Rattle.leaf_engine.specs.Turns.{Standing, standing}
use Rattle.leaf_engine.specs.OwnLists.{Piece, Unmarked, Marked, joined, LeafTable, WordLp, first_lp, LpTurns, OwnTurns}
use Rattle.leaf_engine.specs.Merges.{Item, part, order, no_table, IsOperation, AreCodes}
use Rattle.access_core.specs.HostTrees.{host_read_tree, host_write_tree}
use Rattle.merge_laws.specs.Merge.{Merge, MergePlays}
use Rattle.merge_laws.specs.Laws.{IsShownBy, IsWhere, MergesAreRuns}
use Rattle.leaf_table.specs.Given.{given_of}
use Rattle.leaf_table.specs.Table.{leaf_table}
use Rattle.leaf_table.specs.Laws.{CallsHaveLeaves}
use Rattle.worked_merges.specs.Worked.{writer_and_reader, lock_word, pamt_word, content_word, load_behind_store, load_before_store, order_behind, order_before, table_left, done_with, ends_reading, RunsAs, Examples}

abbrev m : Machine
m = writer_and_reader.machine

abbrev leaves_of : ℕ → LeafTable
leaves_of = leaf_table m (given_of writer_and_reader) writer_and_reader.codes

abbrev page_lock : HeldLock
page_lock = record { name = lock.Page 1; at = lock_word; mode = Shared }

-- what is left of the two leaves' trees behind the try, and behind the loads
abbrev writes_tried : Tree
writes_tried = passed (settle (host_write_tree m 1 0 7))

abbrev writes_loaded : Tree
writes_loaded = fed (settle writes_tried) 0

abbrev reads_tried : Tree
reads_tried = passed (settle (host_read_tree m 1 0))

abbrev reads_loaded : (word : ℕ) → Tree
reads_loaded word = fed (settle (fed (settle reads_tried) 0)) word

-- the own lists, turn by turn
abbrev writer_own : List (List Piece)
writer_own =
    (Marked (Stepped (step.Add lock_word 1) 0) ∷ [])
    ∷ (Unmarked (Stepped (step.Load pamt_word) 0) ∷ Marked (Stepped (step.Store content_word 7) 0) ∷ [])
    ∷ (Marked (Stepped (step.Sub lock_word 1) 2) ∷ [])
    ∷ []

abbrev reader_own : (word : ℕ) → List (List Piece)
reader_own word =
    (Marked (Stepped (step.Add lock_word 1) 1) ∷ [])
    ∷ (Unmarked (Stepped (step.Load pamt_word) 0) ∷ Marked (Stepped (step.Load content_word) word) ∷ [])
    ∷ (Marked (Stepped (step.Sub lock_word 1) 1) ∷ [])
    ∷ []

-- where the processors are behind the try, and behind the act
abbrev writer_at : Standing → WordLp
writer_at s = record { lines = HostWrite 1 0 7 ∷ []; run = Some s; guest = None; replies = []; beside = nothing_beside }

abbrev writer_tried : Standing
writer_tried = standing writes_tried stage.Trying (page_lock ∷ []) None

abbrev writer_acted : Standing
writer_acted = standing writes_loaded (stage.Answered success) (page_lock ∷ []) None

abbrev reader_at : Standing → WordLp
reader_at s = record { lines = HostRead 1 0 ∷ []; run = Some s; guest = None; replies = []; beside = nothing_beside }

abbrev reader_tried : Standing
reader_tried = standing reads_tried stage.Trying (page_lock ∷ []) None

abbrev reader_acted : (word : ℕ) → Standing
reader_acted word = standing (reads_loaded word) (stage.Answered (Done (Number word))) (page_lock ∷ []) None

-- each of their turns

writer-tries : LpTurns (leaves_of 0) m (first_lp (HostWrite 1 0 7 ∷ [])) (event.Try (lock.Page 1) Shared true) (Marked (Stepped (step.Add lock_word 1) 0) ∷ []) (writer_at writer_tried)
writer-tries = record {
  stands = writer_tried;
  turn = record {
    items = Stepped (step.Add lock_word 1) 0 ∷ [];
    goes = record {
      loads = [];
      tree = settle (host_write_tree m 1 0 7);
      need = need.Lock (lock.Page 1) lock_word Shared;
      loaded = refl;
      gives = refl;
      comes = record { seen = 0; items = refl; event = refl; after = refl };
    };
    pieces = refl;
  };
  going = refl;
  after_is = refl;
}

writer-stores : LpTurns (leaves_of 0) m (writer_at writer_tried) event.Act (Unmarked (Stepped (step.Load pamt_word) 0) ∷ Marked (Stepped (step.Store content_word 7) 0) ∷ []) (writer_at writer_acted)
writer-stores = record {
  stands = writer_acted;
  turn = record {
    items = Stepped (step.Load pamt_word) 0 ∷ Stepped (step.Store content_word 7) 0 ∷ [];
    goes = record {
      loads = Stepped (step.Load pamt_word) 0 ∷ [];
      tree = writes_loaded;
      need = need.Verdict success;
      loaded = ((pamt_word, refl, refl), refl);
      gives = refl;
      comes = record {
        hasher = None;
        changes = Stepped (step.Store content_word 7) 0 ∷ [];
        items = refl;
        changed = (
          None,
          (
            Stepped (step.Store content_word 7) 0 ∷ [],
            (
              [],
              refl,
              record { write = write.Word (step.Store content_word 7); between = None; handed = λ hand h. (refl, h); written = (refl, (0, refl)) },
              (refl, refl),
            ),
          ),
        );
        event = refl;
        after = refl;
      };
    };
    pieces = refl;
  };
  going = refl;
  after_is = refl;
}

writer-frees : LpTurns (leaves_of 0) m (writer_at writer_acted) (event.Free (lock.Page 1)) (Marked (Stepped (step.Sub lock_word 1) 2) ∷ []) (done_with success)
writer-frees = record {
  stands = standing writes_loaded (stage.Answered success) [] None;
  turn = record {
    items = Stepped (step.Sub lock_word 1) 2 ∷ [];
    turn = (record { newest = page_lock; held_are = refl; items = (2, refl); event = refl }, refl);
    pieces = refl;
  };
  going = refl;
  after_is = refl;
}

reader-tries : LpTurns (leaves_of 1) m (first_lp (HostRead 1 0 ∷ [])) (event.Try (lock.Page 1) Shared true) (Marked (Stepped (step.Add lock_word 1) 1) ∷ []) (reader_at reader_tried)
reader-tries = record {
  stands = reader_tried;
  turn = record {
    items = Stepped (step.Add lock_word 1) 1 ∷ [];
    goes = record {
      loads = [];
      tree = settle (host_read_tree m 1 0);
      need = need.Lock (lock.Page 1) lock_word Shared;
      loaded = refl;
      gives = refl;
      comes = record { seen = 1; items = refl; event = refl; after = refl };
    };
    pieces = refl;
  };
  going = refl;
  after_is = refl;
}

reader-loads : (word : ℕ) → LpTurns (leaves_of 1) m (reader_at reader_tried) event.Act (Unmarked (Stepped (step.Load pamt_word) 0) ∷ Marked (Stepped (step.Load content_word) word) ∷ []) (reader_at (reader_acted word))
reader-loads word = record {
  stands = reader_acted word;
  turn = record {
    items = Stepped (step.Load pamt_word) 0 ∷ Stepped (step.Load content_word) word ∷ [];
    goes = record {
      loads = Stepped (step.Load pamt_word) 0 ∷ Stepped (step.Load content_word) word ∷ [];
      tree = reads_loaded word;
      need = need.Verdict (Done (Number word));
      loaded = ((pamt_word, refl, refl), ((content_word, refl, refl), refl));
      gives = refl;
      comes = record { hasher = None; changes = []; items = refl; changed = (refl, refl); event = refl; after = refl };
    };
    pieces = refl;
  };
  going = refl;
  after_is = refl;
}

reader-frees : (word : ℕ) → LpTurns (leaves_of 1) m (reader_at (reader_acted word)) (event.Free (lock.Page 1)) (Marked (Stepped (step.Sub lock_word 1) 1) ∷ []) (done_with (Done (Number word)))
reader-frees word = record {
  stands = standing (reads_loaded word) (stage.Answered (Done (Number word))) [] None;
  turn = record {
    items = Stepped (step.Sub lock_word 1) 1 ∷ [];
    turn = (record { newest = page_lock; held_are = refl; items = (1, refl); event = refl }, refl);
    pieces = refl;
  };
  going = refl;
  after_is = refl;
}

writer-turns : OwnTurns (leaves_of 0) m (first_lp (HostWrite 1 0 7 ∷ [])) writer_own (done_with success)
writer-turns = (event.Try (lock.Page 1) Shared true, (writer_at writer_tried, writer-tries, (event.Act, (writer_at writer_acted, writer-stores, (event.Free (lock.Page 1), (done_with success, writer-frees, refl))))))

reader-turns : (word : ℕ) → OwnTurns (leaves_of 1) m (first_lp (HostRead 1 0 ∷ [])) (reader_own word) (done_with (Done (Number word)))
reader-turns word = (event.Try (lock.Page 1) Shared true, (reader_at reader_tried, reader-tries, (event.Act, (reader_at (reader_acted word), reader-loads word, (event.Free (lock.Page 1), (done_with (Done (Number word)), reader-frees word, refl))))))

-- the own lists by processor
abbrev own : (word : ℕ) → ℕ → List (List Piece)
own word zero = writer_own
own word (suc zero) = reader_own word
own word (suc (suc p)) = []

below_two : (P : ℕ → Type 0) → P 0 → P 1 → (p : ℕ) → p < 2 → P p
below_two P p0 p1 zero h = p0
below_two P p0 p1 (suc zero) h = p1
below_two P p0 p1 (suc (suc p)) h = absurd (omega arith)

-- no other processor is one of these two
other-two : (p : ℕ) → 2 ≤ p → ((0 == p) ≡ false) × ((1 == p) ≡ false)
other-two p h = (ne_eqb 0 p (λ (e : 0 ≡ p). absurd (omega arith)), ne_eqb 1 p (λ (e : 1 ≡ p). absurd (omega arith)))

in-limits : IsMachine m
in-limits = record { lps = (omega arith, omega arith); pages = (omega arith, omega arith); hkids = (omega arith, omega arith) }

-- no list has an operation
no-codes : AreCodes writer_and_reader
no-codes = record { few = λ t i. omega arith; each = λ t i. All-nil IsOperation }

-- items in which those own lists stand, and which play, are a run by the law of merges
runs-as : MergesAreRuns → CallsHaveLeaves → (word : ℕ) → (is : List Item) → (schedule : List ℕ) → part 0 is ≡ joined writer_own → part 1 is ≡ joined (reader_own word) → ((p : ℕ) → (0 == p) ≡ false → (1 == p) ≡ false → part p is ≡ [])
    → MergePlays no_table is (table_left no_table is) → order is ≡ schedule → RunsAs writer_and_reader is (ends_reading word) schedule
runs-as law leaves word is schedule zeroth first further plays ordered = record {
  merge = merge;
  ended = ended;
  order_is = ordered;
  shown = both.0;
  stands = both.1;
}
  where
    merge : Merge writer_and_reader leaves_of is (ends_reading word) (table_left no_table is)
    merge = record {
      own = own word;
      turns = below_two (λ p. OwnTurns (leaves_of p) m (first_lp (calls_of writer_and_reader.calls p)) (own word p) (ends_reading word p)) writer-turns (reader-turns word);
      merge = record {
        each = below_two (λ p. part p is ≡ joined (own word p)) zeroth first;
        nothing_else = λ p h. further p (other-two p h).0 (other-two p h).1;
      };
      plays = plays;
    }

    ended : (p : ℕ) → p < 2 → (ends_reading word p).lines ≡ []
    ended = below_two (λ p. (ends_reading word p).lines ≡ []) refl refl

    both : IsShownBy m (table_left no_table is) (run writer_and_reader schedule) × IsWhere writer_and_reader (ends_reading word) (run writer_and_reader schedule)
    both =
        subst (λ (ps : List ℕ). IsShownBy m (table_left no_table is) (run writer_and_reader ps) × IsWhere writer_and_reader (ends_reading word) (run writer_and_reader ps)) ordered
        (law.ended writer_and_reader leaves_of is (ends_reading word) (table_left no_table is) (omega arith) (leaves writer_and_reader (given_of writer_and_reader) writer_and_reader.codes in-limits (record { secrets = λ k. refl; bundles = λ slot. refl }) (λ t i. refl)) no-codes merge ended)

-- each answer is what the merge has made
behind-plays : MergePlays no_table load_behind_store (table_left no_table load_behind_store)
behind-plays = (refl, (refl, (refl, (refl, (refl, (refl, (refl, (refl, (refl, refl)))))))))

before-plays : MergePlays no_table load_before_store (table_left no_table load_before_store)
before-plays = (refl, (refl, (refl, (refl, (refl, (refl, (refl, (refl, (refl, refl)))))))))

pub examples : MergesAreRuns → CallsHaveLeaves → Examples
examples law leaves = record {
  behind = runs-as law leaves 7 load_behind_store order_behind refl refl (λ p zeroth first. rw (zeroth, first) refl) behind-plays refl;
  behind_0 = refl;
  behind_1 = refl;
  before = runs-as law leaves 0 load_before_store order_before refl refl (λ p zeroth first. rw (zeroth, first) refl) before-plays refl;
  before_0 = refl;
  before_1 = refl;
  word_behind = refl;
  word_before = refl;
  lock_behind = refl;
  lock_before = refl;
}
