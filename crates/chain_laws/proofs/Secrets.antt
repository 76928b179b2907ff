-- Two runs of a chain that differ in secret words alone, where guests tell the same, print the same: beside both goes the run with
-- every secret word 0, whose guests tell these words.
use Rattle.std.proofs.Common.{◌≡◌, refl, sym, ◌∙◌, ap, subst, ℕ, zero, suc, ◌+◌, List, [], ◌∷◌, ◌++◌, length, drop, map, Option, Some, None, option_map, Bool, true, not, ◌==◌, if◌then◌else◌, append_assoc}
use Rattle.std.specs.Prelude.{flat_map}
use Rattle.std.specs.List.{list_any, filter, range_with_len, concat}
use Rattle.std.proofs.lemmas.List.{append-nil, map-append}
use Rattle.td_words.specs.declared.calls.Call.{Call}
use Rattle.td_words.specs.declared.replies.Reply.{Reply}
use Rattle.report_text.specs.Lines.{reply_lines}
use Rattle.flat_core.specs.World.{World, Made, Tds, put}
use Rattle.flat_core.specs.Processor.{Lp}
use Rattle.flat_core.specs.Conditions.{running_ops}
use Rattle.td_words.specs.NameNumber.{op_number}
use Rattle.std.proofs.lemmas.Bool.{eqb-true}
use Rattle.flat_core.specs.Opening.{Opening, Agree, blind_bundle, public_bundle}
use Rattle.flat_core.specs.Event.{State, calls_of, lines_left, event}
use Rattle.flat_core.specs.Run.{bundles_in}
use Rattle.flat_core.specs.HostText.{text_of, lines_from}
use Rattle.flat_core.specs.Lawful.{Lawful}
use Rattle.flat_core.specs.Laws.{GuestRuns}
use Rattle.flat_core.specs.Alike.{Alike}
use Rattle.flat_core.specs.AccessLaw.{IsGuarded}
use Rattle.flat_core.specs.TwoWorlds.{AreSameButNotes, AreAlikeStates}
use Rattle.flat_core.proofs.Tests.{by_test}
use Rattle.flat_core.proofs.Always.{access_kept, occ-of}
use Rattle.flat_core.proofs.Kept.{events_keep}
use Rattle.flat_core.proofs.TwoEvents.{events_are_blind}
use Rattle.flat_bundles.specs.Ended.{has_ended, all_left, ended_bundles}
use Rattle.mig_laws.specs.Ivs.{is_forward}
use Rattle.image_laws.specs.Containers.{as_made}
use Rattle.chain_laws.specs.Chains.{Module, Chain, Running, state_of, comes_forward, comes_back, comes_in, in_slot, opening_now, has_line, items_due, go_on, turn, told_by, chain_event, play_chain, first_module, first_modules, at_moment}
use Rattle.chain_laws.specs.Secrets.{with_secrets, SecretsStayPrivate}
use Rattle.chain_laws.proofs.Turns.{event_holds, begins}
use Rattle.chain_laws.proofs.Images.{guarded_now}

-- a state whose guests have these words to tell
abbrev telling : State → List ℕ → State
telling s ws = record s { world = record (s.world) { outgoing = record (s.world.outgoing) { to_tell = Some ws } } }

abbrev words_of : Option (List ℕ) → List ℕ
words_of None = []
words_of (Some ws) = ws

-- the run beside, with the words that are left to tell
record Beside : Type 0 where
  modules : ℕ → Module
  rest : List ℕ

abbrev beside_turn : Chain → Beside → ℕ → Module
beside_turn c b i =
    let o = opening_now c b.modules i in
    let m = b.modules i in
    go_on o (telling m.state b.rest) (items_due o m.state m.items)

abbrev beside_event : Chain → Beside → ℕ → Beside
beside_event c b i = let m = beside_turn c b i in record { modules = put b.modules i m; rest = words_of m.state.world.outgoing.to_tell }

abbrev play_beside : Chain → List ℕ → Beside → Beside
play_beside c [] b = b
play_beside c (i ∷ is) b = play_beside c is (beside_event c b i)

-- the openings are the same but for secrets and for what comes in
abbrev no_secrets : Chain → Chain
no_secrets c = with_secrets (λ i k. 0) c

-- a module and the one beside it
record Pair (o : Opening) (m n : Module) : Type 0 where
  alike : Alike m.state.world n.state.world
  own : m.state.world.outgoing.to_tell ≡ None
  lps : AreSameButNotes m.state.lps n.state.lps
  count : m.state.lp_count ≡ n.state.lp_count
  items : m.items ≡ n.items
  lawful : Lawful o.machine n.state.world

tell_alike : (v w : World) (ws : List ℕ) → Alike v w → Alike v (record w { outgoing = record (w.outgoing) { to_tell = Some ws } })
tell_alike v w ws a = record { size = a.size; pages = a.pages; words = a.words; tds = a.tds; vps = a.vps; streams = a.streams; key_table = a.key_table; told = a.told; bundles = a.bundles }

tell_lawful : (o : Opening) (w : World) (ws : List ℕ) → Lawful o.machine w → Lawful o.machine (record w { outgoing = record (w.outgoing) { to_tell = Some ws } })
tell_lawful o w ws l = record { size = l.size; pages = l.pages; tds = l.tds; lists = l.lists; tree = l.tree; keys = l.keys; beginnings = l.beginnings; counts = l.counts; streams = l.streams; sessions = l.sessions }

-- lines, slots and what comes in

same_replies : (lps others : ℕ → Lp) → AreSameButNotes lps others → (p : ℕ) → (lps p).replies ≡ (others p).replies
same_replies lps others h p = ap (λ (x : Lp). x.replies) (sym (h p))

module _ (o : Opening) (s t : State) (lps : AreSameButNotes s.lps t.lps) where
  same_left : (p : ℕ) → lines_left o p (s.lps p) ≡ lines_left o p (t.lps p)
  same_left p = ap (λ (rs : List Reply). drop (length rs) (calls_of o.calls p)) (same_replies s.lps t.lps lps p)

  same_due : (ps : List ℕ) → items_due o s ps ≡ items_due o t ps
  same_due [] = refl
  same_due (p ∷ ps) =
      ap (λ (cs : List Call). if has_line cs then p ∷ ps else items_due o s ps) (same_left p)
      ∙ ap (λ (qs : List ℕ). if has_line (lines_left o p (t.lps p)) then p ∷ ps else qs) (same_due ps)

  same_all_left : all_left o s ≡ all_left o t
  same_all_left = ap (λ (f : ℕ → List Call). flat_map f (range_with_len 0 (length o.calls))) (λ j p. same_left p j)

-- bundles that are the same but for private words
abbrev Same : Made → Made → Type 0
Same a b = public_bundle a ≡ public_bundle b

abbrev AreSame : List Made → List Made → Type 0
AreSame xs ys = map public_bundle xs ≡ map public_bundle ys

same_filter : (f g : Made → Bool) → ((a b : Made) → Same a b → f a ≡ g b) → (xs ys : List Made) → AreSame xs ys → AreSame (filter f xs) (filter g ys)
same_filter f g same [] [] e = refl
same_filter f g same [] (y ∷ ys) e = cc
same_filter f g same (x ∷ xs) [] e = cc
same_filter f g same (x ∷ xs) (y ∷ ys) e =
    let first : public_bundle x ≡ public_bundle y = cc in
    let rest : map public_bundle xs ≡ map public_bundle ys = cc in
    let test : f x ≡ g y = same x y first in
    let later = same_filter f g same xs ys rest in
    by_test (g y)
    (λ h. rw (test ∙ h, h) (ap (λ (m : Made). m ∷ map public_bundle (filter f xs)) first ∙ ap (λ (l : List Made). public_bundle y ∷ l) later))
    (λ h. rw (test ∙ h, h) later)

same_append : (xs ys us vs : List Made) → AreSame xs ys → AreSame us vs → AreSame (xs ++ us) (ys ++ vs)
same_append xs ys us vs e f =
    map-append public_bundle xs us ∙ (ap (λ (l : List Made). l ++ map public_bundle us) e ∙ (ap (λ (l : List Made). map public_bundle ys ++ l) f ∙ sym (map-append public_bundle ys vs)))

same_in_slot : (slot : ℕ) (xs ys : List Made) → AreSame xs ys → option_map blind_bundle (in_slot xs slot) ≡ option_map blind_bundle (in_slot ys slot)
same_in_slot slot [] [] e = refl
same_in_slot slot [] (y ∷ ys) e = cc
same_in_slot slot (x ∷ xs) [] e = cc
same_in_slot slot (x ∷ xs) (y ∷ ys) e =
    let first : public_bundle x ≡ public_bundle y = cc in
    let rest : map public_bundle xs ≡ map public_bundle ys = cc in
    let test : (x.slot == slot) ≡ (y.slot == slot) = ap (λ (m : Made). m.slot == slot) first in
    by_test (y.slot == slot)
    (λ h. rw (test ∙ h, h) (found_same x y first))
    (λ h. rw (test ∙ h, h) (same_in_slot slot xs ys rest))
  where
    found_same : (a b : Made) → Same a b → Some (blind_bundle (as_made a)) ≡ Some (blind_bundle (as_made b))
    found_same a b e = ap (λ (m : Made). Some (as_made m)) e

module _ (c : Chain) where
  -- all modules are alike
  record Go (r : Running) (b : Beside) : Type 0 where
    each : (i : ℕ) → Pair (c.openings i) (r.modules i) (b.modules i)
    guarded : (i : ℕ) → IsGuarded (c.openings i) (state_of r i)

  module _ (r : Running) (b : Beside) (h : Go r b) where
    ended_alike : (i : ℕ) → AreSame (ended_bundles (c.openings i) (r.modules i).state) (ended_bundles (c.openings i) (b.modules i).state)
    ended_alike i = same_filter (has_ended (all_left (c.openings i) (r.modules i).state)) (has_ended (all_left (c.openings i) (b.modules i).state))
        (λ x y e. ap (λ (left : List Call). has_ended left x) (same_all_left (c.openings i) (r.modules i).state (b.modules i).state (h.each i).lps)
        ∙ ap (λ (m : Made). has_ended (all_left (c.openings i) (b.modules i).state) m) e)
        (bundles_in (r.modules i).state) (bundles_in (b.modules i).state) (h.each i).alike.bundles

    forward_alike : (i : ℕ) → AreSame (comes_forward c r.modules i) (comes_forward (no_secrets c) b.modules i)
    forward_alike zero = refl
    forward_alike (suc i) = same_filter is_forward is_forward (λ x y e. ap is_forward e)
        (ended_bundles (c.openings i) (r.modules i).state) (ended_bundles (c.openings i) (b.modules i).state) (ended_alike i)

    back_alike : (i : ℕ) → AreSame (comes_back c r.modules i) (comes_back (no_secrets c) b.modules i)
    back_alike i = same_filter (λ m. not (is_forward m)) (λ m. not (is_forward m)) (λ x y e. ap (λ (m : Made). not (is_forward m)) e)
        (ended_bundles (c.openings (suc i)) (r.modules (suc i)).state) (ended_bundles (c.openings (suc i)) (b.modules (suc i)).state) (ended_alike (suc i))

    agree_now : (i : ℕ) → Agree (opening_now c r.modules i) (opening_now (no_secrets c) b.modules i)
    agree_now i = record {
      machine = refl;
      codes = λ t k. refl;
      calls = refl;
      bundles = λ slot. same_in_slot slot (comes_in c r.modules i) (comes_in (no_secrets c) b.modules i)
          (same_append (comes_forward c r.modules i) (comes_forward (no_secrets c) b.modules i) (comes_back c r.modules i) (comes_back (no_secrets c) b.modules i) (forward_alike i) (back_alike i));
    }

    -- one turn of module i, whose event tells what is next to be told
    module _ (i : ℕ) (more : List ℕ) where
      abbrev m : Module
      m = r.modules i

      abbrev n : Module
      n = b.modules i

      abbrev o : Opening
      o = opening_now c r.modules i

      abbrev q : Opening
      q = opening_now (no_secrets c) b.modules i

      here : Pair (c.openings i) m n
      here = h.each i

      states : (ws : List ℕ) → AreAlikeStates m.state (telling n.state ws) ws
      states ws = record {
        worlds = record { alike = tell_alike m.state.world n.state.world ws here.alike; own = here.own; given = refl };
        lps = here.lps;
        count = here.count;
      }

      runs : (p : ℕ) → GuestRuns (telling n.state b.rest).world ((telling n.state b.rest).lps p)
      runs p g e =
          let there : (m.state.lps p).guest ≡ Some g = ap (λ (x : Lp). x.guest) (sym (here.lps p)) ∙ e in
          subst (λ (tds : Tds). list_any (λ s. op_number s == op_number (tds.ops g.tdr)) running_ops ≡ true) here.alike.tds
          (occ-of (c.openings i) m.state (h.guarded i).timely p g there).running

      -- after the turn
      record Turned (m' n' : Module) : Type 0 where
        pair : Pair (c.openings i) m' n'
        left : words_of n'.state.world.outgoing.to_tell ≡ more

      turned : (ps : List ℕ) → b.rest ≡ told_by o m.state ps ++ more → Turned (go_on o m.state ps) (go_on q (telling n.state b.rest) ps)
      turned [] rest = record {
        pair = record {
          alike = tell_alike m.state.world n.state.world b.rest here.alike;
          own = here.own;
          lps = here.lps;
          count = here.count;
          items = refl;
          lawful = tell_lawful (c.openings i) n.state.world b.rest here.lawful;
        };
        left = rest;
      }
      turned (p ∷ ps) rest =
          let lawful : Lawful q.machine (telling n.state b.rest).world = tell_lawful (c.openings i) n.state.world b.rest here.lawful in
          let both : AreAlikeStates (event o m.state p) (event q (telling n.state b.rest) p) more =
          events_are_blind o q m.state (telling n.state b.rest) p more (agree_now i) (guarded_now c r i (h.guarded i)) lawful
          (subst (λ (ws : List ℕ). AreAlikeStates m.state (telling n.state b.rest) ws) rest (states b.rest)) in
          record {
            pair = record {
              alike = both.worlds.alike;
              own = both.worlds.own;
              lps = both.lps;
              count = both.count;
              items = refl;
              lawful = events_keep q (telling n.state b.rest) p lawful (runs p);
            };
            left = ap words_of both.worlds.given;
          }

      same_items : items_due q n.state n.items ≡ items_due o m.state m.items
      same_items = sym (same_due (c.openings i) m.state n.state here.lps m.items ∙ ap (λ (ps : List ℕ). items_due (c.openings i) n.state ps) here.items)

      turns : b.rest ≡ told_by o m.state (items_due o m.state m.items) ++ more → Turned (turn o m) (beside_turn (no_secrets c) b i)
      turns rest = subst (λ (ps : List ℕ). Turned (turn o m) (go_on q (telling n.state b.rest) ps)) (sym same_items) (turned (items_due o m.state m.items) rest)

      go : b.rest ≡ told_by o m.state (items_due o m.state m.items) ++ more → Go (chain_event c r i) (beside_event (no_secrets c) b i)
      go rest = record {
        each = λ k. by_test (k == i)
            (λ y. rw y (subst (λ (z : ℕ). Pair (c.openings z) (turn o m) (beside_turn (no_secrets c) b i)) (sym (eqb-true k i y)) (turns rest).pair))
            (λ y. rw y (h.each k));
        guarded = λ k. event_holds IsGuarded access_kept c k r i (h.guarded k);
      }

      rest_then : b.rest ≡ told_by o m.state (items_due o m.state m.items) ++ more → (beside_event (no_secrets c) b i).rest ≡ more
      rest_then rest = (turns rest).left

  -- what is told from here on
  abbrev told_from : List ℕ → Running → List ℕ
  told_from [] r = []
  told_from (i ∷ is) r = let m = r.modules i in let o = opening_now c r.modules i in told_by o m.state (items_due o m.state m.items) ++ told_from is (chain_event c r i)

  told_in_all : (is : List ℕ) (r : Running) → (play_chain c is r).told ≡ r.told ++ told_from is r
  told_in_all [] r = sym (append-nil r.told)
  told_in_all (i ∷ is) r =
      let m = r.modules i in
      let o = opening_now c r.modules i in
      told_in_all is (chain_event c r i) ∙ append_assoc r.told (told_by o m.state (items_due o m.state m.items)) (told_from is (chain_event c r i))

  both_go : (is : List ℕ) (r : Running) (b : Beside) → Go r b → b.rest ≡ told_from is r → Go (play_chain c is r) (play_beside (no_secrets c) is b)
  both_go [] r b h rest = h
  both_go (i ∷ is) r b h rest =
      let more : List ℕ = told_from is (chain_event c r i) in
      both_go is (chain_event c r i) (beside_event (no_secrets c) b i) (go r b h i more rest) (rest_then r b h i more rest)

  abbrev first_beside : List ℕ → Beside
  first_beside words = record { modules = first_module (no_secrets c); rest = words }

  at_first : (words : List ℕ) → Go (first_modules c) (first_beside words)
  at_first words = record {
    each = λ i. record {
      alike = record { size = refl; pages = refl; words = λ p j e. refl; tds = refl; vps = refl; streams = refl; key_table = refl; told = refl; bundles = refl };
      own = refl;
      lps = λ p. refl;
      count = refl;
      items = refl;
      lawful = (begins IsGuarded access_kept c i).timely.lawful;
    };
    guarded = λ i. begins IsGuarded access_kept c i;
  }

  beside_all : (is : List ℕ) → Go (at_moment c is) (play_beside (no_secrets c) is (first_beside (at_moment c is).told))
  beside_all is = both_go is (first_modules c) (first_beside (at_moment c is).told) (at_first (at_moment c is).told) (told_in_all is (first_modules c))

-- replies are all that is printed
same_lines : (n p : ℕ) (lps others : ℕ → Lp) → AreSameButNotes lps others → lines_from n p lps ≡ lines_from n p others
same_lines zero p lps others h = refl
same_lines (suc n) p lps others h =
    ap (λ (x : Lp). reply_lines p 1 x.replies ++ lines_from n (p + 1) lps) (sym (h p)) ∙ ap (λ (xs : List (List ℕ)). reply_lines p 1 (others p).replies ++ xs) (same_lines n (p + 1) lps others h)

same_text : (s t : State) → AreSameButNotes s.lps t.lps → s.lp_count ≡ t.lp_count → text_of s ≡ text_of t
unfolding text_of
same_text s t e n = ap (λ (xs : List (List ℕ)). concat xs) (same_lines s.lp_count 0 s.lps t.lps e) ∙ ap (λ (k : ℕ). concat (lines_from k 0 t.lps)) n

pub secrets_stay_private : SecretsStayPrivate
secrets_stay_private c k turns told i =
    let d : Chain = with_secrets k c in
    let one = beside_all c turns in
    let two = subst (λ (ws : List ℕ). Go d (at_moment d turns) (play_beside (no_secrets c) turns (first_beside c ws))) (sym told) (beside_all d turns) in
    let beside : Module = (play_beside (no_secrets c) turns (first_beside c (at_moment c turns).told)).modules i in
    let a = one.each i in
    let b = two.each i in (
      same_text (state_of (at_moment c turns) i) beside.state a.lps a.count ∙ sym (same_text (state_of (at_moment d turns) i) beside.state b.lps b.count),
      a.alike.bundles ∙ sym b.alike.bundles,
    )
