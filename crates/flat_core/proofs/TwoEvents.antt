-- One event of each of two runs that differ in private words alone keeps them alike.
use Rattle.std.proofs.Common.{◌≡◌, refl, sym, ◌∙◌, subst, ap, ℕ, zero, suc, ◌+◌, List, [], ◌∷◌, ◌++◌, length, drop, Option, Some, None, option_map, Bool, true, false, ◌==◌}
use Rattle.std.specs.Prelude.{nat_le, slice_get}
use Rattle.std.specs.List.{list_any}
use Rattle.td_words.specs.NameNumber.{op_number}
use Rattle.td_words.specs.declared.names.OpState.{OpState}
use Rattle.td_words.specs.declared.names.OpState.TheVariants as op
use Rattle.td_words.specs.declared.names.Access.{Access}
use Rattle.td_words.specs.declared.calls.Call.{Call}
use Rattle.td_words.specs.declared.calls.GuestOp.{GuestOp}
use Rattle.td_words.specs.declared.machines.Machine.{Machine}
use Rattle.td_words.specs.declared.replies.Outcome.{Outcome}
use Rattle.td_words.specs.declared.replies.Outcome.TheVariants.{Stop, Max}
use Rattle.td_words.specs.declared.replies.Reply.{Reply}
use Rattle.flat_core.specs.World.{World, Tds, Vps}
use Rattle.flat_core.specs.Processor.{Held, Phase, Trying, Undoing, Answered, Guest, Entering, Note, Lp}
use Rattle.flat_core.specs.Opening.{Opening, Agree}
use Rattle.flat_core.specs.Conditions.{running_ops}
use Rattle.flat_core.specs.Row.{Item, Check, Try, Row, OperationRow, Passes, Move, Attempts, Undoes, Refuses, Succeeds, Releases, Rests, next, next_in, after_move}
use Rattle.flat_core.specs.Table.{row_of}
use Rattle.flat_core.specs.Tree.{page_of_gpa}
use Rattle.flat_core.specs.Translations.{look_up}
use Rattle.flat_core.specs.Guest.{Operation, ByRow, Private}
use Rattle.flat_core.specs.Event.{State, Event, OfCall, OfOperation, Walks, Leaves, next_event, event_for, line_event, entered_event, epoch_event, guest_event, staying_event, due_event, max_event, operation_event, private_event, operation_due, nothing_more, is_epoch_lock, lines_left, calls_of, event, after_event, world_after, call_world, lp_after, call_lp, succeeded, settle, settled, settled_guest, operation_busy, is_granted}
use Rattle.flat_core.specs.Lawful.{Lawful}
use Rattle.flat_core.specs.Alike.{Alike, AreBlind, TellAlike, AreBlindActs, AreBlindOperations, is_public, is_being_built}
use Rattle.flat_core.specs.AccessLaw.{IsGuarded}
use Rattle.flat_core.specs.TwoWorlds.{AreAlikeStates, words_told, EventsAreBlind}
use Rattle.flat_core.proofs.Tests.{by_test}
use Rattle.flat_core.proofs.Blind.{row-blind}
use Rattle.flat_core.proofs.BlindOperations.{operations_are_blind, nothing_more-blind, reach_telling, leave_alike}
use Rattle.flat_core.proofs.Telling.{row_tells_nothing}
use Rattle.flat_core.proofs.Always.{occ-of, reaches_own}

-- a TD that runs is built
running_built : (s : OpState) → list_any (λ x. op_number x == op_number s) running_ops ≡ true → is_being_built s ≡ false
running_built op.Uninitialized h = cc
running_built op.Initialized h = cc
running_built _ h = refl

-- the page that a private access reaches isn't public
private_page : (o : Opening) (s : State) (p : ℕ) → IsGuarded o s → (g : Guest) (n page : ℕ) (access : Access) → (s.lps p).guest ≡ Some g → look_up (s.lps p).cached g.tdr n access ≡ Some page
    → is_public s.world.pages s.world.tds page ≡ false
private_page o s p guarded g n page access is found =
    let own = (reaches_own o s guarded p n page access g is found).0.private in
    let built : is_being_built (s.world.tds.ops g.tdr) ≡ false = running_built (s.world.tds.ops g.tdr) (occ-of o s guarded.timely p g is).running in
    rw (own.kind, own.owner, built) refl

-- a processor's record but for its notes

abbrev noting : List Note → Lp → Lp
noting ns lp = record lp { notes = ns }

settled_noting : (ns : List Note) (phase : Phase Reply) (hs : List Held) (lp : Lp) → settle phase hs (noting ns lp) ≡ noting ns (settle phase hs lp)
settled_noting ns (Answered r) [] lp = refl
settled_noting ns (Answered r) (h ∷ hs) lp = refl
settled_noting ns Trying hs lp = refl
settled_noting ns (Undoing l) hs lp = refl

-- a call's event in two worlds
module _ (m : Machine) (r q : Row) (are_blind : AreBlind m r q) (v w : World) (lv : Lawful m v) (lw : Lawful m w) (a : Alike v w) where
  alike_items : (items : List (Item Reply)) (n : ℕ) → (Passes items → Alike (r.act v) (q.act w)) → Alike (call_world r (next items n) v) (call_world q (next items n) w)
  alike_items [] n act = act tt
  alike_items (Check true x ∷ items) n act = alike_items items n (λ ps. act (refl, ps))
  alike_items (Check false x ∷ items) n act = a
  alike_items (Try l mode ∷ items) zero act = a
  alike_items (Try l mode ∷ items) (suc n) act = alike_items items n act

  alike_world : (phase : Phase Reply) (hs : List Held) → Alike (call_world r (next_in (r.items v) phase hs) v) (call_world q (next_in (r.items v) phase hs) w)
  alike_world Trying hs = alike_items (r.items v) (length hs) (are_blind.act v w lv lw a)
  alike_world (Undoing l) hs = a
  alike_world (Answered x) [] = a
  alike_world (Answered x) (h ∷ hs) = a

  same_succeeded : (ns : List Note) (e e' : Option Entering) (lp : Lp) → e ≡ e' → succeeded w q e' (noting ns lp) ≡ noting ns (succeeded v r e lp)
  same_succeeded ns None None lp h = rw (are_blind.value v w a, are_blind.cached v w lp.cached a) refl
  same_succeeded ns None (Some e) lp h = cc
  same_succeeded ns (Some e) None lp h = cc
  same_succeeded ns (Some e) (Some e') lp h = let x : e ≡ e' = cc in rw (x, are_blind.cached v w lp.cached a) refl

  same_call : (ns : List Note) (b : Bool) (move : Move Reply) (lp : Lp) → call_lp w b q move (noting ns lp) ≡ noting ns (call_lp v b r move lp)
  same_call ns b (Attempts l mode) lp = refl
  same_call ns b (Undoes l) lp = refl
  same_call ns b (Refuses x) lp = refl
  same_call ns b Succeeds lp = same_succeeded ns r.enters q.enters lp are_blind.enters
  same_call ns b (Releases h) lp = refl
  same_call ns b Rests lp = refl

  same_settled : (ns : List Note) (b : Bool) (move : Move Reply) (lp : Lp) → settled (call_lp w b q move (noting ns lp)) ≡ noting ns (settled (call_lp v b r move lp))
  same_settled ns b move lp =
      let x : Lp = call_lp v b r move lp in
      ap (λ (y : Lp). settled y) (same_call ns b move lp) ∙ settled_noting ns x.call.phase x.call.held x

-- one event of processor p in each, where the second has the words to tell that the first one's event tells, and then others
module _ (o q : Opening) (agree : Agree o q) (s : State) (u : World) (notes : ℕ → List Note) (p : ℕ) (rest : List ℕ)
    (guarded : IsGuarded o s) (lu : Lawful o.machine u) (worlds : Alike s.world u) (own : s.world.outgoing.to_tell ≡ None) where
  abbrev w : World
  w = s.world

  abbrev lp : Lp
  lp = s.lps p

  abbrev t : State
  t = record { world = u; lps = λ x. noting (notes x) (s.lps x); lp_count = s.lp_count }

  abbrev lp' : Lp
  lp' = noting (notes p) lp

  record Made (x y : Event) : Type 0 where
    after : TellAlike (world_after x w) (world_after y u) rest
    same : lp_after u (is_granted t y) y lp' ≡ noting (lp_after u (is_granted t y) y lp').notes (lp_after w (is_granted s x) x lp)

  abbrev AreMade : Event → Event → Type 0
  AreMade x y = u.outgoing.to_tell ≡ Some (words_told w (Some x) ++ rest) → Made x y

  -- a call
  abbrev are_blind : (c : Call) → AreBlind o.machine (row_of o p c) (row_of q p c)
  are_blind c = row-blind o q agree p c

  call_telling : (c : Call) (move : Move Reply) → Alike (call_world (row_of o p c) move w) (call_world (row_of q p c) move u) → u.outgoing.to_tell ≡ Some rest
      → TellAlike (call_world (row_of o p c) move w) (call_world (row_of q p c) move u) rest
  call_telling c (Attempts l m) a given = record { alike = a; own = own; given = given }
  call_telling c (Undoes l) a given = record { alike = a; own = own; given = given }
  call_telling c (Refuses x) a given = record { alike = a; own = own; given = given }
  call_telling c Succeeds a given = record { alike = a; own = (row_tells_nothing o p c w).1 ∙ own; given = (row_tells_nothing q p c u).1 ∙ given }
  call_telling c (Releases h) a given = record { alike = a; own = own; given = given }
  call_telling c Rests a given = record { alike = a; own = own; given = given }

  call_granted : (r r' : Row) (move : Move Reply) → is_granted t (OfCall r' move) ≡ is_granted s (OfCall r move)
  call_granted r r' (Attempts l m) = refl
  call_granted r r' (Undoes l) = refl
  call_granted r r' (Refuses x) = refl
  call_granted r r' Succeeds = refl
  call_granted r r' (Releases h) = refl
  call_granted r r' Rests = refl

  by_move : (c : Call) (move : Move Reply) → Alike (call_world (row_of o p c) move w) (call_world (row_of q p c) move u) → AreMade (OfCall (row_of o p c) move) (OfCall (row_of q p c) move)
  by_move c move a given =
      let r : Row = row_of o p c in
      let r' : Row = row_of q p c in
      let b : Bool = is_granted s (OfCall r move) in
      let x : Lp = lp_after w b (OfCall r move) lp in
      let y : Lp = lp_after u (is_granted t (OfCall r' move)) (OfCall r' move) lp' in
      let same : y ≡ noting (notes p) x =
      ap (λ (z : Bool). settled (call_lp u z r' move lp')) (call_granted r r' move) ∙ same_settled o.machine r r' (are_blind c) w u guarded.timely.lawful lu worlds (notes p) b move lp in
      record { after = call_telling c move a given; same = same ∙ ap (λ (z : Lp). noting z.notes x) (sym same) }

  by_call : (c : Call) → AreMade (line_event o w lp (row_of o p c) None) (line_event q u lp' (row_of q p c) None)
  by_call c =
      let r : Row = row_of o p c in
      let r' : Row = row_of q p c in
      let P : List (Item Reply) → Type 0 = λ items. AreMade (OfCall r (next_in (r.items w) lp.call.phase lp.call.held)) (OfCall r' (next_in items lp.call.phase lp.call.held)) in
      subst P ((are_blind c).items w u worlds)
      (by_move c (next_in (r.items w) lp.call.phase lp.call.held) (alike_world o.machine r r' (are_blind c) w u guarded.timely.lawful lu worlds lp.call.phase lp.call.held))

  -- a guest's operation
  abbrev operated : Bool → Option Outcome → List ℕ → List Note → Lp
  operated b out xs ns = record lp { guest = option_map (λ g. settled_guest (record g { operation = after_move operation_busy b out Succeeds g.operation })) lp.guest; notes = ns; told = lp.told ++ xs }

  by_act : (r r' : OperationRow) → AreBlindActs r r' → (move : Move (Option Outcome)) → AreMade (OfOperation r move) (OfOperation r' move)
  by_act r r' blind (Attempts l m) given = record { after = record { alike = worlds; own = own; given = given }; same = refl }
  by_act r r' blind (Undoes l) given = record { after = record { alike = worlds; own = own; given = given }; same = refl }
  by_act r r' blind (Refuses x) given = record { after = record { alike = worlds; own = own; given = given }; same = refl }
  by_act r r' blind (Releases h) given = record { after = record { alike = worlds; own = own; given = given }; same = refl }
  by_act r r' blind Rests given = record { after = record { alike = worlds; own = own; given = given }; same = refl }
  by_act r r' blind Succeeds given =
      let tell : TellAlike w u (r.tells w ++ rest) = record { alike = worlds; own = own; given = given } in
      let ns : List Note = lp'.notes ++ r'.notes u in
      record {
        after = blind.act w u rest tell;
        same =
            ap (λ (out : Option Outcome). operated false out (r'.tells u) ns) (sym (blind.answer w u rest tell))
            ∙ ap (λ (xs : List ℕ). operated false (r.answer w) xs ns) (sym (blind.tells w u rest tell));
      }

  by_row : (r r' : OperationRow) (phase : Phase (Option Outcome)) (hs : List Held) → AreBlindActs r r' → AreMade (OfOperation r (next_in (r.items w) phase hs)) (OfOperation r' (next_in (r'.items u) phase hs))
  by_row r r' phase hs blind =
      let P : List (Item (Option Outcome)) → Type 0 = λ items. AreMade (OfOperation r (next_in (r.items w) phase hs)) (OfOperation r' (next_in items phase hs)) in
      subst P (blind.items w u worlds) (by_act r r' blind (next_in (r.items w) phase hs))

  -- the load of an entry in a walk, which both find the same
  walked : (access : Access) (gpa : ℕ) → lp_after u false (Walks access gpa) lp' ≡ noting (notes p) (lp_after w false (Walks access gpa) lp)
  walked access gpa = ap (λ (x : Tds). lp_after (record u { tds = x }) false (Walks access gpa) lp') (sym worlds.tds)

  module _ (g : Guest) (guest : lp.guest ≡ Some g) where
    by_private : (access : Access) (r gpa : ℕ) (found : Option ℕ) → look_up lp.cached g.tdr (page_of_gpa gpa) access ≡ found → AreMade (private_event g access r gpa found) (private_event g access r gpa found)
    by_private access r gpa None e given = record { after = record { alike = worlds; own = own; given = given }; same = walked access gpa }
    by_private access r gpa (Some page) e given = record {
      after = reach_telling w u g.tdr g.vp access r gpa page rest (private_page o s p guarded g (page_of_gpa gpa) page access guest e) (record { alike = worlds; own = own; given = given });
      same = refl;
    }

    by_operation : (x y : Operation) → AreBlindOperations x y → AreMade (operation_event w lp g x) (operation_event u lp' g y)
    by_operation (ByRow r) (ByRow r') blind = by_row r r' g.operation.phase g.operation.held blind
    by_operation (ByRow r) (Private access r' gpa) blind = absurd blind
    by_operation (Private access r gpa) y e =
        subst (λ (z : Operation). AreMade (operation_event w lp g (Private access r gpa)) (operation_event u lp' g z)) (sym e) (by_private access r gpa (look_up lp.cached g.tdr (page_of_gpa gpa) access) refl)

    by_leaving : (out : Outcome) → AreMade (Leaves g.vp out) (Leaves g.vp out)
    by_leaving out given = record { after = record { alike = leave_alike w u g.vp worlds; own = own; given = given }; same = refl }

    by_max : (op : GuestOp) (b : Bool) → AreMade (max_event o w lp g op b) (max_event q u lp' g op b)
    by_max op true = by_leaving Max
    by_max op false = by_operation _ _ (operations_are_blind o q agree g.tdr g.vp (length lp.replies + 1) op)

    by_due : (op : Option GuestOp) → AreMade (due_event o w lp g op) (due_event q u lp' g op)
    by_due None = by_leaving Stop
    by_due (Some op) = by_max op (nat_le g.most g.completed)

    same_due : operation_due o w g ≡ operation_due q u g
    same_due =
        ap (λ (x : Vps). slice_get (o.codes g.tdr (x.indexes g.vp)) (x.positions g.vp)) worlds.vps
        ∙ ap (λ (code : List GuestOp). slice_get code (u.vps.positions g.vp)) (agree.codes g.tdr (u.vps.indexes g.vp))

    by_staying : (phase : Phase (Option Outcome)) → AreMade (staying_event o w lp g phase) (staying_event q u lp' g phase)
    by_staying Trying = subst (λ (op : Option GuestOp). AreMade (due_event o w lp g (operation_due o w g)) (due_event q u lp' g op)) same_due (by_due (operation_due o w g))
    by_staying (Undoing l) = by_act nothing_more nothing_more nothing_more-blind (Undoes l)
    by_staying (Answered out) = by_act nothing_more nothing_more nothing_more-blind (next_in [] (Answered out) g.operation.held)

    by_guest : (leaving : Option Outcome) → AreMade (guest_event o w lp g leaving) (guest_event q u lp' g leaving)
    by_guest (Some out) = by_leaving out
    by_guest None = by_staying g.operation.phase

    by_epoch : (c : Call) (h : Held) (b : Bool) → AreMade (epoch_event o w lp (row_of o p c) g h b) (epoch_event q u lp' (row_of q p c) g h b)
    by_epoch c h true = by_move c (Releases h) worlds
    by_epoch c h false = by_guest g.leaving

    by_entered : (c : Call) (hs : List Held) → AreMade (entered_event o w lp (row_of o p c) g hs) (entered_event q u lp' (row_of q p c) g hs)
    by_entered c [] = by_guest g.leaving
    by_entered c (h ∷ hs) = by_epoch c h (is_epoch_lock h.lock)

  by_line : (c : Call) (g : Option Guest) → lp.guest ≡ g → AreMade (line_event o w lp (row_of o p c) g) (line_event q u lp' (row_of q p c) g)
  by_line c None is = by_call c
  by_line c (Some g) is = by_entered g is c lp.call.held

  -- the states after it
  abbrev AreAfter : Option Event → Option Event → Type 0
  AreAfter x y = u.outgoing.to_tell ≡ Some (words_told w x ++ rest) → AreAlikeStates (after_event p s x) (after_event p t y) rest

  none_after : AreAfter None None
  none_after given = record { worlds = record { alike = worlds; own = own; given = given }; lps = λ x. refl; count = refl }

  some_after : (x y : Event) → AreMade x y → AreAfter (Some x) (Some y)
  some_after x y made given =
      let m : Made x y = made given in
      record { worlds = m.after; lps = λ n. by_test (n == p) (λ yes. rw yes m.same) (λ no. rw no refl); count = refl }

  by_lines : (cs : List Call) → AreAfter (event_for o w p lp cs) (event_for q u p lp' cs)
  by_lines [] = none_after
  by_lines (c ∷ cs) = some_after _ _ (by_line c lp.guest refl)

  by_event : AreAfter (next_event o s p) (next_event q t p)
  by_event =
      subst (λ (css : List (List Call)). AreAfter (next_event o s p) (event_for q u p lp' (drop (length lp.replies) (calls_of css p)))) agree.calls (by_lines (lines_left o p lp))

pub events_are_blind : EventsAreBlind
events_are_blind o q s t p rest agree guarded lt h =
    let notes : ℕ → List Note = λ x. (t.lps x).notes in
    let lu : Lawful o.machine t.world = subst (λ (m : Machine). Lawful m t.world) (sym agree.machine) lt in
    let first : AreAlikeStates (event o s p) (event q (record { world = t.world; lps = λ x. noting (notes x) (s.lps x); lp_count = s.lp_count }) p) rest =
    by_event o q agree s t.world notes p rest guarded lu h.worlds.alike h.worlds.own h.worlds.given in
    let same : (λ x. noting (notes x) (s.lps x)) ≡ t.lps = λ j x. sym (h.lps x) j in
    let P : (ℕ → Lp) → Type 0 = λ lps. AreAlikeStates (event o s p) (event q (record { world = t.world; lps = lps; lp_count = s.lp_count }) p) rest in
    let Q : ℕ → Type 0 = λ n. AreAlikeStates (event o s p) (event q (record { world = t.world; lps = t.lps; lp_count = n }) p) rest in
    subst Q h.count (subst P same first)
