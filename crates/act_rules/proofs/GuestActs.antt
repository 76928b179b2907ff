-- Each event of a guest changes what words are, and stores to words of pages, only as the rules say.
use Rattle.std.proofs.Common.{◌≡◌, refl, sym, ◌∙◌, subst, ap, inl, inr, ℕ, Bool, true, false, not, ◌==◌, ◌&&◌, ◌||◌, List, [], ◌∷◌, ◌++◌, ◌+◌, length, drop, Option, Some, None}
use Rattle.std.specs.List.{list_any}
use Rattle.std.proofs.lemmas.Bool.{eq-eqb, eqb-true, and_parts}
use Rattle.td_words.specs.declared.names.PageKind.TheVariants as kind
use Rattle.td_words.specs.declared.names.OpState.{OpState}
use Rattle.td_words.specs.declared.names.OpState.TheVariants as op
use Rattle.td_words.specs.declared.names.EntryState.{EntryState}
use Rattle.td_words.specs.declared.names.EntryState.TheVariants as entry
use Rattle.td_words.specs.declared.names.Access.{Access}
use Rattle.td_words.specs.declared.names.Access.TheVariants.{Read, Write}
use Rattle.td_words.specs.declared.calls.Call.{Call}
use Rattle.td_words.specs.declared.calls.GuestOp.{GuestOp}
use Rattle.td_words.specs.declared.replies.Outcome.{Outcome}
use Rattle.td_words.specs.NameNumber.{op_number}
use Rattle.td_words.specs.Packing.{Entry}
use Rattle.td_words.specs.Place.{Word}
use Rattle.flat_core.specs.World.{World}
use Rattle.flat_core.specs.Processor.{OfPage, OfOp, Held, Translation, Guest, Lp, Answered}
use Rattle.flat_core.specs.Opening.{Opening}
use Rattle.flat_core.specs.Row.{OperationRow, Move, Attempts, Undoes, Refuses, Succeeds, Releases, Rests, Passes, next, next_in}
use Rattle.flat_core.specs.Conditions.{running_ops, is_host}
use Rattle.flat_core.specs.Effects.{put_in, pass_operation, tell_words, leave_guest}
use Rattle.flat_core.specs.Tree.{same_state, entry_at, number_at, page_of_gpa, word_of_gpa}
use Rattle.flat_core.specs.Translations.{is_of_page, allows_access, look_up}
use Rattle.flat_core.specs.Guest.{ByRow, operation_of, set_value, add_registers, shared_load, shared_store, shared_page, accept_page, is_pending_at, extend_rtmr, report_facts, call_host, reach}
use Rattle.flat_core.specs.Lawful.{Lawful, IsPageOf, is_free}
use Rattle.flat_core.specs.Guests.{guest_locks, entry_locks}
use Rattle.flat_core.specs.Inside.{InGuest, LineAt, StandsAt}
use Rattle.flat_core.specs.Access.{is_pending}
use Rattle.flat_core.specs.AccessLaw.{IsGuarded}
use Rattle.flat_core.specs.Event.{State, Event, OfOperation, Reaches, calls_of, nothing_more, operation_world, world_after}
use Rattle.flat_core.specs.Laws.{reached}
use Rattle.flat_core.proofs.Tests.{by_test, host_kind, some_same}
use Rattle.flat_core.proofs.Operations.{operation_row, accepted}
use Rattle.flat_core.proofs.Always.{occ-of, occupied-alive, reaches_own, always_guarded}
use Rattle.flat_core.proofs.Due.{Due, calls, frees, leaves, stops, fills, operates, walks, reaches, undoes, gives_back, due_event_is}
use Rattle.word_rules.specs.Guards.{Grip, Locked, Reached, Written}
use Rattle.word_rules.specs.Rules.{Whole, KeepsNothing}
use Rattle.word_rules.specs.Views.{named_by}
use Rattle.word_rules.specs.Spots.{runs_in}
use Rattle.word_rules.specs.Permissions.{Sees, Writes, Fills, Respects}
use Rattle.word_rules.specs.CallUses.{HoldsTries}
use Rattle.word_rules.proofs.Conflicts.{respects-compose}
use Rattle.lock_words.specs.Grips.{holds, holds_alone, operation_locks, locks_of, is_usable_at, reaches_as, grip_of}
use Rattle.act_rules.specs.Acts.{SameSpots}
use Rattle.act_rules.specs.GuestActs.{OperationsKeepSpots, HasGuest, GuestRespects, GuestsRespect, MayStore, NoneReachesPending, GuestStores, GuestsStoreTheirs, MayAccess, GuardedGuestsRespect, EveryGuestEventRespects, HoldsAll, GuardedGuestsStore, EveryGuestEventStores}
use Rattle.act_rules.specs.GuestLocks.{OperationsHoldTheirs}
use Rattle.act_rules.proofs.Unreached.{IsCounted, none-reaches-pending}
use Rattle.act_rules.proofs.CallHolds.{pending-used}
use Rattle.act_rules.proofs.OperationLocks.{operation-passes, operation-locks-hold}
use Rattle.act_rules.proofs.Respected.{all-same, entry-same, effects-respect}

-- a page that is accepted

pending-is : (s : EntryState) → same_state s entry.Pending ≡ true → is_pending s ≡ true
pending-is entry.Pending h = refl
pending-is _ h = cc

named-page : (e : Entry) → is_free e.state ≡ false → e.page ≡ named_by e
named-page e f = rw f refl

-- an act that leaves pages, TDs, keys and counts
kept : (w w' : World) → w'.pages ≡ w.pages → w'.tds ≡ w.tds → w'.vps.entered ≡ w.vps.entered → w'.key_table ≡ w.key_table → SameSpots w w'
kept w w' pages tds entered table = record {
  words = all-same w w' pages (λ u. record { op = rw tds refl; controls = rw tds refl; epoch = rw tds refl; empty = λ b. rw (tds, entered) refl; named = λ n. rw tds refl });
  lives = rw tds refl;
  keys = λ h. rw table refl;
}

module _ (t v : ℕ) (w : World) where
  -- the world after an operation that makes this of it
  abbrev then_passed : World → World
  then_passed x = tell_words [] (pass_operation v x)

  mapped : (gpa : ℕ) → is_pending_at w t gpa ≡ true → SameSpots w (then_passed (accept_page true t gpa w))
  mapped gpa y =
      let w' : World = then_passed (accept_page true t gpa w) in
      let e : Entry = entry_at w t 0 gpa in
      let same = entry-same w t 0 (number_at 0 gpa) (record { state = entry.Mapped; page = e.page; mark = 0 }) (named-page e (pending-used e.state y)) in
      record { words = all-same w w' refl (λ u. record { op = refl; controls = refl; epoch = refl; empty = λ b. refl; named = (same u).named }); lives = refl; keys = λ h. refl }

  operation-keeps : (o : Opening) (line : ℕ) (op : GuestOp) (row : OperationRow) → operation_of o t v line op ≡ ByRow row → SameSpots w (operation_world row Succeeds w)
  operation-keeps o line op row is =
      operation_row o t v line (λ x. SameSpots w (operation_world x Succeeds w))
      (λ r x. kept w (operation_world (set_value v r x) Succeeds w) refl refl refl refl)
      (λ r s. kept w (operation_world (add_registers v r s) Succeeds w) refl refl refl refl)
      (λ r gpa. kept w (operation_world (shared_load o.machine v line r gpa) Succeeds w) refl refl refl refl)
      (λ r gpa. kept w (operation_world (shared_store o.machine v r gpa) Succeeds w) refl refl refl refl)
      (λ gpa. accepted (λ x. SameSpots w (then_passed x)) (is_pending_at w t gpa) t gpa w (mapped gpa) (λ n. kept w (then_passed w) refl refl refl refl))
      (λ i. kept w (operation_world (extend_rtmr t v line i) Succeeds w) refl refl refl refl)
      (kept w (operation_world (report_facts t v line) Succeeds w) refl refl refl refl)
      (λ r. kept w (operation_world (call_host v r) Succeeds w) refl refl refl refl)
      op row is

  access-keeps : (access : Access) (r gpa page : ℕ) → SameSpots w (reach t v access r gpa page w)
  access-keeps Read r gpa page = kept w (reach t v Read r gpa page w) refl refl refl refl
  access-keeps Write r gpa page = kept w (reach t v Write r gpa page w) refl refl refl refl

pub operations-keep-spots : OperationsKeepSpots
operations-keep-spots t v w = record { operation = operation-keeps t v w; access = access-keeps t v w }

pub guests-respect : GuestsRespect
guests-respect o me t v g w la has = record {
  operation = λ line op row is. (effects-respect g w).leaves (operation_world row Succeeds w) (operation-keeps t v w o line op row is);
  access = λ access r gpa page. (effects-respect g w).leaves (reach t v access r gpa page w) (access-keeps t v w access r gpa page);
  exit = (effects-respect g w).exit o.machine t v la has.occupied.page.owner has.td.tdr;
}

-- words of pages

runs : (s : OpState) → list_any (λ x. op_number x == op_number s) running_ops ≡ true → runs_in s ≡ true
runs op.Runnable h = refl
runs op.LiveExport h = refl
runs op.LiveImport h = refl
runs _ h = cc

none-stored : (g : Grip) (w w' : World) → w'.words ≡ w.words → MayStore g w w'
none-stored g w w' e p i = inl (λ j. e j p i)

one-stored : (g : Grip) (w w' : World) (p i x : ℕ) → w'.words ≡ put_in w.words p i x → Writes g w (Word p i) KeepsNothing → MayStore g w w'
one-stored g w w' p i x e may q j = by_test (q == p && j == i)
    (λ y. let z = and_parts (q == p) (j == i) y in
    inr (inl (subst (λ (n : ℕ). Writes g w (Word n j) KeepsNothing) (sym (eqb-true q p z.0)) (subst (λ (n : ℕ). Writes g w (Word p n) KeepsNothing) (sym (eqb-true j i z.1)) may))))
    (λ n. inl ((λ k. e k q j) ∙ rw n refl))

module _ (o : Opening) (me t v : ℕ) (g : Grip) (w : World) (la : Lawful o.machine w) (has : HasGuest g w me t v) where
  running : runs_in (w.tds.ops t) ≡ true
  running = runs (w.tds.ops t) has.occupied.running

  -- a word of a private page: P of the TDR page and O, with what translations reach and may change
  word-seen : (page i : ℕ) → IsPageOf w.pages t page kind.Reg → g.has (Reached page) ≡ true → Sees g w (Word page i) Whole
  word-seen page i its reached = rw (its.kind, its.owner, running) (inl (has.td.tdr, (has.td.op, (reached, tt))))

  word-written : (page i : ℕ) → IsPageOf w.pages t page kind.Reg → g.has (Reached page) ≡ true → g.has (Written page) ≡ true → Writes g w (Word page i) KeepsNothing
  word-written page i its reached written = rw (its.kind, its.owner, running) (inl (has.td.tdr, (has.td.op, (reached, (written, tt)))))

  -- and one of a page that nobody reaches
  word-filled : (page i : ℕ) → IsPageOf w.pages t page kind.Reg → g.sole (Locked (OfPage page)) ≡ true → g.clear (Reached page) ≡ true → Fills g w (Word page i)
  word-filled page i its alone none = rw (its.kind, its.owner, running) (inl (has.td.tdr, (has.td.op, (alone, (none, tt)))))

  -- one of a host page
  host-written : (page i : ℕ) → is_host w page ≡ true → g.has (Locked (OfPage page)) ≡ true → Writes g w (Word page i) KeepsNothing
  host-written page i host held = rw (host_kind (w.pages.kinds page) host) (inl (held, tt))

  zeros-stored : (gpa : ℕ) → is_pending_at w t gpa ≡ true → g.sole (Locked (OfPage (entry_at w t 0 gpa).page)) ≡ true → NoneReachesPending g w t → MayStore g w (then_passed t v w (accept_page true t gpa w))
  zeros-stored gpa y alone none q j =
      let e : Entry = entry_at w t 0 gpa in
      let its = (la.tree.lowest t (number_at 0 gpa) (occupied-alive w me t v has.occupied) (pending-used e.state y)).1.page in
      by_test (q == e.page)
      (λ z. inr (inr (subst (λ (n : ℕ). Fills g w (Word n j)) (sym (eqb-true q e.page z))
      (word-filled e.page j (record { kind = its.kind; owner = its.owner }) alone (none (number_at 0 gpa) (pending-is e.state y))))))
      (λ n. inl (rw n refl))

  operation-stores : (line : ℕ) (op : GuestOp) (row : OperationRow) → operation_of o t v line op ≡ ByRow row → Passes (row.items w) → HoldsTries g (row.items w) → NoneReachesPending g w t → MayStore g w (operation_world row Succeeds w)
  operation-stores line op row is ps h none =
      operation_row o t v line (λ x. Passes (x.items w) → HoldsTries g (x.items w) → MayStore g w (operation_world x Succeeds w))
      (λ r x ps h. none-stored g w (operation_world (set_value v r x) Succeeds w) refl)
      (λ r s ps h. none-stored g w (operation_world (add_registers v r s) Succeeds w) refl)
      (λ r gpa ps h. none-stored g w (operation_world (shared_load o.machine v line r gpa) Succeeds w) refl)
      (λ r gpa ps h. one-stored g w (operation_world (shared_store o.machine v r gpa) Succeeds w) (shared_page gpa) (word_of_gpa gpa) _ refl (host-written (shared_page gpa) (word_of_gpa gpa) ps.1.0 h.0))
      (λ gpa ps h. accepted (λ x. MayStore g w (then_passed t v w x)) (is_pending_at w t gpa) t gpa w (λ y. zeros-stored gpa y h.1.0.1 none) (λ n. none-stored g w (then_passed t v w w) refl))
      (λ i ps h. none-stored g w (operation_world (extend_rtmr t v line i) Succeeds w) refl)
      (λ ps h. none-stored g w (operation_world (report_facts t v line) Succeeds w) refl)
      (λ r ps h. none-stored g w (operation_world (call_host v r) Succeeds w) refl)
      op row is ps h

  stores : GuestStores o t v g w
  stores = record {
    operation = operation-stores;
    load = λ gpa page. word-seen page (word_of_gpa gpa);
    store = λ r gpa page its reached written. one-stored g w (reach t v Write r gpa page w) page (word_of_gpa gpa) (w.hidden.registers v r) refl (word-written page (word_of_gpa gpa) its reached written);
  }

pub guests-store-theirs : GuestsStoreTheirs
guests-store-theirs o me t v g w la has = stores o me t v g w la has

-- a translation that is found is usable, and may write where that is asked for

may-write : (must : Bool) (access : Access) (c : Translation) → (must ≡ true → access ≡ Write) → allows_access access c ≡ true → (not must || c.may_write) ≡ true
may-write false access c k h = refl
may-write true Write c k h = h
may-write true Read c k h = absurd (let no : Read ≡ Write = k refl in cc)

found-usable : (must : Bool) (access : Access) → (must ≡ true → access ≡ Write) → (cs : List Translation) (t n page : ℕ) → look_up cs t n access ≡ Some page → list_any (is_usable_at t page must) cs ≡ true
found-usable must access k [] t n page e = cc
found-usable must access k (c ∷ cs) t n page e = by_test (is_of_page t n c && allows_access access c)
    (λ y. let a = and_parts (is_of_page t n c) (allows_access access c) y in
    let td = (and_parts (c.tdr == t) (c.gpa_page == n) a.0).0 in
    let same : c.page ≡ page = some_same c.page page (rw y at e) in
    rw (td, eq-eqb c.page page same, may-write must access c k a.1) refl)
    (λ y. or-last (is_usable_at t page must c) (list_any (is_usable_at t page must) cs) (found-usable must access k cs t n page (rw y at e)))
  where
    or-last : (a b : Bool) → b ≡ true → (a || b) ≡ true
    or-last true b h = refl
    or-last false b h = h

-- what VP.ENTER holds, with E or without

module _ (t v : ℕ) (xs : List Held) where
  tdr-among : holds (guest_locks t v ++ xs) (OfPage t) ≡ true
  tdr-among = by_test (v == t) (λ y. rw y refl) (λ n. rw (n, eq-eqb t t refl) refl)

  op-among : holds (guest_locks t v ++ xs) (OfOp t) ≡ true
  op-among = rw (eq-eqb t t refl) refl

  vp-among : holds_alone (guest_locks t v ++ xs) (OfPage v) ≡ true
  vp-among = rw (eq-eqb v v refl) refl

module _ (o : Opening) (s : State) (all : IsGuarded o s) (p : ℕ) where
  abbrev w : World
  w = s.world

  abbrev lp : Lp
  lp = s.lps p

  abbrev grip : Grip
  grip = grip_of s p

  guest-counted : (q : ℕ) (g : Guest) → (s.lps q).guest ≡ Some g → IsCounted w g.tdr g.vp
  guest-counted q g is =
      let x = occ-of o s all.timely q g is in
      record { alive = occupied-alive w q g.tdr g.vp x; counted = x.entered ∙ ap (λ (e : ℕ). Some e) (sym x.current) }

  module _ (g : Guest) (is : lp.guest ≡ Some g) where
    inside : (c : Call) × InGuest o w p c lp g
    inside = by (drop (length lp.replies) (calls_of o.calls p)) (all.timely.each p)
      where
        by : (cs : List Call) → StandsAt o w p cs lp → (c : Call) × InGuest o w p c lp g
        by [] h = (let no : None ≡ Some g = sym h.0 ∙ is in cc)
        by (c ∷ cs) h = (c, subst (λ (x : Option Guest). LineAt o w p c lp x) is h)

    has-with : (P : List Held → Type 0) → P (guest_locks g.tdr g.vp ++ operation_locks lp.guest) → P (entry_locks g.tdr g.vp ++ operation_locks lp.guest) → P (locks_of lp)
    has-with P a b = elim inside.1.locks [
      | inl e ↦ subst (λ (hs : List Held). P (hs ++ operation_locks lp.guest)) (sym e) a
      | inr e ↦ subst (λ (hs : List Held). P (hs ++ operation_locks lp.guest)) (sym e.0) b
    ]

    has-guest : HasGuest grip w p g.tdr g.vp
    has-guest =
        let xs = operation_locks lp.guest in
        record {
          td = record {
            tdr = has-with (λ hs. holds hs (OfPage g.tdr) ≡ true) (tdr-among g.tdr g.vp xs) (tdr-among g.tdr g.vp xs);
            op = has-with (λ hs. holds hs (OfOp g.tdr) ≡ true) (op-among g.tdr g.vp xs) (op-among g.tdr g.vp xs);
          };
          vp = has-with (λ hs. holds_alone hs (OfPage g.vp) ≡ true) (vp-among g.tdr g.vp xs) (vp-among g.tdr g.vp xs);
          occupied = occ-of o s all.timely p g is;
        }

    none-reaches : NoneReachesPending grip w g.tdr
    none-reaches n pends = none-reaches-pending o.machine s g.tdr n all.timely.lawful all.access (λ q x below e. guest-counted q x e) (guest-counted p g is).alive pends p

    may-store : GuestStores o g.tdr g.vp grip w
    may-store = guests-store-theirs o p g.tdr g.vp grip w all.timely.lawful has-guest

    respects : GuestRespects o g.tdr g.vp grip w
    respects = guests-respect o p g.tdr g.vp grip w all.timely.lawful has-guest

    -- a move of an operation is its act, or leaves the world
    moved : (row : OperationRow) (mv : Move (Option Outcome)) → Respects grip w (operation_world row Succeeds w) → Respects grip w (operation_world row mv w)
    moved row (Attempts l m) h = respects-compose.same grip w
    moved row (Undoes l) h = respects-compose.same grip w
    moved row (Refuses r) h = respects-compose.same grip w
    moved row Succeeds h = h
    moved row (Releases x) h = respects-compose.same grip w
    moved row Rests h = respects-compose.same grip w

    nothing-more : Respects grip w (operation_world nothing_more Succeeds w)
    nothing-more = (effects-respect grip w).leaves (operation_world nothing_more Succeeds w) (kept w (operation_world nothing_more Succeeds w) refl refl refl refl)

    reached-as : (page : ℕ) (must : Bool) → list_any (is_usable_at g.tdr page must) lp.cached ≡ true → reaches_as lp.guest page must lp.cached ≡ true
    reached-as page must h = subst (λ (x : Option Guest). reaches_as x page must lp.cached ≡ true) (sym is) h

    may-access : (access : Access) (r gpa page : ℕ) → look_up lp.cached g.tdr (page_of_gpa gpa) access ≡ Some page → MayAccess grip w (Reaches g.tdr g.vp access r gpa page)
    may-access access r gpa page found = by access found
      where
        own : (access : Access) → look_up lp.cached g.tdr (page_of_gpa gpa) access ≡ Some page → IsPageOf w.pages g.tdr page kind.Reg
        own access e = (let its = (reaches_own o s all p (page_of_gpa gpa) page access g is e).0.private in record { kind = its.kind; owner = its.owner })

        by : (access : Access) → look_up lp.cached g.tdr (page_of_gpa gpa) access ≡ Some page → MayAccess grip w (Reaches g.tdr g.vp access r gpa page)
        by Read e = word-seen o p g.tdr g.vp grip w all.timely.lawful has-guest page (word_of_gpa gpa) (own Read e)
            (reached-as page false (found-usable false Read (λ n. cc) lp.cached g.tdr (page_of_gpa gpa) page e))
        by Write e = word-written o p g.tdr g.vp grip w all.timely.lawful has-guest page (word_of_gpa gpa) (own Write e)
            (reached-as page false (found-usable false Write (λ n. refl) lp.cached g.tdr (page_of_gpa gpa) page e))
            (reached-as page true (found-usable true Write (λ n. refl) lp.cached g.tdr (page_of_gpa gpa) page e))

  event-respects : (x : Guest) → lp.guest ≡ Some x → (e : Event) → Due o w p lp e → Respects grip w (world_after e w)
  event-respects x at e (calls c cs line none) = absurd (let no : None ≡ Some x = sym none ∙ at in cc)
  event-respects x at e (frees c cs g h hs line guest held epoch) = respects-compose.same grip w
  event-respects x at e (leaves c cs g out i l) = (respects g i.guest).exit
  event-respects x at e (stops c cs g i l t d) = (respects g i.guest).exit
  event-respects x at e (fills c cs g op i l t d m) = (respects g i.guest).exit
  event-respects x at e (operates c cs g op row i way is) = moved g i.guest row (next (row.items w) (length g.operation.held)) ((respects g i.guest).operation (length lp.replies + 1) op row is)
  event-respects x at e (walks c cs g op access r gpa i way is lost) = respects-compose.same grip w
  event-respects x at e (reaches c cs g op access r gpa page i way is found) = (respects g i.guest).access access r gpa page
  event-respects x at e (undoes c cs g l i st h) = respects-compose.same grip w
  event-respects x at e (gives_back c cs g out i st h) = moved g i.guest nothing_more (next_in [] (Answered out) g.operation.held) (nothing-more g i.guest)

  event-accesses : (e : Event) → Due o w p lp e → MayAccess grip w e
  event-accesses e (calls c cs line none) = tt
  event-accesses e (frees c cs g h hs line guest held epoch) = tt
  event-accesses e (leaves c cs g out i l) = tt
  event-accesses e (stops c cs g i l t d) = tt
  event-accesses e (fills c cs g op i l t d m) = tt
  event-accesses e (operates c cs g op row i way is) = tt
  event-accesses e (walks c cs g op access r gpa i way is lost) = tt
  event-accesses e (reaches c cs g op access r gpa page i way is found) = may-access g i.guest access r gpa page found
  event-accesses e (undoes c cs g l i st h) = tt
  event-accesses e (gives_back c cs g out i st h) = tt

  module _ (theirs : OperationsHoldTheirs o s) where
    event-holds : (e : Event) → Due o w p lp e → HoldsAll grip w e
    event-holds e (calls c cs line none) = tt
    event-holds e (frees c cs g h hs line guest held epoch) = tt
    event-holds e (leaves c cs g out i l) = tt
    event-holds e (stops c cs g i l t d) = tt
    event-holds e (fills c cs g op i l t d m) = tt
    event-holds e (operates c cs g op row i way is) = by (next (row.items w) (length g.operation.held)) refl
      where
        by : (mv : Move (Option Outcome)) → next (row.items w) (length g.operation.held) ≡ mv → HoldsAll grip w (OfOperation row mv)
        by Succeeds e = operation-passes o s p theirs g i.guest op row way.trying way.due is e
        by (Attempts l m) e = tt
        by (Undoes l) e = tt
        by (Refuses r) e = tt
        by (Releases x) e = tt
        by Rests e = tt
    event-holds e (walks c cs g op access r gpa i way is lost) = tt
    event-holds e (reaches c cs g op access r gpa page i way is found) = tt
    event-holds e (undoes c cs g l i st h) = tt
    event-holds e (gives_back c cs g out i st h) = by g.operation.held
      where
        by : (hs : List Held) → HoldsAll grip w (OfOperation nothing_more (next_in [] (Answered out) hs))
        by [] = tt
        by (x ∷ hs) = tt

    -- a move of an operation that isn't its act stores nothing
    move-stores : (row : OperationRow) (mv : Move (Option Outcome)) → (mv ≡ Succeeds → MayStore grip w (operation_world row Succeeds w)) → MayStore grip w (operation_world row mv w)
    move-stores row Succeeds h = h refl
    move-stores row (Attempts l m) h = none-stored grip w w refl
    move-stores row (Undoes l) h = none-stored grip w w refl
    move-stores row (Refuses r) h = none-stored grip w w refl
    move-stores row (Releases x) h = none-stored grip w w refl
    move-stores row Rests h = none-stored grip w w refl

    access-stores : (t v : ℕ) (access : Access) (r gpa page : ℕ) → MayAccess grip w (Reaches t v access r gpa page) → MayStore grip w (reach t v access r gpa page w)
    access-stores t v Read r gpa page may = none-stored grip w (reach t v Read r gpa page w) refl
    access-stores t v Write r gpa page may = one-stored grip w (reach t v Write r gpa page w) page (word_of_gpa gpa) (w.hidden.registers v r) refl may

    event-stores : (x : Guest) → lp.guest ≡ Some x → (e : Event) → Due o w p lp e → MayStore grip w (world_after e w)
    event-stores x at e (calls c cs line none) = absurd (let no : None ≡ Some x = sym none ∙ at in cc)
    event-stores x at e (frees c cs g h hs line guest held epoch) = none-stored grip w w refl
    event-stores x at e (leaves c cs g out i l) = none-stored grip w (leave_guest g.vp w) refl
    event-stores x at e (stops c cs g i l t d) = none-stored grip w (leave_guest g.vp w) refl
    event-stores x at e (fills c cs g op i l t d m) = none-stored grip w (leave_guest g.vp w) refl
    event-stores x at e (operates c cs g op row i way is) =
        move-stores row (next (row.items w) (length g.operation.held))
        (λ y. let all-held = operation-passes o s p theirs g i.guest op row way.trying way.due is y in
        (may-store g i.guest).operation (length lp.replies + 1) op row is all-held.0 all-held.1 (none-reaches g i.guest))
    event-stores x at e (walks c cs g op access r gpa i way is lost) = none-stored grip w w refl
    event-stores x at e (reaches c cs g op access r gpa page i way is found) = access-stores g.tdr g.vp access r gpa page (may-access g i.guest access r gpa page found)
    event-stores x at e (undoes c cs g l i st h) = none-stored grip w w refl
    event-stores x at e (gives_back c cs g out i st h) = move-stores nothing_more (next_in [] (Answered out) g.operation.held) (λ y. none-stored grip w (operation_world nothing_more Succeeds w) refl)

pub guarded-guests-respect : GuardedGuestsRespect
guarded-guests-respect o s all = record {
  has = λ p g is. has-guest o s all p g is;
  pending = λ p g is. none-reaches o s all p g is;
  event = λ p g e is next. event-respects o s all p g is e (due_event_is o s p e next);
  access = λ p e next. event-accesses o s all p e (due_event_is o s p e next);
}

pub every-guest-event-respects : EveryGuestEventRespects
every-guest-event-respects o ws schedule = guarded-guests-respect o _ (always_guarded o ws schedule)

pub guarded-guests-store : GuardedGuestsStore
guarded-guests-store o s all theirs = record {
  holds = λ p g e is next. event-holds o s all p theirs e (due_event_is o s p e next);
  stores = λ p g e is next. event-stores o s all p theirs g is e (due_event_is o s p e next);
}

pub every-guest-event-stores : EveryGuestEventStores
every-guest-event-stores o ws schedule = guarded-guests-store o _ (always_guarded o ws schedule) (operation-locks-hold o ws schedule)
