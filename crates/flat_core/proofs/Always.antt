-- No stale translation is used, in every state that a run reaches.
use Rattle.std.proofs.Common.{◌≡◌, ◌≢◌, ◌⊎◌, inl, inr, refl, sym, ◌∙◌, subst, ap, ℕ, zero, suc, ◌+◌, ◌≤◌, List, [], ◌∷◌, length, drop, Option, Some, None, option_map, Bool, true, false, ◌==◌, arith}
use Rattle.std.proofs.lemmas.Bool.{eqb-true, eqb-false}
use Rattle.td_words.specs.declared.names.EntryState.{EntryState}
use Rattle.td_words.specs.declared.names.EntryState.TheVariants as entry
use Rattle.td_words.specs.declared.names.Access.{Access}
use Rattle.td_words.specs.declared.names.Access.TheVariants.{Read, Write}
use Rattle.td_words.specs.declared.calls.Call.{Call}
use Rattle.td_words.specs.declared.calls.Call.TheVariants as call
use Rattle.td_words.specs.declared.calls.GuestOp.{GuestOp}
use Rattle.td_words.specs.declared.replies.Outcome.{Outcome}
use Rattle.td_words.specs.declared.replies.Outcome.TheVariants.{Stop, Max}
use Rattle.td_words.specs.declared.replies.Reply.{Reply}
use Rattle.td_words.specs.Packing.{Entry}
use Rattle.flat_core.specs.World.{World, Pages, Tds}
use Rattle.flat_core.specs.Processor.{Held, Phase, Trying, Undoing, Answered, Translation, Walk, Guest, Entering, Lp}
use Rattle.flat_core.specs.Opening.{Opening, Incoming}
use Rattle.flat_core.specs.Row.{Row, OperationRow, after_move, Passes, Move, Attempts, Undoes, Refuses, Succeeds, Releases, Rests, next, next_in}
use Rattle.flat_core.specs.Effects.{tell_words, leave_guest, pass_operation}
use Rattle.flat_core.specs.Tree.{page_of_gpa, number_at, entry_at, same_state}
use Rattle.flat_core.specs.Translations.{cache, look_up, drop_td}
use Rattle.flat_core.specs.Guest.{ByRow, operation_of, is_pending_at, accept_page, accept, reach, answered, walk_level, walk_step, walked_on, walked_entry, goes_on, cached_after, translation_of}
use Rattle.flat_core.specs.Table.{row_of}
use Rattle.flat_core.specs.Event.{State, Event, OfCall, OfOperation, Walks, Reaches, Leaves, start, next_event, calls_of, after_event, world_after, call_world, operation_world, lp_after, call_lp, succeeded, settled, settle, settled_guest, settle_operation, operation_guest, operation_busy, nothing_more, walk_translations, is_granted}
use Rattle.flat_core.specs.Laws.{reached, with_bundles, HoldsInRuns}
use Rattle.flat_core.specs.Inside.{AreTimely, StandsAt, LineAt}
use Rattle.td_words.specs.declared.names.PageKind.TheVariants as kind
use Rattle.flat_core.specs.Lawful.{Lawful, IsAlive, IsPageOf, is_free}
use Rattle.flat_core.specs.AccessLaw.{IsGuarded, AccessIsKept, AccessAlwaysHolds, IsOwnPage, GuestsReachTheirOwn}
use Rattle.flat_core.specs.Guests.{IsOccupied}
use Rattle.flat_core.specs.Access.{IsUsable, inside, entry_of, is_pending, LawfulTranslations, LawfulEpochs, AccessHolds}
use Rattle.flat_core.proofs.Tests.{by_test}
use Rattle.flat_core.proofs.Cached.{found_in}
use Rattle.flat_core.proofs.Induction.{in_runs}
use Rattle.flat_core.proofs.Operations.{operation_row, accepted}
use Rattle.flat_core.proofs.Due.{Due, calls, frees, leaves, stops, fills, operates, walks, reaches, undoes, gives_back, due_event_is}
use Rattle.flat_core.proofs.Enter.{enters_or_none, passed}
use Rattle.flat_core.proofs.Ends.{timeliness_kept}
use Rattle.flat_core.proofs.Accesses.{row-access, accept-access}
use Rattle.flat_core.proofs.AccessActs.{quiet-act, frame, current-same, walking-same}
use Rattle.flat_core.proofs.Guarded.{enter-access, flush-access, guest-changed, left-access, filled, stepped}
use Rattle.flat_core.proofs.Epochs.{quiet-epochs, row-epochs, leave-epochs}

abbrev pub SameGuest : Guest → Guest → Type 0
SameGuest g g' = (g'.tdr ≡ g.tdr) × (g'.vp ≡ g.vp) × ((g'.walk ≡ g.walk) ⊎ (g'.walk ≡ None))

pub settled-same : (g g0 : Guest) → SameGuest g0 g → SameGuest g0 (settled_guest g)
settled-same g g0 s = by g.operation.phase g.operation.held
  where
    by : (phase : Phase (Option Outcome)) (hs : List Held) → SameGuest g0 (settle_operation phase hs g)
    by (Answered None) [] = (s.0, s.1, inr refl)
    by (Answered (Some out)) [] = (s.0, s.1, inr refl)
    by (Answered None) (h ∷ hs) = s
    by (Answered (Some out)) (h ∷ hs) = s
    by Trying hs = s
    by (Undoing l) hs = s

pub settled-lp : (x : Lp) → ((settled x).cached ≡ x.cached) × ((settled x).guest ≡ x.guest)
settled-lp x = by x.call.phase x.call.held
  where
    by : (phase : Phase Reply) (hs : List Held) → ((settle phase hs x).cached ≡ x.cached) × ((settle phase hs x).guest ≡ x.guest)
    by (Answered r) [] = (refl, refl)
    by (Answered r) (h ∷ hs) = (refl, refl)
    by Trying hs = (refl, refl)
    by (Undoing l) hs = (refl, refl)

-- whose virtual processor is in guest there
pub occ-of : (o : Opening) (s : State) → AreTimely o s → (q : ℕ) (g : Guest) → (s.lps q).guest ≡ Some g → IsOccupied s.world q g.tdr g.vp
occ-of o s timely q g e = by (drop (length (s.lps q).replies) (calls_of o.calls q)) (timely.each q)
  where
    by : (cs : List Call) → StandsAt o s.world q cs (s.lps q) → IsOccupied s.world q g.tdr g.vp
    by [] h = (let no : None ≡ Some g = sym h.0 ∙ e in cc)
    by (c ∷ cs) h = (subst (λ (x : Option Guest). LineAt o s.world q c (s.lps q) x) e h).occupied

pub occupied-alive : (w : World) (p t v : ℕ) → IsOccupied w p t v → IsAlive w.pages w.tds t
occupied-alive w p t v x = record { kind = x.tdr; life = rw (x.life) refl }

-- one event of processor p
module _ (o : Opening) (s : State) (p : ℕ) (lawful : Lawful o.machine s.world) (occ : (q : ℕ) (g : Guest) → (s.lps q).guest ≡ Some g → IsOccupied s.world q g.tdr g.vp) (holds : AccessHolds s) where
  abbrev w : World
  w = s.world

  abbrev lp : Lp
  lp = s.lps p

  abbrev IsAfter : Event → Bool → Type 0
  IsAfter e b = LawfulEpochs (world_after e w) × LawfulTranslations (world_after e w) p (lp_after w b e lp).cached (lp_after w b e lp).guest
      × ((q : ℕ) → q ≢ p → LawfulTranslations (world_after e w) q (s.lps q).cached (s.lps q).guest)

  own : LawfulTranslations w p lp.cached lp.guest
  own = holds.each p

  with-lp : (w' : World) (lp' : Lp) (cs : List Translation) (g : Option Guest) → lp'.cached ≡ cs → lp'.guest ≡ g → LawfulTranslations w' p cs g → LawfulTranslations w' p lp'.cached lp'.guest
  with-lp w' lp' cs g a b h = subst (λ (x : List Translation). LawfulTranslations w' p x lp'.guest) (sym a) (subst (λ (x : Option Guest). LawfulTranslations w' p cs x) (sym b) h)

  own-guest : (g : Guest) → lp.guest ≡ Some g → LawfulTranslations w p lp.cached (Some g)
  own-guest g e = subst (λ (x : Option Guest). LawfulTranslations w p lp.cached x) e own

  -- the world stays
  still : (e : Event) (b : Bool) → world_after e w ≡ w → LawfulTranslations w p (lp_after w b e lp).cached (lp_after w b e lp).guest → IsAfter e b
  still e b same a =
      subst (λ (x : World). LawfulEpochs x × LawfulTranslations x p (lp_after w b e lp).cached (lp_after w b e lp).guest × ((q : ℕ) → q ≢ p → LawfulTranslations x q (s.lps q).cached (s.lps q).guest)) (sym same)
      (holds.epochs, a, λ q n. holds.each q)

  -- a world that each processor's translations and walk are still current in
  abbrev StillHold : World → Type 0
  StillHold w' = LawfulEpochs w' × ((q : ℕ) → LawfulTranslations w' q (s.lps q).cached (s.lps q).guest)

  -- and the processor's guest goes on
  of-guest : (e : Event) (b : Bool) → StillHold (world_after e w) → (g g' : Guest) → lp.guest ≡ Some g → SameGuest g g' → (lp_after w b e lp).cached ≡ lp.cached → (lp_after w b e lp).guest ≡ Some g' → IsAfter e b
  of-guest e b h g g' is same cs gs =
      let w' : World = world_after e w in
      let own' : LawfulTranslations w' p lp.cached (Some g) = subst (λ (x : Option Guest). LawfulTranslations w' p lp.cached x) is (h.1 p) in
      (h.0, with-lp w' (lp_after w b e lp) lp.cached (Some g') cs gs (guest-changed w' p lp.cached g g' same.0 same.1 same.2 own'), λ q n. h.1 q)

  -- one that differs in nothing of this
  abbrev pub IsQuietWorld : World → Type 0
  IsQuietWorld w' = (w'.pages ≡ w.pages) × (w'.tds ≡ w.tds) × (w'.vps.associated ≡ w.vps.associated) × (w'.vps.lasts ≡ w.vps.lasts) × (w'.vps.entered ≡ w.vps.entered)

  quiet-world : (w' : World) → IsQuietWorld w' → StillHold w'
  quiet-world w' f =
      let lives = ap (λ (z : Tds). z.lives) f.1 in
      let ops = ap (λ (z : Tds). z.ops) f.1 in
      let epochs = ap (λ (z : Tds). z.epochs) f.1 in
      let entries = ap (λ (z : Tds). z.entries) f.1 in (
        quiet-epochs o.machine w lawful holds.epochs w' (ap (λ (z : Pages). z.kinds) f.0) (ap (λ (z : Pages). z.owners) f.0) lives ops epochs f.2 f.3 f.4,
        λ q. quiet-act o.machine w lawful holds.epochs q (s.lps q).cached (s.lps q).guest (λ x i. occ q x i) (holds.each q) w' f.0 lives ops epochs entries f.2 f.3 f.4,
      )

  -- a page that is accepted was PENDING, so nothing that may be used names it; and a page that was may not be is left
  accept-world : (t v gpa : ℕ) → StillHold (operation_world (accept t v gpa) Succeeds w)
  accept-world t v gpa = accepted (λ x. StillHold (tell_words [] (pass_operation v x))) (is_pending_at w t gpa) t gpa w
      (λ y. let w' : World = tell_words [] (pass_operation v (accept_page true t gpa w)) in
      let new : Entry = record { state = entry.Mapped; page = (entry_at w t 0 gpa).page; mark = 0 } in (
        quiet-epochs o.machine w lawful holds.epochs w' refl refl refl refl refl refl refl refl,
        λ q. accept-access o.machine w lawful holds.epochs q (s.lps q).cached (s.lps q).guest (λ x i. occ q x i) (holds.each q) w' t (number_at 0 gpa) new (pending_state (entry_at w t 0 gpa).state y) refl refl refl refl refl,
      ))
      (λ y. quiet-world (tell_words [] (pass_operation v w)) (refl, refl, refl, refl, refl))
    where
      pending_state : (x : EntryState) → same_state x entry.Pending ≡ true → is_pending x ≡ true
      pending_state entry.Pending e = refl
      pending_state entry.Free e = cc
      pending_state _ e = cc

  -- the act of a row that enters no guest, of which VP.FLUSH alone changes what is cached
  own-act : (c : Call) → Passes ((row_of o p c).items w) → (row_of o p c).enters ≡ None → lp.guest ≡ None → LawfulTranslations ((row_of o p c).act w) p ((row_of o p c).cached w lp.cached) lp.guest
  own-act (call.VpEnter t v most) ps en none = cc
  own-act (call.VpFlush t v) ps en none =
      subst (λ (x : Option Guest). LawfulTranslations ((row_of o p (call.VpFlush t v)).act w) p (drop_td t lp.cached) x) (sym none)
      (flush-access o p t v w holds.epochs lp.cached ps (subst (λ (x : Option Guest). LawfulTranslations w p lp.cached x) none own))
  own-act (call.HostRead page i) ps en none = own
  own-act c ps en none = row-access o w lawful holds.epochs p lp.cached lp.guest (λ z i. occ p z i) own p c ps (λ t v most i. cc) (λ t v i. cc)

  -- a call's moves
  of-call : (c : Call) (b : Bool) (phase : Phase Reply) (hs : List Held) → lp.guest ≡ None → lp.call.phase ≡ phase → lp.call.held ≡ hs → IsAfter (OfCall (row_of o p c) (next_in ((row_of o p c).items w) phase hs)) b
  of-call c b phase hs none ph he = by (next_in ((row_of o p c).items w) phase hs) refl
    where
      kept : (mv : Move Reply) → (mv ≡ Succeeds → ⊥) → ((call_lp w b (row_of o p c) mv lp).cached ≡ lp.cached) × ((call_lp w b (row_of o p c) mv lp).guest ≡ lp.guest) × (call_world (row_of o p c) mv w ≡ w)
      kept Succeeds n = absurd (n refl)
      kept (Attempts l m) n = (refl, refl, refl)
      kept (Undoes l) n = (refl, refl, refl)
      kept (Refuses r) n = (refl, refl, refl)
      kept (Releases h) n = (refl, refl, refl)
      kept Rests n = (refl, refl, refl)

      quiet-move : (mv : Move Reply) → (mv ≡ Succeeds → ⊥) → IsAfter (OfCall (row_of o p c) mv) b
      quiet-move mv n =
          let k = kept mv n in
          let x : Lp = call_lp w b (row_of o p c) mv lp in
          let y = settled-lp x in
          still (OfCall (row_of o p c) mv) b k.2 (with-lp w (settled x) lp.cached lp.guest (y.0 ∙ k.0) (y.1 ∙ k.1) own)

      acts : next_in ((row_of o p c).items w) phase hs ≡ Succeeds → IsAfter (OfCall (row_of o p c) Succeeds) b
      acts e =
          let ps : Passes ((row_of o p c).items w) = passed ((row_of o p c).items w) phase hs e in
          let others : (q : ℕ) → q ≢ p → LawfulTranslations ((row_of o p c).act w) q (s.lps q).cached (s.lps q).guest =
          λ q n. row-access o w lawful holds.epochs q (s.lps q).cached (s.lps q).guest (λ x i. occ q x i) (holds.each q) p c ps (λ t v most i. n)
          (λ t v i. n) in
          elim (enters_or_none o p c) [
            | inl en ↦ (row-epochs o w lawful holds.epochs p c ps, plain ps en, others)
            | inr x ↦ (row-epochs o w lawful holds.epochs p c ps, enters ps x.0 x.1 x.2 x.3, others)
          ]
        where
          plain : Passes ((row_of o p c).items w) → (row_of o p c).enters ≡ None → LawfulTranslations ((row_of o p c).act w) p (settled (call_lp w b (row_of o p c) Succeeds lp)).cached (settled (call_lp w b (row_of o p c) Succeeds lp)).guest
          plain ps en =
              let x : Lp = call_lp w b (row_of o p c) Succeeds lp in
              let y = settled-lp x in
              let at : (z : Option Entering) → z ≡ None → ((succeeded w (row_of o p c) z lp).cached ≡ (row_of o p c).cached w lp.cached) × ((succeeded w (row_of o p c) z lp).guest ≡ lp.guest) = same-record in
              let k = at (row_of o p c).enters en in
              with-lp ((row_of o p c).act w) (settled x) ((row_of o p c).cached w lp.cached) lp.guest (y.0 ∙ k.0) (y.1 ∙ k.1) (own-act c ps en none)
            where
              same-record : (z : Option Entering) → z ≡ None → ((succeeded w (row_of o p c) z lp).cached ≡ (row_of o p c).cached w lp.cached) × ((succeeded w (row_of o p c) z lp).guest ≡ lp.guest)
              same-record None e = (refl, refl)
              same-record (Some z) e = cc

          enters : Passes ((row_of o p c).items w) → (t v most : ℕ) → c ≡ call.VpEnter t v most → LawfulTranslations ((row_of o p c).act w) p (settled (call_lp w b (row_of o p c) Succeeds lp)).cached (settled (call_lp w b (row_of o p c) Succeeds lp)).guest
          enters ps t v most is =
              let a : LawfulTranslations w p lp.cached None = subst (λ (x : Option Guest). LawfulTranslations w p lp.cached x) none own in
              subst (λ (z : Call). Passes ((row_of o p z).items w) → LawfulTranslations ((row_of o p z).act w) p (settled (call_lp w b (row_of o p z) Succeeds lp)).cached (settled (call_lp w b (row_of o p z) Succeeds lp)).guest) (sym is)
              (λ ps. let x : Lp = call_lp w b (row_of o p (call.VpEnter t v most)) Succeeds lp in let y = settled-lp x in
              with-lp ((row_of o p (call.VpEnter t v most)).act w) (settled x) x.cached x.guest y.0 y.1 (enter-access o p t v most w lawful holds.epochs lp.cached ps a)) ps

      by : (mv : Move Reply) → next_in ((row_of o p c).items w) phase hs ≡ mv → IsAfter (OfCall (row_of o p c) mv) b
      by Succeeds e = acts e
      by (Attempts l m) e = quiet-move (Attempts l m) (λ z. cc)
      by (Undoes l) e = quiet-move (Undoes l) (λ z. cc)
      by (Refuses r) e = quiet-move (Refuses r) (λ z. cc)
      by (Releases h) e = quiet-move (Releases h) (λ z. cc)
      by Rests e = quiet-move Rests (λ z. cc)

  of-release : (row : Row) (b : Bool) (h : Held) → IsAfter (OfCall row (Releases h)) b
  of-release row b h =
      let x : Lp = call_lp w b row (Releases h) lp in
      let y = settled-lp x in
      still (OfCall row (Releases h)) b refl (with-lp w (settled x) lp.cached lp.guest y.0 y.1 own)

  of-leave : (b : Bool) (g : Guest) (out : Outcome) → lp.guest ≡ Some g → IsAfter (Leaves g.vp out) b
  of-leave b g out is = (
    leave-epochs o w lawful holds.epochs g.vp,
    left-access w p lp.cached g (occ p g is) holds.epochs (own-guest g is),
    λ q n. frame w (leave_guest g.vp w) holds.epochs q (s.lps q).cached (s.lps q).guest (λ x i. occ q x i)
        (λ t v h. record { tdr = h.tdr; life = h.life; page = record { kind = h.page.kind; owner = h.page.owner }; associated = h.associated })
        (λ t v h. (record { tdr = h.tdr; life = h.life; page = record { kind = h.page.kind; owner = h.page.owner }; associated = h.associated }, refl, refl))
        (λ x e i k. by_test (x.vp == g.vp) (λ y. let no : None ≡ Some e = rw y at k in cc) (λ y. rw y at k))
        (λ c e bu h. current-same w (leave_guest g.vp w) c e refl refl refl h)
        (λ t k e bu h. walking-same w (leave_guest g.vp w) t k e refl refl h) (holds.each q),
  )

  -- a move of its operation
  of-operation : (b : Bool) (g : Guest) (row : OperationRow) (mv : Move (Option Outcome)) → lp.guest ≡ Some g → StillHold (operation_world row mv w) → IsAfter (OfOperation row mv) b
  of-operation b g row mv is h =
      let same : SameGuest g (operation_guest w b row mv g) = settled-same (record g { operation = after_move operation_busy b (row.answer w) mv g.operation }) g (refl, refl, inl refl) in
      of-guest (OfOperation row mv) b h g (operation_guest w b row mv g) is same refl (ap (λ (x : Option Guest). option_map (operation_guest w b row mv) x) is)

  unchanged : StillHold w
  unchanged = (holds.epochs, holds.each)

  operation-holds : (t v line : ℕ) (op : GuestOp) (row : OperationRow) (mv : Move (Option Outcome)) → operation_of o t v line op ≡ ByRow row → StillHold (operation_world row mv w)
  operation-holds t v line op row Succeeds e = operation_row o t v line (λ x. StillHold (operation_world x Succeeds w))
      (λ r x. quiet-world _ (refl, refl, refl, refl, refl))
      (λ r x. quiet-world _ (refl, refl, refl, refl, refl))
      (λ r gpa. quiet-world _ (refl, refl, refl, refl, refl))
      (λ r gpa. quiet-world _ (refl, refl, refl, refl, refl))
      (λ gpa. accept-world t v gpa)
      (λ i. quiet-world _ (refl, refl, refl, refl, refl))
      (quiet-world _ (refl, refl, refl, refl, refl))
      (λ r. quiet-world _ (refl, refl, refl, refl, refl)) op row e
  operation-holds t v line op row (Attempts l m) e = unchanged
  operation-holds t v line op row (Undoes l) e = unchanged
  operation-holds t v line op row (Refuses r) e = unchanged
  operation-holds t v line op row (Releases h) e = unchanged
  operation-holds t v line op row Rests e = unchanged

  ending-holds : (out : Option Outcome) (hs : List Held) → StillHold (operation_world nothing_more (next_in [] (Answered out) hs) w)
  ending-holds out [] = unchanged
  ending-holds out (h ∷ hs) = unchanged

  reach-quiet : (t v : ℕ) (access : Access) (r gpa page : ℕ) → IsQuietWorld (reach t v access r gpa page w)
  reach-quiet t v Read r gpa page = (refl, refl, refl, refl, refl)
  reach-quiet t v Write r gpa page = (refl, refl, refl, refl, refl)

  of-reach : (b : Bool) (g : Guest) (access : Access) (r gpa page : ℕ) → lp.guest ≡ Some g → IsAfter (Reaches g.tdr g.vp access r gpa page) b
  of-reach b g access r gpa page is =
      of-guest (Reaches g.tdr g.vp access r gpa page) b (quiet-world (reach g.tdr g.vp access r gpa page w) (reach-quiet g.tdr g.vp access r gpa page)) g (settled_guest (answered None g)) is
      (settled-same (answered None g) g (refl, refl, inl refl)) refl (ap (λ (x : Option Guest). option_map (λ y. settled_guest (answered None y)) x) is)

  -- the load of an entry
  module _ (b : Bool) (g : Guest) (access : Access) (gpa : ℕ) (is : lp.guest ≡ Some g) (trying : g.operation.phase ≡ Trying) (low : walk_level g.walk ≤ 3) where
    abbrev e0 : Entry
    e0 = walked_entry w g gpa

    abbrev lp' : Lp
    lp' = lp_after w b (Walks access gpa) lp

    cached-is : (level : ℕ) (ok : Bool) → walk_level g.walk ≡ level → goes_on access level e0 ≡ ok → lp'.cached ≡ cached_after ok level (translation_of g gpa e0) lp.cached
    cached-is level ok l k =
        ap (λ (x : Option Guest). walk_translations w access gpa x lp.cached) is
        ∙ (ap (λ (x : ℕ). cached_after (goes_on access x e0) x (translation_of g gpa e0) lp.cached) l ∙ ap (λ (x : Bool). cached_after x level (translation_of g gpa e0) lp.cached) k)

    guest-is : (level : ℕ) (ok : Bool) → walk_level g.walk ≡ level → goes_on access level e0 ≡ ok → lp'.guest ≡ Some (settled_guest (walked_on access gpa ok level e0 g))
    guest-is level ok l k =
        ap (λ (x : Option Guest). option_map (λ y. settled_guest (walk_step w y access gpa)) x) is
        ∙ (ap (λ (x : ℕ). Some (settled_guest (walked_on access gpa (goes_on access x e0) x e0 g))) l ∙ ap (λ (x : Bool). Some (settled_guest (walked_on access gpa x level e0 g))) k)

    settled-trying : (x : Guest) → x.operation.phase ≡ Trying → settled_guest x ≡ x
    settled-trying x e = ap (λ (y : Phase (Option Outcome)). settle_operation y x.operation.held x) e

    of-level : (level : ℕ) (ok : Bool) → walk_level g.walk ≡ level → goes_on access level e0 ≡ ok → IsAfter (Walks access gpa) b
    of-level level false l k =
        let g1 : Guest = walked_on access gpa false level e0 g in
        let same : SameGuest g (settled_guest g1) = settled-same g1 g (refl, refl, inl refl) in
        still (Walks access gpa) b refl (with-lp w lp' lp.cached (Some (settled_guest g1)) (cached-is level false l k) (guest-is level false l k) (guest-changed w p lp.cached g (settled_guest g1) same.0 same.1 same.2 (own-guest g is)))
    of-level zero true l k =
        let g1 : Guest = record g { walk = None } in
        let a = filled w p lp.cached g (occ p g is) access gpa (own-guest g is) k l g1 refl refl refl in
        still (Walks access gpa) b refl (with-lp w lp' (cache (translation_of g gpa e0) lp.cached) (Some g1) (cached-is 0 true l k) (guest-is 0 true l k ∙ ap Some (settled-trying g1 trying)) a)
    of-level (suc level) true l k =
        let g1 : Guest = record g { walk = Some (record { gpa_page = page_of_gpa gpa; level = level; page = e0.page }) } in
        let a = stepped w p lp.cached g (occ p g is) access gpa (own-guest g is) level k l (omega (arith, l, low)) g1 refl refl refl in
        still (Walks access gpa) b refl (with-lp w lp' lp.cached (Some g1) (cached-is (suc level) true l k) (guest-is (suc level) true l k ∙ ap Some (settled-trying g1 trying)) a)

  walk-low : (g : Guest) → lp.guest ≡ Some g → walk_level g.walk ≤ 3
  walk-low g is = by g.walk refl
    where
      by : (x : Option Walk) → g.walk ≡ x → walk_level x ≤ 3
      by None e = omega arith
      by (Some k) e = (let occ = occ p g is in let h = (own-guest g is).walk g k occ.epoch refl e occ.entered in let l = h.level in omega (arith, l))

  by_due : (b : Event → Bool) (e : Event) → Due o w p lp e → IsAfter e (b e)
  by_due b e (calls c cs line g) = of-call c (b (OfCall (row_of o p c) (next_in ((row_of o p c).items w) lp.call.phase lp.call.held))) lp.call.phase lp.call.held g refl refl
  by_due b e (frees c cs g h hs line guest held epoch) = of-release (row_of o p c) (b (OfCall (row_of o p c) (Releases h))) h
  by_due b e (leaves c cs g out i l) = of-leave (b (Leaves g.vp out)) g out i.guest
  by_due b e (stops c cs g i l t d) = of-leave (b (Leaves g.vp Stop)) g Stop i.guest
  by_due b e (fills c cs g op i l t d m) = of-leave (b (Leaves g.vp Max)) g Max i.guest
  by_due b e (operates c cs g op row i way is) =
      let mv = next (row.items w) (length g.operation.held) in of-operation (b (OfOperation row mv)) g row mv i.guest (operation-holds g.tdr g.vp (length lp.replies + 1) op row mv is)
  by_due b e (walks c cs g op access r gpa i way is lost) = of-level (b (Walks access gpa)) g access gpa i.guest way.trying (walk-low g i.guest) (walk_level g.walk) (goes_on access (walk_level g.walk) (walked_entry w g gpa)) refl refl
  by_due b e (reaches c cs g op access r gpa page i way is found) = of-reach (b (Reaches g.tdr g.vp access r gpa page)) g access r gpa page i.guest
  by_due b e (undoes c cs g l i st h) = of-operation (b (OfOperation nothing_more (Undoes l))) g nothing_more (Undoes l) i.guest unchanged
  by_due b e (gives_back c cs g out i st h) =
      let mv = next_in [] (Answered out) g.operation.held in of-operation (b (OfOperation nothing_more mv)) g nothing_more mv i.guest (ending-holds out g.operation.held)

  pub access_after : (e : Event) → next_event o s p ≡ Some e → AccessHolds (after_event p s (Some e))
  access_after e is =
      let a = by_due (is_granted s) e (due_event_is o s p e is) in
      record {
        epochs = a.0;
        each = λ q. by_test (q == p)
            (λ y. rw y (subst (λ (x : ℕ). LawfulTranslations (world_after e w) x (lp_after w (is_granted s e) e lp).cached (lp_after w (is_granted s e) e lp).guest) (sym (eqb-true q p y)) a.1))
            (λ y. rw y (a.2 q (eqb-false q p y)));
      }

pub start_holds : (o : Opening) (ws : Option (List ℕ)) → AccessHolds (start o ws)
start_holds o ws = record {
  epochs = record { last = λ t v k pa. cc; near = λ t v e k pa n. cc; bound = λ t v p k pa n. cc; early = λ t k e. refl };
  each = λ p. record {
    associated = λ c i. absurd (let no = i.1 in omega (arith, no));
    newest = λ g e v is n h. cc;
    usable = λ c e i us. absurd (let no = i.1 in omega (arith, no));
    walk = λ g k e is at n. cc;
  };
}

pub access_kept : AccessIsKept
access_kept = record {
  start = λ o ws. record { timely = timeliness_kept.start o ws; access = start_holds o ws };
  event = λ o bundles s p h. record { timely = timeliness_kept.event o bundles s p h.timely; access = after o bundles s p h (next_event (with_bundles o bundles) s p) refl };
}
  where
    after : (o : Opening) (bundles : ℕ → Option Incoming) (s : State) (p : ℕ) → IsGuarded o s → (x : Option Event) → next_event (with_bundles o bundles) s p ≡ x → AccessHolds (after_event p s x)
    after o bundles s p h None e = h.access
    after o bundles s p h (Some x) e = access_after (with_bundles o bundles) s p h.timely.lawful (λ q g i. occ-of o s h.timely q g i) h.access x e

pub always_guarded : HoldsInRuns IsGuarded
always_guarded = in_runs IsGuarded access_kept

pub access_always_holds : AccessAlwaysHolds
access_always_holds o ws schedule = (always_guarded o ws schedule).access

-- a cached translation that a guest may use names a private page of its own TD, which it has accepted
pub reaches_own : (o : Opening) (s : State) → IsGuarded o s → (p n page : ℕ) (access : Access) (g : Guest) → (s.lps p).guest ≡ Some g → look_up (s.lps p).cached g.tdr n access ≡ Some page
    → IsOwnPage s.world g.tdr n page × (is_pending (s.world.tds.entries g.tdr 0 n).state ≡ false)
reaches_own o s all p n page access g is found =
    let x : IsOccupied s.world p g.tdr g.vp = occ-of o s all.timely p g is in
    let f = found_in (s.lps p).cached g.tdr n access page found in
    let us : IsUsable s.world p (s.lps p).guest f.0.tdr x.epoch = inside g is (sym f.2) x.entered in
    let now = (all.access.each p).usable f.0 x.epoch f.1 us in
    let at : entry_of s.world f.0 ≡ s.world.tds.entries g.tdr 0 n = ap (λ (z : ℕ). s.world.tds.entries z 0 f.0.gpa_page) f.2 ∙ ap (λ (z : ℕ). s.world.tds.entries g.tdr 0 z) f.3 in
    let used : is_free (s.world.tds.entries g.tdr 0 n).state ≡ false = ap (λ (e : Entry). is_free e.state) (sym at) ∙ now.named.used in
    let page_is : (s.world.tds.entries g.tdr 0 n).page ≡ page = ap (λ (e : Entry). e.page) (sym at) ∙ (now.named.page_is ∙ f.4) in
    let node = (all.timely.lawful.tree.lowest g.tdr n (occupied-alive s.world p g.tdr g.vp x) used).1.page in (
      record {
        private = subst (λ (z : ℕ). IsPageOf s.world.pages g.tdr z kind.Reg) page_is (record { kind = node.kind; owner = node.owner });
        named = record { used = used; page_is = page_is };
      },
      ap (λ (e : Entry). is_pending e.state) (sym at) ∙ now.accepted,
    )

pub guests_reach_their_own : GuestsReachTheirOwn
guests_reach_their_own o ws schedule p n page access g is found = (reaches_own o (reached o ws schedule) (always_guarded o ws schedule) p n page access g is found).0
