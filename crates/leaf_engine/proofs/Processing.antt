-- What a processor does is what one leaf means, and after that leaf's turn it stands where the turn leaves it.
use Rattle.std.proofs.Common.{◌≡◌, ◌⊎◌, inl, inr, ℕ, zero, suc, Bool, List, [], ◌∷◌, ◌++◌, length, drop, Option, Some, None, refl, ap, sym, ◌∙◌, subst}
use Rattle.std.specs.Prelude.{slice_index}
use Rattle.td_words.specs.declared.machines.Machine.{Machine}
use Rattle.td_words.specs.declared.names.Mode.TheVariants.{Shared, Exclusive}
use Rattle.td_words.specs.declared.calls.Call.{Call}
use Rattle.td_words.specs.declared.calls.Call.TheVariants as call
use Rattle.td_words.specs.declared.replies.Value.TheVariants as value
use Rattle.td_words.specs.declared.replies.Reply.{Reply}
use Rattle.td_words.specs.declared.replies.Reply.TheVariants.{Done}
use Rattle.flat_core.specs.World.{World, Made}
use Rattle.flat_core.specs.Processor.{LockId, OfPage, OfOp, OfTree, OfEpoch, OfRtmr, OfKeys, name_of, Held, Phase, Trying, Undoing, Answered, Progress, nothing_yet, Guest, Entering, new_guest, Lp}
use Rattle.flat_core.specs.Opening.{Opening}
use Rattle.flat_core.specs.Row.{Row, Move, Attempts, Undoes, Refuses, Succeeds, Releases, Rests, next_in, after_move, but_newest}
use Rattle.flat_core.specs.Table.{row_of}
use Rattle.flat_core.specs.Guests.{guest_locks, entry_locks}
use Rattle.flat_core.specs.Inside.{InGuest, LineAt, StandsAt, IsTimely, AreTimely}
use Rattle.flat_core.specs.Event.{State, Event, OfCall, next_event, event_for, line_event, entered_event, epoch_event, guest_event, event, world_after, lp_after, call_world, call_lp, settle, settled, lines_left, calls_of, call_busy, is_granted, is_epoch_lock}
use Rattle.flat_core.proofs.Ends.{timeliness_kept}
use Rattle.step_core.specs.Items.{Table}
use Rattle.leaf_engine.specs.declared.events.Event.{Event as RunEvent}
use Rattle.leaf_engine.specs.declared.events.Event.TheVariants as events
use Rattle.leaf_engine.specs.declared.events.HeldLock.{HeldLock}
use Rattle.leaf_engine.specs.declared.events.Stage.{Stage}
use Rattle.leaf_engine.specs.declared.events.Stage.TheVariants as stages
use Rattle.leaf_engine.specs.declared.needs.Place.{Place}
use Rattle.leaf_engine.specs.Changes.{Memory}
use Rattle.leaf_engine.specs.Trees.{Answer, Tree, answer_of}
use Rattle.leaf_engine.specs.Besides.{Beside, beside_of, beside_after}
use Rattle.leaf_engine.specs.Means as meaning
use Rattle.leaf_engine.specs.Means.{Task, Meaning, work_of, MeansRow}
use Rattle.leaf_engine.specs.Turns.{Standing, last_reply}
use Rattle.leaf_engine.specs.Guests.{WordGuest, Step, guest_after, or_else, entered_at, is_epoch_name, gives_epoch_back}
use Rattle.leaf_engine.specs.OwnLists.{LeafTable, WordLp, after_turn}
use Rattle.leaf_engine.specs.Calls.{AreLocks, IsStage, HasEntered, Then}
use Rattle.leaf_engine.specs.Doing.{LeafAt, IsNoAct, ActsBy, LeafAfter, work_world}
use Rattle.leaf_engine.specs.Standing.{position_in, HasNoHasher, LpStands}
use Rattle.leaf_engine.proofs.Calling.{last-none}
use Rattle.leaf_engine.proofs.Doings.{settle-guest}
use Rattle.leaf_engine.proofs.Turning.{then-by, succeeds-trying, entered, succeeded-guest}
use Rattle.leaf_engine.proofs.Steps.{seen}
use Rattle.leaf_engine.proofs.GuestThen.{at-event, from-event, beside-is, no-hasher, answered-stage, position_of}
use Rattle.leaf_engine.proofs.GuestGoes.{table_of}

-- the lines behind one that is done

pub drop-next : (n : ℕ) (xs cs : List Call) (c : Call) → drop n xs ≡ c ∷ cs → drop (suc n) xs ≡ cs
drop-next zero [] cs c e = cc
drop-next zero (x ∷ xs) cs c e = cc
drop-next (suc n) [] cs c e = cc
drop-next (suc n) (x ∷ xs) cs c e = drop-next n xs cs c e

pub one-longer : (rs : List Reply) (r : Reply) → length (rs ++ r ∷ []) ≡ suc (length rs)
one-longer [] r = refl
one-longer (x ∷ rs) r = ap suc (one-longer rs r)

-- whether E is given back

newest-name : (older : List HeldLock) (x : HeldLock) → gives_epoch_back (older ++ x ∷ []) ≡ is_epoch_name x.name
newest-name [] x = refl
newest-name (y ∷ []) x = refl
newest-name (y ∷ z ∷ zs) x = newest-name (z ∷ zs) x

named-epoch : (l : LockId) → is_epoch_name (name_of l) ≡ is_epoch_lock l
named-epoch (OfPage q) = refl
named-epoch (OfOp t) = refl
named-epoch (OfTree t) = refl
named-epoch (OfEpoch t) = refl
named-epoch (OfRtmr t) = refl
named-epoch OfKeys = refl

pub gives-back : (m : Machine) (w : World) (held : List HeldLock) (h : Held) (hs : List Held) → AreLocks m w held (h ∷ hs) → gives_epoch_back held ≡ is_epoch_lock h.lock
gives-back m w held h hs are = ap gives_epoch_back are.1.1 ∙ (newest-name are.0 are.1.0 ∙ (ap is_epoch_name are.1.3.name_is ∙ named-epoch h.lock))

some-last : (m : Machine) (w : World) (st : Stage) (r : Reply) (held : List HeldLock) (h : Held) (hs : List Held) → st ≡ stages.Answered r → AreLocks m w held (h ∷ hs) → last_reply st held ≡ None
some-last m w st r held h hs e are = ap (λ (z : Stage). last_reply z held) e ∙ (ap (λ (z : List HeldLock). last_reply (stages.Answered r) z) are.1.1 ∙ last-none r are.0 are.1.0)

-- the guest that a turn enters

no-guest : (e : RunEvent) (t : Tree) (g : Option WordGuest) → IsNoAct e → guest_after e t g ≡ g
no-guest events.Act t g n = absurd n
no-guest (events.Try name mode granted) t g n = refl
no-guest (events.Undo name) t g n = refl
no-guest (events.Free name) t g n = refl
no-guest (events.Walk level) t g n = refl
no-guest (events.Word at) t g n = refl
no-guest (events.Count parity) t g n = refl

none-entered : (e : RunEvent) (t : Tree) → e ≡ events.Act → (answer_of t).enters ≡ None → guest_after e t None ≡ None
none-entered e t act none = ap (λ (z : RunEvent). guest_after z t None) act ∙ ap (λ (z : Option Entering). or_else (entered_at z (answer_of t).reply) None) none

-- VP.ENTER's act tells where the virtual processor stands, and leaves that as it is
pub record EntersAs (o : Opening) (p : ℕ) (c : Call) (en : Entering) : Type 0 where
  pub stale : World → Bool
  pub value : (w : World) → (row_of o p c).value w ≡ value.Entered (stale w) (w.vps.indexes en.vp) (w.vps.positions en.vp) (slice_index (w.tds.controls en.tdr) 1)
  pub controls : (w : World) → ((row_of o p c).act w).tds.controls ≡ w.tds.controls
  pub indexes : (w : World) → ((row_of o p c).act w).vps.indexes ≡ w.vps.indexes
  pub positions : (w : World) → ((row_of o p c).act w).vps.positions ≡ w.vps.positions

enters-as : (o : Opening) (p : ℕ) (c : Call) (en : Entering) → (row_of o p c).enters ≡ Some en → EntersAs o p c en
enters-as o p (call.VpEnter t v most) en e =
    let same : record { tdr = t; vp = v; most = most } ≡ en = cc in
    subst (λ (z : Entering). EntersAs o p (call.VpEnter t v most) z) same (record {
      stale = λ w. Rattle.flat_core.specs.Translations.is_stale (w.vps.associated v) (w.vps.lasts v) (w.tds.epochs t);
      value = λ w. refl;
      controls = λ w. refl;
      indexes = λ w. refl;
      positions = λ w. refl;
    })
enters-as o p (call.HostRead page i) en e = cc
enters-as o p _ en e = cc

pub stage-position : (m : Machine) (w : World) (n : ℕ) (st : Stage) (ph : Phase Reply) → IsStage m w st ph → position_in n st ≡ position_of n ph
stage-position m w n stages.Trying Trying i = refl
stage-position m w n stages.Trying (Undoing l) i = absurd i
stage-position m w n stages.Trying (Answered r) i = absurd i
stage-position m w n (stages.Undoing name at) Trying i = absurd i
stage-position m w n (stages.Undoing name at) (Undoing l) i = refl
stage-position m w n (stages.Undoing name at) (Answered r) i = absurd i
stage-position m w n (stages.Answered a) Trying i = absurd i
stage-position m w n (stages.Answered a) (Undoing l) i = absurd i
stage-position m w n (stages.Answered a) (Answered r) i = ap (λ (z : Reply). position_of n (Answered z)) i

module _ (o : Opening) (p : ℕ) (s : State) (mem : Memory) (c : Call) (cs : List Call) (trees : Call → Tree) (steps : (tdr vp line : ℕ) → Step → Tree) (kinds : (tdr vp line : ℕ) → Step → Meaning) (bs : List Made)
    (timely : AreTimely o s) (is-line : lines_left o p (s.lps p) ≡ c ∷ cs) where
  abbrev w : World
  w = s.world

  abbrev lp : Lp
  lp = s.lps p

  abbrev m : Machine
  m = o.machine

  abbrev here : Place
  here = record { machine = o.machine; lp = p }

  abbrev table : LeafTable
  table = table_of o p trees steps kinds

  abbrev row : Row
  row = row_of o p c

  abbrev b : Beside
  b = beside_of lp bs

  abbrev task : Task
  task = table.call c

  timely-after : IsTimely o (event o s p).world p (calls_of o.calls p) ((event o s p).lps p)
  timely-after = (timeliness_kept.event o o.bundles s p (record { lawful = timely.lawful; exclusive = timely.exclusive; count = timely.count; each = timely.each })).each p

  pub inside-of : (w' : World) (lp' : Lp) (g : Guest) → lines_left o p lp' ≡ c ∷ cs → lp'.guest ≡ Some g → IsTimely o w' p (calls_of o.calls p) lp' → InGuest o w' p c lp' g
  inside-of w' lp' g line is h = subst (λ (z : Option Guest). LineAt o w' p c lp' z) is (subst (λ (z : List Call). StandsAt o w' p z lp') line h)

  -- a turn of the line's leaf
  module _ (u : Table) (e : RunEvent) (stands : Standing) where
    abbrev beside : Beside
    beside = beside_after e stands.rest b

    abbrev After : Option WordGuest → Option Reply → WordLp
    After g r = after_turn c cs (guest_after e stands.rest g) lp.replies beside stands r

    hasher-of : (own : Progress Reply) → (a : LeafAfter o task s own u stands e) → HasNoHasher stands
    hasher-of own a z = no-hasher stands.hasher a.mem.hand (a.empty_hand z) a.memory.hand

    -- of its call, outside guests
    module _ (guest : lp.guest ≡ None) (a : LeafAfter o task s lp.call u stands e) where
      abbrev mv : Move Reply
      mv = a.move

      abbrev ev : Event
      ev = OfCall row mv

      abbrev w' : World
      w' = call_world row mv w

      abbrev lp' : Lp
      lp' = settled (call_lp w (is_granted s ev) row mv lp)

      abbrev Goal : WordLp → Type 0
      Goal q = LpStands o table p w' a.mem.words lp' q

      besides : beside_of lp' beside.bundles ≡ beside
      besides = from-event o s p ev a.next.next (λ (v : World) (z : Lp). beside_of z beside.bundles ≡ beside) (beside-is e stands.rest lp ((event o s p).lps p) bs a.comes)

      timely-now : IsTimely o w' p (calls_of o.calls p) lp'
      timely-now = from-event o s p ev a.next.next (λ (v : World) (z : Lp). IsTimely o v p (calls_of o.calls p) z) timely-after

      same-guest : (x : Progress Reply) → (settled (record lp { call = x })).guest ≡ None
      same-guest x = settle-guest x.phase x.held (record lp { call = x }) ∙ guest

      -- where it enters none
      none-in : (n : Move Reply) (granted : Bool) → ActsBy n e (work_of (meaning.OfCall row)) w (answer_of stands.rest) → (settled (call_lp w granted row n lp)).guest ≡ None → guest_after e stands.rest None ≡ None
      none-in (Attempts l mode) granted acts is = no-guest e stands.rest None acts
      none-in (Undoes l) granted acts is = no-guest e stands.rest None acts
      none-in (Releases h) granted acts is = no-guest e stands.rest None acts
      none-in Rests granted acts is = no-guest e stands.rest None acts
      none-in (Refuses r) granted acts is = none-entered e stands.rest acts.0 (ap (λ (z : Answer). z.enters) acts.1)
      none-in Succeeds granted acts is = by row.enters refl
        where
          by : (en : Option Entering) → row.enters ≡ en → guest_after e stands.rest None ≡ None
          by None q = none-entered e stands.rest acts.0 (acts.1.enters_is ∙ q)
          by (Some en) q =
              let x : Lp = Rattle.flat_core.specs.Event.succeeded w row row.enters lp in
              let has : (settled x).guest ≡ Some (new_guest en) = settle-guest x.call.phase x.call.held x ∙ (succeeded-guest w row row.enters lp ∙ ap (λ (z : Option Entering). entered z lp.guest) q) in
              let no : None ≡ Some (new_guest en) = sym is ∙ has in cc

      -- and where it enters one, its act has
      acted-in : (n : Move Reply) (granted : Bool) (g : Guest) → (settled (call_lp w granted row n lp)).guest ≡ Some g → n ≡ Succeeds
      acted-in (Attempts l mode) granted g is = (let no : None ≡ Some g = sym (same-guest (after_move call_busy granted (Done (row.value w)) (Attempts l mode) lp.call)) ∙ is in cc)
      acted-in (Undoes l) granted g is = (let no : None ≡ Some g = sym (same-guest (after_move call_busy granted (Done (row.value w)) (Undoes l) lp.call)) ∙ is in cc)
      acted-in (Refuses r) granted g is = (let no : None ≡ Some g = sym (same-guest (after_move call_busy granted (Done (row.value w)) (Refuses r) lp.call)) ∙ is in cc)
      acted-in (Releases h) granted g is = (let no : None ≡ Some g = sym (same-guest (after_move call_busy granted (Done (row.value w)) (Releases h) lp.call)) ∙ is in cc)
      acted-in Rests granted g is = (let no : None ≡ Some g = sym (same-guest (after_move call_busy granted (Done (row.value w)) Rests lp.call)) ∙ is in cc)
      acted-in Succeeds granted g is = refl

      first-held : (g : Guest) → InGuest o w' p c lp' g → AreLocks m w' stands.held lp'.call.held → (r : Reply) → stands.stage ≡ stages.Answered r → last_reply stands.stage stands.held ≡ None
      first-held g at are r st = by at.locks
        where
          by : (lp'.call.held ≡ guest_locks g.tdr g.vp) ⊎ ((lp'.call.held ≡ entry_locks g.tdr g.vp) × (g ≡ new_guest (record { tdr = g.tdr; vp = g.vp; most = g.most }))) → last_reply stands.stage stands.held ≡ None
          by (inl h) = some-last m w' stands.stage r stands.held (record { lock = OfPage g.vp; mode = Exclusive }) (record { lock = OfOp g.tdr; mode = Shared } ∷ record { lock = OfPage g.tdr; mode = Shared } ∷ []) st (subst (λ (z : List Held). AreLocks m w' stands.held z) h are)
          by (inr h) = some-last m w' stands.stage r stands.held (record { lock = OfEpoch g.tdr; mode = Shared }) (guest_locks g.tdr g.vp) st (subst (λ (z : List Held). AreLocks m w' stands.held z) h.0 are)

      enters : HasEntered task row lp w' lp' stands → Goal (After None (last_reply stands.stage stands.held))
      enters en =
          let acted : mv ≡ Succeeds = acted-in mv (is_granted s ev) (new_guest en.entering) en.guest in
          let act = subst (λ (z : Move Reply). ActsBy z e (work_of (meaning.OfCall row)) w (answer_of stands.rest)) acted a.acts in
          let enter : EntersAs o p c en.entering = enters-as o p c en.entering en.enters in
          let world : w' ≡ row.act w = ap (λ (z : Move Reply). call_world row z w) acted in
          let x : WordGuest = seen (new_guest en.entering) (slice_index (w.tds.controls en.entering.tdr) 1) (w.vps.indexes en.entering.vp) (w.vps.positions en.entering.vp) None in
          let told : (answer_of stands.rest).reply ≡ Done (value.Entered (enter.stale w) (w.vps.indexes en.entering.vp) (w.vps.positions en.entering.vp) (slice_index (w.tds.controls en.entering.tdr) 1)) =
          act.1.reply_is ∙ ap Done (enter.value w) in
          let guest-is : guest_after e stands.rest None ≡ Some x =
          ap (λ (z : RunEvent). guest_after z stands.rest None) act.0
          ∙ (ap (λ (z : Option Entering). or_else (entered_at z (answer_of stands.rest).reply) None) (act.1.enters_is ∙ en.enters)
          ∙ ap (λ (z : Reply). or_else (entered_at (Some en.entering) z) None) told) in
          let lines : lines_left o p lp' ≡ c ∷ cs = ap (λ (z : List Reply). drop (length z) (calls_of o.calls p)) en.replies_are ∙ is-line in
          let in-guest : InGuest o w' p c lp' (new_guest en.entering) = inside-of w' lp' (new_guest en.entering) lines en.guest timely-now in
          let last : last_reply stands.stage stands.held ≡ None = first-held (new_guest en.entering) in-guest en.held en.reply en.answered in
          let root : slice_index (w'.tds.controls en.entering.tdr) 1 ≡ slice_index (w.tds.controls en.entering.tdr) 1 =
          ap (λ (z : World). slice_index (z.tds.controls en.entering.tdr) 1) world ∙ ap (λ (f : ℕ → List ℕ). slice_index (f en.entering.tdr) 1) (enter.controls w) in
          let index : w'.vps.indexes en.entering.vp ≡ w.vps.indexes en.entering.vp = ap (λ (z : World). z.vps.indexes en.entering.vp) world ∙ ap (λ (f : ℕ → ℕ). f en.entering.vp) (enter.indexes w) in
          let position : w'.vps.positions en.entering.vp ≡ w.vps.positions en.entering.vp = ap (λ (z : World). z.vps.positions en.entering.vp) world ∙ ap (λ (f : ℕ → ℕ). f en.entering.vp) (enter.positions w) in
          subst (λ (z : Option Reply). Goal (After None z)) (sym last)
          (subst (λ (z : Option WordGuest). Goal (record { lines = c ∷ cs; run = Some stands; guest = z; replies = lp.replies; beside = beside })) (sym guest-is) (record {
            lines = lines;
            replies = en.replies_are;
            beside = besides;
            run = record {
              line_is = record { call = c; further = cs; lines = lines; row_is = refl };
              guest = new_guest en.entering;
              is_in = en.guest;
              reply = en.reply;
              answered = en.answered;
              held = en.held;
              at = record { tdr = refl; vp = refl; most = refl; completed = refl; walk = refl; leaving = refl; root = root; index = index; position = position; operation = refl };
              fresh = λ z. refl;
              hand = a.mem.hand;
              in_hand = a.memory.hand;
            };
          }))

      call-then : Goal (After None (last_reply stands.stage stands.held))
      call-then = by (last_reply stands.stage stands.held) refl (then-by o here (trees c) row s stands (record { event = e; reply = last_reply stands.stage stands.held }) (record { call = c; further = cs; lines = is-line; row_is = refl }) guest refl mv a.mem (is_granted s ev) (record { stage = a.at.stage; held = a.at.held; told = a.at.told }) a.empty_hand a.acts
          (λ q. succeeds-trying (row.items w) lp.call.phase lp.call.held (a.due ∙ q)))
        where
          by : (r : Option Reply) → last_reply stands.stage stands.held ≡ r → Then o task row lp w' a.mem lp' stands r → Goal (After None r)
          by None last (inl go) =
              subst (λ (z : Option WordGuest). Goal (record { lines = c ∷ cs; run = Some stands; guest = z; replies = lp.replies; beside = beside })) (sym (none-in mv (is_granted s ev) a.acts go.call.guest)) (record {
                lines = ap (λ (z : List Reply). drop (length z) (calls_of o.calls p)) go.replies_are ∙ is-line;
                replies = go.replies_are;
                beside = besides;
                run = record { at = go.call; waits = hasher-of lp.call a };
              })
          by (Some r) last (inl go) = (let none = go.no_reply in cc)
          by None last (inr (inl ov)) = (let some = ov.reply_is in cc)
          by (Some r) last (inr (inl ov)) =
              let r-is : ov.answer ≡ r = (let some = ov.reply_is in cc) in
              record {
                lines =
                    ap (λ (z : List Reply). drop (length z) (calls_of o.calls p)) ov.replies_are
                    ∙ (ap (λ (n : ℕ). drop n (calls_of o.calls p)) (one-longer lp.replies ov.answer) ∙ drop-next (length lp.replies) (calls_of o.calls p) cs c is-line);
                replies = ov.replies_are ∙ ap (λ (z : Reply). lp.replies ++ z ∷ []) r-is;
                beside = besides;
                run = ov.between;
              }
          by r last (inr (inr en)) = subst (λ (z : Option Reply). Goal (After None z)) last (enters en)

      pub outside-then : LpStands o table p (event o s p).world a.mem.words ((event o s p).lps p) (After None (last_reply stands.stage stands.held))
      outside-then = at-event o s p ev a.next.next (λ (v : World) (z : Lp). LpStands o table p v a.mem.words z (After None (last_reply stands.stage stands.held))) call-then

    -- of its call, whose guest is in: it gives E back
    module _ (line : Standing) (reply : Reply) (g : Guest) (n : ℕ) (is-in : lp.guest ≡ Some g) (answered-by : line.stage ≡ stages.Answered reply) (epoch : lp.call.held ≡ entry_locks g.tdr g.vp) (trying : lp.call.phase ≡ Trying) (none : g.operation ≡ nothing_yet)
        (position : w.vps.positions g.vp ≡ n) (a : LeafAfter o task s (record { phase = Answered reply; held = lp.call.held }) u stands e) where
      abbrev x : WordGuest
      x = seen g (slice_index (w.tds.controls g.tdr) 1) (w.vps.indexes g.vp) n None

      abbrev epoch-lock : Held
      epoch-lock = record { lock = OfEpoch g.tdr; mode = Shared }

      move-is : a.move ≡ Releases epoch-lock
      move-is = sym a.due ∙ ap (λ (hs : List Held). next_in (row.items w) (Answered reply) hs) epoch

      abbrev given : Event
      given = OfCall row (Releases epoch-lock)

      next-given : next_event o s p ≡ Some given
      next-given = a.next.next ∙ ap (λ (z : Move Reply). Some (OfCall row z)) move-is

      abbrev freed-lp : Lp
      freed-lp = settled (record lp { call = record { phase = lp.call.phase; held = but_newest lp.call.held } })

      freed-is : freed-lp ≡ record lp { call = record { phase = lp.call.phase; held = but_newest lp.call.held } }
      freed-is = ap (λ (z : Phase Reply). settle z (but_newest lp.call.held) (record lp { call = record { phase = lp.call.phase; held = but_newest lp.call.held } })) trying

      abbrev Freed : Lp → WordLp → Type 0
      Freed z q = LpStands o table p w a.mem.words z q

      at-freed : LeafAt task w a.mem.words stands (record { phase = Answered reply; held = guest_locks g.tdr g.vp })
      at-freed =
          subst (λ (hs : List Held). LeafAt task w a.mem.words stands (record { phase = Answered reply; held = but_newest hs })) epoch
          (subst (λ (z : Move Reply). LeafAt task (work_world (work_of (meaning.OfCall row)) z w) a.mem.words stands (after_move call_busy (is_granted s (OfCall row z)) (answer_of stands.rest).reply z (record { phase = Answered reply; held = lp.call.held }))) move-is
          a.at)

      no-act-of : IsNoAct e
      no-act-of = subst (λ (z : Move Reply). ActsBy z e (work_of (meaning.OfCall row)) w (answer_of stands.rest)) move-is a.acts

      stage-is : stands.stage ≡ stages.Answered reply
      stage-is = answered-stage m w stands.stage reply at-freed.stage

      last-is : last_reply stands.stage stands.held ≡ None
      last-is = some-last m w stands.stage reply stands.held (record { lock = OfPage g.vp; mode = Exclusive }) (record { lock = OfOp g.tdr; mode = Shared } ∷ record { lock = OfPage g.tdr; mode = Shared } ∷ []) stage-is at-freed.held

      given-then : Freed freed-lp (After (Some x) (last_reply stands.stage stands.held))
      given-then =
          let besides : beside_of freed-lp beside.bundles ≡ beside =
          from-event o s p given next-given (λ (v : World) (z : Lp). beside_of z beside.bundles ≡ beside) (beside-is e stands.rest lp ((event o s p).lps p) bs a.comes) in
          subst (λ (z : Option Reply). Freed freed-lp (After (Some x) z)) (sym last-is)
          (subst (λ (z : Option WordGuest). Freed freed-lp (record { lines = c ∷ cs; run = Some stands; guest = z; replies = lp.replies; beside = beside })) (sym (no-guest e stands.rest (Some x) no-act-of))
          (subst (λ (z : Lp). beside_of z beside.bundles ≡ beside → Freed z (record { lines = c ∷ cs; run = Some stands; guest = Some x; replies = lp.replies; beside = beside })) (sym freed-is)
          (λ (has : beside_of (record lp { call = record { phase = lp.call.phase; held = but_newest lp.call.held } }) beside.bundles ≡ beside). record {
            lines = is-line;
            replies = refl;
            beside = has;
            run = record {
              line_is = record { call = c; further = cs; lines = is-line; row_is = refl };
              guest = g;
              is_in = is-in;
              reply = reply;
              answered = stage-is;
              held = subst (λ (hs : List Held). AreLocks m w stands.held (but_newest hs)) (sym epoch) at-freed.held;
              at = record { tdr = refl; vp = refl; most = refl; completed = refl; walk = refl; leaving = refl; root = refl; index = refl; position = position; operation = none };
              fresh = λ z. refl;
              hand = a.mem.hand;
              in_hand = a.memory.hand;
            };
          }) besides))

      pub given-back-then : LpStands o table p (event o s p).world a.mem.words ((event o s p).lps p) (After (Some x) (last_reply stands.stage stands.held))
      given-back-then = at-event o s p given next-given (λ (v : World) (z : Lp). LpStands o table p v a.mem.words z (After (Some x) (last_reply stands.stage stands.held))) given-then
