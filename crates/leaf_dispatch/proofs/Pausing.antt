-- A processor that is paused goes on where it was.
use Rattle.std.specs.Global.{Vec}
use Rattle.std.proofs.Common.{◌≡◌, ◌∙◌, ℕ, ◌||◌, Bool, true, is_some, is_none, List, [], ◌∷◌, Option, Some, None, refl, ap, sym, subst}
use Rattle.report_core.specs.declared.facts.Facts.{Facts}
use Rattle.report_text.specs.declared.guest.GuestNote.{GuestNote}
use Rattle.td_words.specs.Seen.{CodeSeen}
use Rattle.td_words.specs.declared.machines.Machine.{Machine}
use Rattle.td_words.specs.declared.calls.Call.{Call}
use Rattle.td_words.specs.declared.calls.GuestOp.{GuestOp}
use Rattle.td_words.specs.declared.replies.Reply.{Reply}
use Rattle.flat_core.specs.Opening.{Incoming}
use Rattle.flat_core.specs.Processor.{Translation}
use Rattle.bundles.specs.Stores.{Stored}
use Rattle.leaf_engine.specs.Turns.{Standing, standing}
use Rattle.leaf_engine.specs.Guests.{WordGuest}
use Rattle.host_turns.specs.declared.runs.HostRun.{HostRun}
use Rattle.leaf_table.specs.Given.{Given}
use Rattle.leaf_table.specs.Leaves.{LeafSeen, leaf_seen, seen_with}
use Rattle.leaf_table.specs.Origins.{slot_in, bundle_in, bundle_at, bundle_for}
use Rattle.leaf_table.proofs.Inputs.{own-seen}
use Rattle.leaf_table.specs.PageRooms.{is_spare}
use Rattle.leaf_table.specs.Ends.{Ends, call_ends, step_tries, step_ends}
use Rattle.leaf_table.specs.Table.{code_in}
use Rattle.leaf_dispatch.specs.Running.{standing_of, run_seen, holds_room, IsGoing, IsRunOf, IsAnsweredBy, TakesIts}
use Rattle.leaf_dispatch.specs.CallRuns.{call_run_seen, IsCallRunOf, IsCallRunAt}
use Rattle.leaf_dispatch.specs.StepRuns.{step_run_seen, IsStepRunOf}
use Rattle.leaf_dispatch.specs.Guests.{guest_seen}
use Rattle.leaf_dispatch.specs.Inside.{guest_in, IsGuestKept, KeepsGuest}
use Rattle.leaf_dispatch.specs.Lists.{IsButList, AreWithoutList, AreWithList}
use Rattle.leaf_dispatch.specs.Pausing.{stands_with, IsAsFar, IsWithoutInput, AreWithoutInput, IsWithInput, AreWithInput}
use Rattle.leaf_dispatch.specs.Paused.{bundle_of, other_with, call_run_with, paused_as, IsOtherWith, IsRunWith, IsLineWith, next_on, IsGuestOn, KeepsGuestOn, HasIts, HasRooms, CanResumeWith, KeepsBundles, PausedStay}
use Rattle.leaf_dispatch.specs.declared.guests.GuestAt.{GuestAt}
use Rattle.leaf_dispatch.specs.declared.running.Running.{Running}
use Rattle.leaf_dispatch.specs.declared.call_runs.CallRun.{CallRun}
use Rattle.leaf_dispatch.specs.declared.step_runs.StepRun.{StepRun}
use Rattle.leaf_dispatch.specs.declared.paused.PausedLp.{PausedLp}

-- the bundle stays, whatever comes in

slot-stays : (g h : Given) (s : Option ℕ) → KeepsBundles g h → is_some (bundle_at g s) ≡ is_some s → bundle_at h s ≡ bundle_at g s
slot-stays g h None keeps has = refl
slot-stays g h (Some slot) keeps has = keeps slot has

bundle-stays : (g h : Given) (o : Option Running) → KeepsBundles g h → HasIts (bundle_of g o) o → bundle_of h o ≡ bundle_of g o
bundle-stays g h None keeps has = refl
bundle-stays g h (Some r) keeps has = slot-stays g h (slot_in r.run.leaf) keeps has

pub paused-stay : PausedStay
paused-stay p codes lines g h keeps can =
    let same : bundle_of h p.run.other ≡ bundle_of g p.run.other = bundle-stays g h p.run.other keeps can.has in
    (subst (λ (b : Option Incoming). CanResumeWith b p codes lines) (sym same) can, ap (λ (b : Option Incoming). paused_as b p lines) same)

-- a run that is as far as another

far-stands : (x y : LeafSeen) (r p : Running) → IsAsFar r p → x ≡ y → standing x.rest p.run.stage p.run.held.items p.run.hasher ≡ standing y.rest r.run.stage r.run.held.items r.run.hasher
far-stands x y r p far seen = λ i. standing (seen i).rest (far.stage i) (far.held i).items (far.hasher i)

far-goes : (x y : LeafSeen) (m : Machine) (e : Ends) (r p : Running) → IsAsFar r p → x ≡ y
    → IsGoing m e y (standing y.rest r.run.stage r.run.held.items r.run.hasher) → IsGoing m e x (standing x.rest p.run.stage p.run.held.items p.run.hasher)
far-goes x y m e r p far seen u =
    subst (λ (s : Standing). IsGoing m e x s) (sym (far-stands x y r p far seen))
    (subst (λ (l : LeafSeen). IsGoing m e l (standing y.rest r.run.stage r.run.held.items r.run.hasher)) (sym seen) u)

far-room : (spare : Option (List ℕ)) (r p : Running) → IsAsFar r p → holds_room spare (Some r) ≡ true → holds_room spare (Some p) ≡ true
far-room spare r p far room = ap (λ (w : Bool). is_spare spare || w) far.words ∙ room

far-answered : (r p : Running) → IsAsFar r p → IsAnsweredBy r.run.stage → IsAnsweredBy p.run.stage
far-answered r p far is = subst IsAnsweredBy (sym far.stage) is

-- without its bundle

abbrev own_bundle : Option Running → Option Incoming
own_bundle None = None
own_bundle (Some r) = bundle_in r.run.leaf

pub own-of : (g : Given) (r p : Option Running) → TakesIts g r → AreWithoutInput r p → bundle_of g p ≡ own_bundle r
own-of g None None takes is = refl
own-of g (Some r) (Some p) takes is = ap (bundle_at g) is.far.slot ∙ sym takes.0
own-of g None (Some p) takes is = absurd is
own-of g (Some r) None takes is = absurd is

without-seen : (g : Given) (r p : Running) → TakesIts g (Some r) → IsWithoutInput r p → seen_with (bundle_for g p.run.leaf) p.run.leaf ≡ leaf_seen r.run.leaf
without-seen g r p takes is = ap (λ (b : Option Incoming). seen_with b p.run.leaf) (own-of g (Some r) (Some p) takes is) ∙ is.seen (bundle_in r.run.leaf) ∙ own-seen r.run.leaf

without-run : (g : Given) (r p : Option Running) → TakesIts g r → AreWithoutInput r p → other_with (bundle_of g p) p ≡ run_seen r
without-run g None None takes is = refl
without-run g (Some r) (Some p) takes is = ap Some (far-stands (seen_with (bundle_for g p.run.leaf) p.run.leaf) (leaf_seen r.run.leaf) r p is.far (without-seen g r p takes is))
without-run g None (Some p) takes is = absurd is
without-run g (Some r) None takes is = absurd is

without-goes : (g : Given) (m : Machine) (e : Ends) (r p : Option Running) → TakesIts g r → AreWithoutInput r p → IsRunOf m e r → IsOtherWith (bundle_of g p) m e p
without-goes g m e None None takes is u = tt
without-goes g m e (Some r) (Some p) takes is u = far-goes (seen_with (bundle_for g p.run.leaf) p.run.leaf) (leaf_seen r.run.leaf) m e r p is.far (without-seen g r p takes is) u
without-goes g m e None (Some p) takes is u = absurd is
without-goes g m e (Some r) None takes is u = absurd is

none-without : (r p : Option Running) → AreWithoutInput r p → is_none r ≡ true → is_none p ≡ true
none-without None None is none = refl
none-without (Some r) (Some p) is none = cc
none-without None (Some p) is none = absurd is
none-without (Some r) None is none = absurd is

host-without : (g : Given) (m : Machine) (e : Ends) (host : Option HostRun) (r p : Option Running) → TakesIts g r → AreWithoutInput r p → IsCallRunOf m e (record { host = host; other = r }) → IsRunWith (bundle_of g p) m e host p
host-without g m e None r p takes is u = without-goes g m e r p takes is u
host-without g m e (Some h) r p takes is u = (none-without r p is u.0, u.1)

pub line-without : (g : Given) (m : Machine) (lines : List Call) (k k' : CallRun) → k'.host ≡ k.host → TakesIts g k.other → AreWithoutInput k.other k'.other → IsCallRunAt m lines k → IsLineWith (bundle_of g k'.other) m lines k'
line-without g m [] k k' same takes is u = tt
line-without g m (c ∷ cs) k k' same takes is u =
    subst (λ (h : Option HostRun). IsRunWith (bundle_of g k'.other) m (call_ends m c) h k'.other) (sym same) (host-without g m (call_ends m c) k.host k.other k'.other takes is u)

host-seen : (g : Given) (host : Option HostRun) (r p : Option Running) → TakesIts g r → AreWithoutInput r p → call_run_with (bundle_of g p) (record { host = host; other = p }) ≡ call_run_seen (record { host = host; other = r })
host-seen g None r p takes is = without-run g r p takes is
host-seen g (Some h) r p takes is = refl

pub run-without : (g : Given) (k k' : CallRun) → k'.host ≡ k.host → TakesIts g k.other → AreWithoutInput k.other k'.other → call_run_with (bundle_of g k'.other) k' ≡ call_run_seen k
run-without g k k' same takes is =
    ap (λ (h : Option HostRun). call_run_with (bundle_of g k'.other) (record { host = h; other = k'.other })) same ∙ host-seen g k.host k.other k'.other takes is

pub has-without : (g : Given) (r p : Option Running) → TakesIts g r → AreWithoutInput r p → HasIts (bundle_of g p) p
has-without g None None takes is = tt
has-without g (Some r) (Some p) takes is = ap is_some (own-of g (Some r) (Some p) takes is) ∙ takes.1 ∙ ap is_some (sym is.far.slot)
has-without g None (Some p) takes is = absurd is
has-without g (Some r) None takes is = absurd is

pub room-without : (spare : Option (List ℕ)) (r p : Option Running) → AreWithoutInput r p → holds_room spare r ≡ true → holds_room spare p ≡ true
room-without spare None None is room = room
room-without spare (Some r) (Some p) is room = far-room spare r p is.far room
room-without spare None (Some p) is room = absurd is
room-without spare (Some r) None is room = absurd is

-- with the bundle of its slot

with-run : (g : Given) (p r : Option Running) → AreWithInput g p r → run_seen r ≡ other_with (bundle_of g p) p
with-run g None None is = refl
with-run g (Some p) (Some r) is = ap Some (far-stands (leaf_seen r.run.leaf) (seen_with (bundle_for g p.run.leaf) p.run.leaf) p r is.far is.seen)
with-run g None (Some r) is = absurd is
with-run g (Some p) None is = absurd is

with-goes : (g : Given) (m : Machine) (e : Ends) (p r : Option Running) → AreWithInput g p r → IsOtherWith (bundle_of g p) m e p → IsRunOf m e r
with-goes g m e None None is u = tt
with-goes g m e (Some p) (Some r) is u = far-goes (leaf_seen r.run.leaf) (seen_with (bundle_for g p.run.leaf) p.run.leaf) m e p r is.far is.seen u
with-goes g m e None (Some r) is u = absurd is
with-goes g m e (Some p) None is u = absurd is

none-with : (g : Given) (p r : Option Running) → AreWithInput g p r → is_none p ≡ true → is_none r ≡ true
none-with g None None is none = refl
none-with g (Some p) (Some r) is none = cc
none-with g None (Some r) is none = absurd is
none-with g (Some p) None is none = absurd is

host-with : (g : Given) (m : Machine) (e : Ends) (host : Option HostRun) (p r : Option Running) → AreWithInput g p r → IsRunWith (bundle_of g p) m e host p → IsCallRunOf m e (record { host = host; other = r })
host-with g m e None p r is u = with-goes g m e p r is u
host-with g m e (Some h) p r is u = (none-with g p r is u.0, u.1)

pub line-with : (g : Given) (m : Machine) (lines : List Call) (k k' : CallRun) → k'.host ≡ k.host → AreWithInput g k.other k'.other → IsLineWith (bundle_of g k.other) m lines k → IsCallRunAt m lines k'
line-with g m [] k k' same is u = tt
line-with g m (c ∷ cs) k k' same is u =
    subst (λ (h : Option HostRun). IsCallRunOf m (call_ends m c) (record { host = h; other = k'.other })) (sym same) (host-with g m (call_ends m c) k.host k.other k'.other is u)

host-seen-with : (g : Given) (host : Option HostRun) (p r : Option Running) → AreWithInput g p r → call_run_seen (record { host = host; other = r }) ≡ call_run_with (bundle_of g p) (record { host = host; other = p })
host-seen-with g None p r is = with-run g p r is
host-seen-with g (Some h) p r is = refl

pub run-with : (g : Given) (k k' : CallRun) → k'.host ≡ k.host → AreWithInput g k.other k'.other → call_run_seen k' ≡ call_run_with (bundle_of g k.other) k
run-with g k k' same is = ap (λ (h : Option HostRun). call_run_seen (record { host = h; other = k'.other })) same ∙ host-seen-with g k.host k.other k'.other is

pub takes-with : (g : Given) (p r : Option Running) → AreWithInput g p r → HasIts (bundle_of g p) p → TakesIts g r
takes-with g None None is has = tt
takes-with g (Some p) (Some r) is has = (is.takes, ap is_some (is.takes ∙ ap (bundle_at g) is.far.slot) ∙ has ∙ ap is_some (sym is.far.slot))
takes-with g None (Some r) is has = absurd is
takes-with g (Some p) None is has = absurd is

pub room-with : (g : Given) (spare : Option (List ℕ)) (p r : Option Running) → AreWithInput g p r → holds_room spare p ≡ true → holds_room spare r ≡ true
room-with g spare None None is room = room
room-with g spare (Some p) (Some r) is room = far-room spare p r is.far room
room-with g spare None (Some r) is room = absurd is
room-with g spare (Some p) None is room = absurd is

-- guests

pub guest-without : (g h : Option GuestAt) (step : StepRun) → AreWithoutList g h → guest_in h step ≡ guest_in g step
guest-without None None step is = refl
guest-without (Some g) (Some h) step is = ap (λ (z : GuestAt). Some (guest_seen z (step_run_seen step))) is
guest-without None (Some h) step is = absurd is
guest-without (Some g) None step is = absurd is

pub guest-with : (codes : List CodeSeen) (g h : Option GuestAt) (step : StepRun) → AreWithList codes g h → guest_in h step ≡ guest_in g step
guest-with codes None None step is = refl
guest-with codes (Some g) (Some h) step is = ap (λ (z : GuestAt). Some (guest_seen z (step_run_seen step))) is.0
guest-with codes None (Some h) step is = absurd is
guest-with codes (Some g) None step is = absurd is

list-off : (m : Machine) (codes : List CodeSeen) (ts : List Translation) (line : ℕ) (g h : GuestAt) (step : StepRun) → IsButList g h → IsGuestKept m codes ts line g step → IsGuestOn m codes ts line h step
list-off m codes ts line g h step is k =
    subst (λ (z : GuestAt). IsGuestOn m codes ts line z step) (sym is) (record {
      tdr = k.tdr;
      vp = k.vp;
      low = k.low;
      ahead = k.ahead;
      under_way = subst (λ (ops : List GuestOp). IsStepRunOf m (step_ends g.tdr line (next_on ts g ops)) step) (sym k.list) k.under_way;
      alone = subst (λ (ops : List GuestOp). step_tries (next_on ts g ops) ≡ 0 → is_none (step_run_seen step) ≡ true) (sym k.list) k.alone;
    })

list-on : (m : Machine) (codes : List CodeSeen) (ts : List Translation) (line : ℕ) (g h : GuestAt) (step : StepRun) → IsButList g h → h.list.now ≡ code_in codes g.tdr g.index → IsGuestOn m codes ts line g step → IsGuestKept m codes ts line h step
list-on m codes ts line g h step is list k =
    subst (λ (z : GuestAt). IsGuestKept m codes ts line z step) (sym is) (record {
      tdr = k.tdr;
      vp = k.vp;
      list = sym list;
      low = k.low;
      ahead = k.ahead;
      under_way = subst (λ (ops : List GuestOp). IsStepRunOf m (step_ends g.tdr line (next_on ts g ops)) step) (sym list) k.under_way;
      alone = subst (λ (ops : List GuestOp). step_tries (next_on ts g ops) ≡ 0 → is_none (step_run_seen step) ≡ true) (sym list) k.alone;
    })

pub inside-without : (m : Machine) (codes : List CodeSeen) (ts : List Translation) (line : ℕ) (g h : Option GuestAt) (r p : Option Running) (step : StepRun) → AreWithoutList g h → AreWithoutInput r p
    → KeepsGuest m codes ts line g r step → KeepsGuestOn m codes ts line h p step
inside-without m codes ts line None None r p step off is k = k
inside-without m codes ts line (Some g) (Some h) None p step off is k = absurd k
inside-without m codes ts line (Some g) (Some h) (Some r) (Some p) step off is k = (far-answered r p is.far k.0, list-off m codes ts line g h step off k.1)
inside-without m codes ts line (Some g) (Some h) (Some r) None step off is k = absurd is
inside-without m codes ts line None (Some h) r p step off is k = absurd off
inside-without m codes ts line (Some g) None r p step off is k = absurd off

pub inside-with : (g : Given) (m : Machine) (codes : List CodeSeen) (ts : List Translation) (line : ℕ) (x y : Option GuestAt) (p r : Option Running) (step : StepRun) → AreWithList codes x y → AreWithInput g p r
    → KeepsGuestOn m codes ts line x p step → KeepsGuest m codes ts line y r step
inside-with g m codes ts line None None p r step on is k = k
inside-with g m codes ts line (Some x) (Some y) None r step on is k = absurd k
inside-with g m codes ts line (Some x) (Some y) (Some p) (Some r) step on is k = (far-answered p r is.far k.0, list-on m codes ts line x y step on.0 on.1 k.1)
inside-with g m codes ts line (Some x) (Some y) (Some p) None step on is k = absurd is
inside-with g m codes ts line None (Some y) p r step on is k = absurd on
inside-with g m codes ts line (Some x) None p r step on is k = absurd on

-- rooms go by how far it is

pub same-rooms : (codes : List CodeSeen) (lines : List Call) (run run' : Option Standing) (guest guest' : Option WordGuest) (replies : Vec Reply) (notes : Vec GuestNote) (reports : Vec Facts) (told : Vec ℕ) (bundles : Stored) → run' ≡ run → guest' ≡ guest
    → HasRooms codes lines run guest replies notes reports told bundles → HasRooms codes lines run' guest' replies notes reports told bundles
same-rooms codes lines run run' guest guest' replies notes reports told bundles same-run same-guest rooms =
    subst (λ (r : Option Standing). HasRooms codes lines r guest' replies notes reports told bundles) (sym same-run)
    (subst (λ (w : Option WordGuest). HasRooms codes lines run w replies notes reports told bundles) (sym same-guest) rooms)
