-- What a turn of a run comes to: fewer events left, and what its leaf answers with its act.
use Rattle.std.proofs.Common.{◌≡◌, ℕ, ◌+◌, ◌-◌, ◌<◌, ◌≤◌, Bool, true, false, ◌||◌, List, [], ◌∷◌, ◌++◌, length, Option, Some, None, refl, ap, sym, ◌∙◌, subst, arith, length-append}
use Rattle.report_core.specs.declared.facts.Facts.{Facts}
use Rattle.td_words.specs.declared.names.LockName.{LockName}
use Rattle.td_words.specs.declared.names.Mode.{Mode}
use Rattle.td_words.specs.declared.names.Mode.TheVariants.{Shared, Exclusive}
use Rattle.td_words.specs.declared.machines.Machine.{Machine}
use Rattle.td_words.specs.declared.replies.Reply.{Reply}
use Rattle.mrtd_measure.specs.declared.measures.Measure.{Measure}
use Rattle.step_core.specs.declared.items.Taken.{Taken}
use Rattle.step_core.specs.declared.items.Taken.TheVariants.{Stepped, Swapped, Missed}
use Rattle.flat_core.specs.World.{Made}
use Rattle.flat_core.specs.Processor.{name_of}
use Rattle.word_rules.specs.Views.{look}
use Rattle.leaf_engine.specs.declared.needs.Need.{Need}
use Rattle.leaf_engine.specs.declared.needs.Need.TheVariants as need
use Rattle.leaf_engine.specs.declared.events.Event.{Event}
use Rattle.leaf_engine.specs.declared.events.Event.TheVariants as event
use Rattle.leaf_engine.specs.declared.events.HeldLock.{HeldLock}
use Rattle.leaf_engine.specs.declared.events.Stage.{Stage}
use Rattle.leaf_engine.specs.declared.events.Stage.TheVariants as stages
use Rattle.leaf_engine.specs.Trees.{Answer, Tree, Lock, Load, Test, End, Since, answer_of, settle, fed, passed}
use Rattle.leaf_engine.specs.Besides.{Beside, answered_by, beside_after, bundles_made, reported, facts_made}
use Rattle.leaf_engine.specs.Decides.{Wants}
use Rattle.leaf_engine.specs.Guests.{WordGuest, is_epoch_name, guest_after, guest_entered, or_else}
use Rattle.leaf_engine.specs.Items.{IsLoadAt, IsLoaded}
use Rattle.leaf_engine.specs.Turns.{Standing, standing, grants, tried, busy, last_reply, Comes, TurnBy}
use Rattle.leaf_table.specs.Ends.{Ends, with_bundles, with_report, AreMade, EndsBy, EndsAs, BeginsUnderOther}
use Rattle.guest_turns.specs.Turns.{act_of}
use Rattle.leaf_dispatch.specs.Answers.{FewTries, is_busy, FitsStage, OldestIsOther, answer_with, beside_by, guest_by}
use Rattle.leaf_dispatch.specs.Bounds.{stage_left, stage_used}
use Rattle.leaf_table.proofs.Ending.{ends-fed}
use Rattle.leaf_table.proofs.NoBundles.{AreQuiet, end-quiet}

-- bundles

none-made : (o : Option ℕ) → AreMade o []
none-made None = refl
none-made (Some n) = tt

pub record IsBy (o : Option ℕ) (a b : Answer) : Type 0 where
  pub answer : a ≡ with_bundles a.bundles b
  pub made : AreMade o a.bundles

is-by : (o : Option ℕ) (a b : Answer) → EndsBy o a b → IsBy o a b
is-by None a b h =
    let none : a.bundles ≡ [] = ap (λ (z : Answer). z.bundles) h in
    record { answer = h ∙ sym (ap (λ (ms : List Made). with_bundles ms b) none); made = none }
is-by (Some n) a b h = record { answer = h.0; made = h.1 }

-- trees

pub ends-loaded : (e : Ends) (pages n : ℕ) (t u : Tree) (xs : List Taken) → EndsAs e n t → IsLoaded pages t xs u → EndsAs e n u
ends-loaded e pages n t u [] few l = subst (λ (z : Tree). EndsAs e n z) l few
ends-loaded e pages n t u (Stepped s answer ∷ xs) few l = ends-loaded e pages n (fed (settle t) answer) u xs (ends-fed e n (settle t) (answer ∷ []) (ends-fed e n t [] few)) l.1
ends-loaded e pages n t u (Swapped k p q ∷ xs) few l = absurd l
ends-loaded e pages n t u (Missed k ∷ xs) few l = absurd l

-- its first lock isn't an E

pub other-settled : (t : Tree) → BeginsUnderOther t → BeginsUnderOther (settle t)
other-settled (Lock l q m t) o = o
other-settled (Load v q k) o = o
other-settled (Test true r t) o = other-settled t o
other-settled (Test false r t) o = refl
other-settled (End r fs cs) o = o
other-settled (Since r cs) o = o

other-fed : (pages : ℕ) (t : Tree) (answer at : ℕ) → IsLoadAt pages t at → BeginsUnderOther t → BeginsUnderOther (fed t answer)
other-fed pages (Lock l q m t) answer at g o = absurd g
other-fed pages (Load v q k) answer at g o = other-settled (k (look v answer)) (o answer)
other-fed pages (Test c r t) answer at g o = absurd g
other-fed pages (End r fs cs) answer at g o = absurd g
other-fed pages (Since r cs) answer at g o = absurd g

other-loaded : (pages : ℕ) (t u : Tree) (xs : List Taken) → BeginsUnderOther t → IsLoaded pages t xs u → BeginsUnderOther u
other-loaded pages t u [] o l = subst (λ (z : Tree). BeginsUnderOther z) l o
other-loaded pages t u (Stepped s answer ∷ xs) o l = other-loaded pages (fed (settle t) answer) u xs (other-fed pages (settle t) answer l.0.0 l.0.1 (other-settled t o)) l.1
other-loaded pages t u (Swapped k p q ∷ xs) o l = absurd l
other-loaded pages t u (Missed k ∷ xs) o l = absurd l

-- at the try of a lock one fewer is left
ends-lock : (e : Ends) (pages n : ℕ) (t : Tree) (name : LockName) (at : ℕ) (mode : Mode) → Wants pages t (need.Lock name at mode) → EndsAs e n t → (1 ≤ n) × EndsAs e (n - 1) (passed t)
ends-lock e pages n (Lock l q m t) name at mode g few = (few.0, ends-fed e (n - 1) t [] few.1)
ends-lock e pages n (Load v q k) name at mode g few = cc
ends-lock e pages n (Test b r t) name at mode g few = absurd g
ends-lock e pages n (End r fs cs) name at mode g few = cc
ends-lock e pages n (Since r cs) name at mode g few = cc

other-lock : (pages : ℕ) (t : Tree) (name : LockName) (at : ℕ) (mode : Mode) → Wants pages t (need.Lock name at mode) → BeginsUnderOther t → is_epoch_name name ≡ false
other-lock pages (Lock l q m t) name at mode g o = (let same : name ≡ name_of l = cc in ap is_epoch_name same ∙ o)
other-lock pages (Load v q k) name at mode g o = cc
other-lock pages (Test b r t) name at mode g o = absurd g
other-lock pages (End r fs cs) name at mode g o = cc
other-lock pages (Since r cs) name at mode g o = cc

-- at the act it answers what its leaf comes to
pub record AnswersBy (e : Ends) (t : Tree) (reply : Reply) : Type 0 where
  pub answer : answer_of t ≡ with_bundles (answer_of t).bundles (answer_with e (reported (answer_of t).notes) reply)
  pub quiet : AreQuiet e → reported (answer_of t).notes ≡ None
  pub made : AreMade e.makes (answer_of t).bundles
  pub fits : e.fits reply ≡ true

ended-by : (e : Ends) (a : Answer) (reply : Reply) → a.reply ≡ reply → EndsBy e.makes a (answer_with e (reported a.notes) a.reply) → e.fits a.reply ≡ true
    → (a ≡ with_bundles a.bundles (answer_with e (reported a.notes) reply)) × AreMade e.makes a.bundles × (e.fits reply ≡ true) × (AreQuiet e → reported a.notes ≡ None)
ended-by e a reply same by fits =
    let is = is-by e.makes a (answer_with e (reported a.notes) a.reply) by in
    (is.answer ∙ ap (λ (r : Reply). with_bundles a.bundles (answer_with e (reported a.notes) r)) same, is.made, sym (ap e.fits same) ∙ fits, λ quiet. end-quiet e a quiet by)

ends-act : (e : Ends) (pages n : ℕ) (t : Tree) (reply : Reply) → Wants pages t (need.Verdict reply) → EndsAs e n t → AnswersBy e (passed t) reply
ends-act e pages n (Lock l q m t) reply g few = cc
ends-act e pages n (Load v q k) reply g few = cc
ends-act e pages n (Test c r t) reply g few = absurd g
ends-act e pages n (End a fs cs) reply g few = (let same : a.reply ≡ reply = cc in let by = ended-by e a reply same few.0 few.1 in record { answer = by.0; made = by.1; fits = by.2; quiet = by.3 })
ends-act e pages n (Since a cs) reply g few = (let same : a.reply ≡ reply = cc in let by = ended-by e a reply same few.0 few.1 in record { answer = by.0; made = by.1; fits = by.2; quiet = by.3 })

other-act : (pages : ℕ) (t : Tree) (reply : Reply) → Wants pages t (need.Verdict reply) → BeginsUnderOther t → (answer_of (passed t)).enters ≡ None
other-act pages (Lock l q m t) reply g o = cc
other-act pages (Load v q k) reply g o = cc
other-act pages (Test c r t) reply g o = absurd g
other-act pages (End a fs cs) reply g o = o
other-act pages (Since a cs) reply g o = o

-- a report enters no guest, and what an answer enters it enters with one
enters-same : (line : Option ℕ) (f : Option Facts) (a : Answer) → (with_report line f a).enters ≡ a.enters
enters-same line None a = refl
enters-same None (Some f) a = refl
enters-same (Some line) (Some f) a = refl

entered-same : (line : Option ℕ) (f : Option Facts) (a : Answer) → guest_entered (with_report line f a) ≡ guest_entered a
entered-same line None a = refl
entered-same None (Some f) a = refl
entered-same (Some line) (Some f) a = refl

-- what an act comes to
pub record ActsBy (e : Ends) (s s' : Standing) (r : Reply) : Type 0 where
  pub on : s.stage ≡ stages.Trying
  pub fits : e.fits r ≡ true
  pub stage : s'.stage ≡ stages.Answered r
  pub held : s'.held ≡ s.held
  pub few : length s.held ≤ e.tries
  pub under_other : s.held ≡ [] → (e.answer r).enters ≡ None

-- what a turn comes to, by its event
pub record Gives (e : Ends) (s s' : Standing) (ev : Event) : Type 0 where
  pub few : FewTries e s'
  pub fits : FitsStage e s'.stage
  pub oldest : OldestIsOther s'.held s'
  pub beside : (b : Beside) → beside_after ev s'.rest b ≡ beside_by (answer_with e (facts_made ev s'.rest)) (bundles_made ev s'.rest) (act_of ev s'.stage) b
  pub quiet : AreQuiet e → facts_made ev s'.rest ≡ None
  pub unreported : act_of ev s'.stage ≡ None → facts_made ev s'.rest ≡ None
  pub made : AreMade e.makes (bundles_made ev s'.rest)
  pub unmade : act_of ev s'.stage ≡ None → bundles_made ev s'.rest ≡ []
  pub guest : (g : Option WordGuest) → guest_after ev s'.rest g ≡ guest_by e.answer (act_of ev s'.stage) g
  pub act : (r : Reply) → act_of ev s'.stage ≡ Some r → ActsBy e s s' r
  pub lower : (k : ℕ) → stage_left e.tries k s'.stage (length s'.held) < stage_left e.tries k s.stage (length s.held)
  pub used : e.tries ≤ 2 → (stage_used s.stage (length s.held) < stage_used s'.stage (length s'.held)) × (stage_used s.stage (length s.held) < 5)
  pub stays_answered : (r : Reply) → s.stage ≡ stages.Answered r → (x : Reply) × (s'.stage ≡ stages.Answered x)
  pub once : e.tries ≡ 0 → s.stage ≡ stages.Trying → (r : Reply) × (act_of ev s'.stage ≡ Some r) × (last_reply s'.stage s'.held ≡ Some r)

oldest-more : (held : List HeldLock) (x : HeldLock) (s s' : Standing) → (held ≡ [] → is_epoch_name x.name ≡ false) → OldestIsOther held s → OldestIsOther (held ++ x ∷ []) s'
oldest-more [] x s s' first o = first refl
oldest-more (h ∷ hs) x s s' first o = o

oldest-less : (held : List HeldLock) (older : List HeldLock) (x : HeldLock) (s s' : Standing) (r : Reply) → s'.stage ≡ stages.Answered r → held ≡ older ++ x ∷ [] → OldestIsOther held s → OldestIsOther older s'
oldest-less held [] x s s' r on e o = λ st. cc
oldest-less [] (h ∷ hs) x s s' r on e o = cc
oldest-less (k ∷ ks) (h ∷ hs) x s s' r on e o = (let same : h ≡ k = cc in ap (λ (z : HeldLock). is_epoch_name z.name) same ∙ o)

oldest-stays : (held : List HeldLock) (s s' : Standing) → (s'.stage ≡ stages.Trying → s.stage ≡ stages.Trying × (s'.rest ≡ s.rest)) → OldestIsOther held s → OldestIsOther held s'
oldest-stays [] s s' h o = λ st. (let at = h st in subst (λ (z : Tree). BeginsUnderOther z) (sym at.1) (o at.0))
oldest-stays (x ∷ xs) s s' h o = o

busy-fits : (e : Ends) (name : LockName) → FitsStage e (busy name)
busy-fits e name = either (e.fits _)
  where
    either : (b : Bool) → (b || true) ≡ true
    either true = refl
    either false = refl

pub by-fits : (a b : Bool) → a ≡ true → (a || b) ≡ true
by-fits true b e = refl
by-fits false b e = cc

-- a try

granted-gives : (e : Ends) (t0 t : Tree) (held : List HeldLock) (h : Option Measure) (name : LockName) (at : ℕ) (mode : Mode) → length held ≤ e.tries → 1 ≤ e.tries - length held → EndsAs e (e.tries - length held - 1) t
    → OldestIsOther held (standing t0 stages.Trying held h) → (held ≡ [] → is_epoch_name name ≡ false)
    → Gives e (standing t0 stages.Trying held h) (standing t stages.Trying (held ++ record { name = name; at = at; mode = mode } ∷ []) h) (event.Try name mode true)
granted-gives e t0 t held h name at mode room first few o other =
    let x : HeldLock = record { name = name; at = at; mode = mode } in
    let more : length (held ++ x ∷ []) ≡ length held + 1 = length-append held (x ∷ []) in
    let count : e.tries - length (held ++ x ∷ []) ≡ e.tries - length held - 1 = omega (arith, more) in
    record {
      few = (omega (arith, more, first), λ st. subst (λ (n : ℕ). EndsAs e n t) (sym count) few);
      fits = tt;
      oldest = oldest-more held x (standing t0 stages.Trying held h) (standing t stages.Trying (held ++ x ∷ []) h) other o;
      beside = λ b. refl;
      quiet = λ q. refl;
      unreported = λ none. refl;
      made = none-made e.makes;
      unmade = λ none. refl;
      guest = λ g. refl;
      act = λ r is. cc;
      lower = λ k. omega (arith, more, first);
      used = λ two. (omega (arith, more), omega (arith, first, two));
      stays_answered = λ r z. cc;
      once = λ none on. absurd (omega (arith, none, first));
    }

undoing-gives : (e : Ends) (t0 t : Tree) (held : List HeldLock) (h : Option Measure) (name : LockName) (at : ℕ) → length held ≤ e.tries → 1 ≤ e.tries - length held
    → OldestIsOther held (standing t0 stages.Trying held h)
    → Gives e (standing t0 stages.Trying held h) (standing t (stages.Undoing name at) held h) (event.Try name Shared false)
undoing-gives e t0 t held h name at room first o = record {
  few = (room, λ st. cc);
  fits = tt;
  oldest = oldest-stays held (standing t0 stages.Trying held h) (standing t (stages.Undoing name at) held h) (λ st. cc) o;
  beside = λ b. refl;
  quiet = λ q. refl;
  unreported = λ none. refl;
  made = none-made e.makes;
  unmade = λ none. refl;
  guest = λ g. refl;
  act = λ r is. cc;
  lower = λ k. omega (arith, first);
  used = λ two. (omega (arith, first, two), omega (arith, first, two));
  stays_answered = λ r z. cc;
  once = λ none on. absurd (omega (arith, none, first));
}

denied-gives : (e : Ends) (t0 t : Tree) (held : List HeldLock) (h : Option Measure) (name : LockName) → length held ≤ e.tries → 1 ≤ e.tries - length held
    → OldestIsOther held (standing t0 stages.Trying held h)
    → Gives e (standing t0 stages.Trying held h) (standing t (busy name) held h) (event.Try name Exclusive false)
denied-gives e t0 t held h name room first o = record {
  few = (room, λ st. cc);
  fits = busy-fits e name;
  oldest = oldest-stays held (standing t0 stages.Trying held h) (standing t (busy name) held h) (λ st. cc) o;
  beside = λ b. refl;
  quiet = λ q. refl;
  unreported = λ none. refl;
  made = none-made e.makes;
  unmade = λ none. refl;
  guest = λ g. refl;
  act = λ r is. cc;
  lower = λ k. omega (arith, first);
  used = λ two. (omega (arith, first, two), omega (arith, first, two));
  stays_answered = λ r z. cc;
  once = λ none on. absurd (omega (arith, none, first));
}

tries-give : (e : Ends) (t0 t : Tree) (held : List HeldLock) (h : Option Measure) (name : LockName) (at : ℕ) (mode : Mode) (granted : Bool) → length held ≤ e.tries → 1 ≤ e.tries - length held → EndsAs e (e.tries - length held - 1) t
    → OldestIsOther held (standing t0 stages.Trying held h) → (held ≡ [] → is_epoch_name name ≡ false)
    → Gives e (standing t0 stages.Trying held h) (tried (standing t0 stages.Trying held h) t name at mode granted) (event.Try name mode granted)
tries-give e t0 t held h name at mode true room first few o other = granted-gives e t0 t held h name at mode room first few o other
tries-give e t0 t held h name at Shared false room first few o other = undoing-gives e t0 t held h name at room first o
tries-give e t0 t held h name at Exclusive false room first few o other = denied-gives e t0 t held h name room first o

-- the act

same-reply : (e : Ends) (t0 t : Tree) (held : List HeldLock) (h h' : Option Measure) (reply r : Reply) → Some reply ≡ Some r → ActsBy e (standing t0 stages.Trying held h) (standing t (stages.Answered reply) held h') reply → ActsBy e (standing t0 stages.Trying held h) (standing t (stages.Answered reply) held h') r
same-reply e t0 t held h h' reply r is a = (let same : reply ≡ r = cc in subst (λ (z : Reply). ActsBy e (standing t0 stages.Trying held h) (standing t (stages.Answered reply) held h') z) same a)

act-gives : (e : Ends) (t0 t : Tree) (held : List HeldLock) (h h' : Option Measure) (reply : Reply) → length held ≤ e.tries → AnswersBy e t reply → OldestIsOther held (standing t0 stages.Trying held h) → (held ≡ [] → (answer_of t).enters ≡ None)
    → Gives e (standing t0 stages.Trying held h) (standing t (stages.Answered reply) held h') event.Act
act-gives e t0 t held h h' reply room a o none = record {
  few = (room, λ st. cc);
  fits = by-fits (e.fits reply) (is_busy reply) a.fits;
  oldest = oldest-stays held (standing t0 stages.Trying held h) (standing t (stages.Answered reply) held h') (λ st. cc) o;
  beside = λ b. ap (λ (z : Answer). answered_by z b) a.answer;
  quiet = a.quiet;
  unreported = λ none. cc;
  made = a.made;
  unmade = λ none. cc;
  guest = λ g. ap (λ (z : Answer). or_else (guest_entered z) g) a.answer ∙ ap (λ (y : Option WordGuest). or_else y g) (entered-same e.reports (reported (answer_of t).notes) (e.answer reply));
  act = λ r is. same-reply e t0 t held h h' reply r is (record { on = refl; fits = a.fits; stage = refl; held = refl; few = room; under_other = λ z. sym (enters-same e.reports (reported (answer_of t).notes) (e.answer reply)) ∙ (sym (ap (λ (y : Answer). y.enters) a.answer) ∙ none z) });
  lower = λ k. omega arith;
  used = λ two. (omega (arith, two), omega (arith, two));
  stays_answered = λ r z. cc;
  once = λ n on. (reply, refl, held-none held (omega (arith, n)));
}
  where
    held-none : (hs : List HeldLock) → length hs ≤ 0 → last_reply (stages.Answered reply) hs ≡ Some reply
    held-none [] le = refl
    held-none (x ∷ xs) le = absurd (omega (arith, le))

-- an undo, and a release

undo-gives : (e : Ends) (t : Tree) (held : List HeldLock) (h : Option Measure) (name : LockName) (at : ℕ) → length held ≤ e.tries → OldestIsOther held (standing t (stages.Undoing name at) held h)
    → Gives e (standing t (stages.Undoing name at) held h) (standing t (busy name) held h) (event.Undo name)
undo-gives e t held h name at room o = record {
  few = (room, λ st. cc);
  fits = busy-fits e name;
  oldest = oldest-stays held (standing t (stages.Undoing name at) held h) (standing t (busy name) held h) (λ st. cc) o;
  beside = λ b. refl;
  quiet = λ q. refl;
  unreported = λ none. refl;
  made = none-made e.makes;
  unmade = λ none. refl;
  guest = λ g. refl;
  act = λ r is. cc;
  lower = λ k. omega arith;
  used = λ two. (omega (arith, room, two), omega arith);
  stays_answered = λ r z. cc;
  once = λ n on. cc;
}

free-gives : (e : Ends) (t : Tree) (held older : List HeldLock) (x : HeldLock) (h : Option Measure) (reply : Reply) → length held ≤ e.tries → held ≡ older ++ x ∷ [] → FitsStage e (stages.Answered reply) → OldestIsOther held (standing t (stages.Answered reply) held h)
    → Gives e (standing t (stages.Answered reply) held h) (standing t (stages.Answered reply) older h) (event.Free x.name)
free-gives e t held older x h reply room is fits o =
    let count : length held ≡ length older + 1 = ap length is ∙ length-append older (x ∷ []) in
    record {
      few = (omega (arith, count, room), λ st. cc);
      fits = fits;
      oldest = oldest-less held older x (standing t (stages.Answered reply) held h) (standing t (stages.Answered reply) older h) reply refl is o;
      beside = λ b. refl;
      quiet = λ q. refl;
      unreported = λ none. refl;
      made = none-made e.makes;
      unmade = λ none. refl;
      guest = λ g. refl;
      act = λ r z. cc;
      lower = λ k. omega (arith, count);
      used = λ two. (omega (arith, count, room, two), omega (arith, count));
      stays_answered = λ r z. (reply, refl);
      once = λ n on. cc;
    }

-- any turn

goes-give : (m : Machine) (e : Ends) (t0 : Tree) (held : List HeldLock) (h : Option Measure) (s' : Standing) (xs loads : List Taken) (t : Tree) (d : Need) (ev : Event) → length held ≤ e.tries → EndsAs e (e.tries - length held) t0
    → OldestIsOther held (standing t0 stages.Trying held h) → IsLoaded m.pages t0 loads t → Wants m.pages (settle t) d → Comes m (standing t0 stages.Trying held h) (passed (settle t)) loads xs d s' ev
    → Gives e (standing t0 stages.Trying held h) s' ev
goes-give m e t0 held h s' xs loads t (need.Lock name at mode) ev room few o l g c =
    let here : EndsAs e (e.tries - length held) (settle t) = ends-fed e (e.tries - length held) t [] (ends-loaded e m.pages (e.tries - length held) t0 t loads few l) in
    let more = ends-lock e m.pages (e.tries - length held) (settle t) name at mode g here in
    subst (λ (z : Event). Gives e (standing t0 stages.Trying held h) s' z) (sym c.event)
    (subst (λ (z : Standing). Gives e (standing t0 stages.Trying held h) z (event.Try name mode (grants mode c.seen))) (sym c.after)
    (tries-give e t0 (passed (settle t)) held h name at mode (grants mode c.seen) room more.0 more.1 o
    (λ z. other-lock m.pages (settle t) name at mode g (other-settled t (other-loaded m.pages t0 t loads (begins held z o) l)))))
  where
    begins : (hs : List HeldLock) → hs ≡ [] → OldestIsOther hs (standing t0 stages.Trying held h) → BeginsUnderOther t0
    begins [] z p = p refl
    begins (x ∷ ys) z p = cc
goes-give m e t0 held h s' xs loads t (need.Load at) ev room few o l g c = absurd c
goes-give m e t0 held h s' xs loads t (need.Verdict reply) ev room few o l g c =
    let here : EndsAs e (e.tries - length held) (settle t) = ends-fed e (e.tries - length held) t [] (ends-loaded e m.pages (e.tries - length held) t0 t loads few l) in
    subst (λ (z : Event). Gives e (standing t0 stages.Trying held h) s' z) (sym c.event)
    (subst (λ (z : Standing). Gives e (standing t0 stages.Trying held h) z event.Act) (sym c.after)
    (act-gives e t0 (passed (settle t)) held h c.hasher reply room (ends-act e m.pages (e.tries - length held) (settle t) reply g here) o
    (λ z. other-act m.pages (settle t) reply g (other-settled t (other-loaded m.pages t0 t loads (begins held z o) l)))))
  where
    begins : (hs : List HeldLock) → hs ≡ [] → OldestIsOther hs (standing t0 stages.Trying held h) → BeginsUnderOther t0
    begins [] z p = p refl
    begins (x ∷ ys) z p = cc

gives-at : (m : Machine) (e : Ends) (s s' : Standing) (xs : List Taken) (ev : Event) (st : Stage) → s.stage ≡ st → FewTries e s → FitsStage e s.stage → OldestIsOther s.held s → TurnBy st m s xs s' ev → Gives e s s' ev
gives-at m e s s' xs ev stages.Trying on few fits o t =
    let at : s ≡ standing s.rest stages.Trying s.held s.hasher = λ i. record { rest = s.rest; stage = on i; held = s.held; hasher = s.hasher } in
    subst (λ (z : Standing). Gives e z s' ev) (sym at)
    (goes-give m e s.rest s.held s.hasher s' xs t.loads t.tree t.need ev few.0 (few.1 on) (subst (λ (z : Standing). OldestIsOther s.held z) at o) t.loaded t.gives
    (subst (λ (z : Standing). Comes m z (passed (settle t.tree)) t.loads xs t.need s' ev) at t.comes))
gives-at m e s s' xs ev (stages.Undoing name at) on few fits o t =
    let is : s ≡ standing s.rest (stages.Undoing name at) s.held s.hasher = λ i. record { rest = s.rest; stage = on i; held = s.held; hasher = s.hasher } in
    subst (λ (z : Standing). Gives e z s' ev) (sym is)
    (subst (λ (z : Event). Gives e (standing s.rest (stages.Undoing name at) s.held s.hasher) s' z) (sym t.event)
    (subst (λ (z : Standing). Gives e (standing s.rest (stages.Undoing name at) s.held s.hasher) z (event.Undo name)) (sym t.after)
    (undo-gives e s.rest s.held s.hasher name at few.0 (subst (λ (z : Standing). OldestIsOther s.held z) is o))))
gives-at m e s s' xs ev (stages.Answered reply) on few fits o t =
    let is : s ≡ standing s.rest (stages.Answered reply) s.held s.hasher = λ i. record { rest = s.rest; stage = on i; held = s.held; hasher = s.hasher } in
    subst (λ (z : Standing). Gives e z s' ev) (sym is)
    (subst (λ (z : Event). Gives e (standing s.rest (stages.Answered reply) s.held s.hasher) s' z) (sym t.0.event)
    (subst (λ (z : Standing). Gives e (standing s.rest (stages.Answered reply) s.held s.hasher) z (event.Free t.0.newest.name)) (sym (t.1 ∙ (λ i. record { rest = s.rest; stage = on i; held = s'.held; hasher = s.hasher })))
    (free-gives e s.rest s.held s'.held t.0.newest s.hasher reply few.0 t.0.held_are (subst (λ (z : Stage). FitsStage e z) on fits) (subst (λ (z : Standing). OldestIsOther s.held z) is o))))

pub turn-gives : (m : Machine) (e : Ends) (s s' : Standing) (xs : List Taken) (ev : Event) → FewTries e s → FitsStage e s.stage → OldestIsOther s.held s → TurnBy s.stage m s xs s' ev → Gives e s s' ev
turn-gives m e s s' xs ev few fits o t = gives-at m e s s' xs ev s.stage refl few fits o t
