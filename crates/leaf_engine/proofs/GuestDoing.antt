-- What a processor in a guest does is what the leaf of its guest's next step means.
use Rattle.std.proofs.Common.{◌≡◌, ◌⊎◌, inl, inr, ℕ, zero, suc, ◌+◌, ◌/◌, ◌^◌, ◌<◌, ◌≤◌, true, false, ◌==◌, List, [], ◌∷◌, map, length, Option, Some, None, refl, ap, sym, ◌∙◌, subst, arith}
use Rattle.std.specs.Prelude.{slice_get, slice_index}
use Rattle.std.proofs.Math.Nat.{div-div-eq-div-mul}
use Rattle.std.proofs.lemmas.Option.{slice_get_within, get_or_from_slice_get}
use Rattle.td_words.specs.declared.names.PageKind.TheVariants as kind
use Rattle.td_words.specs.declared.names.OpState.TheVariants as op
use Rattle.td_words.specs.declared.machines.Machine.{Machine}
use Rattle.td_words.specs.declared.names.Access.{Access}
use Rattle.td_words.specs.declared.calls.Call.{Call}
use Rattle.td_words.specs.declared.calls.GuestOp.{GuestOp}
use Rattle.td_words.specs.declared.replies.Outcome.{Outcome}
use Rattle.td_words.specs.declared.replies.Reply.{Reply}
use Rattle.flat_core.specs.World.{World}
use Rattle.flat_core.specs.Processor.{Held, Phase, Trying, Undoing, Answered, Progress, nothing_yet, Walk, Guest, Lp}
use Rattle.flat_core.specs.Opening.{Opening}
use Rattle.flat_core.specs.Row.{Item, Check, Try, OperationRow, next, next_in}
use Rattle.flat_core.specs.Tree.{page_of_gpa, number_at}
use Rattle.flat_core.specs.Guest.{Operation, Private, operation_of, walk_level}
use Rattle.flat_core.specs.Lawful.{IsNodeOf, AreControls}
use Rattle.flat_core.specs.Access.{IsOnCourse, node_number}
use Rattle.flat_core.specs.Inside.{OperationAt, DueAt, PhaseAt, GuestAt, WalkFits, InGuest, AreTimely}
use Rattle.flat_core.specs.Event.{State, Event, OfOperation, next_event, guest_event, staying_event, operation_due, nothing_more}
use Rattle.flat_core.proofs.Always.{reaches_own}
use Rattle.word_rules.specs.Spots.{runs_in}
use Rattle.lock_words.specs.LockWords.{has_let_go}
use Rattle.leaf_engine.specs.declared.needs.Place.{Place}
use Rattle.leaf_engine.specs.declared.events.Stage.{Stage}
use Rattle.leaf_engine.specs.declared.events.Stage.TheVariants as stages
use Rattle.leaf_engine.specs.Facts.{GuestFits, GuestIsIn, Facts}
use Rattle.leaf_engine.specs.Changes.{Memory}
use Rattle.leaf_engine.specs.Trees.{Tree}
use Rattle.leaf_engine.specs.Means as meaning
use Rattle.leaf_engine.specs.Means.{Task, Meaning, Instant, exit_of, exit_item, IsInGuest, IsEntryPage, IsMaker}
use Rattle.leaf_engine.specs.Guests.{Step, walk_page}
use Rattle.leaf_engine.specs.Turns.{Standing}
use Rattle.leaf_engine.specs.Merges.{IsOperation, AreCodes, ByItsRow}
use Rattle.leaf_engine.specs.Calls.{IsStage}
use Rattle.leaf_engine.specs.Doing.{outcome_of, out_move, row_then, event_of, HasMoves, IsDoing}
use Rattle.leaf_engine.specs.Standing.{out_phase, out_progress, position_in}
use Rattle.leaf_engine.proofs.Steps.{IsDue, leaves, ends, operates, walks, reaches}

-- an operation's row as its leaf sees it has the same moves

exit-out : (out : Option Outcome) → outcome_of (exit_of out) ≡ out
exit-out None = refl
exit-out (Some out) = refl

moves-out : (items : List (Item (Option Outcome))) (n : ℕ) → out_move (next (map exit_item items) n) ≡ next items n
moves-out [] n = refl
moves-out (Check true out ∷ items) n = moves-out items n
moves-out (Check false out ∷ items) n = ap Rattle.flat_core.specs.Row.Refuses (exit-out out)
moves-out (Try l m ∷ items) zero = refl
moves-out (Try l m ∷ items) (suc n) = moves-out items n

row-kept : (row : OperationRow) (items : List (Item (Option Outcome))) (n : ℕ) → row_then row (next (map exit_item items) n) ≡ row
row-kept row [] n = refl
row-kept row (Check true out ∷ items) n = row-kept row items n
row-kept row (Check false out ∷ items) n = refl
row-kept row (Try l m ∷ items) zero = refl
row-kept row (Try l m ∷ items) (suc n) = row-kept row items n

stage-trying : (m : Machine) (w : World) (st : Stage) → IsStage m w st Trying → st ≡ stages.Trying
stage-trying m w stages.Trying i = refl
stage-trying m w (stages.Undoing name at) i = absurd i
stage-trying m w (stages.Answered r) i = absurd i

two-controls : (cs : List ℕ) (w : World) (t : ℕ) → AreControls w.pages t cs → ((length cs == 2) ≡ false → ⊥) → (d : ℕ) × (cs ≡ d ∷ slice_index cs 1 ∷ [])
two-controls [] w t a not = absurd (not refl)
two-controls (d ∷ []) w t a not = absurd (not refl)
two-controls (d ∷ r ∷ []) w t a not = (d, refl)
two-controls (d ∷ r ∷ x ∷ cs) w t a not = absurd a

module _ (o : Opening) (s : State) (p : ℕ) (mem : Memory) (inside : p < s.lp_count) (timely : AreTimely o s) (facts : Facts s) (codes : AreCodes o) (g : Guest) (is-in : (s.lps p).guest ≡ Some g) (c : Call) (at : InGuest o s.world p c (s.lps p) g) where
  abbrev w : World
  w = s.world

  abbrev lp : Lp
  lp = s.lps p

  abbrev line : ℕ
  line = length lp.replies + 1

  abbrev root : ℕ
  root = slice_index (w.tds.controls g.tdr) 1

  fits : GuestFits w p lp.call.held g.tdr g.vp
  fits = subst (λ (z : Option Guest). GuestIsIn w p lp.call.held z) is-in (facts.guests p inside)

  abbrev instant : Instant
  instant = record { state = s; memory = mem; me = p; kept = lp.call.held }

  in-guest : IsInGuest instant g.tdr g.vp g
  in-guest = record { guest = is-in; td = refl; vp = refl; fits = fits }

  -- the walk under way, if there is one, is on course
  on-course : (k : Walk) → g.walk ≡ Some k → IsOnCourse w g.tdr k at.occupied.epoch
  on-course k is = (facts.access.each p).walk g k at.occupied.epoch is-in is at.occupied.entered

  pub level-fits : walk_level g.walk ≤ 3
  level-fits = by g.walk refl
    where
      by : (k : Option Walk) → g.walk ≡ k → walk_level k ≤ 3
      by None is = omega arith
      by (Some k) is = (let l = (on-course k is).level in omega (arith, l))

  is-built : (length (w.tds.controls g.tdr) == 2) ≡ false → ⊥
  is-built few =
      let new = timely.lawful.beginnings.is_new g.tdr fits.alive few in
      let no : runs_in op.Uninitialized ≡ true = ap runs_in (sym new.op) ∙ fits.running in cc

  has-root : (d : ℕ) × (w.tds.controls g.tdr ≡ d ∷ root ∷ [])
  has-root = two-controls (w.tds.controls g.tdr) w g.tdr (timely.lawful.tds.controls g.tdr fits.alive) is-built

  node-is : (k : Walk) (gpa : ℕ) → g.walk ≡ Some k → k.gpa_page ≡ page_of_gpa gpa → IsNodeOf w.pages g.tdr k.page kind.Ept (suc k.level) (number_at (suc k.level) gpa)
  node-is k gpa is of =
      let course = on-course k is in
      let node = (timely.lawful.tree.upper g.tdr k.level (node_number k) fits.alive course.named.used).1 in
      let number : node_number k ≡ number_at (suc k.level) gpa = ap (λ (z : ℕ). z / 512 ^ suc k.level) of ∙ div-div-eq-div-mul gpa 4096 (512 ^ suc k.level) in
      subst (λ (q : ℕ). IsNodeOf w.pages g.tdr q kind.Ept (suc k.level) (number_at (suc k.level) gpa)) course.named.page_is
      (subst (λ (z : ℕ). IsNodeOf w.pages g.tdr (w.tds.entries g.tdr (suc k.level) (node_number k)).page kind.Ept (suc k.level) z) number
      (record { page = record { kind = node.page.kind; owner = node.page.owner }; level_is = node.level_is; number_is = node.number_is }))

  entry-by : (level gpa page : ℕ) → level ≤ 2 → IsNodeOf w.pages g.tdr page kind.Ept (suc level) (number_at (suc level) gpa) → IsEntryPage w g.tdr level gpa page
  entry-by zero gpa page l h = h
  entry-by (suc zero) gpa page l h = h
  entry-by (suc (suc zero)) gpa page l h = h
  entry-by (suc (suc (suc level))) gpa page l h = absurd (omega (arith, l))

  entry-page : (gpa : ℕ) → WalkFits g.walk gpa → IsEntryPage w g.tdr (walk_level g.walk) gpa (walk_page root g.walk)
  entry-page gpa = by g.walk refl
    where
      by : (k : Option Walk) → g.walk ≡ k → WalkFits k gpa → IsEntryPage w g.tdr (walk_level k) gpa (walk_page root k)
      by None is f = has-root
      by (Some k) is f = entry-by k.level gpa k.page (on-course k is).level (node-is k gpa is f)

  -- the operation that is due
  module _ (n : ℕ) where
    abbrev found : Option GuestOp
    found = slice_get (o.codes g.tdr (w.vps.indexes g.vp)) n

    pub operation-is : (op : GuestOp) → found ≡ Some op → IsOperation op
    operation-is op is =
        subst IsOperation (get_or_from_slice_get (o.codes g.tdr (w.vps.indexes g.vp)) n op op is)
        (codes.each g.tdr (w.vps.indexes g.vp) n op (slice_get_within (o.codes g.tdr (w.vps.indexes g.vp)) n op is))

    small : (op : GuestOp) → found ≡ Some op → n < 256
    small op is =
        let a : n < length (o.codes g.tdr (w.vps.indexes g.vp)) = slice_get_within (o.codes g.tdr (w.vps.indexes g.vp)) n op is in
        let b : length (o.codes g.tdr (w.vps.indexes g.vp)) ≤ 256 = codes.few g.tdr (w.vps.indexes g.vp) in omega (arith, a, b)

    -- as far as its leaf's run is
    module _ (tree : Tree) (own : Progress Reply) (run : Standing) (seen : Option Standing) (is-own : out_progress own ≡ g.operation) (stage : IsStage o.machine w run.stage own.phase) (position : w.vps.positions g.vp ≡ position_in n run.stage)
        (freed : next_event o s p ≡ Some (guest_event o w lp g g.leaving)) where
      abbrev here : Place
      here = record { machine = o.machine; lp = p }

      abbrev leaf : Meaning → Task
      leaf k = record { place = here; tree = tree; meaning = k }

      abbrev Doing : Meaning → Type 0
      Doing k = IsDoing o (leaf k) s mem lp.call.held own

      at-trying : own.phase ≡ Trying → w.vps.positions g.vp ≡ n
      at-trying t = position ∙ ap (position_in n) (stage-trying o.machine w run.stage (subst (λ (z : Phase Reply). IsStage o.machine w run.stage z) t stage))

      phase-is : g.operation.phase ≡ out_phase own.phase
      phase-is = ap (λ (z : Progress (Option Outcome)). z.phase) (sym is-own)

      held-is : g.operation.held ≡ own.held
      held-is = ap (λ (z : Progress (Option Outcome)). z.held) (sym is-own)

      -- one that has done nothing yet
      module _ (fresh : own ≡ nothing_yet) where
        none : g.operation ≡ nothing_yet
        none = sym is-own ∙ ap out_progress fresh

        trying : g.operation.phase ≡ Trying
        trying = ap (λ (z : Progress (Option Outcome)). z.phase) none

        at-n : w.vps.positions g.vp ≡ n
        at-n = at-trying (ap (λ (z : Progress Reply). z.phase) fresh)

        walk-fits : (op : GuestOp) (access : Access) (r gpa : ℕ) → g.leaving ≡ None → found ≡ Some op → operation_of o g.tdr g.vp line op ≡ Private access r gpa → WalkFits g.walk gpa
        walk-fits op access r gpa stays is private =
            let phase : PhaseAt o w lp g g.operation.phase = subst (λ (z : Option Outcome). GuestAt o w lp g z) stays at.operation in
            let due : DueAt o lp g (operation_due o w g) = subst (λ (z : Phase (Option Outcome)). PhaseAt o w lp g z) trying phase in
            let here : DueAt o lp g (Some op) = subst (λ (z : Option GuestOp). DueAt o lp g z) (ap (slice_get (o.codes g.tdr (w.vps.indexes g.vp))) at-n ∙ is) due in
            (subst (λ (z : Operation). OperationAt g z) private here).2

      module _ (row : OperationRow) (stays : g.leaving ≡ None) (e-is : g.operation.phase ≡ Trying → guest_event o w lp g g.leaving ≡ OfOperation row (next_in (row.items w) g.operation.phase g.operation.held)) where
        row-event : (ph : Phase Reply) (hs : List Held) → g.operation.phase ≡ out_phase ph → g.operation.held ≡ hs
            → guest_event o w lp g g.leaving ≡ event_of (meaning.OfOperation g.tdr g.vp row) (next_in (map exit_item (row.items w)) ph hs)
        row-event Trying hs a b =
            e-is a
            ∙ (ap (λ (z : Phase (Option Outcome)). OfOperation row (next_in (row.items w) z g.operation.held)) a
            ∙ (ap (λ (z : List Held). OfOperation row (next (row.items w) (length z))) b
            ∙ (λ i. OfOperation (sym (row-kept row (row.items w) (length hs)) i) (sym (moves-out (row.items w) (length hs)) i))))
        row-event (Undoing l) hs a b = ap (λ (z : Option Outcome). guest_event o w lp g z) stays ∙ ap (λ (z : Phase (Option Outcome)). staying_event o w lp g z) a
        row-event (Answered r) [] a b =
            ap (λ (z : Option Outcome). guest_event o w lp g z) stays
            ∙ (ap (λ (z : Phase (Option Outcome)). staying_event o w lp g z) a ∙ ap (λ (z : List Held). OfOperation nothing_more (next_in [] (Answered (outcome_of r)) z)) b)
        row-event (Answered r) (h ∷ hs) a b =
            ap (λ (z : Option Outcome). guest_event o w lp g z) stays
            ∙ (ap (λ (z : Phase (Option Outcome)). staying_event o w lp g z) a ∙ ap (λ (z : List Held). OfOperation nothing_more (next_in [] (Answered (outcome_of r)) z)) b)

      pub doing : (k : Meaning) (st : Step) (e : Event) → IsDue o w lp g root (w.vps.indexes g.vp) n seen st e → (g.operation.phase ≡ Trying → guest_event o w lp g g.leaving ≡ e)
          → ByItsRow o g.tdr g.vp line st k → HasMoves k ⊎ (own ≡ nothing_yet) → Doing k
      doing k st e (leaves out l) e-is k-is single = exits out e-is k-is single
        where
          exits : (out : Outcome) → (g.operation.phase ≡ Trying → guest_event o w lp g g.leaving ≡ Rattle.flat_core.specs.Event.Leaves g.vp out) → k ≡ meaning.OfExit g.tdr g.vp out → HasMoves k ⊎ (own ≡ nothing_yet) → Doing k
          exits out e-is k-is (inl h) = absurd (subst HasMoves k-is h)
          exits out e-is k-is (inr fresh) =
              subst Doing (sym k-is) (record {
                next = record { processor = inside; next = freed ∙ ap Some (e-is (trying fresh)); lets_go = (at.trying, subst has_let_go (sym is-in) (none fresh)) };
                single = inr fresh;
                maker = λ t. (g, in-guest);
              })
      doing k st e (ends out l) e-is k-is (inl h) = absurd (subst HasMoves k-is h)
      doing k st e (ends out l) e-is k-is (inr fresh) =
          subst Doing (sym k-is) (record {
            next = record { processor = inside; next = freed ∙ ap Some (e-is (trying fresh)); lets_go = (at.trying, subst has_let_go (sym is-in) (none fresh)) };
            single = inr fresh;
            maker = λ t. (g, in-guest);
          })
      doing k st e (operates op row stays i is) e-is k-is single =
          subst Doing (sym (k-is row is.1)) (record {
            next = record { processor = inside; next = freed ∙ ap Some (row-event row stays e-is own.phase own.held phase-is held-is); lets_go = tt };
            single = inl tt;
            maker = λ t. (g, in-guest, subst (λ (z : ℕ). z < 256) (sym (at-trying t)) (small op is.0));
          })
      doing k st e (walks op access r gpa stays below is misses) e-is k-is (inl h) = absurd (subst HasMoves k-is h)
      doing k st e (walks op access r gpa stays below is misses) e-is k-is (inr fresh) =
          subst Doing (sym k-is) (record {
            next = record { processor = inside; next = freed ∙ ap Some (e-is (trying fresh)); lets_go = tt };
            single = inr fresh;
            maker = λ t. (g, in-guest, refl, entry-page gpa (walk-fits fresh op access r gpa stays is.0 is.1));
          })
      doing k st e (reaches op access r gpa page stays small-enough is hits) e-is k-is (inl h) = absurd (subst HasMoves k-is h)
      doing k st e (reaches op access r gpa page stays small-enough is hits) e-is k-is (inr fresh) =
          let page-is = (reaches_own o s (record { timely = record { lawful = timely.lawful; exclusive = timely.exclusive; count = timely.count; each = timely.each }; access = record { epochs = facts.access.epochs; each = facts.access.each } }) p (page_of_gpa gpa) page access g is-in hits).0.private in
          subst Doing (sym k-is) (record {
            next = record { processor = inside; next = freed ∙ ap Some (e-is (trying fresh)); lets_go = tt };
            single = inr fresh;
            maker = λ t. (g, in-guest, subst (λ (z : ℕ). z < 256) (sym (at-trying t)) (small op is.0), refl, hits, record { kind = page-is.kind; owner = page-is.owner });
          })
