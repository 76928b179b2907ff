-- The act of a call; and that what it gives back is emptied.
use Rattle.std.proofs.Common.{◌≡◌, refl, sym, ◌∙◌, ap, subst, ℕ, Option, Some, None, true, false, not, ◌==◌}
use Rattle.std.proofs.lemmas.Bool.{eqb-true}
use Rattle.td_words.specs.declared.calls.Call.{Call}
use Rattle.td_words.specs.declared.calls.Call.TheVariants as call
use Rattle.td_words.specs.declared.names.PageKind.{PageKind}
use Rattle.td_words.specs.declared.names.PageKind.TheVariants as kind
use Rattle.td_words.specs.declared.replies.Reply.{Reply}
use Rattle.flat_core.specs.World.{World, Pages}
use Rattle.flat_core.specs.Opening.{Opening}
use Rattle.flat_core.specs.Conditions.{is_host_in, same_kind}
use Rattle.flat_core.specs.Row.{Move, Attempts, Undoes, Refuses, Succeeds, Releases, Rests, Passes, next_in}
use Rattle.flat_core.specs.Table.{row_of}
use Rattle.flat_core.specs.Tree.{entry_at}
use Rattle.flat_core.specs.Event.{State, Event, OfCall, next_event, after_event, event}
use Rattle.flat_core.specs.Laws.{IsUsedAsBefore, gives_back}
use Rattle.flat_core.specs.PageUses.{is_act}
use Rattle.flat_core.proofs.Tests.{by_test}
use Rattle.flat_core.proofs.Enter.{passed}
use Rattle.flat_core.proofs.Passed.{relocate_passed}
use Rattle.flat_core.proofs.Due.{Due, calls, frees, leaves, stops, fills, operates, walks, reaches, undoes, gives_back as returns, due_event_is}
use Rattle.flat_core.proofs.OneUse.{one_use, events_keep_uses}
use Rattle.flat_laws.specs.Usable.{IsEmptied, GivenBackAreEmptied}

-- the next event is the act of the call
pub record IsActOf (o : Opening) (s : State) (me : ℕ) (c : Call) : Type 0 where
  pub is : next_event o s me ≡ Some (OfCall (row_of o me c) Succeeds)
  pub passes : Passes ((row_of o me c).items s.world)

pub act-world : (o : Opening) (s : State) (me : ℕ) (c : Call) → IsActOf o s me c → (event o s me).world ≡ (row_of o me c).act s.world
act-world o s me c act = ap (λ (x : Option Event). (after_event me s x).world) act.is

module _ (o : Opening) (s : State) (me : ℕ) where
  by_move : (c : Call) (move : Move Reply) → next_event o s me ≡ Some (OfCall (row_of o me c) move) → (move ≡ Succeeds → Passes ((row_of o me c).items s.world)) → is_act (Some (OfCall (row_of o me c) move)) ≡ true → IsActOf o s me c
  by_move c Succeeds is passes a = record { is = is; passes = passes refl }
  by_move c (Attempts l m) is passes a = cc
  by_move c (Undoes l) is passes a = cc
  by_move c (Refuses r) is passes a = cc
  by_move c (Releases x) is passes a = cc
  by_move c Rests is passes a = cc

  by_due : (e : Event) → next_event o s me ≡ Some e → Due o s.world me (s.lps me) e → is_act (Some e) ≡ true → (c : Call) × IsActOf o s me c
  by_due e is (calls c cs line none) a =
      let items = (row_of o me c).items s.world in
      let at = (s.lps me).call in
      (c, by_move c (next_in items at.phase at.held) is (passed items at.phase at.held) a)
  by_due e is (frees c cs g x hs line guest held epoch) a = cc
  by_due e is (leaves c cs g out x l) a = cc
  by_due e is (stops c cs g x l t d) a = cc
  by_due e is (fills c cs g op x l t d m) a = cc
  by_due e is (operates c cs g op row x way by) a = cc
  by_due e is (walks c cs g op access r gpa x way by lost) a = cc
  by_due e is (reaches c cs g op access r gpa page x way by found) a = cc
  by_due e is (undoes c cs g l x st held) a = cc
  by_due e is (returns c cs g out x st held) a = cc

  pub act-of : (x : Option Event) → next_event o s me ≡ x → is_act x ≡ true → (c : Call) × IsActOf o s me c
  act-of None is a = cc
  act-of (Some e) is a = by_due e is (due_event_is o s me e is) a

-- what an act gives back
pub emptied : (o : Opening) (me q : ℕ) (w : World) (c : Call) → Passes ((row_of o me c).items w) → gives_back c w q ≡ true → IsEmptied ((row_of o me c).act w) q
emptied o me q w (call.PhymemPageReclaim t page) ps h = record { kind = rw h refl; owner = rw h refl; blocked = rw h refl; words = λ i. rw h refl }
emptied o me q w (call.MemPageRemove t gpa) ps h = record { kind = rw h refl; owner = rw h refl; blocked = rw h refl; words = λ i. rw h refl }
emptied o me q w (call.MemSeptRemove t gpa level) ps h = record { kind = rw h refl; owner = rw h refl; blocked = rw h refl; words = λ i. rw h refl }
emptied o me q w (call.MemPageRelocate t gpa page) ps h =
    let apart = (relocate_passed o.machine w t gpa page ps).other in
    let n : (q == page) ≡ false = by_test (q == page) (λ y. absurd (let no : false ≡ true = ap not (sym (ap (λ (x : ℕ). x == (entry_at w t 0 gpa).page) (sym (eqb-true q page y)) ∙ h)) ∙ apart in cc)) (λ y. y) in
    record { kind = rw (n, h) refl; owner = rw (n, h) refl; blocked = rw (n, h) refl; words = λ i. rw (n, h) refl }
emptied o me q w _ ps h = cc

-- a page that is used as before is whose it was
still-owned : (old new : Pages) (q : ℕ) → is_host_in old q ≡ false → is_host_in new q ≡ true → IsUsedAsBefore old new q → ⊥
still-owned old new q owned host same = let no : true ≡ false = sym host ∙ (ap (λ (k : PageKind). same_kind k kind.Nda) same.kind ∙ owned) in cc

pub given-back-are-emptied : GivenBackAreEmptied
given-back-are-emptied o s me q owned host = by_test (is_act (next_event o s me))
    (λ y. let x = act-of o s me (next_event o s me) refl y in by_act x.0 x.1)
    (λ n. absurd (still-owned s.world.pages (event o s me).world.pages q owned host (events_keep_uses.acts_alone o s me q n)))
  where
    by_act : (c : Call) → IsActOf o s me c → IsEmptied (event o s me).world q
    by_act c act = by_test (gives_back c s.world q)
        (λ y. subst (λ (z : World). IsEmptied z q) (sym (act-world o s me c act)) (emptied o me q s.world c act.passes y))
        (λ n. absurd (still-owned s.world.pages (event o s me).world.pages q owned host
        (subst (λ (z : World). IsUsedAsBefore s.world.pages z.pages q) (sym (act-world o s me c act)) (one_use o me c s.world q act.passes owned n))))
