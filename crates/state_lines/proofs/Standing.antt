-- What a logical processor over words knows of itself is what is told of it.
use Rattle.std.proofs.Common.{◌≡◌, refl, sym, ◌∙◌, ap, ℕ, ◌+◌, ◌*◌, ◌/◌, ◌%◌, ◌<◌, List, [], ◌∷◌, ◌++◌, length, map, Option, Some, None, true, false, ◌==◌, arith, slice_index, append-nil}
use Rattle.std.proofs.lemmas.List.{map_push}
use Rattle.std.proofs.lemmas.List.Folds.{concat-append}
use Rattle.std.specs.List.{concat}
use Rattle.td_words.specs.Limits.{IsMachine}
use Rattle.td_words.specs.Laws.{PackingsUndone}
use Rattle.td_words.specs.declared.machines.Machine.{Machine}
use Rattle.td_words.specs.declared.names.PageKind.{PageKind}
use Rattle.td_words.specs.declared.names.PageKind.TheVariants as kind
use Rattle.td_words.specs.declared.places.TheConstants.{TDCS_OP_LOCK, TDCS_TREE_LOCK, TDCS_EPOCH_LOCK, TDCS_RTMR_LOCK}
use Rattle.td_words.specs.NameNumber.{kind_number}
use Rattle.td_words.specs.declared.names.LockName.{LockName}
use Rattle.td_words.specs.declared.names.LockName.TheVariants as name
use Rattle.td_words.specs.declared.names.Mode.{Mode}
use Rattle.td_words.specs.declared.calls.Call.{Call}
use Rattle.td_words.specs.declared.replies.Reply.{Reply}
use Rattle.td_words.specs.declared.replies.Outcome.{Outcome}
use Rattle.td_words.specs.Place.{WordPlace}
use Rattle.flat_core.specs.World.{World, Pages}
use Rattle.flat_core.specs.Processor.{LockId, OfPage, OfOp, OfTree, OfEpoch, OfRtmr, OfKeys, name_of, Held, Progress, Guest, Translation, Lp}
use Rattle.flat_core.specs.Lawful.{Lawful, AreControls, IsPageOf}
use Rattle.flat_core.specs.Opening.{Opening}
use Rattle.flat_core.specs.Event.{State}
use Rattle.lock_words.specs.LockWords.{TdStands}
use Rattle.field_lines.specs.declared.lines.Form.{Form}
use Rattle.leaf_engine.specs.declared.events.HeldLock.{HeldLock}
use Rattle.leaf_engine.specs.Besides.{Beside}
use Rattle.leaf_engine.specs.Calls.{IsLockAt, AreLocks}
use Rattle.leaf_engine.specs.Guests.{WordGuest}
use Rattle.leaf_engine.specs.Means.{Task}
use Rattle.leaf_engine.specs.OwnLists.{LeafTable, WordLp}
use Rattle.leaf_engine.specs.Standing.{IsStepRun, IsGuestAt, RunStands, LpStands}
use Rattle.leaf_engine.specs.Turns.{Standing}
use Rattle.state_lines.specs.declared.seen.Holder.{Holder}
use Rattle.state_lines.specs.declared.seen.Holder.TheVariants as holder
use Rattle.state_lines.specs.Laws.{AreShown}
use Rattle.state_lines.specs.Lines.{done_line, held_line, guest_line}
use Rattle.state_lines.specs.LpRead.{lock_read, locks_read, run_locks, guest_read, lp_read}
use Rattle.state_lines.specs.StateText.{td_of_lock, held_text, guest_text, translation_line, lp_text}
use Rattle.state_lines.specs.WordText.{owner_read}
use Rattle.state_lines.proofs.Shown.{owner-told}

-- the page of a word of TDCS
page-of : (c at i : ℕ) → at ≡ 514 * c + 2 + i → i < 512 → c < 1024 → at / 514 % 65536 ≡ c
page-of c at i e short small = omega (arith, e, short, small)

first-of : (pages : Pages) (t : ℕ) (cs : List ℕ) → (length cs == 0) ≡ false → AreControls pages t cs → IsPageOf pages t (slice_index cs 0) kind.Tdcx
first-of pages t [] some h = (let n : (length {A = ℕ} [] == 0) ≡ true = refl in cc)
first-of pages t (c ∷ []) some h = h
first-of pages t (c ∷ r ∷ []) some h = h.0
first-of pages t (c ∷ r ∷ x ∷ cs) some h = absurd h

module _ (back : PackingsUndone) (f : Form) (o : Opening) (words : List ℕ) (s : State) (limits : IsMachine o.machine) (lawful : Lawful o.machine s.world) (shown : AreShown o.machine words s) where
  abbrev w : World
  w = s.world

  -- the TD of a lock whose word stands in its TDCS
  td-is : (t at i : ℕ) → TdStands w t → at ≡ 514 * slice_index (w.tds.controls t) 0 + 2 + i → i < 512 → owner_read words (at / 514 % 65536) ≡ t
  td-is t at i stands e short =
      let page = first-of w.pages t (w.tds.controls t) stands.has_tdcs (lawful.tds.controls t stands.alive) in
      let inside = lawful.pages.in_machine (slice_index (w.tds.controls t) 0) (ap (λ (k : PageKind). kind_number k == kind_number kind.Nda) page.kind) in
      ap (owner_read words) (page-of (slice_index (w.tds.controls t) 0) at i e short (omega (arith, inside, limits.pages)))
      ∙ (owner-told back o.machine words s limits lawful shown (slice_index (w.tds.controls t) 0) inside ∙ page.owner)

  lock-told : (m : Machine) (p : ℕ) (who : Holder) (h : HeldLock) (l : LockId) (mode : Mode) → h.mode ≡ mode → IsLockAt m w h.name h.at l → lock_read f words p who h ≡ held_line f p who (name_of l) (td_of_lock l) mode
  lock-told m p who h l mode same is = ap (λ (z : Mode). held_line f p who h.name (owner_read words (h.at / 514 % 65536)) z) same ∙ (ap (λ (n : LockName). held_line f p who n (owner_read words (h.at / 514 % 65536)) mode) is.name_is ∙ by l is)
    where
      by : (l : LockId) → IsLockAt m w h.name h.at l → held_line f p who (name_of l) (owner_read words (h.at / 514 % 65536)) mode ≡ held_line f p who (name_of l) (td_of_lock l) mode
      by (OfPage q) is = refl
      by (OfOp t) is = ap (λ (z : ℕ). held_line f p who name.Op z mode) (td-is t h.at TDCS_OP_LOCK is.stands is.at_is (omega arith))
      by (OfTree t) is = ap (λ (z : ℕ). held_line f p who name.Tree z mode) (td-is t h.at TDCS_TREE_LOCK is.stands is.at_is (omega arith))
      by (OfEpoch t) is = ap (λ (z : ℕ). held_line f p who name.Epoch z mode) (td-is t h.at TDCS_EPOCH_LOCK is.stands is.at_is (omega arith))
      by (OfRtmr t) is = ap (λ (z : ℕ). held_line f p who name.Rtmr z mode) (td-is t h.at TDCS_RTMR_LOCK is.stands is.at_is (omega arith))
      by OfKeys is = refl

  locks-told : (m : Machine) (p : ℕ) (who : Holder) (held : List HeldLock) (hs : List Held) → AreLocks m w held hs → locks_read f words p who held ≡ held_text f p who hs
  locks-told m p who held [] e = ap (locks_read f words p who) e
  locks-told m p who held (h ∷ hs) are =
      let older = are.0 in
      let x = are.1.0 in
      ap (locks_read f words p who) are.1.1
      ∙ (ap concat (map_push (lock_read f words p who) older x)
      ∙ (concat-append (map (lock_read f words p who) older) (lock_read f words p who x ∷ [])
      ∙ (ap (λ z. z ++ concat (lock_read f words p who x ∷ [])) (locks-told m p who older hs are.1.4)
      ∙ (ap (λ z. held_text f p who hs ++ z) (append-nil (lock_read f words p who x)) ∙ ap (λ z. held_text f p who hs ++ z) (lock-told m p who x h.lock h.mode are.1.2 are.1.3)))))

  step-told : (task : Task) (ws : WordPlace → ℕ) (p : ℕ) (run : Option Standing) (x : Progress (Option Outcome)) → IsStepRun task w ws run x → locks_read f words p holder.Guest (run_locks run) ≡ held_text f p holder.Guest x.held
  step-told task ws p None x e = sym (ap (λ (z : Progress (Option Outcome)). held_text f p holder.Guest z.held) e)
  step-told task ws p (Some r) x h = locks-told task.place.machine p holder.Guest r.held h.own.held h.at.held ∙ ap (λ (z : Progress (Option Outcome)). held_text f p holder.Guest z.held) h.is

  guest-told : (task : Task) (ws : WordPlace → ℕ) (p : ℕ) (g : Guest) (x : WordGuest) → IsGuestAt task w ws g x → guest_read f words p (Some x) ≡ guest_text f p (Some g)
  guest-told task ws p g x at =
      ap (λ (z : ℕ). guest_line f p z x.vp x.completed x.most ++ locks_read f words p holder.Guest (run_locks x.run)) (sym at.tdr)
      ∙ (ap (λ (z : ℕ). guest_line f p g.tdr z x.completed x.most ++ locks_read f words p holder.Guest (run_locks x.run)) (sym at.vp)
      ∙ (ap (λ (z : ℕ). guest_line f p g.tdr g.vp z x.most ++ locks_read f words p holder.Guest (run_locks x.run)) (sym at.completed)
      ∙ (ap (λ (z : ℕ). guest_line f p g.tdr g.vp g.completed z ++ locks_read f words p holder.Guest (run_locks x.run)) (sym at.most)
      ∙ ap (λ z. guest_line f p g.tdr g.vp g.completed g.most ++ z) (step-told task ws p x.run g.operation at.operation))))

  -- its locks and its guest
  pub record IsToldAs (p : ℕ) (lp : Lp) (run : Option Standing) (guest : Option WordGuest) : Type 0 where
    pub locks : locks_read f words p holder.Call (run_locks run) ≡ held_text f p holder.Call lp.call.held
    pub guest_is : guest_read f words p guest ≡ guest_text f p lp.guest

  run-told : (t : LeafTable) (p : ℕ) (ws : WordPlace → ℕ) (lp : Lp) (cs : List Call) (run : Option Standing) (guest : Option WordGuest) (rs : List Reply) (b : Beside) → RunStands o t p w ws lp cs run guest rs b → IsToldAs p lp run guest
  run-told t p ws lp cs None None rs b h = record {
    locks = sym (ap (λ (z : Progress Reply). held_text f p holder.Call z.held) h.call);
    guest_is = sym (ap (guest_text f p) h.guest);
  }
  run-told t p ws lp (c ∷ cs) (Some run) None rs b h = record {
    locks = locks-told (t.call c).place.machine p holder.Call run.held lp.call.held h.at.held;
    guest_is = sym (ap (guest_text f p) h.at.guest);
  }
  run-told t p ws lp (c ∷ cs) (Some line) (Some x) rs b h = record {
    locks = locks-told o.machine p holder.Call line.held lp.call.held h.held;
    guest_is = guest-told _ ws p h.guest x h.at ∙ sym (ap (guest_text f p) h.is_in);
  }
  run-told t p ws lp [] (Some run) None rs b h = absurd h
  run-told t p ws lp [] (Some run) (Some x) rs b h = absurd h
  run-told t p ws lp [] None (Some x) rs b h = absurd h
  run-told t p ws lp (c ∷ cs) None (Some x) rs b h = absurd h

  pub lp-told : (t : LeafTable) (p calls : ℕ) (ws : WordPlace → ℕ) (at : WordLp) → LpStands o t p w ws (s.lps p) at → lp_read f words p calls at ≡ lp_text f p calls (s.lps p)
  lp-told t p calls ws at h =
      let told = run-told t p ws (s.lps p) at.lines at.run at.guest at.replies at.beside h.run in
      let cached : at.beside.cached ≡ (s.lps p).cached = sym (ap (λ (b : Beside). b.cached) h.beside) in
      ap (λ (rs : List Reply). done_line f p (length rs) calls ++ (locks_read f words p holder.Call (run_locks at.run) ++ (guest_read f words p at.guest ++ concat (map (translation_line f p) at.beside.cached)))) (sym h.replies)
      ∙ (ap (λ z. done_line f p (length (s.lps p).replies) calls ++ (z ++ (guest_read f words p at.guest ++ concat (map (translation_line f p) at.beside.cached)))) told.locks
      ∙ (ap (λ z. done_line f p (length (s.lps p).replies) calls ++ (held_text f p holder.Call (s.lps p).call.held ++ (z ++ concat (map (translation_line f p) at.beside.cached)))) told.guest_is
      ∙ ap (λ (cs : List Translation). done_line f p (length (s.lps p).replies) calls ++ (held_text f p holder.Call (s.lps p).call.held ++ (guest_text f p (s.lps p).guest ++ concat (map (translation_line f p) cs)))) cached))
