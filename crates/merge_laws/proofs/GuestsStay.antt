-- A processor stays in its guest, whatever others do.
use Rattle.std.proofs.Common.{◌≡◌, ◌⊎◌, ℕ, ◌<◌, Bool, true, false, List, ◌∷◌, length, Option, Some, None, refl, ap, sym, ◌∙◌, subst, inl, inr}
use Rattle.std.specs.Prelude.{slice_index}
use Rattle.td_words.specs.declared.calls.Call.{Call}
use Rattle.td_words.specs.declared.replies.Reply.{Reply}
use Rattle.td_words.specs.declared.names.LockName.TheVariants as name
use Rattle.td_words.specs.Place.{WordPlace, lock_place}
use Rattle.flat_core.specs.World.{World}
use Rattle.flat_core.specs.Processor.{OfOp, OfEpoch, Held, Guest, new_guest}
use Rattle.flat_core.specs.Opening.{Opening}
use Rattle.flat_core.specs.Event.{State, lines_left}
use Rattle.flat_core.specs.Guests.{guest_locks, entry_locks}
use Rattle.flat_core.specs.Inside.{InGuest, LineAt}
use Rattle.flat_core.specs.Inside as inside
use Rattle.lock_words.specs.LockWords.{place_of, HeldStand}
use Rattle.leaf_engine.specs.Turns.{Standing}
use Rattle.leaf_engine.specs.Besides.{Beside, beside_of}
use Rattle.leaf_engine.specs.Guests.{WordGuest, gives_epoch_back}
use Rattle.leaf_engine.specs.OwnLists.{step_leaf}
use Rattle.leaf_engine.specs.Means.{LocksStay}
use Rattle.leaf_engine.specs.Standing.{position_at, IsStepRun}
use Rattle.leaf_engine.proofs.Calling.{locks-after}
use Rattle.leaf_engine.proofs.GuestThen.{position_of}
use Rattle.leaf_engine.proofs.Processing.{stage-position}
use Rattle.merge_laws.proofs.Staying.{GuestStays}
use Rattle.merge_laws.proofs.Standing.{Trees, table_for, task_for, AreTrees, Known, Does, RunsAt, InGuestAt, step_does, DoesHere}
use Rattle.merge_laws.proofs.Inside.{seen-is, step-here}

-- the locks of VP.ENTER stay where they are while the TD's control pages do
guest-stays : (w w' : World) (t v : ℕ) (hs : List Held) → w'.tds.controls t ≡ w.tds.controls t → HeldStand w' hs → (hs ≡ guest_locks t v) ⊎ (hs ≡ entry_locks t v) → LocksStay w w' hs
guest-stays w w' t v hs same stand at = by at stand
  where
    op : place_of w' (OfOp t) ≡ place_of w (OfOp t)
    op = ap (λ (cs : List ℕ). lock_place (slice_index cs 0) name.Op) same

    epoch : place_of w' (OfEpoch t) ≡ place_of w (OfEpoch t)
    epoch = ap (λ (cs : List ℕ). lock_place (slice_index cs 0) name.Epoch) same

    inner : HeldStand w' (guest_locks t v) → LocksStay w w' (guest_locks t v)
    inner st = ((refl, λ z. st.0), ((op, λ z. st.1.0), ((refl, λ z. st.1.1.0), tt)))

    by : (hs ≡ guest_locks t v) ⊎ (hs ≡ entry_locks t v) → HeldStand w' hs → LocksStay w w' hs
    by (inl e) = subst (λ (z : List Held). HeldStand w' z → LocksStay w w' z) (sym e) inner
    by (inr e) = subst (λ (z : List Held). HeldStand w' z → LocksStay w w' z) (sym e) (λ (st : HeldStand w' (entry_locks t v)). ((epoch, λ z. st.0), inner st.1))

module _ (o : Opening) (trees : Trees) (s : State) (p : ℕ) (c : Call) (cs : List Call) (line : Standing) (x : WordGuest) (rs : List Reply) (b : Beside) (are : AreTrees o trees) (known : Known o s) (i : p < length o.calls) (lines : lines_left o p (s.lps p) ≡ c ∷ cs)
    (replies : (s.lps p).replies ≡ rs) (beside : beside_of (s.lps p) b.bundles ≡ b) (w' : World) (words words' : WordPlace → ℕ) (a : InGuestAt o trees p s.world words (s.lps p) line x rs b) (gs : GuestStays s.world w' a.guest.tdr a.guest.vp) (stand : HeldStand w' (s.lps p).call.held)
    (stays : (d : Does) (run : Standing) → DoesHere o s p d → RunsAt (task_for o p d) d.far s.world words run → RunsAt (task_for o p d) d.far w' words' run) where
  ing : InGuest o s.world p c (s.lps p) a.guest
  ing = subst (λ (z : Option Guest). LineAt o s.world p c (s.lps p) z) a.is_in (subst (λ (z : List Call). inside.StandsAt o s.world p z (s.lps p)) lines (known.guarded.timely.each p))

  its-locks : InGuest o s.world p c (s.lps p) a.guest → ((s.lps p).call.held ≡ guest_locks a.guest.tdr a.guest.vp) ⊎ ((s.lps p).call.held ≡ entry_locks a.guest.tdr a.guest.vp)
  its-locks z = by z.locks
    where
      by : ((s.lps p).call.held ≡ guest_locks a.guest.tdr a.guest.vp) ⊎ (((s.lps p).call.held ≡ entry_locks a.guest.tdr a.guest.vp) × (a.guest ≡ new_guest (record { tdr = a.guest.tdr; vp = a.guest.vp; most = a.guest.most })))
          → ((s.lps p).call.held ≡ guest_locks a.guest.tdr a.guest.vp) ⊎ ((s.lps p).call.held ≡ entry_locks a.guest.tdr a.guest.vp)
      by (inl y) = inl y
      by (inr y) = inr y.0

  controls : w'.tds.controls x.tdr ≡ s.world.tds.controls x.tdr
  controls = subst (λ (z : ℕ). w'.tds.controls z ≡ s.world.tds.controls z) a.at.tdr gs.controls

  positions : w'.vps.positions x.vp ≡ s.world.vps.positions x.vp
  positions = subst (λ (z : ℕ). w'.vps.positions z ≡ s.world.vps.positions z) a.at.vp gs.position

  indexes : w'.vps.indexes x.vp ≡ s.world.vps.indexes x.vp
  indexes = subst (λ (z : ℕ). w'.vps.indexes z ≡ s.world.vps.indexes z) a.at.vp gs.index

  freed-by : (v : Bool) → gives_epoch_back line.held ≡ v → (r : Standing) → x.run ≡ Some r → gives_epoch_back line.held ≡ false
  freed-by false e r is = e
  freed-by true e r is = (let no : None ≡ Some r = sym (a.waits e) ∙ is in cc)

  far-stays : (run : Option Standing) → x.run ≡ run → IsStepRun (step_leaf (table_for o trees p) x rs b) s.world words run a.guest.operation → IsStepRun (step_leaf (table_for o trees p) x rs b) w' words' run a.guest.operation
  far-stays None is f = f
  far-stays (Some r) is f =
      let place : s.world.vps.positions a.guest.vp ≡ position_of x.position f.own.phase =
      ap s.world.vps.positions a.at.vp ∙ (a.at.position ∙ (ap (position_at x.position) is ∙ stage-position o.machine s.world x.position r.stage f.own.phase f.at.stage)) in
      let here = step-here o trees s p c cs line x rs b a.guest f.own are known i lines replies beside a.is_in (seen-is (step_leaf (table_for o trees p) x rs b) s.world words a.guest x x.run a.at) f.is place f.single a.held (freed-by (gives_epoch_back line.held) refl r is) r f.at.stage in
      let ra = stays (step_does o trees p (s.lps p) f.own c cs line x rs b) r here (record { at = f.at; trying = f.waits }) in
      record { own = f.own; is = f.is; at = ra.at; waits = ra.trying; single = f.single; answers = f.answers }

  pub in-guest-stays : InGuestAt o trees p w' words' (s.lps p) line x rs b
  in-guest-stays = record {
    guest = a.guest;
    is_in = a.is_in;
    at = record {
      tdr = a.at.tdr;
      vp = a.at.vp;
      most = a.at.most;
      completed = a.at.completed;
      walk = a.at.walk;
      leaving = a.at.leaving;
      root = ap (λ (z : List ℕ). slice_index z 1) controls ∙ a.at.root;
      index = indexes ∙ a.at.index;
      position = positions ∙ a.at.position;
      operation = far-stays x.run refl a.at.operation;
    };
    reply = a.reply;
    answered = a.answered;
    held = locks-after o.machine s.world w' (s.lps p).call.held line.held (guest-stays s.world w' a.guest.tdr a.guest.vp (s.lps p).call.held gs.controls stand (its-locks ing)) a.held;
    waits = a.waits;
  }
