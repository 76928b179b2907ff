-- A guest's next step, and what it makes of a reply, hang on no run.
use Rattle.std.proofs.Common.{◌≡◌, ℕ, zero, suc, Bool, true, false, List, Option, Some, refl, ap}
use Rattle.td_words.specs.declared.names.Access.{Access}
use Rattle.td_words.specs.declared.calls.GuestOp.{GuestOp}
use Rattle.td_words.specs.declared.refusals.Status.TheVariants.{OperandBusy}
use Rattle.td_words.specs.declared.replies.Value.TheVariants as value
use Rattle.td_words.specs.declared.replies.Reply.{Reply}
use Rattle.td_words.specs.declared.replies.Reply.TheVariants.{Done, Refused, Exited}
use Rattle.td_words.specs.declared.replies.Outcome.TheVariants.{Vmcall}
use Rattle.flat_core.specs.Processor.{nothing_yet, Translation}
use Rattle.leaf_engine.specs.Turns.{Standing}
use Rattle.leaf_engine.specs.Guests.{WordGuest, Step, Operates, Accesses, Loads, Leaves as Left, step_of, walked, is_right, stepped}
use Rattle.leaf_engine.proofs.Steps.{same-step}

pub step-same : (codes : ℕ → ℕ → List GuestOp) (ts : List Translation) (x : WordGuest) (run : Option Standing) → step_of codes ts (record x { run = run }) ≡ step_of codes ts x
step-same codes ts x run =
    same-step codes ts (record { tdr = x.tdr; vp = x.vp; most = x.most; completed = x.completed; operation = nothing_yet; walk = x.walk; leaving = x.leaving }) x.root x.index x.position run x.run x.leaving

walked-same : (access : Access) (gpa level rights : ℕ) (b : Bool) (x : WordGuest) (run : Option Standing) → walked access gpa level rights b (record x { run = run }) ≡ walked access gpa level rights b x
walked-same access gpa zero rights true x run = refl
walked-same access gpa (suc level) rights true x run = refl
walked-same access gpa zero rights false x run = refl
walked-same access gpa (suc level) rights false x run = refl

pub stepped-same : (step : Step) (r : Reply) (x : WordGuest) (run : Option Standing) → stepped step r (record x { run = run }) ≡ stepped step r x
stepped-same (Operates o) (Done v) x run = refl
stepped-same (Operates o) (Exited (Vmcall y)) x run = refl
stepped-same (Operates o) (Exited _) x run = refl
stepped-same (Operates o) (Refused (OperandBusy n)) x run = refl
stepped-same (Operates o) (Refused _) x run = refl
stepped-same (Accesses access r' gpa page) r x run = refl
stepped-same (Loads access gpa level page) (Done (value.Number rights)) x run = ap Some (walked-same access gpa level rights (is_right access level rights) x run)
stepped-same (Loads access gpa level page) (Done _) x run = refl
stepped-same (Loads access gpa level page) (Exited out) x run = refl
stepped-same (Loads access gpa level page) (Refused s) x run = refl
stepped-same (Left out) r x run = refl
