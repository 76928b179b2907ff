-- What a leaf has to do hangs on the bundle of its call's own slot alone, and what a guest's step does on no bundle.
use Rattle.std.proofs.Common.{◌≡◌, refl, ap, ℕ, Option, Some, None}
use Rattle.td_words.specs.declared.calls.Call.{Call}
use Rattle.td_words.specs.declared.calls.Call.TheVariants as call
use Rattle.td_words.specs.declared.calls.GuestOp.{GuestOp}
use Rattle.td_words.specs.declared.calls.GuestOp.TheVariants as op
use Rattle.td_words.specs.Slots.{input_slot}
use Rattle.flat_core.specs.Opening.{Incoming}
use Rattle.leaf_engine.specs.declared.needs.Place.{Place}
use Rattle.leaf_engine.specs.Guests.{Step, Operates, Accesses, Loads, Leaves}
use Rattle.import_core.specs.TokenTrees.{import_token_task}
use Rattle.import_core.specs.TokenAbortTrees.{abort_by_token_task}
use Rattle.import_pages.specs.PageImportTrees.{page_import_task}
use Rattle.import_states.specs.BeginImportTrees.{import_immutable_task}
use Rattle.import_states.specs.TdImportTrees.{import_td_task}
use Rattle.import_states.specs.VpImportTrees.{import_vp_task}
use Rattle.leaf_table.specs.Given.{Given}
use Rattle.leaf_table.specs.Table.{task_of, operation_task, step_task}

pub tasks-take : (g h : Given) (p : Place) (c : Call) → ((slot : ℕ) → input_slot c ≡ Some slot → h.bundles slot ≡ g.bundles slot) → task_of h p c ≡ task_of g p c
tasks-take g h p (call.ExportAbortByToken tdr slot) same = ap (λ (b : Option Incoming). abort_by_token_task p b tdr slot) (same slot refl)
tasks-take g h p (call.ImportStateImmutable tdr slot) same = ap (λ (b : Option Incoming). import_immutable_task p b tdr slot) (same slot refl)
tasks-take g h p (call.ImportMem tdr slot page) same = ap (λ (b : Option Incoming). page_import_task p b tdr slot page None) (same slot refl)
tasks-take g h p (call.ImportTrack tdr slot) same = ap (λ (b : Option Incoming). import_token_task p b tdr slot) (same slot refl)
tasks-take g h p (call.ImportStateTd tdr slot) same = ap (λ (b : Option Incoming). import_td_task p b tdr slot) (same slot refl)
tasks-take g h p (call.ImportStateVp tdr vp slot) same = ap (λ (b : Option Incoming). import_vp_task p b tdr vp slot) (same slot refl)
tasks-take g h p _ same = refl

operations-same : (g h : Given) → h.secrets ≡ g.secrets → (p : Place) (t v line : ℕ) (o : GuestOp) → operation_task h p t v line o ≡ operation_task g p t v line o
operations-same g h e p t v line (op.Secret r k) = ap (λ (f : ℕ → ℕ). operation_task (record g { secrets = f }) p t v line (op.Secret r k)) e
operations-same g h e p t v line _ = refl

pub steps-same : (g h : Given) → h.secrets ≡ g.secrets → (p : Place) (t v line : ℕ) (s : Step) → step_task h p t v line s ≡ step_task g p t v line s
steps-same g h e p t v line (Operates o) = operations-same g h e p t v line o
steps-same g h e p t v line (Accesses access r gpa page) = refl
steps-same g h e p t v line (Loads access gpa level page) = refl
steps-same g h e p t v line (Leaves out) = refl
