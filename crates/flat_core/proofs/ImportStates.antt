-- Operation states in which the rows of an import may begin: before IMPORT.COMMIT none of a TD that runs, or has run here.
use Rattle.std.proofs.Common.{◌≡◌, ◌≢◌, refl, Bool, true, false, ◌==◌}
use Rattle.std.specs.List.{list_any}
use Rattle.td_words.specs.declared.names.OpState.{OpState}
use Rattle.td_words.specs.declared.names.OpState.TheVariants as op
use Rattle.td_words.specs.NameNumber.{op_number}
use Rattle.flat_core.specs.Access.{has_not_run}
use Rattle.flat_core.specs.ImportRows.{first_ops, filling_ops, td_state_ops, commit_ops, given_up_ops, import_token_ops, op_then}

pub first_only : (s : OpState) → list_any (λ a. op_number a == op_number s) first_ops ≡ true → s ≡ op.Uninitialized
first_only op.Uninitialized h = refl
first_only _ h = cc

-- before IMPORT.COMMIT a TD hasn't run here
pub token_not_run : (start : Bool) (s : OpState) → list_any (λ a. op_number a == op_number s) (import_token_ops start) ≡ true → has_not_run s ≡ true
token_not_run true op.StateImport a = refl
token_not_run true _ a = cc
token_not_run false op.MemoryImport a = refl
token_not_run false op.StateImport a = refl
token_not_run false _ a = cc

pub td_state_not_run : (s : OpState) → list_any (λ a. op_number a == op_number s) td_state_ops ≡ true → has_not_run s ≡ true
td_state_not_run op.MemoryImport a = refl
td_state_not_run _ a = cc

pub commit_not_run : (s : OpState) → list_any (λ a. op_number a == op_number s) commit_ops ≡ true → has_not_run s ≡ true
commit_not_run op.PostImport a = refl
commit_not_run _ a = cc

pub given_up_not_run : (s : OpState) → list_any (λ a. op_number a == op_number s) given_up_ops ≡ true → has_not_run s ≡ true
given_up_not_run op.MemoryImport a = refl
given_up_not_run op.StateImport a = refl
given_up_not_run op.PostImport a = refl
given_up_not_run _ a = cc

pub filling_not_run : (s : OpState) → list_any (λ a. op_number a == op_number s) filling_ops ≡ true → has_not_run s ≡ true
filling_not_run op.MemoryImport a = refl
filling_not_run op.StateImport a = refl
filling_not_run _ a = cc

-- a token leaves no state from before MNG.INIT
pub token_later : (start : Bool) (s : OpState) → list_any (λ a. op_number a == op_number s) (import_token_ops start) ≡ true → op_then start s ≢ op.Uninitialized
token_later true s a = λ e. cc
token_later false op.Uninitialized a = cc
token_later false _ a = λ e. cc
