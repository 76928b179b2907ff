-- A bundle that a call has passed has the form of one, and its type.
use Rattle.std.proofs.Common.{◌≡◌, ℕ, ◌==◌, Bool, true, false, List, [], ◌∷◌, Ok, refl, subst}
use Rattle.std.specs.List.{list_any}
use Rattle.td_words.specs.declared.names.HeaderField.TheVariants as field
use Rattle.td_words.specs.declared.refusals.Status.{Status}
use Rattle.td_words.specs.declared.refusals.Status.TheVariants.{NoBundle, BundleHeader}
use Rattle.td_words.specs.declared.replies.Reply.TheVariants.{Done}
use Rattle.td_words.specs.declared.replies.Value.TheVariants as value
use Rattle.flat_core.specs.Inputs.{Input, has_no_fault, fault_shown}
use Rattle.leaf_engine.specs.Trees.{Tree, needs, done}
use Rattle.leaf_engine.specs.Decides.{Ending, Decides}
use Rattle.leaf_parts.specs.Parts.{Goes}
use Rattle.import_parts.specs.InputTrees.{input_tree}
use Rattle.import_pages.specs.PageImportStages.{IsMemory}

-- a condition that was passed holds
abbrev over : Ending
over = record { reply = Done value.Nothing; changes = [] }

held : (n : ℕ) (b : Bool) (s : Status) (t : Tree) (xs : List ℕ) → Decides n (needs b s t) xs (Ok over) → (b ≡ true) × Decides n t xs (Ok over)
held n true s t xs d = (refl, d.0 refl)
held n false s t xs d = (let no = d.1 refl in cc)

pub is-memory : (n : ℕ) (x : Input) (slot : ℕ) (kinds before : List ℕ) → kinds ≡ 3 ∷ [] → Goes {A = Unit {0}} n (λ f. input_tree x slot kinds (f tt)) before before (Ok tt) → IsMemory x
is-memory n x slot kinds before is goes =
    let all : Decides n (input_tree x slot kinds (done [] [])) before (Ok over) = goes (λ u. done [] []) (Ok over) (refl, refl) in
    let typed : Tree = needs (list_any (λ k. k == x.header.kind) kinds) (BundleHeader field.Kind) (done [] []) in
    let first = held n x.there (NoBundle slot) (needs (has_no_fault x.fault) (BundleHeader (fault_shown x.fault)) typed) before all in
    let second = held n (has_no_fault x.fault) (BundleHeader (fault_shown x.fault)) typed before first.1 in
    let third = held n (list_any (λ k. k == x.header.kind) kinds) (BundleHeader field.Kind) (done [] []) before second.1 in
    (second.0, subst (λ (ks : List ℕ). list_any (λ k. k == x.header.kind) ks ≡ true) is third.0)
