-- What MEM.PAGE.ADD comes to part by part.
use Rattle.std.proofs.Common.{ℕ, [], ◌∷◌, List, Result, Ok, Err, subst}
use Rattle.td_words.specs.declared.names.EntryState.TheVariants as entry
use Rattle.td_words.specs.declared.machines.Machine.{Machine}
use Rattle.td_words.specs.declared.refusals.Status.TheVariants.{EptEntryStateIncorrect}
use Rattle.leaf_engine.specs.Trees.{Tree}
use Rattle.leaf_engine.specs.Decides.{Ending, Decides}
use Rattle.leaf_engine.specs.declared.plans.Stop.{Stop}
use Rattle.leaf_parts.specs.Arguments.{checked}
use Rattle.leaf_parts.specs.Parts.{Goes}
use Rattle.leaf_parts.proofs.Parts.{passes, refuses}
use Rattle.sept_parts.specs.declared.finds.Found.{Found}
use Rattle.sept_parts.specs.SeptTrees.{state_tree}
use Rattle.mem_build.specs.declared.page_additions.Given.{Given}
use Rattle.mem_build.specs.PageAddTrees.{addition_end, page_add_arguments, td_tree, page_add_tree}
use Rattle.mem_build.specs.PageAddParts.{is_free, TableOf}

-- the entry that was found
pub table-goes : (n : ℕ) (x : Found) (left : List ℕ) (r : Result ℕ Stop) → TableOf x r → Goes n (λ (f : ℕ → Tree). state_tree x.entry (entry.Free ∷ []) (f x.page)) left left r
table-goes n x left (Ok page) h = λ further v d. passes n (is_free x) (EptEntryStateIncorrect x.entry.state) (further x.page) left v h.0 (subst (λ (p : ℕ). Decides n (further p) left v) h.1 d)
table-goes n x left (Err e) h = λ further. refuses n (is_free x) (EptEntryStateIncorrect x.entry.state) (further x.page) left e h.0 h.1

-- behind the arguments
module _ (m : Machine) (g : Given) where
  abbrev allowed : (Unit {0} → Tree) → Tree
  allowed f = checked (page_add_arguments m g.tdr g.gpa g.page g.source) (f tt)

  abbrev of_td : Tree
  of_td = td_tree m.pages g.tdr g.gpa g.page g.source (λ a. addition_end m a)

  pub comes-not : (xs ys : List ℕ) (e : Stop) → Goes {A = Unit {0}} m.pages allowed xs ys (Err e) → Decides m.pages (page_add_tree m g.tdr g.gpa g.page g.source) xs (Err e)
  unfolding page_add_tree
  comes-not xs ys e h = h (λ u. of_td)

  pub comes : (xs ys : List ℕ) (r : Result Ending Stop) → Goes m.pages allowed xs ys (Ok tt) → Decides m.pages of_td ys r → Decides m.pages (page_add_tree m g.tdr g.gpa g.page g.source) xs r
  unfolding page_add_tree
  comes xs ys r goes more = goes (λ u. of_td) r more
