-- What the parts of MEM.PAGE.ADD tell one another.
use Rattle.std.specs.Prelude.{◌≡◌, ◌≢◌, ℕ, ◌<◌, Bool, true, false, [], ◌∷◌, Result, Ok, Err}
use Rattle.std.specs.List.{list_any}
use Rattle.td_words.specs.declared.names.EntryState.TheVariants as entry
use Rattle.td_words.specs.declared.refusals.Status.TheVariants.{EptEntryStateIncorrect}
use Rattle.td_words.specs.declared.replies.Reply.TheVariants.{Refused}
use Rattle.flat_core.specs.Tree.{same_state}
use Rattle.leaf_engine.specs.declared.plans.Stop.TheVariants as stop
use Rattle.sept_parts.specs.declared.finds.Found.{Found}
use Rattle.td_words.specs.declared.machines.Machine.{Machine}
use Rattle.leaf_engine.specs.declared.plans.Stop.{Stop}
use Rattle.mem_build.specs.declared.page_additions.Given.{Given}

-- what the argument rules tell of the pages
abbrev pub AreAllowed : Machine → Given → Type 0
AreAllowed m g = (g.tdr < m.pages) × (g.page < m.pages) × (g.source < m.pages) × (g.source ≢ g.page)

-- the entry that was found is FREE
abbrev pub is_free : Found → Bool
is_free f = list_any (λ s. same_state s f.entry.state) (entry.Free ∷ [])

abbrev pub TableOf : Found → Result ℕ Stop → Type 0
TableOf f (Ok page) = (is_free f ≡ true) × (page ≡ f.page)
TableOf f (Err e) = (is_free f ≡ false) × (e ≡ stop.Refused (Refused (EptEntryStateIncorrect f.entry.state)))
