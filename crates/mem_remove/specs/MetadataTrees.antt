-- The look at a page's metadata as a decision over the words that it is told.
use Rattle.std.specs.Prelude.{ℕ, nat_lt}
use Rattle.td_words.specs.declared.names.Mode.TheVariants.{Shared}
use Rattle.td_words.specs.declared.machines.Machine.{Machine}
use Rattle.td_words.specs.declared.refusals.Status.TheVariants.{OperandInvalid}
use Rattle.td_words.specs.declared.replies.Reply.TheVariants.{Done}
use Rattle.td_words.specs.Place as place
use Rattle.td_words.specs.Packing.{pamt_in}
use Rattle.flat_core.specs.Processor.{OfPage}
use Rattle.flat_core.specs.HostRows.{read_metadata}
use Rattle.word_rules.specs.Rules.{Whole}
use Rattle.leaf_engine.specs.declared.needs.Place.{Place}
use Rattle.leaf_engine.specs.Trees.{Tree, Lock, Load, needs, answers}
use Rattle.leaf_engine.specs.Means.{Task, OfCall}
use Rattle.mem_remove.specs.Words.{metadata}

-- PHYMEM.PAGE.RDMD: the load of the PAMT word is the act
abbrev pub rdmd_tree : Machine → ℕ → Tree
rdmd_tree m page =
    needs (nat_lt page m.pages) (OperandInvalid 1)
    (Lock (OfPage page) (place.Lock page) Shared
    (Load Whole (place.Pamt page) (λ pamt. answers (Done (metadata (pamt_in pamt))))))

abbrev pub rdmd_task : Place → ℕ → Task
rdmd_task p page = record { place = p; tree = rdmd_tree p.machine page; meaning = OfCall (read_metadata p.machine page) }
