-- The host's plain memory accesses as decisions over the words that they are told.
use Rattle.std.specs.Prelude.{ℕ, Bool, if◌then◌else◌, nat_lt, [], ◌∷◌}
use Rattle.td_words.specs.declared.names.Mode.TheVariants.{Shared}
use Rattle.td_words.specs.declared.machines.Machine.{Machine}
use Rattle.td_words.specs.declared.refusals.Status.TheVariants.{OperandInvalid, NotHost}
use Rattle.td_words.specs.declared.replies.Value.TheVariants as value
use Rattle.td_words.specs.declared.replies.Reply.TheVariants.{Done}
use Rattle.td_words.specs.Place as place
use Rattle.flat_core.specs.Processor.{OfPage}
use Rattle.flat_core.specs.HostRows.{host_read, host_write}
use Rattle.word_rules.specs.Rules.{Whole}
use Rattle.leaf_engine.specs.declared.needs.Place.{Place}
use Rattle.leaf_engine.specs.Changes.{Put}
use Rattle.leaf_engine.specs.Trees.{Tree, Lock, Load, needs, answers, acts}
use Rattle.leaf_engine.specs.Means.{Task, OfCall}
use Rattle.leaf_parts.specs.Words.{says_host}

-- the arguments, the page's lock and its PAMT word
abbrev pub host_access : Machine → (page i : ℕ) → (ℕ → Tree) → Tree
host_access m page i further =
    needs (nat_lt page m.pages) (OperandInvalid 1)
    (needs (nat_lt i 512) (OperandInvalid 2)
    (Lock (OfPage page) (place.Lock page) Shared
    (Load Whole (place.Pamt page) further)))

-- HOST.READ: of a host page the load of the word is the act
abbrev pub read_word : (page i : ℕ) → Bool → Tree
read_word page i host =
    if host then Load Whole (place.Word page i) (λ word. answers (Done (value.Number word))) else answers (Done (value.Number 0))

abbrev pub host_read_tree : Machine → ℕ → ℕ → Tree
host_read_tree m page i = host_access m page i (λ pamt. read_word page i (says_host pamt))

-- HOST.WRITE: the store of the word is the act
abbrev pub host_write_tree : Machine → ℕ → ℕ → ℕ → Tree
host_write_tree m page i v =
    host_access m page i (λ pamt. needs (says_host pamt) NotHost (acts (Done value.Nothing) (Put (place.Word page i) v ∷ [])))

abbrev pub host_read_task : Place → ℕ → ℕ → Task
host_read_task p page i = record { place = p; tree = host_read_tree p.machine page i; meaning = OfCall (host_read p.machine page i) }

abbrev pub host_write_task : Place → ℕ → ℕ → ℕ → Task
host_write_task p page i v = record { place = p; tree = host_write_tree p.machine page i v; meaning = OfCall (host_write p.machine page i v) }
