-- The extension of a TD's measurement by a chunk as a decision over the words that it is told.
use Rattle.std.specs.Prelude.{◌≡◌, ℕ, zero, suc, ◌+◌, ◌%◌, ◌^◌, ◌==◌, nat_lt, Some, None, List, [], ◌∷◌, ◌++◌, Result, Ok, Err}
use Rattle.td_words.specs.declared.names.EntryState.TheVariants as entry
use Rattle.td_words.specs.declared.names.OpState.TheVariants as op
use Rattle.td_words.specs.declared.names.Mode.TheVariants.{Shared, Exclusive}
use Rattle.td_words.specs.declared.machines.Machine.{Machine}
use Rattle.td_words.specs.declared.places.TheConstants.{TDR_HKID}
use Rattle.td_words.specs.declared.refusals.Status.TheVariants.{OperandInvalid}
use Rattle.td_words.specs.declared.replies.Value.TheVariants as value
use Rattle.td_words.specs.declared.replies.Reply.TheVariants.{Done}
use Rattle.td_words.specs.Place as place
use Rattle.mrtd_measure.specs.Records.{chunk_records}
use Rattle.flat_core.specs.Digests.{digest_bytes}
use Rattle.flat_core.specs.MemRows.{extend}
use Rattle.flat_core.specs.Processor.{OfPage}
use Rattle.flat_core.specs.Tree.{word_of_gpa}
use Rattle.word_rules.specs.Rules.{Whole}
use Rattle.leaf_engine.specs.declared.needs.Place.{Place}
use Rattle.leaf_engine.specs.declared.plans.Stop.{Stop}
use Rattle.leaf_engine.specs.Changes.{Hand, Change, Swap, changes_where}
use Rattle.leaf_engine.specs.Decides.{Decides}
use Rattle.leaf_engine.specs.Trees.{Tree, Lock, Load, needs, acts, feed}
use Rattle.leaf_engine.specs.Means.{Task, OfCall}
use Rattle.leaf_parts.specs.Words.{is_hkid}
use Rattle.leaf_parts.specs.Heads.{td_head_tree}
use Rattle.sept_parts.specs.SeptTrees.{tree_lock_tree, find_tree, state_tree}
use Rattle.mem_build.specs.declared.extensions.Chunk.{Chunk}

-- the hasher in hand measures the chunk at a GPA that has these words
abbrev pub with_chunk : (gpa : ℕ) → List ℕ → Hand → Hand
with_chunk gpa words None = None
with_chunk gpa words (Some bytes) = Some (bytes ++ chunk_records gpa (digest_bytes words))

-- the hasher is taken out of its slot, which is the act; it measures the chunk, and is put back
abbrev pub measure_changes : (gpa hkid : ℕ) → List ℕ → List Change
measure_changes gpa h words = Swap h (λ hand. None) ∷ Swap h (with_chunk gpa words) ∷ []

abbrev pub extend_changes : Machine → (gpa hkid : ℕ) → List ℕ → List Change
extend_changes m gpa h words = changes_where (is_hkid m h) (measure_changes gpa h words)

-- so many words of a page from one on, behind those before them
unfoldable pub words_tree : (page at left : ℕ) → List ℕ → (List ℕ → Tree) → Tree
words_tree page at zero seen further = further seen
words_tree page at (suc left) seen further = Load Whole (place.Word page at) (λ word. words_tree page (at + 1) left (seen ++ word ∷ []) further)

-- the end, once all words are told
abbrev pub measure_tree : Machine → (gpa hkid : ℕ) → List ℕ → Tree
measure_tree m gpa hkid words = acts (Done value.Nothing) (extend_changes m gpa hkid words)

-- from that word on, with those told before it
abbrev pub chunk_tree : Machine → (gpa page hkid at left : ℕ) → List ℕ → Tree
chunk_tree m gpa page hkid at left seen = words_tree page at left seen (measure_tree m gpa hkid)

-- the page that is mapped at a GPA, which is held
abbrev pub mapped_tree : (pages t tdcs gpa : ℕ) → (ℕ → Tree) → Tree
mapped_tree pages t tdcs gpa further =
    tree_lock_tree t tdcs Shared
    (find_tree pages t gpa 0 (λ f.
    state_tree f.entry (entry.Mapped ∷ [])
    (Lock (OfPage f.entry.page) (place.Lock f.entry.page) Shared (further f.entry.page))))

-- the TD's HKID is told, and then the 32 words of the chunk
abbrev pub measured_tree : Machine → (tdr gpa page : ℕ) → Tree
measured_tree m tdr gpa page = Load Whole (place.Word tdr TDR_HKID) (λ hkid. chunk_tree m gpa page hkid (word_of_gpa gpa) 32 [])

-- behind the arguments
abbrev pub conditions_tree : Machine → (tdr gpa : ℕ) → Tree
conditions_tree m tdr gpa = td_head_tree m.pages tdr Exclusive (op.Initialized ∷ []) (λ td. mapped_tree m.pages tdr td.tdcs gpa (measured_tree m tdr gpa))

abbrev pub extend_tree : Machine → (tdr gpa : ℕ) → Tree
extend_tree m tdr gpa =
    needs (nat_lt tdr m.pages) (OperandInvalid 1)
    (needs (nat_lt gpa (2 ^ 47)) (OperandInvalid 2)
    (needs (gpa % 256 == 0) (OperandInvalid 2)
    (conditions_tree m tdr gpa)))

abbrev pub extend_task : Place → (tdr gpa : ℕ) → Task
extend_task p tdr gpa = record { place = p; tree = extend_tree p.machine tdr gpa; meaning = OfCall (extend p.machine tdr gpa) }

-- what it comes to after these answers, of which those are left: the words of a chunk, or what stops it
abbrev pub ComesTo : Place → (tdr gpa : ℕ) → (told left : List ℕ) → Result Chunk Stop → Type 0
ComesTo p tdr gpa told left (Ok c) = feed (extend_tree p.machine tdr gpa) told ≡ feed (chunk_tree p.machine gpa c.page c.hkid (word_of_gpa gpa) 32 []) left
ComesTo p tdr gpa told left (Err e) = Decides p.machine.pages (extend_tree p.machine tdr gpa) told (Err e)
