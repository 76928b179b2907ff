-- The extension of an RTMR by a guest as a decision over the words that it is told.
use Rattle.std.specs.Prelude.{ℕ, zero, suc, ◌+◌, ◌*◌, ◌<◌, List, [], ◌∷◌, ◌++◌, take, drop}
use Rattle.sha2.specs.Sha512.{sha384}
use Rattle.td_words.specs.declared.names.Mode.TheVariants.{Exclusive}
use Rattle.td_words.specs.declared.machines.Machine.{Machine}
use Rattle.td_words.specs.declared.places.TheConstants.{TDR_TDCS, TDCS_RTMR_LOCK, TDCS_RTMRS, VP_REGISTERS}
use Rattle.td_words.specs.declared.replies.Value.TheVariants as value
use Rattle.td_words.specs.declared.replies.Reply.TheVariants.{Done}
use Rattle.td_words.specs.Place.{WordPlace}
use Rattle.td_words.specs.Place as place
use Rattle.flat_core.specs.Processor.{OfRtmr, RtmrNote}
use Rattle.flat_core.specs.Digests.{digest_word, digest_bytes, six_words}
use Rattle.flat_core.specs.Guest.{extend_rtmr}
use Rattle.word_rules.specs.Rules.{Whole}
use Rattle.leaf_engine.specs.declared.needs.Place.{Place}
use Rattle.leaf_engine.specs.Changes.{Change, Put}
use Rattle.leaf_engine.specs.Trees.{Tree, Lock, Load, End}
use Rattle.leaf_engine.specs.Means.{Task, OfOperation, MeansRow}
use Rattle.leaf_parts.specs.Words.{page_told}
use Rattle.access_core.specs.OperationTrees.{with_position, put_next, with_notes}

-- words are loaded one after another, from that one on
abbrev pub with_words : (ℕ → WordPlace) → (from left : ℕ) → (List ℕ → Tree) → Tree
with_words at n zero further = further []
with_words at n (suc left) further = Load Whole (at n) (λ x. with_words at (n + 1) left (λ xs. further (x ∷ xs)))

-- the six words of an RTMR, in the TDCS page; and the registers of a virtual processor
abbrev pub rtmr_at : (tdcs index : ℕ) → ℕ → WordPlace
rtmr_at d i k = place.Word d (TDCS_RTMRS + (6 * i + k))

abbrev pub register_at : (vp : ℕ) → ℕ → WordPlace
register_at v r = place.Word v (VP_REGISTERS + r)

-- the new value's words, of the old one's and of registers 0 to 5
abbrev pub extension : (old registers : List ℕ) → ℕ → ℕ
extension old registers = digest_word (sha384 (digest_bytes old ++ digest_bytes registers))

-- six words are stored, then these
abbrev pub put_six : (ℕ → WordPlace) → (ℕ → ℕ) → List Change → List Change
put_six at ws rest = Put (at 0) (ws 0) ∷ Put (at 1) (ws 1) ∷ Put (at 2) (ws 2) ∷ Put (at 3) (ws 3) ∷ Put (at 4) (ws 4) ∷ Put (at 5) (ws 5) ∷ rest

-- its changes by what was told behind R: the old value's words, the registers, and the position
abbrev pub rtmr_changes : (vp index tdcs position : ℕ) → (told : List ℕ) → List Change
rtmr_changes v i d at told = put_six (rtmr_at d i) (extension (take 6 told) (take 6 (drop 6 told))) (put_next v at ∷ [])

-- the store of the first word is the act
abbrev pub extended : (vp line tdcs index position : ℕ) → (ℕ → ℕ) → Tree
extended v line d i at ws =
    End (with_notes (Done (value.Digest (digest_bytes (six_words ws)))) (RtmrNote line i (six_words ws) ∷ []) []) [] (put_six (rtmr_at d i) ws (put_next v at ∷ []))

-- under R of the TD alone
abbrev pub extend_held : (vp line index tdcs : ℕ) → Tree
extend_held v line i d =
    with_words (rtmr_at d i) 0 6 (λ old. with_words (register_at v) 0 6 (λ registers. with_position v (λ at. extended v line d i at (extension old registers))))

abbrev pub extend_at : (tdr vp line index tdcs : ℕ) → Tree
extend_at t v line i d = Lock (OfRtmr t) (place.Word d TDCS_RTMR_LOCK) Exclusive (extend_held v line i d)

-- rtmr I
abbrev pub rtmr_tree : Machine → (tdr vp line index : ℕ) → Tree
rtmr_tree m t v line i = Load Whole (place.Word t TDR_TDCS) (λ word. extend_at t v line i (page_told m.pages word))

abbrev pub rtmr_task : Place → (tdr vp line index : ℕ) → Task
rtmr_task p t v line i = record { place = p; tree = rtmr_tree p.machine t v line i; meaning = OfOperation t v (extend_rtmr t v line i) }

-- it means its row, where the RTMR is one of the four
abbrev pub RtmrMeans : Type 0
RtmrMeans = (p : Place) (t v line i : ℕ) → i < 4 → MeansRow (rtmr_task p t v line i)
