-- What the exports of states mean by their payloads, and by the locks that they hold.
use Rattle.std.proofs.Common.{◌≡◌, ℕ, zero, suc, ◌+◌, ◌<◌, ◌≤◌, true, ◌==◌, List, ◌∷◌, map, refl, arith}
use Rattle.std.specs.List.{range_with_len, list_any}
use Rattle.td_words.specs.declared.names.OpState.{OpState}
use Rattle.td_words.specs.declared.names.OpState.TheVariants as op
use Rattle.td_words.specs.declared.machines.Machine.{Machine}
use Rattle.td_words.specs.declared.replies.Reply.{Reply}
use Rattle.td_words.specs.NameNumber.{op_number}
use Rattle.td_words.specs.Place.{WordPlace}
use Rattle.flat_core.specs.BundleRows.{paused_ops}
use Rattle.flat_core.specs.Processor.{Held}
use Rattle.flat_core.specs.Row.{Item}
use Rattle.flat_core.specs.Lawful.{is_exporting}
use Rattle.word_rules.specs.Rules.{Whole}
use Rattle.leaf_engine.specs.Trees.{Tree, Load}
use Rattle.leaf_engine.specs.Means.{Instant, Means, Work}
use Rattle.leaf_parts.proofs.Told.{only-op}
use Rattle.access_core.specs.RtmrTrees.{with_words}

-- an export that is paused is one
pub paused-exports : (s : OpState) → list_any (λ a. op_number a == op_number s) paused_ops ≡ true → is_exporting s ≡ true
paused-exports s h = rw (only-op op.PausedExport s h) refl

-- the words of a payload are loaded one after another, where each of them may be
pub payload-means : (m : Machine) (c : Instant) (k : Work) (hs : List Held) (rest : List (Item Reply)) (at : ℕ → WordPlace) (said : ℕ → ℕ) (count : ℕ)
    → ((n : ℕ) → n < count → (f : ℕ → Tree) → Means m c k hs (f (said n)) rest → Means m c k hs (Load Whole (at n) f) rest)
    → (left n : ℕ) → n + left ≤ count → (further : List ℕ → Tree) → Means m c k hs (further (map said (range_with_len n left))) rest → Means m c k hs (with_words at n left further) rest
payload-means m c k hs rest at said count one zero n few further h = h
payload-means m c k hs rest at said count one (suc left) n few further h =
    one n (omega (arith, few)) (λ x. with_words at (n + 1) left (λ xs. further (x ∷ xs)))
    (payload-means m c k hs rest at said count one left (n + 1) (omega (arith, few)) (λ xs. further (said n ∷ xs)) h)
