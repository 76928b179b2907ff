-- Parts of an import behind conditions that hold where so many words were told.
use Rattle.std.proofs.Common.{◌≡◌, ℕ, zero, suc, ◌+◌, List, [], ◌∷◌, ◌++◌, length, Option, Result, Ok, Err, refl, subst, arith}
use Rattle.td_words.specs.declared.machines.Machine.{Machine}
use Rattle.td_words.specs.declared.replies.Value.TheVariants as value
use Rattle.td_words.specs.declared.replies.Reply.TheVariants.{Done}
use Rattle.flat_core.specs.Inputs.{Input}
use Rattle.leaf_engine.specs.declared.plans.Stop.{Stop}
use Rattle.mrtd_measure.specs.declared.measures.Measure.{Measure}
use Rattle.leaf_engine.specs.declared.needs.Write.{Write}
use Rattle.leaf_engine.specs.Changes.{Change}
use Rattle.leaf_engine.specs.Decides.{Ending, Decides, HandsAt}
use Rattle.leaf_engine.specs.Trees.{Tree}
use Rattle.leaf_parts.specs.Parts.{Goes}
use Rattle.import_states.specs.declared.sessions.Begun.{Begun}
use Rattle.import_states.specs.TdImportTrees.{td_import_changes, td_import_asked, td_import_end, DecidesOn}

-- one part after another behind them
pub goes-past : {A B : Type 0} (n : ℕ) (conditions : Tree → Tree) (before : List ℕ) → ((t : Tree) (r : Result Ending Stop) → Decides n t before r → Decides n (conditions t) before r)
    → (first : (A → Tree) → Tree) (second : A → (B → Tree) → Tree) (between after : List ℕ) (x : A) (r : Result B Stop)
    → Goes n first before between (Ok x) → Goes n (second x) between after r → Goes n (λ f. conditions (first (λ y. second y f))) before after r
goes-past n conditions before hold first second between after x (Ok y) a b = λ further v d. hold (first (λ z. second z further)) v (a (λ z. second z further) v (b further v d))
goes-past n conditions before hold first second between after x (Err e) a b = λ further. hold (first (λ z. second z further)) (Err e) (a (λ z. second z further) (Err e) (b further))

-- the decision of IMPORT.STATE.TD, by the conditions
pub begun-decides : (m : Machine) (x : Input) (tdr slot : ℕ) (before after : List ℕ) (r : Result Begun Stop) → Goes m.pages (λ f. td_import_asked m x tdr slot f) before after r → DecidesOn m x tdr slot before r
begun-decides m x tdr slot before after (Ok g) goes = goes (td_import_end x) (Ok (record { reply = Done value.Nothing; changes = td_import_changes x g })) (refl, refl)
begun-decides m x tdr slot before after (Err e) goes = goes (td_import_end x)

-- the change of a number that is behind these
pub hands-past : (m : Machine) (before cs : List Change) (number rest : ℕ) (h h' : Option Measure) (r : Option Write) → number ≡ length before + rest → HandsAt m cs rest h h' r → HandsAt m (before ++ cs) number h h' r
hands-past m [] cs number rest h h' r is a = (let same : rest ≡ number = omega (arith, is) in subst (λ (k : ℕ). HandsAt m cs k h h' r) same a)
hands-past m (c ∷ before) cs zero rest h h' r is a = absurd (omega (arith, is))
hands-past m (c ∷ before) cs (suc number) rest h h' r is a = hands-past m before cs number rest h h' r (omega (arith, is)) a
