-- Code against trees: the need that a tree comes to, the decision that it takes, and the writes that its changes are.
use Rattle.std.specs.Prelude.{◌≡◌, ℕ, zero, suc, ◌-◌, true, false, Option, Some, None, List, [], ◌∷◌, ◌++◌, Result, Ok, Err, MatchOption, MatchResult}
use Rattle.td_words.specs.declared.replies.Value.TheVariants as value
use Rattle.td_words.specs.declared.replies.Reply.{Reply}
use Rattle.td_words.specs.declared.replies.Reply.TheVariants.{Done}
use Rattle.td_words.specs.Place.{address}
use Rattle.flat_core.specs.Processor.{name_of}
use Rattle.sha2.specs.Hashers.{Holds384}
use Rattle.td_words.specs.declared.machines.Machine.{Machine}
use Rattle.mrtd_measure.specs.declared.measures.Measure.{Measure}
use Rattle.step_core.specs.declared.steps.WordStep.TheVariants as step
use Rattle.leaf_engine.specs.declared.needs.Need.{Need}
use Rattle.leaf_engine.specs.declared.needs.Need.TheVariants as need
use Rattle.leaf_engine.specs.declared.needs.Write.{Write}
use Rattle.leaf_engine.specs.declared.needs.Write.TheVariants as write
use Rattle.leaf_engine.specs.declared.plans.Stop.{Stop}
use Rattle.leaf_engine.specs.declared.plans.Stop.TheVariants as stop
use Rattle.leaf_engine.specs.declared.plans.Act.{Act}
use Rattle.leaf_engine.specs.declared.plans.Verdict.{Verdict}
use Rattle.word_rules.specs.Views.{look}
use Rattle.leaf_engine.specs.Changes.{Hand, Change, Put, PutHash, Raise, Clear, Copy, Swap}
use Rattle.leaf_engine.specs.Trees.{Tree, Lock, Load, Test, End, Since, feed, changes_of}
use Rattle.leaf_engine.specs.Inside.{WriteInside}

-- a change as it is made in a machine of so many pages, with this hasher in hand. HKID h has slot h - 1
abbrev pub write_of : ℕ → Hand → Change → Write
write_of n hand (Put q x) = write.Word (step.Store (address n q) x)
write_of n hand (PutHash q x) = write.Word (step.Store (address n q) (x hand))
write_of n hand (Raise q more) = write.Word (step.Add (address n q) more)
write_of n hand (Clear p) = write.Zero p
write_of n hand (Copy p q) = write.Copy p q
write_of n hand (Swap h made) = write.Swap (h - 1)

-- what is in hand when it is made: what a swap puts into the slot is made first
abbrev pub hand_for : Hand → Change → Hand
hand_for hand (Swap h made) = made hand
hand_for hand _ = hand

-- what a plan ends with: its reply, and all its changes in order
pub record Ending : Type 0 where
  pub reply : Reply
  pub changes : List Change

-- a decision as the end that it comes to, where an act has these changes
abbrev pub ending : (Act → List Change) → Result Verdict Stop → Result Ending Stop
ending changes (Ok v) = Ok (record { reply = v.reply; changes = changes v.act })
ending changes (Err e) = Err e

-- the decision that a tree takes after these answers. What else its answer has, the tree alone says
abbrev pub Decides : ℕ → Tree → List ℕ → Result Ending Stop → Type 0
Decides n (Lock l q m t) [] r = r ≡ Err (stop.Lock (name_of l) (address n q) m)
Decides n (Lock l q m t) (x ∷ xs) r = Decides n t xs r
Decides n (Load v q k) [] r = r ≡ Err (stop.Load (address n q))
Decides n (Load v q k) (x ∷ xs) r = Decides n (k (look v x)) xs r
Decides n (Test b out t) xs r = (b ≡ true → Decides n t xs r) × (b ≡ false → r ≡ Err (stop.Refused out))
Decides n (End a fs cs) xs r = MatchResult r (λ v. (a.reply ≡ v.reply) × (v.changes ≡ fs ++ cs)) (λ e. ⊥)
Decides n (Since a cs) xs r = MatchResult r (λ v. (a.reply ≡ v.reply) × (v.changes ≡ cs)) (λ e. ⊥)

-- all is told, of a leaf that answers nothing, or what comes next
abbrev pub DecidesAs : (pages : ℕ) → Tree → (told : List ℕ) → Result (Unit {0}) Stop → Type 0
DecidesAs n tree told (Ok u) = Decides n tree told (Ok (record { reply = Done value.Nothing; changes = changes_of (feed tree told) }))
DecidesAs n tree told (Err e) = Decides n tree told (Err e)

-- the need that a tree with its conditions tested comes to
abbrev pub Wants : ℕ → Tree → Need → Type 0
Wants n (Lock l q m t) r = r ≡ need.Lock (name_of l) (address n q) m
Wants n (Load v q k) r = r ≡ need.Load (address n q)
Wants n (Test b out t) r = ⊥
Wants n (End a fs cs) r = r ≡ need.Verdict a.reply
Wants n (Since a cs) r = r ≡ need.Verdict a.reply

-- the need of a decision
abbrev pub need_for : Result Ending Stop → Need
need_for (Ok v) = need.Verdict v.reply
need_for (Err (stop.Lock name at mode)) = need.Lock name at mode
need_for (Err (stop.Load at)) = need.Load at
need_for (Err (stop.Refused reply)) = need.Verdict reply

-- the answers once it was given: a lock counts as granted
abbrev pub told_then : List ℕ → Stop → List ℕ
told_then xs (stop.Lock name at mode) = xs ++ 0 ∷ []
told_then xs (stop.Load at) = xs
told_then xs (stop.Refused reply) = xs

-- a hasher that has measured these bytes
abbrev pub IsHand : Option Measure → Hand → Type 0
IsHand None None = Unit {0}
IsHand (Some h) (Some bytes) = Holds384 h bytes
IsHand _ _ = ⊥

-- a change is handed out as this write, with the hasher in hand before and then
abbrev pub HandsOut : Machine → Change → (before then_ : Option Measure) → Write → Type 0
HandsOut m c h h' w = (hand : Hand) → IsHand h hand → (w ≡ write_of m.pages hand c) × IsHand h' (hand_for hand c)

-- the next change, if there is one
abbrev pub HandsNext : Machine → (before after : List Change) → (h h' : Option Measure) → Option Write → Type 0
HandsNext m before after h h' None = (before ≡ []) × (after ≡ []) × (h' ≡ h)
HandsNext m before after h h' (Some w) = (c : Change) × (before ≡ c ∷ after) × WriteInside m w × HandsOut m c h h' w

-- the change of that number, if there is one
abbrev pub HandsAt : Machine → List Change → (number : ℕ) → (h h' : Option Measure) → Option Write → Type 0
HandsAt m [] k h h' r = (r ≡ None) × (h' ≡ h)
HandsAt m (c ∷ cs) zero h h' r = MatchOption r ⊥ (λ w. WriteInside m w × HandsOut m c h h' w)
HandsAt m (c ∷ cs) (suc k) h h' r = HandsAt m cs k h h' r
