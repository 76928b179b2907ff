-- What leaves ask for and store at is in their machine, and they ask for so much and no more.
use Rattle.std.specs.Prelude.{◌≢◌, ℕ, ◌<◌, ◌≤◌, Bool, true, false, Result, Ok, Err}
use Rattle.td_words.specs.declared.machines.Machine.{Machine}
use Rattle.step_core.specs.Words.{word_count, address_of}
use Rattle.leaf_engine.specs.declared.needs.Need.{Need}
use Rattle.leaf_engine.specs.declared.needs.Need.TheVariants as need
use Rattle.leaf_engine.specs.declared.needs.Write.{Write}
use Rattle.leaf_engine.specs.declared.needs.Write.TheVariants as write
use Rattle.leaf_engine.specs.declared.plans.Stop.{Stop}
use Rattle.leaf_engine.specs.declared.plans.Stop.TheVariants as stop
use Rattle.leaf_engine.specs.declared.plans.Act.{Act}
use Rattle.leaf_engine.specs.declared.plans.Verdict.{Verdict}

abbrev pub NeedInside : Machine → Need → Type 0
NeedInside m (need.Load at) = at < word_count m
NeedInside m (need.Lock name at mode) = at < word_count m
NeedInside m (need.Verdict reply) = Unit {0}

abbrev pub WriteInside : Machine → Write → Type 0
WriteInside m (write.Word s) = address_of s < word_count m
WriteInside m (write.Zero p) = p < m.pages
WriteInside m (write.Copy p q) = (p < m.pages) × (q < m.pages) × (p ≢ q)
WriteInside m (write.Swap slot) = slot < m.hkids

-- what stops a decision
abbrev pub StopIn : Machine → Stop → Type 0
StopIn m (stop.Load at) = at < word_count m
StopIn m (stop.Lock name at mode) = at < word_count m
StopIn m (stop.Refused reply) = Unit {0}

-- a decision: what stops it, or what its conditions have shown of its act
abbrev pub DecisionIn : Machine → (Act → Type 0) → Result Verdict Stop → Type 0
DecisionIn m Shown (Ok v) = Shown v.act
DecisionIn m Shown (Err e) = StopIn m e

-- where a decision wants more, it was told less than so many words
abbrev pub StopEarly : (most told : ℕ) → Stop → Type 0
StopEarly most told (stop.Load at) = told < most
StopEarly most told (stop.Lock name at mode) = told < most
StopEarly most told (stop.Refused reply) = Unit {0}

-- where it wants a lock, less than so many, and where it wants a word, less than so many
abbrev pub TriesEarly : (tries most told : ℕ) → Stop → Type 0
TriesEarly tries most told (stop.Load at) = told < most
TriesEarly tries most told (stop.Lock name at mode) = told < tries
TriesEarly tries most told (stop.Refused reply) = Unit {0}

abbrev pub DecidesEarly : (most told : ℕ) → Result Verdict Stop → Type 0
DecidesEarly most told (Ok v) = Unit {0}
DecidesEarly most told (Err e) = StopEarly most told e

-- how many answers and how many tries may come after a need, by those that might come before it
abbrev pub Lowers : Need → (before after : ℕ) → Type 0
Lowers (need.Load at) before after = after < before
Lowers (need.Lock name at mode) before after = after < before
Lowers (need.Verdict reply) before after = after ≤ before

abbrev pub LowersTries : Need → (before after : ℕ) → Type 0
LowersTries (need.Load at) before after = after ≤ before
LowersTries (need.Lock name at mode) before after = after < before
LowersTries (need.Verdict reply) before after = after ≤ before

-- after a load a word is due
abbrev pub is_load : Need → Bool
is_load (need.Load at) = true
is_load (need.Lock name at mode) = false
is_load (need.Verdict reply) = false
