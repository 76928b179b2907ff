-- Words by their address, and what word steps make of them.
use Rattle.std.specs.Prelude.{◌≡◌, ℕ, ◌+◌, ◌-◌, ◌%◌, ◌^◌, ◌==◌, if◌then◌else◌, List, [], ◌∷◌}
use Rattle.td_words.specs.Address.{key_at}
use Rattle.td_words.specs.declared.places.TheConstants.{KEY_FIRST}
use Rattle.td_words.specs.declared.machines.Machine.{Machine}
use Rattle.step_core.specs.declared.steps.WordStep.{WordStep}
use Rattle.step_core.specs.declared.steps.WordStep.TheVariants.{Load, Store, Add, Sub, Exchange}

-- how many words a machine has: those of its pages, and the key table up to the word of the last HKID
abbrev pub word_count : Machine → ℕ
word_count m = key_at m.pages (KEY_FIRST + m.hkids)

-- a word at each address
abbrev pub Words : Type 0
Words = ℕ → ℕ

-- words with v at an address
abbrev pub with_word : Words → ℕ → ℕ → Words
with_word w at v n = if n == at then v else w n

-- the address of the one word that a step touches
abbrev pub address_of : WordStep → ℕ
address_of (Load at) = at
address_of (Store at v) = at
address_of (Add at v) = at
address_of (Sub at v) = at
address_of (Exchange at old new) = at

-- what a step answers: the word before it, and a store 0
abbrev pub answer_of : Words → WordStep → ℕ
answer_of w (Load at) = w at
answer_of w (Store at v) = 0
answer_of w (Add at v) = w at
answer_of w (Sub at v) = w at
answer_of w (Exchange at old new) = w at

-- the words after a step; sums and differences wrap
abbrev pub after_step : Words → WordStep → Words
after_step w (Load at) = w
after_step w (Store at v) = with_word w at v
after_step w (Add at v) = with_word w at ((w at + v) % 2 ^ 64)
after_step w (Sub at v) = with_word w at ((w at + (2 ^ 64 - v)) % 2 ^ 64)
after_step w (Exchange at old new) = with_word w at (if w at == old then new else w at)

-- the words after steps, one after another
abbrev pub plays : Words → List WordStep → Words
plays w [] = w
plays w (s ∷ ss) = plays (after_step w s) ss

-- what is known of an answer where the words are not: a store answers 0
abbrev pub StoreAnswersZero : WordStep → ℕ → Type 0
StoreAnswersZero (Store at v) answer = answer ≡ 0
StoreAnswersZero _ answer = Unit {0}
