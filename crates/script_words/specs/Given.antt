-- What a script in form and its inputs give a run: words of 64 bits, and short lists of operations.
use Rattle.std.specs.Prelude.{◌≡◌, ℕ, ◌<◌, List, map, slice_index, Option, IfSome}
use Rattle.td_words.specs.Seen.{BundleSeen}
use Rattle.flat_core.specs.Opening.{Opening, Incoming}
use Rattle.flat_words.specs.Words.{IsWord, BringsWords, GivesWords}
use Rattle.flat_bundles.specs.Formed.{AreCodesShort}
use Rattle.incoming.specs.Arrivals.{SlotIncoming, incoming_in, at_slot}
use Rattle.script_text.specs.Seen.{ScriptSeen}
use Rattle.script_text.specs.Laws.{IsInForm}
use Rattle.leaf_table.specs.Table.{code_in}

-- an opening of a script: its calls, and its lists of operations by their virtual processors
pub record IsOfScript (o : Opening) (s : ScriptSeen) : Type 0 where
  pub calls : o.calls ≡ s.calls
  pub codes : o.codes ≡ code_in s.codes

-- The 512 secret words, and the words of the bundles that come in, have 64 bits.
pub record AreInputWords (secrets : ℕ → ℕ) (bundles : ℕ → Option Incoming) : Type 0 where
  pub words : (k : ℕ) → k < 512 → IsWord (secrets k)
  pub come_in : (slot : ℕ) → IfSome (bundles slot) BringsWords

abbrev pub ScriptsGiveWords : Type 0
ScriptsGiveWords = (o : Opening) (s : ScriptSeen) → IsInForm s → IsOfScript o s → AreInputWords o.secrets o.bundles → GivesWords o × AreCodesShort o

-- So it is of a list of secret words, and of the bundles of a container, opened under any two keys.
abbrev pub ComeInAsWords : (secrets : List ℕ) → (opened : List SlotIncoming) → (sealed : List BundleSeen) → Type 0
ComeInAsWords secrets opened sealed = (forward backward : List ℕ) → opened ≡ map (incoming_in forward backward) sealed → AreInputWords (slice_index secrets) (at_slot opened)
