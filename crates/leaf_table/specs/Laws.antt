-- That the table is one of leaves, as merges of own lists want it.
use Rattle.std.specs.Prelude.{◌≡◌, ℕ, List}
use Rattle.td_words.specs.Limits.{IsMachine}
use Rattle.td_words.specs.declared.calls.GuestOp.{GuestOp}
use Rattle.flat_core.specs.Opening.{Opening}
use Rattle.leaf_engine.specs.Merges.{AreLeaves}
use Rattle.leaf_table.specs.Given.{Given, IsGiven}
use Rattle.leaf_table.specs.Table.{leaf_table}

-- Each call's leaf, and that of each step of a guest, is made for its machine and processor, has the row of the call or of the
-- step, and means it. So it is with the opening's secret words, bundles and lists of operations.
abbrev pub CallsHaveLeaves : Type 0
CallsHaveLeaves = (o : Opening) (g : Given) (codes : ℕ → ℕ → List GuestOp) → IsMachine o.machine → IsGiven o g → ((t i : ℕ) → codes t i ≡ o.codes t i) → AreLeaves o (leaf_table o.machine g codes)
