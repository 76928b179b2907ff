-- Private pages that no virtual processor has reached yet.
use Rattle.std.proofs.Common.{◌≡◌, ◌⊎◌, sym, ◌∙◌, ℕ, true}
use Rattle.td_words.specs.declared.names.PageKind.{PageKind}
use Rattle.td_words.specs.declared.names.PageKind.TheVariants as kind
use Rattle.flat_core.specs.World.{World}
use Rattle.flat_core.specs.Access.{is_pending, has_not_run}

-- the page's entry is pending, or its TD has not run here
abbrev pub Waits : World → ℕ → Type 0
Waits w q = (is_pending (w.tds.entries (w.pages.owners q) 0 (w.pages.numbers q)).state ≡ true) ⊎ (has_not_run (w.tds.ops (w.pages.owners q)) ≡ true)

abbrev pub WaitsWherePrivate : World → ℕ → Type 0
WaitsWherePrivate w q = w.pages.kinds q ≡ kind.Reg → Waits w q

-- a host page isn't one
pub host-not-private : (k : PageKind) → k ≡ kind.Nda → k ≡ kind.Reg → ⊥
host-not-private k a b = let no : kind.Nda ≡ kind.Reg = sym a ∙ b in cc
