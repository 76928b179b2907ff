-- A page that moved to another owner isn't reached through an old translation (Base Architecture, "TLB Tracking Sequence").
use Rattle.std.specs.Prelude.{◌≡◌, ◌⊎◌, ℕ, true, false, List, Option, Contains}
use Rattle.td_words.specs.declared.names.PageKind.TheVariants as kind
use Rattle.flat_core.specs.World.{World}
use Rattle.flat_core.specs.Processor.{Translation}
use Rattle.flat_core.specs.Opening.{Opening}
use Rattle.flat_core.specs.Conditions.{is_host_in}
use Rattle.flat_core.specs.Event.{State, event}
use Rattle.flat_core.specs.Laws.{reached, HoldsInRuns, IsUsedAsBefore}
use Rattle.flat_core.specs.Access.{IsUsable}
use Rattle.flat_core.specs.AccessLaw.{IsOwnPage}

-- Processor p has cached the translation, and may use it: its TD is in guest there, or would be after a VP.ENTER that drops
-- nothing.
pub record MayUse (s : State) (p : ℕ) (c : Translation) : Type 0 where
  pub cached : Contains (s.lps p).cached c
  pub epoch : ℕ
  pub usable : IsUsable s.world p (s.lps p).guest c.tdr epoch

-- one that may be used names a private page of its own TD, which the TD's map names at that GPA page
abbrev pub NamesItsOwn : State → Type 0
NamesItsOwn s = (p : ℕ) (c : Translation) → MayUse s p c → IsOwnPage s.world c.tdr c.gpa_page c.page

abbrev pub UsableNameTheirOwn : Type 0
UsableNameTheirOwn = HoldsInRuns (λ o s. NamesItsOwn s)

-- no translation that may be used, on any processor, names the page
abbrev pub IsUnnamed : State → (page : ℕ) → Type 0
IsUnnamed s page = (p : ℕ) (c : Translation) → MayUse s p c → c.page ≡ page → ⊥

abbrev pub HostPagesAreUnnamed : Type 0
HostPagesAreUnnamed = HoldsInRuns (λ o s. (page : ℕ) → is_host_in s.world.pages page ≡ true → IsUnnamed s page)

-- Once a page is a TD's, and as long as it is, an old translation of another TD that is still cached may not be used.
abbrev pub OwnersAloneUse : Type 0
OwnersAloneUse = HoldsInRuns (λ o s. (p : ℕ) (c : Translation) → MayUse s p c → c.tdr ≡ s.world.pages.owners c.page)

-- A page is moved between the host and a TD, and no translation that may be used names it, before and after.
pub record MovesUnnamed (s after : State) (page : ℕ) : Type 0 where
  pub host : (is_host_in s.world.pages page ≡ true) ⊎ (is_host_in after.world.pages page ≡ true)
  pub before : IsUnnamed s page
  pub behind : IsUnnamed after page

-- So each event does that moves a page: it has another kind, owner or place in its TD's map than before. From one TD to
-- another a page goes through the host, and at no step can an old translation reach it.
abbrev pub PagesMoveUnnamed : Type 0
PagesMoveUnnamed = (o : Opening) (words_to_tell : Option (List ℕ)) (schedule : List ℕ) (p page : ℕ)
    → let s = reached o words_to_tell schedule in
    (IsUsedAsBefore s.world.pages (event o s p).world.pages page → ⊥) → MovesUnnamed s (event o s p) page

-- A page is the host's and nothing is left of a TD: it is PT_NDA, with owner 0, BEPOCH 0 and 512 words that are 0.
pub record IsEmptied (w : World) (page : ℕ) : Type 0 where
  pub kind : w.pages.kinds page ≡ kind.Nda
  pub owner : w.pages.owners page ≡ 0
  pub blocked : w.pages.blocked page ≡ 0
  pub words : (i : ℕ) → w.words page i ≡ 0

-- So is a page after the event that gives it back, whatever it was of its TD: nothing of the TD is left there for the host, or for
-- the next TD (Base Architecture, "Physical Address Metadata Table"). It is so in any state.
abbrev pub GivenBackAreEmptied : Type 0
GivenBackAreEmptied = (o : Opening) (s : State) (p page : ℕ)
    → is_host_in s.world.pages page ≡ false → is_host_in (event o s p).world.pages page ≡ true → IsEmptied (event o s p).world page
