-- What words say over a lawful state: page metadata, TDR and TDCS words, and what these words are.
use Rattle.std.proofs.Common.{◌≡◌, ℕ, ◌/◌, ◌%◌, ◌<◌, Bool, true, false, ◌==◌, ◌||◌, List, [], ◌∷◌, Option, refl, ap, sym, ◌∙◌, arith}
use Rattle.std.specs.List.{list_any}
use Rattle.std.proofs.lemmas.Bool.{eq-eqb, eqb-true, lt-ltb}
use Rattle.td_words.specs.declared.names.PageKind.{PageKind}
use Rattle.td_words.specs.declared.names.PageKind.TheVariants as kind
use Rattle.td_words.specs.declared.names.LifeState.{LifeState}
use Rattle.td_words.specs.declared.names.LifeState.TheVariants as life
use Rattle.td_words.specs.declared.names.OpState.{OpState}
use Rattle.td_words.specs.declared.names.OpState.TheVariants as op
use Rattle.td_words.specs.declared.machines.Machine.{Machine}
use Rattle.td_words.specs.NameNumber.{kind_number, life_number, op_number}
use Rattle.td_words.specs.Packing.{pamt_word}
use Rattle.td_words.specs.Place.{WordPlace}
use Rattle.td_words.specs.Place as place
use Rattle.flat_core.specs.World.{World}
use Rattle.flat_core.specs.Conditions.{is_host_in, same_kind}
use Rattle.flat_core.specs.Lawful.{Lawful, IsPageOf}
use Rattle.flat_core.specs.Event.{State}
use Rattle.flat_core.proofs.Tests.{by_test}
use Rattle.word_rules.specs.Lines.{in_lines}
use Rattle.word_rules.specs.Views.{no_page}
use Rattle.word_rules.specs.Spots.{spot, or_unused, tdr_classes, tdcs_classes, is_current, is_empty}
use Rattle.word_rules.specs.Cells.{Shows, IsAs, lock_word, tdr_lines, td_lock_lines, tdcs_lines}
use Rattle.leaf_parts.specs.Words.{says_kind, says_owner, life_told, op_told, page_told}

-- numbers of names, read back
pub life-back : (s : LifeState) → life_told (life_number s) ≡ s
life-back life.HkidAssigned = refl
life-back life.KeysConfigured = refl
life-back life.Blocked = refl
life-back life.Teardown = refl

pub op-back : (s : OpState) → op_told (op_number s) ≡ s
op-back op.Uninitialized = refl
op-back op.Initialized = refl
op-back op.Runnable = refl
op-back op.LiveExport = refl
op-back op.PausedExport = refl
op-back op.PostExport = refl
op-back op.MemoryImport = refl
op-back op.StateImport = refl
op-back op.PostImport = refl
op-back op.LiveImport = refl
op-back op.FailedImport = refl

-- the one operation state that is allowed
pub only-op : (one s : OpState) → list_any (λ a. op_number a == op_number s) (one ∷ []) ≡ true → s ≡ one
only-op one s h = sym (op-back s) ∙ (ap op_told (sym (same (op_number one == op_number s) h (eqb-true (op_number one) (op_number s)))) ∙ op-back one)
  where
    same : {A : Type 0} (b : Bool) → (b || false) ≡ true → (b ≡ true → A) → A
    same true e k = k refl
    same false e k = cc

pub page-back : (n p : ℕ) → p < n → page_told n p ≡ p
page-back n p small = rw (lt-ltb p n small) refl

pub kind-is : (a b : PageKind) → same_kind a b ≡ true → a ≡ b
kind-is kind.Nda kind.Nda h = refl
kind-is kind.Reg kind.Reg h = refl
kind-is kind.Tdr kind.Tdr h = refl
kind-is kind.Tdcx kind.Tdcx h = refl
kind-is kind.Tdvpr kind.Tdvpr h = refl
kind-is kind.Ept kind.Ept h = refl
kind-is kind.Migsc kind.Migsc h = refl
kind-is _ _ h = cc

kind-small : (k : PageKind) → kind_number k < 16
kind-small kind.Nda = omega arith
kind-small kind.Reg = omega arith
kind-small kind.Tdr = omega arith
kind-small kind.Tdcx = omega arith
kind-small kind.Tdvpr = omega arith
kind-small kind.Ept = omega arith
kind-small kind.Migsc = omega arith

kind-bits : (k : PageKind) (o e : ℕ) → pamt_word (record { kind = k; owner = o; epoch = e }) % 16 ≡ kind_number k
kind-bits k o e = (let small : kind_number k < 16 = kind-small k in omega arith)

-- a page's owner is one of the machine's pages
owner-bits : (k : PageKind) (o e : ℕ) → o < 65536 → pamt_word (record { kind = k; owner = o; epoch = e }) / 16 % 65536 ≡ o
owner-bits k o e few = (let small : kind_number k < 16 = kind-small k in omega arith)

pub owner-small : (m : Machine) (w : World) (p : ℕ) → Lawful m w → m.pages < 65536 → w.pages.owners p < 65536
owner-small m w p la few = by_test (is_host_in w.pages p)
    (λ h. (let none : w.pages.owners p ≡ 0 = (la.pages.host p h).0 in omega arith))
    (λ h. (let tdr : is_host_in w.pages (w.pages.owners p) ≡ false = rw (la.pages.owner p h) refl in
    let in_page : w.pages.owners p < m.pages = la.pages.in_machine (w.pages.owners p) tdr in omega arith))

module _ (m : Machine) (words : WordPlace → ℕ) (slots : ℕ → Option (List ℕ)) (s : State) (sh : Shows m words slots s) where
  -- the PAMT word of a page
  pub pamt-shown : (p : ℕ) → p < m.pages → words (place.Pamt p) ≡ pamt_word (record { kind = s.world.pages.kinds p; owner = s.world.pages.owners p; epoch = s.world.pages.blocked p })
  pamt-shown p i = sh.word (place.Pamt p) i

  pub kind-shown : (k : PageKind) (p : ℕ) → p < m.pages → says_kind k (words (place.Pamt p)) ≡ same_kind (s.world.pages.kinds p) k
  kind-shown k p i = rw (pamt-shown p i, kind-bits (s.world.pages.kinds p) (s.world.pages.owners p) (s.world.pages.blocked p)) refl

  pub owner-shown : (t p : ℕ) → Lawful m s.world → m.pages < 65536 → p < m.pages → says_owner t (words (place.Pamt p)) ≡ (s.world.pages.owners p == t)
  owner-shown t p la few i = rw (pamt-shown p i, owner-bits (s.world.pages.kinds p) (s.world.pages.owners p) (s.world.pages.blocked p) (owner-small m s.world p la few)) refl

  -- a word of a TDR page
  pub tdr-shown : (t i : ℕ) → s.world.pages.kinds t ≡ kind.Tdr → s.world.pages.owners t ≡ t → t < m.pages → i < 512 → IsAs (in_lines (tdr_lines s.world t) i) (words (place.Word t i))
  tdr-shown t i is own in_page in_word = rw (is, own) at (sh.word (place.Word t i) (in_page, in_word))

  -- a word of TDCS, of a TD that stands
  pub tdcs-shown : (t i c : ℕ) (rest : List ℕ) → s.world.tds.controls t ≡ c ∷ rest → IsPageOf s.world.pages t c kind.Tdcx → (life_number (s.world.tds.lives t) == life_number life.Teardown) ≡ false → c < m.pages → i < 512
      → IsAs (in_lines (td_lock_lines (lock_word s.lps s.lp_count) t (tdcs_lines s.world t)) i) (words (place.Word c i))
  tdcs-shown t i c rest list page alive in_page in_word = rw (page.kind, page.owner, alive, list, eq-eqb c c refl) at (sh.word (place.Word c i) (in_page, in_word))

-- what these words are
pub tdr-spot : (w : World) (t i : ℕ) → w.pages.kinds t ≡ kind.Tdr → w.pages.owners t ≡ t → spot w (place.Word t i) ≡ record { class = or_unused (in_lines tdr_classes i); td = t; page = t; named = no_page }
tdr-spot w t i is own = rw (is, own) refl

pub tdcs-spot : (w : World) (t i c : ℕ) (rest : List ℕ) → w.tds.controls t ≡ c ∷ rest → IsPageOf w.pages t c kind.Tdcx
    → spot w (place.Word c i) ≡ record { class = or_unused (in_lines (tdcs_classes (is_current w t) (is_empty w t)) i); td = t; page = c; named = no_page }
tdcs-spot w t i c rest list page = rw (page.kind, page.owner, list, eq-eqb c c refl) refl
