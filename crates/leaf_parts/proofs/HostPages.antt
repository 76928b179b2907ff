-- A host page that becomes one of a TD's means what its row says of it; and what may be done at its words meanwhile.
use Rattle.std.proofs.Common.{◌≡◌, ℕ, ◌<◌, true, false, ◌==◌, List, ◌∷◌, refl, inl, arith}
use Rattle.td_words.specs.declared.names.PageKind.TheVariants as kind
use Rattle.td_words.specs.declared.names.Mode.TheVariants.{Exclusive}
use Rattle.td_words.specs.declared.machines.Machine.{Machine}
use Rattle.td_words.specs.declared.replies.Reply.{Reply}
use Rattle.td_words.specs.declared.places.TheConstants.{TDR_CHILDREN}
use Rattle.td_words.specs.Place as place
use Rattle.flat_core.specs.World.{World}
use Rattle.flat_core.specs.Processor.{OfPage, Held}
use Rattle.flat_core.specs.Row.{Item}
use Rattle.flat_core.specs.Conditions.{is_host, children, page_exclusive, host_page}
use Rattle.flat_core.proofs.Tests.{host_kind}
use Rattle.word_rules.specs.Guards.{Grip, Locked}
use Rattle.word_rules.specs.Rules.{Whole, reads}
use Rattle.word_rules.specs.Lines.{in_lines}
use Rattle.word_rules.specs.Spots.{or_unused, tdr_classes}
use Rattle.word_rules.specs.Permissions.{MayAt, Reads, Fills}
use Rattle.word_rules.specs.Cells.{Shows}
use Rattle.leaf_engine.specs.Trees.{Tree, Load}
use Rattle.leaf_engine.specs.Means.{Instant, Means, Work, hold}
use Rattle.leaf_parts.specs.HostPages.{taken_page_tree}
use Rattle.leaf_parts.proofs.Aside.{apart}
use Rattle.leaf_parts.proofs.Begun.{page_lock}
use Rattle.leaf_parts.proofs.Checks.{spot_of, host-page-means, tdr-load}

-- a TDR page is another one
pub tdr-apart : (w : World) (t p : ℕ) → w.pages.kinds t ≡ kind.Tdr → is_host w p ≡ true → (t == p) ≡ false
tdr-apart w t p is host = apart w.pages.kinds t p kind.Tdr kind.Nda is (host_kind (w.pages.kinds p) host) (λ e. cc)

-- where it is held alone, its words may be read, and filled before the act
pub host-reads : (g : Grip) (w : World) (p i : ℕ) → is_host w p ≡ true → g.sole (Locked (OfPage p)) ≡ true → Reads g w (place.Word p i) Whole
host-reads g w p i host own = rw (host_kind (w.pages.kinds p) host) (inl (own, tt))

pub host-fills : (g : Grip) (w : World) (p i : ℕ) → is_host w p ≡ true → g.sole (Locked (OfPage p)) ≡ true → Fills g w (place.Word p i)
host-fills g w p i host own = rw (host_kind (w.pages.kinds p) host) (inl (own, tt))

module _ (m : Machine) (c : Instant) (sh : Shows m c.memory.words c.memory.slots c.state) where
  abbrev w : World
  w = c.state.world

  -- its words are those that it has
  pub host-word : (p : ℕ) → p < m.pages → is_host w p ≡ true → (i : ℕ) → i < 512 → c.memory.words (place.Word p i) ≡ w.words p i
  host-word p in_page host i few = rw (host_kind (w.pages.kinds p) host) at (sh.word (place.Word p i) (in_page, few))

  -- it is the host's, and the child count is told of the TD that takes it
  pub taken-page-means : (k : Work) (hs : List Held) (t p : ℕ) → w.pages.kinds t ≡ kind.Tdr → w.pages.owners t ≡ t → t < m.pages → p < m.pages
      → MayAt (hold c (page_lock p Exclusive ∷ hs)) (spot_of (or_unused (in_lines tdr_classes 2)) t t) (λ z. reads z Whole)
      → (further : ℕ → Tree) (rest : List (Item Reply)) → (is_host w p ≡ true → Means m c k (page_lock p Exclusive ∷ hs) (further (children w t)) rest)
      → Means m c k hs (taken_page_tree t p further) (page_exclusive p ∷ host_page w p ∷ rest)
  taken-page-means k hs t p is own in_tdr in_page may further rest h =
      host-page-means m c k hs sh p in_page (Load Whole (place.Word t TDR_CHILDREN) further) rest
      (λ host. tdr-load m c k (page_lock p Exclusive ∷ hs) sh t 2 (children w t) is own in_tdr (omega arith) refl may further rest (h host))
