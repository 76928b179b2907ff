-- What rows ask of their arguments, of pages that they hold alone, and of words of the TDR page and TDCS, as leaves judge it.
use Rattle.std.proofs.Common.{◌≡◌, ℕ, ◌<◌, Bool, true, ◌&&◌, ◌==◌, List, [], ◌∷◌, ◌++◌, map, Option, Some, refl, sym, subst, inl}
use Rattle.std.proofs.lemmas.Bool.{eqb-true, and_parts}
use Rattle.std.specs.List.{list_any}
use Rattle.td_words.specs.declared.names.PageKind.{PageKind}
use Rattle.td_words.specs.declared.names.PageKind.TheVariants as kind
use Rattle.td_words.specs.declared.names.LifeState.{LifeState}
use Rattle.td_words.specs.declared.names.OpState.{OpState}
use Rattle.td_words.specs.declared.names.Mode.{Mode}
use Rattle.td_words.specs.declared.names.Mode.TheVariants.{Shared, Exclusive}
use Rattle.td_words.specs.declared.machines.Machine.{Machine}
use Rattle.td_words.specs.declared.refusals.Status.{Status}
use Rattle.td_words.specs.declared.refusals.Status.TheVariants.{PageMetadataIncorrect}
use Rattle.td_words.specs.declared.replies.Reply.{Reply}
use Rattle.td_words.specs.NameNumber.{life_number}
use Rattle.td_words.specs.Place.{WordPlace}
use Rattle.td_words.specs.Place as place
use Rattle.flat_core.specs.World.{World}
use Rattle.flat_core.specs.Processor.{OfPage, Held}
use Rattle.flat_core.specs.Row.{Item, Try, needs}
use Rattle.flat_core.specs.Conditions.{is_host, is_page_of, same_kind, page_exclusive, host_page, td_page, td_row, tdr_exclusive}
use Rattle.flat_core.specs.Lawful.{Lawful, IsAlive, IsPageOf}
use Rattle.word_rules.specs.Guards.{Grip, Rule}
use Rattle.word_rules.specs.Rules.{Class, Whole, reads}
use Rattle.word_rules.specs.Lines.{in_lines}
use Rattle.word_rules.specs.Views.{no_page}
use Rattle.word_rules.specs.Spots.{Spot, spot, or_unused, tdr_classes, tdcs_classes, is_current, is_empty}
use Rattle.word_rules.specs.Permissions.{MayAt}
use Rattle.word_rules.specs.Cells.{Shows, IsAs, tdr_lines, td_lock_lines, tdcs_lines, lock_word}
use Rattle.leaf_engine.specs.Trees as tree
use Rattle.leaf_engine.specs.Means.{Instant, Means, Work, hold}
use Rattle.leaf_parts.specs.declared.heads.Td.{Td}
use Rattle.leaf_parts.specs.Arguments.{checked, AllHold}
use Rattle.leaf_parts.specs.Heads.{td_head_tree, tdr_head_tree}
use Rattle.leaf_parts.specs.HostPages.{host_page_tree}
use Rattle.leaf_parts.specs.Words.{says_kind, says_owner, says_host}
use Rattle.leaf_parts.proofs.Begun.{IsTd, TwoControls, op_lock, page_lock, td-head-means, tdr-head-means, holds-newest}
use Rattle.leaf_parts.proofs.Told.{kind-is, kind-shown, owner-shown, tdr-shown, tdcs-shown, tdr-spot, tdcs-spot}

-- arguments
pub checks-mean : (m : Machine) (c : Instant) (k : Work) (hs : List Held) (cs : List (Bool × Status)) (t : tree.Tree) (rest : List (Item Reply)) → (AllHold cs → Means m c k hs t rest)
    → Means m c k hs (checked cs t) (map (λ d. needs d.0 d.1) cs ++ rest)
checks-mean m c k hs [] t rest h = h tt
checks-mean m c k hs (d ∷ ds) t rest h = (refl, λ e. refl, λ a. checks-mean m c k hs ds t rest (λ more. h (a, more)))

-- the arguments and the beginning of a TD's row, and of the rows that begin and end a TD's life
pub td-row-means : (m : Machine) (c : Instant) (k : Work) (t : ℕ) → Lawful m c.state.world → Shows m c.memory.words c.memory.slots c.state → (cs : List (Bool × Status)) → (AllHold cs → t < m.pages)
    → (mode : Mode) (allowed : List OpState) (further : Td → tree.Tree) (rest : List (Item Reply))
    → (AllHold cs → (x : IsTd m c.state.world t allowed) → Means m c k (op_lock t mode ∷ page_lock t Shared ∷ []) (further (record { tdcs = x.controls.tdcs; op = c.state.world.tds.ops t })) rest)
    → Means m c k [] (checked cs (td_head_tree m.pages t mode allowed further)) (map (λ d. needs d.0 d.1) cs ++ (td_row c.state.world t mode allowed ++ rest))
td-row-means m c k t la sh cs in_page mode allowed further rest h =
    checks-mean m c k [] cs (td_head_tree m.pages t mode allowed further) (td_row c.state.world t mode allowed ++ rest)
    (λ a. td-head-means m c k t (in_page a) la sh mode allowed further rest (h a))

pub tdr-row-means : (m : Machine) (c : Instant) (k : Work) (t : ℕ) → Lawful m c.state.world → Shows m c.memory.words c.memory.slots c.state → (cs : List (Bool × Status)) → (AllHold cs → t < m.pages)
    → (allowed : List LifeState) (further : tree.Tree) (rest : List (Item Reply))
    → (AllHold cs → c.state.world.pages.kinds t ≡ kind.Tdr → list_any (λ s. life_number s == life_number (c.state.world.tds.lives t)) allowed ≡ true → Means m c k (page_lock t Exclusive ∷ []) further rest)
    → Means m c k [] (checked cs (tdr_head_tree t allowed further)) (map (λ d. needs d.0 d.1) cs ++ (tdr_exclusive c.state.world t allowed ++ rest))
tdr-row-means m c k t la sh cs in_page allowed further rest h =
    checks-mean m c k [] cs (tdr_head_tree t allowed further) (tdr_exclusive c.state.world t allowed ++ rest)
    (λ a. tdr-head-means m c k t (in_page a) la sh allowed further rest (h a))

-- a permission at a word is one at what the word is
abbrev pub spot_of : (class : Class) (t p : ℕ) → Spot
spot_of c t p = record { class = c; td = t; page = p; named = no_page }

pub at-spot : (g : Grip) (w : World) (q : WordPlace) (s : Spot) (rule : Class → Rule) → spot w q ≡ s → MayAt g s rule → MayAt g (spot w q) rule
at-spot g w q s rule e a = subst (λ (x : Spot). MayAt g x rule) (sym e) a

pub at-tdr : (g : Grip) (w : World) (t i : ℕ) (rule : Class → Rule) → w.pages.kinds t ≡ kind.Tdr → w.pages.owners t ≡ t → MayAt g (spot_of (or_unused (in_lines tdr_classes i)) t t) rule → MayAt g (spot w (place.Word t i)) rule
at-tdr g w t i rule is own may = at-spot g w (place.Word t i) (spot_of (or_unused (in_lines tdr_classes i)) t t) rule (tdr-spot w t i is own) may

pub at-tdcs : (g : Grip) (w : World) (t d i : ℕ) (rest : List ℕ) (rule : Class → Rule) → w.tds.controls t ≡ d ∷ rest → IsPageOf w.pages t d kind.Tdcx
    → MayAt g (spot_of (or_unused (in_lines (tdcs_classes (is_current w t) (is_empty w t)) i)) t d) rule → MayAt g (spot w (place.Word d i)) rule
at-tdcs g w t d i rest rule list page may = at-spot g w (place.Word d i) (spot_of (or_unused (in_lines (tdcs_classes (is_current w t) (is_empty w t)) i)) t d) rule (tdcs-spot w t i d rest list page) may

-- a page is tried, and its PAMT word is loaded
pub page-told : (m : Machine) (c : Instant) (k : Work) (hs : List Held) (p : ℕ) (mode : Mode) → p < m.pages → (further : ℕ → tree.Tree) (rest : List (Item Reply)) → Means m c k (page_lock p mode ∷ hs) (further (c.memory.words (place.Pamt p))) rest
    → Means m c k hs (tree.Lock (OfPage p) (place.Lock p) mode (tree.Load Whole (place.Pamt p) further)) (Try (OfPage p) mode ∷ rest)
page-told m c k hs p mode in_page further rest h = (refl, refl, record { in_machine = in_page; at = refl; stands = tt; allowed = inl tt }, (in_page, inl (inl (holds-newest p mode (hs ++ c.kept), tt)), h))

module _ (m : Machine) (c : Instant) (k : Work) (hs : List Held) (sh : Shows m c.memory.words c.memory.slots c.state) where
  abbrev w : World
  w = c.state.world

  -- a page is held alone, and its PAMT word tells what the row asks of it
  page-means : (p : ℕ) → p < m.pages → (says : ℕ → Bool) (b : Bool) → says (c.memory.words (place.Pamt p)) ≡ b → (further : tree.Tree) (rest : List (Item Reply)) → (b ≡ true → Means m c k (page_lock p Exclusive ∷ hs) further rest)
      → Means m c k hs (tree.Lock (OfPage p) (place.Lock p) Exclusive (tree.Load Whole (place.Pamt p) (λ pamt. tree.needs (says pamt) (PageMetadataIncorrect p) further))) (page_exclusive p ∷ needs b (PageMetadataIncorrect p) ∷ rest)
  page-means p in_page says b told further rest h = page-told m c k hs p Exclusive in_page (λ pamt. tree.needs (says pamt) (PageMetadataIncorrect p) further) (needs b (PageMetadataIncorrect p) ∷ rest) (told, λ e. refl, λ e. h e)

  pub host-page-means : (p : ℕ) → p < m.pages → (further : tree.Tree) (rest : List (Item Reply)) → (is_host w p ≡ true → Means m c k (page_lock p Exclusive ∷ hs) further rest)
      → Means m c k hs (host_page_tree p further) (page_exclusive p ∷ host_page w p ∷ rest)
  host-page-means p in_page further rest h = page-means p in_page (λ x. says_host x) (is_host w p) (kind-shown m c.memory.words c.memory.slots c.state sh kind.Nda p in_page) further rest h

  pub td-page-means : Lawful m c.state.world → m.pages < 65536 → (t p : ℕ) (j : PageKind) → p < m.pages → (further : tree.Tree) (rest : List (Item Reply)) → (IsPageOf w.pages t p j → Means m c k (page_lock p Exclusive ∷ hs) further rest)
      → Means m c k hs (tree.Lock (OfPage p) (place.Lock p) Exclusive (tree.Load Whole (place.Pamt p) (λ pamt. tree.needs (says_kind j pamt && says_owner t pamt) (PageMetadataIncorrect p) further))) (page_exclusive p ∷ td_page w t p j ∷ rest)
  td-page-means la few t p j in_page further rest h =
      page-means p in_page (λ x. says_kind j x && says_owner t x) (is_page_of w t p j)
      (rw (kind-shown m c.memory.words c.memory.slots c.state sh j p in_page, owner-shown m c.memory.words c.memory.slots c.state sh t p la few in_page) refl) further rest
      (λ e. (let both = and_parts (same_kind (w.pages.kinds p) j) (w.pages.owners p == t) e in h (record { kind = kind-is (w.pages.kinds p) j both.0; owner = eqb-true (w.pages.owners p) t both.1 })))

  -- a word of the TDR page is what its line says, and one of TDCS
  pub tdr-load : (t i x : ℕ) → w.pages.kinds t ≡ kind.Tdr → w.pages.owners t ≡ t → t < m.pages → i < 512 → in_lines (tdr_lines w t) i ≡ Some x
      → MayAt (hold c hs) (spot_of (or_unused (in_lines tdr_classes i)) t t) (λ z. reads z Whole) → (further : ℕ → tree.Tree) (rest : List (Item Reply)) → Means m c k hs (further x) rest → Means m c k hs (tree.Load Whole (place.Word t i) further) rest
  tdr-load t i x is own in_page few line may further rest h =
      let word : c.memory.words (place.Word t i) ≡ x = subst (λ (o : Option ℕ). IsAs o (c.memory.words (place.Word t i))) line (tdr-shown m c.memory.words c.memory.slots c.state sh t i is own in_page few) in (
        (in_page, few),
        inl (at-tdr (hold c hs) w t i (λ z. reads z Whole) is own may),
        subst (λ (n : ℕ). Means m c k hs (further n) rest) (sym word) h,
      )

  pub tdcs-load : (t i x : ℕ) → IsAlive w.pages w.tds t → (y : TwoControls m w t) → i < 512 → in_lines (td_lock_lines (lock_word c.state.lps c.state.lp_count) t (tdcs_lines w t)) i ≡ Some x
      → MayAt (hold c hs) (spot_of (or_unused (in_lines (tdcs_classes (is_current w t) (is_empty w t)) i)) t y.tdcs) (λ z. reads z Whole) → (further : ℕ → tree.Tree) (rest : List (Item Reply)) → Means m c k hs (further x) rest
      → Means m c k hs (tree.Load Whole (place.Word y.tdcs i) further) rest
  tdcs-load t i x alive y few line may further rest h =
      let word : c.memory.words (place.Word y.tdcs i) ≡ x =
      subst (λ (o : Option ℕ). IsAs o (c.memory.words (place.Word y.tdcs i))) line (tdcs-shown m c.memory.words c.memory.slots c.state sh t i y.tdcs (y.root ∷ []) y.list y.tdcs_page alive.life y.tdcs_in few) in (
        (y.tdcs_in, few),
        inl (at-tdcs (hold c hs) w t y.tdcs i (y.root ∷ []) (λ z. reads z Whole) y.list y.tdcs_page may),
        subst (λ (n : ℕ). Means m c k hs (further n) rest) (sym word) h,
      )
