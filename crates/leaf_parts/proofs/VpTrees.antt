-- A word of each virtual processor of a TD, one after another: the code goes by its tree, and what the tree counts.
use Rattle.std.proofs.Common.{◌≡◌, ℕ, suc, ◌+◌, ◌<◌, ◌≤◌, Bool, true, false, ◌&&◌, not, ◌==◌, List, [], ◌∷◌, length, Result, Ok, Err, refl, ap, sym, ◌∙◌, subst, inl, arith}
use Rattle.std.specs.List.{list_all}
use Rattle.std.specs.Prelude.{slice_get}
use Rattle.std.proofs.lemmas.Bool.Decides.{nat_tests}
use Rattle.td_words.specs.declared.names.PageKind.TheVariants as kind
use Rattle.td_words.specs.declared.machines.Machine.{Machine}
use Rattle.td_words.specs.declared.replies.Reply.{Reply}
use Rattle.td_words.specs.Place as place
use Rattle.flat_core.specs.Locks.{one_if}
use Rattle.flat_core.specs.Processor.{Held}
use Rattle.flat_core.specs.Row.{Item}
use Rattle.flat_core.specs.World.{World}
use Rattle.flat_core.specs.Lawful.{Lawful, IsAlive, IsPageOf, ArePagesOf}
use Rattle.word_rules.specs.Lines.{in_lines}
use Rattle.word_rules.specs.Rules.{TdcsWord, Whole}
use Rattle.word_rules.specs.Spots.{tdcs_classes, or_unused, is_current, is_empty}
use Rattle.word_rules.specs.Permissions.{Reads}
use Rattle.word_rules.specs.Cells.{Shows}
use Rattle.leaf_engine.specs.declared.plans.Stop.{Stop}
use Rattle.leaf_engine.specs.Trees.{Tree, Load}
use Rattle.leaf_engine.specs.Means.{Instant, Means, Work, hold}
use Rattle.leaf_parts.specs.declared.vp_words.VpWord.{VpWord}
use Rattle.leaf_parts.specs.Parts.{Goes, Feeds}
use Rattle.leaf_parts.specs.Vps.{vp_tree, vps_from, vps_tree, apart_in}
use Rattle.leaf_parts.specs.Words.{page_told, vps_told}
use Rattle.leaf_parts.proofs.Parts.{goes-on, goes-off, feeds-on}
use Rattle.leaf_parts.proofs.Begun.{TwoControls, page-in}
use Rattle.leaf_parts.proofs.Told.{page-back, tdcs-shown}
use Rattle.leaf_parts.proofs.Vps.{vp-class, vps-back, vp-said}

module _ (pages : ℕ) (asked : VpWord) (number left k apart : ℕ) (before between after : List ℕ) (r : Result ℕ Stop) (some : left ≡ suc k) where
  abbrev one : (ℕ → Tree) → Tree
  one f = vp_tree pages asked number f

  abbrev counted : ℕ → ℕ
  counted word = apart + one_if (not (word == asked.word))

  abbrev behind : ℕ → (ℕ → Tree) → Tree
  behind apart f = vps_from pages asked (number + 1) k apart f

  abbrev from_here : ℕ → (ℕ → Tree) → Tree
  from_here n f = vps_from pages asked number n apart f

  pub goes-failed : (s : Stop) → r ≡ Err s → Goes {A = ℕ} pages one before between (Err s) → Goes pages (from_here left) before after r
  goes-failed s is a = subst (λ (n : ℕ). Goes pages (from_here n) before after r) (sym some) (goes-off pages one (λ word. behind (counted word)) before between after s r is a)

  module _ (word next : ℕ) (is : next ≡ counted word) where
    pub goes-next : Goes pages one before between (Ok word) → Goes pages (behind next) between after r → Goes pages (from_here left) before after r
    goes-next a b = subst (λ (n : ℕ). Goes pages (from_here n) before after r) (sym some)
        (goes-on pages one (λ word. behind (counted word)) before between after word r a (subst (λ (n : ℕ). Goes pages (behind n) between after r) is b))

    pub feeds-next : Feeds one before between (Ok word) → Feeds (behind next) between after r → Feeds (from_here left) before after r
    feeds-next a b = subst (λ (n : ℕ). Feeds (from_here n) before after r) (sym some)
        (feeds-on one (λ word. behind (counted word)) before between after word r a (subst (λ (n : ℕ). Feeds (behind n) between after r) is b))

-- none has another word where each has this one
pub none-apart : (said : ℕ → ℕ) (word : ℕ) (vs : List ℕ) → (apart_in said word vs == 0) ≡ list_all (λ v. said v == word) vs
none-apart said word [] = refl
none-apart said word (v ∷ vs) = one (said v == word) (apart_in said word vs) (list_all (λ p. said p == word) vs) (none-apart said word vs)
  where
    one : (same : Bool) (n : ℕ) (b : Bool) → (n == 0) ≡ b → (one_if (not same) + n == 0) ≡ (same && b)
    one true n b e = (let base : 0 + n ≡ n = omega arith in rw base e)
    one false n b e = grind (arith, nat_tests)

-- over a lawful state they are counted, under locks that keep TDCS and that word of a virtual processor's page
module _ (m : Machine) (c : Instant) (work : Work) (hs : List Held) (items : List (Item Reply)) (t : ℕ) (la : Lawful m c.state.world) (sh : Shows m c.memory.words c.memory.slots c.state) (alive : IsAlive c.state.world.pages c.state.world.tds t) (z : TwoControls m c.state.world t)
    (reads : (i : ℕ) → or_unused (in_lines (tdcs_classes (is_current c.state.world t) (is_empty c.state.world t)) i) ≡ TdcsWord → Reads (hold c hs) c.state.world (place.Word z.tdcs i) Whole)
    (at word : ℕ) (said : ℕ → ℕ) (in_page : at < 512)
    (says : (v : ℕ) → IsPageOf c.state.world.pages t v kind.Tdvpr → v < m.pages → (c.memory.words (place.Word v at) ≡ said v) × Reads (hold c hs) c.state.world (place.Word v at) Whole)
    (further : ℕ → Tree) where
  abbrev w : World
  w = c.state.world

  abbrev asked : VpWord
  asked = record { tdcs = z.tdcs; at = at; word = word }

  abbrev Mean : Tree → Type 0
  Mean s = Means m c work hs s items

  from-means : (rest : List ℕ) (number n : ℕ) → number + length rest ≤ 8 → ArePagesOf w.pages t kind.Tdvpr rest → ((i : ℕ) → slice_get (w.tds.vps t) (number + i) ≡ slice_get rest i)
      → Mean (further (n + apart_in said word rest)) → Mean (vps_from m.pages asked number (length rest) n further)
  from-means [] number n few its listed end = (let sum : n + 0 ≡ n = omega arith in subst (λ (k : ℕ). Mean (further k)) sum end)
  from-means (v ∷ vs) number n few its listed end =
      let base : number + 0 ≡ number = omega arith in
      let small : number < 8 = omega arith in
      let page : c.memory.words (place.Word z.tdcs (40 + number)) ≡ v = vp-said m c.memory.words c.memory.slots c.state sh t alive.life z.tdcs (z.root ∷ []) z.list z.tdcs_page z.tdcs_in number v small (ap (slice_get (w.tds.vps t)) (sym base) ∙ listed 0) in
      let v_in : v < m.pages = page-in m w t v kind.Tdvpr la its.0 refl in
      let its_word = says v its.0 v_in in
      let one : ℕ = one_if (not (said v == word)) in
      let sum : n + (one + apart_in said word vs) ≡ n + one + apart_in said word vs = omega arith in (
        (z.tdcs_in, omega arith),
        inl (reads (40 + number) (vp-class (is_current w t) (is_empty w t) number small)),
        subst (λ (p : ℕ). Mean (Load Whole (place.Word p at) (λ x. vps_from m.pages asked (number + 1) (length vs) (n + one_if (not (x == word))) further))) (sym (ap (page_told m.pages) page ∙ page-back m.pages v v_in)) (
          (v_in, in_page),
          inl its_word.1,
          subst (λ (x : ℕ). Mean (vps_from m.pages asked (number + 1) (length vs) (n + one_if (not (x == word))) further)) (sym its_word.0)
              (from-means vs (number + 1) (n + one) (omega arith) its.1
              (λ i. (let more : number + 1 + i ≡ number + suc i = omega arith in ap (slice_get (w.tds.vps t)) more ∙ listed (suc i)))
              (subst (λ (k : ℕ). Mean (further k)) sum end)),
        ),
      )

  pub vps-mean : Mean (further (apart_in said word (w.tds.vps t))) → Mean (vps_tree m.pages asked further)
  vps-mean end =
      let count : c.memory.words (place.Word z.tdcs 15) ≡ length (w.tds.vps t) = tdcs-shown m c.memory.words c.memory.slots c.state sh t 15 z.tdcs (z.root ∷ []) z.list z.tdcs_page alive.life z.tdcs_in (omega arith) in
      let few : length (w.tds.vps t) ≤ 8 = la.tds.vps_few t in (
        (z.tdcs_in, omega arith),
        inl (reads 15 refl),
        subst (λ (k : ℕ). Mean (vps_from m.pages asked 0 k 0 further)) (sym (ap vps_told count ∙ vps-back (length (w.tds.vps t)) few))
            (from-means (w.tds.vps t) 0 0 (omega (arith, few)) (la.tds.vps t alive) (λ i. ap (slice_get (w.tds.vps t)) (from-zero i))
            (subst (λ (k : ℕ). Mean (further k)) (sym (from-zero (apart_in said word (w.tds.vps t)))) end)),
      )
    where
      from-zero : (k : ℕ) → 0 + k ≡ k
      from-zero k = omega arith
