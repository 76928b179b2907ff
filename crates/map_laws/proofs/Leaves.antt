-- The walk of a leaf and that of a `Walk` over the same words.
use Rattle.std.proofs.Common.{◌≡◌, refl, ℕ, zero, suc, ◌+◌, ◌-◌, Bool, true, false, ◌==◌, if◌then◌else◌, arith}
use Rattle.std.proofs.lemmas.Bool.{eq-eqb, ne_eqb}
use Rattle.td_words.specs.declared.refusals.Status.TheVariants.{EptWalkFailed}
use Rattle.td_words.specs.declared.replies.Reply.TheVariants.{Refused}
use Rattle.td_words.specs.Packing.{Entry}
use Rattle.td_words.specs.Place.{WordPlace}
use Rattle.step_core.specs.Items.{Table}
use Rattle.sept_walk.specs.declared.walks.Walked.{Walked}
use Rattle.sept_walk.specs.declared.walks.Walked.TheVariants.{More, Failed}
use Rattle.sept_walk.specs.Seen.{Walk}
use Rattle.sept_walk.specs.SecureEpt.{is_mapped_on}
use Rattle.sept_walk.specs.Steps.{address_of}
use Rattle.sept_walk.specs.Laws.{told_at_most, or_on}
use Rattle.leaf_engine.specs.Trees.{Tree, answers}
use Rattle.sept_parts.specs.SeptTrees.{walk_on_tree}
use Rattle.map_laws.specs.SeptMaps.{entries_on}
use Rattle.map_laws.specs.Leaves.{words_on, answered, walked_on, EndsAs, LeavesWalk}

module _ (words : WordPlace → ℕ) (memory : ℕ → Entry) (further : ℕ → Tree) where
  -- an entry above the wanted one is passed over, or ends leaf and walk
  passes : (stands : Walk → Walk) (later : Walk → Walked) (b : Bool) (l : ℕ) (below : Tree) (k next : Walk)
      → (b ≡ true → EndsAs words memory below further (stands next) (later next))
      → EndsAs words memory (if b then below else answers (Refused (EptWalkFailed l))) further
      (stands (if b then next else k)) (or_on (if b then More else Failed l) (later (if b then next else k)))
  passes stands later true l below k next on = on refl
  passes stands later false l below k next on = refl

module _ (pages : ℕ) (u : Table) (gpa level : ℕ) (further : ℕ → Tree) where
  abbrev words : WordPlace → ℕ
  words = words_on pages u

  abbrev memory : ℕ → Entry
  memory = entries_on pages u

  abbrev at : (from page : ℕ) → Walk
  at from page = record { page = page; level = from; gpa = gpa; wanted = level }

  -- the entry that a walk asks for there
  abbrev here : (from page : ℕ) → Entry
  here from page = memory (address_of (at from page))

  -- what a leaf comes to that has so many levels to go down
  abbrev below : (n from page : ℕ) → Tree
  below n from page = answered words (walk_on_tree pages gpa n from page further)

  abbrev stands : ℕ → Walk → Walk
  stands n k = walked_on (suc n) memory k

  abbrev later : ℕ → Walk → Walked
  later n k = told_at_most (suc n) memory k

  abbrev Goes : (n from page : ℕ) → Type 0
  Goes n from page = EndsAs words memory (below n from page) further (stands n (at from page)) (later n (at from page))

  -- at the wanted level
  found : (from page : ℕ) → (from == level) ≡ true → Goes zero from page
  found from page same = rw same (refl, refl)

  -- above it, by whether the entry is passed over
  down : (n from page : ℕ) → (from == level) ≡ false
      → (is_mapped_on (here from page) ≡ true → Goes n (from - 1) (here from page).page) → Goes (suc n) from page
  down n from page above on =
      let next : ℕ = (here from page).page in
      rw above (passes words memory further (stands n) (later n) (is_mapped_on (here from page)) from (below n (from - 1) next) (at from page) (at (from - 1) next) on)

  goes : (n from page : ℕ) → from ≡ n + level → Goes n from page
  goes zero from page is = found from page (eq-eqb from level (omega (arith, is)))
  goes (suc n) from page is =
      down n from page (ne_eqb from level (λ e. omega (arith, e, is))) (λ on. goes n (from - 1) (here from page).page (omega (arith, is)))

pub leaves-walk : LeavesWalk
leaves-walk m u root gpa level further few =
    let count : 4 - level ≡ suc (3 - level) = omega (arith, few) in
    rw count (goes m.pages u gpa level further (3 - level) 3 root (omega (arith, few)))
