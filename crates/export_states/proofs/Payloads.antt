-- The decision of an export: where it stops, and where all is told.
use Rattle.std.proofs.Common.{◌≡◌, ℕ, ◌+◌, ◌<◌, ◌≤◌, List, length, take, Ok, Err, refl, ap, sym, ◌∙◌, subst, arith}
use Rattle.td_words.specs.declared.replies.Value.TheVariants as value
use Rattle.td_words.specs.declared.replies.Reply.TheVariants.{Done}
use Rattle.td_words.specs.Place.{WordPlace, address}
use Rattle.leaf_engine.specs.declared.plans.Stop.{Stop}
use Rattle.leaf_engine.specs.declared.plans.Stop.TheVariants as stop
use Rattle.leaf_engine.specs.Changes.{Change}
use Rattle.leaf_engine.specs.Decides.{Decides}
use Rattle.leaf_engine.specs.Trees.{Tree, feed, changes_of}
use Rattle.leaf_parts.specs.Parts.{Goes, Feeds}
use Rattle.access_core.proofs.WordsTold.{words-stop, words-go, words-fed}
use Rattle.export_states.specs.declared.states.Stated.{Stated}
use Rattle.export_states.specs.StateTrees.{state_end, payload_tree}

-- behind the conditions of an export
module _ (n : ℕ) (asked : (Stated → Tree) → Tree) (slot kind : ℕ) (changes : Stated → List Change) (at : Stated → ℕ → WordPlace) (count : ℕ) (xs ys : List ℕ) where
  abbrev behind : Stated → Tree
  behind x = payload_tree slot kind changes at count x

  abbrev tree : Tree
  tree = asked behind

  pub comes-stop : (e : Stop) → Goes {A = Stated} n asked xs ys (Err e) → Decides n tree xs (Err e)
  comes-stop e g = g behind

  module _ (x : Stated) (g : Goes n asked xs ys (Ok x)) where
    pub comes-short : (e : Stop) → length ys < count → e ≡ stop.Load (address n (at x (length ys))) → Decides n tree xs (Err e)
    comes-short e few is =
        let base : 0 + length ys ≡ length ys = omega arith in
        g behind (Err e)
        (rw is (subst (λ (i : ℕ). Decides n (behind x) ys (Err (stop.Load (address n (at x i))))) base (words-stop n (at x) 0 count (state_end slot kind changes x) ys few)))

    module _ (ws : List ℕ) (fed : Feeds asked xs ys (Ok x)) (all : count ≤ length ys) (is : ws ≡ take count ys) where
      ends : feed tree xs ≡ state_end slot kind changes x ws
      ends = fed behind ∙ (words-fed (at x) 0 count (state_end slot kind changes x) ys all ∙ ap (state_end slot kind changes x) (sym is))

      pub comes-all : (feed tree xs ≡ state_end slot kind changes x ws) × Decides n tree xs (Ok (record { reply = Done value.Nothing; changes = changes_of (feed tree xs) }))
      comes-all = (
        ends,
        g behind (Ok (record { reply = Done value.Nothing; changes = changes_of (feed tree xs) }))
            (words-go n (at x) 0 count (state_end slot kind changes x) ys (Ok (record { reply = Done value.Nothing; changes = changes_of (feed tree xs) })) all (refl, ap changes_of ends)),
      )
