-- The leaf of VP.FLUSH means its row.
use Rattle.std.proofs.Common.{◌≡◌, ℕ, ◌<◌, true, false, ◌==◌, List, [], ◌∷◌, ◌++◌, Option, refl, sym, subst, inl, inr, arith}
use Rattle.std.proofs.lemmas.Bool.{eq-eqb, eqb-true, ltb-true, not-true}
use Rattle.td_words.specs.declared.names.PageKind.TheVariants as kind
use Rattle.td_words.specs.declared.names.LifeState.TheVariants as life
use Rattle.td_words.specs.declared.names.Mode.TheVariants.{Shared, Exclusive}
use Rattle.td_words.specs.declared.machines.Machine.{Machine}
use Rattle.td_words.specs.Place as place
use Rattle.flat_core.specs.World.{World}
use Rattle.flat_core.specs.Processor.{OfPage, Held}
use Rattle.flat_core.specs.Conditions.{not_elsewhere, associated_vp, root, life_in, td_page, page_shared, page_exclusive}
use Rattle.flat_core.specs.Effects.{end_association}
use Rattle.flat_core.specs.Event.{State}
use Rattle.flat_core.specs.Lawful.{Lawful, IsAlive, IsPageOf}
use Rattle.flat_core.specs.VpRows.{flush_vp}
use Rattle.flat_core.proofs.Tests.{by_test}
use Rattle.word_rules.specs.Guards.{Grip}
use Rattle.word_rules.specs.Rules.{Association, Whole, KeepsNothing, reads, writes}
use Rattle.word_rules.specs.Lines.{in_lines}
use Rattle.word_rules.specs.Permissions.{Respects}
use Rattle.word_rules.specs.Cells.{Shows, IsAs, vp_lines, associated_word}
use Rattle.act_rules.proofs.Respected.{leaves, all-same}
use Rattle.lock_words.specs.Grips.{holds, holds_alone}
use Rattle.leaf_engine.specs.Changes.{Memory, changed_all}
use Rattle.leaf_engine.specs.Trees as tree
use Rattle.leaf_engine.specs.Means.{Instant, Means, Work, work_of, OfCall, hold}
use Rattle.leaf_parts.specs.Arguments.{two_pages}
use Rattle.leaf_parts.specs.Heads.{root_tree, life_tree}
use Rattle.leaf_parts.proofs.Aside.{aside, back, kept-but, control-kept}
use Rattle.leaf_parts.proofs.Begun.{page_lock, root-means, life-means, life-is, holds-newest}
use Rattle.leaf_parts.proofs.Checks.{spot_of, at-spot, checks-mean, td-page-means}
use Rattle.leaf_parts.proofs.Vps.{vp-shown, vp-spot}
use Rattle.vcpu_control.specs.EnterTrees.{lp_told}
use Rattle.vcpu_control.specs.EnterMeans.{lp-again}
use Rattle.vcpu_control.specs.FlushTrees.{flush_changes, flush_answer, flush_at, flush_rest, FlushMeans}

-- The words that it leaves show its act.
module _ (m : Machine) (s : State) (mem : Memory) (t v : ℕ) (sh : Shows m mem.words mem.slots s) (alive : IsAlive s.world.pages s.world.tds t) (its : IsPageOf s.world.pages t v kind.Tdvpr) (in_page : v < m.pages) where
  abbrev after : Memory
  after = changed_all (flush_changes v) mem

  abbrev left : World
  left = end_association v s.world

  itself : (v == v) ≡ true
  itself = eq-eqb v v refl

  other-line : (i : ℕ) → (i == 2) ≡ false → in_lines (vp_lines left v) i ≡ in_lines (vp_lines s.world v) i
  other-line i two = rw two refl

  vp-word : (i : ℕ) → i < 512 → IsAs (in_lines (vp_lines left v) i) (after.words (place.Word v i))
  vp-word i i_in = by_test (i == 2)
      (λ y. rw (y, eqb-true i 2 y, itself) refl)
      (λ two. (let same : mem.words (place.Word v i) ≡ after.words (place.Word v i) = rw (itself, two) refl in
      subst (λ (x : ℕ). IsAs (in_lines (vp_lines left v) i) x) same (subst (λ (o : Option ℕ). IsAs o (mem.words (place.Word v i))) (sym (other-line i two)) (vp-shown m mem.words mem.slots s sh t alive.life v i its in_page i_in))))

  flushed : Shows m after.words after.slots (record s { world = left })
  flushed = record {
    word = back (kept-but left (aside v m mem.words s sh.word) (record {
      kinds = refl;
      owners = refl;
      blocked = refl;
      key_table = refl;
      page = λ q o n. record {
        words = λ i. refl;
        tdr = λ is i. refl;
        owned = λ h. record { stands = λ z. z; level = refl; number = refl; entries = λ l e. refl; vp = λ i. rw o refl; stream = λ i. refl; control = λ is z. control-kept refl (λ l e. refl) (λ f i. refl) };
      };
    })) after.words (λ r. refl) (λ r. refl) (λ k. refl) (λ r i o. rw o refl) (λ i i_in. rw (its.kind, its.owner, alive.life) (vp-word i i_in));
    hasher = sh.hasher;
  }

-- the locks at its end: P of the TDR page, and of the virtual processor's
abbrev flush_locks : ℕ → ℕ → List Held
flush_locks t v = page_lock v Exclusive ∷ page_lock t Shared ∷ []

module _ (m : Machine) (c : Instant) (me t v : ℕ) (few : m.pages < 65536) (la : Lawful m c.state.world) (sh : Shows m c.memory.words c.memory.slots c.state) (alive : IsAlive c.state.world.pages c.state.world.tds t) (in_page : v < m.pages) (other : (v == t) ≡ false) where
  abbrev w : World
  w = c.state.world

  abbrev k : Work
  k = work_of (OfCall (flush_vp m me t v))

  abbrev w' : World
  w' = end_association v w

  abbrev g : Grip
  g = hold c (flush_locks t v)

  held-td : holds (flush_locks t v ++ c.kept) (OfPage t) ≡ true
  held-td = rw (other, eq-eqb t t refl) refl

  held-page : holds (flush_locks t v ++ c.kept) (OfPage v) ≡ true
  held-page = rw (eq-eqb v v refl) refl

  alone-page : holds_alone (flush_locks t v ++ c.kept) (OfPage v) ≡ true
  alone-page = rw (eq-eqb v v refl) refl

  respects : Respects g w w'
  respects = leaves g w w' (all-same w w' refl (λ u. record { op = refl; controls = refl; epoch = refl; empty = λ b. refl; named = λ n. refl })) (λ h. refl) refl

  module _ (its : IsPageOf c.state.world.pages t v kind.Tdvpr) where
    its_end : Means m c k (flush_locks t v) (tree.End (flush_answer t) [] (flush_changes v)) []
    its_end = (
      record {
        answers = record { reply_is = refl; cached_is = refl; enters_is = refl; notes_are = refl; tells_are = refl; bundles_are = refl };
        fills_allowed = tt;
        respects = respects;
        locks_stay = ((refl, λ y. y), ((refl, λ y. y), tt));
        shows = flushed m c.state c.memory t v sh alive its in_page;
      },
      (
        ((in_page, omega arith), (KeepsNothing, at-spot g w (place.Word v 2) (spot_of Association t v) (λ z. writes z KeepsNothing) (vp-spot w t v 2 its) (inl (held-td, (alone-page, tt))), tt)),
        tt,
      ),
    )

    associated : Means m c k (flush_locks t v) (tree.Load Whole (place.Word v 2) (λ word. flush_at me t v (lp_told word))) (associated_vp w v ∷ not_elsewhere w me v ∷ [])
    associated =
        let word : c.memory.words (place.Word v 2) ≡ associated_word (w.vps.associated v) = vp-shown m c.memory.words c.memory.slots c.state sh t alive.life v 2 its in_page (omega arith) in (
          (in_page, omega arith),
          inl (at-spot g w (place.Word v 2) (spot_of Association t v) (λ z. reads z Whole) (vp-spot w t v 2 its) (inr (inl (held-td, (held-page, tt))))),
          subst (λ (n : ℕ). Means m c k (flush_locks t v) (flush_at me t v (lp_told n)) (associated_vp w v ∷ not_elsewhere w me v ∷ [])) (sym word)
              (rw (lp-again (w.vps.associated v)) (refl, λ f. refl, λ f. (refl, λ h. refl, λ h. its_end))),
        )

  pub flush_rest-means : Means m c k (page_lock t Shared ∷ []) (flush_rest me t v) (page_exclusive v ∷ td_page w t v kind.Tdvpr ∷ associated_vp w v ∷ not_elsewhere w me v ∷ [])
  flush_rest-means =
      td-page-means m c k (page_lock t Shared ∷ []) sh la few t v kind.Tdvpr in_page (tree.Load Whole (place.Word v 2) (λ word. flush_at me t v (lp_told word))) (associated_vp w v ∷ not_elsewhere w me v ∷ []) associated

pub flush-means : FlushMeans
flush-means p t v few = record {
  means = λ c at.
      let w = c.state.world in
      let k = work_of (OfCall (flush_vp p.machine p.lp t v)) in
      let last = page_exclusive v ∷ td_page w t v kind.Tdvpr ∷ associated_vp w v ∷ not_elsewhere w p.lp v ∷ [] in
      checks-mean p.machine c k [] (two_pages p.machine t v) (root_tree t Shared (life_tree t (life.KeysConfigured ∷ []) (flush_rest p.lp t v))) (page_shared t ∷ root w t ∷ life_in w t (life.KeysConfigured ∷ []) ∷ last)
      (λ a. let in_page = ltb-true t p.machine.pages a.0 in
      root-means p.machine c k t in_page at.lawful at.shown Shared (life_tree t (life.KeysConfigured ∷ []) (flush_rest p.lp t v)) (life_in w t (life.KeysConfigured ∷ []) ∷ last)
      (λ is. life-means p.machine c k t in_page at.lawful at.shown is (page_lock t Shared ∷ []) (holds-newest t Shared c.kept) (life.KeysConfigured ∷ []) (flush_rest p.lp t v) last
      (λ lives. let configured : w.tds.lives t ≡ life.KeysConfigured = life-is life.KeysConfigured (w.tds.lives t) lives in
      flush_rest-means p.machine c p.lp t v few at.lawful at.shown (record { kind = is; life = rw configured refl }) (ltb-true v p.machine.pages a.1.0) (not-true (v == t) a.1.1.0))));
}
