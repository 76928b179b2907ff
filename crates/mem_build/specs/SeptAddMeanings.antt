-- The leaf that adds a secure EPT page means its row.
use Rattle.std.proofs.Common.{◌≡◌, ℕ, zero, suc, ◌+◌, ◌*◌, ◌^◌, ◌<◌, ◌≤◌, true, false, ◌==◌, [], ◌∷◌, ◌++◌, refl, sym, subst, arith}
use Rattle.std.specs.Prelude.{nat_le}
use Rattle.std.proofs.lemmas.Bool.{eq-eqb, ne_eqb, ltb-true, leb-true, not-true, and_parts}
use Rattle.td_words.specs.declared.names.PageKind.TheVariants as kind
use Rattle.td_words.specs.declared.machines.Machine.{Machine}
use Rattle.td_words.specs.Limits.{IsMachine}
use Rattle.td_words.specs.Packing.{entry_word}
use Rattle.td_words.specs.Place as place
use Rattle.flat_core.specs.World.{World, put}
use Rattle.flat_core.specs.Conditions.{is_host, growing_ops}
use Rattle.flat_core.specs.Lawful.{Lawful, IsAlive, is_free}
use Rattle.flat_core.specs.Tree.{number_at, entry_at}
use Rattle.flat_core.specs.MemRows.{add_sept}
use Rattle.word_rules.specs.Cells.{Shows, IsAs, page_cell, lock_word}
use Rattle.act_rules.proofs.Rows.{sept-added}
use Rattle.leaf_engine.specs.declared.needs.Place.{Place}
use Rattle.leaf_engine.specs.Changes.{Clear, put_page}
use Rattle.leaf_engine.specs.Means.{Instant, MeansRow, hold}
use Rattle.leaf_parts.specs.Arguments.{AllHold}
use Rattle.leaf_parts.proofs.HostPages.{host-fills}
use Rattle.sept_parts.specs.SeptPages.{HoldsTree}
use Rattle.sept_parts.proofs.Nodes.{is-free, below-free}
use Rattle.sept_parts.proofs.Filled.{page-set}
use Rattle.sept_parts.proofs.Maps.{CanMap, IsFilled, mapped, map_locks, holds-map, map-row-means}
use Rattle.mem_build.specs.SeptAddTrees.{sept_add_arguments, sept_mapping, sept_add_task}

can-map : (m : Machine) (t gpa level page : ℕ) → AllHold (sept_add_arguments m t gpa level page) → CanMap m (sept_mapping t gpa level page)
can-map m t gpa level page a =
    let upper = and_parts (nat_le 1 level) (nat_le level 3) a.1.1.0 in record {
      tdr = ltb-true t m.pages a.0;
      gpa = ltb-true gpa (2 ^ 47) a.1.0;
      level = leb-true level 3 upper.1;
      page = ltb-true page m.pages a.1.1.1.0;
      apart = not-true (page == t) a.1.1.1.1.0;
    }

-- The page is cleared: below an entry that was FREE 512 entries are.
module _ (m : Machine) (c : Instant) (t gpa level p : ℕ) (limit : m.pages ≤ 1024) (la : Lawful m c.state.world) (sh : Shows m c.memory.words c.memory.slots c.state) (alive : IsAlive c.state.world.pages c.state.world.tds t) (least : 1 ≤ level) (most : level ≤ 3)
    (free : is_free (entry_at c.state.world t level gpa).state ≡ true) (host : is_host c.state.world p ≡ true) where
  abbrev w : World
  w = c.state.world

  abbrev taken : World
  taken = mapped (sept_mapping t gpa level p) (put c.state.world.words p (λ i. 0)) c.state.world

  not_itself : (l : ℕ) → (l == suc l) ≡ false
  not_itself l = ne_eqb l (suc l) (λ e. omega (arith, e))

  its-cell : (l : ℕ) → level ≡ l → 1 ≤ l → l ≤ 3 → (i : ℕ) → i < 512 → IsAs (page_cell taken (lock_word c.state.lps c.state.lp_count) t p kind.Ept i) 0
  its-cell zero is low high i b = absurd (omega (arith, low))
  its-cell (suc l) is low high i b =
      let none : entry_word (w.tds.entries t l (512 * number_at (suc l) gpa + i)) ≡ 0 =
      below-free m w t l (number_at (suc l) gpa) i limit la alive (omega (arith, high)) b (subst (λ (k : ℕ). is_free (entry_at w t k gpa).state ≡ true) is free) in
      rw (eq-eqb p p refl, alive.life, is, eq-eqb t t refl, not_itself l) (sym none)

  its-word : (i : ℕ) → (put_page c.memory.words p (λ j. 0)) (place.Word p i) ≡ 0
  its-word i = rw (eq-eqb p p refl) refl

  cleared : IsFilled m c (sept_mapping t gpa level p) (put w.words p (λ i. 0)) (Clear p ∷ [])
  cleared = record {
    shown = page-set m c.memory c.state p (λ i. 0) (λ i. 0) (λ i few. refl) sh host;
    fits = λ i few. subst (λ (v : ℕ). IsAs (page_cell taken (lock_word c.state.lps c.state.lp_count) t p kind.Ept i) v) (sym (its-word i)) (its-cell level refl least most i few);
  }

pub sept_add-means : (q : Place) (t gpa level page : ℕ) → IsMachine q.machine → MeansRow (sept_add_task q t gpa level page)
sept_add-means q t gpa level page limits = record {
  means = λ c at.
      (let m : Machine = q.machine in
      let x = sept_mapping t gpa level page in
      let w = c.state.world in
      map-row-means m c (add_sept m t gpa level page) x growing_ops (put w.words page (λ i. 0)) (Clear page ∷ []) limits.pages.1 at.lawful at.shown refl refl
      (record { reply_is = refl; cached_is = refl; enters_is = refl; notes_are = refl; tells_are = refl; bundles_are = refl })
      (sept_add_arguments m t gpa level page) (can-map m t gpa level page) (λ a y free host.
      let can : CanMap m x = can-map m t gpa level page a in
      let least : 1 ≤ level = leb-true 1 level (and_parts (nat_le 1 level) (nat_le level 3) a.1.1.0).0 in
      let locks : HoldsTree (map_locks x ++ c.kept) t = holds-map x c.kept can.apart in record {
        filled = cleared m c t gpa level page limits.pages.1 at.lawful at.shown y.alive least can.level (is-free (entry_at w t level gpa).state free) host;
        allowed = (((can.page, λ i b. host-fills (hold c (map_locks x)) w page i host (rw (eq-eqb page page refl) refl)), tt), (tt, tt));
        respects = sept-added (hold c (map_locks x)) w t gpa level page host (rw (eq-eqb page page refl) refl) (record { tdr = locks.tdr; op = locks.op }) (rw (eq-eqb t t refl) refl);
      }));
}
