-- The leaf of an exit's count step means that step.
use Rattle.std.proofs.Common.{◌≡◌, ℕ, ◌+◌, ◌%◌, ◌<◌, Bool, true, false, ◌==◌, ◌&&◌, ◌||◌, List, [], ◌∷◌, length, slice_index, refl, ap, sym, ◌∙◌, subst, inl, inr, arith}
use Rattle.std.proofs.lemmas.Bool.{ne_eqb}
use Rattle.td_words.specs.declared.names.PageKind.TheVariants as kind
use Rattle.td_words.specs.declared.names.LifeState.{LifeState}
use Rattle.td_words.specs.declared.names.LifeState.TheVariants as life
use Rattle.td_words.specs.declared.names.OpState.{OpState}
use Rattle.td_words.specs.declared.names.OpState.TheVariants as op
use Rattle.td_words.specs.declared.machines.Machine.{Machine}
use Rattle.td_words.specs.declared.replies.Outcome.{Outcome}
use Rattle.td_words.specs.NameNumber.{life_number}
use Rattle.td_words.specs.Place as place
use Rattle.flat_core.specs.World.{World}
use Rattle.flat_core.specs.Processor.{LockId, OfPage, OfOp, Held}
use Rattle.flat_core.specs.Effects.{leave_guest}
use Rattle.flat_core.specs.Locks.{same_lock, is_alone}
use Rattle.flat_core.specs.Lawful.{Lawful}
use Rattle.flat_core.proofs.Tests.{by_test}
use Rattle.word_rules.specs.Guards.{Grip, Locked}
use Rattle.word_rules.specs.Rules.{Class, EpochCount, VcpuWord, Whole, KeepsNothing, reads, writes}
use Rattle.word_rules.specs.Spots.{runs_in, is_at_end, is_current, is_empty}
use Rattle.word_rules.specs.Permissions.{MayAt, Writes}
use Rattle.word_rules.specs.Cells.{Shows, entered_of_parity}
use Rattle.act_rules.proofs.Respected.{effects-respect}
use Rattle.lock_words.specs.Grips.{holds, holds_alone}
use Rattle.lock_words.specs.LockWords.{tdcs_of}
use Rattle.leaf_engine.specs.Facts.{GuestFits}
use Rattle.leaf_engine.specs.Means.{Instant, Means, Work, work_of, OfExit, hold}
use Rattle.leaf_parts.specs.Words.{page_told}
use Rattle.leaf_parts.proofs.Begun.{TwoControls, two-controls, page-in}
use Rattle.leaf_parts.proofs.Checks.{spot_of, at-spot, at-tdcs, tdr-load}
use Rattle.leaf_parts.proofs.Told.{page-back}
use Rattle.leaf_parts.proofs.Vps.{vp-shown, vp-spot}
use Rattle.vcpu_control.specs.EnterMeans.{count-class}
use Rattle.vcpu_control.specs.ExitTrees.{exit_at, exit_tree, ExitMeans}
use Rattle.vcpu_control.specs.ExitShows.{one-there, left}

-- what is held alone is held
held-of : (hs : List Held) (l : LockId) → holds_alone hs l ≡ true → holds hs l ≡ true
held-of [] l e = cc
held-of (h ∷ hs) l e = by (is_alone h.mode) (same_lock h.lock l) (holds_alone hs l) (holds hs l) (held-of hs l) e
  where
    by : (a b c d : Bool) → (c ≡ true → d ≡ true) → ((a && b) || c) ≡ true → (b || d) ≡ true
    by true true c d f e = refl
    by true false c d f e = f e
    by false true c d f e = refl
    by false false c d f e = f e

-- a TD that runs has its TDCX pages, and one that stands isn't at its end
running-old : (s : OpState) → s ≡ op.Uninitialized → runs_in s ≡ true → ⊥
running-old s e r = (let no : runs_in op.Uninitialized ≡ true = subst (λ (x : OpState). runs_in x ≡ true) e r in cc)

not-at-end : (l : LifeState) → (life_number l == life_number life.Teardown) ≡ false → is_at_end l ≡ false
not-at-end life.HkidAssigned h = refl
not-at-end life.KeysConfigured h = refl
not-at-end life.Blocked h = refl
not-at-end life.Teardown h = cc

-- a count that isn't 0 is lowered under P of the TDR page and O
count-writes : (g : Grip) (t d : ℕ) (current empty : Bool) → empty ≡ false → g.has (Locked (OfPage t)) ≡ true → g.has (Locked (OfOp t)) ≡ true → MayAt g (spot_of (EpochCount current empty) t d) (λ z. writes z KeepsNothing)
count-writes g t d true false e tdr o = inr (inl (tdr, (o, tt)))
count-writes g t d false false e tdr o = inr (inl (tdr, (o, tt)))
count-writes g t d current true e tdr o = cc

module _ (m : Machine) (c : Instant) (t v : ℕ) (out : Outcome) (la : Lawful m c.state.world) (sh : Shows m c.memory.words c.memory.slots c.state) (fits : GuestFits c.state.world c.me c.kept t v) where
  abbrev w : World
  w = c.state.world

  abbrev k : Work
  k = work_of (OfExit t v out)

  abbrev e : ℕ
  e = w.vps.lasts v

  two : (length (w.tds.controls t) == 2) ≡ true
  two = by_test (length (w.tds.controls t) == 2) (λ y. y) (λ n. absurd (running-old (w.tds.ops t) (la.beginnings.is_new t fits.alive n).op fits.running))

  z : TwoControls m w t
  z = two-controls m w t la fits.alive two

  in_page : v < m.pages
  in_page = page-in m w t v kind.Tdvpr la fits.vp_page refl

  parity : e % 2 < 2
  parity = omega arith

  -- it is counted, so the count isn't 0
  one : entered_of_parity (e % 2) w.vps.entered (w.tds.vps t) ≡ entered_of_parity (e % 2) (leave_guest v w).vps.entered (w.tds.vps t) + 1
  one = one-there m c.state c.memory t v z.tdcs z.root e sh la fits.alive z.list z.tdcs_page fits.vp_page z.tdcs_in fits.counted

  not-empty : is_empty w t (e % 2) ≡ false
  not-empty =
      let some : (entered_of_parity (e % 2) w.vps.entered (w.tds.vps t) == 0) ≡ false = ne_eqb (entered_of_parity (e % 2) w.vps.entered (w.tds.vps t)) 0 (λ x. omega (arith, one, x)) in
      rw (not-at-end (w.tds.lives t) fits.alive.life, some) refl

  count-written : Writes (hold c []) w (place.Word z.tdcs (6 + e % 2)) KeepsNothing
  count-written = at-tdcs (hold c []) w t z.tdcs (6 + e % 2) (z.root ∷ []) (λ x. writes x KeepsNothing) z.list z.tdcs_page
      (subst (λ (x : Class). MayAt (hold c []) (spot_of x t z.tdcs) (λ y. writes y KeepsNothing)) (sym (count-class (is_current w t) (is_empty w t) (e % 2) parity))
      (count-writes (hold c []) t z.tdcs (is_current w t (e % 2)) (is_empty w t (e % 2)) not-empty fits.tdr_held fits.op_held))

  at-means : Means m c k [] (exit_at v out z.tdcs) []
  at-means =
      let word : c.memory.words (place.Word v 3) ≡ e = vp-shown m c.memory.words c.memory.slots c.state sh t fits.alive.life v 3 fits.vp_page in_page (omega arith) in (
        (in_page, omega arith),
        inl (at-spot (hold c []) w (place.Word v 3) (spot_of VcpuWord t v) (λ x. reads x Whole) (vp-spot w t v 3 fits.vp_page)
            (inr (inr (inl (fits.tdr_held, (fits.op_held, (held-of c.kept (OfPage v) fits.vp_held, tt))))))),
        rw word (
          record {
            answers = record { reply_is = refl; cached_is = refl; enters_is = refl; notes_are = refl; tells_are = refl; bundles_are = refl };
            fills_allowed = tt;
            respects = (effects-respect (hold c []) w).exit m t v la fits.vp_page.owner fits.tdr_held;
            locks_stay = tt;
            shows = left m c.state c.memory t v z.tdcs z.root e sh la fits.alive z.list z.tdcs_page fits.vp_page z.tdcs_in fits.counted;
          },
          (((z.tdcs_in, omega (arith, parity)), count-written), tt),
        ),
      )

  pub exit-at : Means m c k [] (exit_tree m t v out) []
  exit-at =
      let first : tdcs_of w t ≡ z.tdcs = ap (λ (cs : List ℕ). slice_index cs 0) z.list in
      let told : page_told m.pages (tdcs_of w t) ≡ z.tdcs = ap (page_told m.pages) first ∙ page-back m.pages z.tdcs z.tdcs_in in
      tdr-load m c k [] sh t 4 (tdcs_of w t) fits.alive.kind (la.pages.tdr t fits.alive.kind) (la.pages.in_machine t (let is = fits.alive.kind in rw is refl)) (omega arith) refl (inl (fits.tdr_held, tt)) (λ word. exit_at v out (page_told m.pages word)) []
      (subst (λ (p : ℕ). Means m c k [] (exit_at v out p) []) (sym told) at-means)

pub exit-means : ExitMeans
exit-means p t v out = record { means = λ c at. exit-at p.machine c t v out at.lawful at.shown at.maker.1.fits }
