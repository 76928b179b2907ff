-- The leaf that loads an entry in a guest's walk means that event.
use Rattle.std.proofs.Common.{◌≡◌, ℕ, zero, suc, ◌+◌, ◌*◌, ◌/◌, ◌%◌, ◌^◌, ◌<◌, ◌≤◌, Bool, true, false, ◌==◌, List, [], ◌∷◌, slice_index, refl, ap, sym, ◌∙◌, subst, inl, inr, lit<, arith}
use Rattle.td_words.specs.declared.names.Access.{Access}
use Rattle.td_words.specs.declared.names.Access.TheVariants.{Read, Write}
use Rattle.td_words.specs.declared.names.EntryState.{EntryState}
use Rattle.td_words.specs.declared.names.EntryState.TheVariants as entry
use Rattle.td_words.specs.declared.names.PageKind.TheVariants as kind
use Rattle.td_words.specs.declared.machines.Machine.{Machine}
use Rattle.td_words.specs.Packing.{Entry}
use Rattle.td_words.specs.Place as place
use Rattle.td_words.proofs.Unpacked.{packings}
use Rattle.flat_core.specs.World.{World}
use Rattle.flat_core.specs.Processor.{OfPage, OfOp, Translation}
use Rattle.flat_core.specs.Locks.{one_if}
use Rattle.flat_core.specs.Tree.{page_of_gpa, number_at, entry_at, same_state, may_read, may_write, allows}
use Rattle.flat_core.specs.Guest.{goes_on, cached_after}
use Rattle.flat_core.specs.Lawful.{Lawful, IsNodeOf, is_free}
use Rattle.flat_core.proofs.Maps.{not_free}
use Rattle.sept_walk.specs.SecureEpt.{index_at}
use Rattle.sept_walk.proofs.Meets.{split}
use Rattle.word_rules.specs.Guards.{Grip, Locked}
use Rattle.word_rules.specs.Rules.{TheRights, sees}
use Rattle.word_rules.specs.Views.{named_by, rights_by, of_entry, look}
use Rattle.word_rules.specs.Spots.{Spot, entry_class, runs_in}
use Rattle.word_rules.specs.Permissions.{MayAt, Sees}
use Rattle.word_rules.specs.Cells.{Shows}
use Rattle.word_rules.proofs.Conflicts.{respects-compose}
use Rattle.leaf_engine.specs.Facts.{GuestFits}
use Rattle.leaf_engine.specs.Trees.{Since}
use Rattle.leaf_engine.specs.Means.{Instant, Means, Work, work_of, OfWalk, IsEntryPage, cached_by, hold}
use Rattle.leaf_parts.proofs.Begun.{TwoControls, page-in}
use Rattle.sept_parts.specs.SeptPages.{HasEntry}
use Rattle.sept_parts.proofs.SeptTold.{named_at, said, entry-spot}
use Rattle.access_core.specs.RtmrMeanings.{running-controls}
use Rattle.access_core.specs.WalkTrees.{may_write_by, allows_by, goes_on_by, page_by, translation_by, walked, walk_tree, WalksMean, WalksAreTold}

-- what a load tells of an entry is what the entry says
bit-back : (b : Bool) → (one_if b == 1) ≡ b
bit-back true = refl
bit-back false = refl

bit-small : (b : Bool) → one_if b < 2
bit-small true = lit< tt
bit-small false = lit< tt

module _ (n on reads writes : ℕ) (a : on < 2) (b : reads < 2) (c : writes < 2) where
  abbrev packed : ℕ
  packed = 8 * n + (4 * on + (2 * reads + writes))

  writes-back : packed % 2 ≡ writes
  writes-back = omega (arith, c)

  reads-back : packed / 2 % 2 ≡ reads
  reads-back = omega (arith, b, c)

  on-back : packed / 4 % 2 ≡ on
  on-back = omega (arith, a, b, c)

  name-back : packed / 8 ≡ n
  name-back = omega (arith, a, b, c)

allowed-full : (access : Access) (s : EntryState) → allows s access ≡ true → is_free s ≡ false
allowed-full Read entry.Free h = cc
allowed-full Write entry.Free h = cc
allowed-full _ _ h = refl

module _ (e : Entry) where
  abbrev on : Bool
  on = same_state e.state entry.NlMapped

  writes-by : may_write_by (rights_by e) ≡ may_write e.state
  writes-by = ap (λ (n : ℕ). n == 1) (writes-back (named_by e) (one_if on) (one_if (may_read e.state)) (one_if (may_write e.state)) (bit-small on) (bit-small (may_read e.state)) (bit-small (may_write e.state))) ∙ bit-back (may_write e.state)

  allowed-by : (access : Access) → allows_by access (rights_by e) ≡ allows e.state access
  allowed-by Read = ap (λ (n : ℕ). n == 1) (reads-back (named_by e) (one_if on) (one_if (may_read e.state)) (one_if (may_write e.state)) (bit-small on) (bit-small (may_read e.state)) (bit-small (may_write e.state))) ∙ bit-back (may_read e.state)
  allowed-by Write = writes-by

  goes-on-by : (access : Access) (level : ℕ) → goes_on_by access level (rights_by e) ≡ goes_on access level e
  goes-on-by access zero = allowed-by access
  goes-on-by access (suc l) = ap (λ (n : ℕ). n == 1) (on-back (named_by e) (one_if on) (one_if (may_read e.state)) (one_if (may_write e.state)) (bit-small on) (bit-small (may_read e.state)) (bit-small (may_write e.state))) ∙ bit-back on

  named-by : is_free e.state ≡ false → page_by (rights_by e) ≡ e.page
  named-by full = name-back (named_by e) (one_if on) (one_if (may_read e.state)) (one_if (may_write e.state)) (bit-small on) (bit-small (may_read e.state)) (bit-small (may_write e.state)) ∙ rw full refl

  -- a translation is cached where a leaf entry allows the access
  abbrev cached : (tdr gpa : ℕ) → Translation
  cached t gpa = record { tdr = t; gpa_page = page_of_gpa gpa; page = e.page; may_write = may_write e.state }

  translation-by : (t gpa : ℕ) → is_free e.state ≡ false → translation_by t gpa (rights_by e) ≡ cached t gpa
  translation-by t gpa full =
      ap (λ (p : ℕ). record { tdr = t; gpa_page = page_of_gpa gpa; page = p; may_write = may_write_by (rights_by e) }) (named-by full)
      ∙ ap (λ (b : Bool). record { tdr = t; gpa_page = page_of_gpa gpa; page = e.page; may_write = b }) writes-by

gone-full : (access : Access) (level : ℕ) (e : Entry) → goes_on access level e ≡ true → is_free e.state ≡ false
gone-full access zero e goes = allowed-full access e.state goes
gone-full access (suc l) e goes = not_free e.state goes

pub walks-are-told : WalksAreTold
walks-are-told access level e = (goes-on-by e access level, λ goes. named-by e (gone-full access level e goes))

cached-same : (b : Bool) (level : ℕ) (x y : Translation) → (b ≡ true → x ≡ y) → cached_after b level x ≡ cached_after b level y
cached-same false level x y h = refl
cached-same true zero x y h = ap (λ (z : Translation). cached_after true zero z) (h refl)
cached-same true (suc l) x y h = refl

cached-is : (access : Access) (level gpa t : ℕ) (e : Entry) → (walked t access gpa level (rights_by e)).cached ≡ cached_by access level gpa t e
cached-is access level gpa t e =
    ap (λ (b : Bool). cached_after b level (translation_by t gpa (rights_by e))) (goes-on-by e access level)
    ∙ cached-same (goes_on access level e) level (translation_by t gpa (rights_by e)) (cached e t gpa) (λ goes. translation-by e t gpa (gone-full access level e goes))

-- an entry's page and rights may be seen by whoever holds P of the TDR page and O, in a TD that runs
module _ (g : Grip) (w : World) (t page named : ℕ) (tdr : g.has (Locked (OfPage t)) ≡ true) (op : g.has (Locked (OfOp t)) ≡ true) (runs : runs_in (w.tds.ops t) ≡ true) where
  rights-seen : (level : ℕ) → MayAt g (record { class = entry_class w t (suc level); td = t; page = page; named = named }) (λ c. sees c TheRights)
  rights-seen zero = rw runs (inr (inl (tdr, (op, tt))))
  rights-seen (suc l) = inr (inl (tdr, (op, tt)))

module _ (m : Machine) (c : Instant) (t v gpa : ℕ) (limit : m.pages ≤ 1024) (small : gpa < 2 ^ 47) (la : Lawful m c.state.world) (sh : Shows m c.memory.words c.memory.slots c.state) (fits : GuestFits c.state.world c.me c.kept t v) where
  abbrev w : World
  w = c.state.world

  pub z : TwoControls m w t
  z = running-controls m c t v la fits

  -- where the entry stands
  below-root : (level page : ℕ) → level < 3 → IsNodeOf w.pages t page kind.Ept (suc level) (number_at (suc level) gpa) → HasEntry m w t z.root page gpa level
  below-root level page below node = record { in_machine = page-in m w t page kind.Ept la node.page refl; node = inr (below, node) }

  in-root : (d page : ℕ) → w.tds.controls t ≡ d ∷ page ∷ [] → HasEntry m w t z.root page gpa 3
  in-root d page list =
      let root : page ≡ z.root = ap (λ (cs : List ℕ). slice_index cs 1) (sym list ∙ z.list) in
      record { in_machine = subst (λ (p : ℕ). p < m.pages) (sym root) z.root_in; node = inl (refl, root) }

  has-entry : (level page : ℕ) → level ≤ 3 → IsEntryPage w t level gpa page → HasEntry m w t z.root page gpa level
  has-entry zero page low at = below-root 0 page (lit< tt) at
  has-entry (suc zero) page low at = below-root 1 page (lit< tt) at
  has-entry (suc (suc zero)) page low at = below-root 2 page (lit< tt) at
  has-entry (suc (suc (suc zero))) page low at = in-root at.0 page at.1
  has-entry (suc (suc (suc (suc l)))) page low at = absurd (omega (arith, low))

  module _ (access : Access) (level page : ℕ) (has : HasEntry m w t z.root page gpa level) where
    abbrev e : Entry
    e = entry_at w t level gpa

    seen : Sees (hold c []) w (place.Word page (index_at level gpa)) TheRights
    seen =
        subst (λ (s : Spot). MayAt (hold c []) s (λ k. sees k TheRights)) (sym (entry-spot m c.memory c.state t sh fits.alive z gpa small page level has))
        (rights-seen (hold c []) w t page (named_at w t gpa level) fits.tdr_held fits.op_held fits.running level)

    told : look TheRights (c.memory.words (place.Word page (index_at level gpa))) ≡ rights_by e
    told =
        ap (look TheRights) (said m c.memory c.state t sh fits.alive z gpa small page level has)
        ∙ ap (of_entry rights_by) (packings.entry e (la.tree.entry limit t level (number_at level gpa)))

    abbrev k : Work
    k = work_of (OfWalk t v access gpa level page)

    walked-end : Means m c k [] (Since (walked t access gpa level (rights_by e)) []) []
    walked-end = (
      record {
        answers = record { reply_is = refl; cached_is = cached-is access level gpa t e; enters_is = refl; notes_are = refl; tells_are = refl; bundles_are = refl };
        fills_allowed = tt;
        respects = respects-compose.same (hold c []) w;
        locks_stay = tt;
        shows = sh;
      },
      tt,
    )

    pub walk-at : Means m c k [] (walk_tree t access gpa level page) []
    walk-at = (
      (has.in_machine, split.index level gpa),
      inr (inl (seen, refl)),
      subst (λ (n : ℕ). Means m c k [] (Since (walked t access gpa level n) []) []) (sym told) walked-end,
    )

pub walks-mean : WalksMean
walks-mean p t v access gpa level page limits small low = record {
  means = λ c at. (let fits = at.maker.1.fits in
      walk-at p.machine c t v gpa limits.pages.1 small at.lawful at.shown fits access level page (has-entry p.machine c t v gpa limits.pages.1 small at.lawful at.shown fits level page low at.maker.3));
}
