-- Lists of pages: their GPAs are apart, so that what one page's act does leaves the pages behind it as they were. What one
-- page's act keeps, the acts of all keep.
use Rattle.std.proofs.Common.{lit≤, ◌≡◌, refl, sym, ◌∙◌, subst, ap, ℕ, zero, suc, ◌+◌, ◌/◌, ◌<◌, ◌≤◌, List, [], ◌∷◌, ◌++◌, length, map, true, false, ◌==◌, arith}
use Rattle.std.specs.Prelude.{Option, Some, None, nat_le, flat_map}
use Rattle.std.proofs.lemmas.Bool.Decides.{nat_tests}
use Rattle.std.specs.List.{list_any}
use Rattle.std.proofs.lemmas.Bool.{eq-eqb, ne_eqb, not-true}
use Rattle.td_words.specs.declared.names.OpState.TheVariants as op
use Rattle.td_words.specs.declared.names.EntryState.{EntryState}
use Rattle.td_words.specs.declared.names.EntryState.TheVariants as entry
use Rattle.td_words.specs.declared.names.Mode.TheVariants.{Exclusive}
use Rattle.td_words.specs.declared.replies.Reply.{Reply}
use Rattle.td_words.specs.Packing.{Entry}
use Rattle.flat_core.specs.World.{World}
use Rattle.flat_core.specs.Row.{Item, Check, Try, Passes}
use Rattle.flat_core.specs.Conditions.{is_host, page_exclusive, host_page, td_shared, tree_shared, tree_exclusive, epoch_shared}
use Rattle.flat_core.specs.Effects.{begin_memory}
use Rattle.flat_core.specs.Tree.{page_of_gpa, number_at, entry_at, same_state, walk, state_in, has_page, named_page}
use Rattle.flat_core.specs.Tracking.{tracked_page}
use Rattle.flat_core.specs.ExportRows.{abortable_ops}
use Rattle.flat_core.specs.Sessions.{stream_page, stream_counter, has_stream, counter_room, other_epoch, About, make_bundle}
use Rattle.flat_core.specs.PageLists.{most_pages, page_count, gpas_from, Arrival, arrivals}
use Rattle.flat_core.specs.Inputs.{Input, stream_there, session_same, epoch_same, counter_due, tag_holds}
use Rattle.flat_core.specs.BundleRows.{exportable, page_to_export, tracked_in, export_conditions, about_pages, words_of_pages, export_page, export_each}
use Rattle.flat_core.specs.ImportRows.{filling_ops, importable, is_among, unlocked_page, page_to_fill, filled_page, page_filled, pages_to_fill, fill_page, take_in, take_each, import_conditions}
use Rattle.flat_core.specs.Lawful.{is_free}
use Rattle.flat_core.proofs.Tests.{by_test, same_self}
use Rattle.flat_core.proofs.Maps.{behind_walk, walk_passed}

-- what comes first in a row, and what comes behind it
pub passes_first : {R : Type 0} (xs ys : List (Item R)) → Passes (xs ++ ys) → Passes xs
passes_first [] ys ps = tt
passes_first (Check b r ∷ xs) ys ps = (ps.0, passes_first xs ys ps.1)
passes_first (Try l m ∷ xs) ys ps = passes_first xs ys ps

pub passes_behind : {R : Type 0} (xs ys : List (Item R)) → Passes (xs ++ ys) → Passes ys
passes_behind [] ys ps = ps
passes_behind (Check b r ∷ xs) ys ps = passes_behind xs ys ps.1
passes_behind (Try l m ∷ xs) ys ps = passes_behind xs ys ps

pub few_pages : (count : Option ℕ) → page_count count ≤ most_pages
few_pages None = omega arith
few_pages (Some n) = by_test (nat_le n most_pages) (λ y. rw y (within n y)) (λ y. rw y (omega arith))
  where
    within : (n : ℕ) → nat_le n most_pages ≡ true → n ≤ most_pages
    within n h = grind (arith, nat_tests)

pub gpas_many : (gpa count : ℕ) → length (gpas_from gpa count) ≡ count
gpas_many gpa zero = refl
gpas_many gpa (suc n) = ap suc (gpas_many (gpa + 4096) n)

pub list_fits : (gpa : ℕ) (count : Option ℕ) → length (gpas_from gpa (page_count count)) ≤ most_pages
list_fits gpa count = let few = few_pages count in let same = gpas_many gpa (page_count count) in omega (arith, few, same)

-- each of these GPAs has a greater number than n at level 0; and no two have the same one
abbrev pub AreAbove : ℕ → List ℕ → Type 0
AreAbove n [] = Unit {0}
AreAbove n (gpa ∷ gpas) = (n < number_at 0 gpa) × AreAbove n gpas

abbrev pub AreApart : List ℕ → Type 0
AreApart [] = Unit {0}
AreApart (gpa ∷ gpas) = AreAbove (number_at 0 gpa) gpas × AreApart gpas

next_number : (gpa : ℕ) → number_at 0 gpa < number_at 0 (gpa + 4096)
next_number gpa = omega arith

gpas_above : (n gpa count : ℕ) → n < number_at 0 gpa → AreAbove n (gpas_from gpa count)
gpas_above n gpa zero less = tt
gpas_above n gpa (suc k) less = (less, gpas_above n (gpa + 4096) k (let more = next_number gpa in omega (arith, less, more)))

pub gpas_apart : (gpa count : ℕ) → AreApart (gpas_from gpa count)
gpas_apart gpa zero = tt
gpas_apart gpa (suc n) = (gpas_above (number_at 0 gpa) (gpa + 4096) n (next_number gpa), gpas_apart (gpa + 4096) n)

pub arrivals_at : (gpa page : ℕ) (words : ℕ → ℕ) (count : ℕ) → map (λ a. a.gpa) (arrivals gpa page words count) ≡ gpas_from gpa count
arrivals_at gpa page words zero = refl
arrivals_at gpa page words (suc n) = ap (λ (gs : List ℕ). gpa ∷ gs) (arrivals_at (gpa + 4096) (page + 1) (λ i. words (512 + i)) n)

pub arrivals_apart : (gpa page : ℕ) (words : ℕ → ℕ) (count : ℕ) → AreApart (map (λ a. a.gpa) (arrivals gpa page words count))
arrivals_apart gpa page words count = subst AreApart (sym (arrivals_at gpa page words count)) (gpas_apart gpa count)

pub arrivals_many : (gpa page : ℕ) (words : ℕ → ℕ) (count : ℕ) → length (arrivals gpa page words count) ≡ count
arrivals_many gpa page words zero = refl
arrivals_many gpa page words (suc n) = ap suc (arrivals_many (gpa + 4096) (page + 1) (λ i. words (512 + i)) n)

apart_number : (n gpa : ℕ) → n < number_at 0 gpa → (number_at 0 gpa == n) ≡ false
apart_number n gpa less = ne_eqb (number_at 0 gpa) n (λ e. omega (arith, less, e))

-- Pages that are exported: the entry of each may be.
abbrev pub MayExport : World → (t gpa : ℕ) → Type 0
MayExport w t gpa = list_any (λ s. same_state s (entry_at w t 0 gpa).state) (exportable (w.tds.ops t)) ≡ true

abbrev pub AllMayExport : World → (t : ℕ) → List ℕ → Type 0
AllMayExport w t [] = Unit {0}
AllMayExport w t (gpa ∷ gpas) = MayExport w t gpa × AllMayExport w t gpas

pub all_may_export : (w : World) (t : ℕ) (gpas : List ℕ) → Passes (flat_map (page_to_export w t) gpas) → AllMayExport w t gpas
all_may_export w t [] ps = tt
all_may_export w t (gpa ∷ gpas) ps =
    let here = passes_first (page_to_export w t gpa) (flat_map (page_to_export w t) gpas) ps in
    let behind = behind_walk w t gpa 0
    (has_page w t gpa 0 ∷ named_page w t gpa 0 Exclusive ∷ state_in w t gpa 0 (exportable (w.tds.ops t)) ∷ other_epoch w t gpa ∷ []) here in
    (behind.1.0, all_may_export w t gpas (passes_behind (page_to_export w t gpa) (flat_map (page_to_export w t) gpas) ps))

-- one page's act leaves the entry of another
pub exported_beside : (w : World) (t k gpa other : ℕ) → (number_at 0 other == number_at 0 gpa) ≡ false
    → entry_at (export_page t k gpa w) t 0 other ≡ entry_at w t 0 other
exported_beside w t k gpa other apart = rw (same_self t, apart) refl

pub still_may : (w : World) (t k gpa : ℕ) (gpas : List ℕ) → AreAbove (number_at 0 gpa) gpas → AllMayExport w t gpas
    → AllMayExport (export_page t k gpa w) t gpas
still_may w t k gpa [] above may = tt
still_may w t k gpa (other ∷ gpas) above may = (
  subst (λ (e : Entry). list_any (λ s. same_state s e.state) (exportable (w.tds.ops t)) ≡ true)
      (sym (exported_beside w t k gpa other (apart_number (number_at 0 gpa) other above.0))) may.0,
  still_may w t k gpa gpas above.1 may.1,
)

-- what one page's act keeps where so many are left, all keep
pub each_exported : (t k : ℕ) (P : ℕ → World → Type 0) → ((n : ℕ) (w : World) (gpa : ℕ) → P (suc n) w → MayExport w t gpa → P n (export_page t k gpa w))
    → (gpas : List ℕ) (w : World) → AreApart gpas → AllMayExport w t gpas → P (length gpas) w → P 0 (export_each t k gpas w)
each_exported t k P one [] w apart may h = h
each_exported t k P one (gpa ∷ gpas) w apart may h =
    each_exported t k P one gpas (export_page t k gpa w) apart.1 (still_may w t k gpa gpas apart.0 may.1) (one (length gpas) w gpa h may.0)

-- Pages that come in: the entry above each maps, its own is FREE or MAPPED, and what is taken for a FREE one is the host's,
-- and none that the call has locked before.
pub record MayTake (w : World) (t : ℕ) (locked : List ℕ) (a : Arrival) : Type 0 where
  pub above : 0 < 3 → is_free (w.tds.entries t 1 (number_at 0 a.gpa / 512)).state ≡ false
  pub state : list_any (λ s. same_state s (entry_at w t 0 a.gpa).state) importable ≡ true
  pub host : (entry_at w t 0 a.gpa).state ≡ entry.Free → is_host w a.page ≡ true
  pub off : (entry_at w t 0 a.gpa).state ≡ entry.Free → is_among a.page locked ≡ false

abbrev pub AllMayTake : World → (t : ℕ) → (locked : List ℕ) → List Arrival → Type 0
AllMayTake w t locked [] = Unit {0}
AllMayTake w t locked (a ∷ pages) = MayTake w t locked a × AllMayTake w t (page_filled w t a ∷ locked) pages

-- the page that an entry's state asks for
unlocked : (w : World) (page : ℕ) (locked : List ℕ) → Passes (unlocked_page locked page ++ page_exclusive page ∷ host_page w page ∷ [])
    → (is_host w page ≡ true) × (is_among page locked ≡ false)
unlocked w page [] ps = (ps.0, refl)
unlocked w page (p ∷ locked) ps = (ps.1.0, not-true _ ps.0)

filling : (w : World) (t gpa page : ℕ) (locked : List ℕ) (s : EntryState) → Passes (page_to_fill w t locked gpa page s)
    → (s ≡ entry.Free → is_host w page ≡ true) × (s ≡ entry.Free → is_among page locked ≡ false)
filling w t gpa page locked entry.Free ps = let both = unlocked w page locked ps in (λ e. both.0, λ e. both.1)
filling w t gpa page locked entry.Mapped ps = (λ e. absurd cc, λ e. absurd cc)
filling w t gpa page locked entry.Blocked ps = (λ e. absurd cc, λ e. absurd cc)
filling w t gpa page locked entry.Pending ps = (λ e. absurd cc, λ e. absurd cc)
filling w t gpa page locked entry.PendingBlocked ps = (λ e. absurd cc, λ e. absurd cc)
filling w t gpa page locked entry.NlMapped ps = (λ e. absurd cc, λ e. absurd cc)
filling w t gpa page locked entry.NlBlocked ps = (λ e. absurd cc, λ e. absurd cc)
filling w t gpa page locked entry.BlockedW ps = (λ e. absurd cc, λ e. absurd cc)
filling w t gpa page locked entry.ExportedBlockedW ps = (λ e. absurd cc, λ e. absurd cc)
filling w t gpa page locked entry.ExportedDirty ps = (λ e. absurd cc, λ e. absurd cc)
filling w t gpa page locked entry.ExportedDirtyBlockedW ps = (λ e. absurd cc, λ e. absurd cc)

pub all_may_take : (w : World) (t : ℕ) (locked : List ℕ) (pages : List Arrival) (rest : List (Item Reply)) → Passes (pages_to_fill w t locked pages rest)
    → AllMayTake w t locked pages × Passes rest
all_may_take w t locked [] rest ps = (tt, ps)
all_may_take w t locked (a ∷ pages) rest ps =
    let s : EntryState = (entry_at w t 0 a.gpa).state in
    let more : List (Item Reply) = pages_to_fill w t (page_filled w t a ∷ locked) pages rest in
    let behind = walk_passed w t a.gpa (state_in w t a.gpa 0 importable ∷ (page_to_fill w t locked a.gpa a.page s ++ more)) 0 (lit≤ tt) ps in
    let page = filling w t a.gpa a.page locked s (passes_first (page_to_fill w t locked a.gpa a.page s) more behind.0.1) in
    let others = all_may_take w t (page_filled w t a ∷ locked) pages rest (passes_behind (page_to_fill w t locked a.gpa a.page s) more behind.0.1) in
    ((record { above = behind.1; state = behind.0.0; host = page.0; off = page.1 }, others.0), others.1)

-- what a page that comes in leaves: the entries of other GPAs, those above, and host pages but the one that is taken
fill_beside : (w : World) (t gpa page : ℕ) (ws : ℕ → ℕ) (s : EntryState) (n : ℕ) → (n == number_at 0 gpa) ≡ false
    → (fill_page t gpa page ws s w).tds.entries t 0 n ≡ w.tds.entries t 0 n
fill_beside w t gpa page ws entry.Free n apart = rw (same_self t, apart) refl
fill_beside w t gpa page ws _ n apart = refl

fill_above : (w : World) (t gpa page : ℕ) (ws : ℕ → ℕ) (s : EntryState) (n : ℕ) → (fill_page t gpa page ws s w).tds.entries t 1 n ≡ w.tds.entries t 1 n
fill_above w t gpa page ws entry.Free n = rw (same_self t) refl
fill_above w t gpa page ws _ n = refl

fill_hosts : (w : World) (t gpa page : ℕ) (ws : ℕ → ℕ) (s : EntryState) (named q : ℕ) → (q == filled_page page s named) ≡ false
    → is_host (fill_page t gpa page ws s w) q ≡ is_host w q
fill_hosts w t gpa page ws entry.Free named q apart = rw apart refl
fill_hosts w t gpa page ws _ named q apart = refl

off_head : (p q : ℕ) (qs : List ℕ) → is_among p (q ∷ qs) ≡ false → (p == q) ≡ false
off_head p q qs none = by_test (q == p) (λ y. absurd (let no : true ≡ false = rw y at none in cc))
    (λ n. ne_eqb p q (λ e. (let no : true ≡ false = sym (eq-eqb q p (sym e)) ∙ n in cc)))

off_tail : (p q : ℕ) (qs : List ℕ) → is_among p (q ∷ qs) ≡ false → is_among p qs ≡ false
off_tail p q qs none = by_test (q == p) (λ y. absurd (let no : true ≡ false = rw y at none in cc)) (λ n. rw n at none)

-- the page p is one of the locked ones
abbrev pub IsLocked : ℕ → List ℕ → Type 0
IsLocked p locked = (q : ℕ) → is_among q locked ≡ false → (q == p) ≡ false

pub locked_first : (p : ℕ) (locked : List ℕ) → IsLocked p (p ∷ locked)
locked_first p locked q none = off_head q p locked none

locked_more : (p r : ℕ) (locked : List ℕ) → IsLocked p locked → IsLocked p (r ∷ locked)
locked_more p r locked h q none = h q (off_tail q r locked none)

pub still_take : (w : World) (t : ℕ) (a : Arrival) (locked : List ℕ) (pages : List Arrival) → IsLocked (page_filled w t a) locked
    → AreAbove (number_at 0 a.gpa) (map (λ x. x.gpa) pages)
    → AllMayTake w t locked pages → AllMayTake (take_in t a w) t locked pages
still_take w t a locked [] mine above may = tt
still_take w t a locked (b ∷ pages) mine above may =
    let s : EntryState = (entry_at w t 0 a.gpa).state in
    let same : entry_at (take_in t a w) t 0 b.gpa ≡ entry_at w t 0 b.gpa = fill_beside w t a.gpa a.page a.words s (number_at 0 b.gpa)
    (apart_number (number_at 0 a.gpa) b.gpa above.0) in
    let up = fill_above w t a.gpa a.page a.words s (number_at 0 b.gpa / 512) in (
      record {
        above = λ low. subst (λ (e : Entry). is_free e.state ≡ false) (sym up) (may.0.above low);
        state = subst (λ (e : Entry). list_any (λ x. same_state x e.state) importable ≡ true) (sym same) may.0.state;
        host = λ free. (let was : (entry_at w t 0 b.gpa).state ≡ entry.Free = ap (λ (e : Entry). e.state) (sym same) ∙ free in
            fill_hosts w t a.gpa a.page a.words s (entry_at w t 0 a.gpa).page b.page (mine b.page (may.0.off was)) ∙ may.0.host was);
        off = λ free. may.0.off (ap (λ (e : Entry). e.state) (sym same) ∙ free);
      },
      subst (λ (e : Entry). AllMayTake (take_in t a w) t (filled_page b.page e.state e.page ∷ locked) pages) (sym same)
          (still_take w t a (page_filled w t b ∷ locked) pages (locked_more (page_filled w t a) (page_filled w t b) locked mine) above.1 may.1),
    )

-- what one page's act keeps, all keep, where something that doesn't hang on the world holds of each
abbrev pub EachIs : (Arrival → Type 0) → List Arrival → Type 0
EachIs Q [] = Unit {0}
EachIs Q (a ∷ pages) = Q a × EachIs Q pages

pub each_taken : (t : ℕ) (Q : Arrival → Type 0) (P : World → Type 0)
    → ((w : World) (locked : List ℕ) (a : Arrival) → P w → MayTake w t locked a → Q a → P (take_in t a w))
    → (pages : List Arrival) (w : World) (locked : List ℕ) → AreApart (map (λ a. a.gpa) pages) → AllMayTake w t locked pages → EachIs Q pages → P w
    → P (take_each t pages w)
each_taken t Q P one [] w locked apart may fit h = h
each_taken t Q P one (a ∷ pages) w locked apart may fit h =
    each_taken t Q P one pages (take_in t a w) (page_filled w t a ∷ locked) apart.1
    (still_take w t a (page_filled w t a ∷ locked) pages (locked_first (page_filled w t a) locked) apart.0 may.1) fit.1 (one w locked a h may.0 fit.0)

-- the world once EXPORT.MEM has made its bundle, before its pages are exported
abbrev pub made_first : (t gpa k slot : ℕ) → Option ℕ → World → World
made_first t gpa k slot count w =
    make_bundle t slot (about_pages w t k gpa count) (words_of_pages w t (gpas_from gpa (page_count count))) w

-- which leaves each of them as it may be exported
pub made_may : (w : World) (t slot : ℕ) (a : About) (words gpas : List ℕ) → AllMayExport w t gpas → AllMayExport (make_bundle t slot a words w) t gpas
made_may w t slot a words [] h = tt
made_may w t slot a words (g ∷ gs) h = (h.0, made_may w t slot a words gs h.1)

-- What no act of these pages changes: all but entries and streams, or entries, pages, words and guests' memories.
pub each_leaves : (t k : ℕ) (gpas : List ℕ) (w : World)
    → let v = export_each t k gpas w in v ≡ record w { tds = record (w.tds) { entries = v.tds.entries }; streams = v.streams }
each_leaves t k [] w = refl
each_leaves t k (gpa ∷ gpas) w = each_leaves t k gpas (export_page t k gpa w)

abbrev pub TakenAs : World → World → World
TakenAs w v = record w {
  pages = v.pages;
  words = v.words;
  tds = record (w.tds) { entries = v.tds.entries };
  hidden = record
      (w.hidden) { memories = v.hidden.memories };
}

take_leaves : (t : ℕ) (a : Arrival) (w : World) → take_in t a w ≡ TakenAs w (take_in t a w)
take_leaves t a w = by (entry_at w t 0 a.gpa).state
  where
    by : (s : EntryState) → let v = begin_memory t (page_of_gpa a.gpa) a.words (fill_page t a.gpa a.page a.words s w) in v ≡ TakenAs w v
    by entry.Free = refl
    by _ = refl

pub takes_leave : (t : ℕ) (pages : List Arrival) (w : World) → take_each t pages w ≡ TakenAs w (take_each t pages w)
takes_leave t [] w = refl
takes_leave t (a ∷ pages) w =
    takes_leave t pages (take_in t a w) ∙ ap (λ (v : World). TakenAs v (take_each t pages (take_in t a w))) (take_leaves t a w)

-- Without COUNT the rows ask what they ask of one page: no page was locked before it, and its block is the latest.
pub one_exported : (w : World) (t k gpa : ℕ) → export_conditions w t k (gpa ∷ [])
    ≡ td_shared w t abortable_ops ++ has_stream w t k ∷ tree_shared t ∷ epoch_shared t
    ∷ (page_to_export w t gpa ++ page_exclusive (stream_page w t k) ∷ counter_room w t k ∷ tracked_in (w.tds.ops t) w t (gpa ∷ []))
one_exported w t k gpa = refl

pub one_tracked : (w : World) (t gpa : ℕ) → tracked_in op.LiveExport w t (gpa ∷ []) ≡ tracked_page w t (entry_at w t 0 gpa).page ∷ []
one_tracked w t gpa = refl

pub one_taken : (w : World) (t : ℕ) (x : Input) (a : Arrival) → let h = x.header in import_conditions w t x (a ∷ [])
    ≡ td_shared w t filling_ops ++ tree_exclusive t ∷ stream_there w t h ∷ session_same w t h ∷ epoch_same w t h ∷ counter_due (stream_counter w t h.stream) h
    ∷ (walk w t a.gpa 0 ++ state_in w t a.gpa 0 importable ∷ (page_to_fill w t [] a.gpa a.page (entry_at w t 0 a.gpa).state ++ tag_holds x ∷ []))
one_taken w t x a = refl

pub one_free : (w : World) (t gpa page : ℕ) → page_to_fill w t [] gpa page entry.Free ≡ page_exclusive page ∷ host_page w page ∷ []
one_free w t gpa page = refl
