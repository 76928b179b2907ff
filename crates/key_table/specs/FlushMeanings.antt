-- The leaf that ends a flush means its row.
use Rattle.std.proofs.Common.{◌≡◌, ℕ, ◌+◌, ◌<◌, Bool, true, false, not, ◌==◌, nat_lt, List, [], ◌∷◌, length, Option, Some, None, refl, ap, sym, ◌∙◌, subst, inl, arith}
use Rattle.std.specs.Prelude.{slice_index}
use Rattle.std.specs.List.{list_any}
use Rattle.std.proofs.lemmas.Bool.{ltb-true}
use Rattle.std.proofs.lemmas.Bool.Decides.{nat_tests}
use Rattle.td_words.specs.declared.names.PageKind.TheVariants as kind
use Rattle.td_words.specs.declared.names.LifeState.TheVariants as life
use Rattle.td_words.specs.declared.names.Mode.TheVariants.{Exclusive}
use Rattle.td_words.specs.declared.machines.Machine.{Machine}
use Rattle.td_words.specs.declared.calls.Call.TheVariants as call
use Rattle.td_words.specs.declared.refusals.Status.TheVariants.{OperandInvalid}
use Rattle.td_words.specs.declared.replies.Reply.{Reply}
use Rattle.td_words.specs.declared.replies.Value.TheVariants as value
use Rattle.td_words.specs.declared.replies.Reply.TheVariants.{Done}
use Rattle.td_words.specs.NameNumber.{life_number}
use Rattle.td_words.specs.Packing.{FlushedOf, key_word}
use Rattle.td_words.specs.Place as place
use Rattle.flat_core.specs.World.{World}
use Rattle.flat_core.specs.Row.{Item}
use Rattle.flat_core.specs.Locks.{one_if}
use Rattle.flat_core.specs.Processor.{LockId}
use Rattle.flat_core.specs.KeyRows.{end_flush}
use Rattle.flat_core.specs.Conditions.{keys_exclusive, one_if_some, associated_in, associated_count, none_associated}
use Rattle.flat_core.specs.Lawful.{Lawful, IsAlive, IsPageOf}
use Rattle.word_rules.specs.Rules.{TdcsWord, Whole, KeepsNothing}
use Rattle.word_rules.specs.Lines.{in_lines}
use Rattle.word_rules.specs.Spots.{tdcs_classes, or_unused, is_current, is_empty}
use Rattle.word_rules.specs.Permissions.{Reads, Respects}
use Rattle.word_rules.specs.Cells.{Shows, associated_word, lock_word}
use Rattle.act_rules.proofs.Rows.{rows-respect}
use Rattle.leaf_engine.specs.declared.needs.Place.{Place}
use Rattle.leaf_engine.specs.Changes.{Put, changed}
use Rattle.leaf_engine.specs.Trees.{Tree, acts}
use Rattle.leaf_engine.specs.Means.{Instant, IsHkid, Means, Work, work_of, OfCall, MeansRow, hold}
use Rattle.leaf_parts.specs.Words.{page_told}
use Rattle.leaf_parts.specs.Vps.{vps_tree, apart_in}
use Rattle.leaf_parts.proofs.Acted.{opening}
use Rattle.leaf_parts.proofs.Checks.{tdr-row-means, tdr-load}
use Rattle.leaf_parts.proofs.Begun.{TwoControls, two-controls, page_alone, both_locks, holds-newest, alone-newest}
use Rattle.leaf_parts.proofs.Told.{page-back, tdcs-spot}
use Rattle.leaf_parts.proofs.Vps.{vp-shown, vp-spot}
use Rattle.leaf_parts.proofs.VpTrees.{vps-mean}
use Rattle.key_table.specs.Words.{key_number}
use Rattle.key_table.specs.EndTrees.{end_changes}
use Rattle.key_table.specs.FlushTrees.{flush_counted, free_vp, flush_vps, flush_rest, flushable, flush_task}
use Rattle.key_table.specs.Parts.{key_inside, key_lock_apart, alive_among}
use Rattle.key_table.specs.EndMeanings.{life_owed, ended_shown, slot_stays}

-- whether a virtual processor is associated, as its word says
one_said : (o : Option ℕ) → one_if (not (associated_word o == 0)) ≡ one_if_some o
one_said None = refl
one_said (Some lp) = (let no : (lp + 1 == 0) ≡ false = grind (arith, nat_tests) in rw no refl)

all_said : (associated : ℕ → Option ℕ) (vs : List ℕ) → apart_in (λ v. associated_word (associated v)) 0 vs ≡ associated_in associated vs
all_said associated [] = refl
all_said associated (v ∷ vs) = rw (one_said (associated v), all_said associated vs) refl

module _ (m : Machine) (c : Instant) (t : ℕ) (shown : Shows m c.memory.words c.memory.slots c.state) (la : Lawful m c.state.world) (a : nat_lt t m.pages ≡ true) (is : c.state.world.pages.kinds t ≡ kind.Tdr) (among : list_any (λ x. life_number x == life_number (c.state.world.tds.lives t)) flushable ≡ true) where
  abbrev w : World
  w = c.state.world

  abbrev locks : LockId → ℕ
  locks = lock_word c.state.lps c.state.lp_count

  abbrev work : Work
  work = work_of (OfCall (end_flush m t))

  abbrev items : List (Item Reply)
  items = none_associated c.state.world t ∷ keys_exclusive ∷ []

  abbrev h : ℕ
  h = c.state.world.tds.hkids t

  in_page : t < m.pages
  in_page = ltb-true t m.pages a

  own : w.pages.owners t ≡ t
  own = la.pages.tdr t is

  alive : IsAlive w.pages w.tds t
  alive = record { kind = is; life = alive_among flushable (w.tds.lives t) refl among }

  range : IsHkid m h
  range = la.keys.in_range t alive

  flush_respects : (associated_count w t == 0) ≡ true → Respects (hold c (both_locks t)) w ((end_flush m t).act w)
  flush_respects none = rows-respect (opening m) 0 (call.MngVpflushdone t) (hold c (both_locks t)) w la (a, (rw is refl, (among, (none, tt))))
      ((holds-newest t Exclusive c.kept, alone-newest t c.kept), ((refl, refl), tt))

  -- so many are associated
  ended : (associated_count w t == 0) ≡ true → Means m c work (both_locks t) (acts (Done value.Nothing) (end_changes m t h (FlushedOf t false) life.Blocked)) []
  ended none = (
    record {
      answers = record { reply_is = refl; cached_is = refl; enters_is = refl; notes_are = refl; tells_are = refl; bundles_are = refl };
      fills_allowed = tt;
      respects = flush_respects none;
      locks_stay = ((refl, λ x. x), ((refl, λ x. x), tt));
      shows = ended_shown m c.state c.memory t life.Blocked (FlushedOf t false) shown la alive (slot_stays m c.state c.memory t life.Blocked (FlushedOf t false) shown la alive);
    },
    (
      (key_inside m h, (KeepsNothing, rw (key_lock_apart m h range) (inl (refl, tt)), tt)),
      life_owed m c t life.Blocked (FlushedOf t false) (changed (Put (place.Key (key_number m h)) (key_word (FlushedOf t false))) c.memory) la in_page is,
    ),
  )

  counted-means : Means m c work (page_alone t) (flush_counted m t (associated_count w t)) items
  counted-means = (
    refl,
    λ e. refl,
    λ none. (
      refl,
      refl,
      record { in_machine = omega arith; at = refl; stands = tt; allowed = inl tt },
      tdr-load m c work (both_locks t) shown t 1 h is own in_page (omega arith) refl (inl (holds-newest t Exclusive c.kept, tt)) (λ k. acts (Done value.Nothing) (end_changes m t k (FlushedOf t false) life.Blocked)) [] (ended none),
    ),
  )

  counted : (n : ℕ) → n ≡ associated_count w t → Means m c work (page_alone t) (flush_counted m t n) items
  counted n e = subst (λ (x : ℕ). Means m c work (page_alone t) (flush_counted m t x) items) (sym e) counted-means

  -- with its two TDCX pages
  module _ (two : (length (c.state.world.tds.controls t) == 2) ≡ true) where
    abbrev x : TwoControls m c.state.world t
    x = two-controls m c.state.world t la alive two

    tdcs_reads : (i : ℕ) → or_unused (in_lines (tdcs_classes (is_current w t) (is_empty w t)) i) ≡ TdcsWord → Reads (hold c (page_alone t)) w (place.Word x.tdcs i) Whole
    tdcs_reads i e = rw (tdcs-spot w t i x.tdcs (x.root ∷ []) x.list x.tdcs_page, e) (inl (alone-newest t c.kept, tt))

    says : (v : ℕ) → IsPageOf w.pages t v kind.Tdvpr → v < m.pages → (c.memory.words (place.Word v 2) ≡ associated_word (w.vps.associated v)) × Reads (hold c (page_alone t)) w (place.Word v 2) Whole
    says v its v_in = (vp-shown m c.memory.words c.memory.slots c.state shown t alive.life v 2 its v_in (omega arith), rw (vp-spot w t v 2 its) (inl (alone-newest t c.kept, tt)))

    abbrev vps-from : ℕ → Tree
    vps-from p = vps_tree m.pages (free_vp (page_told m.pages p)) (flush_counted m t)

    with_tdcs : Means m c work (page_alone t) (flush_vps m t true) items
    with_tdcs =
        let first : slice_index (w.tds.controls t) 0 ≡ x.tdcs = ap (λ (cs : List ℕ). slice_index cs 0) x.list in
        let all : apart_in (λ v. associated_word (w.vps.associated v)) 0 (w.tds.vps t) ≡ associated_count w t = all_said w.vps.associated (w.tds.vps t) in
        tdr-load m c work (page_alone t) shown t 4 (slice_index (w.tds.controls t) 0) is own in_page (omega arith) refl (inl (holds-newest t Exclusive c.kept, tt)) vps-from items
        (subst (λ (p : ℕ). Means m c work (page_alone t) (vps_tree m.pages (free_vp p) (flush_counted m t)) items) (sym (ap (page_told m.pages) first ∙ page-back m.pages x.tdcs x.tdcs_in))
        (vps-mean m c work (page_alone t) items t la shown alive x tdcs_reads 2 0 (λ v. associated_word (w.vps.associated v)) (omega arith) says (flush_counted m t) (counted _ all)))

  flush_vps-means : (b : Bool) → (length (w.tds.controls t) == 2) ≡ b → Means m c work (page_alone t) (flush_vps m t b) items
  flush_vps-means true e = with_tdcs e
  flush_vps-means false e = (let none : w.tds.vps t ≡ [] = (la.beginnings.is_new t alive e).vps in counted 0 (sym (ap (associated_in w.vps.associated) none)))

  flush_rest-means : Means m c work (page_alone t) (flush_rest m t) items
  flush_rest-means = tdr-load m c work (page_alone t) shown t 3 (length (w.tds.controls t)) is own in_page (omega arith) refl (inl (holds-newest t Exclusive c.kept, tt)) (λ n. flush_vps m t (n == 2)) items (flush_vps-means (length (w.tds.controls t) == 2) refl)

pub flush-means : (p : Place) (t : ℕ) → MeansRow (flush_task p t)
flush-means p t = record {
  means = λ c at. tdr-row-means p.machine c (work_of (OfCall (end_flush p.machine t))) t at.lawful at.shown ((nat_lt t p.machine.pages, OperandInvalid 1) ∷ []) (λ a. ltb-true t p.machine.pages a.0) flushable (flush_rest p.machine t)
      (none_associated c.state.world t ∷ keys_exclusive ∷ []) (λ a is among. flush_rest-means p.machine c t at.shown at.lawful a.0 is among);
}
