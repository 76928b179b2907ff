-- One more bundle that a TD imports: what is known of it where no tag is forged, and what it changes.
use Rattle.std.proofs.Common.{◌≡◌, ◌≢◌, refl, sym, ◌∙◌, ap, subst, ℕ, ◌+◌, ◌<◌, ◌≤◌, List, [], ◌∷◌, ◌++◌, length, Option, Some, None, Ok, Err, Bool, true, false, ◌==◌, ◌||◌, get_or, arith}
use Rattle.std.specs.Prelude.{Result}
use Rattle.std.specs.List.{All, list_any}
use Rattle.std.proofs.lemmas.Bool.{eqb-true, eq-eqb, ne_eqb, and_parts, and_left, and_right, ltb-true, eqb-false}
use Rattle.std.proofs.lemmas.List.{get_or-set_same, get_or-set_other}
use Rattle.std.proofs.lemmas.List.Elements.{All-cons, All-append}
use Rattle.std.proofs.lemmas.List.Folds.{list_any_none}
use Rattle.td_words.specs.declared.names.HeaderField.{HeaderField}
use Rattle.td_words.specs.declared.names.OpState.{OpState}
use Rattle.td_words.specs.declared.names.OpState.TheVariants as op
use Rattle.td_words.specs.declared.names.VcpuState.{VcpuState}
use Rattle.td_words.specs.declared.names.VcpuState.TheVariants as vcpu
use Rattle.td_words.specs.NameNumber.{op_number}
use Rattle.flat_core.specs.World.{World, ClearHeader, Made}
use Rattle.flat_core.specs.Opening.{Opening, Incoming}
use Rattle.flat_core.specs.Conditions.{same_vp_state}
use Rattle.flat_core.specs.Inputs.{Input, input_in, has_no_fault, fault_of_input, header_of_input, word_given}
use Rattle.flat_core.specs.ImportRows.{first_ops, filling_ops, td_state_ops, vp_state_ops, import_token_ops, commit_ops}
use Rattle.flat_core.specs.Lawful.{is_importing}
use Rattle.flat_core.proofs.Tests.{by_test}
use Rattle.mig_laws.specs.Ivs.{is_filling}
use Rattle.mig_laws.specs.Source.{known_words}
use Rattle.mig_laws.specs.WellMade.{is_of, is_token, IsBehind, AreWellMade}
use Rattle.mig_laws.specs.Imported.{is_imported, last_imported, one_more, counted_on, AreImported, IsNext}
use Rattle.mig_laws.specs.Image.{IsComplete, IsMade, Unforged}
use Rattle.mig_laws.specs.Imports.{counts_of, HasState, begins_epoch, ImportHolds}
use Rattle.mig_laws.proofs.Places.{by_places, at_place}
use Rattle.mig_laws.proofs.Joined.{IsPlaced, imported_of, not_imported, own_place, next_counter, behind_own}
use Rattle.mig_laws.proofs.Latest.{imports-stay-in-order}
use Rattle.mig_laws.proofs.Counts.{all_more, last_stays}

-- the bundle of an input that opens is one that the source made
pub record IsTaken (bundles : List Made) (x : Input) : Type 0 where
  pub before : List Made
  pub after : List Made
  pub bundle : Made
  pub place : bundles ≡ before ++ bundle ∷ after
  pub same : bundle.header ≡ x.header
  pub words : x.words ≡ word_given bundle.payload

module _ (o : Opening) (bundles : List Made) (unforged : Unforged o bundles) (slot : ℕ) where
  read : (i : Incoming) → o.bundles slot ≡ Some i → (r : Result ClearHeader HeaderField) → i.header ≡ r → has_no_fault (fault_of_input r) ≡ true → i.«opens» ≡ true → ((header_of_input r).kind == 6) ≡ false
      → IsMade (header_of_input r) i.payload bundles
  read i is (Ok h) e form opens kind = unforged slot i h is e opens kind
  read i is (Err f) e form opens kind = cc

  taken_at : (b : Option Incoming) → o.bundles slot ≡ b → has_no_fault (input_in b).fault ≡ true → (input_in b).tag_right ≡ true → ((input_in b).header.kind == 6) ≡ false → IsTaken bundles (input_in b)
  taken_at None is form opens kind = cc
  taken_at (Some i) is form opens kind =
      let m = read i is i.header refl form opens kind in
      record { before = m.before; after = m.after; bundle = m.bundle; place = m.place; same = m.same_header; words = ap word_given (sym m.same_words) }

  pub taken : let x = input_in (o.bundles slot) in has_no_fault x.fault ≡ true → x.tag_right ≡ true → (x.header.kind == 6) ≡ false → IsTaken bundles x
  taken = taken_at (o.bundles slot) refl

-- a kind that is asked for
pub only_kind : (k n : ℕ) → list_any (λ a. a == n) (k ∷ []) ≡ true → n ≡ k
only_kind k n h = sym (eqb-true k n (only (k == n) h))
  where
    only : (b : Bool) → list_any (λ x. x) (b ∷ []) ≡ true → b ≡ true
    only true e = refl
    only false e = cc

pub token_kind : (n : ℕ) → list_any (λ a. a == n) (4 ∷ 5 ∷ []) ≡ true → (n == 4 || n == 5) ≡ true
token_kind n h = by_test (4 == n)
    (λ y. subst (λ (z : ℕ). (z == 4 || z == 5) ≡ true) (eqb-true 4 n y) refl)
    (λ y. by_test (5 == n)
    (λ z. subst (λ (r : ℕ). (r == 4 || r == 5) ≡ true) (eqb-true 5 n z) refl)
    (λ z. absurd (let no : false ≡ true = rw (y, z) at h in cc)))

pub no_token : (n k : ℕ) → (k == 4 || k == 5) ≡ false → (n == 4 || n == 5) ≡ true → n ≡ k → ⊥
no_token n k off on e = let no : true ≡ false = sym on ∙ (ap (λ (z : ℕ). z == 4 || z == 5) e ∙ off) in cc

pub other_kind : (n k m : ℕ) → n ≡ k → (k == m) ≡ false → n ≡ m → ⊥
other_kind n k m is off e = let no : true ≡ false = sym (eq-eqb k m (sym is ∙ e)) ∙ off in cc

pub off_kind : (n k : ℕ) → (n ≡ k → ⊥) → (n == k) ≡ false
off_kind n k off = ne_eqb n k off

pub is_created : (s : VcpuState) → same_vp_state s vcpu.Created ≡ true → s ≡ vcpu.Created
is_created vcpu.Created h = refl
is_created _ h = cc

-- op states that a row of an import asks for
pub first_op : (s : OpState) → list_any (λ a. op_number a == op_number s) first_ops ≡ true → s ≡ op.Uninitialized
first_op op.Uninitialized h = refl
first_op _ h = cc

pub filling_fills : (s : OpState) → list_any (λ a. op_number a == op_number s) filling_ops ≡ true → (is_filling s ≡ true) × (s ≢ op.PostImport)
filling_fills op.MemoryImport h = (refl, λ e. cc)
filling_fills op.StateImport h = (refl, λ e. cc)
filling_fills _ h = cc

pub td_state_fills : (s : OpState) → list_any (λ a. op_number a == op_number s) td_state_ops ≡ true → (is_filling s ≡ true) × (s ≡ op.MemoryImport)
td_state_fills op.MemoryImport h = (refl, refl)
td_state_fills _ h = cc

pub vp_state_fills : (s : OpState) → list_any (λ a. op_number a == op_number s) vp_state_ops ≡ true → (is_filling s ≡ true) × (s ≡ op.StateImport)
vp_state_fills op.StateImport h = (refl, refl)
vp_state_fills _ h = cc

pub commit_fills : (s : OpState) → list_any (λ a. op_number a == op_number s) commit_ops ≡ true → (is_filling s ≡ true) × (s ≡ op.PostImport)
commit_fills op.PostImport h = (refl, refl)
commit_fills _ h = cc

pub token_fills : (b : Bool) (s : OpState) → list_any (λ a. op_number a == op_number s) (import_token_ops b) ≡ true → is_filling s ≡ true
token_fills true s h = (vp_state_fills s h).0
token_fills false s h = (filling_fills s h).0

pub fills_importing : (s : OpState) → is_filling s ≡ true → is_importing s ≡ true
fills_importing op.MemoryImport e = refl
fills_importing op.StateImport e = refl
fills_importing op.PostImport e = refl
fills_importing _ e = cc

-- whether one passes
pub any_at : (p : Made → Bool) (front back : List Made) (x : Made) → p x ≡ true → list_any p (front ++ x ∷ back) ≡ true
any_at p [] back x e = rw e refl
any_at p (y ∷ front) back x e = by_test (p y) (λ z. rw z refl) (λ z. rw (z, any_at p front back x e) refl)

any_more : (p q : Made → Bool) (xs : List Made) → ((x : Made) → p x ≡ true → q x ≡ true) → list_any p xs ≡ true → list_any q xs ≡ true
any_more p q [] h e = cc
any_more p q (x ∷ xs) h e = by_test (p x)
    (λ y. let now = h x y in rw now refl)
    (λ y. let later = any_more p q xs h (rw y at e) in by_test (q x) (λ z. rw z refl) (λ z. rw (z, later) refl))

-- what was imported is so still
still_imported : (s : ℕ) (counts : List ℕ) (k : ℕ) (x : Made) → k < length counts → is_imported s counts x ≡ true → is_imported s (one_more k counts) x ≡ true
still_imported s counts k x few e =
    let parts = and_parts (is_of s x) _ e in
    let less = ltb-true x.header.counter (get_or counts x.header.stream 0) parts.1 in
    imported_of s (one_more k counts) x parts.0 (by_test (x.header.stream == k)
    (λ y. let on = eqb-true x.header.stream k y in
    let more = get_or-set_same counts k (get_or counts k 0 + 1) 0 few in
    subst (λ (z : ℕ). x.header.counter < get_or (one_more k counts) z 0) (sym on) (let low : x.header.counter < get_or counts k 0 = subst (λ (z : ℕ). x.header.counter < get_or counts z 0) on less in omega (arith, more, low)))
    (λ y. let same = get_or-set_other counts k x.header.stream (get_or counts k 0 + 1) 0 (eqb-false x.header.stream k y) in omega (arith, same, less)))

-- One more bundle of a TD that is being imported, between those made before and after it
module _ (before after : List Made) (b : Made) (made : AreWellMade (before ++ b ∷ after)) (w v : World) (t : ℕ) (next : IsNext (w.tds.sessions t) (counts_of w t) b)
    (session : v.tds.sessions t ≡ w.tds.sessions t) (counts : counts_of v t ≡ one_more (counted_on b) (counts_of w t)) where
  abbrev bundles : List Made
  bundles = before ++ b ∷ after

  abbrev s : ℕ
  s = w.tds.sessions t

  abbrev was : List ℕ
  was = counts_of w t

  abbrev now : List ℕ
  now = one_more (counted_on b) (counts_of w t)

  pub now_imported : is_imported s now b ≡ true
  now_imported = subst (λ (k : ℕ). is_imported s (one_more k was) b ≡ true) (sym place.stream)
      (imported_of s (one_more b.header.stream was) b next.of_session (let more = get_or-set_same was b.header.stream (get_or was b.header.stream 0 + 1) 0 few in let same = next_counter s was 0 before after b made next in omega (arith, more, same)))
    where
      place : IsPlaced s before b
      place = own_place s was 0 before after b made next

      few : b.header.stream < length was
      few = subst (λ (k : ℕ). k < length was) place.stream next.stream

  -- what is to be said of it
  pub record IsOneMore (h : ImportHolds (before ++ b ∷ after) w t) : Type 0 where
    pub later : w.tds.mig_epochs t ≤ v.tds.mig_epochs t
    pub in_time : b.header.epoch ≤ v.tds.mig_epochs t
    pub epoch : v.tds.mig_epochs t ≢ 1 → list_any (begins_epoch s now (v.tds.mig_epochs t)) (before ++ b ∷ after) ≡ true
    pub pages : (n : ℕ) → known_words v t n ≡ last_imported s now n (before ++ b ∷ after)
    pub mrtd : v.tds.mrtds t ≡ w.tds.mrtds t
    pub expected : v.tds.vps_expected t ≡ w.tds.vps_expected t
    pub vps : v.tds.vps t ≡ w.tds.vps t
    pub still : (x : Made) → HasState w t x → HasState v t x
    pub own : HasState v t b
    pub complete : v.tds.ops t ≡ op.PostImport → IsComplete s now (before ++ b ∷ after)

  pub one_more_holds : (h : ImportHolds bundles w t) → IsOneMore h → ImportHolds bundles v t
  one_more_holds h k =
      record {
        have = as_now (λ q c. AreImported q c (v.tds.mig_epochs t) bundles) (imports-stay-in-order s was (w.tds.mig_epochs t) (v.tds.mig_epochs t) before after b made h.have next k.later k.in_time);
        tracked = λ first. as_now (λ q c. list_any (begins_epoch q c (v.tds.mig_epochs t)) bundles ≡ true) (k.epoch first);
        pages = λ n. as_now (λ q c. known_words v t n ≡ last_imported q c n bundles) (k.pages n);
        begun = record {
          before = h.begun.before;
          after = h.begun.after;
          first = h.begun.first;
          place = h.begun.place;
          of_session = subst (λ (q : ℕ). is_of q h.begun.first ≡ true) (sym session) h.begun.of_session;
          kind = h.begun.kind;
          mrtd = k.mrtd ∙ h.begun.mrtd;
          expected = k.expected ∙ h.begun.expected;
        };
        states = as_now (λ q c. All (λ x. is_imported q c x ≡ true → HasState v t x) bundles) (all_more s was 0 before after b made next (HasState w t) (HasState v t) k.still k.own h.states);
        few = subst (λ (e : ℕ). length (v.tds.vps t) ≤ e) (sym k.expected) (subst (λ (ps : List ℕ). length ps ≤ w.tds.vps_expected t) (sym k.vps) h.few);
        complete = λ e. as_now (λ q c. IsComplete q c bundles) (k.complete e);
      }
    where
      as_now : (P : ℕ → List ℕ → Type 0) → P s now → P (v.tds.sessions t) (counts_of v t)
      as_now P p = subst (λ (q : ℕ). P q (counts_of v t)) (sym session) (subst (λ (c : List ℕ). P s c) (sym counts) p)

  -- where the migration epoch stays
  pub same_epoch : (h : ImportHolds bundles w t) → v.tds.mig_epochs t ≡ w.tds.mig_epochs t → v.tds.mig_epochs t ≢ 1 → list_any (begins_epoch s now (v.tds.mig_epochs t)) bundles ≡ true
  same_epoch h same first = subst (λ (e : ℕ). list_any (begins_epoch s now e) bundles ≡ true) (sym same)
      (any_more (begins_epoch s was (w.tds.mig_epochs t)) (begins_epoch s now (w.tds.mig_epochs t)) bundles
      (λ x e. (let parts = and_parts (is_imported s was x) _ e in let still = still_imported s was (counted_on b) x next.stream parts.0 in rw (still, parts.1) refl))
      (h.tracked (λ e. first (same ∙ e))))

  -- where it has no page, and no page is given
  pub same_pages : (h : ImportHolds bundles w t) → (b.header.kind == 3) ≡ false → ((n : ℕ) → v.hidden.memories t n ≡ w.hidden.memories t n) → (n : ℕ) → known_words v t n ≡ last_imported s now n bundles
  same_pages h kind memories n =
      let known : known_words v t n ≡ known_words w t n = rw (memories n) refl in
      known ∙ (h.pages n ∙ sym (last_stays s was 0 before after b made next n (and_left (b.header.kind == 3) _ kind)))

-- The start token comes in a later migration epoch: one before it that begins the last epoch would be made before it, too late,
-- or after it, where pages alone are.
module _ (before after : List Made) (b : Made) (made : AreWellMade (before ++ b ∷ after)) (w : World) (t : ℕ) (h : ImportHolds (before ++ b ∷ after) w t) (next : IsNext (w.tds.sessions t) (counts_of w t) b) (kind : b.header.kind ≡ 5) where
  abbrev session : ℕ
  session = w.tds.sessions t

  abbrev old_counts : List ℕ
  old_counts = counts_of w t

  abbrev Begins : Made → Bool
  Begins = begins_epoch session old_counts (w.tds.mig_epochs t)

  is_token_is : is_token b ≡ true
  is_token_is = subst (λ (z : ℕ). (z == 4 || z == 5) ≡ true) (sym kind) refl

  none_begins : w.tds.mig_epochs t ≡ b.header.epoch → All (λ x. Begins x ≡ false) (before ++ b ∷ after)
  none_begins same = All-append (λ x. Begins x ≡ false) before (b ∷ after)
      (by_places (λ x. Begins x ≡ false) before (λ front back x is. by_test (is_imported session old_counts x)
      (λ y. and_right (is_imported session old_counts x) _ (and_right (is_token x) _ (ne_eqb x.header.epoch (w.tds.mig_epochs t) (λ e. (
      let place = own_place session old_counts 0 before after b made next in
      let less = (at_front front back x is place.behind (and_parts (is_of session x) _ y).0).token is_token_is in omega (arith, less, e, same))))))
      (λ y. and_left (is_imported session old_counts x) _ y)))
      (All-cons (λ x. Begins x ≡ false) b after
      (and_left (is_imported session old_counts b) _ (not_imported session old_counts b (λ e. let due = next_counter session old_counts 0 before after b made next in omega (arith, due))))
      (by_places (λ x. Begins x ≡ false) after (λ front back x is. by_test (is_imported session old_counts x)
      (λ y. and_right (is_imported session old_counts x) _ (and_left (is_token x) _ (
      let page = (behind_own session old_counts 0 before after b made next front back x is (and_parts (is_of session x) _ y).0).started kind in
      subst (λ (z : ℕ). (z == 4 || z == 5) ≡ false) (sym page) refl)))
      (λ y. and_left (is_imported session old_counts x) _ y))))
    where
      at_front : (front back : List Made) (x : Made) → before ≡ front ++ x ∷ back → All (λ a. is_of session a ≡ true → IsBehind b a) before → is_of session x ≡ true → IsBehind b x
      at_front front back x is all = at_place (λ a. is_of session a ≡ true → IsBehind b a) front back x (subst (All (λ a. is_of session a ≡ true → IsBehind b a)) is all)

  pub start_later : 1 < b.header.epoch → w.tds.mig_epochs t ≤ b.header.epoch → w.tds.mig_epochs t < b.header.epoch
  start_later some le = by_test (w.tds.mig_epochs t == b.header.epoch)
      (λ y. absurd (let same = eqb-true _ _ y in let any = h.tracked (λ e. omega (arith, e, same, some)) in let no : true ≡ false = sym any ∙ list_any_none Begins (before ++ b ∷ after) (none_begins same) in cc))
      (λ y. let off = eqb-false _ _ y in grind (arith, off, le))
