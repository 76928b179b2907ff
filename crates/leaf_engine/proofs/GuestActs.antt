-- What the acts of a guest's operations leave, and what they answer.
use Rattle.std.proofs.Common.{◌≡◌, ◌⊎◌, inl, inr, ℕ, zero, suc, ◌≤◌, ◌+◌, ◌*◌, ◌/◌, ◌%◌, Bool, true, false, ◌==◌, List, [], ◌∷◌, map, length, Option, Some, None, refl, ap, sym, ◌∙◌, subst, arith}
use Rattle.std.specs.Prelude.{slice_index}
use Rattle.std.proofs.lemmas.Bool.{eq-eqb, ne_eqb}
use Rattle.td_words.specs.declared.names.PageKind.{PageKind}
use Rattle.td_words.specs.declared.names.LifeState.{LifeState}
use Rattle.td_words.specs.declared.names.LifeState.TheVariants as life
use Rattle.td_words.specs.NameNumber.{life_number}
use Rattle.td_words.specs.declared.names.EntryState.{EntryState}
use Rattle.td_words.specs.declared.names.EntryState.TheVariants as entry
use Rattle.td_words.specs.declared.names.LockName.TheVariants as name
use Rattle.td_words.specs.declared.names.Access.{Access}
use Rattle.td_words.specs.declared.names.Access.TheVariants.{Read, Write}
use Rattle.td_words.specs.declared.calls.GuestOp.{GuestOp}
use Rattle.td_words.specs.declared.replies.Outcome.{Outcome}
use Rattle.td_words.specs.declared.replies.Outcome.TheVariants.{EptViolation, Vmcall}
use Rattle.td_words.specs.declared.replies.Reply.{Reply}
use Rattle.td_words.specs.declared.replies.Reply.TheVariants.{Exited}
use Rattle.td_words.specs.Packing.{Entry}
use Rattle.td_words.specs.Place.{lock_place}
use Rattle.flat_core.specs.World.{World, put}
use Rattle.flat_core.specs.Locks.{one_if}
use Rattle.flat_core.specs.Processor.{Note, LoadNote, RtmrNote, ReportNote}
use Rattle.flat_core.specs.Opening.{Opening}
use Rattle.flat_core.specs.Row.{Item, Check, Try, OperationRow, Refuses, next}
use Rattle.flat_core.specs.Effects.{tell_words, pass_operation}
use Rattle.flat_core.specs.Tree.{same_state, may_read, may_write}
use Rattle.flat_core.specs.Guest.{ByRow, operation_of, goes_on, reach, is_pending_at, register_told}
use Rattle.flat_core.specs.Guests.{guest_locks}
use Rattle.flat_core.specs.Lawful.{is_free}
use Rattle.flat_core.proofs.Tests.{put_here}
use Rattle.flat_core.proofs.Operations.{operation_row, accepted}
use Rattle.lock_words.specs.LockWords.{TdStands}
use Rattle.word_rules.specs.Views.{named_by, rights_by}
use Rattle.leaf_engine.specs.Means.{exit_of, exit_item, operation_reply, LocksStay}
use Rattle.leaf_engine.specs.Guests.{named_page, is_right}
use Rattle.leaf_engine.specs.Doing.{outcome_of}
use Rattle.leaf_engine.specs.Standing.{IsOfGuest, is_behind}

-- TDs stay as far as the locks that VP.ENTER leaves to its guest are theirs, and so does the virtual processor's index
pub record KeepsTds (w w' : World) : Type 0 where
  pub controls : w'.tds.controls ≡ w.tds.controls
  pub kinds : w'.pages.kinds ≡ w.pages.kinds
  pub lives : w'.tds.lives ≡ w.tds.lives
  pub indexes : w'.vps.indexes ≡ w.vps.indexes

pub same-tds : (w : World) → KeepsTds w w
same-tds w = record { controls = refl; kinds = refl; lives = refl; indexes = refl }

td-stands : (w w' : World) (t : ℕ) → KeepsTds w w' → TdStands w t → TdStands w' t
td-stands w w' t k st = record {
  alive = record {
    kind = ap (λ (f : ℕ → PageKind). f t) k.kinds ∙ st.alive.kind;
    life = subst (λ (f : ℕ → LifeState). (life_number (f t) == life_number life.Teardown) ≡ false) (sym k.lives) st.alive.life;
  };
  has_tdcs = ap (λ (f : ℕ → List ℕ). length (f t) == 0) k.controls ∙ st.has_tdcs;
}

pub guest-locks-stay : (w w' : World) (t v : ℕ) → KeepsTds w w' → LocksStay w w' (guest_locks t v)
guest-locks-stay w w' t v k = ((refl, λ x. tt), ((ap (λ (f : ℕ → List ℕ). lock_place (slice_index (f t) 0) name.Op) k.controls, td-stands w w' t k), ((refl, λ x. tt), tt)))

-- of an operation that has completed, or is a VMCALL
pub record Passes (w w' : World) (v : ℕ) : Type 0 where
  pub keeps : KeepsTds w w'
  pub position : w'.vps.positions v ≡ w.vps.positions v + 1

passes : (w w' : World) (v : ℕ) → KeepsTds w w' → w'.vps.positions ≡ put w.vps.positions v (w.vps.positions v + 1) → Passes w w' v
passes w w' v k e = record { keeps = k; position = ap (λ (f : ℕ → ℕ). f v) e ∙ put_here w.vps.positions v (w.vps.positions v + 1) }

-- where an item fails the guest is left with an EPT violation
abbrev AreViolations : List (Item (Option Outcome)) → Type 0
AreViolations [] = Unit {0}
AreViolations (Check b out ∷ items) = ((gpa : ℕ) × ((access : Access) × (out ≡ Some (EptViolation gpa access)))) × AreViolations items
AreViolations (Try l m ∷ items) = AreViolations items

-- it answers nothing, or is a VMCALL
abbrev IsLeft : Option Outcome → Type 0
IsLeft out = (out ≡ None) ⊎ ((x : ℕ) × (out ≡ Some (Vmcall x)))

pub record IsRowOf (v : ℕ) (row : OperationRow) : Type 0 where
  pub items : (w : World) → AreViolations (row.items w)
  pub act : (w : World) → Passes w (tell_words (row.tells w) (row.act w)) v
  pub answer : (w : World) → IsLeft (row.answer w)

pub row-is : (o : Opening) (t v line : ℕ) (op : GuestOp) (row : OperationRow) → operation_of o t v line op ≡ ByRow row → IsRowOf v row
row-is o t v line op row e =
    operation_row o t v line (IsRowOf v)
    (λ r x. record { items = λ w. tt; act = λ w. passes w _ v (record { controls = refl; kinds = refl; lives = refl; indexes = refl }) refl; answer = λ w. inl refl })
    (λ r s. record { items = λ w. tt; act = λ w. passes w _ v (record { controls = refl; kinds = refl; lives = refl; indexes = refl }) refl; answer = λ w. inl refl })
    (λ r gpa. record { items = λ w. ((gpa, (Read, refl)), ((gpa, (Read, refl)), tt)); act = λ w. passes w _ v (record { controls = refl; kinds = refl; lives = refl; indexes = refl }) refl; answer = λ w. inl refl })
    (λ r gpa. record { items = λ w. ((gpa, (Write, refl)), ((gpa, (Write, refl)), tt)); act = λ w. passes w _ v (record { controls = refl; kinds = refl; lives = refl; indexes = refl }) refl; answer = λ w. inl refl })
    (λ gpa. record {
      items = λ w. ((gpa, (Write, refl)), ((gpa, (Write, refl)), tt));
      act = λ w. accepted (λ z. Passes w (tell_words [] (pass_operation v z)) v) (is_pending_at w t gpa) t gpa w
          (λ pends. passes w _ v (record { controls = refl; kinds = refl; lives = refl; indexes = refl }) refl) (λ stays. passes w _ v (record { controls = refl; kinds = refl; lives = refl; indexes = refl }) refl);
      answer = λ w. inl refl;
    })
    (λ i. record { items = λ w. tt; act = λ w. passes w _ v (record { controls = refl; kinds = refl; lives = refl; indexes = refl }) refl; answer = λ w. inl refl })
    (record { items = λ w. tt; act = λ w. passes w _ v (record { controls = refl; kinds = refl; lives = refl; indexes = refl }) refl; answer = λ w. inl refl })
    (λ r. record { items = λ w. tt; act = λ w. passes w _ v (record { controls = refl; kinds = refl; lives = refl; indexes = refl }) refl; answer = λ w. inr (register_told w v r, refl) }) op row e

pub reach-passes : (t v : ℕ) (access : Access) (r gpa page : ℕ) (w : World) → Passes w (reach t v access r gpa page w) v
reach-passes t v Read r gpa page w = passes w _ v (record { controls = refl; kinds = refl; lives = refl; indexes = refl }) refl
reach-passes t v Write r gpa page w = passes w _ v (record { controls = refl; kinds = refl; lives = refl; indexes = refl }) refl

-- what its leaf then answers

pub refused : (items : List (Item (Option Outcome))) (n : ℕ) (r : Reply) → AreViolations items → next (map exit_item items) n ≡ Refuses r → (is_behind r ≡ false) × IsOfGuest r
refused [] n r a e = cc
refused (Check true out ∷ items) n r a e = refused items n r a.1 e
refused (Check false out ∷ items) n r a e =
    let same : exit_of out ≡ r = cc in
    let is : Exited (EptViolation a.0.0 a.0.1.0) ≡ r = ap exit_of (sym a.0.1.1) ∙ same in
    subst (λ (z : Reply). (is_behind z ≡ false) × IsOfGuest z) is (refl, tt)
refused (Try l m ∷ items) zero r a e = cc
refused (Try l m ∷ items) (suc n) r a e = refused items n r a e

pub record IsAnswer (out : Option Outcome) (r : Reply) : Type 0 where
  pub behind : is_behind r ≡ true
  pub of_guest : IsOfGuest r
  pub is : outcome_of r ≡ out

pub completed : (notes : List Note) (tells : List ℕ) (out : Option Outcome) → IsLeft out → IsAnswer out (operation_reply notes tells out)
completed notes tells out (inr (x, e)) = subst (λ (z : Option Outcome). IsAnswer z (operation_reply notes tells z)) (sym e) (record { behind = refl; of_guest = tt; is = refl })
completed notes tells out (inl e) = subst (λ (z : Option Outcome). IsAnswer z (operation_reply notes tells z)) (sym e) (by notes tells)
  where
    by : (ns : List Note) (xs : List ℕ) → IsAnswer None (operation_reply ns xs None)
    by (LoadNote line gpa word ∷ ns) xs = record { behind = refl; of_guest = tt; is = refl }
    by (RtmrNote line index words ∷ ns) xs = record { behind = refl; of_guest = tt; is = refl }
    by (ReportNote line facts ∷ ns) xs = record { behind = refl; of_guest = tt; is = refl }
    by [] (x ∷ xs) = record { behind = refl; of_guest = tt; is = refl }
    by [] [] = record { behind = refl; of_guest = tt; is = refl }

-- what the load of an entry tells

abbrev Tells : ℕ → Bool → Type 0
Tells n b = (n == 1) ≡ b

tells-one : (n : ℕ) → n ≡ 1 → Tells n true
tells-one n e = eq-eqb n 1 e

tells-none : (n : ℕ) → n ≡ 0 → Tells n false
tells-none n e = ne_eqb n 1 (λ h. absurd (omega (arith, e, h)))

tells-node : (n : ℕ) (a b c : Bool) → Tells ((8 * n + (4 * one_if a + (2 * one_if b + one_if c))) / 4 % 2) a
tells-node n true true true = tells-one _ (omega arith)
tells-node n true true false = tells-one _ (omega arith)
tells-node n true false true = tells-one _ (omega arith)
tells-node n true false false = tells-one _ (omega arith)
tells-node n false true true = tells-none _ (omega arith)
tells-node n false true false = tells-none _ (omega arith)
tells-node n false false true = tells-none _ (omega arith)
tells-node n false false false = tells-none _ (omega arith)

tells-read : (n : ℕ) (a b c : Bool) → Tells ((8 * n + (4 * one_if a + (2 * one_if b + one_if c))) / 2 % 2) b
tells-read n true true true = tells-one _ (omega arith)
tells-read n true true false = tells-one _ (omega arith)
tells-read n true false true = tells-none _ (omega arith)
tells-read n true false false = tells-none _ (omega arith)
tells-read n false true true = tells-one _ (omega arith)
tells-read n false true false = tells-one _ (omega arith)
tells-read n false false true = tells-none _ (omega arith)
tells-read n false false false = tells-none _ (omega arith)

tells-write : (n : ℕ) (a b c : Bool) → Tells ((8 * n + (4 * one_if a + (2 * one_if b + one_if c))) % 2) c
tells-write n true true true = tells-one _ (omega arith)
tells-write n true true false = tells-none _ (omega arith)
tells-write n true false true = tells-one _ (omega arith)
tells-write n true false false = tells-none _ (omega arith)
tells-write n false true true = tells-one _ (omega arith)
tells-write n false true false = tells-none _ (omega arith)
tells-write n false false true = tells-one _ (omega arith)
tells-write n false false false = tells-none _ (omega arith)

small-bits : (a : Bool) → one_if a ≤ 1
small-bits true = omega arith
small-bits false = omega arith

tells-page : (n : ℕ) (a b c : Bool) → (8 * n + (4 * one_if a + (2 * one_if b + one_if c))) / 8 ≡ n
tells-page n a b c = (let x = small-bits a in let y = small-bits b in let z = small-bits c in omega (arith, x, y, z))

pub right-is : (access : Access) (level : ℕ) (e : Entry) → is_right access level (rights_by e) ≡ goes_on access level e
right-is access (suc level) e = tells-node (named_by e) (same_state e.state entry.NlMapped) (may_read e.state) (may_write e.state)
right-is Read zero e = tells-read (named_by e) (same_state e.state entry.NlMapped) (may_read e.state) (may_write e.state)
right-is Write zero e = tells-write (named_by e) (same_state e.state entry.NlMapped) (may_read e.state) (may_write e.state)

node-named : (st : EntryState) → same_state st entry.NlMapped ≡ true → is_free st ≡ false
node-named entry.Free h = cc
node-named _ h = refl

pub page-is : (access : Access) (level : ℕ) (e : Entry) → goes_on access (suc level) e ≡ true → named_page (rights_by e) ≡ e.page
page-is access level e on =
    let used : is_free e.state ≡ false = node-named e.state on in
    tells-page (named_by e) (same_state e.state entry.NlMapped) (may_read e.state) (may_write e.state) ∙ rw used refl
