-- The tables of header values say the same.
use Rattle.std.proofs.Common.{◌≡◌, refl, sym, ◌∙◌, subst, ℕ, ◌%◌, ◌^◌, ◌<◌, length, Option, Some, None, Result, Ok, Err, true, ◌==◌, nat_le, nat_lt, arith}
use Rattle.std.proofs.lemmas.Bool.{and_from, and_parts, eqb-true, eq-eqb, le-leb, lt-ltb, cond-true}
use Rattle.td_words.specs.declared.headers.Header.{Header}
use Rattle.td_words.specs.declared.names.HeaderField.{HeaderField}
use Rattle.flat_core.specs.Opening.{clear_header}
use Rattle.flat_core.specs.Inputs.{most_stream, most_index, most_info, most_gpa, fits_one, fits_version, has_values, fault_of_input}
use Rattle.flat_core.proofs.Tests.{by_test}
use Rattle.bundle_format.specs.declared.kinds.BundleKind.{BundleKind}
use Rattle.bundle_format.specs.declared.kinds.BundleKind.TheVariants as kind
use Rattle.bundle_format.specs.Kinds.{kind_of, allowed}
use Rattle.bundle_format.specs.Headers.{is_lawful, fits_kind, bundle_in}
use Rattle.bundle_format.proofs.Faults.{facts_of, within_of}
use Rattle.bundle_format.proofs.Spelled.{read_from}
use Rattle.incoming.specs.Opened.{opened_by}
use Rattle.image_laws.specs.Values.{AllowsAsMuch, TablesAgree, HasForm, LawfulHaveValues, fault_in, RowsFindFaultsOfBytes}

same_kind : (a b : BundleKind) → (let k : Option BundleKind = Some a in k ≡ Some b) → a ≡ b
same_kind a b e = cc

-- a number that is this one has this one's line
moved : (n c : ℕ) (a b : BundleKind) → AllowsAsMuch c (allowed a) → (n == c) ≡ true → (let k : Option BundleKind = Some a in k ≡ Some b) → AllowsAsMuch n (allowed b)
moved n c a b line y e =
    subst (λ (x : ℕ). AllowsAsMuch x (allowed b)) (sym (eqb-true n c y)) (subst (λ (k : BundleKind). AllowsAsMuch c (allowed k)) (same_kind a b e) line)

pub tables_agree : TablesAgree
tables_agree n k e =
    by_test (n == 0) (λ y. moved n 0 kind.ImmutableState k (record { stream = refl; index = refl; info = refl; gpa = refl }) y (rw y at e)) (λ n0.
    by_test (n == 1) (λ y. moved n 1 kind.TdState k (record { stream = refl; index = refl; info = refl; gpa = refl }) y (rw (n0, y) at e)) (λ n1.
    by_test (n == 2) (λ y. moved n 2 kind.VcpuState k (record { stream = refl; index = refl; info = refl; gpa = refl }) y (rw (n0, n1, y) at e)) (λ n2.
    by_test (n == 3) (λ y. moved n 3 kind.Memory k (record { stream = refl; index = refl; info = refl; gpa = refl }) y (rw (n0, n1, n2, y) at e)) (λ n3.
    by_test (n == 4) (λ y. moved n 4 kind.EpochToken k (record { stream = refl; index = refl; info = refl; gpa = refl }) y (rw (n0, n1, n2, n3, y) at e)) (λ n4.
    by_test (n == 5) (λ y. moved n 5 kind.StartToken k (record { stream = refl; index = refl; info = refl; gpa = refl }) y (rw (n0, n1, n2, n3, n4, y) at e)) (λ n5.
    by_test (n == 6) (λ y. moved n 6 kind.AbortToken k (record { stream = refl; index = refl; info = refl; gpa = refl }) y (rw (n0, n1, n2, n3, n4, n5, y) at e)) (λ n6.
    none (rw (n0, n1, n2, n3, n4, n5, n6) at e))))))))
  where
    none : {A : Type 0} → (let o : Option BundleKind = None in o ≡ Some k) → A
    none e = cc

-- what any kind allows of an epoch has 32 bits
short_epoch : (k : BundleKind) → (allowed k).epoch < 2 ^ 32
short_epoch kind.ImmutableState = omega arith
short_epoch kind.TdState = omega arith
short_epoch kind.VcpuState = omega arith
short_epoch kind.Memory = omega arith
short_epoch kind.EpochToken = omega arith
short_epoch kind.StartToken = omega arith
short_epoch kind.AbortToken = omega arith

-- a bundle of version 1 is no list
one_page : (h : Header) → h.version ≡ 1 → fits_version (clear_header h) ≡ fits_one h.kind h.info h.gpa
one_page h e = rw e refl

of_kind : (h : Header) (o : Option BundleKind) → is_lawful h ≡ true → kind_of h.kind ≡ o → fits_kind h o ≡ true → HasForm h × (has_values (clear_header h) ≡ true)
of_kind h None lawful is e = cc
of_kind h (Some k) lawful is e =
    let f = facts_of h lawful in
    let w = within_of h k e in
    let most = tables_agree h.kind k is in
    let epoch = short_epoch k in
    let values : has_values (clear_header h) ≡ true =
    and_from (nat_le h.stream (most_stream h.kind)) _ (le-leb h.stream (most_stream h.kind) (omega (arith, w.stream, most.stream)))
    (and_from (nat_le h.index (most_index h.kind)) _ (le-leb h.index (most_index h.kind) (omega (arith, w.index, most.index)))
    (and_from (fits_version (clear_header h)) _ (one_page h f.version
    ∙ and_from (nat_le h.info (most_info h.kind)) _ (le-leb h.info (most_info h.kind) (omega (arith, w.info, most.info)))
    (le-leb h.gpa (most_gpa h.kind) (omega (arith, w.gpa, most.gpa))))
    (and_from (h.gpa % 4096 == 0) _ (eq-eqb (h.gpa % 4096) 0 f.gpa)
    (and_from (nat_lt h.counter (2 ^ 32)) _ (lt-ltb h.counter (2 ^ 32) f.counter)
    (and_from (h.iv == h.counter) _ (eq-eqb h.iv h.counter f.iv)
    (and_from (nat_lt h.epoch (2 ^ 32)) _ (lt-ltb h.epoch (2 ^ 32) (omega (arith, w.epoch, epoch)))
    (and_from (nat_le 1 h.session) _ (le-leb 1 h.session f.some_session) (lt-ltb h.session (2 ^ 16) f.session)))))))) in
    (record { size = f.size; version = f.version; reserved = f.reserved; tag = f.tag; kind = k; named = is; epoch = w.epoch; total = w.total }, values)

formed : (h : Header) → HasForm h → has_values (clear_header h) ≡ true → is_lawful h ≡ true
formed h f e =
    let line = allowed f.kind in
    let most = tables_agree h.kind f.kind f.named in
    let a = and_parts (nat_le h.stream (most_stream h.kind)) _ e in
    let b = and_parts (nat_le h.index (most_index h.kind)) _ a.1 in
    let v = and_parts (fits_version (clear_header h)) _ b.1 in
    let c = and_parts (nat_le h.info (most_info h.kind)) _ (sym (one_page h f.version) ∙ v.0) in
    let g = and_parts (h.gpa % 4096 == 0) _ v.1 in
    let i = and_parts (nat_lt h.counter (2 ^ 32)) _ g.1 in
    let k = and_parts (h.iv == h.counter) _ i.1 in
    let l = and_parts (nat_lt h.epoch (2 ^ 32)) _ k.1 in
    let m = and_parts (nat_le 1 h.session) _ l.1 in
    let fits : fits_kind h (Some f.kind) ≡ true =
    and_from (nat_le h.stream line.stream) _ (subst (λ (n : ℕ). nat_le h.stream n ≡ true) most.stream a.0)
    (and_from (nat_le h.epoch line.epoch) _ (le-leb h.epoch line.epoch f.epoch)
    (and_from (nat_le h.index line.index) _ (subst (λ (n : ℕ). nat_le h.index n ≡ true) most.index b.0)
    (and_from (nat_le h.info line.info) _ (subst (λ (n : ℕ). nat_le h.info n ≡ true) most.info c.0)
    (and_from (nat_le h.gpa line.gpa) _ (subst (λ (n : ℕ). nat_le h.gpa n ≡ true) most.gpa c.1) (le-leb h.total line.total f.total))))) in
    and_from (h.size == 64) _ (eq-eqb h.size 64 f.size)
    (and_from (h.version == 1) _ (eq-eqb h.version 1 f.version)
    (and_from (h.reserved == 0) _ (eq-eqb h.reserved 0 f.reserved)
    (and_from (nat_lt h.counter (2 ^ 32)) _ i.0
    (and_from (h.iv == h.counter) _ k.0
    (and_from (nat_le 1 h.session) _ m.0
    (and_from (nat_lt h.session (2 ^ 16)) _ m.1
    (and_from (h.gpa % 4096 == 0) _ g.0
    (and_from (length h.tag == 16) _ (eq-eqb (length h.tag) 16 f.tag) (subst (λ (o : Option BundleKind). fits_kind h o ≡ true) (sym f.named) fits)))))))))

pub lawful_have_values : LawfulHaveValues
lawful_have_values h = (λ e. of_kind h (kind_of h.kind) e refl (facts_of h e).fits, formed h)

pub rows_find_faults : RowsFindFaultsOfBytes
rows_find_faults forward backward bytes fits = found (bundle_in bytes) refl
  where
    found : (r : Result Header HeaderField) → bundle_in bytes ≡ r → fault_of_input (opened_by forward backward bytes r).header ≡ fault_in r
    found (Ok h) is = cond-true (has_values (clear_header h)) _ _ ((lawful_have_values h).0 (read_from bytes h fits is).1.lawful).1
    found (Err f) is = refl
