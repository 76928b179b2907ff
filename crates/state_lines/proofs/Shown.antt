-- What is read of a page from words that show a state is what is told of it.
use Rattle.std.proofs.Common.{◌≡◌, refl, ◌∙◌, ap, subst, ℕ, zero, suc, ◌+◌, ◌-◌, ◌%◌, ◌<◌, ◌^◌, ◌*◌, ◌++◌, List, [], ◌∷◌, length, Option, Some, None, Bool, true, false, ◌==◌, if◌then◌else◌, arith, slice_index, ◌&&◌}
use Rattle.std.proofs.lemmas.Bool.{eq-eqb, ne_eqb, lt-ltb}
use Rattle.td_words.specs.Limits.{IsMachine}
use Rattle.td_words.specs.Laws.{PackingsUndone}
use Rattle.td_words.specs.declared.machines.Machine.{Machine}
use Rattle.td_words.specs.declared.names.PageKind.{PageKind}
use Rattle.td_words.specs.declared.names.PageKind.TheVariants as kind
use Rattle.td_words.specs.declared.names.LifeState.{LifeState}
use Rattle.td_words.specs.declared.names.LifeState.TheVariants as life
use Rattle.td_words.specs.declared.names.VcpuState.{VcpuState}
use Rattle.td_words.specs.declared.names.VcpuState.TheVariants as vcpu
use Rattle.td_words.specs.declared.places.TheConstants.{TDR_LIFE, TDR_HKID, TDR_CHILDREN, TDR_TDCX_COUNT, TDR_TDCS, TDR_ROOT, TDCS_OP, TDCS_EPOCH, TDCS_ENTERED, TDCS_MIG_EPOCH, TDCS_SESSION, TDCS_VP_COUNT, TDCS_STREAM_COUNT, VP_INDEX, VP_STATE, VP_ASSOCIATED, VP_LAST_EPOCH, VP_POSITION, STREAM_COUNTER}
use Rattle.td_words.specs.NameNumber.{kind_number, life_number, vcpu_number}
use Rattle.td_words.specs.Packing.{Entry, pamt_in, is_lawful_pamt, entry_in, entry_word, is_lawful_entry}
use Rattle.td_words.specs.Place.{Pamt as PamtPlace, Word}
use Rattle.flat_core.specs.World.{World}
use Rattle.flat_core.specs.Processor.{LockId}
use Rattle.flat_core.specs.Conditions.{children, is_host_in}
use Rattle.flat_core.specs.Arguments.{level_size}
use Rattle.flat_core.specs.Lawful.{Lawful, IsAlive, IsPageOf, IsNodeOf, AreControls, is_free}
use Rattle.flat_core.specs.Event.{State}
use Rattle.field_lines.specs.declared.lines.Form.{Form}
use Rattle.word_rules.specs.Lines.{in_lines}
use Rattle.word_rules.specs.Cells.{IsAs, page_cell, lock_word, associated_word, if_stands, entered_of_parity, tdr_lines, td_lock_lines, tdcs_lines, vp_lines, stream_lines, entry_cell, root_cell, control_cell}
use Rattle.leaf_parts.specs.Words.{life_told, op_told}
use Rattle.leaf_parts.proofs.Told.{life-back, op-back}
use Rattle.state_lines.specs.declared.seen.TdcsSeen.{TdcsSeen}
use Rattle.state_lines.specs.declared.seen.TdSeen.{TdSeen}
use Rattle.state_lines.specs.declared.seen.VcpuSeen.{VcpuSeen}
use Rattle.state_lines.specs.declared.seen.StreamSeen.{StreamSeen}
use Rattle.state_lines.specs.declared.seen.Content.{Content}
use Rattle.state_lines.specs.declared.seen.Content.TheVariants as content
use Rattle.state_lines.specs.Laws.{AreShown}
use Rattle.state_lines.specs.Lines.{in_use, entry_lines, page_text}
use Rattle.state_lines.specs.StateText.{stands, entered_at, tdcs_of, tdcs_in, td_of, vcpu_of, stream_of, content_of, pamt_of, entry_seen, table_text, tree_of, page_seen}
use Rattle.state_lines.proofs.Texts.{same-texts}
use Rattle.state_lines.specs.WordText.{word_in, pamt_seen, tdcs_seen, tdcs_found, td_seen, lp_in, vcpu_seen, stream_seen, content_in, if_used, used_entry, entry_read, table_read, tree_from, root_in, tree_in, page_if, page_read, owner_if, owner_read, vcpu_told}

-- numbers read back

vcpu-back : (s : VcpuState) → vcpu_told (vcpu_number s) ≡ s
vcpu-back vcpu.Created = refl
vcpu-back vcpu.Ready = refl

lp-back : (a : Option ℕ) → lp_in (associated_word a) ≡ a
lp-back None = refl
lp-back (Some lp) = ap (λ (b : Bool). if b then None else Some (lp + 1 - 1)) (ne_eqb (lp + 1) 0 (λ z. absurd (omega (arith, z)))) ∙ ap (λ (n : ℕ). Some n) (omega arith)

-- what is told of a TD that isn't in TD_TEARDOWN
stands-alike : {A : Type 0} → (l : LifeState) (x y z : A) → ((life_number l == life_number life.Teardown) ≡ false → x ≡ y) → stands l x z ≡ stands l y z
stands-alike l x y z f = by (life_number l == life_number life.Teardown) f
  where
    by : (b : Bool) → (b ≡ false → x ≡ y) → (if b then z else x) ≡ (if b then z else y)
    by true g = refl
    by false g = g refl

still-there : (l : LifeState) (c : Option ℕ) → (life_number l == life_number life.Teardown) ≡ false → if_stands l c ≡ c
still-there l c a = ap (λ (b : Bool). if b then None else c) a

-- a PAMT entry that is lawful
lawful-if : (k : PageKind) (o e : ℕ) → o < 1024 → e < 2 ^ 32 → ((kind_number k == kind_number kind.Nda) ≡ true → (o ≡ 0) × (e ≡ 0)) → is_lawful_pamt (record { kind = k; owner = o; epoch = e }) ≡ true
lawful-if k o e small low host = rw (lt-ltb o 1024 small, lt-ltb e (2 ^ 32) low) (by (kind_number k == kind_number kind.Nda) host)
  where
    by : (b : Bool) → (b ≡ true → (o ≡ 0) × (e ≡ 0)) → (if b then (o == 0) && (e == 0) else true) ≡ true
    by true f = rw (eq-eqb o 0 (f refl).0, eq-eqb e 0 (f refl).1) refl
    by false f = refl

module _ (back : PackingsUndone) (m : Machine) (words : List ℕ) (s : State) (limits : IsMachine m) (lawful : Lawful m s.world) (shown : AreShown m words s) where
  abbrev w : World
  w = s.world

  abbrev locks : LockId → ℕ
  locks = lock_word s.lps s.lp_count

  -- a content word that is fixed by its page's kind and TD
  word-is : (p i : ℕ) (k : PageKind) (x : ℕ) → p < m.pages → i < 512 → w.pages.kinds p ≡ k → page_cell w locks (w.pages.owners p) p k i ≡ Some x → word_in words p i ≡ x
  word-is p i k x inside short is e =
      subst (λ (z : Option ℕ). IsAs z (word_in words p i)) (ap (λ (z : PageKind). page_cell w locks (w.pages.owners p) p z i) is ∙ e) (shown (Word p i) (inside, short))

  -- a page that isn't the host's is one of the machine, and so is its TDR page
  tdr-of : (p : ℕ) → is_host_in w.pages p ≡ false → w.pages.kinds (w.pages.owners p) ≡ kind.Tdr
  tdr-of p h = lawful.pages.owner p h

  not-host : (p : ℕ) (k : PageKind) → w.pages.kinds p ≡ k → (kind_number k == kind_number kind.Nda) ≡ false → is_host_in w.pages p ≡ false
  not-host p k is h = ap (λ (z : PageKind). kind_number z == kind_number kind.Nda) is ∙ h

  tdr-inside : (t : ℕ) → w.pages.kinds t ≡ kind.Tdr → t < m.pages
  tdr-inside t is = lawful.pages.in_machine t (not-host t kind.Tdr is refl)

  -- words of a TDR page

  life-is : (t : ℕ) → w.pages.kinds t ≡ kind.Tdr → life_told (word_in words t TDR_LIFE) ≡ w.tds.lives t
  life-is t is =
      let inside = tdr-inside t is in
      let own = lawful.pages.tdr t is in
      ap life_told (word-is t TDR_LIFE kind.Tdr (life_number (w.tds.lives t)) inside (omega arith) is (ap (λ (u : ℕ). Some (life_number (w.tds.lives u))) own)) ∙ life-back (w.tds.lives t)

  -- words of TDCS, the first control page of a TD that is alive

  module _ (t c : ℕ) (cs : List ℕ) (alive : (life_number (w.tds.lives t) == life_number life.Teardown) ≡ false) (first : w.tds.controls t ≡ c ∷ cs) (page : IsPageOf w.pages t c kind.Tdcx) where
    c-inside : c < m.pages
    c-inside = lawful.pages.in_machine c (not-host c kind.Tdcx page.kind refl)

    tdcs-word : (i x : ℕ) → i < 512 → in_lines (td_lock_lines locks t (tdcs_lines w t)) i ≡ Some x → word_in words c i ≡ x
    tdcs-word i x short e =
        word-is c i kind.Tdcx x c-inside short page.kind
        (ap (λ (u : ℕ). if_stands (w.tds.lives u) (control_cell w locks u c (w.tds.controls u) i)) page.owner
        ∙ (still-there (w.tds.lives t) (control_cell w locks t c (w.tds.controls t) i) alive
        ∙ (ap (λ (xs : List ℕ). control_cell w locks t c xs i) first
        ∙ (ap (λ (b : Bool). if b then in_lines (td_lock_lines locks t (tdcs_lines w t)) i else root_cell w t c cs i) (eq-eqb c c refl) ∙ e))))

    entered : (b : ℕ) → b < 2 → word_in words c (TDCS_ENTERED + b) ≡ entered_of_parity b w.vps.entered (w.tds.vps t)
    entered zero h = tdcs-word TDCS_ENTERED _ (omega arith) refl
    entered (suc zero) h = tdcs-word (TDCS_ENTERED + 1) _ (omega arith) refl
    entered (suc (suc b)) h = absurd (omega (arith, h))

    epoch-is : word_in words c TDCS_EPOCH ≡ w.tds.epochs t
    epoch-is = tdcs-word TDCS_EPOCH _ (omega arith) refl

    now-is : word_in words c (TDCS_ENTERED + word_in words c TDCS_EPOCH % 2) ≡ entered_at w t (w.tds.epochs t)
    now-is = ap (λ (e : ℕ). word_in words c (TDCS_ENTERED + e % 2)) epoch-is ∙ entered (w.tds.epochs t % 2) (omega arith)

    before-is : word_in words c (TDCS_ENTERED + (1 - word_in words c TDCS_EPOCH % 2)) ≡ entered_at w t (w.tds.epochs t + 1)
    before-is =
        ap (λ (e : ℕ). word_in words c (TDCS_ENTERED + (1 - e % 2))) epoch-is
        ∙ (ap (λ (b : ℕ). word_in words c (TDCS_ENTERED + b)) (other (w.tds.epochs t)) ∙ entered ((w.tds.epochs t + 1) % 2) (omega arith))
      where
        other : (e : ℕ) → 1 - e % 2 ≡ (e + 1) % 2
        other e = omega arith

    op-is : op_told (word_in words c TDCS_OP) ≡ w.tds.ops t
    op-is = ap op_told (tdcs-word TDCS_OP _ (omega arith) refl) ∙ op-back (w.tds.ops t)

    vcpus-is : word_in words c TDCS_VP_COUNT ≡ length (w.tds.vps t)
    vcpus-is = tdcs-word TDCS_VP_COUNT _ (omega arith) refl

    streams-is : word_in words c TDCS_STREAM_COUNT ≡ length (w.tds.streams t)
    streams-is = tdcs-word TDCS_STREAM_COUNT _ (omega arith) refl

    session-is : word_in words c TDCS_SESSION ≡ w.tds.sessions t
    session-is = tdcs-word TDCS_SESSION _ (omega arith) refl

    mig-epoch-is : word_in words c TDCS_MIG_EPOCH ≡ w.tds.mig_epochs t
    mig-epoch-is = tdcs-word TDCS_MIG_EPOCH _ (omega arith) refl

    tdcs-told : tdcs_seen words c ≡ tdcs_of w t c
    tdcs-told = λ i. record {
      page = c;
      op = op-is i;
      epoch = epoch-is i;
      entered = now-is i;
      entered_before = before-is i;
      vcpus = vcpus-is i;
      streams = streams-is i;
      session = session-is i;
      mig_epoch = mig-epoch-is i;
    }

  -- a TD by its TDR page

  module _ (t : ℕ) (is : w.pages.kinds t ≡ kind.Tdr) where
    tdr-word : (i : ℕ) (x : ℕ → ℕ) → i < 512 → ((u : ℕ) → in_lines (tdr_lines w u) i ≡ Some (x u)) → word_in words t i ≡ x t
    tdr-word i x short e = word-is t i kind.Tdr (x t) (tdr-inside t is) short is (e (w.pages.owners t) ∙ ap (λ (u : ℕ). Some (x u)) (lawful.pages.tdr t is))

    count-is : word_in words t TDR_TDCX_COUNT ≡ length (w.tds.controls t)
    count-is = tdr-word TDR_TDCX_COUNT (λ u. length (w.tds.controls u)) (omega arith) (λ u. refl)

    tdcs-page : word_in words t TDR_TDCS ≡ slice_index (w.tds.controls t) 0
    tdcs-page = tdr-word TDR_TDCS (λ u. slice_index (w.tds.controls u) 0) (omega arith) (λ u. refl)

    hkid-is : word_in words t TDR_HKID ≡ w.tds.hkids t
    hkid-is = tdr-word TDR_HKID w.tds.hkids (omega arith) (λ u. refl)

    children-is : word_in words t TDR_CHILDREN ≡ children w t
    children-is = tdr-word TDR_CHILDREN (children w) (omega arith) (λ u. refl)

    first-page : (c : ℕ) (cs : List ℕ) → AreControls w.pages t (c ∷ cs) → IsPageOf w.pages t c kind.Tdcx
    first-page c [] h = h
    first-page c (r ∷ []) h = h.0
    first-page c (r ∷ x ∷ cs) h = absurd h

    tdcs-is : (cs : List ℕ) → w.tds.controls t ≡ cs → tdcs_found words t ≡ tdcs_in w t cs
    tdcs-is [] e = ap (λ (n : ℕ). if n == 0 then None else stands (life_told (word_in words t TDR_LIFE)) (Some (tdcs_seen words (word_in words t TDR_TDCS % 65536))) None) (count-is ∙ ap length e)
    tdcs-is (c ∷ cs) e =
        let some : (word_in words t TDR_TDCX_COUNT == 0) ≡ false = ne_eqb _ _ (λ z. absurd (let n : word_in words t TDR_TDCX_COUNT ≡ length (c ∷ cs) = count-is ∙ ap length e in omega (arith, n, z))) in
        ap (λ (b : Bool). if b then None else stands (life_told (word_in words t TDR_LIFE)) (Some (tdcs_seen words (word_in words t TDR_TDCS % 65536))) None) some
        ∙ (ap (λ (l : LifeState). stands l (Some (tdcs_seen words (word_in words t TDR_TDCS % 65536))) None) (life-is t is)
        ∙ stands-alike (w.tds.lives t) _ _ None (λ alive. told alive))
      where
        told : (life_number (w.tds.lives t) == life_number life.Teardown) ≡ false → Some (tdcs_seen words (word_in words t TDR_TDCS % 65536)) ≡ Some (tdcs_of w t c)
        told alive =
            let page = first-page c cs (subst (λ (xs : List ℕ). AreControls w.pages t xs) e (lawful.tds.controls t (record { kind = is; life = alive }))) in
            let inside : c < m.pages = c-inside t c cs alive e page in
            let at : word_in words t TDR_TDCS ≡ c = tdcs-page ∙ ap (λ (xs : List ℕ). slice_index xs 0) e in
            let whole : word_in words t TDR_TDCS % 65536 ≡ c = omega (arith, at, inside, limits.pages) in
            ap (λ (n : ℕ). Some (tdcs_seen words n)) whole ∙ ap (λ (z : TdcsSeen). Some z) (tdcs-told t c cs alive e page)

    tdcs-found-is : tdcs_found words t ≡ tdcs_in w t (w.tds.controls t)
    tdcs-found-is = tdcs-is (w.tds.controls t) refl

    lives-is : life_told (word_in words t TDR_LIFE) ≡ w.tds.lives t
    lives-is = life-is t is

    td-told : td_seen words t ≡ td_of w t
    td-told = λ i. record { life = lives-is i; hkid = hkid-is i; children = children-is i; tdcs = tdcs-found-is i }

  -- virtual processors and streams of a TD that is alive

  module _ (p : ℕ) (inside : p < m.pages) (alive : (life_number (w.tds.lives (w.pages.owners p)) == life_number life.Teardown) ≡ false) where
    vp-word : (i x : ℕ) → i < 512 → w.pages.kinds p ≡ kind.Tdvpr → in_lines (vp_lines w p) i ≡ Some x → word_in words p i ≡ x
    vp-word i x short is e = word-is p i kind.Tdvpr x inside short is (still-there (w.tds.lives (w.pages.owners p)) (in_lines (vp_lines w p) i) alive ∙ e)

    vcpu-told : w.pages.kinds p ≡ kind.Tdvpr → vcpu_seen words p ≡ vcpu_of w p
    vcpu-told is =
        let index = vp-word VP_INDEX _ (omega arith) is refl in
        let state : vcpu_told (word_in words p VP_STATE) ≡ w.vps.states p = ap vcpu_told (vp-word VP_STATE _ (omega arith) is refl) ∙ vcpu-back (w.vps.states p) in
        let position = vp-word VP_POSITION _ (omega arith) is refl in
        let associated : lp_in (word_in words p VP_ASSOCIATED) ≡ w.vps.associated p = ap lp_in (vp-word VP_ASSOCIATED _ (omega arith) is refl) ∙ lp-back (w.vps.associated p) in
        let last = vp-word VP_LAST_EPOCH _ (omega arith) is refl in
        λ i. record { index = index i; state = state i; position = position i; associated = associated i; last_epoch = last i }

    stream-word : (i x : ℕ) → i < 512 → w.pages.kinds p ≡ kind.Migsc → in_lines (stream_lines w p) i ≡ Some x → word_in words p i ≡ x
    stream-word i x short is e = word-is p i kind.Migsc x inside short is (still-there (w.tds.lives (w.pages.owners p)) (in_lines (stream_lines w p) i) alive ∙ e)

    stream-told : w.pages.kinds p ≡ kind.Migsc → stream_seen words p ≡ stream_of w p
    stream-told is =
        let counter = stream-word STREAM_COUNTER _ (omega arith) is refl in
        λ i. record { counter = counter i }

  content-told : (p : ℕ) (k : PageKind) → p < m.pages → w.pages.kinds p ≡ k → content_in words p (w.pages.owners p) k ≡ content_of w p k
  content-told p kind.Nda inside is = refl
  content-told p kind.Reg inside is = refl
  content-told p kind.Tdr inside is = ap (λ (z : TdSeen). content.Td z) (td-told p is)
  content-told p kind.Tdcx inside is = refl
  content-told p kind.Tdvpr inside is =
      ap (λ (l : LifeState). stands l (content.Vcpu (vcpu_seen words p)) content.Nothing) (life-is (w.pages.owners p) (tdr-of p (not-host p kind.Tdvpr is refl)))
      ∙ stands-alike (w.tds.lives (w.pages.owners p)) _ _ content.Nothing (λ alive. ap (λ (z : VcpuSeen). content.Vcpu z) (vcpu-told p inside alive is))
  content-told p kind.Ept inside is = refl
  content-told p kind.Migsc inside is =
      ap (λ (l : LifeState). stands l (content.Stream (stream_seen words p)) content.Nothing) (life-is (w.pages.owners p) (tdr-of p (not-host p kind.Migsc is refl)))
      ∙ stands-alike (w.tds.lives (w.pages.owners p)) _ _ content.Nothing (λ alive. ap (λ (z : StreamSeen). content.Stream z) (stream-told p inside alive is))

  -- the PAMT

  owner-small : (p : ℕ) → (b : Bool) → is_host_in w.pages p ≡ b → w.pages.owners p < 1024
  owner-small p true h = (let e = (lawful.pages.host p h).0 in omega (arith, e))
  owner-small p false h = (let less = tdr-inside (w.pages.owners p) (tdr-of p h) in omega (arith, less, limits.pages))

  pamt-read : (p : ℕ) → p < m.pages → pamt_seen words p ≡ Some (pamt_of w p)
  pamt-read p inside =
      ap pamt_in (shown (PamtPlace p) inside)
      ∙ back.pamt (pamt_of w p) (lawful-if (w.pages.kinds p) (w.pages.owners p) (w.pages.blocked p) (owner-small p (is_host_in w.pages p) refl) (lawful.pages.blocked p) (λ h. lawful.pages.host p h))

  -- a TD's secure EPT: the entries in a page are those of its node

  entry-is : (p i : ℕ) (e : Entry) → is_lawful_entry e ≡ true → word_in words p i ≡ entry_word e → used_entry words p i ≡ in_use e
  entry-is p i e lawful_is is = ap (λ (n : ℕ). if_used (entry_in n)) is ∙ ap if_used (back.entry e lawful_is)

  abbrev HasEntries : (t l n p : ℕ) → Type 0
  HasEntries t l n p = (i : ℕ) → i < 512 → word_in words p i ≡ entry_word (w.tds.entries t l (512 * n + i))

  module _ (form : Form) (t : ℕ) (alive : IsAlive w.pages w.tds t) where
    node-entries : (l n p : ℕ) → IsNodeOf w.pages t p kind.Ept (suc l) n → HasEntries t l n p
    node-entries l n p is i short =
        word-is p i kind.Ept _ (lawful.pages.in_machine p (not-host p kind.Ept is.page.kind refl)) short is.page.kind
        (ap (λ (u : ℕ). if_stands (w.tds.lives u) (entry_cell w u (w.pages.levels p) (w.pages.numbers p) i)) is.page.owner
        ∙ (still-there (w.tds.lives t) (entry_cell w t (w.pages.levels p) (w.pages.numbers p) i) alive.life
        ∙ (ap (λ (z : ℕ). entry_cell w t z (w.pages.numbers p) i) is.level_is ∙ ap (λ (z : ℕ). entry_cell w t (suc l) z i) is.number_is)))

    root-entries : (c r : ℕ) → w.tds.controls t ≡ c ∷ r ∷ [] → IsPageOf w.pages t r kind.Tdcx → (c == r) ≡ false → HasEntries t 3 0 r
    root-entries c r two is apart i short =
        word-is r i kind.Tdcx _ (lawful.pages.in_machine r (not-host r kind.Tdcx is.kind refl)) short is.kind
        (ap (λ (u : ℕ). if_stands (w.tds.lives u) (control_cell w locks u r (w.tds.controls u) i)) is.owner
        ∙ (still-there (w.tds.lives t) (control_cell w locks t r (w.tds.controls t) i) alive.life
        ∙ (ap (λ (xs : List ℕ). control_cell w locks t r xs i) two
        ∙ (ap (λ (b : Bool). if b then in_lines (td_lock_lines locks t (tdcs_lines w t)) i else root_cell w t r (r ∷ []) i) apart
        ∙ ap (λ (b : Bool). if b then entry_cell w t 4 0 i else None) (eq-eqb r r refl)))))

    abbrev entry_of : (l n i : ℕ) → Entry
    entry_of l n i = w.tds.entries t l (512 * n + i)

    entries-alike : (l n p i g : ℕ) → word_in words p i ≡ entry_word (entry_of l n i)
        → (is_free (entry_of l n i).state ≡ false → table_read form words t l (entry_of l n i).page (g + level_size l * i) ≡ table_text form w t l (512 * n + i) (g + level_size l * i))
        → entry_read form words (λ q at. table_read form words t l q at) t l p g i ≡ entry_seen form w (λ m at. table_text form w t l m at) t l n g i
    entries-alike l n p i g is below =
        ap (λ (o : Option Entry). entry_lines form t l (g + level_size l * i) (λ e. table_read form words t l e.page (g + level_size l * i)) o) (entry-is p i (entry_of l n i) (lawful.tree.entry limits.pages.1 t l (512 * n + i)) is)
        ∙ by (is_free (entry_of l n i).state) below
      where
        by : (b : Bool) → (b ≡ false → table_read form words t l (entry_of l n i).page (g + level_size l * i) ≡ table_text form w t l (512 * n + i) (g + level_size l * i))
            → entry_lines form t l (g + level_size l * i) (λ e. table_read form words t l e.page (g + level_size l * i)) (if b then None else Some (entry_of l n i))
            ≡ entry_lines form t l (g + level_size l * i) (λ e. table_text form w t l (512 * n + i) (g + level_size l * i)) (if b then None else Some (entry_of l n i))
        by true f = refl
        by false f = ap (λ (xs : List ℕ). entry_lines form t l (g + level_size l * i) (λ e. xs) (Some (entry_of l n i))) (f refl)

    -- the page that a used entry names is the node below it
    table-told : (l n p g : ℕ) → HasEntries t l n p → table_read form words t (suc l) p g ≡ table_text form w t (suc l) n g
    unfolding table_read table_text
    table-told zero n p g h = same-texts _ _ 512 (λ i short. entries-alike zero n p i g (h i short) (λ used. refl))
    table-told (suc k) n p g h =
        same-texts _ _ 512
        (λ i short. entries-alike (suc k) n p i g (h i short)
        (λ used. table-told k (512 * n + i) (entry_of (suc k) n i).page (g + level_size (suc k) * i) (node-entries k (512 * n + i) (entry_of (suc k) n i).page (lawful.tree.upper t k (512 * n + i) alive used).1)))

  -- from the root on
  module _ (form : Form) (t : ℕ) (is : w.pages.kinds t ≡ kind.Tdr) where
    abbrev root_word : ℕ
    root_word = word_in words t TDR_ROOT % 65536

    root-told : (c r : ℕ) → w.tds.controls t ≡ c ∷ r ∷ [] → (b : Bool) → (life_number (w.tds.lives t) == life_number life.Teardown) ≡ b
        → tree_from form words t (if b then None else Some root_word) ≡ (if b then [] else table_text form w t 4 0 0)
    root-told c r two true e = refl
    root-told c r two false e =
        let alive : IsAlive w.pages w.tds t = record { kind = is; life = e } in
        let pages = subst (λ (xs : List ℕ). AreControls w.pages t xs) two (lawful.tds.controls t alive) in
        let at : word_in words t TDR_ROOT ≡ r = tdr-word t is TDR_ROOT (λ u. slice_index (w.tds.controls u) 1) (omega arith) (λ u. refl) ∙ ap (λ (xs : List ℕ). slice_index xs 1) two in
        let less : r < m.pages = lawful.pages.in_machine r (not-host r kind.Tdcx pages.1.kind refl) in
        let whole : root_word ≡ r = omega (arith, at, less, limits.pages) in
        ap (λ (p : ℕ). table_read form words t 4 p 0) whole ∙ table-told form t alive 3 0 r 0 (root-entries form t alive c r two pages.1 pages.2)

    tree-is : (cs : List ℕ) → w.tds.controls t ≡ cs
        → tree_from form words t (if length cs == 2 then stands (life_told (word_in words t TDR_LIFE)) (Some root_word) None else None)
        ≡ (if length cs == 2 then stands (w.tds.lives t) (table_text form w t 4 0 0) [] else [])
    tree-is [] e = refl
    tree-is (c ∷ []) e = refl
    tree-is (c ∷ r ∷ []) e =
        ap (λ (l : LifeState). tree_from form words t (stands l (Some root_word) None)) (life-is t is) ∙ root-told c r e (life_number (w.tds.lives t) == life_number life.Teardown) refl
    tree-is (c ∷ r ∷ x ∷ cs) e = rw (ne_eqb (length (c ∷ r ∷ x ∷ cs)) 2 (λ z. absurd (omega (arith, z)))) refl

    tree-told : tree_from form words t (root_in words t) ≡ tree_of form w t kind.Tdr
    tree-told =
        ap (λ (n : ℕ). tree_from form words t (if n == 2 then stands (life_told (word_in words t TDR_LIFE)) (Some root_word) None else None)) (count-is t is)
        ∙ tree-is (w.tds.controls t) refl

  tree-of-page : (form : Form) (p : ℕ) (k : PageKind) → w.pages.kinds p ≡ k → tree_in form words p k ≡ tree_of form w p k
  tree-of-page form p kind.Tdr is = tree-told form p is
  tree-of-page form p kind.Nda is = refl
  tree-of-page form p kind.Reg is = refl
  tree-of-page form p kind.Tdcx is = refl
  tree-of-page form p kind.Tdvpr is = refl
  tree-of-page form p kind.Ept is = refl
  tree-of-page form p kind.Migsc is = refl

  pub page-told : (form : Form) (p : ℕ) → p < m.pages → page_read form words p ≡ page_seen form w p
  page-told form p inside =
      ap (page_if form words p) (pamt-read p inside)
      ∙ (ap (λ (z : Content). page_text form p (pamt_of w p) z ++ tree_in form words p (w.pages.kinds p)) (content-told p (w.pages.kinds p) inside refl)
      ∙ ap (λ (xs : List ℕ). page_text form p (pamt_of w p) (content_of w p (w.pages.kinds p)) ++ xs) (tree-of-page form p (w.pages.kinds p) refl))

  pub owner-told : (p : ℕ) → p < m.pages → owner_read words p ≡ w.pages.owners p
  owner-told p inside = ap owner_if (pamt-read p inside)
