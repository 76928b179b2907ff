-- The beginnings of rows mean what their rows say.
use Rattle.std.proofs.Common.{◌≡◌, ℕ, ◌<◌, true, false, ◌==◌, List, [], ◌∷◌, ◌++◌, length, slice_index, refl, ap, sym, ◌∙◌, subst, inl, inr, arith}
use Rattle.std.specs.List.{list_any}
use Rattle.std.proofs.lemmas.Bool.{eq-eqb}
use Rattle.td_words.specs.declared.names.PageKind.{PageKind}
use Rattle.td_words.specs.declared.names.PageKind.TheVariants as kind
use Rattle.td_words.specs.declared.names.LifeState.{LifeState}
use Rattle.td_words.specs.declared.names.LifeState.TheVariants as life
use Rattle.td_words.specs.declared.names.OpState.{OpState}
use Rattle.td_words.specs.declared.names.Mode.{Mode}
use Rattle.td_words.specs.declared.names.Mode.TheVariants.{Shared, Exclusive}
use Rattle.td_words.specs.declared.machines.Machine.{Machine}
use Rattle.td_words.specs.declared.replies.Reply.{Reply}
use Rattle.td_words.specs.declared.places.TheConstants.{TDR_LIFE, TDR_TDCX_COUNT, TDR_TDCS, TDCS_OP}
use Rattle.td_words.specs.NameNumber.{life_number, op_number}
use Rattle.td_words.specs.Place as place
use Rattle.flat_core.specs.World.{World}
use Rattle.flat_core.specs.Processor.{LockId, OfPage, OfOp, OfTree, OfEpoch, OfRtmr, OfKeys, Held}
use Rattle.flat_core.specs.Row.{Item, Try}
use Rattle.flat_core.specs.Conditions.{same_kind, root, life_in, tdcx_count, op_in, td_row, tdr_exclusive}
use Rattle.flat_core.specs.Lawful.{Lawful, IsAlive, IsPageOf, AreControls}
use Rattle.word_rules.specs.Cells.{Shows}
use Rattle.lock_words.specs.Grips.{holds, holds_alone}
use Rattle.lock_words.specs.LockWords.{tdcs_of, TdStands, Stands, place_of}
use Rattle.leaf_engine.specs.Trees.{Tree}
use Rattle.leaf_engine.specs.Means.{Instant, Work, Means, LocksStay}
use Rattle.leaf_parts.specs.declared.heads.Td.{Td}
use Rattle.leaf_parts.specs.Words.{life_told, op_told, page_told}
use Rattle.leaf_parts.specs.Heads.{root_tree, life_tree, tdcs_tree, op_tree, td_head_tree, tdr_head_tree}
use Rattle.leaf_parts.proofs.Told.{life-back, op-back, page-back, kind-is, kind-shown, tdr-shown, tdcs-shown, tdr-spot, tdcs-spot}

-- a lock that was tried last is held
pub holds-newest : (p : ℕ) (m : Mode) (hs : List Held) → holds (record { lock = OfPage p; mode = m } ∷ hs) (OfPage p) ≡ true
holds-newest p m hs = rw (eq-eqb p p refl) refl

pub alone-newest : (p : ℕ) (hs : List Held) → holds_alone (record { lock = OfPage p; mode = Exclusive } ∷ hs) (OfPage p) ≡ true
alone-newest p hs = rw (eq-eqb p p refl) refl

-- where the world stays, locks do
pub locks-stay : (w : World) (hs : List Held) → LocksStay w w hs
locks-stay w [] = tt
locks-stay w (h ∷ hs) = ((refl, λ x. x), locks-stay w hs)

-- and where an act leaves each TD alive, with its TDCX pages
module _ (w w' : World) (controls : w'.tds.controls ≡ w.tds.controls) (alive : (u : ℕ) → IsAlive w.pages w.tds u → IsAlive w'.pages w'.tds u) where
  td-stands : (u : ℕ) → TdStands w u → TdStands w' u
  td-stands u a = record { alive = alive u a.alive; has_tdcs = rw controls (a.has_tdcs) }

  lock-stays : (l : LockId) → (place_of w' l ≡ place_of w l) × (Stands w l → Stands w' l)
  lock-stays (OfPage p) = (refl, λ a. a)
  lock-stays (OfOp u) = (rw controls refl, td-stands u)
  lock-stays (OfTree u) = (rw controls refl, td-stands u)
  lock-stays (OfEpoch u) = (rw controls refl, td-stands u)
  lock-stays (OfRtmr u) = (rw controls refl, td-stands u)
  lock-stays OfKeys = (refl, λ a. a)

  pub locks-kept : (hs : List Held) → LocksStay w w' hs
  locks-kept [] = tt
  locks-kept (h ∷ hs) = (lock-stays h.lock, locks-kept hs)

abbrev pub page_lock : ℕ → Mode → Held
page_lock p mode = record { lock = OfPage p; mode = mode }

abbrev pub op_lock : ℕ → Mode → Held
op_lock t mode = record { lock = OfOp t; mode = mode }

-- P of a page that is held alone, and K besides
abbrev pub page_alone : ℕ → List Held
page_alone p = page_lock p Exclusive ∷ []

abbrev pub keys_lock : Held
keys_lock = record { lock = OfKeys; mode = Exclusive }

abbrev pub both_locks : ℕ → List Held
both_locks p = keys_lock ∷ page_alone p

-- the TDCX pages of a TD with two
pub record TwoControls (m : Machine) (w : World) (t : ℕ) : Type 0 where
  pub tdcs : ℕ
  pub root : ℕ
  pub list : w.tds.controls t ≡ tdcs ∷ root ∷ []
  pub tdcs_page : IsPageOf w.pages t tdcs kind.Tdcx
  pub root_page : IsPageOf w.pages t root kind.Tdcx
  pub differ : (tdcs == root) ≡ false
  pub tdcs_in : tdcs < m.pages
  pub root_in : root < m.pages

pub page-in : (m : Machine) (w : World) (t p : ℕ) (k : PageKind) → Lawful m w → IsPageOf w.pages t p k → same_kind k kind.Nda ≡ false → p < m.pages
page-in m w t p k la page o = la.pages.in_machine p (rw page.kind o)

two-of : (m : Machine) (w : World) (t : ℕ) (cs : List ℕ) → Lawful m w → w.tds.controls t ≡ cs → AreControls w.pages t cs → (length cs == 2) ≡ true → TwoControls m w t
two-of m w t [] la is are two = cc
two-of m w t (c ∷ []) la is are two = cc
two-of m w t (c ∷ r ∷ []) la is are two = record { tdcs = c; root = r; list = is; tdcs_page = are.0; root_page = are.1; differ = are.2; tdcs_in = page-in m w t c kind.Tdcx la are.0 refl; root_in = page-in m w t r kind.Tdcx la are.1 refl }
two-of m w t (c ∷ r ∷ x ∷ cs) la is are two = absurd are

pub two-controls : (m : Machine) (w : World) (t : ℕ) → Lawful m w → IsAlive w.pages w.tds t → (length (w.tds.controls t) == 2) ≡ true → TwoControls m w t
two-controls m w t la alive two = two-of m w t (w.tds.controls t) la refl (la.tds.controls t alive) two

-- the only one that is allowed
pub life-is : (a s : LifeState) → list_any (λ x. life_number x == life_number s) (a ∷ []) ≡ true → s ≡ a
life-is life.HkidAssigned life.HkidAssigned h = refl
life-is life.KeysConfigured life.KeysConfigured h = refl
life-is life.Blocked life.Blocked h = refl
life-is life.Teardown life.Teardown h = refl
life-is _ _ h = cc

-- what the beginning of a TD's row tells of it
pub record IsTd (m : Machine) (w : World) (t : ℕ) (allowed : List OpState) : Type 0 where
  pub alive : IsAlive w.pages w.tds t
  pub own : w.pages.owners t ≡ t
  pub configured : w.tds.lives t ≡ life.KeysConfigured
  pub two : (length (w.tds.controls t) == 2) ≡ true
  pub controls : TwoControls m w t
  pub op : list_any (λ s. op_number s == op_number (w.tds.ops t)) allowed ≡ true

module _ (m : Machine) (c : Instant) (k : Work) (t : ℕ) (in_page : t < m.pages) (la : Lawful m c.state.world) (sh : Shows m c.memory.words c.memory.slots c.state) where
  abbrev w : World
  w = c.state.world

  pub root-means : (mode : Mode) (further : Tree) (rest : List (Item Reply)) → (w.pages.kinds t ≡ kind.Tdr → Means m c k (page_lock t mode ∷ []) further rest)
      → Means m c k [] (root_tree t mode further) (Try (OfPage t) mode ∷ root w t ∷ rest)
  root-means mode further rest h = (
    refl,
    refl,
    record { in_machine = in_page; at = refl; stands = tt; allowed = inl tt },
    (in_page, inl (inl (holds-newest t mode c.kept, tt)), (kind-shown m c.memory.words c.memory.slots c.state sh kind.Tdr t in_page, λ e. refl, λ e. h (kind-is (w.pages.kinds t) kind.Tdr e))),
  )

  module _ (is : w.pages.kinds t ≡ kind.Tdr) (hs : List Held) (held : holds (hs ++ c.kept) (OfPage t) ≡ true) where
    own : w.pages.owners t ≡ t
    own = la.pages.tdr t is

    pub life-means : (allowed : List LifeState) (further : Tree) (rest : List (Item Reply)) → (list_any (λ s. life_number s == life_number (w.tds.lives t)) allowed ≡ true → Means m c k hs further rest)
        → Means m c k hs (life_tree t allowed further) (life_in w t allowed ∷ rest)
    life-means allowed further rest h =
        let word : c.memory.words (place.Word t TDR_LIFE) ≡ life_number (w.tds.lives t) = tdr-shown m c.memory.words c.memory.slots c.state sh t 0 is own in_page (omega arith) in
        let told : life_told (c.memory.words (place.Word t TDR_LIFE)) ≡ w.tds.lives t = ap life_told word ∙ life-back (w.tds.lives t) in
        ((in_page, omega arith), inl (rw (tdr-spot w t 0 is own) (inl (held, tt))), (rw told refl, λ e. rw told refl, λ e. h e))

    pub tdcs-means : (further : ℕ → Tree) (rest : List (Item Reply)) → ((length (w.tds.controls t) == 2) ≡ true → Means m c k hs (further (tdcs_of w t)) rest)
        → ((length (w.tds.controls t) == 2) ≡ true → tdcs_of w t < m.pages) → Means m c k hs (tdcs_tree m.pages t further) (tdcx_count w t 2 ∷ rest)
    tdcs-means further rest h small =
        let count : c.memory.words (place.Word t TDR_TDCX_COUNT) ≡ length (w.tds.controls t) = tdr-shown m c.memory.words c.memory.slots c.state sh t 3 is own in_page (omega arith) in
        let page : c.memory.words (place.Word t TDR_TDCS) ≡ tdcs_of w t = tdr-shown m c.memory.words c.memory.slots c.state sh t 4 is own in_page (omega arith) in (
          (in_page, omega arith),
          inl (rw (tdr-spot w t 3 is own) (inl (held, tt))),
          (
            rw count refl,
            λ e. rw count refl,
            λ e. (
              (in_page, omega arith),
              inl (rw (tdr-spot w t 4 is own) (inl (held, tt))),
              (let told : page_told m.pages (c.memory.words (place.Word t TDR_TDCS)) ≡ tdcs_of w t = ap (page_told m.pages) page ∙ page-back m.pages (tdcs_of w t) (small e) in rw told (h e)),
            ),
          ),
        )

    pub op-means : (mode : Mode) (allowed : List OpState) (further : Td → Tree) (rest : List (Item Reply)) → IsAlive w.pages w.tds t → (x : TwoControls m w t)
        → (list_any (λ s. op_number s == op_number (w.tds.ops t)) allowed ≡ true → Means m c k (op_lock t mode ∷ hs) (further (record { tdcs = x.tdcs; op = w.tds.ops t })) rest)
        → Means m c k hs (op_tree t x.tdcs mode allowed further) (Try (OfOp t) mode ∷ op_in w t allowed ∷ rest)
    op-means mode allowed further rest alive x h =
        let word : c.memory.words (place.Word x.tdcs TDCS_OP) ≡ op_number (w.tds.ops t) = tdcs-shown m c.memory.words c.memory.slots c.state sh t 4 x.tdcs (x.root ∷ []) x.list x.tdcs_page alive.life x.tdcs_in (omega arith) in
        let told : op_told (c.memory.words (place.Word x.tdcs TDCS_OP)) ≡ w.tds.ops t = ap op_told word ∙ op-back (w.tds.ops t) in (
          refl,
          refl,
          record {
            in_machine = (x.tdcs_in, omega arith);
            at = rw x.list refl;
            stands = record { alive = alive; has_tdcs = rw x.list refl };
            allowed = rw (tdcs-spot w t 0 x.tdcs (x.root ∷ []) x.list x.tdcs_page) (inl (held, tt));
          },
          (
            (x.tdcs_in, omega arith),
            inl (rw (tdcs-spot w t 4 x.tdcs (x.root ∷ []) x.list x.tdcs_page) (inr (inl (held, (rw (eq-eqb t t refl) refl, tt))))),
            (rw told refl, λ e. rw told refl, λ e. rw told (h e)),
          ),
        )

  -- the beginning of the rows that begin and end a TD's life
  pub tdr-head-means : (allowed : List LifeState) (further : Tree) (rest : List (Item Reply))
      → (w.pages.kinds t ≡ kind.Tdr → list_any (λ s. life_number s == life_number (w.tds.lives t)) allowed ≡ true → Means m c k (page_lock t Exclusive ∷ []) further rest)
      → Means m c k [] (tdr_head_tree t allowed further) (tdr_exclusive w t allowed ++ rest)
  tdr-head-means allowed further rest h =
      root-means Exclusive (life_tree t allowed further) (life_in w t allowed ∷ rest)
      (λ is. life-means is (page_lock t Exclusive ∷ []) (holds-newest t Exclusive c.kept) allowed further rest (h is))

  -- the beginning of the rows of a TD's calls
  pub td-head-means : (mode : Mode) (allowed : List OpState) (further : Td → Tree) (rest : List (Item Reply))
      → ((x : IsTd m w t allowed) → Means m c k (op_lock t mode ∷ page_lock t Shared ∷ []) (further (record { tdcs = x.controls.tdcs; op = w.tds.ops t })) rest)
      → Means m c k [] (td_head_tree m.pages t mode allowed further) (td_row w t mode allowed ++ rest)
  td-head-means mode allowed further rest h =
      root-means Shared (life_tree t (life.KeysConfigured ∷ []) (tdcs_tree m.pages t (λ tdcs. op_tree t tdcs mode allowed further))) (life_in w t (life.KeysConfigured ∷ []) ∷ tdcx_count w t 2 ∷ Try (OfOp t) mode ∷ op_in w t allowed ∷ rest)
      (λ is. let held : holds (page_lock t Shared ∷ c.kept) (OfPage t) ≡ true = holds-newest t Shared c.kept in
      life-means is (page_lock t Shared ∷ []) held (life.KeysConfigured ∷ []) (tdcs_tree m.pages t (λ tdcs. op_tree t tdcs mode allowed further)) (tdcx_count w t 2 ∷ Try (OfOp t) mode ∷ op_in w t allowed ∷ rest)
      (λ lives. let configured : w.tds.lives t ≡ life.KeysConfigured = life-is life.KeysConfigured (w.tds.lives t) lives in
      let alive : IsAlive w.pages w.tds t = record { kind = is; life = rw configured refl } in
      tdcs-means is (page_lock t Shared ∷ []) held (λ tdcs. op_tree t tdcs mode allowed further) (Try (OfOp t) mode ∷ op_in w t allowed ∷ rest)
      (λ two. let x : TwoControls m w t = two-controls m w t la alive two in
      let first : tdcs_of w t ≡ x.tdcs = ap (λ (cs : List ℕ). slice_index cs 0) x.list in
      subst (λ (p : ℕ). Means m c k (page_lock t Shared ∷ []) (op_tree t p mode allowed further) (Try (OfOp t) mode ∷ op_in w t allowed ∷ rest)) (sym first)
      (op-means is (page_lock t Shared ∷ []) held mode allowed further rest alive x
      (λ op. h (record { alive = alive; own = la.pages.tdr t is; configured = configured; two = two; controls = x; op = op }))))
      (λ two. let x : TwoControls m w t = two-controls m w t la alive two in
      subst (λ (p : ℕ). p < m.pages) (sym (ap (λ (cs : List ℕ). slice_index cs 0) x.list)) x.tdcs_in)))
