-- The leaves of guest operations mean their rows.
use Rattle.std.proofs.Common.{◌≡◌, ℕ, ◌+◌, ◌%◌, ◌^◌, ◌<◌, not, ◌==◌, nat_lt, List, [], ◌∷◌, None, map, refl, sym, subst, inl, inr, arith}
use Rattle.std.proofs.lemmas.Bool.{ltb-true, and_parts}
use Rattle.td_words.specs.declared.names.PageKind.TheVariants as kind
use Rattle.td_words.specs.declared.names.Mode.TheVariants.{Shared}
use Rattle.td_words.specs.declared.names.Access.{Access}
use Rattle.td_words.specs.declared.names.Access.TheVariants.{Read, Write}
use Rattle.td_words.specs.declared.replies.Value.TheVariants as value
use Rattle.td_words.specs.declared.replies.Reply.TheVariants.{Done, Exited}
use Rattle.td_words.specs.declared.replies.Outcome.TheVariants.{Vmcall}
use Rattle.td_words.specs.declared.machines.Machine.{Machine}
use Rattle.td_words.specs.Place as place
use Rattle.flat_core.proofs.Tests.{host_kind}
use Rattle.flat_core.specs.World.{World}
use Rattle.flat_core.specs.Processor.{Held}
use Rattle.flat_core.specs.Conditions.{is_host}
use Rattle.flat_core.specs.Effects.{set_word, set_register, pass_operation, tell_words}
use Rattle.flat_core.specs.Tree.{word_of_gpa}
use Rattle.flat_core.specs.Guest.{plain_operation, set_value, add_registers, call_host, register_told, shared_page, shared_items, unless_violated, shared_load, shared_store}
use Rattle.flat_core.specs.Lawful.{Lawful}
use Rattle.word_rules.specs.Rules.{Whole, KeepsNothing}
use Rattle.word_rules.specs.Cells.{Shows}
use Rattle.leaf_engine.specs.Facts.{GuestFits}
use Rattle.leaf_engine.specs.Trees.{Tree, Load, End, acts}
use Rattle.leaf_engine.specs.Means.{Instant, Means, Work, work_of, OfOperation, IsAtOperation, grasp_of, exit_item}
use Rattle.leaf_parts.specs.Words.{says_host}
use Rattle.leaf_parts.proofs.Begun.{page_lock, holds-newest}
use Rattle.leaf_parts.proofs.Checks.{page-told}
use Rattle.access_core.specs.HostMeanings.{host_shown, shows_stored}
use Rattle.access_core.specs.OperationTrees.{with_position, with_register, put_register, put_next, with_notes, unless_violation, shared_tree, loaded, stored, set_tree, add_tree, vmcall_tree, shared_load_tree, shared_store_tree, SetMeans, AddMeans, VmcallMeans, SharedLoadMeans, SharedStoreMeans}
use Rattle.access_core.specs.VpShows.{register-class, passed-shown, registered-shown}
use Rattle.access_core.specs.GuestWords.{kept-respects, vp-in, vp-writes, vp-owes, position-load, register-load}

module _ (m : Machine) (c : Instant) (t v : ℕ) (la : Lawful m c.state.world) (sh : Shows m c.memory.words c.memory.slots c.state) (fits : GuestFits c.state.world c.me c.kept t v) (starts : IsAtOperation c.state.world v) where
  abbrev w : World
  w = c.state.world

  inside : v < m.pages
  inside = vp-in m c t v la sh fits

  -- a register gets a word of the world, and the operation is passed
  registers-end : (r : ℕ) (word : World → ℕ) → r < 8 → Means m c (work_of (OfOperation t v (plain_operation (λ w. pass_operation v (set_register v r (word w) w))))) [] (acts (Done value.Nothing) (put_register v r (word w) ∷ put_next v (w.vps.positions v) ∷ [])) []
  registers-end r word few =
      let w' : World = tell_words [] (pass_operation v (set_register v r (word w) w)) in
      let one = registered-shown m c.memory.words c.memory.slots c.state sh t v fits.alive.life fits.vp_page inside r (word w) few in
      let two = passed-shown m _ c.memory.slots (record c.state { world = set_register v r (word w) w }) one t v fits.alive.life (record { kind = fits.vp_page.kind; owner = fits.vp_page.owner }) inside starts in (
        record {
          answers = record { reply_is = refl; cached_is = refl; enters_is = refl; notes_are = refl; tells_are = refl; bundles_are = refl };
          fills_allowed = tt;
          respects = kept-respects (grasp_of c []) w w' refl refl refl refl;
          locks_stay = tt;
          shows = record { word = two.word; hasher = two.hasher };
        },
        (
          ((inside, omega (arith, few)), (KeepsNothing, vp-writes m c t v la sh fits [] (8 + r) (register-class r few), tt)),
          (((inside, omega arith), (KeepsNothing, vp-owes m c t v la sh fits [] w' 4 (record { kind = fits.vp_page.kind; owner = fits.vp_page.owner }) refl, tt)), tt),
        ),
      )

  set-at : (r x : ℕ) → r < 8 → Means m c (work_of (OfOperation t v (set_value v r x))) [] (set_tree v r x) []
  set-at r x few = position-load m c t v la sh fits [] (work_of (OfOperation t v (set_value v r x))) (λ at. acts (Done value.Nothing) (put_register v r x ∷ put_next v at ∷ [])) [] (registers-end r (λ w. x) few)

  add-at : (r s : ℕ) → r < 8 → s < 8 → Means m c (work_of (OfOperation t v (add_registers v r s))) [] (add_tree v r s) []
  add-at r s few few' =
      let k : Work = work_of (OfOperation t v (add_registers v r s)) in
      position-load m c t v la sh fits [] k (λ at. with_register v r (λ x. with_register v s (λ y. acts (Done value.Nothing) (put_register v r ((x + y) % 2 ^ 64) ∷ put_next v at ∷ [])))) []
      (register-load m c t v la sh fits [] r few k (λ x. with_register v s (λ y. acts (Done value.Nothing) (put_register v r ((x + y) % 2 ^ 64) ∷ put_next v (w.vps.positions v) ∷ []))) []
      (register-load m c t v la sh fits [] s few' k (λ y. acts (Done value.Nothing) (put_register v r ((w.hidden.registers v r + y) % 2 ^ 64) ∷ put_next v (w.vps.positions v) ∷ [])) []
      (registers-end r (λ w. (w.hidden.registers v r + w.hidden.registers v s) % 2 ^ 64) few)))

  -- the host is told a register, where no words are given to tell in its place
  told-end : (r : ℕ) → w.outgoing.to_tell ≡ None → Means m c (work_of (OfOperation t v (call_host v r))) [] (End (with_notes (Exited (Vmcall (w.hidden.registers v r))) [] (w.hidden.registers v r ∷ [])) [] (put_next v (w.vps.positions v) ∷ [])) []
  told-end r none =
      let w' : World = tell_words (register_told w v r ∷ []) (pass_operation v w) in
      let one = passed-shown m c.memory.words c.memory.slots c.state sh t v fits.alive.life fits.vp_page inside starts in (
        record {
          answers = record { reply_is = rw none refl; cached_is = refl; enters_is = refl; notes_are = refl; tells_are = rw none refl; bundles_are = refl };
          fills_allowed = tt;
          respects = kept-respects (grasp_of c []) w w' refl refl refl refl;
          locks_stay = tt;
          shows = record { word = one.word; hasher = one.hasher };
        },
        (((inside, omega arith), (KeepsNothing, vp-writes m c t v la sh fits [] 4 refl, tt)), tt),
      )

  vmcall-at : (r : ℕ) → r < 8 → w.outgoing.to_tell ≡ None → Means m c (work_of (OfOperation t v (call_host v r))) [] (vmcall_tree v r) []
  vmcall-at r few none =
      let k : Work = work_of (OfOperation t v (call_host v r)) in
      position-load m c t v la sh fits [] k (λ at. with_register v r (λ x. End (with_notes (Exited (Vmcall x)) [] (x ∷ [])) [] (put_next v at ∷ []))) []
      (register-load m c t v la sh fits [] r few k (λ x. End (with_notes (Exited (Vmcall x)) [] (x ∷ [])) [] (put_next v (w.vps.positions v) ∷ [])) []
      (told-end r none))

  -- the page of a shared GPA is judged, tried, and found to be the host's
  shared-means : (k : Work) (access : Access) (gpa : ℕ) (further : Tree)
      → (shared_page gpa < m.pages → w.pages.kinds (shared_page gpa) ≡ kind.Nda → Means m c k (page_lock (shared_page gpa) Shared ∷ []) further [])
      → Means m c k [] (shared_tree m v access gpa further) (map exit_item (shared_items m v access gpa w))
  shared-means k access gpa further h = (
    refl,
    λ e. refl,
    λ a. (let named = and_parts (nat_lt (shared_page gpa) m.pages) (not (shared_page gpa == v)) a in
        let in_page : shared_page gpa < m.pages = ltb-true (shared_page gpa) m.pages named.0 in
        page-told m c k [] (shared_page gpa) Shared in_page (λ pamt. unless_violation access gpa (says_host pamt) further) (map exit_item (unless_violated access gpa (is_host w (shared_page gpa)) ∷ []))
        (host_shown m c (shared_page gpa) sh in_page, λ e. refl, λ e. h in_page (host_kind (w.pages.kinds (shared_page gpa)) e))),
  )

  word-in : (gpa : ℕ) → word_of_gpa gpa < 512
  word-in gpa = omega arith

  -- the word that a shared load loads is the host page's
  loaded-end : (line r gpa : ℕ) → r < 8 → shared_page gpa < m.pages → w.pages.kinds (shared_page gpa) ≡ kind.Nda
      → Means m c (work_of (OfOperation t v (shared_load m v line r gpa))) (page_lock (shared_page gpa) Shared ∷ [])
      (loaded v line r gpa (w.vps.positions v) (w.words (shared_page gpa) (word_of_gpa gpa))) []
  loaded-end line r gpa few in_page nda =
      let x : ℕ = w.words (shared_page gpa) (word_of_gpa gpa) in
      let hs : List Held = page_lock (shared_page gpa) Shared ∷ [] in
      let w' : World = tell_words [] (pass_operation v (set_register v r x w)) in
      let one = registered-shown m c.memory.words c.memory.slots c.state sh t v fits.alive.life fits.vp_page inside r x few in
      let two = passed-shown m _ c.memory.slots (record c.state { world = set_register v r x w }) one t v fits.alive.life (record { kind = fits.vp_page.kind; owner = fits.vp_page.owner }) inside starts in (
        record {
          answers = record { reply_is = refl; cached_is = refl; enters_is = refl; notes_are = refl; tells_are = refl; bundles_are = refl };
          fills_allowed = tt;
          respects = kept-respects (grasp_of c hs) w w' refl refl refl refl;
          locks_stay = ((refl, λ y. y), tt);
          shows = record { word = two.word; hasher = two.hasher };
        },
        (
          ((inside, omega (arith, few)), (KeepsNothing, vp-owes m c t v la sh fits hs w' (8 + r) (record { kind = fits.vp_page.kind; owner = fits.vp_page.owner }) (register-class r few), tt)),
          (((inside, omega arith), (KeepsNothing, vp-owes m c t v la sh fits hs w' 4 (record { kind = fits.vp_page.kind; owner = fits.vp_page.owner }) refl, tt)), tt),
        ),
      )

  load-at : (line r gpa : ℕ) → r < 8 → Means m c (work_of (OfOperation t v (shared_load m v line r gpa))) [] (shared_load_tree m v line r gpa) (map exit_item (shared_items m v Read gpa w))
  load-at line r gpa few =
      let k : Work = work_of (OfOperation t v (shared_load m v line r gpa)) in
      let q : ℕ = shared_page gpa in
      let i : ℕ = word_of_gpa gpa in
      let hs : List Held = page_lock q Shared ∷ [] in
      shared-means k Read gpa (with_position v (λ at. Load Whole (place.Word q i) (λ x. loaded v line r gpa at x)))
      (λ in_page nda. position-load m c t v la sh fits hs k (λ at. Load Whole (place.Word q i) (λ x. loaded v line r gpa at x)) [] (
        (in_page, word-in gpa),
        inr (inl (rw nda (inl (holds-newest q Shared c.kept, tt)), refl)),
        (let now : c.memory.words (place.Word q i) ≡ w.words q i = rw nda at (sh.word (place.Word q i) (in_page, word-in gpa)) in
            subst (λ (x : ℕ). Means m c k hs (loaded v line r gpa (w.vps.positions v) x) []) (sym now) (loaded-end line r gpa few in_page nda)),
      ))

  -- the register is stored in the host page, and told, where no words are given to tell in its place
  stored-end : (r gpa : ℕ) → w.outgoing.to_tell ≡ None → shared_page gpa < m.pages → w.pages.kinds (shared_page gpa) ≡ kind.Nda
      → Means m c (work_of (OfOperation t v (shared_store m v r gpa))) (page_lock (shared_page gpa) Shared ∷ [])
      (stored v gpa (w.vps.positions v) (w.hidden.registers v r)) []
  stored-end r gpa none in_page nda =
      let q : ℕ = shared_page gpa in
      let i : ℕ = word_of_gpa gpa in
      let x : ℕ = w.hidden.registers v r in
      let hs : List Held = page_lock q Shared ∷ [] in
      let w' : World = tell_words (register_told w v r ∷ []) (pass_operation v (set_word q i (register_told w v r) w)) in
      let one = shows_stored m c.memory.words c.memory.slots c.state q i x in_page sh nda in
      let two = passed-shown m _ c.memory.slots (record c.state { world = set_word q i x w }) one t v fits.alive.life (record { kind = fits.vp_page.kind; owner = fits.vp_page.owner }) inside starts in (
        record {
          answers = record { reply_is = rw none refl; cached_is = refl; enters_is = refl; notes_are = refl; tells_are = rw none refl; bundles_are = refl };
          fills_allowed = tt;
          respects = kept-respects (grasp_of c hs) w w' refl refl refl refl;
          locks_stay = ((refl, λ y. y), tt);
          shows = rw none (record { word = two.word; hasher = two.hasher });
        },
        (
          ((in_page, word-in gpa), (KeepsNothing, rw nda (inl (holds-newest q Shared c.kept, tt)), tt)),
          (((inside, omega arith), (KeepsNothing, vp-owes m c t v la sh fits hs w' 4 (record { kind = fits.vp_page.kind; owner = fits.vp_page.owner }) refl, tt)), tt),
        ),
      )

  store-at : (r gpa : ℕ) → r < 8 → w.outgoing.to_tell ≡ None → Means m c (work_of (OfOperation t v (shared_store m v r gpa))) [] (shared_store_tree m v r gpa) (map exit_item (shared_items m v Write gpa w))
  store-at r gpa few none =
      let k : Work = work_of (OfOperation t v (shared_store m v r gpa)) in
      let hs : List Held = page_lock (shared_page gpa) Shared ∷ [] in
      shared-means k Write gpa (with_position v (λ at. with_register v r (λ x. stored v gpa at x)))
      (λ in_page nda. position-load m c t v la sh fits hs k (λ at. with_register v r (λ x. stored v gpa at x)) []
      (register-load m c t v la sh fits hs r few k (λ x. stored v gpa (w.vps.positions v) x) []
      (stored-end r gpa none in_page nda)))

pub set-means : SetMeans
set-means p t v r x few = record { means = λ c at. set-at p.machine c t v at.lawful at.shown at.maker.1.fits at.maker.2 r x few }

pub add-means : AddMeans
add-means p t v r s few few' = record { means = λ c at. add-at p.machine c t v at.lawful at.shown at.maker.1.fits at.maker.2 r s few few' }

pub vmcall-means : VmcallMeans
vmcall-means p t v r few = record { means = λ c at. vmcall-at p.machine c t v at.lawful at.shown at.maker.1.fits at.maker.2 r few at.nothing_to_tell }

pub shared_load-means : SharedLoadMeans
shared_load-means p t v line r gpa few = record { means = λ c at. load-at p.machine c t v at.lawful at.shown at.maker.1.fits at.maker.2 line r gpa few }

pub shared_store-means : SharedStoreMeans
shared_store-means p t v r gpa few = record { means = λ c at. store-at p.machine c t v at.lawful at.shown at.maker.1.fits at.maker.2 r gpa few at.nothing_to_tell }
