-- What guests know of their private pages is what the pages hold.
use Rattle.std.proofs.Common.{◌≡◌, refl, sym, ◌∙◌, ap, subst, ℕ, ◌+◌, [], ◌∷◌, ◌++◌, length, Option, Some, option_map, true, false, ◌==◌, ◌&&◌}
use Rattle.std.proofs.lemmas.Bool.{eq-eqb, eqb-true, and_parts}
use Rattle.td_words.specs.declared.names.EntryState.{EntryState}
use Rattle.td_words.specs.declared.names.EntryState.TheVariants as entry
use Rattle.td_words.specs.declared.calls.GuestOp.{GuestOp}
use Rattle.std.proofs.lemmas.List.{append-nil}
use Rattle.td_words.specs.declared.names.Access.{Access}
use Rattle.td_words.specs.declared.names.Access.TheVariants.{Read, Write}
use Rattle.td_words.specs.Packing.{Entry}
use Rattle.flat_core.specs.World.{World, put}
use Rattle.flat_core.specs.Processor.{Guest, LoadNote}
use Rattle.flat_core.specs.Opening.{Opening, Incoming}
use Rattle.flat_core.specs.Row.{OperationRow, Passes}
use Rattle.flat_core.specs.Tree.{page_of_gpa, word_of_gpa, entry_at, same_state}
use Rattle.flat_core.specs.Effects.{put_in, stored_in, pass_operation, tell_words}
use Rattle.flat_core.specs.Table.{row_of}
use Rattle.flat_core.specs.Guest.{ByRow, operation_of, shared_page, register_told, shared_store, is_pending_at, accept_page, reach, word_reached}
use Rattle.flat_core.specs.Event.{State, Event, Reaches, next_event, after_event, event}
use Rattle.flat_core.specs.Lawful.{IsAlive, Lawful, is_free}
use Rattle.flat_core.specs.Laws.{reached, with_bundles, HoldsInRuns, holds_memory, memory_of, ArePagesKnown, GuestsKnowTheirPages}
use Rattle.flat_core.specs.Access.{Names, is_pending}
use Rattle.flat_core.specs.AccessLaw.{IsGuarded, MemoriesAreKept, known_word, Loads, Stores, IsOwnAccess, AccessesAreOwn}
use Rattle.flat_core.proofs.Tests.{by_test, host_kind, same_self}
use Rattle.flat_core.proofs.Induction.{in_runs}
use Rattle.flat_core.proofs.Operations.{operation_row, accepted}
use Rattle.flat_core.proofs.Due.{Due, calls, frees, leaves, stops, fills, operates, walks, reaches, undoes, gives_back, due_event_is}
use Rattle.flat_core.proofs.Acts.{event_world}
use Rattle.flat_core.proofs.Owned.{are_owned}
use Rattle.flat_core.proofs.Always.{occ-of, occupied-alive, access_kept, reaches_own}
use Rattle.flat_core.proofs.Known.{words_stay, still_known, known_beside, same_entry, act_known}
use Rattle.flat_core.proofs.ShapeOf.{shape_of}

-- what a store puts into one page changes, of what guests know, that page's word alone
module _ (o : Opening) (w : World) (l : Lawful o.machine w) (h : ArePagesKnown w) (t : ℕ) (alive : IsAlive w.pages w.tds t) where
  -- no other entry names the page of an entry
  named_once : (g : ℕ) → is_free (w.tds.entries t 0 g).state ≡ false → (x n : ℕ) → IsAlive w.pages w.tds x → (x == t && n == g) ≡ false → is_free (w.tds.entries x 0 n).state ≡ false
      → ((w.tds.entries x 0 n).page == (w.tds.entries t 0 g).page) ≡ false
  named_once g used x n a y e = by_test ((w.tds.entries x 0 n).page == (w.tds.entries t 0 g).page)
      (λ z. absurd (let one = (are_owned o.machine w l).once x 0 n t 0 g a alive e used (eqb-true _ _ z) in
      let yes : (x == t && n == g) ≡ true = (let p = eq-eqb x t one.0 in let q = eq-eqb n g one.2 in rw (p, q) refl) in let no : true ≡ false = sym yes ∙ y in cc))
      (λ z. z)

  -- a guest's store to its own page
  stored : (page i v : ℕ) (e : Entry) → e.page ≡ page → stored_in (memory_of e w.words) i v ≡ memory_of e (put_in w.words page i v)
  stored page i v e q = by_test (holds_memory e.state)
      (λ y. rw y (ap (λ (f : ℕ → ℕ). Some f) (λ k b. at e.page (eq-eqb e.page page q) b k)))
      (λ y. rw y refl)
    where
      at : (p : ℕ) → (p == page) ≡ true → (b : ℕ) → put (w.words p) i v b ≡ put_in w.words page i v p b
      at p self b = rw self refl

  pub reach_known : (v : ℕ) (access : Access) (r gpa page : ℕ) → Names (w.tds.entries t 0 (page_of_gpa gpa)) page → ArePagesKnown (reach t v access r gpa page w)
  reach_known v Read r gpa page named x n a = h x n (record { kind = a.kind; life = a.life })
  reach_known v Write r gpa page named x n a = by_test (x == t && n == page_of_gpa gpa)
      (λ y. let both = and_parts (x == t) (n == page_of_gpa gpa) y in
      let there : w.tds.entries x 0 n ≡ w.tds.entries t 0 (page_of_gpa gpa) = same_entry o.machine w l h x t n (page_of_gpa gpa) both.0 both.1 in
      rw y (ap (λ (f : Option (ℕ → ℕ)). stored_in f (word_of_gpa gpa) (w.hidden.registers v r)) (h t (page_of_gpa gpa) alive)
      ∙ (stored page (word_of_gpa gpa) (w.hidden.registers v r) (w.tds.entries t 0 (page_of_gpa gpa)) named.page_is
      ∙ ap (λ (e : Entry). memory_of e (put_in w.words page (word_of_gpa gpa) (w.hidden.registers v r))) (sym there))))
      (λ y. still_known o.machine w l h (reach t v Write r gpa page w) x n (record { kind = a.kind; life = a.life }) (rw y refl) refl
      (λ e. words_stay w.words page (word_of_gpa gpa) (w.hidden.registers v r) (w.tds.entries x 0 n).page
      (subst (λ (z : ℕ). ((w.tds.entries x 0 n).page == z) ≡ false) named.page_is (named_once (page_of_gpa gpa) named.used x n (record { kind = a.kind; life = a.life }) y e))))

  -- a page that is accepted holds zeros from then on
  accept_known : (v gpa : ℕ) → is_free (w.tds.entries t 0 (page_of_gpa gpa)).state ≡ false → ArePagesKnown (tell_words [] (pass_operation v (accept_page true t gpa w)))
  accept_known v gpa used x n a =
      let g = page_of_gpa gpa in
      let q = (w.tds.entries t 0 g).page in
      let now : World = tell_words [] (pass_operation v (accept_page true t gpa w)) in
      let before : IsAlive w.pages w.tds x = record { kind = a.kind; life = a.life } in
      by_test (x == t)
      (λ y. by_test (n == g)
      (λ z. rw (y, z, same_self q) refl)
      (λ z. still_known o.machine w l h now x n before (rw (y, z) refl) (rw (y, z) (ap (λ (u : ℕ). w.tds.entries u 0 n) (sym (eqb-true x t y)))) (λ e. elsewhere g used x n before (rw (y, z) refl) e)))
      (λ y. still_known o.machine w l h now x n before (rw y refl) (rw y refl) (λ e. elsewhere g used x n before (rw y refl) e))
    where
      elsewhere : (g : ℕ) → is_free (w.tds.entries t 0 g).state ≡ false → (x n : ℕ) → IsAlive w.pages w.tds x → (x == t && n == g) ≡ false → is_free (w.tds.entries x 0 n).state ≡ false
          → put w.words (w.tds.entries t 0 g).page (λ i. 0) (w.tds.entries x 0 n).page ≡ w.words (w.tds.entries x 0 n).page
      elsewhere g used x n before y e = let off = named_once g used x n before y e in rw off refl

  pending_used : (s : EntryState) → same_state s entry.Pending ≡ true → is_free s ≡ false
  pending_used entry.Pending e = refl
  pending_used entry.Free e = cc
  pending_used _ e = cc

  pub operation_known : (v line : ℕ) (op : GuestOp) (row : OperationRow) → operation_of o t v line op ≡ ByRow row → Passes (row.items w) → ArePagesKnown (tell_words (row.tells w) (row.act w))
  operation_known v line op row is = operation_row o t v line (λ x. Passes (x.items w) → ArePagesKnown (tell_words (x.tells w) (x.act w)))
      (λ r y ps x n a. h x n (record { kind = a.kind; life = a.life }))
      (λ r y ps x n a. h x n (record { kind = a.kind; life = a.life }))
      (λ r gpa ps x n a. h x n (record { kind = a.kind; life = a.life }))
      (λ r gpa ps x n a. known_beside o.machine w l h (tell_words ((shared_store o.machine v r gpa).tells w) ((shared_store o.machine v r gpa).act w)) (shared_page gpa) x n (host_kind _ ps.1.0) (record { kind = a.kind; life = a.life })
      (λ p e. words_stay w.words (shared_page gpa) (word_of_gpa gpa) (register_told w v r) p e) refl refl)
      (λ gpa ps. accepted (λ x. ArePagesKnown (tell_words [] (pass_operation v x))) (is_pending_at w t gpa) t gpa w
      (λ y. accept_known v gpa (pending_used (entry_at w t 0 gpa).state y))
      (λ y x n a. h x n (record { kind = a.kind; life = a.life })))
      (λ i ps x n a. h x n (record { kind = a.kind; life = a.life }))
      (λ ps x n a. h x n (record { kind = a.kind; life = a.life }))
      (λ r ps x n a. h x n (record { kind = a.kind; life = a.life })) op row is

known_after : (o : Opening) (bundles : ℕ → Option Incoming) (s : State) (p : ℕ) → IsGuarded o s → ArePagesKnown s.world → ArePagesKnown (event (with_bundles o bundles) s p).world
known_after o bundles s p all h =
    let q : Opening = with_bundles o bundles in
    let l : Lawful q.machine s.world = all.timely.lawful in
    let alive : (g : Guest) → (s.lps p).guest ≡ Some g → IsAlive s.world.pages s.world.tds g.tdr = λ g e. occupied-alive s.world p g.tdr g.vp (occ-of o s all.timely p g e) in
    event_world q s p ArePagesKnown h
    (λ c cs line none ps. act_known p c q.machine s.world ((row_of q p c).act s.world) l h (shape_of q p c s.world ps))
    (λ c cs g op row i is ps. operation_known q s.world l h g.tdr (alive g i.guest) g.vp (length (s.lps p).replies + 1) op row is ps)
    (λ c cs g op access r gpa page i is found. reach_known q s.world l h g.tdr (alive g i.guest) g.vp access r gpa page (reaches_own o s all p (page_of_gpa gpa) page access g i.guest found).0.named)
    (λ c cs g i x n a. h x n (record { kind = a.kind; life = a.life }))

pub memories_kept : MemoriesAreKept
memories_kept = record {
  start = λ o ws. (access_kept.start o ws, λ t n a. refl);
  event = λ o bundles s p h. (access_kept.event o bundles s p h.0, known_after o bundles s p h.0 h.1);
}

always_known : HoldsInRuns (λ o s. IsGuarded o s × ArePagesKnown s.world)
always_known = in_runs (λ o s. IsGuarded o s × ArePagesKnown s.world) memories_kept

pub guests_know : GuestsKnowTheirPages
guests_know o ws schedule = (always_known o ws schedule).1

-- what a load gives

-- a page that is neither FREE nor pending, and that no walk goes through, holds memory
accepted_holds : (s : EntryState) → is_free s ≡ false → is_pending s ≡ false → holds_memory s ≡ true
accepted_holds entry.Free f e = cc
accepted_holds entry.Pending f e = cc
accepted_holds entry.PendingBlocked f e = cc
accepted_holds entry.Mapped f e = refl
accepted_holds _ f e = refl

module _ (o : Opening) (s : State) (p : ℕ) (all : IsGuarded o s) (h : ArePagesKnown s.world) where
  -- of a next event
  abbrev OfReach : Event → Type 0
  OfReach (Reaches t v access r gpa page) = IsOwnAccess o s p t v access r gpa page
  OfReach _ = Unit {0}

  loads : (t v r gpa page : ℕ) → next_event o s p ≡ Some (Reaches t v Read r gpa page) → Loads o s p v r gpa (word_reached s.world page gpa)
  loads t v r gpa page is = record {
    register = subst (λ (x : Option Event). (after_event p s x).world.hidden.registers v r ≡ word_reached s.world page gpa) (sym is) (rw (same_self v, same_self r) refl);
    note = subst (λ (x : Option Event). ((after_event p s x).lps p).notes ≡ (s.lps p).notes ++ LoadNote (length (s.lps p).replies + 1) gpa (word_reached s.world page gpa) ∷ []) (sym is) (rw (same_self p) refl);
  }

  stores : (t v r gpa page : ℕ) (ws : ℕ → ℕ) → s.world.hidden.memories t (page_of_gpa gpa) ≡ Some ws → next_event o s p ≡ Some (Reaches t v Write r gpa page) → Stores o s p t v r gpa page
  stores t v r gpa page ws has is =
      let x = s.world.hidden.registers v r in
      record {
        word = subst (λ (y : Option Event). (after_event p s y).world.words page (word_of_gpa gpa) ≡ x) (sym is) (rw (same_self page, same_self (word_of_gpa gpa)) refl);
        known = subst (λ (y : Option Event). known_word (after_event p s y).world t gpa ≡ Some x) (sym is) (rw (same_self t, same_self (page_of_gpa gpa), has, same_self (word_of_gpa gpa)) refl);
        note = subst (λ (y : Option Event). ((after_event p s y).lps p).notes ≡ (s.lps p).notes) (sym is) (rw (same_self p) (append-nil (s.lps p).notes));
      }

  held_here : (t gpa page : ℕ) → IsAlive s.world.pages s.world.tds t → Names (s.world.tds.entries t 0 (page_of_gpa gpa)) page → is_pending (s.world.tds.entries t 0 (page_of_gpa gpa)).state ≡ false
      → s.world.hidden.memories t (page_of_gpa gpa) ≡ Some (s.world.words (s.world.tds.entries t 0 (page_of_gpa gpa)).page)
  held_here t gpa page alive named ok =
      let holds = accepted_holds (s.world.tds.entries t 0 (page_of_gpa gpa)).state named.used ok in
      h t (page_of_gpa gpa) alive ∙ rw holds refl

  known_here : (t gpa page : ℕ) → IsAlive s.world.pages s.world.tds t → Names (s.world.tds.entries t 0 (page_of_gpa gpa)) page → is_pending (s.world.tds.entries t 0 (page_of_gpa gpa)).state ≡ false
      → known_word s.world t gpa ≡ Some (word_reached s.world page gpa)
  known_here t gpa page alive named ok =
      ap (λ (f : Option (ℕ → ℕ)). option_map (λ words. words (word_of_gpa gpa)) f) (held_here t gpa page alive named ok)
      ∙ ap (λ (q : ℕ). Some (s.world.words q (word_of_gpa gpa))) named.page_is

  own_access : (e : Event) → Due o s.world p (s.lps p) e → next_event o s p ≡ Some e → OfReach e
  own_access e (calls c cs line none) next = tt
  own_access e (frees c cs g x hs line guest held epoch) next = tt
  own_access e (leaves c cs g out i l) next = tt
  own_access e (stops c cs g i l t d) next = tt
  own_access e (fills c cs g op i l t d m) next = tt
  own_access e (operates c cs g op row i way is) next = tt
  own_access e (walks c cs g op access r gpa i way is lost) next = tt
  own_access e (reaches c cs g op access r gpa page i way is found) next =
      let own = reaches_own o s all p (page_of_gpa gpa) page access g i.guest found in
      let alive = occupied-alive s.world p g.tdr g.vp (occ-of o s all.timely p g i.guest) in
      record {
        page_is = own.0;
        load = λ a. (
          word_reached s.world page gpa,
          known_here g.tdr gpa page alive own.0.named own.1,
          loads g.tdr g.vp r gpa page (next ∙ ap (λ (z : Access). Some (Reaches g.tdr g.vp z r gpa page)) a),
        );
        store = λ a. stores g.tdr g.vp r gpa page (s.world.words (s.world.tds.entries g.tdr 0 (page_of_gpa gpa)).page) (held_here g.tdr gpa page alive own.0.named own.1) (next ∙ ap (λ (z : Access). Some (Reaches g.tdr g.vp z r gpa page)) a);
      }
  own_access e (undoes c cs g l i st x) next = tt
  own_access e (gives_back c cs g out i st x) next = tt

  pub access_is_own : (t v : ℕ) (access : Access) (r gpa page : ℕ) → next_event o s p ≡ Some (Reaches t v access r gpa page) → IsOwnAccess o s p t v access r gpa page
  access_is_own t v access r gpa page is = own_access (Reaches t v access r gpa page) (due_event_is o s p (Reaches t v access r gpa page) is) is

pub accesses_are_own : AccessesAreOwn
accesses_are_own o ws schedule p t v access r gpa page is =
    let s = reached o ws schedule in
    let k = always_known o ws schedule in
    access_is_own o s p k.0 k.1 t v access r gpa page is
