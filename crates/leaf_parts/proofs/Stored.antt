-- A word of TDCS is stored: words that show the state before show the one after, where an act changes of what they tell nothing
-- else. What no word tells may be other after it, and what has left the machine.
use Rattle.std.proofs.Common.{◌≡◌, ℕ, ◌<◌, false, ◌==◌, [], ◌∷◌, Option, Some, refl, sym, subst}
use Rattle.std.proofs.lemmas.Bool.{eq-eqb, eqb-true}
use Rattle.td_words.specs.declared.names.PageKind.TheVariants as kind
use Rattle.td_words.specs.declared.names.LifeState.TheVariants as life
use Rattle.td_words.specs.declared.machines.Machine.{Machine}
use Rattle.td_words.specs.NameNumber.{life_number}
use Rattle.td_words.specs.Place.{WordPlace}
use Rattle.td_words.specs.Place as place
use Rattle.flat_core.specs.World.{World}
use Rattle.flat_core.specs.Lawful.{IsPageOf}
use Rattle.flat_core.specs.Event.{State}
use Rattle.flat_core.proofs.Tests.{by_test}
use Rattle.word_rules.specs.Lines.{in_lines}
use Rattle.word_rules.specs.Cells.{IsAs, cell, lock_word, td_lock_lines, tdcs_lines}
use Rattle.lock_words.specs.LockWords.{put_word}
use Rattle.leaf_parts.proofs.Aside.{AllShown, aside, back, kept-but, tdcs-but}

-- what TDCS tells of each TD besides its pages, what no word tells, and what has left the machine, are as in the other world
abbrev pub tells_as : (w other : World) → World
tells_as w other = record w {
  tds = record (other.tds) { lives = w.tds.lives; hkids = w.tds.hkids; controls = w.tds.controls; entries = w.tds.entries; vps = w.tds.vps; streams = w.tds.streams };
  hidden = record (other.hidden) { registers = w.hidden.registers };
  outgoing = other.outgoing;
}

module _ (m : Machine) (s : State) (words : WordPlace → ℕ) (t d r : ℕ) (sh : AllShown m words s) (alive : (life_number (s.world.tds.lives t) == life_number life.Teardown) ≡ false)
    (list : s.world.tds.controls t ≡ d ∷ r ∷ []) (page : IsPageOf s.world.pages t d kind.Tdcx) (d_in : d < m.pages) (other : World) where
  abbrev w' : World
  w' = tells_as s.world other

  abbrev now : State
  now = record s { world = tells_as s.world other }

  -- of a TD, before and then
  abbrev line : (u i : ℕ) → Option ℕ
  line u i = in_lines (td_lock_lines (lock_word s.lps s.lp_count) u (tdcs_lines s.world u)) i

  abbrev line' : (u i : ℕ) → Option ℕ
  line' u i = in_lines (td_lock_lines (lock_word s.lps s.lp_count) u (tdcs_lines (tells_as s.world other) u)) i

  module _ (others : (u : ℕ) → (u == t) ≡ false → (i : ℕ) → line' u i ≡ line u i) where
    -- words of the page alone are others
    pub tdcs-changed : (words' : WordPlace → ℕ) → ((q : ℕ) → words' (place.Lock q) ≡ words (place.Lock q)) → ((q : ℕ) → words' (place.Pamt q) ≡ words (place.Pamt q)) → ((k : ℕ) → words' (place.Key k) ≡ words (place.Key k))
        → ((q i : ℕ) → (q == d) ≡ false → words' (place.Word q i) ≡ words (place.Word q i)) → ((i : ℕ) → IsAs (line t i) (words (place.Word d i)) → IsAs (line' t i) (words' (place.Word d i))) → AllShown m words' now
    tdcs-changed words' lock pamt key off its =
        back (kept-but w' (aside d m words s sh) (record {
          kinds = refl;
          owners = refl;
          blocked = refl;
          key_table = refl;
          page = λ q o n. record {
            words = λ i. refl;
            tdr = λ is i. refl;
            owned = λ own. record { stands = λ z. z; level = refl; number = refl; entries = λ l e. refl; vp = λ i. refl; stream = λ i. refl; control = λ is z. tdcs-but refl (λ l e. refl) t d (r ∷ []) list o (others (s.world.pages.owners q)) };
          };
        })) words' lock pamt key off (λ i b. (let was : IsAs (line t i) (words (place.Word d i)) = rw (page.kind, page.owner, alive, list, eq-eqb d d refl) at (sh (place.Word d i) (d_in, b)) in
        let here : cell now (place.Word d i) ≡ line' t i = rw (page.kind, page.owner, alive, list, eq-eqb d d refl) refl in
        subst (λ (o : Option ℕ). IsAs o (words' (place.Word d i))) (sym here) (its i was)))

    -- one word is
    module _ (at x : ℕ) where
      abbrev stored : WordPlace → ℕ
      stored = put_word words (place.Word d at) x

      pub tdcs-stored : line' t at ≡ Some x → ((i : ℕ) → (i == at) ≡ false → line' t i ≡ line t i) → AllShown m stored now
      tdcs-stored is same = tdcs-changed stored (λ q. refl) (λ q. refl) (λ k. refl) (λ q i o. rw o refl) (λ i was. by_test (i == at)
          (λ e. (let here : line' t i ≡ Some x = subst (λ (j : ℕ). line' t j ≡ Some x) (sym (eqb-true i at e)) is in
          subst (λ (o : Option ℕ). IsAs o (stored (place.Word d i))) (sym here) (rw (eq-eqb d d refl, e) refl)))
          (λ n. (let word : words (place.Word d i) ≡ stored (place.Word d i) = rw (eq-eqb d d refl, n) refl in
          subst (λ (v : ℕ). IsAs (line' t i) v) word (subst (λ (o : Option ℕ). IsAs o (words (place.Word d i))) (sym (same i n)) was))))
