-- The leaf that gives a page back means its row.
use Rattle.std.proofs.Common.{◌≡◌, ℕ, ◌<◌, Bool, true, false, not, ◌==◌, ◌&&◌, nat_lt, List, [], ◌∷◌, ◌++◌, refl, ap, sym, ◌∙◌, subst, inl, arith}
use Rattle.std.specs.List.{list_any}
use Rattle.std.proofs.lemmas.Bool.{eq-eqb, eqb-true, ltb-true, not-true, and_parts}
use Rattle.td_words.specs.declared.names.PageKind.TheVariants as kind
use Rattle.td_words.specs.declared.names.LifeState.TheVariants as life
use Rattle.td_words.specs.declared.names.Mode.TheVariants.{Exclusive}
use Rattle.td_words.specs.declared.machines.Machine.{Machine}
use Rattle.td_words.specs.declared.calls.Call.TheVariants as call
use Rattle.td_words.specs.NameNumber.{life_number}
use Rattle.td_words.specs.declared.refusals.Status.TheVariants.{OperandInvalid}
use Rattle.td_words.specs.declared.replies.Value.TheVariants as value
use Rattle.td_words.specs.declared.replies.Reply.TheVariants.{Done}
use Rattle.td_words.specs.Place.{WordPlace, IsIn}
use Rattle.td_words.specs.Place as place
use Rattle.flat_core.specs.World.{World}
use Rattle.flat_core.specs.Row.{Passes}
use Rattle.flat_core.specs.Processor.{OfPage, Held}
use Rattle.flat_core.specs.Effects.{give_back, clear_page, end_memory_in}
use Rattle.flat_core.specs.KeyRows.{reclaim_page, reclaim_conditions}
use Rattle.flat_core.specs.Conditions.{same_kind, is_host, children}
use Rattle.flat_core.specs.Lawful.{Lawful}
use Rattle.flat_core.specs.Event.{State}
use Rattle.word_rules.specs.Rules.{KeepsNothing}
use Rattle.word_rules.specs.Permissions.{Respects}
use Rattle.word_rules.specs.Cells.{Shows}
use Rattle.word_rules.specs.CallUses.{HoldsTries}
use Rattle.act_rules.proofs.Rows.{rows-respect}
use Rattle.leaf_engine.specs.declared.needs.Place.{Place}
use Rattle.lock_words.specs.Grips.{holds, holds_alone}
use Rattle.leaf_engine.specs.Changes.{Memory, Put, Clear, changed, changed_all}
use Rattle.leaf_engine.specs.Trees.{acts}
use Rattle.leaf_engine.specs.Means.{Instant, Means, Work, work_of, OfCall, MeansRow, MayOwe, hold}
use Rattle.leaf_parts.proofs.Acted.{opening}
use Rattle.leaf_parts.proofs.Begun.{page_lock, page_alone, holds-newest, alone-newest}
use Rattle.leaf_parts.proofs.Aside.{ShowsBut, turned, aside, back, words-but, untold, tdr-given-but, given-but}
use Rattle.leaf_parts.proofs.Checks.{tdr-row-means}
use Rattle.leaf_parts.proofs.Told.{kind-shown, owner-shown, tdr-shown, tdr-spot}
use Rattle.key_table.specs.Words.{is_owned}
use Rattle.key_table.specs.ReclaimTrees.{give_back_tdr, give_back_child, reclaim_rest, reclaim_task}

-- A page of a TD is given back.
module _ (m : Machine) (s : State) (mem : Memory) (t p : ℕ) (sh : Shows m mem.words mem.slots s) (la : Lawful m s.world) (root : s.world.pages.kinds t ≡ kind.Tdr) (no-host : is_host s.world p ≡ false) (its : s.world.pages.owners p ≡ t) where
  abbrev w : World
  w = s.world

  abbrev w' : World
  w' = give_back p (end_memory_in t p s.world)

  -- it is cleared, and no guest knows it any more
  abbrev cleared : State
  cleared = record s { world = clear_page p (end_memory_in t p w) }

  cleared-but : ShowsBut p m mem.words cleared
  cleared-but = words-but (aside p m mem.words (record s { world = end_memory_in t p w }) (untold m mem.words s w.tds.measured (end_memory_in t p w).hidden.memories sh.word)) cleared.world.words (λ q i o. rw o refl)

  itself : (p == p) ≡ true
  itself = eq-eqb p p refl

  -- the TDR page, when it is the page itself
  abbrev ended : Memory
  ended = changed_all (give_back_tdr p) mem

  pub shown_tdr : (p == t) ≡ true → Shows m ended.words ended.slots (record s { world = w' })
  shown_tdr y = record {
    word = back (tdr-given-but t cleared-but la.size la.pages root no-host its (eq-eqb t p (sym (eqb-true p t y)))) ended.words (λ r. refl) (λ r. refl) (λ k. refl) (λ r i o. rw o refl) (λ i b. rw itself (rw itself refl));
    hasher = sh.hasher;
  }

  -- another page than the TDR page
  abbrev given : Memory
  given = changed_all (give_back_child t p (children s.world t)) mem

  pub shown_child : (p == t) ≡ false → Shows m given.words given.slots (record s { world = w' })
  shown_child d = record { word = back (given-but t cleared-but la.size la.pages root no-host its d) given.words (λ r. refl) (λ r. refl) (λ k. refl) (λ r i o. rw o refl) (λ i b. rw (itself, d) (rw itself refl)); hasher = sh.hasher }

-- a PAMT word tells whether its page is that TD's
owned_shown : (m : Machine) (c : Instant) (t q : ℕ) → Shows m c.memory.words c.memory.slots c.state → Lawful m c.state.world → m.pages < 65536 → q < m.pages
    → is_owned t (c.memory.words (place.Pamt q)) ≡ (not (is_host c.state.world q) && c.state.world.pages.owners q == t)
owned_shown m c t q sh la few b = rw (kind-shown m c.memory.words c.memory.slots c.state sh kind.Nda q b, owner-shown m c.memory.words c.memory.slots c.state sh t q la few b) refl

-- the locks of a page and of its TDR page
abbrev two_locks : (t page : ℕ) → List Held
two_locks t page = page_lock page Exclusive ∷ page_alone t

tdr_held : (t page : ℕ) (hs : List Held) → (page == t) ≡ false → holds (two_locks t page ++ hs) (OfPage t) ≡ true
tdr_held t page hs d = rw (d, eq-eqb t t refl) refl

tdr_held_alone : (t page : ℕ) (hs : List Held) → (page == t) ≡ false → holds_alone (two_locks t page ++ hs) (OfPage t) ≡ true
tdr_held_alone t page hs d = rw (d, eq-eqb t t refl) refl

-- Under the locks of its row, by whether the page is the TDR page
module _ (m : Machine) (c : Instant) (t page : ℕ) (sh : Shows m c.memory.words c.memory.slots c.state) (la : Lawful m c.state.world) (few : m.pages < 65536) (a : nat_lt t m.pages ≡ true) (b : nat_lt page m.pages ≡ true) (is : c.state.world.pages.kinds t ≡ kind.Tdr) (among : list_any (λ x. life_number x == life_number (c.state.world.tds.lives t)) (life.Teardown ∷ []) ≡ true) where
  abbrev the_world : World
  the_world = c.state.world

  abbrev the_work : Work
  the_work = work_of (OfCall (reclaim_page m t page))

  tdr_in : t < m.pages
  tdr_in = ltb-true t m.pages a

  page_in : page < m.pages
  page_in = ltb-true page m.pages b

  root_is : same_kind (the_world.pages.kinds t) kind.Tdr ≡ true
  root_is = rw is refl

  own_tdr : the_world.pages.owners t ≡ t
  own_tdr = la.pages.tdr t is

  child-count : c.memory.words (place.Word t 2) ≡ children the_world t
  child-count = tdr-shown m c.memory.words c.memory.slots c.state sh t 2 is own_tdr tdr_in (omega arith)

  back_respects : (hs : List Held) (x : Bool) → (page == t) ≡ x → holds (hs ++ c.kept) (OfPage t) ≡ true → holds_alone (hs ++ c.kept) (OfPage t) ≡ true → Passes (reclaim_conditions the_world t page x)
      → HoldsTries (hold c hs) (reclaim_conditions the_world t page x) → Respects (hold c hs) the_world ((reclaim_page m t page).act the_world)
  back_respects hs x e has sole passes tries =
      rows-respect (opening m) 0 (call.PhymemPageReclaim t page) (hold c hs) the_world la
      (a, (b, (root_is, (among, subst (λ (y : Bool). Passes (reclaim_conditions the_world t page y)) (sym e) passes))))
      ((has, sole), subst (λ (y : Bool). HoldsTries (hold c hs) (reclaim_conditions the_world t page y)) (sym e) tries)

  -- the page is cleared as the host's
  clear_owed : (hs : List Held) (mem : Memory) → holds_alone (hs ++ c.kept) (OfPage page) ≡ true → MayOwe m (hold c hs) ((reclaim_page m t page).act the_world) mem (Clear page)
  clear_owed hs mem alone = (page_in, λ i j. rw (eq-eqb page page refl) (inl (alone, tt)))

  rest-means : (x : Bool) → (page == t) ≡ x → Means m c the_work (page_alone t) (reclaim_rest t page x) (reclaim_conditions the_world t page x)
  rest-means true e =
      let same : page ≡ t = eqb-true page t e in
      let alone : holds_alone (page_alone t ++ c.kept) (OfPage page) ≡ true = subst (λ (q : ℕ). holds_alone (page_alone t ++ c.kept) (OfPage q) ≡ true) (sym same) (alone-newest t c.kept) in
      let host : is_host the_world page ≡ false = (let k : the_world.pages.kinds page ≡ kind.Tdr = ap the_world.pages.kinds same ∙ is in rw k refl) in
      let its : the_world.pages.owners page ≡ t = ap the_world.pages.owners same ∙ own_tdr in (
        (tdr_in, omega arith),
        inl (rw (tdr-spot the_world t 2 is own_tdr) (inl (alone-newest t c.kept, tt))),
        (
          rw child-count refl,
          λ n. rw child-count refl,
          λ none. (
            record {
              answers = record { reply_is = refl; cached_is = refl; enters_is = refl; notes_are = refl; tells_are = refl; bundles_are = refl };
              fills_allowed = tt;
              respects = back_respects (page_alone t) true e (holds-newest t Exclusive c.kept) (alone-newest t c.kept) (none, tt) tt;
              locks_stay = ((refl, λ y. y), tt);
              shows = shown_tdr m c.state c.memory t page sh la is host its e;
            },
            ((page_in, (KeepsNothing, inl (alone, tt), tt)), (clear_owed (page_alone t) (changed (Put (place.Pamt page) 0) c.memory) alone, tt)),
          ),
        ),
      )
  rest-means false e = (
    refl,
    refl,
    record { in_machine = page_in; at = refl; stands = tt; allowed = inl tt },
    (
      page_in,
      inl (inl (holds-newest page Exclusive (page_alone t ++ c.kept), tt)),
      (
        owned_shown m c t page sh la few page_in,
        λ n. refl,
        λ owned. (let both = and_parts (not (is_host the_world page)) (the_world.pages.owners page == t) owned in
            let host : is_host the_world page ≡ false = not-true (is_host the_world page) both.0 in
            let its : the_world.pages.owners page ≡ t = eqb-true (the_world.pages.owners page) t both.1 in
            let alone : holds_alone (two_locks t page ++ c.kept) (OfPage page) ≡ true = alone-newest page (page_alone t ++ c.kept) in
            let has : holds (two_locks t page ++ c.kept) (OfPage t) ≡ true = tdr_held t page c.kept e in
            let sole : holds_alone (two_locks t page ++ c.kept) (OfPage t) ≡ true = tdr_held_alone t page c.kept e in
            let apart : (t == page) ≡ false = turned page t e in
            let w' : World = (reclaim_page m t page).act the_world in (
              (tdr_in, omega arith),
              inl (rw (tdr-spot the_world t 2 is own_tdr) (inl (sole, tt))),
              subst (λ (n : ℕ). Means m c the_work (two_locks t page) (acts (Done value.Nothing) (give_back_child t page n)) []) (sym child-count) (
                record {
                  answers = record { reply_is = refl; cached_is = refl; enters_is = refl; notes_are = refl; tells_are = refl; bundles_are = refl };
                  fills_allowed = tt;
                  respects = back_respects (two_locks t page) false e has sole (owned, tt) ((holds-newest page Exclusive (page_alone t ++ c.kept), alone), tt);
                  locks_stay = ((refl, λ y. y), ((refl, λ y. y), tt));
                  shows = shown_child m c.state c.memory t page sh la is host its e;
                },
                (
                  (page_in, (KeepsNothing, inl (alone, tt), tt)),
                  (
                    clear_owed (two_locks t page) (changed (Put (place.Pamt page) 0) c.memory) alone,
                    (((tdr_in, omega arith), (KeepsNothing, rw (tdr-spot w' t 2 (rw apart is) (rw apart own_tdr)) (inl (sole, tt)), tt)), tt),
                  ),
                ),
              ),
            )),
      ),
    ),
  )

pub reclaim-means : (p : Place) (t page : ℕ) → p.machine.pages < 65536 → MeansRow (reclaim_task p t page)
reclaim-means p t page few = record {
  means = λ c at. tdr-row-means p.machine c (work_of (OfCall (reclaim_page p.machine t page))) t at.lawful at.shown ((nat_lt t p.machine.pages, OperandInvalid 1) ∷ (nat_lt page p.machine.pages, OperandInvalid 2) ∷ []) (λ a. ltb-true t p.machine.pages a.0) (life.Teardown ∷ [])
      (reclaim_rest t page (page == t)) (reclaim_conditions c.state.world t page (page == t)) (λ a is among. rest-means p.machine c t page at.shown at.lawful few a.0 a.1.0 is among (page == t) refl);
}
