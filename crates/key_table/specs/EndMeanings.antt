-- The leaf that frees an HKID means its row.
use Rattle.std.proofs.Common.{◌≡◌, ℕ, ◌+◌, ◌-◌, ◌<◌, true, false, ◌==◌, nat_lt, if◌then◌else◌, List, [], ◌∷◌, Option, Some, None, refl, sym, subst, inl, arith}
use Rattle.std.specs.List.{list_any}
use Rattle.std.proofs.lemmas.Bool.{eq-eqb, eqb-true, ltb-true}
use Rattle.td_words.specs.declared.names.PageKind.TheVariants as kind
use Rattle.td_words.specs.declared.names.LifeState.{LifeState}
use Rattle.td_words.specs.declared.names.LifeState.TheVariants as life
use Rattle.td_words.specs.declared.names.Mode.TheVariants.{Exclusive}
use Rattle.td_words.specs.declared.refusals.Status.TheVariants.{OperandInvalid}
use Rattle.td_words.specs.declared.machines.Machine.{Machine}
use Rattle.td_words.specs.declared.calls.Call.TheVariants as call
use Rattle.td_words.specs.NameNumber.{life_number}
use Rattle.td_words.specs.Packing.{Key, Unassigned, key_word}
use Rattle.td_words.specs.Place.{WordPlace, IsIn}
use Rattle.td_words.specs.Place as place
use Rattle.flat_core.specs.World.{World}
use Rattle.flat_core.specs.Processor.{LockId}
use Rattle.flat_core.specs.Effects.{set_key, set_life}
use Rattle.flat_core.specs.KeyRows.{free_hkid}
use Rattle.flat_core.specs.Conditions.{keys_exclusive, is_written_back, written_back_key}
use Rattle.flat_core.specs.Lawful.{Lawful, IsAlive, key_owner}
use Rattle.flat_core.specs.Event.{State}
use Rattle.flat_core.proofs.Tests.{by_test}
use Rattle.word_rules.specs.Rules.{KeepsNothing}
use Rattle.word_rules.specs.Permissions.{Respects}
use Rattle.word_rules.specs.Cells.{Shows, IsAs, cell, if_stands, lock_word, built_hasher, is_built, hasher_cell}
use Rattle.act_rules.proofs.Rows.{rows-respect}
use Rattle.leaf_engine.specs.declared.needs.Place.{Place}
use Rattle.leaf_engine.specs.Changes.{Memory, Put, changed, changed_all}
use Rattle.leaf_engine.specs.Means.{Instant, IsHkid, Means, work_of, OfCall, MeansRow, MayOweAll, hold}
use Rattle.leaf_parts.proofs.Acted.{opening}
use Rattle.leaf_parts.proofs.Aside.{ShowsBut, aside, back, life-but, key-put}
use Rattle.leaf_parts.proofs.Checks.{tdr-row-means, tdr-load}
use Rattle.leaf_parts.proofs.Begun.{page_alone, both_locks, holds-newest, alone-newest}
use Rattle.lock_words.specs.LockWords.{put_word}
use Rattle.leaf_parts.proofs.Told.{tdr-shown, tdr-spot}
use Rattle.key_table.specs.Words.{key_number}
use Rattle.key_table.specs.EndTrees.{end_changes, free_key, free_rest, free_task}
use Rattle.key_table.specs.Parts.{key_inside, key_at, key_lock_apart, key_shown, marked_word, alive_among}

-- where a TD doesn't stand any more nothing is shown, and before it stood
standing : {A : Type 0} (a b : LifeState) (o : Option A) (x : A) → (life_number a == life_number life.Teardown) ≡ false → IsAs (if_stands a o) x → IsAs (if_stands b o) x
standing a b o x e s = by_test (life_number b == life_number life.Teardown) (λ y. rw y tt) (λ n. rw n (rw e at s))

-- The life state of a TD that is alive, and what the key table says of its HKID, change, in words as in the world.
module _ (m : Machine) (s : State) (mem : Memory) (t : ℕ) (life' : LifeState) (key' : Key) (sh : Shows m mem.words mem.slots s) (la : Lawful m s.world) (alive : IsAlive s.world.pages s.world.tds t) where
  abbrev w : World
  w = s.world

  abbrev h : ℕ
  h = s.world.tds.hkids t

  abbrev w' : World
  w' = set_key (s.world.tds.hkids t) key' (set_life t life' s.world)

  abbrev locks : LockId → ℕ
  locks = lock_word s.lps s.lp_count

  abbrev after : Memory
  after = changed_all (end_changes m t (s.world.tds.hkids t) key' life') mem

  range : IsHkid m h
  range = la.keys.in_range t alive

  lives-as : {A : Type 0} (u : ℕ) (o : Option A) (x : A) → IsAs (if_stands (w.tds.lives u) o) x → IsAs (if_stands (w'.tds.lives u) o) x
  lives-as u o x a = by_test (u == t)
      (λ e. (let is : u ≡ t = eqb-true u t e in rw e (standing (w.tds.lives t) life' o x alive.life (subst (λ (v : ℕ). IsAs (if_stands (w.tds.lives v) o) x) is a))))
      (λ e. rw e a)

  own : w.pages.owners t ≡ t
  own = la.pages.tdr t alive.kind

  itself : (t == t) ≡ true
  itself = eq-eqb t t refl

  -- the words of pages that aren't the TDR page, and of the key table
  ended-but : ShowsBut t m mem.words (record s { world = set_life t life' w })
  ended-but = life-but (aside t m mem.words s sh.word) life' la.pages (λ n. alive.life)

  tdr-word : (i : ℕ) → i < 512 → IsAs (cell (record s { world = w' }) (place.Word t i)) (after.words (place.Word t i))
  tdr-word i b =
      let was = tdr-shown m mem.words mem.slots s sh t i alive.kind own (la.pages.in_machine t (rw alive.kind refl)) b in
      rw (alive.kind, own, itself) (by_test (i == 0) (λ e. rw e refl) (λ n. rw n (rw n at was)))

  key : (k : ℕ) → after.words (place.Key k) ≡ put_word mem.words (place.Key (3 + (h - 1))) (key_word key') (place.Key k)
  key k = rw (key_at m h range) refl

  -- the hashers
  built-as : (o : Option ℕ) (x : Option (List ℕ)) → IsAs (built_hasher w o) x → IsAs (built_hasher w' o) x
  built-as None x a = a
  built-as (Some u) x a = lives-as u (if is_built (w.tds.ops u) then Some (Some (w.tds.measured u)) else None) x a

  pub ended_shown : (IsAs (built_hasher w' (key_owner key')) (mem.slots h)) → Shows m after.words after.slots (record s { world = w' })
  ended_shown there = record { word = back (key-put h key' range.0 ended-but) after.words (λ r. refl) (λ r. refl) key (λ r i o. rw o refl) tdr-word; hasher = slot }
    where
      slot : (k : ℕ) → IsAs (hasher_cell w' k) (after.slots k)
      slot k = by_test (k == h)
          (λ e. (let is : k ≡ h = eqb-true k h e in rw e (subst (λ (j : ℕ). IsAs (built_hasher w' (key_owner key')) (mem.slots j)) (sym is) there)))
          (λ e. rw e (built-as (key_owner (w.key_table.keys k)) (mem.slots k) (sh.hasher k)))

  -- the HKID's slot, while it stays the TD's
  pub slot_stays : IsAs (built_hasher w' (Some t)) (mem.slots h)
  slot_stays = built-as (Some t) (mem.slots h) (subst (λ (o : Option ℕ). IsAs (built_hasher w o) (mem.slots h)) (la.keys.owner t alive) (sh.hasher h))

-- the store of the life state after the act
pub life_owed : (m : Machine) (c : Instant) (t : ℕ) (life' : LifeState) (key' : Key) (mem : Memory) → Lawful m c.state.world → t < m.pages → c.state.world.pages.kinds t ≡ kind.Tdr
    → MayOweAll m (hold c (both_locks t)) (set_key (c.state.world.tds.hkids t) key' (set_life t life' c.state.world)) mem (Put (place.Word t 0) (life_number life') ∷ [])
life_owed m c t life' key' mem la in_page is =
    let w' : World = set_key (c.state.world.tds.hkids t) key' (set_life t life' c.state.world) in
    (((in_page, omega arith), (KeepsNothing, rw (tdr-spot w' t 0 is (la.pages.tdr t is)) (inl (alone-newest t c.kept, tt)), tt)), tt)

module _ (m : Machine) (c : Instant) (t : ℕ) (shown : Shows m c.memory.words c.memory.slots c.state) (la : Lawful m c.state.world) (a : nat_lt t m.pages ≡ true) (is : c.state.world.pages.kinds t ≡ kind.Tdr) (among : list_any (λ x. life_number x == life_number (c.state.world.tds.lives t)) (life.Blocked ∷ []) ≡ true) where
  abbrev fh : ℕ
  fh = c.state.world.tds.hkids t

  in_page : t < m.pages
  in_page = ltb-true t m.pages a

  free-alive : IsAlive c.state.world.pages c.state.world.tds t
  free-alive = record { kind = is; life = alive_among (life.Blocked ∷ []) (c.state.world.tds.lives t) refl among }

  free-range : IsHkid m fh
  free-range = la.keys.in_range t free-alive

  free_respects : is_written_back (c.state.world.key_table.keys fh) ≡ true → Respects (hold c (both_locks t)) c.state.world ((free_hkid m t).act c.state.world)
  free_respects back = rows-respect (opening m) 0 (call.MngKeyFreeid t) (hold c (both_locks t)) c.state.world la (a, (rw is refl, (among, (back, tt))))
      ((holds-newest t Exclusive c.kept, alone-newest t c.kept), ((refl, refl), tt))

  free_key-means : Means m c (work_of (OfCall (free_hkid m t))) (both_locks t) (free_key m t fh) (written_back_key c.state.world t ∷ [])
  free_key-means = (
    key_inside m fh,
    inl (rw (key_lock_apart m fh free-range) (inl (refl, tt))),
    (
      rw (key_shown m c fh shown free-range) (marked_word (c.state.world.key_table.keys fh)),
      λ e. refl,
      λ back. (
        record {
          answers = record { reply_is = refl; cached_is = refl; enters_is = refl; notes_are = refl; tells_are = refl; bundles_are = refl };
          fills_allowed = tt;
          respects = free_respects back;
          locks_stay = ((refl, λ x. x), ((refl, λ x. x), tt));
          shows = ended_shown m c.state c.memory t life.Teardown Unassigned shown la free-alive tt;
        },
        (
          (key_inside m fh, (KeepsNothing, rw (key_lock_apart m fh free-range) (inl (refl, tt)), tt)),
          life_owed m c t life.Teardown Unassigned (changed (Put (place.Key (key_number m fh)) 0) c.memory) la in_page free-alive.kind,
        ),
      ),
    ),
  )

  free_rest-means : Means m c (work_of (OfCall (free_hkid m t))) (page_alone t) (free_rest m t) (keys_exclusive ∷ written_back_key c.state.world t ∷ [])
  free_rest-means = (
    refl,
    refl,
    record { in_machine = omega arith; at = refl; stands = tt; allowed = inl tt },
    tdr-load m c (work_of (OfCall (free_hkid m t))) (both_locks t) shown t 1 fh is (la.pages.tdr t is) in_page (omega arith) refl (inl (holds-newest t Exclusive c.kept, tt)) (λ h. free_key m t h) (written_back_key c.state.world t ∷ []) free_key-means,
  )

pub free-means : (p : Place) (t : ℕ) → MeansRow (free_task p t)
free-means p t = record {
  means = λ c at. tdr-row-means p.machine c (work_of (OfCall (free_hkid p.machine t))) t at.lawful at.shown ((nat_lt t p.machine.pages, OperandInvalid 1) ∷ []) (λ a. ltb-true t p.machine.pages a.0) (life.Blocked ∷ []) (free_rest p.machine t)
      (keys_exclusive ∷ written_back_key c.state.world t ∷ []) (λ a is among. free_rest-means p.machine c t at.shown at.lawful a.0 is among);
}
