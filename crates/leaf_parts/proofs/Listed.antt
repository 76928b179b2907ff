-- A page of the host's becomes the next of those that its TD lists: the end that such calls share means what their rows
-- share.
use Rattle.std.proofs.Common.{◌≡◌, ℕ, ◌+◌, ◌<◌, true, false, ◌==◌, List, [], ◌∷◌, ◌++◌, Option, Some, None, refl, sym, subst, inl, arith}
use Rattle.std.specs.Prelude.{if◌then◌else◌, MatchOption}
use Rattle.std.proofs.lemmas.Bool.{eq-eqb, eqb-true}
use Rattle.td_words.specs.declared.names.PageKind.TheVariants as kind
use Rattle.td_words.specs.declared.names.Mode.TheVariants.{Exclusive}
use Rattle.td_words.specs.declared.machines.Machine.{Machine}
use Rattle.td_words.specs.declared.places.TheConstants.{TDR_CHILDREN}
use Rattle.td_words.specs.declared.replies.Value.TheVariants as value
use Rattle.td_words.specs.declared.replies.Reply.TheVariants.{Done}
use Rattle.td_words.specs.Place.{WordPlace, IsIn}
use Rattle.td_words.specs.Place as place
use Rattle.flat_core.specs.World.{World}
use Rattle.flat_core.specs.Processor.{OfPage, Held}
use Rattle.flat_core.specs.Row.{Row}
use Rattle.flat_core.specs.Conditions.{same_kind, is_host, children, page_exclusive, host_page}
use Rattle.flat_core.specs.Effects.{take_page, clear_page}
use Rattle.flat_core.specs.Lawful.{Lawful}
use Rattle.flat_core.specs.Event.{State}
use Rattle.flat_core.proofs.Tests.{by_test}
use Rattle.word_rules.specs.Cells.{Shows, IsAs, cell, page_cell, lock_word}
use Rattle.word_rules.specs.Guards.{Grip, Locked}
use Rattle.word_rules.specs.Rules.{ChildCount, Whole, KeepsNothing, reads, owes}
use Rattle.word_rules.specs.Permissions.{MayAt, Writes, Owes, Respects}
use Rattle.lock_words.specs.LockWords.{put_word}
use Rattle.leaf_engine.specs.Changes.{Change, Memory, changed_all}
use Rattle.leaf_engine.specs.Trees.{done, only}
use Rattle.leaf_engine.specs.Means.{Instant, Means, Work, MayChange, MayOweAll, LocksStay, AnswersAs, work_of, OfCall, hold}
use Rattle.leaf_parts.specs.declared.listed_pages.PageList.{PageList}
use Rattle.leaf_parts.specs.Words.{raised}
use Rattle.leaf_parts.specs.ListTrees.{IsListIn, index_changes, list_changes, listed_tree}
use Rattle.leaf_parts.proofs.Aside.{ShowsBut, KeepsPage, turned, aside, back, page-put, node_words, counted_words, words-but, taken-but}
use Rattle.leaf_parts.proofs.Begun.{page_lock, alone-newest}
use Rattle.leaf_parts.proofs.Checks.{spot_of, at-tdr}
use Rattle.leaf_parts.proofs.HostPages.{tdr-apart, taken-page-means}

-- the world once the page is listed, of which a list and what the page's own words tell are others; and once it is the
-- TD's besides
abbrev pub listed_in : (before after : World) → World
listed_in w x = record w {
  tds = record (w.tds) { controls = x.tds.controls; vps = x.tds.vps; streams = x.tds.streams };
  vps = x.vps;
  streams = x.streams;
  hidden = x.hidden;
}

abbrev pub taken_in : PageList → (t p : ℕ) → (before after : World) → World
taken_in l t p w x = clear_page p (take_page p l.kind t (listed_in w x))

-- a word of the page then
abbrev pub new_word : Option ℕ → (index i : ℕ) → ℕ
new_word None index i = 0
new_word (Some at) index i = if i == at then index else 0

-- what a call shows of its list
pub record Lists (s : State) (l : PageList) (t p n : ℕ) (x : World) : Type 0 where
  pub off : (l.page == p) ≡ false
  pub apart : (l.first + n == l.counted) ≡ false
  pub named : cell (record s { world = listed_in s.world x }) (place.Word l.page (l.first + n)) ≡ Some p
  pub more : cell (record s { world = listed_in s.world x }) (place.Word l.page l.counted) ≡ Some (n + 1)
  pub others : (i : ℕ) → (i == l.counted) ≡ false → (i == l.first + n) ≡ false → cell (record s { world = listed_in s.world x }) (place.Word l.page i) ≡ cell s (place.Word l.page i)
  pub rest : (q : ℕ) → (q == p) ≡ false → (q == l.page) ≡ false → KeepsPage s.world (listed_in s.world x) (lock_word s.lps s.lp_count) (s.world.pages.owners q) q
  pub new : (i : ℕ) → IsAs (page_cell (taken_in l t p s.world x) (lock_word s.lps s.lp_count) t p l.kind i) (new_word l.index n i)

-- of its permissions, in the world before its act and in that after it, and of the act
pub record ListActs (c : Instant) (l : PageList) (t p n : ℕ) (x : World) (hs : List Held) : Type 0 where
  pub lists : Lists c.state l t p n x
  pub names : Writes (hold c hs) c.state.world (place.Word l.page (l.first + n)) KeepsNothing
  pub counts : Owes (hold c hs) (taken_in l t p c.state.world x) (place.Word l.page l.counted) KeepsNothing
  pub page : (i : ℕ) → Owes (hold c hs) (taken_in l t p c.state.world x) (place.Word p i) KeepsNothing
  pub respects : Respects (hold c hs) c.state.world (taken_in l t p c.state.world x)
  pub locks_stay : LocksStay c.state.world (taken_in l t p c.state.world x) hs

module _ (m : Machine) (c : Instant) (l : PageList) (t p n : ℕ) (x : World) (la : Lawful m c.state.world) (sh : Shows m c.memory.words c.memory.slots c.state) (is : c.state.world.pages.kinds t ≡ kind.Tdr) (owned : same_kind l.kind kind.Nda ≡ false)
    (in_tdr : t < m.pages) (in_page : p < m.pages) (inside : IsListIn m l n) where
  abbrev s : State
  s = c.state

  abbrev w : World
  w = c.state.world

  abbrev listed : World
  listed = listed_in w x

  abbrev its : World
  its = taken_in l t p w x

  itself : (q : ℕ) → (q == q) ≡ true
  itself q = eq-eqb q q refl

  own : w.pages.owners t ≡ t
  own = la.pages.tdr t is

  module _ (host : is_host w p ≡ true) where
    t-p : (t == p) ≡ false
    t-p = tdr-apart w t p is host

    p-t : (p == t) ≡ false
    p-t = turned t p t-p

    module _ (lists : Lists s l t p n x) where
      p-l : (p == l.page) ≡ false
      p-l = turned l.page p lists.off

      -- it is listed
      abbrev listed-words : WordPlace → ℕ
      listed-words = put_word (put_word c.memory.words (place.Word l.page (l.first + n)) p) (place.Word l.page l.counted) (n + 1)

      listed-word : (i : ℕ) → IsIn m (place.Word l.page i) → IsAs (cell (record s { world = listed }) (place.Word l.page i)) (listed-words (place.Word l.page i))
      listed-word i b = by_test (i == l.counted)
          (λ y. subst (λ (j : ℕ). IsAs (cell (record s { world = listed }) (place.Word l.page j)) (listed-words (place.Word l.page j))) (sym (eqb-true i l.counted y)) (told l.counted (n + 1) lists.more (rw (itself l.page, itself l.counted) refl)))
          (λ a. by_test (i == l.first + n)
          (λ y. subst (λ (j : ℕ). IsAs (cell (record s { world = listed }) (place.Word l.page j)) (listed-words (place.Word l.page j))) (sym (eqb-true i (l.first + n) y)) (told (l.first + n) p lists.named (rw (itself l.page, lists.apart, itself (l.first + n)) refl)))
          (λ d. subst (λ (o : Option ℕ). IsAs o (listed-words (place.Word l.page i))) (sym (lists.others i a d)) (subst (λ (v : ℕ). IsAs (cell s (place.Word l.page i)) v) (same i a d) (sh.word (place.Word l.page i) b))))
        where
          told : (j v : ℕ) → cell (record s { world = listed }) (place.Word l.page j) ≡ Some v → listed-words (place.Word l.page j) ≡ v → IsAs (cell (record s { world = listed }) (place.Word l.page j)) (listed-words (place.Word l.page j))
          told j v e f = subst (λ (o : Option ℕ). IsAs o (listed-words (place.Word l.page j))) (sym e) f

          same : (j : ℕ) → (j == l.counted) ≡ false → (j == l.first + n) ≡ false → c.memory.words (place.Word l.page j) ≡ listed-words (place.Word l.page j)
          same j a d = rw (itself l.page, a, d) refl

      listed-but : ShowsBut p m listed-words (record s { world = listed })
      listed-but = page-put listed (aside p m c.memory.words s sh.word) l.page listed-words (record { kinds = refl; owners = refl; blocked = refl; key_table = refl; page = lists.rest }) (λ r. refl) (λ r. refl) (λ k. refl) (λ r i d. rw d refl) listed-word

      -- it is taken and cleared
      all-but : ShowsBut p m (counted_words (node_words listed-words p l.kind t) t (raised m.pages (children w t))) (record s { world = its })
      all-but = words-but (taken-but t listed-but la.size la.pages is l.kind 0 0 host owned in_page) its.words (λ q i o. rw o refl)

      abbrev after : Option ℕ → Memory
      after o = changed_all (list_changes (record l { index = o }) m.pages t p n (children w t)) c.memory

      new-cell : (i v : ℕ) → v ≡ new_word l.index n i → IsAs (cell (record s { world = its }) (place.Word p i)) v
      new-cell i v e = rw (itself p) (subst (λ (z : ℕ). IsAs (page_cell its (lock_word s.lps s.lp_count) t p l.kind i) z) (sym e) (lists.new i))

      shown-as : (o : Option ℕ) → o ≡ l.index → Shows m (after o).words (after o).slots (record s { world = its })
      shown-as None e = record {
        word = back all-but (after None).words (λ r. refl) (λ r. refl) (λ k. refl) (λ r i o. rw o refl) (λ i b. new-cell i ((after None).words (place.Word p i)) (rw (← e, itself p, p-t, p-l) refl));
        hasher = sh.hasher;
      }
      shown-as (Some at) e = record {
        word = back all-but (after (Some at)).words (λ r. refl) (λ r. refl) (λ k. refl) (λ r i o. rw o refl) (λ i b. new-cell i ((after (Some at)).words (place.Word p i)) (rw (← e, itself p, p-t, p-l) refl));
        hasher = sh.hasher;
      }

      pub list-shown : Shows m (after l.index).words (after l.index).slots (record s { world = its })
      list-shown = shown-as l.index refl

  -- the end
  module _ (row : Row) (hs : List Held) (act_is : row.act w ≡ its) (answers : AnswersAs (work_of (OfCall row)) w (only (Done value.Nothing))) (child : MayAt (hold c (page_lock p Exclusive ∷ hs)) (spot_of ChildCount t t) (λ z. reads z Whole)) where
    abbrev k : Work
    k = work_of (OfCall row)

    abbrev held : List Held
    held = page_lock p Exclusive ∷ hs

    abbrev g : Grip
    g = hold c held

    abbrev changes : ℕ → List Change
    changes kids = list_changes l m.pages t p n kids

    module _ (host : is_host w p ≡ true) (so : ListActs c l t p n x held) where
      own-alone : g.sole (Locked (OfPage p)) ≡ true
      own-alone = alone-newest p (hs ++ c.kept)

      index-owed : (o : Option ℕ) → MatchOption o (Unit {0}) (λ at. at < 512) → (mem : Memory) → MayOweAll m g its mem (index_changes o p n)
      index-owed None b mem = tt
      index-owed (Some at) b mem = (((in_page, b), (KeepsNothing, so.page at, tt)), tt)

      child-owed : Owes g its (place.Word t TDR_CHILDREN) KeepsNothing
      child-owed = at-tdr g its t 2 (λ z. owes z KeepsNothing) (rw (t-p host) is) (rw (t-p host) own) child

      may-change : MayChange m g w its c.memory (changes (children w t))
      may-change = (
        ((inside.control, inside.listed), (KeepsNothing, so.names, tt)),
        (
          (in_page, λ i b. so.page i),
          (
            (in_page, (KeepsNothing, inl (own-alone, tt), tt)),
            (((inside.control, inside.total), (KeepsNothing, so.counts, tt)), (((in_tdr, omega arith), (KeepsNothing, child-owed, tt)), index-owed l.index inside.told _)),
          ),
        ),
      )

      -- all that the end says of the world after it
      abbrev Ends : World → Type 0
      Ends w' = Respects g w w' × LocksStay w w' held × (let mem = changed_all (changes (children w t)) c.memory in Shows m mem.words mem.slots (record s { world = w' })) × MayChange m g w w' c.memory (changes (children w t))

      list-end : Means m c k held (done [] (changes (children w t))) []
      list-end =
          let e : Ends (row.act w) = subst Ends (sym act_is) (so.respects, so.locks_stay, list-shown host so.lists, may-change) in
          (record { answers = answers; fills_allowed = tt; respects = e.0; locks_stay = e.1; shows = e.2 }, e.3)

    pub list-means : (is_host w p ≡ true → ListActs c l t p n x held) → Means m c k hs (listed_tree l m.pages t p n) (page_exclusive p ∷ host_page w p ∷ [])
    list-means so = taken-page-means m c sh k hs t p is own in_tdr in_page child (λ kids. done [] (changes kids)) [] (λ host. list-end host (so host))
