-- Lists of a TD's pages that stand in its TDCS: where O is held alone, the next page is listed, and the leaf's end means its
-- row's.
use Rattle.std.proofs.Common.{◌≡◌, ℕ, zero, suc, ◌+◌, ◌<◌, Bool, true, false, ◌==◌, List, [], ◌∷◌, ◌++◌, length, Option, Some, refl, sym, ◌∙◌, subst, inl, inr, arith, length-append}
use Rattle.std.specs.Prelude.{slice_get}
use Rattle.std.proofs.lemmas.Bool.{eq-eqb}
use Rattle.std.proofs.lemmas.Bool.Decides.{nat_tests}
use Rattle.td_words.specs.declared.names.PageKind.TheVariants as kind
use Rattle.td_words.specs.declared.names.OpState.{OpState}
use Rattle.td_words.specs.declared.names.Mode.TheVariants.{Exclusive}
use Rattle.td_words.specs.declared.machines.Machine.{Machine}
use Rattle.td_words.specs.declared.replies.Value.TheVariants as value
use Rattle.td_words.specs.declared.replies.Reply.TheVariants.{Done}
use Rattle.td_words.specs.Place as place
use Rattle.flat_core.specs.World.{World}
use Rattle.flat_core.specs.Row.{Row}
use Rattle.flat_core.specs.Conditions.{same_kind, is_host, page_exclusive, host_page}
use Rattle.flat_core.specs.Lawful.{Lawful, IsAlive, IsPageOf}
use Rattle.flat_core.specs.Event.{State}
use Rattle.flat_core.proofs.Tests.{host_kind}
use Rattle.word_rules.specs.Lines.{in_lines}
use Rattle.word_rules.specs.Cells.{Shows, IsAs, cell, page_cell, lock_word, td_lock_lines, tdcs_lines, vp_lines, stream_lines}
use Rattle.word_rules.specs.Guards.{Grip}
use Rattle.word_rules.specs.Rules.{Class, ChildCount, TdcsWord, Whole, KeepsNothing, reads, writes, owes}
use Rattle.word_rules.specs.Spots.{spot, or_unused, tdcs_classes, is_current, is_empty}
use Rattle.word_rules.specs.Permissions.{MayAt, Owes, Respects}
use Rattle.leaf_engine.specs.Trees.{only}
use Rattle.leaf_engine.specs.Means.{Instant, Means, AnswersAs, work_of, OfCall, hold}
use Rattle.leaf_parts.specs.declared.listed_pages.PageList.{PageList}
use Rattle.leaf_parts.specs.ListTrees.{IsListIn, listed_tree}
use Rattle.leaf_parts.proofs.Aside.{apart, tdcs-but}
use Rattle.leaf_parts.proofs.Begun.{IsTd, locks-kept}
use Rattle.leaf_parts.proofs.Checks.{spot_of, at-tdcs}
use Rattle.leaf_parts.proofs.HostPages.{tdr-apart}
use Rattle.leaf_parts.proofs.Listed.{Lists, ListActs, taken_in, new_word, list-means}
use Rattle.vcpu_control.specs.VpLocks.{td_locks, page_locks, held-td, alone-op}

-- lists with one more at the end

pub last-one : (p : ℕ) (vs : List ℕ) → slice_get (vs ++ p ∷ []) (length vs) ≡ Some p
last-one p [] = refl
last-one p (v ∷ vs) = last-one p vs

pub others : (p : ℕ) (vs : List ℕ) (k : ℕ) → (k == length vs) ≡ false → slice_get (vs ++ p ∷ []) k ≡ slice_get vs k
others p [] zero n = cc
others p [] (suc k) n = refl
others p (v ∷ vs) zero n = refl
others p (v ∷ vs) (suc k) n = (let o : (k == length vs) ≡ false = grind (arith, nat_tests) in others p vs k o)

pub one-longer : (p : ℕ) (vs : List ℕ) → length (vs ++ p ∷ []) ≡ length vs + 1
one-longer p vs = omega (arith, length-append vs (p ∷ []))

-- a word of a TD's TDCS
abbrev pub tdcs_word : State → World → (t i : ℕ) → Option ℕ
tdcs_word s w t i = in_lines (td_lock_lines (lock_word s.lps s.lp_count) t (tdcs_lines w t)) i

-- the world once the page is listed
abbrev pub in_tdcs : (before after : World) → World
in_tdcs w x = record w { tds = record (w.tds) { vps = x.tds.vps; streams = x.tds.streams }; vps = x.vps; streams = x.streams; hidden = x.hidden }

-- what a call shows of its list, of the words of other pages and of the new one, and of its act
pub record ListsInTdcs (c : Instant) (l : PageList) (t p n : ℕ) (x : World) : Type 0 where
  pub apart : (l.first + n == l.counted) ≡ false
  pub named : tdcs_word c.state (in_tdcs c.state.world x) t (l.first + n) ≡ Some p
  pub more : tdcs_word c.state (in_tdcs c.state.world x) t l.counted ≡ Some (n + 1)
  pub others : (i : ℕ) → (i == l.counted) ≡ false → (i == l.first + n) ≡ false → tdcs_word c.state (in_tdcs c.state.world x) t i ≡ tdcs_word c.state c.state.world t i
  pub elsewhere : (u : ℕ) → IsAlive c.state.world.pages c.state.world.tds u → (u == t) ≡ false → (i : ℕ) → tdcs_word c.state (in_tdcs c.state.world x) u i ≡ tdcs_word c.state c.state.world u i
  pub vps : (q i : ℕ) → (q == p) ≡ false → in_lines (vp_lines (in_tdcs c.state.world x) q) i ≡ in_lines (vp_lines c.state.world q) i
  pub streams : (q i : ℕ) → (q == p) ≡ false → in_lines (stream_lines (in_tdcs c.state.world x) q) i ≡ in_lines (stream_lines c.state.world q) i
  pub new : (i : ℕ) → IsAs (page_cell (taken_in l t p c.state.world (in_tdcs c.state.world x)) (lock_word c.state.lps c.state.lp_count) t p l.kind i) (new_word l.index n i)
  pub first_class : (current empty : ℕ → Bool) → or_unused (in_lines (tdcs_classes current empty) (l.first + n)) ≡ TdcsWord
  pub count_class : (current empty : ℕ → Bool) → or_unused (in_lines (tdcs_classes current empty) l.counted) ≡ TdcsWord
  pub page : IsPageOf (taken_in l t p c.state.world (in_tdcs c.state.world x)).pages t p l.kind → (i : ℕ) → Owes (hold c (page_locks t p Exclusive)) (taken_in l t p c.state.world (in_tdcs c.state.world x)) (place.Word p i) KeepsNothing
  pub respects : Respects (hold c (page_locks t p Exclusive)) c.state.world (taken_in l t p c.state.world (in_tdcs c.state.world x))

module _ (m : Machine) (c : Instant) (t p : ℕ) (la : Lawful m c.state.world) (sh : Shows m c.memory.words c.memory.slots c.state) (ops : List OpState) (y : IsTd m c.state.world t ops) (in_tdr : t < m.pages) (in_page : p < m.pages) (other : (p == t) ≡ false)
    (told : PageList) (owned : same_kind told.kind kind.Nda ≡ false) (n : ℕ) (x : World) where
  abbrev w : World
  w = c.state.world

  abbrev d : ℕ
  d = y.controls.tdcs

  -- the list, which stands in its TDCS
  abbrev l : PageList
  l = record told { page = d }

  abbrev listed : World
  listed = in_tdcs w x

  abbrev its : World
  its = taken_in l t p w listed

  abbrev g : Grip
  g = hold c (page_locks t p Exclusive)

  -- what stores to words of TDCS want, and those to the child count
  tdcs-alone : MayAt g (spot_of TdcsWord t d) (λ z. writes z KeepsNothing)
  tdcs-alone = inr (inl (held-td t p Exclusive c.kept other, (alone-op t p c.kept, tt)))

  child-alone : MayAt g (spot_of ChildCount t t) (λ z. reads z Whole)
  child-alone = inr (inl (held-td t p Exclusive c.kept other, (alone-op t p c.kept, tt)))

  cell-was : (i : ℕ) → cell c.state (place.Word d i) ≡ tdcs_word c.state w t i
  cell-was i = rw (y.controls.tdcs_page.kind, y.controls.tdcs_page.owner, y.alive.life, y.controls.list, eq-eqb d d refl) refl

  cell-is : (i : ℕ) → cell (record (c.state) { world = listed }) (place.Word d i) ≡ tdcs_word c.state listed t i
  cell-is i = rw (y.controls.tdcs_page.kind, y.controls.tdcs_page.owner, y.alive.life, y.controls.list, eq-eqb d d refl) refl

  module _ (host : is_host w p ≡ true) (so : ListsInTdcs c l t p n x) where
    nda : w.pages.kinds p ≡ kind.Nda
    nda = host_kind (w.pages.kinds p) host

    d-p : (d == p) ≡ false
    d-p = apart w.pages.kinds d p kind.Tdcx kind.Nda y.controls.tdcs_page.kind nda (λ e. cc)

    lists : Lists c.state l t p n listed
    lists = record {
      off = d-p;
      apart = so.apart;
      named = cell-is (l.first + n) ∙ so.named;
      more = cell-is l.counted ∙ so.more;
      others = λ i a b. cell-is i ∙ (so.others i a b ∙ sym (cell-was i));
      rest = λ q o z. record {
        words = λ i. refl;
        tdr = λ is i. refl;
        owned = λ h. record {
          stands = λ e. e;
          level = refl;
          number = refl;
          entries = λ k e. refl;
          vp = λ i. so.vps q i o;
          stream = λ i. so.streams q i o;
          control = λ is e. tdcs-but refl (λ k j. refl) t d (y.controls.root ∷ []) y.controls.list z (λ u i. so.elsewhere (w.pages.owners q) (record { kind = la.pages.owner q h; life = e }) u i);
        };
      };
      new = so.new;
    }

    tdcs-after : IsPageOf its.pages t d kind.Tdcx
    tdcs-after = record { kind = rw d-p y.controls.tdcs_page.kind; owner = rw d-p y.controls.tdcs_page.owner }

    names : MayAt g (spot w (place.Word d (l.first + n))) (λ z. writes z KeepsNothing)
    names = at-tdcs g w t d (l.first + n) (y.controls.root ∷ []) (λ z. writes z KeepsNothing) y.controls.list y.controls.tdcs_page
        (subst (λ (j : Class). MayAt g (spot_of j t d) (λ z. writes z KeepsNothing)) (sym (so.first_class (is_current w t) (is_empty w t))) tdcs-alone)

    counts : Owes g its (place.Word d l.counted) KeepsNothing
    counts = at-tdcs g its t d l.counted (y.controls.root ∷ []) (λ z. owes z KeepsNothing) y.controls.list tdcs-after
        (subst (λ (j : Class). MayAt g (spot_of j t d) (λ z. owes z KeepsNothing)) (sym (so.count_class (is_current its t) (is_empty its t))) tdcs-alone)

    acts : ListActs c l t p n listed (page_locks t p Exclusive)
    acts = record {
      lists = lists;
      names = names;
      counts = counts;
      page = so.page (record { kind = rw (eq-eqb p p refl) refl; owner = rw (eq-eqb p p refl) refl });
      respects = so.respects;
      locks_stay = locks-kept w its refl (λ u a. record { kind = rw (tdr-apart w u p a.kind host) a.kind; life = a.life }) (page_locks t p Exclusive);
    }

  pub listed-means : (row : Row) → row.act w ≡ its → AnswersAs (work_of (OfCall row)) w (only (Done value.Nothing)) → IsListIn m l n → (is_host w p ≡ true → ListsInTdcs c l t p n x)
      → Means m c (work_of (OfCall row)) (td_locks t Exclusive) (listed_tree l m.pages t p n) (page_exclusive p ∷ host_page w p ∷ [])
  listed-means row act_is answers inside so = list-means m c l t p n listed la sh y.alive.kind owned in_tdr in_page inside row (td_locks t Exclusive) act_is answers child-alone (λ host. acts host (so host))
