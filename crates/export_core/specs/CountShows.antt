-- Words that show a state show the one with other counts of pages dirtied and of unrestored entries of a TD, once both stand in
-- its TDCS.
use Rattle.std.proofs.Common.{◌≡◌, ℕ, false, ◌==◌, List, Option, refl, sym, subst}
use Rattle.std.proofs.lemmas.Bool.{eqb-true}
use Rattle.td_words.specs.declared.machines.Machine.{Machine}
use Rattle.td_words.specs.declared.places.TheConstants.{TDCS_DIRTIED, TDCS_UNRESTORED}
use Rattle.td_words.specs.Packing.{Entry}
use Rattle.td_words.specs.Place.{WordPlace}
use Rattle.td_words.specs.Place as place
use Rattle.flat_core.specs.World.{World}
use Rattle.flat_core.specs.Processor.{LockId}
use Rattle.flat_core.specs.Effects.{set_entry}
use Rattle.flat_core.specs.Event.{State}
use Rattle.flat_core.specs.Lawful.{IsAlive}
use Rattle.flat_core.proofs.Tests.{by_test}
use Rattle.word_rules.specs.Guards.{Grip}
use Rattle.word_rules.specs.Permissions.{Respects}
use Rattle.word_rules.specs.Lines.{in_lines}
use Rattle.word_rules.specs.Cells.{Shows, IsAs, lock_word, td_lock_lines, tdcs_lines}
use Rattle.act_rules.proofs.Respected.{effects-respect}
use Rattle.leaf_parts.proofs.Begun.{TwoControls}
use Rattle.leaf_parts.proofs.Stored.{tdcs-changed}

-- these are the counts of all TDs
abbrev pub counted : (dirtied unrestored : ℕ → ℕ) → World → World
counted f g w = record w { tds = record (w.tds) { dirtied = f; unrestored = g } }

-- they change no class of a word
pub counted-respects : (h : Grip) (w : World) (f g : ℕ → ℕ) → Respects h w (counted f g w)
counted-respects h w f g = (effects-respect h w).leaves (counted f g w) (record {
  words = record { kinds = refl; owners = refl; levels = refl; numbers = refl; tds = λ u. record { op = refl; controls = refl; epoch = refl; empty = λ b. refl; named = λ n. refl } };
  lives = refl;
  keys = λ k. refl;
})

-- these words stand in TDCS, and all others stay
pub record CountWords (d : ℕ) (words words' : WordPlace → ℕ) (dirt left : ℕ) : Type 0 where
  pub lock : (p : ℕ) → words' (place.Lock p) ≡ words (place.Lock p)
  pub pamt : (p : ℕ) → words' (place.Pamt p) ≡ words (place.Pamt p)
  pub key : (k : ℕ) → words' (place.Key k) ≡ words (place.Key k)
  pub page : (p i : ℕ) → (p == d) ≡ false → words' (place.Word p i) ≡ words (place.Word p i)
  pub line : (i : ℕ) → (i == TDCS_DIRTIED) ≡ false → (i == TDCS_UNRESTORED) ≡ false → words' (place.Word d i) ≡ words (place.Word d i)
  pub dirtied : words' (place.Word d TDCS_DIRTIED) ≡ dirt
  pub unrestored : words' (place.Word d TDCS_UNRESTORED) ≡ left

module _ (m : Machine) (words words' : WordPlace → ℕ) (slots : ℕ → Option (List ℕ)) (s : State) (t : ℕ) (sh : Shows m words slots s) (alive : IsAlive s.world.pages s.world.tds t) (y : TwoControls m s.world t) (f g : ℕ → ℕ)
    (others : (u : ℕ) → (u == t) ≡ false → (f u ≡ s.world.tds.dirtied u) × (g u ≡ s.world.tds.unrestored u)) (h : CountWords y.tdcs words words' (f t) (g t)) where
  abbrev w : World
  w = s.world

  abbrev w' : World
  w' = counted f g s.world

  abbrev locks : LockId → ℕ
  locks = lock_word s.lps s.lp_count

  abbrev Line : ℕ → Type 0
  Line i = IsAs (in_lines (td_lock_lines locks t (tdcs_lines w' t)) i) (words' (place.Word y.tdcs i))

  pub counted-shown : Shows m words' slots (record s { world = w' })
  counted-shown = record {
    word = tdcs-changed m s words t y.tdcs y.root sh.word alive.life y.list y.tdcs_page y.tdcs_in w' (λ u d i. rw ((others u d).0, (others u d).1) refl) words' h.lock h.pamt h.key h.page (λ i was. by_test (i == TDCS_DIRTIED)
        (λ e. subst Line (sym (eqb-true i TDCS_DIRTIED e)) h.dirtied)
        (λ a. by_test (i == TDCS_UNRESTORED)
        (λ e. subst Line (sym (eqb-true i TDCS_UNRESTORED e)) h.unrestored)
        (λ e. (let same : in_lines (td_lock_lines locks t (tdcs_lines w' t)) i ≡ in_lines (td_lock_lines locks t (tdcs_lines w t)) i = rw (a, e) refl in
        rw (same, h.line i a e) was))));
    hasher = sh.hasher;
  }

-- the TDCX pages of a TD stay where one of its entries is stored
abbrev pub restated-controls : (m : Machine) (w : World) (t n : ℕ) (e : Entry) → TwoControls m w t → TwoControls m (set_entry t 0 n e w) t
restated-controls m w t n e x = record {
  tdcs = x.tdcs;
  root = x.root;
  list = x.list;
  tdcs_page = record { kind = x.tdcs_page.kind; owner = x.tdcs_page.owner };
  root_page = record { kind = x.root_page.kind; owner = x.root_page.owner };
  differ = x.differ;
  tdcs_in = x.tdcs_in;
  root_in = x.root_in;
}
