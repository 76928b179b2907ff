-- All stand once other bundles are there, where calls under way go on as before.
use Rattle.std.proofs.Common.{◌≡◌, ℕ, ◌<◌, List, [], ◌∷◌, length, Option, Some, None, refl, sym, subst}
use Rattle.td_words.specs.Place.{WordPlace}
use Rattle.td_words.specs.declared.calls.Call.{Call}
use Rattle.td_words.specs.declared.replies.Reply.{Reply}
use Rattle.flat_core.specs.Processor.{Lp}
use Rattle.flat_core.specs.Opening.{Opening, Incoming}
use Rattle.flat_core.specs.Event.{State, lines_left}
use Rattle.flat_core.specs.Table.{row_of}
use Rattle.flat_core.specs.Laws.{with_bundles}
use Rattle.leaf_engine.specs.Besides.{Beside}
use Rattle.leaf_engine.specs.Means.{Task}
use Rattle.leaf_engine.specs.Turns.{Standing}
use Rattle.leaf_engine.specs.Guests.{WordGuest}
use Rattle.leaf_engine.specs.OwnLists.{LeafTable, WordLp, step_leaf}
use Rattle.leaf_engine.specs.Standing.{IsGuestAt, RunStands, CallStands, GuestStands, LpStands}
use Rattle.leaf_engine.specs.Calls.{IsLine, IsCallAt}
use Rattle.leaf_engine.specs.Merges.{AreLeaves}
use Rattle.step_core.specs.Items.{Table}
use Rattle.turn_laws.specs.Turns.{IsSameCall, GoesOnBy, AllStand}

module _ (o : Opening) (earlier later : ℕ → Option Incoming) (t t' : LeafTable) (p : ℕ) (s : State) (words : WordPlace → ℕ) where
  abbrev a : Opening
  a = with_bundles o earlier

  abbrev b : Opening
  b = with_bundles o later

  abbrev lp : Lp
  lp = s.lps p

  step-same : t'.step ≡ t.step → t'.codes ≡ t.codes → (x : WordGuest) (rs : List Reply) (y : Beside) → step_leaf t x rs y ≡ step_leaf t' x rs y
  step-same step codes x rs y = λ i. step_leaf (record { call = t.call; step = sym step i; codes = sym codes i }) x rs y

  call-on : (c : Call) (cs : List Call) (run : Standing) → (t.call c).place.lp ≡ p → t'.call c ≡ t.call c → lines_left o p lp ≡ c ∷ cs → CallStands a t p c s.world words lp run → CallStands b t' p c s.world words lp run
  call-on c cs run own task line h = record {
    at = subst (λ (k : Task). IsCallAt b k (row_of b p c) s.world words lp run) (sym task) (its (t.call c) own h.at);
    waits = h.waits;
  }
    where
      its : (k : Task) → k.place.lp ≡ p → IsCallAt a k (row_of a p c) s.world words lp run → IsCallAt b k (row_of b p c) s.world words lp run
      its k at z = record { line = subst (λ (q : ℕ). IsLine b q (row_of b p c) lp) (sym at) (record { call = c; further = cs; lines = line; row_is = refl }); guest = z.guest; stage = z.stage; held = z.held; told = z.told }

  guest-on : (c : Call) (cs : List Call) (line : Standing) (x : WordGuest) (rs : List Reply) (y : Beside) → t'.step ≡ t.step → t'.codes ≡ t.codes → lines_left o p lp ≡ c ∷ cs → GuestStands a t p c s.world words lp line x rs y → GuestStands b t' p c s.world words lp line x rs y
  guest-on c cs line x rs y step codes lines h = record {
    line_is = record { call = c; further = cs; lines = lines; row_is = refl };
    guest = h.guest;
    is_in = h.is_in;
    reply = h.reply;
    answered = h.answered;
    held = h.held;
    at = subst (λ (k : Task). IsGuestAt k s.world words h.guest x) (step-same step codes x rs y) h.at;
    fresh = h.fresh;
    hand = h.hand;
    in_hand = h.in_hand;
  }

  lp-on : (at : WordLp) → ((c : Call) → (t.call c).place.lp ≡ p) → GoesOnBy t t' at → LpStands a t p s.world words lp at → LpStands b t' p s.world words lp at
  lp-on at own on h = record { lines = h.lines; replies = h.replies; beside = h.beside; run = by at.lines at.run at.guest h.lines on.call h.run }
    where
      by : (cs : List Call) (r : Option Standing) (g : Option WordGuest) → lines_left o p lp ≡ cs → IsSameCall t t' cs r g → RunStands a t p s.world words lp cs r g at.replies at.beside → RunStands b t' p s.world words lp cs r g at.replies at.beside
      by cs None None e same run = run
      by [] None (Some x) e same run = absurd run
      by [] (Some r) None e same run = absurd run
      by [] (Some r) (Some x) e same run = absurd run
      by (c ∷ cs) None (Some x) e same run = absurd run
      by (c ∷ cs) (Some r) None e same run = call-on c cs r (own c) same e run
      by (c ∷ cs) (Some r) (Some x) e same run = guest-on c cs r x at.replies at.beside on.step on.codes e run

pub all-more : (o : Opening) (earlier later : ℕ → Option Incoming) (leaf leaf' : ℕ → LeafTable) (now : ℕ → WordLp) (s : State) (u : Table) → AreLeaves (with_bundles o earlier) leaf → ((p : ℕ) → p < length o.calls → GoesOnBy (leaf p) (leaf' p) (now p))
    → AllStand (with_bundles o earlier) leaf now s u → AllStand (with_bundles o later) leaf' now s u
all-more o earlier later leaf leaf' now s u are on h = record {
  memory = h.memory;
  is = h.is;
  shows = h.shows;
  each = λ p i. record { hand = (h.each p i).hand; in_hand = (h.each p i).in_hand; stands = lp-on o earlier later (leaf p) (leaf' p) p s h.memory.words (now p) (are.processor p) (on p i) (h.each p i).stands };
  bundles = h.bundles;
}
