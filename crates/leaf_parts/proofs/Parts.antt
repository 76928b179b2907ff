-- Parts of leaves: where they stop, and one after another.
use Rattle.std.proofs.Common.{◌≡◌, ℕ, ◌+◌, ◌≤◌, List, [], ◌∷◌, Result, Ok, Err, refl, sym, ap, ◌∙◌, subst, Bool, true, false, arith}
use Rattle.std.specs.Prelude.{MatchResult}
use Rattle.std.specs.Result.{IsErrAnd}
use Rattle.td_words.specs.declared.refusals.Status.{Status}
use Rattle.td_words.specs.declared.replies.Reply.TheVariants.{Refused}
use Rattle.leaf_engine.specs.declared.plans.Stop.{Stop}
use Rattle.leaf_engine.specs.declared.plans.Stop.TheVariants as stop
use Rattle.td_words.specs.Place.{WordPlace, address}
use Rattle.word_rules.specs.Rules.{Whole}
use Rattle.leaf_engine.specs.Trees.{Tree, Load, needs, feed}
use Rattle.leaf_engine.specs.Decides.{Ending, Decides}
use Rattle.leaf_engine.specs.Inside.{StopEarly}
use Rattle.leaf_parts.specs.Parts.{Goes, Feeds}

-- it stops
pub goes-stop : {A : Type 0} (n : ℕ) (tree : (A → Tree) → Tree) (before after : List ℕ) (r : Result A Stop) (e : Stop) → r ≡ Err e → ((further : A → Tree) → Decides n (tree further) before (Err e)) → Goes n tree before after r
goes-stop {A = A} n tree before after r e is h = subst (λ (x : Result A Stop). Goes n tree before after x) (sym is) h

-- one part after another
pub goes-on : {A B : Type 0} (n : ℕ) (first : (A → Tree) → Tree) (second : A → (B → Tree) → Tree) (before between after : List ℕ) (x : A) (r : Result B Stop)
    → Goes n first before between (Ok x) → Goes n (second x) between after r → Goes n (λ f. first (λ y. second y f)) before after r
goes-on n first second before between after x (Ok y) a b = λ further v d. a (λ z. second z further) v (b further v d)
goes-on n first second before between after x (Err e) a b = λ further. a (λ z. second z further) (Err e) (b further)

pub goes-off : {A B : Type 0} (n : ℕ) (first : (A → Tree) → Tree) (second : A → (B → Tree) → Tree) (before between after : List ℕ) (e : Stop) (r : Result B Stop)
    → r ≡ Err e → Goes {A = A} n first before between (Err e) → Goes n (λ f. first (λ y. second y f)) before after r
goes-off {A = A} {B = B} n first second before between after e r is a = goes-stop n (λ f. first (λ y. second y f)) before after r e is (λ further. a (λ z. second z further))

-- a condition
abbrev pub Checked : Bool → Status → Result (Unit {0}) Stop → Type 0
Checked b s r = MatchResult r (λ u. b ≡ true) (λ e. (b ≡ false) × (e ≡ stop.Refused (Refused s)))

pub passes : (n : ℕ) (b : Bool) (s : Status) (t : Tree) (after : List ℕ) (v : Result Ending Stop) → b ≡ true → Decides n t after v → Decides n (needs b s t) after v
passes n true s t after v e d = (λ y. d, λ y. cc)
passes n false s t after v e d = cc

pub refuses : (n : ℕ) (b : Bool) (s : Status) (t : Tree) (after : List ℕ) (e : Stop) → b ≡ false → e ≡ stop.Refused (Refused s) → Decides n (needs b s t) after (Err e)
refuses n true s t after e never is = cc
refuses n false s t after e never is = (λ y. cc, λ y. ap Err is)

pub goes-check : {A : Type 0} (n : ℕ) (tree : (A → Tree) → Tree) (before after : List ℕ) (b : Bool) (s : Status) (r : Result (Unit {0}) Stop) (x : A)
    → ((f : A → Tree) (v : Result Ending Stop) → Decides n (needs b s (f x)) after v → Decides n (tree f) before v) → Checked b s r
    → Goes n (λ (f : Unit {0} → Tree). tree (λ y. f tt)) before after r
goes-check n tree before after b s (Ok u) x h k = λ further v d. h (λ y. further tt) v (passes n b s (further tt) after v k d)
goes-check n tree before after b s (Err e) x h k = λ further. h (λ y. further tt) (Err e) (refuses n b s (further tt) after e k.0 k.1)

pub goes-refused : {A : Type 0} (n : ℕ) (tree : (A → Tree) → Tree) (before after last : List ℕ) (b : Bool) (s : Status) (e : Stop) (r : Result A Stop) (rest : (A → Tree) → Tree)
    → r ≡ Err e → (b ≡ false) × (e ≡ stop.Refused (Refused s)) → ((f : A → Tree) (v : Result Ending Stop) → Decides n (needs b s (rest f)) after v → Decides n (tree f) before v)
    → Goes n tree before last r
goes-refused n tree before after last b s e r rest is k h = goes-stop n tree before last r e is (λ f. h f (Err e) (refuses n b s (rest f) after e k.0 k.1))

-- a part behind a condition that holds
pub goes-behind : {A : Type 0} (n : ℕ) (b : Bool) (s : Status) (tree : (A → Tree) → Tree) (before after : List ℕ) (r : Result A Stop) → b ≡ true → Goes n tree before after r → Goes n (λ f. needs b s (tree f)) before after r
goes-behind n b s tree before after (Ok x) e g = λ further v d. passes n b s (tree further) before v e (g further v d)
goes-behind n b s tree before after (Err x) e g = λ further. passes n b s (tree further) before (Err x) e (g further)

-- a load
pub goes-load : (n : ℕ) (q : WordPlace) (before after : List ℕ) (r : Result ℕ Stop) → MatchResult r (λ word. before ≡ word ∷ after) (λ e. (before ≡ []) × (e ≡ stop.Load (address n q)))
    → Goes n (λ (f : ℕ → Tree). Load Whole q f) before after r
goes-load n q before after (Ok x) h = λ further v d. rw h d
goes-load n q before after (Err e) h = λ further. rw (h.0, h.1) refl

pub feeds-load : (q : WordPlace) (before after : List ℕ) (r : Result ℕ Stop) (Q : Stop → Type 0) → MatchResult r (λ word. before ≡ word ∷ after) Q → Feeds (λ (f : ℕ → Tree). Load Whole q f) before after r
feeds-load q before after (Ok x) Q h = λ further. rw h refl
feeds-load q before after (Err e) Q h = tt

-- what is left of a tree behind a condition that holds, and behind parts that pass
pub feed-passes : (b : Bool) (s : Status) (t : Tree) (after : List ℕ) → b ≡ true → feed (needs b s t) after ≡ feed t after
feed-passes true s t after e = refl
feed-passes false s t after e = cc

pub feeds-check : (tree : (Unit {0} → Tree) → Tree) (before after : List ℕ) (b : Bool) (s : Status) (r : Result (Unit {0}) Stop)
    → ((f : Unit {0} → Tree) → feed (tree f) before ≡ feed (needs b s (f tt)) after) → Checked b s r → Feeds tree before after r
feeds-check tree before after b s (Ok u) h k = λ further. h further ∙ feed-passes b s (further tt) after k
feeds-check tree before after b s (Err e) h k = tt

pub feeds-on : {A B : Type 0} (first : (A → Tree) → Tree) (second : A → (B → Tree) → Tree) (before between after : List ℕ) (x : A) (r : Result B Stop)
    → Feeds first before between (Ok x) → Feeds (second x) between after r → Feeds (λ f. first (λ y. second y f)) before after r
feeds-on first second before between after x (Ok y) a b = λ further. a (λ z. second z further) ∙ b further
feeds-on first second before between after x (Err e) a b = tt

-- behind conditions that hold a part stops, or what comes after it decides
module _ (n : ℕ) (conditions : Tree → Tree) (hold : (t : Tree) (xs : List ℕ) (r : Result Ending Stop) → Decides n t xs r → Decides n (conditions t) xs r) where
  pub behind-stop : {A : Type 0} (tree : (A → Tree) → Tree) (further : A → Tree) (before after : List ℕ) (e : Stop) → Goes {A = A} n tree before after (Err e) → Decides n (conditions (tree further)) before (Err e)
  behind-stop tree further before after e g = hold (tree further) before (Err e) (g further)

  pub behind-go : {A : Type 0} (tree : (A → Tree) → Tree) (further : A → Tree) (before after : List ℕ) (x : A) (r : Result Ending Stop)
      → Goes {A = A} n tree before after (Ok x) → Decides n (further x) after r → Decides n (conditions (tree further)) before r
  behind-go tree further before after x r g d = hold (tree further) before r (g further r d)

-- the exit of a `?`
pub exit : {A : Type 0} (r : Result A Stop) (e : Stop) (Q : Stop → Type 0) → IsErrAnd r Q → ((y : Stop) → Q y → y ≡ e) → r ≡ Err e
exit (Ok x) e Q h k = absurd h
exit (Err y) e Q h k = ap Err (k y h)

-- answers that are left
pub early-more : (few most n : ℕ) (e : Stop) → few ≤ most → StopEarly few n e → StopEarly most n e
early-more few most n (stop.Load at) a h = omega (arith, a, h)
early-more few most n (stop.Lock name at mode) a h = omega (arith, a, h)
early-more few most n (stop.Refused reply) a h = tt

pub early-after : (used few n left : ℕ) (e : Stop) → n ≡ used + left → StopEarly few left e → StopEarly (used + few) n e
early-after used few n left (stop.Load at) a h = omega (arith, a, h)
early-after used few n left (stop.Lock name at mode) a h = omega (arith, a, h)
early-after used few n left (stop.Refused reply) a h = tt
