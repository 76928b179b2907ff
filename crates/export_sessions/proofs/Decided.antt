-- The decision of the call that begins a session, part by part; and that one which stops changes nothing.
use Rattle.std.proofs.Common.{◌≡◌, ℕ, zero, suc, ◌+◌, ◌%◌, ◌^◌, ◌<◌, ◌≤◌, Bool, true, ◌==◌, nat_lt, List, [], ◌∷◌, length, take, drop, Result, Ok, Err, refl, sym, ◌∙◌, subst, arith}
use Rattle.arrayvec.specs.ArrayVec.{ArrayVec}
use Rattle.td_words.specs.declared.machines.Machine.{Machine}
use Rattle.td_words.specs.declared.names.Mode.TheVariants.{Exclusive}
use Rattle.td_words.specs.declared.refusals.Status.{Status}
use Rattle.td_words.specs.declared.refusals.Status.TheVariants.{OperandInvalid, NoStream, UnrestoredPages}
use Rattle.td_words.specs.Address.{word_at}
use Rattle.td_words.specs.Place as place
use Rattle.flat_core.specs.BundleRows.{session_ops}
use Rattle.flat_core.proofs.Tests.{by_test}
use Rattle.word_rules.specs.Views.{look}
use Rattle.word_rules.specs.Rules.{Whole}
use Rattle.leaf_engine.specs.declared.plans.Stop.{Stop}
use Rattle.leaf_engine.specs.declared.plans.Stop.TheVariants as stop
use Rattle.leaf_engine.specs.Trees.{Tree, Lock, Load, Test, End, Since, needs, feed, changes_of}
use Rattle.leaf_engine.specs.Decides.{Ending, Decides}
use Rattle.leaf_parts.specs.declared.heads.Td.{Td}
use Rattle.leaf_parts.specs.Heads.{td_head_tree}
use Rattle.leaf_parts.specs.Parts.{Goes, Feeds}
use Rattle.leaf_parts.proofs.Parts.{goes-on, goes-off, feeds-on, passes, feed-passes}
use Rattle.stream_parts.specs.Streams.{pages_tree, sum_tree}
use Rattle.export_sessions.specs.declared.changes.Session.{Session}
use Rattle.export_sessions.specs.SessionTrees.{unrestored_tree, restored_tree, numbered_tree, words_tree, session_rest, begun_tree, with_mrtd, export_tree, Exported}

-- a decision that stops changes nothing
pub none-changed : (n : ℕ) (tree : Tree) (told : List ℕ) (e : Stop) → Decides n tree told (Err e) → changes_of (feed tree told) ≡ []
none-changed n (Lock l q mode t) [] e d = refl
none-changed n (Lock l q mode t) (x ∷ xs) e d = none-changed n t xs e d
none-changed n (Load v q k) [] e d = refl
none-changed n (Load v q k) (x ∷ xs) e d = none-changed n (k (look v x)) xs e d
none-changed n (Test b out t) xs e d = by_test b (λ y. rw y (none-changed n t xs e (d.0 y))) (λ y. rw y refl)
none-changed n (End a fs cs) xs e d = absurd d
none-changed n (Since a cs) xs e d = absurd d

-- behind a condition that holds, and behind a lock that is granted
pub goes-behind : {A : Type 0} (n : ℕ) (b : Bool) (s : Status) (tree : (A → Tree) → Tree) (before after : List ℕ) (r : Result A Stop) → b ≡ true → Goes n tree before after r → Goes n (λ f. needs b s (tree f)) before after r
goes-behind n b s tree before after (Ok x) y g = λ further v d. passes n b s (tree further) before v y (g further v d)
goes-behind n b s tree before after (Err e) y g = λ further. passes n b s (tree further) before (Err e) y (g further)

pub feeds-behind : {A : Type 0} (b : Bool) (s : Status) (tree : (A → Tree) → Tree) (before after : List ℕ) (r : Result A Stop) → b ≡ true → Feeds tree before after r → Feeds (λ f. needs b s (tree f)) before after r
feeds-behind b s tree before after (Ok x) y g = λ further. feed-passes b s (tree further) before y ∙ g further
feeds-behind b s tree before after (Err e) y g = tt

-- the streams
module _ (n tdcs : ℕ) (before told between after : List ℕ) (streams : ArrayVec ℕ) (pages : List ℕ) (is : pages ≡ streams.items) (unrestored first : ℕ) where
  pub restored-feeds : Feeds (λ f. pages_tree n tdcs f) before told (Ok streams) → nat_lt 0 (length streams.items) ≡ true → told ≡ unrestored ∷ between → Feeds (λ f. sum_tree 2 pages f) between after (Ok first)
      → ((unrestored + first) % 2 ^ 64 == 0) ≡ true → Feeds (λ f. restored_tree n tdcs f) before after (Ok streams)
  restored-feeds listed some word sum none = λ further.
      let tested : ℕ → ℕ → Tree = λ u x. needs ((u + x) % 2 ^ 64 == 0) (UnrestoredPages ((u + x) % 2 ^ 64)) (further streams) in
      let loading : Tree = Load Whole (place.Word tdcs 9) (λ u. sum_tree 2 streams.items (tested u)) in
      let loaded : feed loading told ≡ feed (sum_tree 2 streams.items (tested unrestored)) between = rw word refl in
      let summed : feed (sum_tree 2 streams.items (tested unrestored)) between ≡ feed (tested unrestored first) after = subst (λ (ps : List ℕ). feed (sum_tree 2 ps (tested unrestored)) between ≡ feed (tested unrestored first) after) is (sum (tested unrestored)) in
      listed (λ ps. unrestored_tree tdcs ps further)
      ∙ (feed-passes (nat_lt 0 (length streams.items)) (NoStream 0) loading told some
      ∙ (loaded ∙ (summed ∙ feed-passes ((unrestored + first) % 2 ^ 64 == 0) (UnrestoredPages ((unrestored + first) % 2 ^ 64)) (further streams) after none)))

-- the key table, then the streams, then the session's number
module _ (n tdcs : ℕ) (before told : List ℕ) (word : ℕ) (granted : before ≡ word ∷ told) where
  abbrev behind_lock : (Session → Tree) → Tree
  behind_lock f = restored_tree n tdcs (λ streams. numbered_tree tdcs streams f)

  locked : (after : List ℕ) (r : Result Session Stop) → Goes n behind_lock told after r → Goes n (λ f. session_rest n tdcs f) before after r
  locked after (Ok s) g = λ further v d. rw granted (g further v d)
  locked after (Err e) g = λ further. rw granted (g further)

  pub unrestored-goes : (between after : List ℕ) (e : Stop) (r : Result Session Stop) → r ≡ Err e → Goes {A = ArrayVec ℕ} n (λ f. restored_tree n tdcs f) told between (Err e) → Goes n (λ f. session_rest n tdcs f) before after r
  unrestored-goes between after e r is g = locked after r (goes-off n (λ (f : ArrayVec ℕ → Tree). restored_tree n tdcs f) (λ streams f. numbered_tree tdcs streams f) told between after e r is g)

  module _ (between after : List ℕ) (streams : ArrayVec ℕ) (r : Result Session Stop) where
    pub session-goes : Goes n (λ f. restored_tree n tdcs f) told between (Ok streams) → Goes n (λ f. numbered_tree tdcs streams f) between after r → Goes n (λ f. session_rest n tdcs f) before after r
    session-goes a b = locked after r (goes-on n (λ (f : ArrayVec ℕ → Tree). restored_tree n tdcs f) (λ streams f. numbered_tree tdcs streams f) told between after streams r a b)

    fed : (x : Result Session Stop) → Feeds behind_lock told after x → Feeds (λ f. session_rest n tdcs f) before after x
    fed (Ok s) g = λ further. rw granted (g further)
    fed (Err e) g = tt

    pub session-feeds : Feeds (λ f. restored_tree n tdcs f) told between (Ok streams) → Feeds (λ f. numbered_tree tdcs streams f) between after r → Feeds (λ f. session_rest n tdcs f) before after r
    session-feeds a b = fed r (feeds-on (λ (f : ArrayVec ℕ → Tree). restored_tree n tdcs f) (λ streams f. numbered_tree tdcs streams f) told between after streams r a b)

-- behind the argument
module _ (m : Machine) (tdr : ℕ) (in_machine : nat_lt tdr m.pages ≡ true) (before between after : List ℕ) (r : Result Session Stop) where
  abbrev head : (Td → Tree) → Tree
  head f = td_head_tree m.pages tdr Exclusive session_ops f

  abbrev rest : Td → (Session → Tree) → Tree
  rest td f = session_rest m.pages td.tdcs f

  abbrev headed : (Session → Tree) → Tree
  headed f = td_head_tree m.pages tdr Exclusive session_ops (λ td. session_rest m.pages td.tdcs f)

  pub headless : (e : Stop) → r ≡ Err e → Goes {A = Td} m.pages head before between (Err e) → Goes m.pages (λ f. begun_tree m tdr f) before after r
  headless e is g = goes-behind m.pages (nat_lt tdr m.pages) (OperandInvalid 1) headed before after r in_machine (goes-off m.pages head rest before between after e r is g)

  pub begun-goes : (td : Td) → Goes m.pages head before between (Ok td) → Goes m.pages (rest td) between after r → Goes m.pages (λ f. begun_tree m tdr f) before after r
  begun-goes td a b = goes-behind m.pages (nat_lt tdr m.pages) (OperandInvalid 1) headed before after r in_machine (goes-on m.pages head rest before between after td r a b)

  pub begun-feeds : (td : Td) → Feeds head before between (Ok td) → Feeds (rest td) between after r → Feeds (λ f. begun_tree m tdr f) before after r
  begun-feeds td a b = feeds-behind (nat_lt tdr m.pages) (OperandInvalid 1) headed before after r in_machine (feeds-on head rest before between after td r a b)

-- words of a page: fewer than are asked for, or as many
module _ (n page : ℕ) where
  pub too-few : (count at : ℕ) (xs : List ℕ) → length xs < count → (further : List ℕ → Tree) → Decides n (words_tree page at count further) xs (Err (stop.Load (word_at page (at + length xs))))
  too-few zero at xs few further = absurd (omega (arith, few))
  too-few (suc k) at [] few further = (let here : at + 0 ≡ at = omega arith in rw here refl)
  too-few (suc k) at (x ∷ xs) few further =
      let next : at + 1 + length xs ≡ at + suc (length xs) = omega arith in
      subst (λ (i : ℕ). Decides n (words_tree page (at + 1) k (λ ws. further (x ∷ ws))) xs (Err (stop.Load (word_at page i)))) next (too-few k (at + 1) xs (omega (arith, few)) (λ ws. further (x ∷ ws)))

  pub enough : (count at : ℕ) (xs : List ℕ) → count ≤ length xs → (further : List ℕ → Tree) (v : Result Ending Stop) → Decides n (further (take count xs)) (drop count xs) v → Decides n (words_tree page at count further) xs v
  enough zero at xs few further v d = d
  enough (suc k) at [] few further v d = absurd (omega (arith, few))
  enough (suc k) at (x ∷ xs) few further v d = enough k (at + 1) xs (omega (arith, few)) (λ ws. further (x ∷ ws)) v d

  pub enough-fed : (count at : ℕ) (xs : List ℕ) → count ≤ length xs → (further : List ℕ → Tree) → feed (words_tree page at count further) xs ≡ feed (further (take count xs)) (drop count xs)
  enough-fed zero at xs few further = refl
  enough-fed (suc k) at [] few further = absurd (omega (arith, few))
  enough-fed (suc k) at (x ∷ xs) few further = enough-fed k (at + 1) xs (omega (arith, few)) (λ ws. further (x ∷ ws))

-- a session, then MRTD
module _ (m : Machine) (tdr : ℕ) (before between after : List ℕ) (r : Result Exported Stop) where
  abbrev beginning : (Session → Tree) → Tree
  beginning f = begun_tree m tdr f

  abbrev measured : Session → (Exported → Tree) → Tree
  measured s f = with_mrtd f s

  pub unbegun : (e : Stop) → r ≡ Err e → Goes {A = Session} m.pages beginning before between (Err e) → Goes m.pages (λ f. export_tree m tdr f) before after r
  unbegun e is g = goes-off m.pages beginning measured before between after e r is g

  module _ (s : Session) (begun : Goes m.pages (λ f. begun_tree m tdr f) before between (Ok s)) where
    abbrev reading : (List ℕ → Tree) → Tree
    reading f = words_tree s.tdcs 64 6 f

    abbrev exporting : List ℕ → (Exported → Tree) → Tree
    exporting ws f = f (record { session = s; mrtd = ws })

    pub unmeasured : (e : Stop) → r ≡ Err e → Goes {A = List ℕ} m.pages reading between after (Err e) → Goes m.pages (λ f. export_tree m tdr f) before after r
    unmeasured e is g = goes-on m.pages beginning measured before between after s r begun (goes-off m.pages reading exporting between after after e r is g)

    pub exported-goes : (ws : List ℕ) → Goes m.pages reading between after (Ok ws) → r ≡ Ok (record { session = s; mrtd = ws }) → Goes m.pages (λ f. export_tree m tdr f) before after r
    exported-goes ws g is = goes-on m.pages beginning measured before between after s r begun (subst (λ (x : Result Exported Stop). Goes m.pages (measured s) between after x) (sym is) (λ further v d. g (λ xs. exporting xs further) v d))

  module _ (s : Session) (begun : Feeds (λ f. begun_tree m tdr f) before between (Ok s)) where
    pub exported-feeds : (ws : List ℕ) → Feeds (λ f. words_tree s.tdcs 64 6 f) between after (Ok ws) → r ≡ Ok (record { session = s; mrtd = ws }) → Feeds (λ f. export_tree m tdr f) before after r
    exported-feeds ws g is = feeds-on beginning measured before between after s r begun (subst (λ (x : Result Exported Stop). Feeds (measured s) between after x) (sym is) (λ further. g (λ xs. further (record { session = s; mrtd = xs }))))
