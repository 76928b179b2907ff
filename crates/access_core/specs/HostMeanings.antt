-- The leaves of the host's plain memory accesses mean their rows.
use Rattle.std.proofs.Common.{◌≡◌, ℕ, ◌<◌, Bool, true, false, nat_lt, List, [], ◌∷◌, Option, refl, inl, inr}
use Rattle.std.proofs.lemmas.Bool.{ltb-true}
use Rattle.td_words.specs.declared.names.PageKind.TheVariants as kind
use Rattle.td_words.specs.declared.names.Mode.TheVariants.{Shared}
use Rattle.td_words.specs.declared.machines.Machine.{Machine}
use Rattle.td_words.specs.declared.refusals.Status.TheVariants.{OperandInvalid, NotHost}
use Rattle.td_words.specs.declared.replies.Value.TheVariants as value
use Rattle.td_words.specs.declared.replies.Reply.{Reply}
use Rattle.td_words.specs.declared.replies.Reply.TheVariants.{Done}
use Rattle.td_words.specs.Place.{WordPlace}
use Rattle.td_words.specs.Place as place
use Rattle.flat_core.proofs.Tests.{host_kind}
use Rattle.flat_core.specs.World.{World}
use Rattle.flat_core.specs.Processor.{OfPage}
use Rattle.flat_core.specs.Conditions.{is_host, page_shared}
use Rattle.flat_core.specs.Effects.{put_in, set_word}
use Rattle.flat_core.specs.HostRows.{host_read, host_write}
use Rattle.flat_core.specs.Row.{Item, needs}
use Rattle.flat_core.specs.Arguments.{page_argument, word_argument}
use Rattle.flat_core.specs.Event.{State}
use Rattle.word_rules.specs.Permissions.{Respects}
use Rattle.word_rules.proofs.Conflicts.{respects-compose}
use Rattle.word_rules.specs.Rules.{Whole, KeepsNothing}
use Rattle.word_rules.specs.Guards.{Grip}
use Rattle.word_rules.specs.Cells.{Shows}
use Rattle.leaf_engine.specs.declared.needs.Place.{Place}
use Rattle.lock_words.specs.LockWords.{put_word}
use Rattle.leaf_engine.specs.Changes.{Put}
use Rattle.leaf_engine.specs.Trees.{Tree, Lock, Load, acts}
use Rattle.leaf_engine.specs.Trees as tree
use Rattle.leaf_engine.specs.Means.{Instant, Means, MeansRow, Work, work_of, OfCall, hold}
use Rattle.leaf_parts.specs.Words.{says_host}
use Rattle.act_rules.proofs.Respected.{leaves, all-same}
use Rattle.leaf_parts.proofs.Aside.{aside, back, words-but}
use Rattle.leaf_parts.proofs.Begun.{page_lock, holds-newest}
use Rattle.leaf_parts.proofs.Checks.{checks-mean, page-told}
use Rattle.leaf_parts.proofs.Told.{kind-shown}
use Rattle.access_core.specs.HostTrees.{host_access, host_read_task, host_write_task, read_word}

-- a PAMT word tells whether its page is the host's
pub host_shown : (m : Machine) (c : Instant) (p : ℕ) → Shows m c.memory.words c.memory.slots c.state → p < m.pages → says_host (c.memory.words (place.Pamt p)) ≡ is_host c.state.world p
host_shown m c p s i = kind-shown m c.memory.words c.memory.slots c.state s kind.Nda p i

read_end : (p : Place) (page i : ℕ) (c : Instant) (b : Bool) → is_host c.state.world page ≡ b → Shows p.machine c.memory.words c.memory.slots c.state → page < p.machine.pages → i < 512
    → Means p.machine c (work_of (OfCall (host_read p.machine page i))) (page_lock page Shared ∷ []) (read_word page i b) []
read_end p page i c true e s in_page in_word =
    let nda : c.state.world.pages.kinds page ≡ kind.Nda = host_kind (c.state.world.pages.kinds page) e in
    let now : c.memory.words (place.Word page i) ≡ c.state.world.words page i = rw nda at (s.word (place.Word page i) (in_page, in_word)) in (
      (in_page, in_word),
      inr (inl (rw nda (inl (holds-newest page Shared c.kept, tt)), refl)),
      (record { answers = record { reply_is = rw (e, now) refl; cached_is = refl; enters_is = refl; notes_are = refl; tells_are = refl; bundles_are = refl }; fills_allowed = tt; respects = respects-compose.same (hold c (page_lock page Shared ∷ [])) c.state.world; locks_stay = ((refl, λ x. x), tt); shows = s }, tt),
    )
read_end p page i c false e s in_page in_word =
    (record { answers = record { reply_is = rw e refl; cached_is = refl; enters_is = refl; notes_are = refl; tells_are = refl; bundles_are = refl }; fills_allowed = tt; respects = respects-compose.same (hold c (page_lock page Shared ∷ [])) c.state.world; locks_stay = ((refl, λ x. x), tt); shows = s }, tt)

-- the arguments, the page's lock and its PAMT word
host_access-means : (m : Machine) (c : Instant) (k : Work) (page i : ℕ) (further : ℕ → Tree) (rest : List (Item Reply)) → (page < m.pages → i < 512 → Means m c k (page_lock page Shared ∷ []) (further (c.memory.words (place.Pamt page))) rest)
    → Means m c k [] (host_access m page i further) (page_argument m 1 page ∷ word_argument 2 i ∷ page_shared page ∷ rest)
host_access-means m c k page i further rest h =
    checks-mean m c k [] ((nat_lt page m.pages, OperandInvalid 1) ∷ (nat_lt i 512, OperandInvalid 2) ∷ []) (Lock (OfPage page) (place.Lock page) Shared (Load Whole (place.Pamt page) further)) (page_shared page ∷ rest)
    (λ a. (let in_page : page < m.pages = ltb-true page m.pages a.0 in page-told m c k [] page Shared in_page further rest (h in_page (ltb-true i 512 a.1.0))))

pub host_read-means : (p : Place) (page i : ℕ) → MeansRow (host_read_task p page i)
host_read-means p page i = record {
  means = λ c at. host_access-means p.machine c (work_of (OfCall (host_read p.machine page i))) page i (λ pamt. read_word page i (says_host pamt)) []
      (λ in_page in_word. rw (host_shown p.machine c page at.shown in_page) (read_end p page i c (is_host c.state.world page) refl at.shown in_page in_word));
}

-- a word that is stored in a host page
pub shows_stored : (m : Machine) (words : WordPlace → ℕ) (slots : ℕ → Option (List ℕ)) (s : State) (page i v : ℕ) → page < m.pages → Shows m words slots s → s.world.pages.kinds page ≡ kind.Nda
    → Shows m (put_word words (place.Word page i) v) slots (record s { world = set_word page i v s.world })
shows_stored m words slots s page i v in_page sh nda = record {
  word = back (words-but (aside page m words s sh.word) (put_in s.world.words page i v) (λ q j o. rw o refl)) (put_word words (place.Word page i) v) (λ r. refl) (λ r. refl) (λ k. refl) (λ r j o. rw o refl)
      (λ j b. (let was : words (place.Word page j) ≡ s.world.words page j = rw nda at (sh.word (place.Word page j) (in_page, b)) in rw (nda, was) refl));
  hasher = sh.hasher;
}

respects_stored : (g : Grip) (page i v : ℕ) (w : World) → Respects g w (set_word page i v w)
respects_stored g page i v w = leaves g w (set_word page i v w) (all-same w (set_word page i v w) refl (λ u. record { op = refl; controls = refl; epoch = refl; empty = λ b. refl; named = λ n. refl })) (λ h. refl) refl

pub host_write-means : (p : Place) (page i v : ℕ) → MeansRow (host_write_task p page i v)
host_write-means p page i v = record {
  means = λ c at. host_access-means p.machine c (work_of (OfCall (host_write p.machine page i v))) page i (λ pamt. tree.needs (says_host pamt) NotHost (acts (Done value.Nothing) (Put (place.Word page i) v ∷ []))) (needs (is_host c.state.world page) NotHost ∷ [])
      (λ in_page in_word. (
        host_shown p.machine c page at.shown in_page,
        λ e. refl,
        λ e. (let nda : c.state.world.pages.kinds page ≡ kind.Nda = host_kind (c.state.world.pages.kinds page) e in (
          record {
            answers = record { reply_is = refl; cached_is = refl; enters_is = refl; notes_are = refl; tells_are = refl; bundles_are = refl };
            fills_allowed = tt;
            respects = respects_stored (hold c (page_lock page Shared ∷ [])) page i v c.state.world;
            locks_stay = ((refl, λ x. x), tt);
            shows = shows_stored p.machine c.memory.words c.memory.slots c.state page i v in_page at.shown nda;
          },
          (((in_page, in_word), (KeepsNothing, rw nda (inl (holds-newest page Shared c.kept, tt)), tt)), tt),
        )),
      ));
}
