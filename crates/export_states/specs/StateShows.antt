-- Words that show a state show the one after an export once they say it: of a virtual processor the session of its export, of
-- a TD whether its state and how many states of its virtual processors were exported.
use Rattle.std.proofs.Common.{◌≡◌, ℕ, ◌<◌, true, ◌==◌, List, Option, refl, sym, subst}
use Rattle.std.proofs.lemmas.Bool.{eq-eqb, eqb-true}
use Rattle.td_words.specs.declared.names.PageKind.TheVariants as kind
use Rattle.td_words.specs.declared.machines.Machine.{Machine}
use Rattle.td_words.specs.declared.places.TheConstants.{TDCS_TD_EXPORTED, TDCS_VPS_EXPORTED, VP_EXPORTED}
use Rattle.td_words.specs.Place.{WordPlace}
use Rattle.td_words.specs.Place as place
use Rattle.flat_core.specs.World.{World, put}
use Rattle.flat_core.specs.Lawful.{IsAlive, IsPageOf}
use Rattle.flat_core.specs.Event.{State}
use Rattle.flat_core.proofs.Tests.{by_test}
use Rattle.word_rules.specs.Lines.{in_lines}
use Rattle.word_rules.specs.Cells.{Shows, IsAs, vp_lines}
use Rattle.lock_words.specs.LockWords.{put_word}
use Rattle.leaf_parts.proofs.Aside.{aside, back, kept-but, control-kept}
use Rattle.leaf_parts.proofs.Begun.{TwoControls}
use Rattle.leaf_parts.proofs.Stored.{tdcs-stored}
use Rattle.leaf_parts.proofs.Vps.{vp-shown}

module _ (m : Machine) (words : WordPlace → ℕ) (slots : ℕ → Option (List ℕ)) (s : State) (t : ℕ) (sh : Shows m words slots s) (alive : IsAlive s.world.pages s.world.tds t) where
  abbrev w : World
  w = s.world

  -- a virtual processor was exported in that session
  module _ (v n : ℕ) (its : IsPageOf s.world.pages t v kind.Tdvpr) (in_page : v < m.pages) where
    abbrev vp-after : World
    vp-after = record (s.world) { vps = record (s.world.vps) { exported = put s.world.vps.exported v n } }

    abbrev vp-words : WordPlace → ℕ
    vp-words = put_word words (place.Word v VP_EXPORTED) n

    itself : (v == v) ≡ true
    itself = eq-eqb v v refl

    vp-line : (i : ℕ) → i < 512 → IsAs (in_lines (vp_lines vp-after v) i) (vp-words (place.Word v i))
    vp-line i b = by_test (i == 5)
        (λ e. rw (e, eqb-true i 5 e, itself) refl)
        (λ o. (let was = vp-shown m words slots s sh t alive.life v i its in_page b in
        let line : in_lines (vp_lines vp-after v) i ≡ in_lines (vp_lines w v) i = rw o refl in
        let same : words (place.Word v i) ≡ vp-words (place.Word v i) = rw (itself, o) refl in
        subst (λ (x : ℕ). IsAs (in_lines (vp_lines vp-after v) i) x) same (subst (λ (y : Option ℕ). IsAs y (words (place.Word v i))) (sym line) was)))

    pub vp-noted : Shows m vp-words slots (record s { world = vp-after })
    vp-noted = record {
      word = back (kept-but vp-after (aside v m words s sh.word) (record {
        kinds = refl;
        owners = refl;
        blocked = refl;
        key_table = refl;
        page = λ q o n. record {
          words = λ i. refl;
          tdr = λ is i. refl;
          owned = λ h. record { stands = λ z. z; level = refl; number = refl; entries = λ l e. refl; vp = λ i. rw o refl; stream = λ i. refl; control = λ is z. control-kept refl (λ l e. refl) (λ f i. refl) };
        };
      })) vp-words (λ r. refl) (λ r. refl) (λ k. refl) (λ r i o. rw o refl) (λ i b. rw (its.kind, its.owner, alive.life) (vp-line i b));
      hasher = sh.hasher;
    }

  module _ (y : TwoControls m s.world t) (n : ℕ) where
    mine : (t == t) ≡ true
    mine = eq-eqb t t refl

    -- so many virtual processors of it were exported
    abbrev count-after : World
    count-after = record (s.world) { tds = record (s.world.tds) { vps_exported = put s.world.tds.vps_exported t n } }

    abbrev count-words : WordPlace → ℕ
    count-words = put_word words (place.Word y.tdcs TDCS_VPS_EXPORTED) n

    pub vps-counted : Shows m count-words slots (record s { world = count-after })
    vps-counted = record {
      word = tdcs-stored m s words t y.tdcs y.root sh.word alive.life y.list y.tdcs_page y.tdcs_in count-after (λ u o i. rw o refl) 13 n (rw mine refl) (λ i o. rw o refl);
      hasher = sh.hasher;
    }

    -- its own state was
    abbrev td-after : World
    td-after = record (s.world) { tds = record (s.world.tds) { td_exported = put s.world.tds.td_exported t n } }

    abbrev td-words : WordPlace → ℕ
    td-words = put_word words (place.Word y.tdcs TDCS_TD_EXPORTED) n

    pub td-noted : Shows m td-words slots (record s { world = td-after })
    td-noted = record {
      word = tdcs-stored m s words t y.tdcs y.root sh.word alive.life y.list y.tdcs_page y.tdcs_in td-after (λ u o i. rw o refl) 12 n (rw mine refl) (λ i o. rw o refl);
      hasher = sh.hasher;
    }
