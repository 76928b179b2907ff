-- Two runs side by side that differ in private words alone end alike, and so print the same.
use Rattle.std.proofs.Common.{◌≡◌, refl, sym, ◌∙◌, ap, subst, ℕ, zero, suc, ◌+◌, List, [], ◌∷◌, ◌++◌, length, map, Option, Some, None, option_map, Result, Ok, Err, Bool, true, false, if◌then◌else◌, append_assoc}
use Rattle.std.proofs.lemmas.List.{append-nil}
use Rattle.std.specs.List.{concat}
use Rattle.td_words.specs.declared.names.HeaderField.{HeaderField}
use Rattle.td_words.specs.declared.machines.Machine.{Machine}
use Rattle.td_words.specs.declared.calls.Call.{Call}
use Rattle.flat_core.specs.World.{ClearHeader}
use Rattle.flat_core.specs.Processor.{Lp}
use Rattle.flat_core.specs.Opening.{Opening, Incoming, Agree, blind, blind_bundle, blind_words, is_private_kind}
use Rattle.flat_core.specs.Event.{State, start, next_event, event}
use Rattle.flat_core.specs.Run.{play, run, run_told, to_the_end, told_in}
use Rattle.report_text.specs.Lines.{reply_lines}
use Rattle.flat_core.specs.HostText.{host_text, text_of, lines_from}
use Rattle.flat_core.specs.Laws.{IsKept, with_bundles}
use Rattle.flat_core.specs.AccessLaw.{IsGuarded}
use Rattle.flat_core.specs.TwoWorlds.{AreSameButNotes, AreAlikeStates, EventsAreBlind, EventsTellTheirWords, words_told}
use Rattle.flat_core.proofs.Ends.{timely_rebundled}
use Rattle.isol_laws.specs.Worlds.{StandAlike, WorldsAreKept, blind_run, public_bundles, BlindRunsAreAlike, BlindRunsPrintTheSame, BlindRunsMakeTheSameBundles, AgreeingRunsShowTheSame, SecretsArePrivate}

-- what is given of a bundle to anyone is given once
abbrev hidden : List ℕ → List ℕ
hidden ws = map (λ (x : ℕ). let z : ℕ = 0 in z) ws

hidden_twice : (ws : List ℕ) → hidden (hidden ws) ≡ hidden ws
hidden_twice [] = refl
hidden_twice (x ∷ xs) = ap (λ (ys : List ℕ). 0 ∷ ys) (hidden_twice xs)

blind_words_twice : (h : Result ClearHeader HeaderField) (ws : List ℕ) → blind_words h (blind_words h ws) ≡ blind_words h ws
blind_words_twice (Ok h) ws = by (is_private_kind h.kind)
  where
    by : (b : Bool) → (if b then hidden (if b then hidden ws else ws) else (if b then hidden ws else ws)) ≡ (if b then hidden ws else ws)
    by true = hidden_twice ws
    by false = refl
blind_words_twice (Err f) ws = refl

blind_twice : (b : Option Incoming) → option_map blind_bundle b ≡ option_map blind_bundle (option_map blind_bundle b)
blind_twice None = refl
blind_twice (Some b) = ap (λ (ws : List ℕ). Some (record b { payload = ws })) (sym (blind_words_twice b.header b.payload))

agrees_blind : (o : Opening) → Agree o (blind o)
agrees_blind o = record { machine = refl; codes = λ t i. refl; calls = refl; bundles = λ slot. blind_twice (o.bundles slot) }

-- replies are all that is printed
same_lines : (n p : ℕ) (lps others : ℕ → Lp) → AreSameButNotes lps others → lines_from n p lps ≡ lines_from n p others
same_lines zero p lps others h = refl
same_lines (suc n) p lps others h =
    ap (λ (x : Lp). reply_lines p 1 x.replies ++ lines_from n (p + 1) lps) (sym (h p)) ∙ ap (λ (xs : List (List ℕ)). reply_lines p 1 (others p).replies ++ xs) (same_lines n (p + 1) lps others h)

same_text : (s t : State) → AreSameButNotes s.lps t.lps → s.lp_count ≡ t.lp_count → text_of s ≡ text_of t
unfolding text_of
same_text s t e n = ap (λ (xs : List (List ℕ)). concat xs) (same_lines s.lp_count 0 s.lps t.lps e) ∙ ap (λ (k : ℕ). concat (lines_from k 0 t.lps)) n

-- openings that agree are the same once every private word is 0
same_blind : (o q : Opening) → Agree o q → blind o ≡ blind q
same_blind o q a = λ j. record { machine = a.machine j; codes = λ t i. a.codes t i j; calls = a.calls j; bundles = λ slot. a.bundles slot j; secrets = λ i. 0 }

pub secrets_are_private : SecretsArePrivate
secrets_are_private = record {
  agree = agrees_blind;
  none = λ o k. refl;
  differ = λ o secrets. record { machine = refl; codes = λ t i. refl; calls = refl; bundles = λ slot. refl };
}

-- the words that a schedule's events tell
abbrev told_from : Opening → List ℕ → State → List ℕ
told_from o [] s = []
told_from o (p ∷ ps) s = words_told s.world (next_event o s p) ++ told_from o ps (event o s p)

module _ (guarded : IsKept IsGuarded) (alike : EventsAreBlind) (tell : EventsTellTheirWords) where
  run_grows : (o : Opening) (ps : List ℕ) (s : State) → told_in (play o ps s) ≡ told_in s ++ told_from o ps s
  run_grows o [] s = sym (append-nil (told_in s))
  run_grows o (p ∷ ps) s =
      run_grows o ps (event o s p)
      ∙ (ap (λ (xs : List ℕ). xs ++ told_from o ps (event o s p)) (tell o s p)
      ∙ append_assoc (told_in s) (words_told s.world (next_event o s p)) (told_from o ps (event o s p)))

  rebundled : (o : Opening) (bundles : ℕ → Option Incoming) (s : State) → IsGuarded o s → IsGuarded (with_bundles o bundles) s
  rebundled o bundles s h = record { timely = timely_rebundled o bundles s h.timely; access = h.access }

  pub worlds_are_kept : WorldsAreKept
  worlds_are_kept = record {
    start = λ o q words agree. record {
      here = guarded.start o None;
      there = guarded.start q (Some words);
      alike = record {
        worlds = record {
          alike = record { size = ap (λ (m : Machine). m.pages) agree.machine; pages = refl; words = λ p i h. refl; tds = refl; vps = refl; streams = refl; key_table = refl; told = refl; bundles = refl };
          own = refl;
          given = refl;
        };
        lps = λ p. refl;
        count = ap (λ (cs : List (List Call)). length cs) agree.calls;
      };
    };
    event = λ o q bundles others s t p rest agree h. record {
      here = guarded.event o bundles s p h.here;
      there = guarded.event q others t p h.there;
      alike = alike (with_bundles o bundles) (with_bundles q others) s t p rest agree (rebundled o bundles s h.here) h.there.timely.lawful h.alike;
    };
  }

  -- The rest of two runs: the second has the words to tell that the first one tells from here on.
  both_go : (o q : Opening) → Agree o q → (ps : List ℕ) (s t : State) → StandAlike o q s t (told_from o ps s) → AreAlikeStates (play o ps s) (play q ps t) []
  both_go o q agree [] s t h = h.alike
  both_go o q agree (p ∷ ps) s t h =
      both_go o q agree ps (event o s p) (event q t p) (worlds_are_kept.event o q o.bundles q.bundles s t p (told_from o ps (event o s p)) agree h)

  -- the two runs at their end
  pub blind_alike : BlindRunsAreAlike
  blind_alike o schedule =
      let words : List ℕ = told_in (run o schedule) in
      let ps : List ℕ = schedule ++ to_the_end 0 o.calls in
      both_go o (blind o) (agrees_blind o) ps (start o None) (start (blind o) (Some words))
      (subst (StandAlike o (blind o) (start o None) (start (blind o) (Some words))) (run_grows o ps (start o None)) (worlds_are_kept.start o (blind o) words (agrees_blind o)))

  pub blind_prints : BlindRunsPrintTheSame
  unfolding host_text
  blind_prints o schedule = let both = blind_alike o schedule in same_text _ _ both.lps both.count

  pub blind_bundles : BlindRunsMakeTheSameBundles
  blind_bundles o schedule = (blind_alike o schedule).worlds.alike.bundles

  pub agreeing_show : AgreeingRunsShowTheSame
  agreeing_show o q schedule a told =
      let blind_told : Opening → List ℕ → State = λ b ws. run_told b schedule ws in
      let same : blind_run o schedule ≡ blind_run q schedule =
      ap (λ (b : Opening). blind_told b (told_in (run o schedule))) (same_blind o q a) ∙ ap (λ (ws : List ℕ). blind_told (blind q) ws) told in (
        blind_prints o schedule ∙ (ap text_of same ∙ sym (blind_prints q schedule)),
        blind_bundles o schedule ∙ (ap (λ (s : State). public_bundles s) same ∙ sym (blind_bundles q schedule)),
      )
