-- The two runs of a soak, and what is read off them.
use Rattle.std.proofs.Common.{◌≡◌, ◌≢◌, ◌⊎◌, inl, inr, refl, sym, ◌∙◌, ap, subst, ℕ, zero, suc, ◌==◌, true, false, List, [], ◌∷◌, ◌++◌, length, map, slice_index, replicate, Result, Ok, Err, IfOk, arith, append-nil}
use Rattle.std.proofs.lemmas.Bool.{eq-eqb, ne_eqb}
use Rattle.std.proofs.lemmas.Bool.Decides.{eqb_tells}
use Rattle.std.proofs.lemmas.List.{length-map}
use Rattle.std.proofs.lemmas.List.Sorted.{length_permutation}
use Rattle.std.specs.Global.{Vec}
use Rattle.td_words.specs.Seen.{BundleSeen}
use Rattle.flat_core.specs.World.{Made, put}
use Rattle.flat_core.specs.Event.{State}
use Rattle.flat_core.specs.Run.{run, bundles_in, told_in}
use Rattle.flat_core.specs.Laws.{AreMerged}
use Rattle.flat_core.specs.Laws.AreMerged.{nothing_told, more_told}
use Rattle.bundle_store.specs.Containers.{container_in}
use Rattle.bundle_texts.specs.Sealed.{sealed}
use Rattle.bundle_texts.specs.Ordered.{in_slot_order, container_text, FitContainer}
use Rattle.bundle_texts.specs.Laws.{BundlesReadAgain}
use Rattle.bundle_texts.proofs.Fits.{fit_too}
use Rattle.bundle_texts.proofs.Order.{order_moves}
use Rattle.incoming.specs.Arrivals.{SlotIncoming, incoming_in, at_slot}
use Rattle.leaf_table.specs.Given.{Given, secrets_in}
use Rattle.leaf_dispatch.specs.declared.states.LpState.{LpState}
use Rattle.script_text.specs.Seen.{ScriptSeen}
use Rattle.run_texts.specs.Openings.{opening_of}
use Rattle.run_texts.specs.Sealing.{bundles_seen}
use Rattle.run_texts.specs.Replaying.{AreAtEnd, seen_at}
use Rattle.soak_scripts.specs.Soak.{source_script}
use Rattle.soak_runs.specs.Soaked.{forward_key, backward_key, carried, given_carried, run_with, source_run, destination_run, first_word, line_of, soak_text}
use Rattle.soak_runs.proofs.Slots.{carried-in-order}

-- words that are all 0

zero-word : (n k : ℕ) → slice_index (replicate n 0) k ≡ 0
zero-word zero k = refl
zero-word (suc n) zero = refl
zero-word (suc n) (suc k) = zero-word n k

pub no-secrets : (n : ℕ) → secrets_in (replicate n 0) ≡ (λ k. 0)
no-secrets n = λ i k. zero-word n k i

-- what a run is given
pub given-is : (ms : List Made) (g : Given) → g.secrets ≡ (λ k. 0) → g.bundles ≡ at_slot (map carried ms) → g ≡ given_carried ms
given-is ms g secrets bundles = λ i. record { secrets = secrets i; bundles = bundles i }

-- the run

run-is : (ms : List Made) (g : Given) (script : ScriptSeen) → g ≡ given_carried ms → run (opening_of g script) script.schedule ≡ run_with ms script
unfolding run_with
run-is ms g script given = ap (λ (x : Given). run (opening_of x script) script.schedule) given

-- where one processor alone has told words, they are all words

no-front : (xs ys : List ℕ) → xs ++ ys ≡ [] → xs ≡ []
no-front [] ys e = refl
no-front (x ∷ xs) ys e = (let n : suc (length (xs ++ ys)) ≡ 0 = ap length e in absurd (omega (arith, n)))

no-back : (xs ys : List ℕ) → xs ++ ys ≡ [] → ys ≡ []
no-back [] ys e = e
no-back (x ∷ xs) ys e = (let n : suc (length (xs ++ ys)) ≡ 0 = ap length e in absurd (omega (arith, n)))

own-put : (was : ℕ → List ℕ) (p : ℕ) (words : List ℕ) → put was p words p ≡ words
own-put was p words = rw (eq-eqb p p refl) refl

other-put : (was : ℕ → List ℕ) (p q : ℕ) (words : List ℕ) → q ≢ p → put was p words q ≡ was q
other-put was p q words ne = rw (ne_eqb q p ne) refl

more-words : (was : ℕ → List ℕ) (before words : List ℕ) (p : ℕ) → ((q : ℕ) → put was p (was p ++ words) (suc q) ≡ []) → (((q : ℕ) → was (suc q) ≡ []) → before ≡ was 0) → before ++ words ≡ put was p (was p ++ words) 0
more-words was before words zero none so_far =
    let nobody : (q : ℕ) → was (suc q) ≡ [] = λ q. sym (other-put was 0 (suc q) (was 0 ++ words) (λ e. absurd (omega (arith, e)))) ∙ none q in
    ap (λ (xs : List ℕ). xs ++ words) (so_far nobody) ∙ sym (own-put was 0 (was 0 ++ words))
more-words was before words (suc k) none so_far =
    ap (λ (xs : List ℕ). before ++ xs) (no-back (was (suc k)) words none-here)
    ∙ (append-nil before ∙ (so_far (λ q. by q (eqb_tells (suc q) (suc k))) ∙ sym (other-put was (suc k) 0 (was (suc k) ++ words) (λ e. absurd (omega (arith, e))))))
  where
    none-here : was (suc k) ++ words ≡ []
    none-here = sym (own-put was (suc k) (was (suc k) ++ words)) ∙ none k

    by : (q : ℕ) → (((suc q == suc k) ≡ true) × (suc q ≡ suc k)) ⊎ (((suc q == suc k) ≡ false) × (suc q ≢ suc k)) → was (suc q) ≡ []
    by q (inl t) = ap was t.1 ∙ no-front (was (suc k)) words none-here
    by q (inr f) = sym (other-put was (suc k) (suc q) (was (suc k) ++ words) f.1) ∙ none q

one-teller : (own : ℕ → List ℕ) (all : List ℕ) → AreMerged own all → ((p : ℕ) → own (suc p) ≡ []) → all ≡ own 0
one-teller own all nothing_told none = refl
one-teller own all (more_told was before p words h) none = more-words was before words p none (λ nobody. one-teller was before h nobody)

-- of one processor there are no others
none-behind : (lps : List LpState) (p : ℕ) → length lps ≡ 1 → (seen_at lps (suc p)).beside.told ≡ []
none-behind [] p h = refl
none-behind (s ∷ []) p h = refl
none-behind (s ∷ t ∷ ss) p h = absurd (omega (arith, h))

-- what is read off the processors at the end of a run

module _ (ms : List Made) (g : Given) (script : ScriptSeen) (lps : List LpState) (given : g ≡ given_carried ms) (end : AreAtEnd (opening_of g script) script.schedule lps) where
  pub fit : FitContainer (bundles_seen lps)
  fit = fit_too (bundles_in (run (opening_of g script) script.schedule)) (bundles_seen lps) end.bundles end.fit

  pub run-fits : FitContainer (bundles_in (run_with ms script))
  run-fits = subst (λ (s : State). FitContainer (bundles_in s)) (run-is ms g script given) end.fit

  pub run-sealed : BundlesReadAgain → (forward backward bytes : List ℕ) → bytes ≡ container_text forward backward (bundles_seen lps)
      → container_in bytes ≡ Ok (map (sealed forward backward) (in_slot_order (bundles_in (run_with ms script))))
  run-sealed law forward backward bytes text =
      let seals : List Made → List BundleSeen = λ zs. map (sealed forward backward) zs in
      ap container_in text
      ∙ (law.container forward backward (bundles_seen lps) fit
      ∙ (ap (λ (zs : List Made). Ok (seals zs)) (law.any_order (bundles_in (run (opening_of g script) script.schedule)) (bundles_seen lps) end.fit end.bundles)
      ∙ ap (λ (s : State). Ok (seals (in_slot_order (bundles_in s)))) (run-is ms g script given)))

  pub run-told : length script.calls ≡ 1 → first_word (seen_at lps 0).beside.told ≡ first_word (told_in (run_with ms script))
  run-told one =
      ap first_word
      (sym (one-teller (λ p. (seen_at lps p).beside.told) (told_in (run (opening_of g script) script.schedule)) end.told (λ p. none-behind lps p (end.count ∙ one)))
      ∙ ap told_in (run-is ms g script given))

  pub run-container : {E : Type 0} (r : Result (Vec ℕ) E) → BundlesReadAgain → (forward backward : List ℕ) → forward ≡ forward_key → backward ≡ backward_key
      → IfOk r (λ v. v.items ≡ container_text forward backward (bundles_seen lps))
      → IfOk r (λ v. container_in v.items ≡ Ok (map (sealed forward_key backward_key) (in_slot_order (bundles_in (run_with ms script)))))
  run-container (Ok v) law forward backward f b h = run-sealed law forward_key backward_key v.items (h ∙ (λ i. container_text (f i) (b i) (bundles_seen lps)))
  run-container (Err x) law forward backward f b h = tt

-- what was read of the source's container, and how it comes in

abbrev read-from : Result (List BundleSeen) ℕ → List BundleSeen
read-from (Ok read) = read
read-from (Err place) = []

pub read-are : (n : ℕ) (script : ScriptSeen) (bytes container : List ℕ) (read : List BundleSeen) → script ≡ source_script n → bytes ≡ container
    → container_in container ≡ Ok (map (sealed forward_key backward_key) (in_slot_order (bundles_in (run_with [] script)))) → container_in bytes ≡ Ok read
    → read ≡ map (sealed forward_key backward_key) (in_slot_order (bundles_in (source_run n)))
read-are n script bytes container read is same made reads =
    ap read-from (sym reads ∙ (ap container_in same ∙ made)) ∙ ap (λ (x : ScriptSeen). map (sealed forward_key backward_key) (in_slot_order (bundles_in (run_with [] x)))) is

pub carried-are : (n : ℕ) (script : ScriptSeen) (read : List BundleSeen) (forward backward : List ℕ) (came : List SlotIncoming) → script ≡ source_script n → FitContainer (bundles_in (run_with [] script))
    → read ≡ map (sealed forward_key backward_key) (in_slot_order (bundles_in (source_run n))) → forward ≡ forward_key → backward ≡ backward_key → came ≡ map (incoming_in forward backward) read
    → at_slot came ≡ at_slot (map carried (bundles_in (source_run n)))
carried-are n script read forward backward came is fits reads f b comes =
    let ms : List Made = bundles_in (source_run n) in
    let fit : FitContainer ms = subst (λ (x : ScriptSeen). FitContainer (bundles_in (run_with [] x))) is fits in
    ap at_slot (comes ∙ (λ i. map (incoming_in (f i) (b i)) (reads i))) ∙ carried-in-order ms fit.apart

-- how many bundles were read
pub as-many : (n : ℕ) (read : List BundleSeen) → read ≡ map (sealed forward_key backward_key) (in_slot_order (bundles_in (source_run n))) → length read ≡ length (bundles_in (source_run n))
as-many n read is =
    let ms : List Made = bundles_in (source_run n) in
    ap length is ∙ (length-map (in_slot_order ms) (sealed forward_key backward_key) ∙ length_permutation ms (in_slot_order ms) (order_moves ms))

-- the line
pub says : (n count sum : ℕ) → count ≡ length (bundles_in (source_run n)) → sum ≡ first_word (told_in (destination_run n)) → line_of n count sum ≡ soak_text n
unfolding soak_text
says n count sum c s = λ i. line_of n (c i) (s i)

-- what a result has, whatever it is
pub in-any : {A E : Type 0} (Q : Type 0) (r : Result A E) → Q → IfOk r (λ v. Q)
in-any Q (Ok v) q = q
in-any Q (Err x) q = tt

-- the line of what was counted and told
pub line-says : {E : Type 0} (r : Result (Vec ℕ) E) (n count sum : ℕ) → count ≡ length (bundles_in (source_run n)) → sum ≡ first_word (told_in (destination_run n))
    → IfOk r (λ v. v.items ≡ line_of n count sum) → IfOk r (λ v. v.items ≡ soak_text n)
line-says (Ok v) n count sum c s h = h ∙ says n count sum c s
line-says (Err x) n count sum c s h = tt
