-- Where a script's processors are at the end of its run.
use Rattle.std.proofs.Common.{◌≡◌, ◌≢◌, ◌⊎◌, inl, inr, refl, sym, ◌∙◌, ap, subst, ℕ, zero, suc, ◌<◌, ◌≤◌, List, [], ◌∷◌, ◌++◌, length, drop, None, Bool, true, false, ◌==◌, arith}
use Rattle.std.proofs.Math.Seq.{drop-nil}
use Rattle.std.proofs.lemmas.Bool.{cases_lt}
use Rattle.std.proofs.lemmas.Bool.Decides.{eqb_tells}
use Rattle.td_words.specs.declared.calls.Call.{Call}
use Rattle.flat_core.specs.Processor.{Lp}
use Rattle.flat_core.specs.Opening.{Opening}
use Rattle.flat_core.specs.Event.{State, start, event, lines_left, calls_of}
use Rattle.flat_core.specs.Run.{play, run, bundles_in, told_in, to_the_end}
use Rattle.flat_core.specs.Bounds.{RunsEnd}
use Rattle.flat_core.specs.Laws.{OthersStay, AreMerged, ToldAreMerged}
use Rattle.trace_lines.proofs.Going.{stays, one-more-item}
use Rattle.bundle_texts.specs.Ordered.{container_text}
use Rattle.bundle_texts.proofs.Fits.{same_text}
use Rattle.leaf_engine.specs.Besides.{Beside}
use Rattle.leaf_engine.specs.OwnLists.{WordLp, first_lp}
use Rattle.leaf_engine.specs.Merges.{order}
use Rattle.leaf_dispatch.specs.declared.states.LpState.{LpState}
use Rattle.run_texts.specs.Sealing.{bundles_seen, bundles_text}
use Rattle.run_texts.specs.Replaying.{LeadsToEnd, StandsAt, HaveEnded, AreAtEnd, TurnsAreEvents, seen_at}
use Rattle.run_texts.specs.Looking.{GoesOn, Goes}
use Rattle.run_texts.proofs.Replayed.{IsOpen, end, there, same, prints-all, notes-all, fit, made}

-- what leads to the end of a run does so with or without items that make no event
pub leads-on : RunsEnd → OthersStay → (o : Opening) (schedule : List ℕ) → GoesOn o (LeadsToEnd o schedule)
leads-on ends others o schedule = record {
  idle = λ s p items none leads. ap (play o items) (sym (stays o s p none)) ∙ leads;
  one_more = λ events p inside ended leads. one-more-item o (λ n items s. play o items s) (λ s n p items none. ap (play o items) (stays o s p none)) (λ s n p xs ys same. same 0) others ends events 0 p inside ended ∙ leads;
}

-- a processor that the machine hasn't stays as it was at the start

calls-beyond : (css : List (List Call)) (p : ℕ) → length css ≤ p → calls_of css p ≡ []
calls-beyond [] p h = refl
calls-beyond (cs ∷ css) zero h = absurd (omega (arith, h))
calls-beyond (cs ∷ css) (suc p) h = calls-beyond css p (omega (arith, h))

none-left : (o : Opening) (p : ℕ) (lp : Lp) → length o.calls ≤ p → lines_left o p lp ≡ []
none-left o p lp h = ap (drop (length lp.replies)) (calls-beyond o.calls p h) ∙ drop-nil (length lp.replies)

stays-beyond : OthersStay → (o : Opening) (ps : List ℕ) (s : State) (p : ℕ) → length o.calls ≤ p → (play o ps s).lps p ≡ s.lps p
stays-beyond others o [] s p h = refl
stays-beyond others o (q ∷ qs) s p h = stays-beyond others o qs (event o s q) p h ∙ by (eqb_tells p q)
  where
    by : (((p == q) ≡ true) × (p ≡ q)) ⊎ (((p == q) ≡ false) × (p ≢ q)) → (event o s q).lps p ≡ s.lps p
    by (inl t) = ap (λ (z : State). z.lps p) (subst (λ (k : ℕ). event o s k ≡ s) t.1 (stays o s p (none-left o p (s.lps p) h)))
    by (inr f) = others o s q p f.1

seen-beyond : (lps : List LpState) (p : ℕ) → length lps ≤ p → seen_at lps p ≡ first_lp []
seen-beyond [] p h = refl
seen-beyond (s ∷ ss) zero h = absurd (omega (arith, h))
seen-beyond (s ∷ ss) (suc p) h = seen-beyond ss p (omega (arith, h))

module _ (ls : TurnsAreEvents) (merged : ToldAreMerged) (o : Opening) (schedule : List ℕ) (lps : List LpState) (words : List ℕ) (op : IsOpen o) (l : StandsAt o [] (LeadsToEnd o schedule) lps words) (ended : HaveEnded (length lps) lps) where
  abbrev final : State
  final = end ls o schedule lps words op l ended

  abbrev items : List ℕ
  items = order l.midway.made ++ to_the_end 0 o.calls

  told-at : (p : ℕ) → (final.lps p).told ≡ (seen_at lps p).beside.told
  told-at p = by (cases_lt p (length o.calls))
    where
      by : (p < length o.calls) ⊎ (length o.calls ≤ p) → (final.lps p).told ≡ (seen_at lps p).beside.told
      by (inl inside) = ap (λ (x : Beside). x.told) ((there ls o schedule lps words op l ended).beside p inside)
      by (inr beyond) =
          ap (λ (x : Lp). x.told) (stays-beyond ls.others o items (start o None) p beyond)
          ∙ ap (λ (x : WordLp). x.beside.told) (sym (seen-beyond lps p (omega (arith, l.count, beyond))))

  pub at-end : AreAtEnd o schedule lps
  at-end = record {
    count = l.count;
    few = omega (arith, op.few, l.count);
    replies = prints-all ls o schedule lps words op l ended;
    notes = notes-all ls o schedule lps words op l ended;
    bundles = made ls o schedule lps words op l ended;
    fit = fit ls o schedule lps words op l ended;
    told =
        subst (λ (s : State). AreMerged (λ p. (seen_at lps p).beside.told) (told_in s)) (same ls o schedule lps words op l ended)
        (subst (λ (f : ℕ → List ℕ). AreMerged f (told_in final)) (λ i p. told-at p i) (merged o None items));
  }

-- where nobody looks on all come to their ends
pub nobody-stops : TurnsAreEvents → ToldAreMerged → (o : Opening) (schedule : List ℕ) (lps : List LpState) (words : List ℕ) → IsOpen o → (ended : Bool) → Goes ⊥ (length lps) lps (λ left. StandsAt o left (LeadsToEnd o schedule) lps words) ended → AreAtEnd o schedule lps
nobody-stops ls merged o schedule lps words op true h = at-end ls merged o schedule lps words op h.1 h.0
nobody-stops ls merged o schedule lps words op false h = absurd h.0

-- the container of their bundles is the run's
pub seals-end : (o : Opening) (schedule : List ℕ) (lps : List LpState) → AreAtEnd o schedule lps → (forward backward : List ℕ) → container_text forward backward (bundles_seen lps) ≡ bundles_text forward backward o schedule
unfolding bundles_text
seals-end o schedule lps e forward backward = same_text forward backward (bundles_in (run o schedule)) (bundles_seen lps) e.fit e.bundles
