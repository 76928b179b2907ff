-- What a trace tells of a run: numbers, and replies.
use Rattle.std.proofs.Common.{◌≡◌, ◌≢◌, ◌⊎◌, inl, inr, refl, sym, ◌∙◌, ap, subst, ℕ, ◌+◌, List, [], ◌∷◌, ◌++◌, length, Option, Some, None, true, false, ◌==◌, append-nil, append_assoc}
use Rattle.std.proofs.lemmas.Bool.Decides.{eqb_tells}
use Rattle.td_words.specs.declared.replies.Reply.{Reply}
use Rattle.flat_core.specs.Processor.{Lp}
use Rattle.flat_core.specs.Opening.{Opening}
use Rattle.flat_core.specs.Event.{State, Event, start, event, next_event, after_event}
use Rattle.flat_core.specs.Run.{play, to_the_end}
use Rattle.flat_core.specs.Laws.{OthersStay}
use Rattle.flat_core.specs.Replies.{IsOneMore, RepliesComeOneByOne}
use Rattle.trace_lines.specs.Traces.{reply_behind, traced_first, traces_from}
use Rattle.trace_lines.specs.Laws.{reply_before, replies_told, AreNumbered, TracesTell}

numbered : (o : Opening) (s : State) (n : ℕ) (xs : List ℕ) → AreNumbered n (traces_from o s n xs)
numbered o s n [] = tt
numbered o s n (x ∷ xs) = by (next_event o s x) (λ k. numbered o (event o s x) k xs)
  where
    by : (z : Option Event) → ((k : ℕ) → AreNumbered k (traces_from o (event o s x) k xs)) → AreNumbered n (traced_first s (event o s x) n x z (λ k. traces_from o (event o s x) k xs))
    by None further = further n
    by (Some e) further = (refl, further (n + 1))

-- behind as many as there were comes the one that is new

none-behind : (rs : List Reply) → reply_behind (length rs) rs ≡ None
none-behind [] = refl
none-behind (r ∷ rs) = none-behind rs

one-behind : (rs : List Reply) (r : Reply) → reply_behind (length rs) (rs ++ r ∷ []) ≡ Some r
one-behind [] r = refl
one-behind (x ∷ rs) r = one-behind rs r

told-more : (before after further : List Reply) → IsOneMore before after → after ++ further ≡ before ++ reply_before (reply_behind (length before) after) further
told-more before after further (inl same) =
    ap (λ zs. zs ++ further) same ∙ ap (λ (z : Option Reply). before ++ reply_before z further) (sym (ap (reply_behind (length before)) same ∙ none-behind before))
told-more before after further (inr more) =
    ap (λ zs. zs ++ further) more.1
    ∙ (append_assoc before (more.0 ∷ []) further ∙ ap (λ (z : Option Reply). before ++ reply_before z further) (sym (ap (reply_behind (length before)) more.1 ∙ one-behind before more.0)))

module _ (others : OthersStay) (one : RepliesComeOneByOne) (o : Opening) (s : State) (n x p : ℕ) (xs : List ℕ) where
  abbrev s' : State
  s' = event o s x

  abbrev told : List Reply
  told = replies_told p (traces_from o s' (n + 1) xs)

  abbrev Goal : Option Event → Type 0
  Goal z = ((play o xs s').lps p).replies ≡ (s.lps p).replies ++ replies_told p (traced_first s s' n x z (λ k. traces_from o s' k xs))

  replies-first : (z : Option Event) → next_event o s x ≡ z → ((k : ℕ) → ((play o xs s').lps p).replies ≡ (s'.lps p).replies ++ replies_told p (traces_from o s' k xs)) → Goal z
  replies-first None is further = further n ∙ ap (λ (z : State). (z.lps p).replies ++ replies_told p (traces_from o s' n xs)) (ap (λ (z : Option Event). after_event x s z) is)
  replies-first (Some e) is further = by (eqb_tells x p)
    where
      by : (((x == p) ≡ true) × (x ≡ p)) ⊎ (((x == p) ≡ false) × (x ≢ p)) → Goal (Some e)
      by (inr f) =
          let ne : p ≢ x = λ q. f.1 (sym q) in
          rw (f.0) (further (n + 1) ∙ ap (λ (z : Lp). z.replies ++ told) (others o s x p ne))
      by (inl t) =
          let at : (s'.lps p).replies ++ told ≡ (s.lps p).replies ++ reply_before (reply_behind (length (s.lps x).replies) (s'.lps x).replies) told =
          subst (λ (q : ℕ). (s'.lps q).replies ++ told ≡ (s.lps q).replies ++ reply_before (reply_behind (length (s.lps x).replies) (s'.lps x).replies) told) t.1
          (told-more (s.lps x).replies (s'.lps x).replies told (one o s x)) in
          rw (t.0) (further (n + 1) ∙ at)

replies-so : OthersStay → RepliesComeOneByOne → (o : Opening) (s : State) (n p : ℕ) (xs : List ℕ) → ((play o xs s).lps p).replies ≡ (s.lps p).replies ++ replies_told p (traces_from o s n xs)
replies-so others one o s n p [] = sym (append-nil (s.lps p).replies)
replies-so others one o s n p (x ∷ xs) = replies-first others one o s n x p xs (next_event o s x) refl (λ k. replies-so others one o (event o s x) k p xs)

pub traces-tell : OthersStay → RepliesComeOneByOne → TracesTell
traces-tell others one = record {
  numbers = λ o schedule. numbered o (start o None) 1 (schedule ++ to_the_end 0 o.calls);
  replies = λ o schedule p. sym (replies-so others one o (start o None) 1 p (schedule ++ to_the_end 0 o.calls));
}
