-- What a report was told, part by part: the TDCS page, R, MRTD, the RTMRs, the registers and the position.
use Rattle.std.proofs.Common.{◌≡◌, ℕ, ◌+◌, ◌<◌, ◌≤◌, List, [], ◌∷◌, length, take, drop, None, Result, Ok, Err, true, false, refl, ap, sym, ◌∙◌, subst, arith}
use Rattle.td_words.specs.declared.machines.Machine.{Machine}
use Rattle.td_words.specs.declared.replies.Value.TheVariants as value
use Rattle.td_words.specs.declared.replies.Reply.TheVariants.{Done}
use Rattle.td_words.specs.Place.{WordPlace, Word, address}
use Rattle.leaf_engine.specs.declared.plans.Stop.{Stop}
use Rattle.leaf_engine.specs.declared.plans.Stop.TheVariants as stop
use Rattle.leaf_engine.specs.Decides.{Decides, Ending}
use Rattle.word_rules.specs.Views.{look}
use Rattle.leaf_engine.specs.Besides.{reported}
use Rattle.leaf_engine.specs.Trees.{Tree, Lock, Load, Test, End, Since, feed, answer_of}
use Rattle.leaf_parts.specs.Words.{page_told}
use Rattle.access_core.specs.OperationTrees.{with_position, put_next}
use Rattle.access_core.specs.RtmrTrees.{with_words, register_at}
use Rattle.access_core.specs.ReportTrees.{rtmrs_at, facts_told, report_end, report_held, report_tree}
use Rattle.access_core.proofs.WordsTold.{words-stop, words-go, words-fed}

-- behind R
module _ (m : Machine) (t v line word l d : ℕ) (xs mid ys : List ℕ) (first : xs ≡ word ∷ mid) (second : mid ≡ l ∷ ys) (page : d ≡ page_told m.pages word) where
  told-is : xs ≡ word ∷ l ∷ ys
  told-is = first ∙ ap (λ (zs : List ℕ). word ∷ zs) second

  pub behind-r : (r : Result Ending Stop) → Decides m.pages (report_held v line d) ys r → Decides m.pages (report_tree m t v line) xs r
  behind-r r h =
      subst (λ (zs : List ℕ). Decides m.pages (report_tree m t v line) zs r) (sym told-is)
      (subst (λ (p : ℕ). Decides m.pages (report_held v line p) ys r) page h)

  pub behind-fed : feed (report_tree m t v line) xs ≡ feed (report_held v line d) ys
  behind-fed = ap (feed (report_tree m t v line)) told-is ∙ ap (λ (p : ℕ). feed (report_held v line p) ys) (sym page)

-- a word of a run is missing
pub run-stops : (n : ℕ) (at : ℕ → WordPlace) (count : ℕ) (f : List ℕ → Tree) (ys : List ℕ) (e : Stop) → length ys < count → e ≡ stop.Load (address n (at (length ys))) → Decides n (with_words at 0 count f) ys (Err e)
run-stops n at count f ys e few is =
    let base : 0 + length ys ≡ length ys = omega arith in
    rw is (subst (λ (i : ℕ). Decides n (with_words at 0 count f) ys (Err (stop.Load (address n (at i))))) base (words-stop n at 0 count f ys few))

-- all of its words are told
module _ (n : ℕ) (at : ℕ → WordPlace) (count : ℕ) (f : List ℕ → Tree) (ys zs ws : List ℕ) (all : count ≤ length ys) (is : ws ≡ take count ys) (rest : zs ≡ drop count ys) where
  pub run-goes : (r : Result Ending Stop) → Decides n (f ws) zs r → Decides n (with_words at 0 count f) ys r
  run-goes r h = words-go n at 0 count f ys r all (subst (λ (xs : List ℕ). Decides n (f xs) (drop count ys) r) is (subst (λ (xs : List ℕ). Decides n (f ws) xs r) rest h))

  pub run-fed : feed (with_words at 0 count f) ys ≡ feed (f ws) zs
  run-fed = words-fed at 0 count f ys all ∙ (ap (λ (xs : List ℕ). feed (f xs) (drop count ys)) (sym is) ∙ ap (feed (f ws)) (sym rest))

-- what comes behind each part
abbrev pub by_registers : (v line : ℕ) (mrtd rtmrs registers : List ℕ) → Tree
by_registers v line mrtd rtmrs registers = with_position v (λ at. report_end v line at (facts_told mrtd rtmrs registers))

abbrev pub by_rtmrs : (v line : ℕ) (mrtd rtmrs : List ℕ) → Tree
by_rtmrs v line mrtd rtmrs = with_words (register_at v) 0 8 (by_registers v line mrtd rtmrs)

abbrev pub by_mrtd : (v line d : ℕ) (mrtd : List ℕ) → Tree
by_mrtd v line d mrtd = with_words (rtmrs_at d) 0 24 (by_rtmrs v line mrtd)

-- the position is missing, or told
pub ends-stop : (n v line : ℕ) (mrtd rtmrs registers ys : List ℕ) (e : Stop) → ys ≡ [] → e ≡ stop.Load (address n (Word v 4)) → Decides n (by_registers v line mrtd rtmrs registers) ys (Err e)
ends-stop n v line mrtd rtmrs registers ys e none is = subst (λ (xs : List ℕ). Decides n (by_registers v line mrtd rtmrs registers) xs (Err e)) (sym none) (ap Err is)

pub ends-fed : (v line : ℕ) (mrtd rtmrs registers : List ℕ) (at : ℕ) (ys rest : List ℕ) → ys ≡ at ∷ rest → feed (by_registers v line mrtd rtmrs registers) ys ≡ report_end v line at (facts_told mrtd rtmrs registers)
ends-fed v line mrtd rtmrs registers at ys rest is = ap (feed (by_registers v line mrtd rtmrs registers)) is

pub ends-as : (n v line : ℕ) (mrtd rtmrs registers : List ℕ) (at : ℕ) (ys rest : List ℕ) → ys ≡ at ∷ rest
    → Decides n (by_registers v line mrtd rtmrs registers) ys (Ok (record { reply = Done value.Nothing; changes = put_next v at ∷ [] }))
ends-as n v line mrtd rtmrs registers at ys rest is =
    subst (λ (zs : List ℕ). Decides n (by_registers v line mrtd rtmrs registers) zs (Ok (record { reply = Done value.Nothing; changes = put_next v at ∷ [] }))) (sym is) (refl, refl)

-- a decision that stops has noted nothing
pub none-noted : (n : ℕ) (tree : Tree) (told : List ℕ) (e : Stop) → Decides n tree told (Err e) → reported (answer_of (feed tree told)).notes ≡ None
none-noted n (Lock l q mode t) [] e d = refl
none-noted n (Lock l q mode t) (x ∷ xs) e d = none-noted n t xs e d
none-noted n (Load v q k) [] e d = refl
none-noted n (Load v q k) (x ∷ xs) e d = none-noted n (k (look v x)) xs e d
none-noted n (Test true out t) xs e d = none-noted n t xs e (d.0 refl)
none-noted n (Test false out t) xs e d = refl
none-noted n (End a fs cs) xs e d = absurd d
none-noted n (Since a cs) xs e d = absurd d
