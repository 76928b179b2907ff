-- One more list of call lines.
use Rattle.std.proofs.Common.{◌≡◌, ◌∙◌, refl, sym, ap, ℕ, suc, ◌+◌, List, [], ◌∷◌, ◌++◌, map, append_assoc}
use Rattle.std.specs.Global.{Vec}
use Rattle.trace_texts.specs.declared.call_lines.CallLine.{CallLine}
use Rattle.trace_texts.specs.CallLines.{CallLineSeen, line_seen, lists_seen, call_list, call_lists}

seen-more : (lists : List (Vec CallLine)) (list : Vec CallLine) → lists_seen (lists ++ list ∷ []) ≡ lists_seen lists ++ map line_seen list.items ∷ []
seen-more [] list = refl
seen-more (l ∷ ls) list = ap (λ (xs : List (List CallLineSeen)). map line_seen l.items ∷ xs) (seen-more ls list)

pub lists-next : (text : List ℕ) (lists : List (Vec CallLine)) (list : Vec CallLine) (p n m : ℕ) (all : List (List CallLineSeen)) → m ≡ suc n → map line_seen list.items ≡ call_list text p → lists_seen lists ++ call_lists text p m ≡ all
    → lists_seen (lists ++ list ∷ []) ++ call_lists text (p + 1) n ≡ all
lists-next text lists list p n m all count is h =
    ap (λ (xs : List (List CallLineSeen)). xs ++ call_lists text (p + 1) n) (seen-more lists list)
    ∙ (append_assoc (lists_seen lists) (map line_seen list.items ∷ []) (call_lists text (p + 1) n)
    ∙ (ap (λ (x : List CallLineSeen). lists_seen lists ++ x ∷ call_lists text (p + 1) n) is
    ∙ (ap (λ (k : ℕ). lists_seen lists ++ call_lists text p k) (sym count) ∙ h)))
