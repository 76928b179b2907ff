-- One line of a plan, and those that follow.
use Rattle.std.proofs.Common.{◌≡◌, ℕ, ◌+◌, List, [], ◌∷◌, ◌++◌, append_assoc, append-nil, length, false, ◌==◌, Some, None, Result, Ok, Err, refl, sym, ◌∙◌, ap, arith}
use Rattle.std.proofs.lemmas.List.Splits.{length-slice_split}
use Rattle.line_words.specs.Words.{pieces}
use Rattle.pair_runner.specs.declared.plans.PlanItem.{PlanItem}
use Rattle.pair_runner.specs.Plans.{line_in, before, items_from}

-- lines behind those that were read
abbrev pub behind : List PlanItem → Result (List PlanItem) ℕ → Result (List PlanItem) ℕ
behind so_far (Ok items) = Ok (so_far ++ items)
behind so_far (Err n) = Err n

pub behind_none : (read : Result (List PlanItem) ℕ) → behind [] read ≡ read
behind_none (Ok items) = refl
behind_none (Err n) = refl

onto_some : (modules n : ℕ) (line : List ℕ) (rest : List (List ℕ)) → (length rest == 0) ≡ false → items_from modules n (line ∷ rest) ≡ before n (line_in modules n line) (items_from modules (n + 1) rest)
onto_some modules n line [] h = cc
onto_some modules n line (next ∷ more) h = refl

some_pieces : (bytes : List ℕ) → (length (pieces bytes) == 0) ≡ false
some_pieces bytes = grind (arith, length-slice_split (λ b. b == 10) bytes)

pub one_line : (modules n : ℕ) (line more : List ℕ) → items_from modules n (line ∷ pieces more) ≡ before n (line_in modules n line) (items_from modules (n + 1) (pieces more))
one_line modules n line more = onto_some modules n line (pieces more) (some_pieces more)

pushed : (so_far : List PlanItem) (n : ℕ) (item : PlanItem) (read : Result (List PlanItem) ℕ) → behind (so_far ++ item ∷ []) read ≡ behind so_far (before n (Some item) read)
pushed so_far n item (Ok items) = ap Ok (append_assoc so_far (item ∷ []) items)
pushed so_far n item (Err m) = refl

pub good_line : (modules n : ℕ) (so_far : List PlanItem) (rest line more : List ℕ) (item : PlanItem) → pieces rest ≡ line ∷ pieces more → Some item ≡ line_in modules n line
    → behind (so_far ++ item ∷ []) (items_from modules (n + 1) (pieces more)) ≡ behind so_far (items_from modules n (pieces rest))
good_line modules n so_far rest line more item cut h =
    rw (cut, one_line modules n line more, sym h) (pushed so_far n item (items_from modules (n + 1) (pieces more)))

pub bad_line : (modules n : ℕ) (so_far : List PlanItem) (rest line more : List ℕ) → pieces rest ≡ line ∷ pieces more → None ≡ line_in modules n line
    → behind so_far (items_from modules n (pieces rest)) ≡ Err n
bad_line modules n so_far rest line more cut h = rw (cut, one_line modules n line more, sym h) refl

-- behind the last newline
pub ended : (modules n : ℕ) (so_far : List PlanItem) (rest : List ℕ) → pieces rest ≡ rest ∷ [] → length rest ≡ 0 → behind so_far (items_from modules n (pieces rest)) ≡ Ok so_far
ended modules n so_far [] cut h = ap Ok (append-nil so_far)
ended modules n so_far (b ∷ rest) cut h = absurd (omega arith)

pub unended : (modules n : ℕ) (so_far : List PlanItem) (rest : List ℕ) → pieces rest ≡ rest ∷ [] → (length rest ≡ 0 → ⊥) → behind so_far (items_from modules n (pieces rest)) ≡ Err n
unended modules n so_far rest cut h =
    let e : (length rest == 0) ≡ false = grind (arith, h) in
    rw (cut, e) refl

-- what the lines so far, and the one that follows, say of the whole
pub whole_more : (modules n : ℕ) (so_far now : List PlanItem) (rest line more : List ℕ) (item : PlanItem) (read : Result (List PlanItem) ℕ) → pieces rest ≡ line ∷ pieces more → Some item ≡ line_in modules n line
    → now ≡ so_far ++ item ∷ [] → behind so_far (items_from modules n (pieces rest)) ≡ read → behind now (items_from modules (n + 1) (pieces more)) ≡ read
whole_more modules n so_far now rest line more item read cut h pushed whole =
    ap (λ (xs : List PlanItem). behind xs (items_from modules (n + 1) (pieces more))) pushed ∙ good_line modules n so_far rest line more item cut h ∙ whole

pub whole_bad : (modules n : ℕ) (so_far : List PlanItem) (rest line more : List ℕ) (read : Result (List PlanItem) ℕ) → pieces rest ≡ line ∷ pieces more → None ≡ line_in modules n line
    → behind so_far (items_from modules n (pieces rest)) ≡ read → read ≡ Err n
whole_bad modules n so_far rest line more read cut h whole = sym whole ∙ bad_line modules n so_far rest line more cut h
