-- The locks that VP.ENTER and EXPORT.PAUSE hold: those that their rows try first, the newest first.
use Rattle.std.proofs.Common.{◌≡◌, ◌⊎◌, inl, inr, refl, sym, ◌∙◌, ap, ℕ, zero, suc, ◌+◌, ◌≤◌, List, [], ◌∷◌, length, drop, None, true, false, ◌==◌, arith}
use Rattle.std.proofs.lemmas.Bool.{eq-eqb}
use Rattle.td_words.specs.declared.names.Mode.{Mode}
use Rattle.td_words.specs.declared.calls.Call.{Call}
use Rattle.td_words.specs.declared.calls.Call.TheVariants as call
use Rattle.td_words.specs.declared.replies.Reply.{Reply}
use Rattle.flat_core.specs.World.{World}
use Rattle.flat_core.specs.Locks.{alone_in}
use Rattle.flat_core.specs.Processor.{LockId, OfOp, Held, Phase, Trying, Undoing, Answered}
use Rattle.flat_core.specs.Opening.{Opening}
use Rattle.flat_core.specs.Row.{Item, Check, Try, Passes, Attempts, Succeeds, next, next_in}
use Rattle.flat_core.specs.Table.{row_of}
use Rattle.flat_core.specs.Tries.{enter_tries, pause_tries}
use Rattle.flat_core.specs.Guests.{entry_locks}
use Rattle.flat_core.specs.Inside.{held_then, LocksFit}

-- the locks that a row tries, oldest first
abbrev pub tried_locks : List (Item Reply) → List Held
tried_locks [] = []
tried_locks (Check b r ∷ items) = tried_locks items
tried_locks (Try l m ∷ items) = record { lock = l; mode = m } ∷ tried_locks items

drop-then : (hs : List Held) (j : ℕ) (xs : List Held) → drop (length hs + j) (held_then hs xs) ≡ drop j xs
drop-then [] j xs = let e : 0 + j ≡ j = omega arith in ap (λ (n : ℕ). drop n xs) e
drop-then (h ∷ hs) j xs =
    let e : suc (length hs) + j ≡ length hs + suc j = omega arith in
    ap (λ (n : ℕ). drop n (held_then hs (h ∷ xs))) e ∙ drop-then hs (suc j) (h ∷ xs)

length-then : (hs xs : List Held) → length (held_then hs xs) ≡ length hs + length xs
length-then [] xs = omega arith
length-then (h ∷ hs) xs = let k = length-then hs (h ∷ xs) in omega (arith, k)

-- the next try, and those behind it
next-locks : (items : List (Item Reply)) (k : ℕ) (l : LockId) (m : Mode) → next items k ≡ Attempts l m → (xs : List Held) × (drop k (tried_locks items) ≡ record { lock = l; mode = m } ∷ xs)
next-locks [] k l m e = cc
next-locks (Check true r ∷ items) k l m e = next-locks items k l m e
next-locks (Check false r ∷ items) k l m e = cc
next-locks (Try a b ∷ items) zero l m e = let x : a ≡ l = cc in let y : b ≡ m = cc in (tried_locks items, rw (x, y) refl)
next-locks (Try a b ∷ items) (suc k) l m e = next-locks items k l m e

-- where a row succeeds each condition holds, and all is tried
pub all_pass : (items : List (Item Reply)) (k : ℕ) → next items k ≡ Succeeds → Passes items
all_pass [] k e = tt
all_pass (Check true r ∷ items) k e = (refl, all_pass items k e)
all_pass (Check false r ∷ items) k e = cc
all_pass (Try l m ∷ items) zero e = cc
all_pass (Try l m ∷ items) (suc k) e = all_pass items k e

-- so where a call's act comes next
pub passed : (items : List (Item Reply)) (phase : Phase Reply) (hs : List Held) → next_in items phase hs ≡ Succeeds → Passes items
passed items Trying hs e = all_pass items (length hs) e
passed items (Undoing l) hs e = cc
passed items (Answered r) [] e = cc
passed items (Answered r) (h ∷ hs) e = cc

all-tried : (items : List (Item Reply)) (k : ℕ) → next items k ≡ Succeeds → length (tried_locks items) ≤ k
all-tried [] k e = omega arith
all-tried (Check true r ∷ items) k e = all-tried items k e
all-tried (Check false r ∷ items) k e = cc
all-tried (Try l m ∷ items) zero e = cc
all-tried (Try l m ∷ items) (suc k) e = let i = all-tried items k e in omega (arith, i)

pub fits_first : (c : Call) → LocksFit c Trying []
fits_first (call.VpEnter t v most) = (enter_tries t v, refl)
fits_first (call.ExportPause t) = (pause_tries t, refl)
fits_first (call.HostRead page i) = tt
fits_first _ = tt

pub fits_later : (c : Call) (r : Reply) (hs : List Held) → LocksFit c (Answered r) hs
fits_later (call.VpEnter t v most) r hs = tt
fits_later (call.ExportPause t) r hs = tt
fits_later (call.HostRead page i) r hs = tt
fits_later _ r hs = tt

pub fits_undo : (c : Call) (l : LockId) (hs : List Held) → LocksFit c (Undoing l) hs
fits_undo (call.VpEnter t v most) l hs = tt
fits_undo (call.ExportPause t) l hs = tt
fits_undo (call.HostRead page i) l hs = tt
fits_undo _ l hs = tt

-- these are the first that a row tries
abbrev TriedFirst : List (Item Reply) → List Held → Type 0
TriedFirst items hs = (rest : List Held) × (tried_locks items ≡ held_then hs rest)

more-of : (items : List (Item Reply)) (hs : List Held) (l : LockId) (m : Mode) → next items (length hs) ≡ Attempts l m → TriedFirst items hs → TriedFirst items (record { lock = l; mode = m } ∷ hs)
more-of items hs l m is f =
    let n = next-locks items (length hs) l m is in
    let none : length hs ≡ length hs + 0 = omega arith in
    let left : f.0 ≡ record { lock = l; mode = m } ∷ n.0 =
    sym (drop-then hs 0 f.0) ∙ (ap (λ (k : ℕ). drop k (held_then hs f.0)) (sym none) ∙ (ap (drop (length hs)) (sym f.1) ∙ n.1)) in
    (n.0, f.1 ∙ ap (held_then hs) left)

pub fits_more : (o : Opening) (me : ℕ) (c : Call) (w : World) (hs : List Held) (l : LockId) (m : Mode) → next ((row_of o me c).items w) (length hs) ≡ Attempts l m → LocksFit c Trying hs → LocksFit c Trying (record { lock = l; mode = m } ∷ hs)
fits_more o me (call.VpEnter t v most) w hs l m is f = more-of ((row_of o me (call.VpEnter t v most)).items w) hs l m is f
fits_more o me (call.ExportPause t) w hs l m is f = more-of ((row_of o me (call.ExportPause t)).items w) hs l m is f
fits_more o me (call.HostRead page i) w hs l m is f = tt
fits_more o me _ w hs l m is f = tt

four : (a b c d : Held) (hs : List Held) → a ∷ b ∷ c ∷ d ∷ [] ≡ held_then hs [] → hs ≡ d ∷ c ∷ b ∷ a ∷ []
four a b c d [] e = cc
four a b c d (h ∷ []) e = cc
four a b c d (h ∷ i ∷ []) e = cc
four a b c d (h ∷ i ∷ j ∷ []) e = cc
four a b c d (h ∷ i ∷ j ∷ k ∷ []) e = (let x : a ≡ k = cc in let y : b ≡ j = cc in let z : c ≡ i = cc in let u : d ≡ h = cc in rw (x, y, z, u) refl)
four a b c d (h ∷ i ∷ j ∷ k ∷ n ∷ hs) e = absurd (let l = ap length e in let m = length-then hs (n ∷ k ∷ j ∷ i ∷ h ∷ []) in omega (arith, l, m))

-- at its act a row has tried all
all-held : (items : List (Item Reply)) (hs : List Held) → next items (length hs) ≡ Succeeds → (f : TriedFirst items hs) → f.0 ≡ []
all-held items hs is f =
    let most_of = all-tried items (length hs) is in
    let long = length-then hs f.0 in let same = ap length f.1 in
    nothing f.0 (omega (arith, most_of, long, same))
  where
    nothing : (xs : List Held) → length xs ≡ 0 → xs ≡ []
    nothing [] e = refl
    nothing (x ∷ xs) e = absurd (omega (arith, e))

-- so VP.ENTER holds all of them
pub enter_held : (o : Opening) (me t v most : ℕ) (w : World) (hs : List Held) → next ((row_of o me (call.VpEnter t v most)).items w) (length hs) ≡ Succeeds → LocksFit (call.VpEnter t v most) Trying hs → hs ≡ entry_locks t v
enter_held o me t v most w hs is f = four _ _ _ _ hs (f.1 ∙ ap (held_then hs) (all-held ((row_of o me (call.VpEnter t v most)).items w) hs is f))

-- and EXPORT.PAUSE holds O alone
alone-then : (l : LockId) (hs xs : List Held) → alone_in l (held_then hs xs) ≡ alone_in l hs + alone_in l xs
alone-then l [] xs = omega arith
alone-then l (h ∷ hs) xs = let k = alone-then l hs (h ∷ xs) in omega (arith, k)

pub pause_held : (o : Opening) (me t : ℕ) (w : World) (hs : List Held) → next ((row_of o me (call.ExportPause t)).items w) (length hs) ≡ Succeeds → LocksFit (call.ExportPause t) Trying hs → 1 ≤ alone_in (OfOp t) hs
pause_held o me t w hs is f =
    let none = all-held ((row_of o me (call.ExportPause t)).items w) hs is f in
    let all : pause_tries t ≡ held_then hs [] = f.1 ∙ ap (held_then hs) none in
    let same : alone_in (OfOp t) (pause_tries t) ≡ alone_in (OfOp t) hs + 0 = ap (alone_in (OfOp t)) all ∙ alone-then (OfOp t) hs [] in
    let here : (t == t) ≡ true = eq-eqb t t refl in
    let one : alone_in (OfOp t) (pause_tries t) ≡ 1 = rw here refl in
    omega (arith, same, one)

-- a call that enters a guest is VP.ENTER
pub enters_or_none : (o : Opening) (me : ℕ) (c : Call) → ((row_of o me c).enters ≡ None) ⊎ ((t : ℕ) × (v : ℕ) × (most : ℕ) × (c ≡ call.VpEnter t v most))
enters_or_none o me (call.VpEnter t v most) = inr (t, v, most, refl)
enters_or_none o me (call.HostRead page i) = inl refl
enters_or_none o me _ = inl refl
