-- Locks as a rule on a word sees them, and when no two processors can meet two rules at once.
use Rattle.std.specs.Prelude.{◌≡◌, ℕ, ◌⊎◌, Bool, true, false, ◌&&◌, ◌||◌, List, [], ◌∷◌}
use Rattle.flat_core.specs.Processor.{LockId}

-- a lock; or what a virtual processor in guest has of a page: a usable translation that names it, and one that may
-- write there. No lock keeps a guest off its pages, so these two are shared by the processor that it runs on
pub data Guard : Type 0 where
  Locked : (lock : LockId) → Guard
  Reached : (page : ℕ) → Guard
  Written : (page : ℕ) → Guard

-- a guard as it is seen from a word: P of its TD's TDR page; O, T, E and R of its TD; P of the page that it stands in,
-- and of the page that it names if it is an entry; K; and a guest's reach to its page, and right to write there
pub data Role : Type 0 where
  Tdr : Role
  Op : Role
  Tree : Role
  Epoch : Role
  Rtmr : Role
  Own : Role
  Named : Role
  Keys : Role
  Reach : Role
  Change : Role

-- it is held, shared or alone; it is held alone; nobody else has it
pub data Want : Type 0 where
  Has : (role : Role) → Want
  Sole : (role : Role) → Want
  Clear : (role : Role) → Want

-- a rule: one of these lists of wants is met
abbrev pub Rule : Type 0
Rule = List (List Want)

-- what a processor has of the guards: which it has at all, which it has alone, and which it knows that nobody else has
pub record Grip : Type 0 where
  pub has : Guard → Bool
  pub sole : Guard → Bool
  pub clear : Guard → Bool

-- nobody has a guard beside one who holds it alone, nor beside one who knows that nobody else has it
pub record Parted (g h : Grip) : Type 0 where
  pub sole : (x : Guard) → g.sole x ≡ true → h.has x ≡ true → ⊥
  pub both : (x : Guard) → g.sole x ≡ true → h.sole x ≡ true → ⊥
  pub clear : (x : Guard) → g.clear x ≡ true → h.has x ≡ true → ⊥

-- a guard that is had alone is had
abbrev pub HasWhatIsSole : Grip → Type 0
HasWhatIsSole g = (x : Guard) → g.sole x ≡ true → g.has x ≡ true

pub record Apart (g h : Grip) : Type 0 where
  pub there : Parted g h
  pub back : Parted h g

abbrev pub MeetsWant : Grip → (Role → Guard) → Want → Type 0
MeetsWant g at (Has r) = g.has (at r) ≡ true
MeetsWant g at (Sole r) = g.sole (at r) ≡ true
MeetsWant g at (Clear r) = g.clear (at r) ≡ true

abbrev pub MeetsAll : Grip → (Role → Guard) → List Want → Type 0
MeetsAll g at [] = Unit {0}
MeetsAll g at (w ∷ ws) = MeetsWant g at w × MeetsAll g at ws

abbrev pub Meets : Grip → (Role → Guard) → Rule → Type 0
Meets g at [] = ⊥
Meets g at (ws ∷ rule) = MeetsAll g at ws ⊎ Meets g at rule

-- two rules that no two processors meet at one word, by computation

abbrev pub same_role : Role → Role → Bool
same_role Tdr Tdr = true
same_role Op Op = true
same_role Tree Tree = true
same_role Epoch Epoch = true
same_role Rtmr Rtmr = true
same_role Own Own = true
same_role Named Named = true
same_role Keys Keys = true
same_role Reach Reach = true
same_role Change Change = true
same_role _ _ = false

abbrev pub clash : Want → Want → Bool
clash (Sole a) (Has b) = same_role a b
clash (Has a) (Sole b) = same_role a b
clash (Sole a) (Sole b) = same_role a b
clash (Clear a) (Has b) = same_role a b
clash (Has a) (Clear b) = same_role a b
clash _ _ = false

abbrev pub clash_any : Want → List Want → Bool
clash_any a [] = false
clash_any a (b ∷ bs) = clash a b || clash_any a bs

abbrev pub clash_lists : List Want → List Want → Bool
clash_lists [] bs = false
clash_lists (a ∷ xs) bs = clash_any a bs || clash_lists xs bs

abbrev pub clash_each : List Want → Rule → Bool
clash_each ws [] = true
clash_each ws (r ∷ rs) = clash_lists ws r && clash_each ws rs

abbrev pub clashes : Rule → Rule → Bool
clashes [] rs = true
clashes (ws ∷ r) rs = clash_each ws rs && clashes r rs
