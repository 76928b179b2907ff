-- The table of rules holds together, class by class.
use Rattle.std.proofs.Common.{◌≡◌, refl, true, false}
use Rattle.word_rules.specs.Guards.{clashes}
use Rattle.word_rules.specs.Rules.{Class, GuestWord, EpochCount, LeafEntry, View, Whole, ThePage, TheRights, Grade, KeepsNothing, KeepsPage, KeepsRights, spares, reads, sees, writes, owes, fills, moves, tries, RulesClash}

reads_writes : (c : Class) (v : View) (g : Grade) → spares g v ≡ false → clashes (reads c v) (writes c g) ≡ true
reads_writes (GuestWord true) Whole KeepsNothing h = refl
reads_writes (EpochCount true true) Whole KeepsNothing h = refl
reads_writes (EpochCount false true) Whole KeepsNothing h = refl
reads_writes (LeafEntry true) Whole KeepsNothing h = refl
reads_writes (LeafEntry true) ThePage KeepsNothing h = refl
reads_writes (LeafEntry true) TheRights KeepsNothing h = refl
reads_writes (LeafEntry false) Whole KeepsNothing h = refl
reads_writes (LeafEntry false) ThePage KeepsNothing h = refl
reads_writes (LeafEntry false) TheRights KeepsNothing h = refl
reads_writes _ _ _ h = cc

reads_owes : (c : Class) (v : View) (g : Grade) → spares g v ≡ false → clashes (reads c v) (owes c g) ≡ true
reads_owes (GuestWord true) Whole KeepsNothing h = refl
reads_owes (EpochCount true true) Whole KeepsNothing h = refl
reads_owes (EpochCount false true) Whole KeepsNothing h = refl
reads_owes (LeafEntry true) Whole KeepsNothing h = refl
reads_owes (LeafEntry true) ThePage KeepsNothing h = refl
reads_owes (LeafEntry true) TheRights KeepsNothing h = refl
reads_owes (LeafEntry false) Whole KeepsNothing h = refl
reads_owes (LeafEntry false) ThePage KeepsNothing h = refl
reads_owes (LeafEntry false) TheRights KeepsNothing h = refl
reads_owes _ _ _ h = cc

reads_moves : (c : Class) (v : View) → clashes (reads c v) (moves c) ≡ true
reads_moves (GuestWord true) Whole = refl
reads_moves (EpochCount true true) Whole = refl
reads_moves (EpochCount false true) Whole = refl
reads_moves (LeafEntry true) Whole = refl
reads_moves (LeafEntry true) ThePage = refl
reads_moves (LeafEntry false) Whole = refl
reads_moves (LeafEntry false) ThePage = refl
reads_moves _ _ = refl

sees_owes : (c : Class) (v : View) (g : Grade) → spares g v ≡ false → clashes (sees c v) (owes c g) ≡ true
sees_owes (GuestWord true) Whole KeepsNothing h = refl
sees_owes (EpochCount true true) Whole KeepsNothing h = refl
sees_owes (EpochCount false true) Whole KeepsNothing h = refl
sees_owes (LeafEntry true) Whole KeepsNothing h = refl
sees_owes (LeafEntry true) ThePage KeepsNothing h = refl
sees_owes (LeafEntry true) TheRights KeepsNothing h = refl
sees_owes (LeafEntry false) Whole KeepsNothing h = refl
sees_owes (LeafEntry false) ThePage KeepsNothing h = refl
sees_owes (LeafEntry false) TheRights KeepsNothing h = refl
sees_owes _ _ _ h = cc

writes_owes : (c : Class) (f g : Grade) → clashes (writes c f) (owes c g) ≡ true
writes_owes (GuestWord true) KeepsNothing KeepsNothing = refl
writes_owes (EpochCount true true) KeepsNothing KeepsNothing = refl
writes_owes (EpochCount false true) KeepsNothing KeepsNothing = refl
writes_owes (LeafEntry true) KeepsNothing KeepsNothing = refl
writes_owes (LeafEntry true) KeepsPage KeepsNothing = refl
writes_owes (LeafEntry true) KeepsRights KeepsNothing = refl
writes_owes (LeafEntry false) KeepsNothing KeepsNothing = refl
writes_owes (LeafEntry false) KeepsPage KeepsNothing = refl
writes_owes (LeafEntry false) KeepsRights KeepsNothing = refl
writes_owes _ _ _ = refl

owes_owes : (c : Class) (f g : Grade) → clashes (owes c f) (owes c g) ≡ true
owes_owes (GuestWord true) KeepsNothing KeepsNothing = refl
owes_owes (EpochCount true true) KeepsNothing KeepsNothing = refl
owes_owes (EpochCount false true) KeepsNothing KeepsNothing = refl
owes_owes (LeafEntry true) KeepsNothing KeepsNothing = refl
owes_owes (LeafEntry true) KeepsPage KeepsNothing = refl
owes_owes (LeafEntry true) KeepsRights KeepsNothing = refl
owes_owes (LeafEntry false) KeepsNothing KeepsNothing = refl
owes_owes (LeafEntry false) KeepsPage KeepsNothing = refl
owes_owes (LeafEntry false) KeepsRights KeepsNothing = refl
owes_owes _ _ _ = refl

owes_moves : (c : Class) (g : Grade) → clashes (owes c g) (moves c) ≡ true
owes_moves (GuestWord true) KeepsNothing = refl
owes_moves (EpochCount true true) KeepsNothing = refl
owes_moves (EpochCount false true) KeepsNothing = refl
owes_moves (LeafEntry true) KeepsNothing = refl
owes_moves (LeafEntry false) KeepsNothing = refl
owes_moves _ _ = refl

tries_owes : (c : Class) (g : Grade) → clashes (tries c) (owes c g) ≡ true
tries_owes (GuestWord true) KeepsNothing = refl
tries_owes (EpochCount true true) KeepsNothing = refl
tries_owes (LeafEntry true) KeepsNothing = refl
tries_owes (LeafEntry false) KeepsNothing = refl
tries_owes _ _ = refl

tries_reads : (c : Class) (v : View) → clashes (tries c) (reads c v) ≡ true
tries_reads (GuestWord true) Whole = refl
tries_reads (EpochCount true true) Whole = refl
tries_reads (LeafEntry true) Whole = refl
tries_reads _ _ = refl

tries_writes : (c : Class) (g : Grade) → clashes (tries c) (writes c g) ≡ true
tries_writes (GuestWord true) KeepsNothing = refl
tries_writes (EpochCount true true) KeepsNothing = refl
tries_writes (LeafEntry true) KeepsNothing = refl
tries_writes _ _ = refl

tries_fills : (c : Class) → clashes (tries c) (fills c) ≡ true
tries_fills (GuestWord true) = refl
tries_fills (EpochCount true true) = refl
tries_fills (LeafEntry true) = refl
tries_fills _ = refl

tries_moves : (c : Class) → clashes (tries c) (moves c) ≡ true
tries_moves (GuestWord true) = refl
tries_moves (EpochCount true true) = refl
tries_moves (LeafEntry true) = refl
tries_moves _ = refl

fills_reads : (c : Class) (v : View) → clashes (fills c) (reads c v) ≡ true
fills_reads (GuestWord true) Whole = refl
fills_reads (EpochCount true true) Whole = refl
fills_reads (LeafEntry true) Whole = refl
fills_reads _ _ = refl

fills_sees : (c : Class) (v : View) → clashes (fills c) (sees c v) ≡ true
fills_sees (GuestWord true) Whole = refl
fills_sees (EpochCount true true) Whole = refl
fills_sees (LeafEntry true) Whole = refl
fills_sees _ _ = refl

fills_writes : (c : Class) (g : Grade) → clashes (fills c) (writes c g) ≡ true
fills_writes (GuestWord true) KeepsNothing = refl
fills_writes (EpochCount true true) KeepsNothing = refl
fills_writes (LeafEntry true) KeepsNothing = refl
fills_writes _ _ = refl

fills_owes : (c : Class) (g : Grade) → clashes (fills c) (owes c g) ≡ true
fills_owes (GuestWord true) KeepsNothing = refl
fills_owes (EpochCount true true) KeepsNothing = refl
fills_owes (LeafEntry true) KeepsNothing = refl
fills_owes _ _ = refl

fills_fills : (c : Class) → clashes (fills c) (fills c) ≡ true
fills_fills (GuestWord true) = refl
fills_fills (EpochCount true true) = refl
fills_fills (LeafEntry true) = refl
fills_fills _ = refl

fills_moves : (c : Class) → clashes (fills c) (moves c) ≡ true
fills_moves (GuestWord true) = refl
fills_moves (EpochCount true true) = refl
fills_moves (EpochCount false true) = refl
fills_moves (LeafEntry true) = refl
fills_moves _ = refl

pub rules_clash : RulesClash
rules_clash = record {
  reads_writes = reads_writes;
  reads_owes = reads_owes;
  reads_moves = reads_moves;
  sees_owes = sees_owes;
  writes_owes = writes_owes;
  owes_owes = owes_owes;
  owes_moves = owes_moves;
  tries_owes = tries_owes;
  tries_reads = tries_reads;
  tries_writes = tries_writes;
  tries_fills = tries_fills;
  tries_moves = tries_moves;
  fills_reads = fills_reads;
  fills_sees = fills_sees;
  fills_writes = fills_writes;
  fills_owes = fills_owes;
  fills_fills = fills_fills;
  fills_moves = fills_moves;
  swaps = refl;
  swaps_moves = refl;
}
