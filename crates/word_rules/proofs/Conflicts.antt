-- No two processors whose grips are apart conflict at a word.
use Rattle.std.proofs.Common.{◌≡◌, ◌⊎◌, refl, subst, sym, ◌∙◌, inl, inr, ℕ, true}
use Rattle.std.specs.Prelude.{Option, Some, None}
use Rattle.td_words.specs.declared.names.LifeState.{LifeState}
use Rattle.flat_core.specs.Lawful.{key_owner}
use Rattle.word_rules.specs.Guards.{Grip, Apart, Rule, clashes}
use Rattle.word_rules.specs.Rules.{Class, KeepsNothing, reads, sees, writes, owes, fills, moves, tries}
use Rattle.word_rules.specs.Spots.{Spot, spot, slot_of, slot_spot, guard_at}
use Rattle.word_rules.specs.Permissions.{MayAt, WordsNeverConflict, ActsNeverConflict, RespectsCompose}
use Rattle.word_rules.proofs.Sound.{clashes-sound}
use Rattle.word_rules.proofs.Clash.{rules_clash}

at-spot : (g h : Grip) (s : Spot) (r t : Class → Rule) → Apart g h → clashes (r s.class) (t s.class) ≡ true → MayAt g s r → MayAt h s t → ⊥
at-spot g h s r t a e x y = clashes-sound g h (guard_at s) (r s.class) (t s.class) a e x y

abbrev swap : Class → Rule
swap c = writes c KeepsNothing

abbrev owed-swap : Class → Rule
owed-swap c = owes c KeepsNothing

-- a slot is free, or has a TD's hasher
swap-swap : (t : Option ℕ) → clashes (swap (slot_of t).class) (swap (slot_of t).class) ≡ true
swap-swap None = refl
swap-swap (Some t) = rules_clash.swaps

swap-moves : (t : Option ℕ) → clashes (swap (slot_of t).class) (moves (slot_of t).class) ≡ true
swap-moves None = refl
swap-moves (Some t) = rules_clash.swaps_moves

pub no-conflict : WordsNeverConflict
no-conflict g h w a = record {
  reads_writes = λ q v k e. at-spot g h (spot w q) (λ c. reads c v) (λ c. writes c k) a (rules_clash.reads_writes (spot w q).class v k e);
  reads_owes = λ q v k e. at-spot g h (spot w q) (λ c. reads c v) (λ c. owes c k) a (rules_clash.reads_owes (spot w q).class v k e);
  reads_moves = λ q v. at-spot g h (spot w q) (λ c. reads c v) moves a (rules_clash.reads_moves (spot w q).class v);
  sees_owes = λ q v k e. at-spot g h (spot w q) (λ c. sees c v) (λ c. owes c k) a (rules_clash.sees_owes (spot w q).class v k e);
  writes_owes = λ q j k. at-spot g h (spot w q) (λ c. writes c j) (λ c. owes c k) a (rules_clash.writes_owes (spot w q).class j k);
  owes_owes = λ q j k. at-spot g h (spot w q) (λ c. owes c j) (λ c. owes c k) a (rules_clash.owes_owes (spot w q).class j k);
  owes_moves = λ q k. at-spot g h (spot w q) (λ c. owes c k) moves a (rules_clash.owes_moves (spot w q).class k);
  tries_owes = λ q k. at-spot g h (spot w q) tries (λ c. owes c k) a (rules_clash.tries_owes (spot w q).class k);
  fills_reads = λ q v. at-spot g h (spot w q) fills (λ c. reads c v) a (rules_clash.fills_reads (spot w q).class v);
  fills_sees = λ q v. at-spot g h (spot w q) fills (λ c. sees c v) a (rules_clash.fills_sees (spot w q).class v);
  fills_writes = λ q k. at-spot g h (spot w q) fills (λ c. writes c k) a (rules_clash.fills_writes (spot w q).class k);
  fills_owes = λ q k. at-spot g h (spot w q) fills (λ c. owes c k) a (rules_clash.fills_owes (spot w q).class k);
  fills_fills = λ q. at-spot g h (spot w q) fills fills a (rules_clash.fills_fills (spot w q).class);
  fills_moves = λ q. at-spot g h (spot w q) fills moves a (rules_clash.fills_moves (spot w q).class);
  tries_reads = λ q v. at-spot g h (spot w q) tries (λ c. reads c v) a (rules_clash.tries_reads (spot w q).class v);
  tries_writes = λ q k. at-spot g h (spot w q) tries (λ c. writes c k) a (rules_clash.tries_writes (spot w q).class k);
  tries_fills = λ q. at-spot g h (spot w q) tries fills a (rules_clash.tries_fills (spot w q).class);
  tries_moves = λ q. at-spot g h (spot w q) tries moves a (rules_clash.tries_moves (spot w q).class);
  swaps = λ s. at-spot g h (slot_spot w s) swap swap a (swap-swap (key_owner (w.key_table.keys s)));
  swaps_owed = λ s. at-spot g h (slot_spot w s) swap owed-swap a (rules_clash.writes_owes (slot_spot w s).class KeepsNothing KeepsNothing);
  owed_swaps = λ s. at-spot g h (slot_spot w s) owed-swap owed-swap a (rules_clash.owes_owes (slot_spot w s).class KeepsNothing KeepsNothing);
  swaps_moves = λ s. at-spot g h (slot_spot w s) swap moves a (swap-moves (key_owner (w.key_table.keys s)));
  owed_swaps_moves = λ s. at-spot g h (slot_spot w s) owed-swap moves a (rules_clash.owes_moves (slot_spot w s).class KeepsNothing);
}

-- what is allowed stays so, where the spot stays or is moved by the other's act
kept : (g h : Grip) (s t : Spot) (r : Class → Rule) → Apart g h → clashes (r s.class) (moves s.class) ≡ true → (t ≡ s) ⊎ MayAt h s moves → MayAt g s r → MayAt g t r
kept g h s t r a c (inl e) x = subst (λ (z : Spot). MayAt g z r) (sym e) x
kept g h s t r a c (inr m) x = absurd (at-spot g h s r moves a c x m)

-- what another's act leaves to be stored doesn't meet it
later : (g h : Grip) (s t : Spot) (r u : Class → Rule) → Apart g h → clashes (r s.class) (moves s.class) ≡ true → clashes (r s.class) (u s.class) ≡ true → (t ≡ s) ⊎ MayAt h s moves → MayAt g s r → MayAt h t u → ⊥
later g h s t r u a c d (inl e) x o = at-spot g h s r u a d x (subst (λ (z : Spot). MayAt h z u) e o)
later g h s t r u a c d (inr m) x o = at-spot g h s r moves a c x m

pub no-later-conflict : ActsNeverConflict
no-later-conflict g h f f' a r = record {
  owes_kept = λ q k. kept g h (spot f q) (spot f' q) (λ c. owes c k) a (rules_clash.owes_moves (spot f q).class k) (r.word q);
  reads_kept = λ q v. kept g h (spot f q) (spot f' q) (λ c. reads c v) a (rules_clash.reads_moves (spot f q).class v) (r.word q);
  tries_kept = λ q. kept g h (spot f q) (spot f' q) tries a (rules_clash.tries_moves (spot f q).class) (r.word q);
  fills_kept = λ q. kept g h (spot f q) (spot f' q) fills a (rules_clash.fills_moves (spot f q).class) (r.word q);
  swaps_kept = λ s. kept g h (slot_spot f s) (slot_spot f' s) swap a (swap-moves (key_owner (f.key_table.keys s))) (r.slot s);
  owed_swaps_kept = λ s. kept g h (slot_spot f s) (slot_spot f' s) owed-swap a (rules_clash.owes_moves (slot_spot f s).class KeepsNothing) (r.slot s);
  reads_later = λ q v k n. later g h (spot f q) (spot f' q) (λ c. reads c v) (λ c. owes c k) a (rules_clash.reads_moves (spot f q).class v) (rules_clash.reads_owes (spot f q).class v k n) (r.word q);
  owes_later = λ q j k. later g h (spot f q) (spot f' q) (λ c. owes c j) (λ c. owes c k) a (rules_clash.owes_moves (spot f q).class j) (rules_clash.owes_owes (spot f q).class j k) (r.word q);
  tries_later = λ q k. later g h (spot f q) (spot f' q) tries (λ c. owes c k) a (rules_clash.tries_moves (spot f q).class) (rules_clash.tries_owes (spot f q).class k) (r.word q);
  fills_later = λ q k. later g h (spot f q) (spot f' q) fills (λ c. owes c k) a (rules_clash.fills_moves (spot f q).class) (rules_clash.fills_owes (spot f q).class k) (r.word q);
  swaps_later = λ s. later g h (slot_spot f s) (slot_spot f' s) swap owed-swap a (swap-moves (key_owner (f.key_table.keys s))) (rules_clash.writes_owes (slot_spot f s).class KeepsNothing KeepsNothing) (r.slot s);
  owed_swaps_later = λ s. later g h (slot_spot f s) (slot_spot f' s) owed-swap owed-swap a (rules_clash.owes_moves (slot_spot f s).class KeepsNothing) (rules_clash.owes_owes (slot_spot f s).class KeepsNothing KeepsNothing) (r.slot s);
}

moved-by : (g : Grip) (s t u : Spot) → (t ≡ s) ⊎ MayAt g s moves → (u ≡ t) ⊎ MayAt g t moves → (u ≡ s) ⊎ MayAt g s moves
moved-by g s t u (inl e) (inl d) = inl (d ∙ e)
moved-by g s t u (inl e) (inr m) = inr (subst (λ (z : Spot). MayAt g z moves) e m)
moved-by g s t u (inr m) b = inr m

lived-by : (s t u : LifeState) (P : Type 0) → (t ≡ s) ⊎ P → (u ≡ t) ⊎ P → (u ≡ s) ⊎ P
lived-by s t u P (inl e) (inl d) = inl (d ∙ e)
lived-by s t u P (inl e) (inr m) = inr m
lived-by s t u P (inr m) b = inr m

pub respects-compose : RespectsCompose
respects-compose = record {
  same = λ g w. record { word = λ q. inl refl; slot = λ h. inl refl; life = λ t. inl refl };
  both = λ g w v u a b. record {
    word = λ q. moved-by g (spot w q) (spot v q) (spot u q) (a.word q) (b.word q);
    slot = λ h. moved-by g (slot_spot w h) (slot_spot v h) (slot_spot u h) (a.slot h) (b.slot h);
    life = λ t. lived-by (w.tds.lives t) (v.tds.lives t) (u.tds.lives t) _ (a.life t) (b.life t);
  };
}
