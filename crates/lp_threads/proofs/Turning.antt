-- One turn more.
use Rattle.std.proofs.Common.{◌≡◌, refl, sym, ◌∙◌, ap, subst, List, [], ◌∷◌, ◌++◌, append-nil, append_assoc}
use Rattle.step_core.specs.declared.items.Taken.{Taken}
use Rattle.leaf_engine.specs.declared.events.Event.{Event}
use Rattle.leaf_engine.specs.OwnLists.{Piece, Unmarked, Marked, Wordless, taken_in, joined}
use Rattle.trace_table.specs.Benches.{BenchDid}
use Rattle.trace_table.specs.Growing.{bench_did-more}
use Rattle.lp_threads.specs.declared.lanes.Lane.{Lane}
use Rattle.lp_threads.specs.Running.{TurnsLead, HasTurned}

taken-append : (ps qs : List Piece) → taken_in (ps ++ qs) ≡ taken_in ps ++ taken_in qs
taken-append [] qs = refl
taken-append (Unmarked x ∷ ps) qs = ap (λ (zs : List Taken). x ∷ zs) (taken-append ps qs)
taken-append (Marked x ∷ ps) qs = ap (λ (zs : List Taken). x ∷ zs) (taken-append ps qs)
taken-append (Wordless ∷ ps) qs = taken-append ps qs

joined-more : (pss : List (List Piece)) (ps : List Piece) → joined (pss ++ ps ∷ []) ≡ joined pss ++ ps
joined-more [] ps = append-nil ps
joined-more (xs ∷ pss) ps = ap (λ (zs : List Piece). xs ++ zs) (joined-more pss ps) ∙ sym (append_assoc xs (joined pss) ps)

pub taken-more : (pss : List (List Piece)) (ps : List Piece) → taken_in (joined (pss ++ ps ∷ [])) ≡ taken_in (joined pss) ++ taken_in ps
taken-more pss ps = ap taken_in (joined-more pss ps) ∙ taken-append (joined pss) ps

pub lead-more : {P : Type 0} (moves : P → Event → List Piece → P → Type 0) (p q r : P) (pss : List (List Piece)) (ps : List Piece) (e : Event) → TurnsLead moves p pss q → moves q e ps r → TurnsLead moves p (pss ++ ps ∷ []) r
lead-more {P} moves p q r [] ps e lead t = (e, (r, subst (λ (z : P). moves z e ps r) (sym lead) t, refl))
lead-more {P} moves p q r (xs ∷ pss) ps e lead t = (lead.0, (lead.1.0, lead.1.1, lead-more moves lead.1.0 q r pss ps e lead.1.2 t))

-- with a turn that was made on the lane's bench
pub turned-more : {P : Type 0} (moves : P → Event → List Piece → P → Type 0) (a b c : Lane P) (ps : List Piece) (e : Event) → HasTurned moves a b → c.lp ≡ b.lp → BenchDid b.bench (taken_in ps) c.bench → moves b.processor e ps c.processor → HasTurned moves a c
turned-more moves a b c ps e h number did t = record {
  number = number ∙ h.number;
  turns = h.turns ++ ps ∷ [];
  lead = lead-more moves a.processor b.processor c.processor h.turns ps e h.lead t;
  list = subst (λ (xs : List Taken). BenchDid a.bench xs c.bench) (sym (taken-more h.turns ps)) (bench_did-more a.bench b.bench c.bench (taken_in (joined h.turns)) (taken_in ps) h.list did);
}
