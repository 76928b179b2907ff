use Rattle.std.proofs.Common.{rules, ◌∙◌, ◌<◌, ℕ, List, Ok, Err, Some, length, ap, sym, subst}
use Rattle.std.specs.List.{slice_range}
use Rattle.std.specs.List.Sorted.{IsSearchInRange, IsBinarySearchResult}
use Rattle.std.specs.Ordering.{nat_cmp}
use Rattle.std.proofs.lemmas.List.Sorted.{answers_always}
use Rattle.incoming.specs.declared.arrivals.Kept.{Kept}
use Rattle.incoming.specs.Opened.{clear_of}
use Rattle.incoming.specs.Arrivals.{SlotIncoming, at_slot, arrived}
use Rattle.incoming.proofs.Found.{found, none, searched}
use Rattle.incoming.proofs.arrivals.IncomingBundles.get.Goals as goal

pub returns-in-Ok : goal.returns-in-Ok
returns-in-Ok c =
    let ks : List Kept = c.self.inside.kept.items in
    let words : List ℕ = c.self.inside.words.items in
    let k : Kept = c.index-kept.result.now in
    let by-key = c.in-Ok.ensures.position (λ k. k.slot) (answers_always _ _ _ (λ f a r g called. search rules)) in
    let bound = subst (λ (l : List Kept). c.in-Ok.at < length l) c.deref.ensures.value c.in-Ok.ensures.bound in
    let position = subst (λ (l : List Kept). IsBinarySearchResult (λ k. nat_cmp k.slot c.args.slot) l (Ok c.in-Ok.at)) c.deref.ensures.value by-key in
    let hit = (searched ks c.self.invariant.1 c.args.slot (Ok c.in-Ok.at) bound position).at in
    ap (λ (ws : List ℕ). Some (record { header = clear_of k.header; opens = k.opens; payload = slice_range ws k.from k.to })) c.deref-in-Ok.ensures.value
    ∙ ap (λ (x : Kept). Some (arrived words x).bundle) c.index-kept.ensures
    ∙ sym (found words ks c.args.slot c.in-Ok.at k c.self.invariant.1 bound (hit.1 k))
    ∙ ap (λ (bs : List SlotIncoming). at_slot bs c.args.slot) c.self.view_is

pub returns-in-Err : goal.returns-in-Err
returns-in-Err c =
    let ks : List Kept = c.self.inside.kept.items in
    let i : ℕ = c.in-Err.field-0 in
    let by-key = c.in-Err.ensures.position (λ k. k.slot) (answers_always _ _ _ (λ f a r g called. search rules)) in
    let bound = subst (λ (l : List Kept). IsSearchInRange (Err i) (length l)) c.deref.ensures.value c.in-Err.ensures.bound in
    let position = subst (λ (l : List Kept). IsBinarySearchResult (λ k. nat_cmp k.slot c.args.slot) l (Err i)) c.deref.ensures.value by-key in
    let other = (searched ks c.self.invariant.1 c.args.slot (Err i) bound position).other in
    sym (none c.self.inside.words.items ks c.args.slot other)
    ∙ ap (λ (bs : List SlotIncoming). at_slot bs c.args.slot) c.self.view_is
