-- A host page whose words are what they will show is taken as a node of a TD's secure EPT, and its TDR page counts it; and
-- nothing is mapped below an entry that is FREE.
use Rattle.std.proofs.Common.{◌≡◌, ℕ, suc, ◌+◌, ◌*◌, ◌/◌, ◌^◌, ◌<◌, ◌≤◌, true, false, ◌==◌, nat_lt, [], ◌∷◌, refl, sym, ◌∙◌, subst, arith}
use Rattle.std.specs.List.{list_any}
use Rattle.std.proofs.lemmas.Bool.{eq-eqb, eqb-true, and_parts}
use Rattle.td_words.specs.declared.names.EntryState.{EntryState}
use Rattle.td_words.specs.declared.names.EntryState.TheVariants as entry
use Rattle.td_words.specs.declared.names.PageKind.{PageKind}
use Rattle.td_words.specs.declared.names.PageKind.TheVariants as kind
use Rattle.td_words.specs.declared.machines.Machine.{Machine}
use Rattle.td_words.specs.Packing.{entry_word, is_lawful_entry}
use Rattle.td_words.specs.Place.{WordPlace, IsIn}
use Rattle.td_words.specs.Place as place
use Rattle.flat_core.specs.World.{World}
use Rattle.flat_core.specs.Conditions.{same_kind, is_host, children}
use Rattle.flat_core.specs.Effects.{take_node}
use Rattle.flat_core.specs.Lawful.{Lawful, LawfulPages, IsAlive, is_free}
use Rattle.flat_core.specs.Tree.{same_state}
use Rattle.flat_core.specs.Event.{State}
use Rattle.flat_core.proofs.Tests.{by_test, host_kind}
use Rattle.word_rules.specs.Cells.{IsAs, page_cell, lock_word}
use Rattle.leaf_parts.specs.Words.{raised}
use Rattle.leaf_parts.proofs.Aside.{AllShown, apart, aside, back, node_words, counted_words, taken-but}
use Rattle.sept_parts.proofs.SeptTold.{free-page}

-- nothing is below an entry that is FREE

pub is-free : (s : EntryState) → list_any (λ x. same_state x s) (entry.Free ∷ []) ≡ true → is_free s ≡ true
is-free entry.Free h = refl
is-free entry.Mapped h = cc
is-free entry.Blocked h = cc
is-free entry.Pending h = cc
is-free entry.PendingBlocked h = cc
is-free entry.NlMapped h = cc
is-free entry.NlBlocked h = cc
is-free entry.BlockedW h = cc
is-free entry.ExportedBlockedW h = cc
is-free entry.ExportedDirty h = cc
is-free entry.ExportedDirtyBlockedW h = cc

free-mark : (s : EntryState) (p mark : ℕ) → is_lawful_entry (record { state = s; page = p; mark = mark }) ≡ true → is_free s ≡ true → mark ≡ 0
free-mark entry.Free p mark h f = eqb-true mark 0 (and_parts (p == 0) _ (and_parts (nat_lt mark (2 ^ 32)) _ (and_parts (nat_lt p 1024) _ h).1).1).1
free-mark _ p mark h f = cc

free-word : (s : EntryState) (p mark : ℕ) → is_lawful_entry (record { state = s; page = p; mark = mark }) ≡ true → is_free s ≡ true → entry_word (record { state = s; page = p; mark = mark }) ≡ 0
free-word entry.Free p mark h f = (let none : p ≡ 0 = free-page entry.Free p mark h f in let old : mark ≡ 0 = free-mark entry.Free p mark h f in rw (none, old) refl)
free-word _ p mark h f = cc

above : (n i : ℕ) → i < 512 → (512 * n + i) / 512 ≡ n
above n i small = omega (arith, small)

pub below-free : (m : Machine) (w : World) (t l n i : ℕ) → m.pages ≤ 1024 → Lawful m w → IsAlive w.pages w.tds t → l < 3 → i < 512 → is_free (w.tds.entries t (suc l) n).state ≡ true → entry_word (w.tds.entries t l (512 * n + i)) ≡ 0
below-free m w t l n i limit la alive small in_page free =
    let e = w.tds.entries t l (512 * n + i) in
    by_test (is_free e.state)
    (λ y. free-word e.state e.page e.mark (la.tree.entry limit t l (512 * n + i)) y)
    (λ f. absurd (let up : is_free (w.tds.entries t (suc l) ((512 * n + i) / 512)).state ≡ false = la.tree.below t l (512 * n + i) small alive f in
    let no : is_free (w.tds.entries t (suc l) n).state ≡ false = subst (λ (k : ℕ). is_free (w.tds.entries t (suc l) k).state ≡ false) (above n i in_page) up in
    let both : true ≡ false = sym free ∙ no in cc))

-- A host page whose words are what the node's will be is taken, and counted.
pub node-taken : (m : Machine) (words : WordPlace → ℕ) (s : State) (t p level number : ℕ) (k : PageKind) → AllShown m words s → s.world.size ≡ m.pages → LawfulPages m.pages s.world.pages
    → s.world.pages.kinds t ≡ kind.Tdr → is_host s.world p ≡ true → same_kind k kind.Nda ≡ false → p < m.pages
    → ((i : ℕ) → i < 512 → IsAs (page_cell (take_node p k t level number s.world) (lock_word s.lps s.lp_count) t p k i) (words (place.Word p i)))
    → AllShown m (counted_words (node_words words p k t) t (raised m.pages (children s.world t))) (record s { world = take_node p k t level number s.world })
node-taken m words s t p level number k sh size lawful tdr host owned in_page new =
    let p-t : (p == t) ≡ false = apart s.world.pages.kinds p t kind.Nda kind.Tdr (host_kind (s.world.pages.kinds p) host) tdr (λ e. cc) in
    let its : (p == p) ≡ true = eq-eqb p p refl in
    back (taken-but t (aside p m words s sh) size lawful tdr k level number host owned in_page) (counted_words (node_words words p k t) t (raised m.pages (children s.world t))) (λ r. refl) (λ r. refl) (λ k. refl) (λ r i o. refl)
    (λ i b. rw (its, p-t) (new i b))
