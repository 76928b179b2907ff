-- What stays of the TDs that are being imported, and of those that are UNINITIALIZED, where an act imports nothing.
use Rattle.std.proofs.Common.{◌≡◌, refl, sym, ◌∙◌, ap, subst, ℕ, zero, suc, ◌≤◌, List, [], ◌∷◌, length, map, Option, Some, None, true, false, ◌==◌}
use Rattle.std.specs.Prelude.{slice_get}
use Rattle.std.specs.List.{list_any}
use Rattle.std.proofs.lemmas.List.Elements.{All-weaker}
use Rattle.td_words.specs.declared.names.OpState.{OpState}
use Rattle.td_words.specs.declared.names.OpState.TheVariants as op
use Rattle.td_words.specs.declared.names.VcpuState.{VcpuState}
use Rattle.td_words.specs.declared.names.VcpuState.TheVariants as vcpu
use Rattle.td_words.specs.NameNumber.{op_number}
use Rattle.flat_core.specs.World.{World, Image, Made}
use Rattle.flat_core.specs.Lawful.{IsAlive}
use Rattle.flat_core.proofs.Tests.{by_test, same_self}
use Rattle.mig_laws.specs.Ivs.{is_filling, IsImporting}
use Rattle.mig_laws.specs.Source.{known_words}
use Rattle.mig_laws.specs.WellMade.{is_of}
use Rattle.mig_laws.specs.Imported.{is_imported, last_imported, AreImported}
use Rattle.mig_laws.specs.Image.{IsComplete}
use Rattle.mig_laws.specs.Imports.{counts_of, IsVpGiven, HasState, begins_epoch, ImportHolds, DestinationHolds}

-- what is said of one TD besides its virtual processors and its guest's memory
pub record Filled : Type 0 where
  pub session : ℕ
  pub epoch : ℕ
  pub streams : List ℕ
  pub mrtd : ℕ → ℕ
  pub expected : ℕ
  pub rtmrs : ℕ → ℕ

abbrev pub filled : World → ℕ → Filled
filled w x = record { session = w.tds.sessions x; epoch = w.tds.mig_epochs x; streams = w.tds.streams x; mrtd = w.tds.mrtds x; expected = w.tds.vps_expected x; rtmrs = w.hidden.rtmrs x }

-- and of a virtual processor
pub record VpState : Type 0 where
  pub state : VcpuState
  pub registers : ℕ → ℕ
  pub position : ℕ

abbrev pub vp_state : World → ℕ → VpState
vp_state w p = record { state = w.vps.states p; registers = w.hidden.registers p; position = w.vps.positions p }

-- of a TD that is being imported afterwards: it was so before, and has what it had. It may get further virtual processors, no
-- more than are expected; those that are READY stay as they are
pub record ImportStays (w v : World) (x : ℕ) : Type 0 where
  pub importing : IsImporting w x
  pub op : v.tds.ops x ≡ w.tds.ops x
  pub own : filled v x ≡ filled w x
  pub counts : counts_of v x ≡ counts_of w x
  pub memories : (n : ℕ) → v.hidden.memories x n ≡ w.hidden.memories x n
  pub places : (i p : ℕ) → slice_get (w.tds.vps x) i ≡ Some p → slice_get (v.tds.vps x) i ≡ Some p
  pub few : length (w.tds.vps x) ≤ w.tds.vps_expected x → length (v.tds.vps x) ≤ w.tds.vps_expected x
  pub vp : (p : ℕ) → list_any (λ q. q == p) (w.tds.vps x) ≡ true → w.vps.states p ≡ vcpu.Ready → vp_state v p ≡ vp_state w p

-- of one that is UNINITIALIZED afterwards: its guest knows nothing, or it was so before and its guest knows what it knew
pub data EmptyStays (w v : World) (x : ℕ) : Type 0 where
  new : ((n : ℕ) → v.hidden.memories x n ≡ None) → EmptyStays w v x
  old : IsAlive w.pages w.tds x → w.tds.ops x ≡ op.Uninitialized → ((n : ℕ) → v.hidden.memories x n ≡ w.hidden.memories x n) → EmptyStays w v x

pub record IsAtRest (w v : World) : Type 0 where
  pub given : v.hidden.given ≡ w.hidden.given
  pub each : (x : ℕ) → IsImporting v x → ImportStays w v x
  pub empty : (x : ℕ) → IsAlive v.pages v.tds x → v.tds.ops x ≡ op.Uninitialized → EmptyStays w v x

-- who has a place is among
pub among_at : (ps : List ℕ) (i p : ℕ) → slice_get ps i ≡ Some p → list_any (λ q. q == p) ps ≡ true
among_at [] i p e = cc
among_at (q ∷ ps) zero p e = let same : q ≡ p = cc in let self = same_self q in subst (λ (z : ℕ). list_any (λ r. r == z) (q ∷ ps) ≡ true) same (rw self refl)
among_at (q ∷ ps) (suc i) p e = by_test (q == p) (λ y. rw y refl) (λ y. rw y (among_at ps i p e))

-- so what is said of an import is said of it still
module _ (bundles : List Made) (w v : World) (x : ℕ) (k : ImportStays w v x) (h : ImportHolds bundles w x) where
  as_imported : (b : Made) → is_imported (v.tds.sessions x) (counts_of v x) b ≡ is_imported (w.tds.sessions x) (counts_of w x) b
  as_imported b j = is_imported (k.own j).session (k.counts j) b

  vp_stays : (b : Made) → IsVpGiven w x b → IsVpGiven v x b
  vp_stays b g =
      let same = k.vp g.vp (among_at (w.tds.vps x) b.header.index g.vp g.place) g.ready in
      record {
        vp = g.vp;
        place = k.places b.header.index g.vp g.place;
        ready = ap (λ (z : VpState). z.state) same ∙ g.ready;
        registers = ap (λ (z : VpState). z.registers) same ∙ g.registers;
        position = ap (λ (z : VpState). z.position) same ∙ g.position;
      }

  state_stays : (b : Made) → HasState w x b → HasState v x b
  state_stays b g = record {
    td = λ e. (let old = g.td e in (λ m. old.0 (sym k.op ∙ m), ap (λ (z : Filled). z.rtmrs) k.own ∙ old.1));
    vp = λ e. vp_stays b (g.vp e);
  }

  pub import_stays : ImportHolds bundles v x
  import_stays = record {
    have = subst (λ (z : Filled). AreImported z.session (counts_of v x) z.epoch bundles) (sym k.own) (subst (λ (c : List ℕ). AreImported (w.tds.sessions x) c (w.tds.mig_epochs x) bundles) (sym k.counts) h.have);
    tracked = λ first. subst (λ (z : Filled). list_any (begins_epoch z.session (counts_of v x) z.epoch) bundles ≡ true) (sym k.own)
        (subst (λ (c : List ℕ). list_any (begins_epoch (w.tds.sessions x) c (w.tds.mig_epochs x)) bundles ≡ true) (sym k.counts) (h.tracked (λ e. first (ap (λ (z : Filled). z.epoch) k.own ∙ e))));
    pages = λ n. (let known : known_words v x n ≡ known_words w x n = rw (k.memories n) refl in
        let last : last_imported (v.tds.sessions x) (counts_of v x) n bundles ≡ last_imported (w.tds.sessions x) (counts_of w x) n bundles = λ j. last_imported (k.own j).session (k.counts j) n bundles in
        known ∙ (h.pages n ∙ sym last));
    begun = record {
      before = h.begun.before;
      after = h.begun.after;
      first = h.begun.first;
      place = h.begun.place;
      of_session = subst (λ (z : Filled). is_of z.session h.begun.first ≡ true) (sym k.own) h.begun.of_session;
      kind = h.begun.kind;
      mrtd = ap (λ (z : Filled). z.mrtd) k.own ∙ h.begun.mrtd;
      expected = ap (λ (z : Filled). z.expected) k.own ∙ h.begun.expected;
    };
    states = All-weaker (λ b. is_imported (w.tds.sessions x) (counts_of w x) b ≡ true → HasState w x b) (λ b. is_imported (v.tds.sessions x) (counts_of v x) b ≡ true → HasState v x b)
        (λ b g e. state_stays b (g (sym (as_imported b) ∙ e))) bundles h.states;
    few = subst (λ (z : Filled). length (v.tds.vps x) ≤ z.expected) (sym k.own) (k.few h.few);
    complete = λ e. subst (λ (z : Filled). IsComplete z.session (counts_of v x) bundles) (sym k.own) (subst (λ (c : List ℕ). IsComplete (w.tds.sessions x) c bundles) (sym k.counts) (h.complete (sym k.op ∙ e)));
  }

pub empty_stays : (source w v : World) (x : ℕ) → DestinationHolds source w → EmptyStays w v x → (n : ℕ) → v.hidden.memories x n ≡ None
empty_stays source w v x h (new none) n = none n
empty_stays source w v x h (old alive is same) n = same n ∙ h.empty x alive is n

pub destination_rests : (source w v : World) → IsAtRest w v → DestinationHolds source w → DestinationHolds source v
destination_rests source w v r h = record {
  imports = λ x a. (let k = r.each x a in import_stays source.outgoing.bundles w v x k (h.imports x k.importing));
  empty = λ x a e. empty_stays source w v x h (r.empty x a e);
  given = λ s start e. h.given s start (ap (λ (f : ℕ → Option Image). f s) (sym r.given) ∙ e);
}

-- where a TD's virtual processors are the same
pub same_import : (w v : World) (x : ℕ) → IsImporting w x → v.tds.ops x ≡ w.tds.ops x → filled v x ≡ filled w x → counts_of v x ≡ counts_of w x → ((n : ℕ) → v.hidden.memories x n ≡ w.hidden.memories x n)
    → v.tds.vps x ≡ w.tds.vps x → ((p : ℕ) → list_any (λ q. q == p) (w.tds.vps x) ≡ true → vp_state v p ≡ vp_state w p) → ImportStays w v x
same_import w v x importing op own counts memories vps vp = record {
  importing = importing;
  op = op;
  own = own;
  counts = counts;
  memories = memories;
  places = λ i p e. subst (λ (ps : List ℕ). slice_get ps i ≡ Some p) (sym vps) e;
  few = λ le. subst (λ (ps : List ℕ). length ps ≤ w.tds.vps_expected x) (sym vps) le;
  vp = λ p e r. vp p e;
}

-- where nothing that is asked changes, of any TD
pub record Rest : Type 0 where
  pub given : ℕ → Option Image
  pub ops : ℕ → OpState
  pub fills : ℕ → Filled
  pub counters : ℕ → ℕ
  pub memories : ℕ → ℕ → Option (ℕ → ℕ)
  pub vps : ℕ → List ℕ
  pub vp_states : ℕ → VpState

abbrev pub rest : World → Rest
rest w = record { given = w.hidden.given; ops = w.tds.ops; fills = λ x. filled w x; counters = w.streams.counters; memories = w.hidden.memories; vps = w.tds.vps; vp_states = λ p. vp_state w p }

pub at_rest : (w v : World) → rest v ≡ rest w → ((x : ℕ) → IsAlive v.pages v.tds x → IsAlive w.pages w.tds x) → IsAtRest w v
at_rest w v same back = record {
  given = ap (λ (z : Rest). z.given) same;
  each = λ x a. (let op = ap (λ (z : Rest). z.ops x) same in
      same_import w v x (record { alive = back x a.alive; standing = ap is_filling (sym op) ∙ a.standing }) op (ap (λ (z : Rest). z.fills x) same) (counts x) (λ n. ap (λ (z : Rest). z.memories x n) same)
      (ap (λ (z : Rest). z.vps x) same) (λ p e. ap (λ (z : Rest). z.vp_states p) same));
  empty = λ x a e. old (back x a) (ap (λ (z : Rest). z.ops x) (sym same) ∙ e) (λ n. ap (λ (z : Rest). z.memories x n) same);
}
  where
    counts : (x : ℕ) → counts_of v x ≡ counts_of w x
    counts x j = map ((same j).counters) ((same j).fills x).streams

-- op states among which none of an import is
pub never_filling : (allowed : List OpState) (s : OpState)
    → (list_any (λ a. op_number a == op_number op.MemoryImport) allowed ≡ false) × (list_any (λ a. op_number a == op_number op.StateImport) allowed ≡ false) × (list_any (λ a. op_number a == op_number op.PostImport) allowed ≡ false)
    → list_any (λ a. op_number a == op_number s) allowed ≡ true → is_filling s ≡ true → ⊥
never_filling allowed op.MemoryImport none e x = let no : true ≡ false = sym e ∙ none.0 in cc
never_filling allowed op.StateImport none e x = let no : true ≡ false = sym e ∙ none.1 in cc
never_filling allowed op.PostImport none e x = let no : true ≡ false = sym e ∙ none.2 in cc
never_filling allowed _ none e x = cc
