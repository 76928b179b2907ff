-- What every event keeps of a source, and what that says of runs.
use Rattle.std.proofs.Common.{◌≡◌, refl, sym, ◌∙◌, ap, ℕ, ◌+◌, List, length, Option, Some, option_map, true, false, get_or, arith}
use Rattle.std.proofs.lemmas.List.Elements.{All-nil}
use Rattle.td_words.specs.declared.names.Access.{Access}
use Rattle.td_words.specs.declared.names.EntryState.{EntryState}
use Rattle.td_words.specs.declared.names.EntryState.TheVariants as entry
use Rattle.td_words.specs.Packing.{is_exported}
use Rattle.flat_core.specs.World.{World, Made}
use Rattle.flat_core.specs.Opening.{Opening, Incoming}
use Rattle.flat_core.specs.Tree.{page_of_gpa}
use Rattle.flat_core.specs.Translations.{look_up}
use Rattle.flat_core.specs.Sessions.{payload_words}
use Rattle.flat_core.specs.Lawful.{IsAlive, Lawful, is_free}
use Rattle.flat_core.specs.Event.{State, start, event}
use Rattle.flat_core.specs.Laws.{reached, with_bundles, HoldsInRuns, holds_memory, memory_of, ArePagesKnown}
use Rattle.flat_core.specs.AccessLaw.{IsGuarded}
use Rattle.flat_core.proofs.Acts.{event_world}
use Rattle.flat_core.proofs.Induction.{in_runs}
use Rattle.flat_core.proofs.Memories.{memories_kept}
use Rattle.flat_laws.proofs.Unreached.{closed-is-not-accessed}
use Rattle.flat_core.specs.Run.{bundles_in}
use Rattle.mig_laws.specs.Ivs.{is_forward, sealed_with, iv_of, HaveOwnIvs, AreSealedOnce, FitsIv, NoIvComesTwice}
use Rattle.mig_laws.specs.Source.{IsSent, SourceHolds, SourceIsKept, HoldsPayload, EveryPageHoldsItsPayload, EverySentIsTracked, NoStoreReachesSent}
use Rattle.mig_laws.proofs.Ivs.{IsGiven, IsOwnCounted}
use Rattle.mig_laws.proofs.Aborts.{operation_aborts, reach_aborts, left_aborts, start_aborts}
use Rattle.mig_laws.proofs.Sent.{beside_source, row-source}
use Rattle.mig_laws.proofs.Guests.{operation_beside, left_beside, reached_beside, unchanged_sent, never_stored}

module _ (o : Opening) (bundles : ℕ → Option Incoming) (s : State) (p : ℕ) (all : IsGuarded o s) (known : ArePagesKnown s.world) (h : SourceHolds s.world) where
  abbrev q : Opening
  q = with_bundles o bundles

  abbrev w : World
  w = s.world

  event_source : SourceHolds (event q s p).world
  event_source =
      let l : Lawful q.machine w = all.timely.lawful in
      event_world q s p SourceHolds h
      (λ c cs line none ps. row-source q p w l known h c ps)
      (λ c cs g op row i is ps. beside_source q p w l known h _ (operation_beside q g.tdr g.vp (length (s.lps p).replies + 1) op row w is)
      (operation_aborts q g.tdr g.vp (length (s.lps p).replies + 1) op row w is h.aborts))
      (λ c cs g op access r gpa page i is found. beside_source q p w l known h _
      (reached_beside g.tdr g.vp access r gpa page w (λ writes. never_stored o s p all h.tracked g gpa page i.guest (ap (λ (a : Access). look_up (s.lps p).cached g.tdr (page_of_gpa gpa) a) (sym writes) ∙ found)))
      (reach_aborts g.tdr g.vp access r gpa page w h.aborts))
      (λ c cs g i. beside_source q p w l known h _ (left_beside g.vp w) (left_aborts g.vp w h.aborts))

start_source : (o : Opening) (ws : Option (List ℕ)) → SourceHolds (start o ws).world
start_source o ws = record {
  ivs = record {
    sealed = record { apart = λ i j d lt within. absurd (omega (arith, within)); fit = All-nil FitsIv };
    given = All-nil (IsGiven (start o ws).world);
    session = λ t a. cc;
    one = λ t u a b same. absurd (let no : false ≡ true = a.standing in cc);
    counted = λ t a. All-nil (IsOwnCounted (start o ws).world t);
  };
  aborts = start_aborts o ws;
  sent = λ t n payload a e. cc;
  tracked = λ t n a live s. cc;
}

pub source_kept : SourceIsKept
source_kept = record {
  start = λ o ws. (memories_kept.start o ws, start_source o ws);
  event = λ o bundles s p h. (memories_kept.event o bundles s p h.0, event_source o bundles s p h.0.0 h.0.1 h.1);
}

pub always_source : HoldsInRuns (λ o s. (IsGuarded o s × ArePagesKnown s.world) × SourceHolds s.world)
always_source = in_runs (λ o s. (IsGuarded o s × ArePagesKnown s.world) × SourceHolds s.world) source_kept

-- where the three fit their bytes, one IV is one of each
one_each : (a b : Made) → FitsIv a → FitsIv b → is_forward a ≡ is_forward b → iv_of a ≡ iv_of b → sealed_with a ≡ sealed_with b
one_each a b f g key same =
    let sa = f.stream in let sb = g.stream in let na = f.session in let nb = g.session in
    let stream : a.header.stream ≡ b.header.stream = omega (arith, sa, sb, na, nb, same) in
    let session : a.header.session ≡ b.header.session = omega (arith, sa, sb, na, nb, same) in
    let iv : a.header.iv ≡ b.header.iv = omega (arith, sa, sb, na, nb, same) in
    λ j. record { forward = key j; stream = stream j; session = session j; iv = iv j }

pub own_ivs : (bundles : List Made) → AreSealedOnce bundles → HaveOwnIvs bundles
own_ivs bundles h i j d less within key same =
    h.apart i j d less within (one_each (get_or bundles i d) (get_or bundles j d) (h.fit i d (omega (arith, less, within))) (h.fit j d within) key same)

pub no_iv_comes_twice : NoIvComesTwice
no_iv_comes_twice o ws schedule = let h = (always_source o ws schedule).1.ivs.sealed in (h, own_ivs (bundles_in (reached o ws schedule)) h)

-- what the page holds is what its guest knows
exported_holds : (s : EntryState) → is_exported s ≡ true → holds_memory s ≡ true
exported_holds entry.ExportedBlockedW e = refl
exported_holds entry.ExportedDirty e = refl
exported_holds entry.ExportedDirtyBlockedW e = refl
exported_holds _ e = cc

holds_payload : (w : World) → ArePagesKnown w → (t n : ℕ) (payload : List ℕ) → IsAlive w.pages w.tds t → IsSent w t n payload → HoldsPayload w t n payload
holds_payload w known t n payload alive s = record {
  sent = s;
  words = λ d.
      let has : memory_of (w.tds.entries t 0 n) w.words ≡ Some (w.words (w.tds.entries t 0 n).page) = (let held = exported_holds (w.tds.entries t 0 n).state s.exported in rw held refl) in
      let same : Some (payload_words (w.words (w.tds.entries t 0 n).page) 512) ≡ Some payload = ap (option_map (λ words. payload_words words 512)) (sym (known t n alive ∙ has)) ∙ s.known d in
      cc;
}

pub every_page_holds : EveryPageHoldsItsPayload
every_page_holds o ws schedule t n payload a e =
    let all = always_source o ws schedule in
    holds_payload (reached o ws schedule).world all.0.1 t n payload a.alive (all.1.sent t n payload a e)

pub every_sent_tracked : EverySentIsTracked
every_sent_tracked o ws schedule = (always_source o ws schedule).1.tracked

pub no_store_reaches : NoStoreReachesSent
no_store_reaches o ws schedule t n p u v r gpa alive live s is =
    let w : World = (reached o ws schedule).world in
    (closed-is-not-accessed o ws schedule t n alive (ap is_free s)).stored p u v r gpa (unchanged_sent w t n live s (every_sent_tracked o ws schedule t n alive live s)) is
