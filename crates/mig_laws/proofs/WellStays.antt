-- What stays of a TD whose export stands, as much as keeps its session's bundles well made.
use Rattle.std.proofs.Common.{◌≡◌, ◌≢◌, refl, sym, ◌∙◌, ap, subst, ℕ, ◌<◌, ◌≤◌, List, length, true, ◌==◌, ◌&&◌, get_or, arith}
use Rattle.std.specs.List.{All, count_by}
use Rattle.std.proofs.lemmas.Bool.{eqb-true, and_parts}
use Rattle.std.proofs.lemmas.List.Elements.{All-weaker}
use Rattle.td_words.specs.declared.names.PageKind.{PageKind}
use Rattle.td_words.specs.declared.names.LifeState.{LifeState}
use Rattle.td_words.specs.declared.names.OpState.{OpState}
use Rattle.td_words.specs.declared.names.OpState.TheVariants.{PostExport}
use Rattle.td_words.specs.Packing.{Entry, is_exported}
use Rattle.flat_core.specs.World.{World, Made, put}
use Rattle.flat_core.specs.Effects.{put_in}
use Rattle.flat_core.specs.Sessions.{stream_page, stream_counter}
use Rattle.flat_core.specs.BundleRows.{start_epoch}
use Rattle.flat_core.specs.Lawful.{is_exporting}
use Rattle.flat_core.proofs.Tests.{by_test}
use Rattle.flat_core.proofs.Parts.{IsLive}
use Rattle.mig_laws.specs.Ivs.{IsExporting}
use Rattle.mig_laws.specs.WellMade.{is_on, AreWellMade, IsMarked, AgreesWith, SessionAgrees, WellHolds}
use Rattle.mig_laws.proofs.Stays.{Stays, IsBeside}
use Rattle.mig_laws.proofs.WellMade.{AgreesWithOwn}

abbrev pub HasRoom : World → ℕ → Type 0
HasRoom w x = w.tds.ops x ≢ PostExport → w.tds.mig_epochs x < start_epoch

-- its session stood before, with the same streams and counters, and no earlier migration epochs
pub record WellStays (w v : World) (x : ℕ) : Type 0 where
  pub exporting : IsExporting w x
  pub session : v.tds.sessions x ≡ w.tds.sessions x
  pub streams : v.tds.streams x ≡ w.tds.streams x
  pub counter : (k : ℕ) → k < length (w.tds.streams x) → v.streams.counters (stream_page w x k) ≡ stream_counter w x k
  pub epoch : w.tds.mig_epochs x ≤ v.tds.mig_epochs x
  pub mark : (n epoch : ℕ) → IsMarked w x n epoch → IsMarked v x n epoch
  pub room : HasRoom w x → HasRoom v x
  pub started : w.tds.ops x ≡ PostExport → v.tds.ops x ≡ PostExport

still_agrees : (w v : World) (x : ℕ) (b : Made) → WellStays w v x → AgreesWith w x b → AgreesWith v x b
still_agrees w v x b k h = record { epoch = omega (arith, h.epoch, k.epoch); page = λ e n i. k.mark n b.header.epoch (h.page e n i); started = λ e. k.started (h.started e) }

pub stays_well : (w v : World) (x : ℕ) → v.outgoing.bundles ≡ w.outgoing.bundles → WellStays w v x → SessionAgrees w x → SessionAgrees v x
stays_well w v x bundles k h = record {
  counter = λ j m.
      let m' : j < length (w.tds.streams x) = subst (λ (ps : List ℕ). j < length ps) k.streams m in
      ap (λ (ps : List ℕ). v.streams.counters (get_or ps j 0)) k.streams
      ∙ (k.counter j m' ∙ (h.counter j m'
      ∙ (ap (λ (bs : List Made). count_by (is_on (w.tds.sessions x) j) bs) (sym bundles) ∙ ap (λ (s : ℕ). count_by (is_on s j) v.outgoing.bundles) (sym k.session))));
  each = subst (λ (s : ℕ). All (AgreesWithOwn v x s) v.outgoing.bundles) (sym k.session) (subst (λ (bs : List Made). All (AgreesWithOwn v x (w.tds.sessions x)) bs) (sym bundles)
      (All-weaker (AgreesWithOwn w x (w.tds.sessions x)) (AgreesWithOwn v x (w.tds.sessions x)) (λ b f e. still_agrees w v x b k (f e)) w.outgoing.bundles h.each));
  room = k.room h.room;
}

-- where no bundle is made
pub well_beside : (w v : World) → v.outgoing.bundles ≡ w.outgoing.bundles → ((x : ℕ) → IsExporting v x → WellStays w v x) → WellHolds w → WellHolds v
well_beside w v bundles each h = record {
  made = subst AreWellMade (sym bundles) h.made;
  sessions = λ x a. (let k = each x a in stays_well w v x bundles k (h.sessions x k.exporting));
}

-- what is left to say of an act that leaves the TDs that are exported beside it
pub record NumbersStay (w v : World) (x : ℕ) : Type 0 where
  pub counter : (k : ℕ) → k < length (w.tds.streams x) → v.streams.counters (stream_page w x k) ≡ stream_counter w x k
  pub epoch : v.tds.mig_epochs x ≡ w.tds.mig_epochs x
  pub mark : (n : ℕ) → is_exported (w.tds.entries x 0 n).state ≡ true → (v.tds.entries x 0 n).mark ≡ (w.tds.entries x 0 n).mark
  pub started : w.tds.ops x ≡ PostExport → v.tds.ops x ≡ PostExport

numbers_stay : (w v : World) (x : ℕ) → Stays w v x → NumbersStay w v x → WellStays w v x
numbers_stay w v x k n = record {
  exporting = k.session.exporting;
  session = k.session.session;
  streams = k.session.streams;
  counter = n.counter;
  epoch = omega (arith, n.epoch);
  mark = λ i epoch m. (let mark = n.mark i m.exported in
      record { exported = (k.page i).exported m.exported; first = omega (arith, m.first, mark); last = omega (arith, m.last, mark, n.epoch) });
  room = λ room off. (let less = room (λ e. off (n.started e)) in omega (arith, less, n.epoch));
  started = n.started;
}

pub numbers_well : (w v : World) → IsBeside w v → ((x : ℕ) → IsExporting v x → NumbersStay w v x) → WellHolds w → WellHolds v
numbers_well w v b each h = well_beside w v b.bundles (λ x a. numbers_stay w v x (b.each x a) (each x a)) h

-- an entry that wasn't exported, or keeps its mark
pub marks : (w : World) (t level i : ℕ) (e : Entry) → (is_exported (w.tds.entries t level i).state ≡ true → e.mark ≡ (w.tds.entries t level i).mark)
    → (x n : ℕ) → is_exported (w.tds.entries x 0 n).state ≡ true → (put w.tds.entries t (put_in (w.tds.entries t) level i e) x 0 n).mark ≡ (w.tds.entries x 0 n).mark
marks w t level i e same x n exported = by_test (x == t)
    (λ y. by_test (0 == level && n == i)
    (λ z. let both = and_parts (0 == level) (n == i) z in rw (y, z) (at (eqb-true x t y) (eqb-true 0 level both.0) (eqb-true n i both.1)))
    (λ z. rw (y, z) (ap (λ (u : ℕ). (w.tds.entries u 0 n).mark) (sym (eqb-true x t y)))))
    (λ y. rw y refl)
  where
    at : x ≡ t → 0 ≡ level → n ≡ i → e.mark ≡ (w.tds.entries x 0 n).mark
    at p q r =
        let here : w.tds.entries x 0 n ≡ w.tds.entries t level i = λ j. w.tds.entries (p j) (q j) (r j) in
        same (ap (λ (z : Entry). is_exported z.state) (sym here) ∙ exported) ∙ ap (λ (z : Entry). z.mark) (sym here)

-- where all that is asked is as it was
pub record Seen : Type 0 where
  pub kinds : ℕ → PageKind
  pub lives : ℕ → LifeState
  pub ops : ℕ → OpState
  pub sessions : ℕ → ℕ
  pub streams : ℕ → List ℕ
  pub mig_epochs : ℕ → ℕ
  pub entries : ℕ → ℕ → ℕ → Entry
  pub counters : ℕ → ℕ
  pub bundles : List Made

abbrev pub seen : World → Seen
seen w = record {
  kinds = w.pages.kinds;
  lives = w.tds.lives;
  ops = w.tds.ops;
  sessions = w.tds.sessions;
  streams = w.tds.streams;
  mig_epochs = w.tds.mig_epochs;
  entries = w.tds.entries;
  counters = w.streams.counters;
  bundles = w.outgoing.bundles;
}

pub seen_exporting : (w v : World) → seen v ≡ seen w → (x : ℕ) → IsExporting w x → IsExporting v x
seen_exporting w v same x a = record {
  alive = record { kind = ap (λ (z : Seen). z.kinds x) same ∙ a.alive.kind; life = subst (λ (z : Seen). IsLive (z.lives x)) (sym same) a.alive.life };
  standing = ap (λ (z : Seen). is_exporting (z.ops x)) same ∙ a.standing;
}

pub seen_well : (w v : World) → seen v ≡ seen w → WellHolds w → WellHolds v
seen_well w v same h = well_beside w v (ap (λ (z : Seen). z.bundles) same)
    (λ x a.
    let ops = ap (λ (z : Seen). z.ops x) same in
    let epoch = ap (λ (z : Seen). z.mig_epochs x) same in
    record {
      exporting = seen_exporting v w (sym same) x a;
      session = ap (λ (z : Seen). z.sessions x) same;
      streams = ap (λ (z : Seen). z.streams x) same;
      counter = λ k m. ap (λ (z : Seen). z.counters (stream_page w x k)) same;
      epoch = omega (arith, epoch);
      mark = λ n e m.
          let entry = ap (λ (z : Seen). z.entries x 0 n) same in
          let mark = ap (λ (z : Entry). z.mark) entry in
          record { exported = ap (λ (z : Entry). is_exported z.state) entry ∙ m.exported; first = omega (arith, m.first, mark); last = omega (arith, m.last, mark, epoch) };
      room = λ room off. (let less = room (λ e. off (ops ∙ e)) in omega (arith, less, epoch));
      started = λ e. ops ∙ e;
    }) h
