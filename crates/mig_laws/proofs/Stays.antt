-- What stays of the TDs that are exported, where an act makes no bundle: as much as the laws of this crate ask.
use Rattle.std.proofs.Common.{◌≡◌, refl, sym, ◌∙◌, ap, subst, ℕ, ◌<◌, ◌≤◌, List, [], ◌∷◌, length, Option, Some, None, Bool, true, false, ◌==◌, nat_lt, arith}
use Rattle.std.specs.List.{list_all}
use Rattle.std.proofs.lemmas.Bool.{and_parts, ltb-true, lt-ltb}
use Rattle.td_words.specs.declared.names.LifeState.{LifeState}
use Rattle.td_words.specs.declared.names.OpState.{OpState}
use Rattle.td_words.specs.declared.names.OpState.TheVariants as op
use Rattle.td_words.specs.declared.names.EntryState.TheVariants as entry
use Rattle.td_words.specs.Packing.{Entry, is_exported}
use Rattle.flat_core.specs.World.{World, Pages, Made, put}
use Rattle.flat_core.specs.Tracking.{tracked, entry_epochs, is_tracked}
use Rattle.flat_core.specs.Sessions.{stream_page, stream_counter}
use Rattle.flat_core.specs.Exports.{is_dirty}
use Rattle.flat_core.specs.Lawful.{IsAlive, is_exporting}
use Rattle.flat_core.proofs.Tests.{by_test}
use Rattle.flat_core.proofs.Parts.{IsLive}
use Rattle.mig_laws.specs.Ivs.{IsExporting}

-- a block that is tracked stays so where it is noted no later, TD_EPOCH is no earlier, and who enters does so at TD_EPOCH

abbrev pub all_later : (blocked : ℕ) → List ℕ → Bool
all_later b es = list_all (λ e. nat_lt b e) es

lower_all : (a b : ℕ) (es : List ℕ) → a ≤ b → all_later b es ≡ true → all_later a es ≡ true
lower_all a b [] le h = refl
lower_all a b (e ∷ es) le h =
    let parts = and_parts (nat_lt b e) (all_later b es) h in
    let m : b < e = ltb-true b e parts.0 in
    rw (lt-ltb a e (omega (arith, m, le)), lower_all a b es le parts.1) refl

pub tracked_still : (b a e f : ℕ) (es : List ℕ) → a ≤ b → e ≤ f → tracked b e es ≡ true → tracked a f es ≡ true
tracked_still b a e f es le more h =
    let parts = and_parts (nat_lt b e) (all_later b es) h in
    let m : b < e = ltb-true b e parts.0 in
    rw (lt-ltb a f (omega (arith, m, le, more)), lower_all a b es le parts.1) refl

pub entered_now : (entered : ℕ → Option ℕ) (b v e : ℕ) (vs : List ℕ) → nat_lt b e ≡ true → all_later b (entry_epochs entered vs) ≡ true → all_later b (entry_epochs (put entered v (Some e)) vs) ≡ true
entered_now entered b v e [] m h = refl
entered_now entered b v e (u ∷ us) m h = by (entered_now entered b v e us m) (entered u) refl
  where
    by : (all_later b (entry_epochs entered us) ≡ true → all_later b (entry_epochs (put entered v (Some e)) us) ≡ true) → (x : Option ℕ) → entered u ≡ x → all_later b (entry_epochs (put entered v (Some e)) (u ∷ us)) ≡ true
    by later None at = by_test (u == v)
        (λ y. rw (y, m) (later (rw at at h)))
        (λ n. rw (n, at) (later (rw at at h)))
    by later (Some d) at =
        let both = and_parts (nat_lt b d) (all_later b (entry_epochs entered us)) (rw at at h) in
        by_test (u == v)
        (λ y. rw (y, m) (later both.1))
        (λ n. rw (n, at, both.0) (later both.1))

pub left_now : (entered : ℕ → Option ℕ) (b v : ℕ) (vs : List ℕ) → all_later b (entry_epochs entered vs) ≡ true → all_later b (entry_epochs (put entered v None) vs) ≡ true
left_now entered b v [] h = refl
left_now entered b v (u ∷ us) h = by (left_now entered b v us) (entered u) refl
  where
    by : (all_later b (entry_epochs entered us) ≡ true → all_later b (entry_epochs (put entered v None) us) ≡ true) → (x : Option ℕ) → entered u ≡ x → all_later b (entry_epochs (put entered v None) (u ∷ us)) ≡ true
    by later None at = by_test (u == v)
        (λ y. rw y (later (rw at at h)))
        (λ n. rw (n, at) (later (rw at at h)))
    by later (Some d) at =
        let both = and_parts (nat_lt b d) (all_later b (entry_epochs entered us)) (rw at at h) in
        by_test (u == v)
        (λ y. rw y (later both.1))
        (λ n. rw (n, at, both.0) (later both.1))

-- of a session that stands: it stood before, with the same streams, whose counters haven't fallen
pub record SessionStays (w v : World) (x : ℕ) : Type 0 where
  pub exporting : IsExporting w x
  pub live : v.tds.ops x ≡ op.LiveExport → w.tds.ops x ≡ op.LiveExport
  pub session : v.tds.sessions x ≡ w.tds.sessions x
  pub streams : v.tds.streams x ≡ w.tds.streams x
  pub counters : (k : ℕ) → k < length (w.tds.streams x) → stream_counter w x k ≤ v.streams.counters (stream_page w x k)

-- of a page: what is exported stays so, nothing that is dirty is clean, and what is clean has its memory
pub record PageStays (w v : World) (x n : ℕ) : Type 0 where
  pub exported : is_exported (w.tds.entries x 0 n).state ≡ true → is_exported (v.tds.entries x 0 n).state ≡ true
  pub clean : is_dirty (v.tds.entries x 0 n).state ≡ false → is_exported (w.tds.entries x 0 n).state ≡ true → (is_dirty (w.tds.entries x 0 n).state ≡ false) × (v.hidden.memories x n ≡ w.hidden.memories x n)
  pub tracked : (v.tds.entries x 0 n).state ≡ entry.ExportedBlockedW
      → ((w.tds.entries x 0 n).state ≡ entry.ExportedBlockedW) × (is_tracked w x (w.tds.entries x 0 n).page ≡ true → is_tracked v x (v.tds.entries x 0 n).page ≡ true)

pub record Stays (w v : World) (x : ℕ) : Type 0 where
  pub session : SessionStays w v x
  pub page : (n : ℕ) → PageStays w v x n

-- of the TDs whose exports stand afterwards
pub record IsBeside (w v : World) : Type 0 where
  pub bundles : v.outgoing.bundles ≡ w.outgoing.bundles
  pub last : v.key_table.last_exported ≡ w.key_table.last_exported
  pub each : (x : ℕ) → IsExporting v x → Stays w v x

-- where an entry is as it was
pub same_page : (w v : World) (x n : ℕ) → v.tds.entries x 0 n ≡ w.tds.entries x 0 n → v.hidden.memories x n ≡ w.hidden.memories x n
    → ((w.tds.entries x 0 n).state ≡ entry.ExportedBlockedW → is_tracked w x (w.tds.entries x 0 n).page ≡ true → is_tracked v x (w.tds.entries x 0 n).page ≡ true) → PageStays w v x n
same_page w v x n e m t = record {
  exported = λ h. ap (λ (z : Entry). is_exported z.state) e ∙ h;
  clean = λ d h. (ap (λ (z : Entry). is_dirty z.state) (sym e) ∙ d, m);
  tracked = λ s. (let was : (w.tds.entries x 0 n).state ≡ entry.ExportedBlockedW = ap (λ (z : Entry). z.state) (sym e) ∙ s in
      (was, λ k. subst (λ (z : Entry). is_tracked v x z.page ≡ true) (sym e) (t was k)));
}

-- what is said of one TD besides its entries and its guest's memory
pub record Own : Type 0 where
  pub session : ℕ
  pub streams : List ℕ
  pub epoch : ℕ
  pub vps : List ℕ

abbrev pub own : World → ℕ → Own
own w x = record { session = w.tds.sessions x; streams = w.tds.streams x; epoch = w.tds.epochs x; vps = w.tds.vps x }

pub session_stays : (w v : World) (x : ℕ) → IsExporting w x → (v.tds.ops x ≡ op.LiveExport → w.tds.ops x ≡ op.LiveExport) → own v x ≡ own w x
    → ((k : ℕ) → k < length (w.tds.streams x) → stream_counter w x k ≤ v.streams.counters (stream_page w x k)) → SessionStays w v x
session_stays w v x exporting live same counters = record {
  exporting = exporting;
  live = live;
  session = ap (λ (z : Own). z.session) same;
  streams = ap (λ (z : Own). z.streams) same;
  counters = counters;
}

pub tracks : (w v : World) (x q : ℕ) → own v x ≡ own w x → v.pages.blocked q ≤ w.pages.blocked q
    → ((b : ℕ) → b < w.tds.epochs x → all_later b (entry_epochs w.vps.entered (w.tds.vps x)) ≡ true → all_later b (entry_epochs v.vps.entered (w.tds.vps x)) ≡ true)
    → is_tracked w x q ≡ true → is_tracked v x q ≡ true
tracks w v x q same lower entered h =
    let parts = and_parts (nat_lt (w.pages.blocked q) (w.tds.epochs x)) (all_later (w.pages.blocked q) (entry_epochs w.vps.entered (w.tds.vps x))) h in
    let all = entered (w.pages.blocked q) (ltb-true _ _ parts.0) parts.1 in
    let now : tracked (w.pages.blocked q) (w.tds.epochs x) (entry_epochs v.vps.entered (w.tds.vps x)) ≡ true = rw (parts.0, all) refl in
    let still = tracked_still (w.pages.blocked q) (v.pages.blocked q) (w.tds.epochs x) (w.tds.epochs x) (entry_epochs v.vps.entered (w.tds.vps x)) lower (omega arith) now in
    subst (λ (z : Own). tracked (v.pages.blocked q) z.epoch (entry_epochs v.vps.entered z.vps) ≡ true) (sym same) still

-- the same are in guest
pub same_entered : (w v : World) (x : ℕ) → v.vps.entered ≡ w.vps.entered
    → (b : ℕ) → b < w.tds.epochs x → all_later b (entry_epochs w.vps.entered (w.tds.vps x)) ≡ true → all_later b (entry_epochs v.vps.entered (w.tds.vps x)) ≡ true
same_entered w v x same b m k = subst (λ (f : ℕ → Option ℕ). all_later b (entry_epochs f (w.tds.vps x)) ≡ true) (sym same) k

pub same_counters : (w v : World) (x : ℕ) → v.streams.counters ≡ w.streams.counters → (k : ℕ) → k < length (w.tds.streams x) → stream_counter w x k ≤ v.streams.counters (stream_page w x k)
same_counters w v x same k m = subst (λ (f : ℕ → ℕ). stream_counter w x k ≤ f (stream_page w x k)) (sym same) (omega arith)

-- where of a TD and its pages all is as it was, and its pages are noted no later
pub all_stays : (w v : World) (x : ℕ) → SessionStays w v x → own v x ≡ own w x
    → ((b : ℕ) → b < w.tds.epochs x → all_later b (entry_epochs w.vps.entered (w.tds.vps x)) ≡ true → all_later b (entry_epochs v.vps.entered (w.tds.vps x)) ≡ true)
    → ((n : ℕ) → (w.tds.entries x 0 n).state ≡ entry.ExportedBlockedW → v.pages.blocked (w.tds.entries x 0 n).page ≤ w.pages.blocked (w.tds.entries x 0 n).page)
    → ((n : ℕ) → v.tds.entries x 0 n ≡ w.tds.entries x 0 n) → ((n : ℕ) → v.hidden.memories x n ≡ w.hidden.memories x n) → Stays w v x
all_stays w v x session same entered lower entries memories = record {
  session = session;
  page = λ n. same_page w v x n (entries n) (memories n) (λ s. tracks w v x (w.tds.entries x 0 n).page same (lower n s) entered);
}

-- where nothing is asked of changes but op states, kinds and lives
pub record Shape : Type 0 where
  pub bundles : List Made
  pub last : ℕ
  pub owns : ℕ → Own
  pub counters : ℕ → ℕ
  pub memories : ℕ → ℕ → Option (ℕ → ℕ)
  pub entered : ℕ → Option ℕ

abbrev pub shape : World → Shape
shape w = record { bundles = w.outgoing.bundles; last = w.key_table.last_exported; owns = λ x. own w x; counters = w.streams.counters; memories = w.hidden.memories; entered = w.vps.entered }

abbrev pub GoesOn : World → World → ℕ → Type 0
GoesOn w v x = is_exporting (v.tds.ops x) ≡ true → (is_exporting (w.tds.ops x) ≡ true) × (v.tds.ops x ≡ op.LiveExport → w.tds.ops x ≡ op.LiveExport)

pub beside : (w v : World) → shape v ≡ shape w → ((x : ℕ) → GoesOn w v x) → ((x n : ℕ) → v.tds.entries x 0 n ≡ w.tds.entries x 0 n) → ((q : ℕ) → v.pages.blocked q ≤ w.pages.blocked q)
    → ((x : ℕ) → IsAlive v.pages v.tds x → IsAlive w.pages w.tds x) → IsBeside w v
beside w v same goes entries lower back = record {
  bundles = ap (λ (z : Shape). z.bundles) same;
  last = ap (λ (z : Shape). z.last) same;
  each = λ x a. (let g = goes x a.standing in
      let here : own v x ≡ own w x = ap (λ (z : Shape). z.owns x) same in
      all_stays w v x
      (session_stays w v x (record { alive = back x a.alive; standing = g.0 }) g.1 here (same_counters w v x (ap (λ (z : Shape). z.counters) same)))
      here (same_entered w v x (ap (λ (z : Shape). z.entered) same)) (λ n s. lower (w.tds.entries x 0 n).page) (entries x) (λ n. ap (λ (z : Shape). z.memories x n) same));
}

pub goes_same : (w v : World) → v.tds.ops ≡ w.tds.ops → (x : ℕ) → GoesOn w v x
goes_same w v same x e = (subst (λ (f : ℕ → OpState). is_exporting (f x) ≡ true) same e, λ l. ap (λ (f : ℕ → OpState). f x) (sym same) ∙ l)

-- where pages, lives and op states are as they were too
pub unmoved : (w v : World) → shape v ≡ shape w → v.tds.ops ≡ w.tds.ops → ((x n : ℕ) → v.tds.entries x 0 n ≡ w.tds.entries x 0 n) → v.pages ≡ w.pages → v.tds.lives ≡ w.tds.lives → IsBeside w v
unmoved w v same ops entries pages lives = beside w v same (goes_same w v ops) entries (λ q. subst (λ (z : Pages). z.blocked q ≤ w.pages.blocked q) (sym pages) (omega arith))
    (λ x a. record {
      kind = ap (λ (z : Pages). z.kinds x) (sym pages) ∙ a.kind;
      life = subst (λ (f : ℕ → LifeState). IsLive (f x)) lives a.life;
    })
