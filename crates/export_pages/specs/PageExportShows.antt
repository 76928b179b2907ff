-- The words that the export of a page leaves show its act.
use Rattle.std.proofs.Common.{◌≡◌, ℕ, ◌+◌, ◌%◌, ◌^◌, ◌<◌, Bool, true, false, ◌==◌, if◌then◌else◌, Option, Some, List, refl, subst, arith}
use Rattle.std.proofs.lemmas.Bool.{eq-eqb}
use Rattle.td_words.specs.declared.names.PageKind.TheVariants as kind
use Rattle.td_words.specs.declared.names.EntryState.TheVariants as entry
use Rattle.td_words.specs.declared.names.LifeState.TheVariants as life
use Rattle.td_words.specs.declared.machines.Machine.{Machine}
use Rattle.td_words.specs.declared.places.TheConstants.{STREAM_CLEANED, STREAM_FIRST_EXPORTS}
use Rattle.td_words.specs.NameNumber.{life_number}
use Rattle.td_words.specs.Packing.{Entry, entry_word, is_exported}
use Rattle.td_words.specs.Place.{WordPlace}
use Rattle.td_words.specs.Place as place
use Rattle.flat_core.specs.World.{World, Streams, Made, put}
use Rattle.flat_core.specs.Effects.{restate, add_bundle}
use Rattle.flat_core.specs.Event.{State}
use Rattle.flat_core.specs.Lawful.{Lawful, IsAlive, IsPageOf}
use Rattle.flat_core.specs.Sessions.{stream_page, stream_counter, count_bundle, count_export}
use Rattle.flat_core.specs.Tree.{entry_at, number_at}
use Rattle.sept_walk.specs.SecureEpt.{index_at}
use Rattle.word_rules.specs.Lines.{in_lines}
use Rattle.word_rules.specs.Cells.{Shows, stream_lines}
use Rattle.lock_words.specs.LockWords.{put_word}
use Rattle.leaf_engine.specs.Changes.{Memory, Put, changed}
use Rattle.leaf_parts.proofs.Begun.{TwoControls}
use Rattle.sept_parts.specs.SeptPages.{HasEntry}
use Rattle.sept_parts.proofs.SeptPut.{entry-put}
use Rattle.stream_parts.proofs.Counted.{stream-stored, bundle-counted}
use Rattle.export_pages.specs.PageExportTrees.{counted_at}

-- the word of a stream that counts an entry: one of the two, and what it counts
abbrev pub counted_word : Bool → ℕ
counted_word again = if again then STREAM_CLEANED else STREAM_FIRST_EXPORTS

abbrev pub counted_of : Bool → Streams → (page : ℕ) → ℕ
counted_of again ss p = if again then ss.cleaned p else ss.first_exports p

abbrev pub counted_in : Bool → Streams → (page : ℕ) → Streams
counted_in again ss p = record ss {
  cleaned = if again then put ss.cleaned p (ss.cleaned p + 1) else ss.cleaned;
  first_exports = if again then ss.first_exports else put ss.first_exports p (ss.first_exports p + 1);
}

pub counted-line : (again : Bool) (w : World) (p : ℕ) → in_lines (stream_lines w p) (counted_word again) ≡ Some (counted_of again w.streams p)
counted-line true w p = refl
counted-line false w p = refl

-- it fits its word, with one more
pub counted-few : (again : Bool) (m : Machine) (w : World) (p : ℕ) → Lawful m w → counted_of again w.streams p < 2 ^ 36
counted-few true m w p la = (let made = la.streams.cleaned p in let few = la.streams.counter p in omega (arith, made, few))
counted-few false m w p la = (let made = la.streams.first_exports p in let few = la.streams.counter p in omega (arith, made, few))

module _ (m : Machine) (s : State) (words : WordPlace → ℕ) (slots : ℕ → Option (List ℕ)) (t p : ℕ) (sh : Shows m words slots s) (alive : (life_number (s.world.tds.lives t) == life_number life.Teardown) ≡ false)
    (its : IsPageOf s.world.pages t p kind.Migsc) (in_page : p < m.pages) where
  itself : (p == p) ≡ true
  itself = eq-eqb p p refl

  pub entry-counted : (again : Bool)
      → Shows m (put_word words (place.Word p (counted_word again)) (counted_of again s.world.streams p + 1)) slots (record s { world = record (s.world) { streams = counted_in again s.world.streams p } })
  entry-counted true =
      stream-stored m s words slots t p sh alive its in_page (counted_in true s.world.streams p) s.world.outgoing 1 (s.world.streams.cleaned p + 1) (rw itself refl) (λ i n. rw n refl) (λ q i o. rw o refl)
  entry-counted false =
      stream-stored m s words slots t p sh alive its in_page (counted_in false s.world.streams p) s.world.outgoing 2 (s.world.streams.first_exports p + 1) (rw itself refl) (λ i n. rw n refl) (λ q i o. rw o refl)

-- the entry is stored, the stream counts the bundle, and then the entry
module _ (m : Machine) (s : State) (mem : Memory) (t gpa at k : ℕ) (sh : Shows m mem.words mem.slots s) (la : Lawful m s.world) (alive : IsAlive s.world.pages s.world.tds t) (x : TwoControls m s.world t) (small : gpa < 2 ^ 47)
    (has : HasEntry m s.world t x.root at gpa 0) (its : IsPageOf s.world.pages t (stream_page s.world t k) kind.Migsc) (in_page : stream_page s.world t k < m.pages) (made : Made) where
  abbrev w : World
  w = s.world

  abbrev e : Entry
  e = entry_at s.world t 0 gpa

  abbrev p : ℕ
  p = stream_page s.world t k

  abbrev again : Bool
  again = is_exported (entry_at s.world t 0 gpa).state

  abbrev new : Entry
  new = record { state = entry.ExportedBlockedW; page = (entry_at s.world t 0 gpa).page; mark = s.world.tds.mig_epochs t }

  abbrev given : World
  given = restate t (number_at 0 gpa) entry.ExportedBlockedW (s.world.tds.mig_epochs t) s.world

  abbrev stored : Memory
  stored = changed (Put (place.Word at (index_at 0 gpa)) (entry_word new)) mem

  entry-shown : Shows m stored.words stored.slots (record s { world = given })
  entry-shown = entry-put m mem s t sh la alive x gpa at 0 small has new

  its-still : IsPageOf given.pages t p kind.Migsc
  its-still = record { kind = its.kind; owner = its.owner }

  abbrev bundled : World
  bundled = count_bundle t k (add_bundle made given)

  abbrev counted : Memory
  counted = changed (Put (place.Word p 0) (stream_counter s.world t k + 1)) stored

  bundle-shown : Shows m counted.words counted.slots (record s { world = bundled })
  bundle-shown = bundle-counted m (record s { world = given }) stored t k made entry-shown alive.life its-still in_page

  abbrev after : Memory
  after = changed (Put (place.Word p (counted_at (entry_at s.world t 0 gpa).state)) ((counted_of again s.world.streams p + 1) % 2 ^ 64)) counted

  abbrev counted-words : ℕ → WordPlace → ℕ
  counted-words n = put_word counted.words (place.Word p (counted_word again)) n

  fits : counted_of again s.world.streams p + 1 ≡ (counted_of again s.world.streams p + 1) % 2 ^ 64
  fits = (let few = counted-few again m s.world p la in omega (arith, few))

  pub page-shown : Shows m after.words after.slots (record s { world = count_export t k e.state bundled })
  page-shown = subst (λ (n : ℕ). Shows m (counted-words n) counted.slots (record s { world = count_export t k e.state bundled })) fits
      (entry-counted m (record s { world = bundled }) counted.words counted.slots t p bundle-shown alive.life (record { kind = its.kind; owner = its.owner }) in_page again)
