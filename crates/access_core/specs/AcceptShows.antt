-- The words that the acceptance of a PENDING page leaves show its act: the page holds zeros, and the entry is MAPPED.
use Rattle.std.proofs.Common.{◌≡◌, ℕ, ◌^◌, ◌<◌, true, ◌==◌, [], ◌∷◌, refl}
use Rattle.std.proofs.lemmas.Bool.{eq-eqb}
use Rattle.td_words.specs.declared.names.EntryState.TheVariants as entry
use Rattle.td_words.specs.declared.names.PageKind.TheVariants as kind
use Rattle.td_words.specs.declared.machines.Machine.{Machine}
use Rattle.td_words.specs.Packing.{Entry, entry_word}
use Rattle.td_words.specs.Place.{WordPlace}
use Rattle.td_words.specs.Place as place
use Rattle.flat_core.specs.World.{World, put}
use Rattle.flat_core.specs.Effects.{clear_page, set_entry, pass_operation, tell_words}
use Rattle.flat_core.specs.Guest.{accept_page}
use Rattle.flat_core.specs.Lawful.{Lawful, IsAlive, IsPageOf}
use Rattle.flat_core.specs.Tree.{number_at, entry_at}
use Rattle.flat_core.specs.Event.{State}
use Rattle.sept_walk.specs.SecureEpt.{index_at}
use Rattle.word_rules.specs.Cells.{Shows}
use Rattle.lock_words.specs.LockWords.{put_word}
use Rattle.leaf_engine.specs.Changes.{Memory, Clear, put_page, changed, changed_all}
use Rattle.leaf_engine.specs.Means.{IsAtOperation}
use Rattle.leaf_parts.proofs.Aside.{aside, back, words-but, all-kept, control-kept}
use Rattle.leaf_parts.proofs.Begun.{TwoControls}
use Rattle.sept_parts.specs.SeptPages.{HasEntry}
use Rattle.sept_parts.proofs.SeptPut.{entry-put}
use Rattle.sept_parts.proofs.Filled.{set-lawful}
use Rattle.access_core.specs.OperationTrees.{put_next}
use Rattle.access_core.specs.VpShows.{passed-shown}
use Rattle.access_core.specs.AcceptTrees.{map_entry}

module _ (m : Machine) (mem : Memory) (s : State) (t v gpa at : ℕ) (sh : Shows m mem.words mem.slots s) (la : Lawful m s.world) (alive : IsAlive s.world.pages s.world.tds t) (x : TwoControls m s.world t) (small : gpa < 2 ^ 47)
    (has : HasEntry m s.world t x.root at gpa 0) (reg : s.world.pages.kinds (entry_at s.world t 0 gpa).page ≡ kind.Reg) (vp_page : IsPageOf s.world.pages t v kind.Tdvpr) (inside : v < m.pages) (starts : IsAtOperation s.world v) where
  abbrev w : World
  w = s.world

  abbrev p : ℕ
  p = (entry_at w t 0 gpa).page

  abbrev mapped : Entry
  mapped = record { state = entry.Mapped; page = p; mark = 0 }

  -- the page holds zeros
  abbrev cleared : World
  cleared = clear_page p w

  abbrev zeros : WordPlace → ℕ
  zeros = put_page mem.words p (λ i. 0)

  page-cleared : Shows m zeros mem.slots (record s { world = cleared })
  page-cleared = record {
    word = back (words-but (aside p m mem.words s sh.word) (put w.words p (λ i. 0)) (λ q i o. rw o refl)) zeros (λ r. refl) (λ r. refl) (λ k. refl) (λ r i o. rw o refl) (λ i b. (let its : (p == p) ≡ true = eq-eqb p p refl in rw (reg, its) refl));
    hasher = sh.hasher;
  }

  -- then the entry is stored
  abbrev named : World
  named = set_entry t 0 (number_at 0 gpa) mapped cleared

  controls : TwoControls m cleared t
  controls = record {
    tdcs = x.tdcs;
    root = x.root;
    list = x.list;
    tdcs_page = record { kind = x.tdcs_page.kind; owner = x.tdcs_page.owner };
    root_page = record { kind = x.root_page.kind; owner = x.root_page.owner };
    differ = x.differ;
    tdcs_in = x.tdcs_in;
    root_in = x.root_in;
  }

  entry-shown : Shows m (put_word zeros (place.Word at (index_at 0 gpa)) (entry_word mapped)) mem.slots (record s { world = named })
  unfolding controls
  entry-shown =
      entry-put m (changed (Clear p) mem) (record s { world = cleared }) t page-cleared (set-lawful m w p (λ i. 0) la) (record { kind = alive.kind; life = alive.life }) controls gpa at 0 small (record { in_machine = has.in_machine; node = has.node }) mapped

  -- no word tells what the guest has in memory
  abbrev begun : World
  begun = accept_page true t gpa w

  begun-shown : Shows m (put_word zeros (place.Word at (index_at 0 gpa)) (entry_word mapped)) mem.slots (record s { world = begun })
  begun-shown = record {
    word = all-kept m (put_word zeros (place.Word at (index_at 0 gpa)) (entry_word mapped)) (record s { world = named }) begun entry-shown.word refl refl refl refl (λ q. record {
      words = λ i. refl;
      tdr = λ is i. refl;
      owned = λ h. record { stands = λ z. z; level = refl; number = refl; entries = λ l e. refl; vp = λ i. refl; stream = λ i. refl; control = λ is z. control-kept refl (λ l e. refl) (λ f i. refl) };
    });
    hasher = entry-shown.hasher;
  }

  -- and the position
  abbrev after : Memory
  after = changed_all (map_entry at (index_at 0 gpa) p ∷ put_next v (w.vps.positions v) ∷ []) (changed (Clear p) mem)

  pub accepted-shown : Shows m after.words after.slots (record s { world = tell_words [] (pass_operation v begun) })
  accepted-shown =
      let one = passed-shown m (put_word zeros (place.Word at (index_at 0 gpa)) (entry_word mapped)) mem.slots (record s { world = begun }) begun-shown t v alive.life (record { kind = vp_page.kind; owner = vp_page.owner }) inside starts in
      record { word = one.word; hasher = one.hasher }
