-- Words that show a state in which a page was added show that it was measured, once its record was appended to what the TD's
-- hasher has measured.
use Rattle.std.proofs.Common.{◌≡◌, ℕ, ◌++◌, Some, refl}
use Rattle.std.proofs.lemmas.Bool.{eq-eqb}
use Rattle.mrtd_measure.specs.Records.{page_record}
use Rattle.td_words.specs.declared.names.OpState.TheVariants as op
use Rattle.td_words.specs.declared.machines.Machine.{Machine}
use Rattle.flat_core.specs.World.{World, put}
use Rattle.flat_core.specs.Conditions.{children}
use Rattle.flat_core.specs.Lawful.{Lawful}
use Rattle.flat_core.specs.MemRows.{add_page}
use Rattle.flat_core.specs.Event.{State}
use Rattle.word_rules.specs.Cells.{Shows, IsAs, built_hasher}
use Rattle.leaf_engine.specs.Changes.{Memory, changed_all}
use Rattle.leaf_parts.proofs.Begun.{IsTd}
use Rattle.leaf_parts.proofs.Told.{only-op}
use Rattle.leaf_parts.proofs.Aside.{untold}
use Rattle.leaf_parts.proofs.Hashers.{initialized, hasher-told, hashers-but}
use Rattle.sept_parts.specs.MapTrees.{private_mapping, map_changes}
use Rattle.sept_parts.proofs.Maps.{mapped}
use Rattle.mem_build.specs.PageAddTrees.{Addition, with_page, page_fills, page_changes}

module _ (m : Machine) (s : State) (mem : Memory) (t gpa p q table : ℕ) (sh : Shows m mem.words mem.slots s) (la : Lawful m s.world) (x : IsTd m s.world t initialized) where
  abbrev w : World
  w = s.world

  abbrev h : ℕ
  h = s.world.tds.hkids t

  abbrev addition : Addition
  addition = record { tdr = t; gpa = gpa; page = p; source = q; table = table; hkid = s.world.tds.hkids t; children = children s.world t }

  abbrev added : Memory
  added = changed_all (map_changes m.pages (private_mapping t gpa p) table (children s.world t)) (changed_all (page_fills addition) mem)

  abbrev after : Memory
  after = changed_all (page_changes m.pages addition) (changed_all (page_fills addition) mem)

  abbrev its : World
  its = mapped (private_mapping t gpa p) (put s.world.words p (s.world.words q)) s.world

  abbrev w' : World
  w' = (add_page m t gpa p q).act w

  building : w.tds.ops t ≡ op.Initialized
  building = only-op op.Initialized (w.tds.ops t) x.op

  record-added : with_page gpa (mem.slots h) ≡ Some (w.tds.measured t ++ page_record gpa)
  record-added = rw (hasher-told m w t mem.slots sh.hasher la x) refl

  its-slot : IsAs (built_hasher w' (Some t)) (after.slots h)
  its-slot = rw (x.configured, building, eq-eqb t t refl, eq-eqb h h refl) record-added

  -- no word tells what a TD's guest has in memory, or what is measured so far
  pub page-added-shown : Shows m added.words added.slots (record s { world = its }) → Shows m after.words after.slots (record s { world = w' })
  page-added-shown shown = record {
    word = untold m after.words (record s { world = its }) w'.tds.measured w'.hidden.memories shown.word;
    hasher = hashers-but m w w' t mem.slots after.slots la x.alive refl (λ u n. rw n refl) (λ k n. rw n refl) its-slot sh.hasher;
  }
