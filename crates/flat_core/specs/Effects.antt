-- Words that acts are written in: each changes one thing of the world, and all else stays.
use Rattle.std.specs.Prelude.{ℕ, ◌+◌, ◌/◌, ◌%◌, List, [], ◌∷◌, ◌++◌, length, drop, Option, Some, None, option_map, Bool, true, false, ◌==◌, ◌&&◌, if◌then◌else◌}
use Rattle.sha2.specs.Sha512.{sha384}
use Rattle.td_words.specs.declared.names.PageKind.{PageKind}
use Rattle.td_words.specs.declared.names.PageKind.TheVariants as kind
use Rattle.td_words.specs.declared.names.LifeState.{LifeState}
use Rattle.td_words.specs.declared.names.LifeState.TheVariants as life
use Rattle.td_words.specs.declared.names.OpState.{OpState}
use Rattle.td_words.specs.declared.names.OpState.TheVariants as op
use Rattle.td_words.specs.declared.names.EntryState.{EntryState}
use Rattle.td_words.specs.declared.names.VcpuState.{VcpuState}
use Rattle.td_words.specs.declared.names.VcpuState.TheVariants as vcpu
use Rattle.td_words.specs.Packing.{Entry, Key, FlushedOf}
use Rattle.flat_core.specs.World.{World, Made, put, free_entry}
use Rattle.flat_core.specs.Digests.{digest_word}
use Rattle.flat_core.specs.Conditions.{same_kind}

-- v at (i, j)
abbrev pub put_in : {A : Type 0} → (ℕ → ℕ → A) → ℕ → ℕ → A → ℕ → ℕ → A
put_in f i j v a b = if a == i && b == j then v else f a b

abbrev pub set_word : ℕ → ℕ → ℕ → World → World
set_word p i v w = record w { words = put_in w.words p i v }

abbrev pub set_page : ℕ → (ℕ → ℕ) → World → World
set_page p ws w = record w { words = put w.words p ws }

abbrev pub clear_page : ℕ → World → World
clear_page p w = set_page p (λ i. 0) w

-- A page that is taken gets its kind and its owner, and BEPOCH 0. A secure EPT or private page is also the node of that
-- level and number.
abbrev pub take_node : ℕ → PageKind → ℕ → ℕ → ℕ → World → World
take_node p k t level number w = record w {
  pages = record {
    kinds = put w.pages.kinds p k;
    owners = put w.pages.owners p t;
    blocked = put w.pages.blocked p 0;
    levels = put w.pages.levels p level;
    numbers = put w.pages.numbers p number;
  };
}

abbrev pub take_page : ℕ → PageKind → ℕ → World → World
take_page p k t w = take_node p k t 0 0 w

-- A page that is given back is cleared and is the host's again.
abbrev pub give_back : ℕ → World → World
give_back p w = clear_page p (take_node p kind.Nda 0 0 0 w)

-- a block is noted at TD_EPOCH
abbrev pub block_page : ℕ → ℕ → World → World
block_page t p w = record w { pages = record (w.pages) { blocked = put w.pages.blocked p (w.tds.epochs t) } }

abbrev pub set_key : ℕ → Key → World → World
set_key h k w = record w { key_table = record (w.key_table) { keys = put w.key_table.keys h k } }

-- every flushed HKID is marked as written back
abbrev pub written_back : Key → Key
written_back (FlushedOf t b) = FlushedOf t true
written_back k = k

abbrev pub write_back : World → World
write_back w = record w { key_table = record (w.key_table) { keys = λ h. written_back (w.key_table.keys h) } }

abbrev pub set_life : ℕ → LifeState → World → World
set_life t s w = record w { tds = record (w.tds) { lives = put w.tds.lives t s } }

abbrev pub set_op : ℕ → OpState → World → World
set_op t s w = record w { tds = record (w.tds) { ops = put w.tds.ops t s } }

abbrev pub set_epoch : ℕ → ℕ → World → World
set_epoch t e w = record w { tds = record (w.tds) { epochs = put w.tds.epochs t e } }

abbrev pub set_entry : ℕ → ℕ → ℕ → Entry → World → World
set_entry t level number e w = record w { tds = record (w.tds) { entries = put w.tds.entries t (put_in (w.tds.entries t) level number e) } }

-- an entry gets another state for the page that it names; the page isn't exported, so there is no mark
abbrev pub set_state : ℕ → ℕ → ℕ → EntryState → World → World
set_state t level number s w = set_entry t level number (record { state = s; page = (w.tds.entries t level number).page; mark = 0 }) w

-- an entry of level 0 gets another state and mark for the page that it names
abbrev pub restate : (t number : ℕ) → EntryState → (mark : ℕ) → World → World
restate t number s mark w = set_entry t 0 number (record { state = s; page = (w.tds.entries t 0 number).page; mark = mark }) w

-- a host page becomes the one that an entry of a TD names: it is taken as the node there, and the entry gets that state
abbrev pub map_page : ℕ → PageKind → EntryState → (t level number : ℕ) → World → World
map_page p k s t level number w = set_entry t level number (record { state = s; page = p; mark = 0 }) (take_node p k t level number w)

-- the page that an entry of a TD names is given back, and the entry is FREE
abbrev pub unmap_page : (t level number : ℕ) → World → World
unmap_page t level number w = give_back (w.tds.entries t level number).page (set_entry t level number free_entry w)

-- a page becomes the TD's next TDCX page
abbrev pub add_control : ℕ → ℕ → World → World
add_control t p w = record w { tds = record (w.tds) { controls = put w.tds.controls t (w.tds.controls t ++ p ∷ []) } }

-- nothing is measured yet; records are measured; and MRTD is the digest of all that were
abbrev pub begin_measurement : ℕ → World → World
begin_measurement t w = record w { tds = record (w.tds) { measured = put w.tds.measured t [] } }

abbrev pub measure : ℕ → List ℕ → World → World
measure t records w = record w { tds = record (w.tds) { measured = put w.tds.measured t (w.tds.measured t ++ records) } }

abbrev pub end_measurement : ℕ → World → World
end_measurement t w = record w {
  tds = record (w.tds) { mrtds = put w.tds.mrtds t (digest_word (sha384 (w.tds.measured t))); mrtds_given = put w.tds.mrtds_given t None };
}

-- a page becomes the TDVPR page of the TD's next virtual processor
abbrev pub add_vp : ℕ → ℕ → World → World
add_vp t p w = record w {
  tds = record (w.tds) { vps = put w.tds.vps t (w.tds.vps t ++ p ∷ []) };
  vps = record {
    indexes = put w.vps.indexes p (length (w.tds.vps t));
    states = put w.vps.states p vcpu.Created;
    associated = put w.vps.associated p None;
    lasts = put w.vps.lasts p 0;
    positions = put w.vps.positions p 0;
    exported = put w.vps.exported p 0;
    entered = put w.vps.entered p None;
  };
  hidden = record (w.hidden) { registers = put w.hidden.registers p (λ r. 0) };
}

abbrev pub set_vp_state : ℕ → VcpuState → World → World
set_vp_state v s w = record w { vps = record (w.vps) { states = put w.vps.states v s } }

-- a TD that begins, with its HKID: nothing is left of one that had this TDR page before
abbrev pub new_td : ℕ → ℕ → World → World
new_td t h w = record w {
  tds = record {
    lives = put w.tds.lives t life.HkidAssigned;
    hkids = put w.tds.hkids t h;
    controls = put w.tds.controls t [];
    ops = put w.tds.ops t op.Uninitialized;
    epochs = put w.tds.epochs t 0;
    entries = put w.tds.entries t (λ l n. free_entry);
    vps = put w.tds.vps t [];
    vps_expected = put w.tds.vps_expected t 0;
    streams = put w.tds.streams t [];
    measured = put w.tds.measured t [];
    mrtds = put w.tds.mrtds t (λ i. 0);
    mrtds_given = put w.tds.mrtds_given t None;
    sessions = put w.tds.sessions t 0;
    mig_epochs = put w.tds.mig_epochs t 0;
    td_exported = put w.tds.td_exported t 0;
    vps_exported = put w.tds.vps_exported t 0;
    dirtied = put w.tds.dirtied t 0;
    unrestored = put w.tds.unrestored t 0;
  };
  hidden = record (w.hidden) { rtmrs = put w.hidden.rtmrs t (λ i. 0); memories = put w.hidden.memories t (λ g. None) };
}

-- What a guest's private page holds, as its guest knows it, is told by events alone: a page that is added, accepted or
-- imported begins it, a guest's store changes one word, a relocation keeps it, and a page that is removed or reclaimed ends it.
abbrev pub begin_memory : ℕ → ℕ → (ℕ → ℕ) → World → World
begin_memory t g ws w = record w { hidden = record (w.hidden) { memories = put_in w.hidden.memories t g (Some ws) } }

abbrev pub end_memory : ℕ → ℕ → World → World
end_memory t g w = record w { hidden = record (w.hidden) { memories = put_in w.hidden.memories t g None } }

-- where a page that is given back is a private page of the TD, its guest's memory there ends
abbrev pub memory_unless : Bool → Option (ℕ → ℕ) → Option (ℕ → ℕ)
memory_unless true m = None
memory_unless false m = m

abbrev pub end_memory_in : ℕ → ℕ → World → World
end_memory_in t p w = record w {
  hidden = record (w.hidden) {
    memories = put_in w.hidden.memories t (w.pages.numbers p) (memory_unless (same_kind (w.pages.kinds p) kind.Reg) (w.hidden.memories t (w.pages.numbers p)));
  };
}

abbrev pub stored_in : Option (ℕ → ℕ) → ℕ → ℕ → Option (ℕ → ℕ)
stored_in None i v = None
stored_in (Some ws) i v = Some (put ws i v)

abbrev pub store_memory : ℕ → ℕ → ℕ → ℕ → World → World
store_memory t g i v w = record w { hidden = record (w.hidden) { memories = put_in w.hidden.memories t g (stored_in (w.hidden.memories t g) i v) } }

abbrev pub set_register : ℕ → ℕ → ℕ → World → World
set_register v r x w = record w { hidden = record (w.hidden) { registers = put_in w.hidden.registers v r x } }

-- an RTMR of a TD gets six words
abbrev pub set_rtmr : (t index : ℕ) → (ℕ → ℕ) → World → World
set_rtmr t index ws w =
    record w { hidden = record (w.hidden) { rtmrs = put w.hidden.rtmrs t (λ n. if n / 6 == index then ws (n % 6) else w.hidden.rtmrs t n) } }

-- an operation was completed
abbrev pub pass_operation : ℕ → World → World
pass_operation v w = record w { vps = record (w.vps) { positions = put w.vps.positions v (w.vps.positions v + 1) } }

-- a virtual processor enters the guest on a logical processor, at an epoch
abbrev pub enter_guest : (me v epoch : ℕ) → World → World
enter_guest me v e w = record w {
  vps = record (w.vps) { associated = put w.vps.associated v (Some me); lasts = put w.vps.lasts v e; entered = put w.vps.entered v (Some e) };
}

-- its association ends
abbrev pub end_association : ℕ → World → World
end_association v w = record w { vps = record (w.vps) { associated = put w.vps.associated v None } }

-- a virtual processor leaves the guest: it is taken out of the count of its entry epoch
abbrev pub leave_guest : ℕ → World → World
leave_guest v w = record w { vps = record (w.vps) { entered = put w.vps.entered v None } }

-- the word that a guest tells: its register's, or the next one given
abbrev pub word_told : Option (List ℕ) → ℕ → ℕ
word_told None x = x
word_told (Some []) x = 0
word_told (Some (y ∷ ys)) x = y

-- words are told: those given are used up
abbrev pub tell_words : List ℕ → World → World
tell_words xs w = record w {
  outgoing = record { told = w.outgoing.told ++ xs; to_tell = option_map (drop (length xs)) w.outgoing.to_tell; bundles = w.outgoing.bundles };
}

-- a bundle is made
abbrev pub add_bundle : Made → World → World
add_bundle b w = record w { outgoing = record (w.outgoing) { bundles = w.outgoing.bundles ++ b ∷ [] } }
