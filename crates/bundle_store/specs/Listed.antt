-- Calls that fail where they are listed.
use Rattle.std.specs.Prelude.{◌≡◌, ℕ, List, Bool, true, false, ◌==◌, Result, Ok, Err, if◌then◌else◌}
use Rattle.std.specs.List.{list_any}
use Rattle.std.specs.Global.{Vec}
use Rattle.bundle_store.specs.declared.outside.LoadFault.{LoadFault}
use Rattle.bundle_store.specs.declared.outside.LoadFault.TheVariants as load
use Rattle.bundle_store.specs.declared.outside.SaveFault.{SaveFault}
use Rattle.bundle_store.specs.declared.outside.SaveFault.TheVariants as save
use Rattle.bundle_store.specs.declared.outside.PutFault.{PutFault}
use Rattle.bundle_store.specs.declared.outside.PutFault.TheVariants as put
use Rattle.bundle_store.specs.declared.listed.MemFiles.{MemFiles}
use Rattle.bundle_store.specs.declared.listed.MemSink.{MemSink}
use Rattle.bundle_store.specs.Outside.{counted}
use Rattle.bundle_store.specs.Noted.{and_load, and_save, and_put}

-- the call of that number is to fail
abbrev pub is_listed : List ℕ → ℕ → Bool
is_listed failing call = list_any (λ n. n == call) failing

-- a call that is listed fails, and no other does
abbrev pub LoadsListed : Bool → Result (Vec ℕ) LoadFault → Type 0
LoadsListed true result = result ≡ Err load.Failed
LoadsListed false (Ok v) = Unit {0}
LoadsListed false (Err load.Absent) = Unit {0}
LoadsListed false (Err load.TooLong) = Unit {0}
LoadsListed false (Err load.Failed) = ⊥
LoadsListed false (Err load.OutOfMemory) = Unit {0}

abbrev pub SavesListed : Bool → Result (Unit {0}) SaveFault → Type 0
SavesListed true result = result ≡ Err save.Failed
SavesListed false (Ok t) = Unit {0}
SavesListed false (Err save.Failed) = ⊥
SavesListed false (Err save.OutOfMemory) = Unit {0}

abbrev pub PutsListed : Bool → Result (Unit {0}) PutFault → Type 0
PutsListed true result = result ≡ Err put.Failed
PutsListed false (Ok t) = Unit {0}
PutsListed false (Err put.Failed) = ⊥
PutsListed false (Err put.OutOfMemory) = Unit {0}

-- the files after a load: the call is counted and noted, and its fault is counted where it is listed
abbrev pub after_load : MemFiles → List ℕ → Result (Vec ℕ) LoadFault → MemFiles
after_load f name answer = record f {
  calls = counted f.calls;
  read_faults = if is_listed f.failing.items f.calls then counted f.read_faults else f.read_faults;
  history = and_load f.history name answer;
}

-- the same for a save, which may change files besides
abbrev pub after_save : MemFiles → List ℕ → List ℕ → Result (Unit {0}) SaveFault → MemFiles
after_save f name bytes answer = record f {
  calls = counted f.calls;
  write_faults = if is_listed f.failing.items f.calls then counted f.write_faults else f.write_faults;
  history = and_save f.history name bytes answer;
}

-- the output after a put, which may change its bytes besides
abbrev pub after_put : MemSink → List ℕ → Result (Unit {0}) PutFault → MemSink
after_put s bytes answer = record s {
  calls = counted s.calls;
  faults = if is_listed s.failing.items s.calls then counted s.faults else s.faults;
  history = and_put s.history bytes answer;
}
