-- What is noted of a load, a save or a put.
use Rattle.std.specs.Prelude.{ℕ, List, [], ◌∷◌, ◌++◌, Result}
use Rattle.std.specs.Global.{Vec}
use Rattle.bundle_store.specs.declared.outside.LoadFault.{LoadFault}
use Rattle.bundle_store.specs.declared.outside.SaveFault.{SaveFault}
use Rattle.bundle_store.specs.declared.outside.PutFault.{PutFault}
use Rattle.bundle_store.specs.declared.history.Note.{Note}
use Rattle.bundle_store.specs.declared.history.Note.TheVariants as note
use Rattle.bundle_store.specs.declared.history.History.{History}

-- nothing so far
abbrev pub nothing_done : History
nothing_done = record { loads = []; saves = []; puts = [] }

-- a history, and then a load

abbrev pub and_load : History → List ℕ → Result (Vec ℕ) LoadFault → History
and_load h name answer = record h { loads = h.loads ++ record { name = name; answer = answer } ∷ [] }

-- or a save

abbrev pub and_save : History → List ℕ → List ℕ → Result (Unit {0}) SaveFault → History
and_save h name bytes answer = record h { saves = h.saves ++ record { name = name; bytes = bytes; answer = answer } ∷ [] }

-- or a put

abbrev pub and_put : History → List ℕ → Result (Unit {0}) PutFault → History
and_put h bytes answer = record h { puts = h.puts ++ record { bytes = bytes; answer = answer } ∷ [] }

-- a history, and then what the note says
abbrev pub noted : History → Note → History
noted h (note.Load name answer) = and_load h name.now answer.now
noted h (note.Save name bytes answer) = and_save h name.now bytes.now answer.now
noted h (note.Put bytes answer) = and_put h bytes.now answer.now
