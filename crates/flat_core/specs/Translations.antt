-- A logical processor's cached translations: at most 16, oldest first.
use Rattle.std.specs.Prelude.{ℕ, ◌-◌, List, [], ◌∷◌, ◌++◌, length, drop, filter, Option, Some, None, Bool, true, not, ◌==◌, ◌&&◌, if◌then◌else◌}
use Rattle.td_words.specs.declared.names.Access.{Access}
use Rattle.td_words.specs.declared.names.Access.TheVariants.{Read, Write}
use Rattle.flat_core.specs.Processor.{Translation}

abbrev pub is_of_page : ℕ → ℕ → Translation → Bool
is_of_page t g c = c.tdr == t && c.gpa_page == g

abbrev pub allows_access : Access → Translation → Bool
allows_access Read c = true
allows_access Write c = c.may_write

-- the page that a cached translation gives an access to a TD's GPA page
abbrev pub look_up : List Translation → ℕ → ℕ → Access → Option ℕ
look_up [] t g access = None
look_up (c ∷ cs) t g access = if is_of_page t g c && allows_access access c then Some c.page else look_up cs t g access

-- A translation that is cached is the newest. An older one of its page is taken off first, and a seventeenth drops the
-- oldest.
abbrev pub cache : Translation → List Translation → List Translation
cache c cs = let others = filter (λ x. not (is_of_page c.tdr c.gpa_page x)) cs in drop (length others - 15) others ++ c ∷ []

-- the translations of other TDs
abbrev pub drop_td : ℕ → List Translation → List Translation
drop_td t cs = filter (λ c. not (c.tdr == t)) cs

-- VP.ENTER drops its TD's translations where the virtual processor is newly associated or its last entry was at another
-- epoch (Base Architecture, "TLB Tracking Sequence").
abbrev pub is_stale : Option ℕ → ℕ → ℕ → Bool
is_stale None last epoch = true
is_stale (Some lp) last epoch = not (last == epoch)

abbrev pub cache_at_entry : Option ℕ → ℕ → ℕ → ℕ → List Translation → List Translation
cache_at_entry associated last epoch t cs = if is_stale associated last epoch then drop_td t cs else cs
