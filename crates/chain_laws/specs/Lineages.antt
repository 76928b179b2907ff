-- Lineages: a TD with all that it was migrated to and from along a chain. At most one of them may run (TD Migration Architecture,
-- "Migration Session Control").
use Rattle.std.specs.Prelude.{◌≡◌, ℕ, suc, List, [], ◌∷◌, ◌++◌, true, ◌==◌}
use Rattle.std.specs.List.{list_any}
use Rattle.td_words.specs.declared.names.PageKind.TheVariants as kind
use Rattle.td_words.specs.NameNumber.{op_number}
use Rattle.flat_core.specs.World.{World}
use Rattle.flat_core.specs.Conditions.{running_ops}
use Rattle.runner_laws.specs.Runner.{IsExportedAs, IsImportedAs}
use Rattle.chain_laws.specs.Chains.{Chain, Running, world_of, chain_event, at_moment}

-- a TD, by the number of its module and by its TDR page
pub record Td : Type 0 where
  pub number : ℕ
  pub tdr : ℕ

-- A TD is there until its TDR page is reclaimed: here before each of these turns, and behind the last.
abbrev pub IsThere : World → ℕ → Type 0
IsThere w t = w.pages.kinds t ≡ kind.Tdr

abbrev pub IsThereThrough : Chain → List ℕ → Running → Td → Type 0
IsThereThrough c [] r x = IsThere (world_of r x.number) x.tdr
IsThereThrough c (i ∷ is) r x = IsThere (world_of r x.number) x.tdr × IsThereThrough c is (chain_event c r i) x

-- after some of these turns this was said of a TD and a session, and the TD is there since
pub record WasOnce (said : World → (t session : ℕ) → Type 0) (c : Chain) (turns : List ℕ) (x : Td) (session : ℕ) : Type 0 where
  pub before : List ℕ
  pub after : List ℕ
  pub parts : turns ≡ before ++ after
  pub then_so : said (world_of (at_moment c before) x.number) x.tdr session
  pub since : IsThereThrough c after (at_moment c before) x

abbrev pub WasExported : Chain → List ℕ → Td → ℕ → Type 0
WasExported c turns x session = WasOnce IsExportedAs c turns x session

abbrev pub WasImported : Chain → List ℕ → Td → ℕ → Type 0
WasImported c turns x session = WasOnce IsImportedAs c turns x session

-- two TDs of neighbouring modules are joined: the later has imported a session of the earlier
pub record AreJoined (c : Chain) (turns : List ℕ) (x y : Td) : Type 0 where
  pub next : y.number ≡ suc x.number
  pub session : ℕ
  pub earlier : WasExported c turns x session
  pub later : WasImported c turns y session

-- a TD, and all that are joined to it, directly or through others
pub data IsOfLineage (c : Chain) (turns : List ℕ) (x : Td) : Td → Type 0 where
  itself : (y : Td) → x ≡ y → IsOfLineage c turns x y
  goes_on : (y z : Td) → IsOfLineage c turns x y → AreJoined c turns y z → IsOfLineage c turns x z
  goes_back : (y z : Td) → IsOfLineage c turns x y → AreJoined c turns z y → IsOfLineage c turns x z

-- it is in RUNNABLE, LIVE_EXPORT or LIVE_IMPORT, in TD_TEARDOWN too
pub record MayRun (r : Running) (x : Td) : Type 0 where
  pub there : IsThere (world_of r x.number) x.tdr
  pub running : list_any (λ s. op_number s == op_number ((world_of r x.number).tds.ops x.tdr)) running_ops ≡ true

-- At every moment at most one TD of a lineage may run; so of a session's two TDs at most one may.
abbrev pub AtMostOneMayRun : Type 0
AtMostOneMayRun = (c : Chain) (turns : List ℕ) (x y : Td) → IsOfLineage c turns x y → let r = at_moment c turns in MayRun r x → MayRun r y → x ≡ y

abbrev pub AtMostOneOfTwo : Type 0
AtMostOneOfTwo = (c : Chain) (turns : List ℕ) (x y : Td) → AreJoined c turns x y → let r = at_moment c turns in MayRun r x → MayRun r y → ⊥
