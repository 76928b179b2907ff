-- The keys of a chain: two for each link, forward and back. No IV is used twice under one of them (TD Migration Architecture,
-- "Migration Bundles"; SP 800-38D, section 8).
use Rattle.std.specs.Prelude.{◌≡◌, ◌≢◌, ℕ, suc, ◌+◌, ◌-◌, ◌*◌, ◌<◌, List, [], Bool, true, false, ◌==◌, if◌then◌else◌, All, AllPairs}
use Rattle.td_words.specs.declared.calls.Call.{Call}
use Rattle.td_words.specs.declared.calls.Call.TheVariants as call
use Rattle.flat_core.specs.World.{Made}
use Rattle.flat_core.specs.Run.{bundles_in}
use Rattle.flat_core.specs.Event.{calls_of}
use Rattle.flat_bundles.specs.Ended.{ended_bundles}
use Rattle.mig_laws.specs.Ivs.{is_forward}
use Rattle.bundle_texts.specs.Sealed.{iv_bytes}
use Rattle.chain_laws.specs.Chains.{Chain, Running, state_of, comes_in, at_moment}

-- A chain's ends: the first module begins no import, and the last one no export.
abbrev pub begins_export : Call → Bool
begins_export (call.ExportStateImmutable t slot) = true
begins_export _ = false

abbrev pub begins_import : Call → Bool
begins_import (call.ImportStateImmutable t slot) = true
begins_import _ = false

pub record AreAtEnds (c : Chain) : Type 0 where
  pub first : (p : ℕ) → All (λ x. begins_import x ≡ false) (calls_of (c.openings 0).calls p)
  pub last : (p : ℕ) → All (λ x. begins_export x ≡ false) (calls_of (c.openings (c.count - 1)).calls p)

-- Link i is that between module i and the next one. A module seals its bundles of types 0 to 5 under the link behind it, and its
-- tokens back under the link before it; the first and the last one have one link. Each key has a place among all of the chain, a
-- link's forward key before its backward key.
abbrev pub link_after : Chain → ℕ → ℕ
link_after c i = if suc i == c.count then i - 1 else i

abbrev pub link_before : ℕ → ℕ
link_before i = i - 1

abbrev pub forward_place : (link : ℕ) → ℕ
forward_place link = 2 * link

abbrev pub backward_place : (link : ℕ) → ℕ
backward_place link = 2 * link + 1

-- the place of the key that a bundle of module i is sealed with
abbrev pub key_place : Chain → (i : ℕ) → Made → ℕ
key_place c i b = if is_forward b then forward_place (link_after c i) else backward_place (link_before i)

-- No two bundles that are sealed with the key at one place are sealed with one IV: neither two of one module, nor of two modules,
-- which never use one key.
pub record UseIvsOnce (c : Chain) (r : Running) : Type 0 where
  pub own : (i : ℕ) → AllPairs (λ a b. key_place c i a ≡ key_place c i b → iv_bytes a.header ≢ iv_bytes b.header) (bundles_in (state_of r i))
  pub apart : (i j : ℕ) → i < j → j < c.count
      → All (λ a. All (λ b. key_place c i a ≢ key_place c j b) (bundles_in (state_of r j))) (bundles_in (state_of r i))

abbrev pub ChainsUseIvsOnce : Type 0
ChainsUseIvsOnce = (c : Chain) (turns : List ℕ) → AreAtEnds c → UseIvsOnce c (at_moment c turns)

-- In a pair each module takes all that the other has made, where the call has ended.
pub record IsPair (c : Chain) : Type 0 where
  pub count : c.count ≡ 2
  pub ends : AreAtEnds c
  pub none_behind : (p : ℕ) → calls_of (c.openings 2).calls p ≡ []

abbrev pub PairsTakeAll : Type 0
PairsTakeAll = (c : Chain) (turns : List ℕ) → IsPair c → let r = at_moment c turns in
    (comes_in c r.modules 0 ≡ ended_bundles (c.openings 1) (state_of r 1)) × (comes_in c r.modules 1 ≡ ended_bundles (c.openings 0) (state_of r 0))
