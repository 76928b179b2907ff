-- Two worlds: neither what is put nor what is sealed depends on private words, but by what guests told.
use Rattle.std.specs.Prelude.{◌≡◌, ℕ, List, Bool}
use Rattle.flat_core.specs.Opening.{Opening, Agree}
use Rattle.flat_core.specs.Run.{run, told_in, bundles_in}
use Rattle.flat_core.specs.HostText.{text_of, host_text}
use Rattle.flat_bundles.specs.Bundles.{BundlesAreOfLines}
use Rattle.isol_laws.specs.Worlds.{blind_run, public_bundles, BlindRunsPrintTheSame, BlindRunsMakeTheSameBundles, AgreeingRunsShowTheSame}
use Rattle.bundle_texts.specs.Ordered.{container_text}
use Rattle.image_laws.specs.Arriving.{ComeAlike, AlikeComeInAgreeing}
use Rattle.image_laws.specs.Covered.{covered_container, Hides, ContainersAreCovered, RunsShowTheSame}
use Rattle.script_text.specs.Seen.{ScriptSeen}
use Rattle.script_text.specs.Laws.{ScriptsAreInForm}
use Rattle.run_texts.specs.Sealing.{bundles_text}
use Rattle.command_files.specs.declared.inputs.KeyBytes.{KeyBytes}
use Rattle.command_files.specs.Commands.{CommandSeen, Replay, Run, Check}
use Rattle.script_runner.specs.Ending.{HandedOut, opening_by}
use Rattle.script_runner.specs.Brings.{sealed_by}

-- Two containers, the one under these keys and the other under those, are the same byte for byte but for tags and sealed texts: of
-- private payloads, and of each bundle whose key isn't the same. So slots, lengths and bytes 0 to 47 always are.
abbrev pub AreSameBytes : (keys those : KeyBytes) → (bytes others : List ℕ) → Type 0
AreSameBytes keys those bytes others = (hides : ℕ → Bool) → Hides keys.forward keys.backward those.forward those.backward hides
    → covered_container hides bytes ≡ covered_container hides others

-- Private words are the secret words, and the payloads of states and pages that came in and opened. A text is that of the run
-- with every private word 0, in which each word that is told is the next of those that the first run tells; the bundles that
-- they make have the same public part, and their containers the same bytes but for what is private, whatever keys the other is
-- sealed under. So it is with every run whose opening agrees on all that is public, as the headers of bundles and whether they
-- open, and which tells the same words: it may have other secret words, other keys, and another container, where each bundle has
-- as many bytes and the same ones up to 47, opens under its keys exactly where the first one does under its, and if its payload
-- isn't private to the same words.
pub record IsBlind (handed : HandedOut) (s : ScriptSeen) (order text bytes : List ℕ) : Type 0 where
  pub zeros : let o = opening_by handed s in text ≡ text_of (blind_run o order)
  pub bundles : let o = opening_by handed s in public_bundles (run o order) ≡ public_bundles (blind_run o order)
  pub container : (those : KeyBytes) → AreSameBytes handed.keys those bytes (container_text those.forward those.backward (bundles_in (blind_run (opening_by handed s) order)))
  pub others : let o = opening_by handed s in (q : Opening) → Agree o q → told_in (run o order) ≡ told_in (run q order)
      → (text ≡ host_text q order) × (public_bundles (run o order) ≡ public_bundles (run q order))
      × ((those : KeyBytes) → AreSameBytes handed.keys those bytes (bundles_text those.forward those.backward q order))
  pub worlds : (other : HandedOut) → ComeAlike handed.keys.forward handed.keys.backward other.keys.forward other.keys.backward handed.bundles other.bundles
      → told_in (run (opening_by handed s) order) ≡ told_in (run (opening_by other s) order)
      → (text ≡ host_text (opening_by other s) order) × AreSameBytes handed.keys other.keys bytes (sealed_by other s order)

-- the text of a replay or a run is so, and the container that it seals; check runs nothing
abbrev pub IsBlindRun : CommandSeen → ScriptSeen → HandedOut → (order text : List ℕ) → Type 0
IsBlindRun (Replay n) s handed order text = IsBlind handed s order text (sealed_by handed s order)
IsBlindRun (Run n) s handed order text = IsBlind handed s order text (sealed_by handed s order)
IsBlindRun (Check name) s handed order text = Unit {0}

-- the laws by which it is so
pub record BlindLaws : Type 0 where
  pub prints : BlindRunsPrintTheSame
  pub bundles : BlindRunsMakeTheSameBundles
  pub agreeing : AgreeingRunsShowTheSame
  pub bytes : ContainersAreCovered
  pub shown : RunsShowTheSame
  pub come : AlikeComeInAgreeing
  pub lines : BundlesAreOfLines
  pub forms : ScriptsAreInForm
