use Rattle.std.proofs.Common.{◌∙◌, ◌≡◌, map, string_bytes, inl, inr, true}
use Rattle.clap.specs.Words.{app_of, fault_of, is_simple, matches_of}
use Rattle.clap.specs.Faults.{is_free_app}
use Rattle.clap.specs.Simple.{built}
use Rattle.clap.proofs.WalkLemmas.{both}
use Rattle.command_files.proofs.FirstWords.{found_without, none_with}
use Rattle.command_files.proofs.lines.read_line.Goals as goal

pub returns-in-Ok : goal.returns-in-Ok
returns-in-Ok c =
    let line = app_of c.args.line in
    let simple : is_simple line ≡ true = (both (is_simple line) (is_free_app (built line)) c.requires).0 in
    found_without (fault_of line (map string_bytes c.args.words.now)) _ _ (c.in-Ok.ensures.kinds c.requires) (c.in-Ok.ensures.matches simple).0

pub returns : goal.returns
returns c =
    let words = map string_bytes c.args.words.now in
    elim (c.in-Err.ensures.kinds c.requires) [
      | inl memory ↦ absurd (c.in_default.not-OutOfMemory (c.kind.ensures ∙ memory))
      | inr among ↦ none_with (fault_of (app_of c.args.line) words) (matches_of (app_of c.args.line) words) _ among
    ]
