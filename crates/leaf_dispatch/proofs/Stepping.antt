-- What becomes of a guest by a reply.
use Rattle.std.proofs.Common.{◌≡◌, ◌∙◌, ℕ, zero, suc, Bool, false, refl, ap}
use Rattle.td_words.specs.declared.names.Access.{Access}
use Rattle.td_words.specs.declared.replies.Outcome.TheVariants.{EptViolation}
use Rattle.td_words.specs.declared.replies.Value.TheVariants as value
use Rattle.td_words.specs.declared.replies.Reply.{Reply}
use Rattle.td_words.specs.declared.replies.Reply.TheVariants.{Done}
use Rattle.leaf_engine.specs.Guests.{WordGuest, is_right, leaving_with, walked, loaded}

not-walked : (access : Access) (gpa level x : ℕ) (g : WordGuest) → walked access gpa level x false g ≡ leaving_with (EptViolation gpa access) g
not-walked access gpa zero x g = refl
not-walked access gpa (suc level) x g = refl

-- an entry that doesn't let a walk go on
pub not-loaded : (access : Access) (gpa level x : ℕ) (r : Reply) (g : WordGuest) → r ≡ Done (value.Number x) → is_right access level x ≡ false → loaded access gpa level r g ≡ leaving_with (EptViolation gpa access) g
not-loaded access gpa level x r g is wrong =
    ap (λ (z : Reply). loaded access gpa level z g) is ∙ (ap (λ (b : Bool). walked access gpa level x b g) wrong ∙ not-walked access gpa level x g)
