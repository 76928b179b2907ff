-- Leaves that were made up mean their rows.
use Rattle.std.proofs.Common.{ℕ, ◌<◌, List, [], ◌∷◌, refl, inl}
use Rattle.std.proofs.lemmas.Bool.{ltb-true}
use Rattle.td_words.specs.declared.names.Mode.TheVariants.{Exclusive}
use Rattle.flat_core.specs.World.{World, Made}
use Rattle.flat_core.specs.Processor.{OfPage}
use Rattle.flat_core.specs.Effects.{add_bundle, tell_words}
use Rattle.word_rules.specs.Guards.{Grip}
use Rattle.word_rules.specs.Permissions.{Respects}
use Rattle.word_rules.proofs.Conflicts.{respects-compose}
use Rattle.leaf_engine.specs.Means.{hold, grasp_of}
use Rattle.leaf_trials.specs.Trials.{EnteringMeans, MakingMeans, TellingMeans}

pub entering-means : EnteringMeans
entering-means p t v most = record {
  means = λ c at. (
    refl,
    λ e. refl,
    λ a. (
      refl,
      refl,
      record { in_machine = ltb-true v p.machine.pages a; at = refl; stands = tt; allowed = inl tt },
      (
        record {
          answers = record { reply_is = refl; cached_is = refl; enters_is = refl; notes_are = refl; tells_are = refl; bundles_are = refl };
          fills_allowed = tt;
          respects = respects-compose.same (hold c (record { lock = OfPage v; mode = Exclusive } ∷ [])) c.state.world;
          locks_stay = ((refl, λ x. x), tt);
          shows = at.shown;
        },
        tt,
      ),
    ),
  );
}

-- what leaves the machine is no word of it
made-respects : (g : Grip) (w : World) (b : Made) → Respects g w (add_bundle b w)
made-respects g w b = (let same = respects-compose.same g w in record { word = same.word; slot = same.slot; life = same.life })

told-respects : (g : Grip) (w : World) (xs : List ℕ) → Respects g w (tell_words xs w)
told-respects g w xs = (let same = respects-compose.same g w in record { word = same.word; slot = same.slot; life = same.life })

pub making-means : MakingMeans
making-means p b = record {
  means = λ c at. (
    record {
      answers = record { reply_is = refl; cached_is = refl; enters_is = refl; notes_are = refl; tells_are = refl; bundles_are = refl };
      fills_allowed = tt;
      respects = made-respects (hold c []) c.state.world b;
      locks_stay = tt;
      shows = record { word = at.shown.word; hasher = at.shown.hasher };
    },
    tt,
  );
}

pub telling-means : TellingMeans
telling-means p t v line gpa x = record {
  means = λ c at. (
    record {
      answers = record { reply_is = refl; cached_is = refl; enters_is = refl; notes_are = refl; tells_are = refl; bundles_are = refl };
      fills_allowed = tt;
      respects = told-respects (grasp_of c []) c.state.world (x ∷ []);
      locks_stay = tt;
      shows = record { word = at.shown.word; hasher = at.shown.hasher };
    },
    tt,
  );
}
