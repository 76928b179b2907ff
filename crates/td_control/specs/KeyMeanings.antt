-- The leaf that configures a TD's keys means its row.
use Rattle.std.proofs.Common.{◌≡◌, ℕ, ◌<◌, ◌==◌, nat_lt, List, [], ◌∷◌, Option, Some, None, refl, ap, sym, ◌∙◌, subst, inl, arith}
use Rattle.std.proofs.lemmas.Bool.{eq-eqb, eqb-true, ltb-true}
use Rattle.td_words.specs.declared.names.PageKind.TheVariants as kind
use Rattle.td_words.specs.declared.names.LifeState.TheVariants as life
use Rattle.td_words.specs.declared.names.Mode.TheVariants.{Exclusive}
use Rattle.td_words.specs.declared.machines.Machine.{Machine}
use Rattle.td_words.specs.declared.calls.Call.TheVariants as call
use Rattle.td_words.specs.declared.places.TheConstants.{TDR_LIFE}
use Rattle.td_words.specs.declared.refusals.Status.TheVariants.{OperandInvalid}
use Rattle.td_words.specs.declared.replies.Value.TheVariants as value
use Rattle.td_words.specs.declared.replies.Reply.TheVariants.{Done}
use Rattle.td_words.specs.NameNumber.{life_number}
use Rattle.td_words.specs.Place.{WordPlace, IsIn}
use Rattle.td_words.specs.Place as place
use Rattle.flat_core.specs.World.{World}
use Rattle.flat_core.specs.Lawful.{Lawful, key_owner}
use Rattle.flat_core.specs.Effects.{set_life}
use Rattle.flat_core.specs.Event.{State}
use Rattle.word_rules.specs.Rules.{KeepsNothing}
use Rattle.word_rules.specs.Cells.{Shows, IsAs, cell, if_stands, built_hasher}
use Rattle.lock_words.specs.LockWords.{put_word}
use Rattle.act_rules.proofs.Rows.{rows-respect}
use Rattle.leaf_engine.specs.declared.needs.Place.{Place}
use Rattle.leaf_engine.specs.Changes.{Put}
use Rattle.leaf_engine.specs.Trees.{acts}
use Rattle.leaf_engine.specs.Means.{MeansRow, work_of, OfCall, hold}
use Rattle.leaf_parts.proofs.Aside.{aside, back, life-but}
use Rattle.leaf_parts.proofs.Checks.{tdr-row-means}
use Rattle.leaf_parts.proofs.Begun.{life-is, page_lock, alone-newest, holds-newest}
use Rattle.leaf_parts.proofs.Told.{tdr-spot, tdr-shown}
use Rattle.flat_core.specs.TdRows.{configure_key}
use Rattle.flat_core.proofs.Tests.{by_test}
use Rattle.td_control.specs.KeyTrees.{configure_task}
use Rattle.leaf_parts.proofs.Acted.{opening}

module _ (m : Machine) (s : State) (words : WordPlace → ℕ) (slots : ℕ → Option (List ℕ)) (t : ℕ) (sh : Shows m words slots s) (la : Lawful m s.world) (is : s.world.pages.kinds t ≡ kind.Tdr) (lives : s.world.tds.lives t ≡ life.HkidAssigned) (in_page : t < m.pages) where
  abbrev w : World
  w = s.world

  abbrev w' : World
  w' = set_life t life.KeysConfigured w

  abbrev after : WordPlace → ℕ
  after = put_word words (place.Word t TDR_LIFE) (life_number life.KeysConfigured)

  own : w.pages.owners t ≡ t
  own = la.pages.tdr t is

  -- its pages stand before and after
  stands : {A : Type 0} (u : ℕ) (x : Option A) → if_stands (w'.tds.lives u) x ≡ if_stands (w.tds.lives u) x
  stands u x = by_test (u == t) (λ e. (let same : u ≡ t = eqb-true u t e in let was : w.tds.lives u ≡ life.HkidAssigned = ap w.tds.lives same ∙ lives in rw (e, was) refl)) (λ n. rw n refl)

  built-same : (o : Option ℕ) (x : Option (List ℕ)) → IsAs (built_hasher w o) x → IsAs (built_hasher w' o) x
  built-same None x a = a
  built-same (Some u) x a = subst (λ (c : Option (Option (List ℕ))). IsAs c x) (sym (stands u _)) a

  tdr-word : (i : ℕ) → i < 512 → IsAs (cell (record s { world = w' }) (place.Word t i)) (after (place.Word t i))
  tdr-word i b = rw (is, own, eq-eqb t t refl) (by_test (i == 0) (λ e. rw e refl) (λ n. rw n (let was = tdr-shown m words slots s sh t i is own in_page b in rw n at was)))

  pub configured : Shows m after slots (record s { world = w' })
  configured = record {
    word = back (life-but (aside t m words s sh.word) life.KeysConfigured la.pages (λ n. rw lives refl)) after (λ r. refl) (λ r. refl) (λ k. refl) (λ r i o. rw o refl) tdr-word;
    hasher = λ h. built-same (key_owner (w.key_table.keys h)) (slots h) (sh.hasher h);
  }

pub configure-means : (p : Place) (t : ℕ) → MeansRow (configure_task p t)
configure-means p t = record {
  means = λ c at. tdr-row-means p.machine c (work_of (OfCall (configure_key p.machine t))) t at.lawful at.shown ((nat_lt t p.machine.pages, OperandInvalid 1) ∷ []) (λ a. ltb-true t p.machine.pages a.0) (life.HkidAssigned ∷ [])
      (acts (Done value.Nothing) (Put (place.Word t TDR_LIFE) (life_number life.KeysConfigured) ∷ [])) [] (λ a is among. (let in_page : t < p.machine.pages = ltb-true t p.machine.pages a.0 in (
        record {
          answers = record { reply_is = refl; cached_is = refl; enters_is = refl; notes_are = refl; tells_are = refl; bundles_are = refl };
          fills_allowed = tt;
          respects = rows-respect (opening p.machine) 0 (call.MngKeyConfig t) (hold c (page_lock t Exclusive ∷ [])) c.state.world at.lawful (a.0, (rw is refl, (among, tt))) ((holds-newest t Exclusive c.kept, alone-newest t c.kept), tt);
          locks_stay = ((refl, λ x. x), tt);
          shows = configured p.machine c.state c.memory.words c.memory.slots t at.shown at.lawful is (life-is life.HkidAssigned (c.state.world.tds.lives t) among) in_page;
        },
        (((in_page, omega arith), (KeepsNothing, rw (tdr-spot c.state.world t 0 is (at.lawful.pages.tdr t is)) (inl (alone-newest t c.kept, tt)), tt)), tt),
      )));
}
