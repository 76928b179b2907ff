-- The turns of a run that is kept in a small record, or else as the run of another leaf.
use Rattle.std.proofs.Common.{◌≡◌, ◌∙◌, ℕ, ◌-◌, true, false, is_none, is_some, List, [], Option, Some, None, option_map, IfSome, refl, ap, sym, subst, arith}
use Rattle.std.specs.Prelude.{MatchOption}
use Rattle.report_core.specs.declared.facts.Facts.{Facts}
use Rattle.td_words.specs.declared.machines.Machine.{Machine}
use Rattle.td_words.specs.declared.replies.Reply.{Reply}
use Rattle.flat_core.specs.World.{Made}
use Rattle.step_core.specs.declared.items.Taken.{Taken}
use Rattle.leaf_engine.specs.declared.events.Stage.TheVariants.{Trying}
use Rattle.leaf_engine.specs.Besides.{bundles_made}
use Rattle.leaf_engine.specs.Means.{Task}
use Rattle.leaf_engine.specs.OwnLists.{running}
use Rattle.leaf_engine.specs.Trees.{Tree, settle}
use Rattle.leaf_engine.specs.Turns.{Standing, standing, has_ended}
use Rattle.guest_turns.specs.Turns.{kept_after, ShortTurned, ShortGoesOn}
use Rattle.guest_turns.specs.declared.runs.LeafTurn.{LeafTurn}
use Rattle.leaf_table.specs.Ends.{Ends, AreMade, EndsAs, BeginsUnderOther}
use Rattle.leaf_table.proofs.Ending.{ends-fed}
use Rattle.leaf_table.proofs.NoBundles.{AreQuiet}
use Rattle.leaf_dispatch.specs.Answers.{FewTries, FitsStage, OldestIsOther}
use Rattle.leaf_dispatch.specs.Running.{run_seen, IsRunOf, LeafTurned, RunTurned}
use Rattle.leaf_dispatch.specs.ShortRuns.{seen_by, IsOneOf}
use Rattle.leaf_dispatch.specs.declared.running.Running.{Running}
use Rattle.leaf_dispatch.proofs.Lowering.{other-settled, Gives, turn-gives}
use Rattle.leaf_dispatch.proofs.Keeping.{goes-on}

pub none-is : {A : Type 0} (x : Option A) → is_none x ≡ true → x ≡ None
none-is None e = refl
none-is (Some y) e = cc

-- a run at its first event

pub record Begins (e : Ends) (s : Standing) : Type 0 where
  pub going : has_ended s.stage s.held ≡ false
  pub few_tries : FewTries e s
  pub fits : FitsStage e s.stage
  pub oldest : OldestIsOther s.held s

pub begins : (e : Ends) (t : Tree) → EndsAs e e.tries t → BeginsUnderOther t → Begins e (standing (settle t) Trying [] None)
begins e t ends other =
    let same : e.tries ≡ e.tries - 0 = omega arith in
    record {
      going = refl;
      few_tries = (omega arith, λ st. subst (λ (n : ℕ). EndsAs e n (settle t)) same (ends-fed e e.tries t [] ends));
      fits = tt;
      oldest = λ st. other-settled t other;
    }

module _ {A : Type 0} (at : A → Standing) (IsAt : Machine → A → Type 0) where
  -- no run is kept

  pub nothing-kept : (short : Option A) (other : Option Running) → short ≡ None → other ≡ None → seen_by at short other ≡ None
  nothing-kept short other no_short no_other = ap (λ (s : Option A). seen_by at s other) no_short ∙ ap run_seen no_other

  pub no-run-of : (m : Machine) (e : Ends) (short : Option A) (other : Option Running) → seen_by at short other ≡ None → IsOneOf at IsAt m e short other
  no-run-of m e None None none = tt
  no-run-of m e None (Some r) none = cc
  no-run-of m e (Some r) other none = cc

  -- a run is kept
  pub short-is : (short : Option A) (other : Option Running) (r : A) → short ≡ Some r → is_none (seen_by at short other) ≡ true → ⊥
  short-is None other r e none = cc
  short-is (Some k) other r e none = cc

  pub other-is : (short : Option A) (other : Option Running) (r : Running) → short ≡ None → other ≡ Some r → is_none (seen_by at short other) ≡ true → ⊥
  other-is short other r no_short e none = (let same = ap (λ (z : Option A). seen_by at z other) no_short ∙ ap run_seen e in cc)

  -- a turn of one in a small record

  stands-so : (r : A) (s : Standing) (reply : Option Reply) → Some (at r) ≡ kept_after reply s → (reply ≡ None) × (s ≡ at r)
  stands-so r s None e = (refl, cc)
  stands-so r s (Some z) e = cc

  pub short-turned : {B : Type 0} (did : List Taken → B → Type 0) (m : Machine) (e : Ends) (s : Standing) (bench : B) (kept : Option A) (other : Option Running) (result : LeafTurn)
      → Begins e s → e.makes ≡ None → AreQuiet e → is_none other ≡ true → ShortTurned at IsAt did m s bench kept result → LeafTurned did m e s bench (seen_by at kept other) (IsOneOf at IsAt m e kept other) result [] None
  short-turned did m e s bench kept other result b none quiet alone t = record {
    going = b.going;
    few_tries = b.few_tries;
    fits = b.fits;
    oldest = b.oldest;
    stands = t.stands;
    turned = t.turned;
    act_is = t.act_is;
    made_is = sym (subst (λ (o : Option ℕ). AreMade o (bundles_made result.event t.stands.rest)) none gives.made);
    facts_is = sym (gives.quiet quiet);
    seen = seen-so kept other alone t.seen;
    under_way = keeps kept other alone t.seen t.inside;
  }
    where
      gives : Gives e s t.stands result.event
      gives = turn-gives m e s t.stands t.turned.0 result.event b.few_tries b.fits b.oldest t.turned.2.turn

      seen-so : (kept : Option A) (other : Option Running) → is_none other ≡ true → option_map at kept ≡ kept_after result.reply t.stands → seen_by at kept other ≡ kept_after result.reply t.stands
      seen-so None None alone seen = seen
      seen-so None (Some r) alone seen = cc
      seen-so (Some r) other alone seen = seen

      keeps : (kept : Option A) (other : Option Running) → is_none other ≡ true → option_map at kept ≡ kept_after result.reply t.stands → IfSome kept (IsAt m) → IsOneOf at IsAt m e kept other
      keeps None None alone seen inside = tt
      keeps None (Some r) alone seen inside = cc
      keeps (Some r) other alone seen inside =
          let on = stands-so r t.stands result.reply seen in (
            alone,
            record {
              inside = inside;
              makes = none;
              quiet = quiet;
              going = subst (λ (z : Standing). has_ended z.stage z.held ≡ false) on.1 (goes-on t.stands.stage t.stands.held (sym t.turned.2.reply ∙ on.0));
              few_tries = subst (λ (z : Standing). FewTries e z) on.1 gives.few;
              fits = subst (λ (z : Standing). FitsStage e z.stage) on.1 gives.fits;
              oldest = subst (λ (z : Standing). OldestIsOther z.held z) on.1 gives.oldest;
            },
          )

  -- one that is kept

  pub is-in : (m n : Machine) (e : Ends) (short : Option A) (other : Option Running) (r : A) → m ≡ n → short ≡ Some r → IsOneOf at IsAt m e short other → MatchOption short ⊥ (IsAt n)
  is-in m n e None other r same is u = cc
  is-in m n e (Some k) other r same is u = subst (λ (z : Machine). IsAt z k) same u.1.inside

  pub short-on : {B : Type 0} (did : List Taken → B → Type 0) (m n : Machine) (e : Ends) (task : Task) (short : Option A) (other : Option Running) (bench : B) (kept : Option A) (result : LeafTurn)
      → m ≡ n → IsOneOf at IsAt m e short other → ShortGoesOn at IsAt did n short bench kept result → LeafTurned did m e (running task (seen_by at short other)) bench (seen_by at kept other) (IsOneOf at IsAt m e kept other) result [] None
  short-on did m n e task None other bench kept result same u t = absurd t
  short-on did m n e task (Some r) other bench kept result same u t =
      short-turned did m e (at r) bench kept other result (record { going = u.1.going; few_tries = u.1.few_tries; fits = u.1.fits; oldest = u.1.oldest }) u.1.makes u.1.quiet u.0
      (subst (λ (k : Machine). ShortTurned at IsAt did k (at r) bench kept result) (sym same) t)

  -- and one that begins, with a tree that is its leaf's
  pub short-begins : {B : Type 0} (did : List Taken → B → Type 0) (m n : Machine) (e : Ends) (t : Tree) (tree : Machine → Tree) (bench : B) (kept : Option A) (other : Option Running) (result : LeafTurn)
      → m ≡ n → Begins e (standing (settle t) Trying [] None) → e.makes ≡ None → AreQuiet e → t ≡ tree m → other ≡ None → ShortTurned at IsAt did n (standing (settle (tree n)) Trying [] None) bench kept result
      → LeafTurned did m e (standing (settle t) Trying [] None) bench (seen_by at kept other) (IsOneOf at IsAt m e kept other) result [] None
  short-begins did m n e t tree bench kept other result same b none quiet is alone turned =
      short-turned did m e (standing (settle t) Trying [] None) bench kept other result b none quiet (ap is_none alone)
      (subst (λ (z : Tree). ShortTurned at IsAt did m (standing (settle z) Trying [] None) bench kept result) (sym is)
      (subst (λ (k : Machine). ShortTurned at IsAt did k (standing (settle (tree k)) Trying [] None) bench kept result) (sym same) turned))

  -- a turn of another leaf's run

  pub other-of : (m : Machine) (e : Ends) (short : Option A) (other : Option Running) → short ≡ None → IsOneOf at IsAt m e short other → IsRunOf m e other
  other-of m e short other alone u = subst (λ (s : Option A). IsOneOf at IsAt m e s other) alone u

  pub other-turned : {B : Type 0} (did : List Taken → B → Type 0) (m : Machine) (e : Ends) (task : Task) (short : Option A) (other kept : Option Running) (bench : B) (result : LeafTurn) (made : List Made) {facts : Option Facts} → short ≡ None
      → RunTurned did m e (running task (run_seen other)) bench kept result made facts → LeafTurned did m e (running task (seen_by at short other)) bench (seen_by at short kept) (IsOneOf at IsAt m e short kept) result made facts
  other-turned did m e task short other kept bench result made {facts = facts} alone turned =
      subst (λ (k : Option A). LeafTurned did m e (running task (seen_by at k other)) bench (seen_by at k kept) (IsOneOf at IsAt m e k kept) result made facts) (sym alone) turned

  -- only one of the two is kept
  pub short-alone : (m : Machine) (e : Ends) (short : Option A) (other : Option Running) → IsOneOf at IsAt m e short other → is_some other ≡ true → is_none short ≡ true
  short-alone m e None other u some = refl
  short-alone m e (Some r) None u some = cc
  short-alone m e (Some r) (Some k) u some = (let no : false ≡ true = u.0 in cc)
