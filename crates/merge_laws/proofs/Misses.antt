-- A processor whose next piece is a swap may swap there, so no two have a swap on one slot next, and none misses.
use Rattle.std.proofs.Common.{◌≡◌, ◌≢◌, ◌⊎◌, ℕ, ◌-◌, ◌<◌, List, [], ◌∷◌, ◌++◌, map, length, Option, Some, None, refl, ap, sym, ◌∙◌, subst, inl, inr, append_assoc, arith}
use Rattle.std.proofs.lemmas.Bool.{ne_eqb}
use Rattle.td_words.specs.declared.machines.Machine.{Machine}
use Rattle.td_words.specs.declared.replies.Reply.{Reply}
use Rattle.td_words.specs.Place.{address}
use Rattle.mrtd_measure.specs.declared.measures.Measure.{Measure}
use Rattle.flat_core.specs.World.{World}
use Rattle.flat_core.specs.Opening.{Opening}
use Rattle.flat_core.specs.Event.{State}
use Rattle.word_rules.specs.Guards.{Grip, Apart}
use Rattle.word_rules.specs.Permissions.{SwapsAct, SwapsOwed}
use Rattle.step_core.specs.declared.steps.WordStep.{WordStep}
use Rattle.step_core.specs.declared.steps.WordStep.TheVariants as step
use Rattle.step_core.specs.Items.{Table}
use Rattle.step_core.specs.declared.items.Taken.{Taken}
use Rattle.step_core.specs.declared.items.Taken.TheVariants.{Stepped, Swapped, Missed}
use Rattle.leaf_engine.specs.declared.events.Event.{Event as RunEvent}
use Rattle.leaf_engine.specs.declared.events.Event.TheVariants as events
use Rattle.leaf_engine.specs.declared.events.Stage.{Stage}
use Rattle.leaf_engine.specs.declared.events.Stage.TheVariants as stages
use Rattle.leaf_engine.specs.declared.needs.Need.{Need}
use Rattle.leaf_engine.specs.declared.needs.Need.TheVariants as need
use Rattle.leaf_engine.specs.declared.needs.Write.{Write}
use Rattle.leaf_engine.specs.declared.needs.Write.TheVariants as write
use Rattle.leaf_engine.specs.Changes.{Hand, Memory, Change, Put, PutHash, Raise, Clear, Copy, Swap, changed_all}
use Rattle.leaf_engine.specs.Trees.{Answer, Tree, Lock, Load, Test, End, Since, feed, settle, passed, changes_of}
use Rattle.leaf_engine.specs.Means.{IsHkid, MayAct, MayFillAll}
use Rattle.leaf_engine.specs.Decides.{Wants, IsHand}
use Rattle.leaf_engine.specs.Items.{IsWritten, IsLoaded, IsChanged, AreChanged}
use Rattle.leaf_engine.specs.Turns.{Standing, standing, Comes as TurnComes, Replies, TurnBy, TakesBack, GivesBack, try_step}
use Rattle.leaf_engine.specs.OwnLists.{Piece, Unmarked, Marked, Wordless, joined, last_marked, marked_behind, act_pieces, pieces_for, behind, items_in, GoesIn, TurnIn, WordLp}
use Rattle.merge_laws.proofs.Swaps.{SwapDue, SwapsMay}
use Rattle.merge_laws.proofs.Owing.{Owed, Stores, Swaps, swaps_in, FirstSwaps, FirstMisses, AreOwed}
use Rattle.merge_laws.proofs.Filling.{Todo, AreTodos, all_todos, two-parts, fills-items, behind-fills}
use Rattle.lock_words.specs.Grips.{grip_of}
use Rattle.merge_laws.proofs.Holding.{lock_grip_of, IsPart, locks-part, turned-round}
use Rattle.merge_laws.proofs.Standing.{FillHolds, Trees, Does, act_grip, DoesHere, TurnsTo, Laws, AreTrees, Known, Fill, Position, Pending, HasInHand, Rest, RestFilling, RestBy, RestOf, on_table, Holds, Stands}
use Rattle.merge_laws.proofs.Others.{act-part, grips-apart}
use Rattle.merge_laws.proofs.Ending.{AtEnd, fills-rest}
use Rattle.merge_laws.proofs.EndPieces.{ItsEndMay, end-may, hand-as}
use Rattle.merge_laws.proofs.Pieces.{SwapsOn, AtTurn, next-turn, fill-turn}
use Rattle.merge_laws.proofs.Turns.{told-tree, last-behind}
use Rattle.merge_laws.proofs.Verdicts.{Ended, IsEnd, given-end, end-passed, at-end, hand-now}

-- a swap there is allowed, as an act, or owed by the locks of a processor
pub record MaySwap (m : Machine) (act own : Grip) (w : World) (k : ℕ) : Type 0 where
  pub hkid : ℕ
  pub in_machine : IsHkid m hkid
  pub slot : hkid - 1 ≡ k
  pub may : SwapsAct act w hkid ⊎ SwapsOwed own w hkid

-- a processor may make it
pub record MakesSwap (o : Opening) (s : State) (p k : ℕ) : Type 0 where
  pub act : Grip
  pub part : IsPart act (grip_of s p)
  pub may : MaySwap o.machine act (lock_grip_of s p) s.world k

same-head : (k : ℕ) (x piece : Piece) (xs ps : List Piece) → x ∷ xs ≡ piece ∷ ps → SwapsOn k piece → SwapsOn k x
same-head k x piece xs ps e sw = (let q : piece ≡ x = cc in subst (SwapsOn k) q sw)

-- the act of a change
one-swap : (m : Machine) (g own : Grip) (w : World) (mem : Memory) (c : Change) (h h' : Option Measure) (ys zs : List Taken) (rest : List Piece) (k : ℕ) (piece : Piece) (ps : List Piece) → MayAct m g w mem c → IsChanged m c h ys h' → IsHand h mem.hand
    → marked_behind 0 (ys ++ zs) ++ rest ≡ piece ∷ ps → SwapsOn k piece → MaySwap m g own w k
one-swap m g own w mem (Put q x) h h' ys zs rest k piece ps may ch i e sw =
    let handed = ch.handed mem.hand i in
    let written : IsWritten (write.Word (step.Store (address m.pages q) x)) ch.between ys h' = subst (λ (z : Write). IsWritten z ch.between ys h') handed.0 ch.written in
    absurd (same-head k (Marked (Stepped (step.Store (address m.pages q) x) written.1.0)) piece _ ps (ap (λ (z : List Taken). marked_behind 0 (z ++ zs) ++ rest) (sym written.1.1) ∙ e) sw)
one-swap m g own w mem (PutHash q x) h h' ys zs rest k piece ps may ch i e sw =
    let handed = ch.handed mem.hand i in
    let written : IsWritten (write.Word (step.Store (address m.pages q) (x mem.hand))) ch.between ys h' = subst (λ (z : Write). IsWritten z ch.between ys h') handed.0 ch.written in
    absurd (same-head k (Marked (Stepped (step.Store (address m.pages q) (x mem.hand)) written.1.0)) piece _ ps (ap (λ (z : List Taken). marked_behind 0 (z ++ zs) ++ rest) (sym written.1.1) ∙ e) sw)
one-swap m g own w mem (Raise q more) h h' ys zs rest k piece ps may ch i e sw =
    let handed = ch.handed mem.hand i in
    let written : IsWritten (write.Word (step.Add (address m.pages q) more)) ch.between ys h' = subst (λ (z : Write). IsWritten z ch.between ys h') handed.0 ch.written in
    absurd (same-head k (Marked (Stepped (step.Add (address m.pages q) more) written.1.0)) piece _ ps (ap (λ (z : List Taken). marked_behind 0 (z ++ zs) ++ rest) (sym written.1.1) ∙ e) sw)
one-swap m g own w mem (Clear q) h h' ys zs rest k piece ps may ch i e sw = absurd may
one-swap m g own w mem (Copy q r) h h' ys zs rest k piece ps may ch i e sw = absurd may
one-swap m g own w mem (Swap j made) h h' ys zs rest k piece ps may ch i e sw =
    let handed = ch.handed mem.hand i in by (subst (λ (z : Write). IsWritten z ch.between ys h') handed.0 ch.written)
  where
    by : IsWritten (write.Swap (j - 1)) ch.between ys h' → MaySwap m g own w k
    by (inl q) = record { hkid = j; in_machine = may.0; slot = same-head k (Marked (Swapped (j - 1) ch.between h')) piece _ ps (ap (λ (z : List Taken). marked_behind 0 (z ++ zs) ++ rest) (sym q) ∙ e) sw; may = inl may.1 }
    by (inr q) = record { hkid = j; in_machine = may.0; slot = same-head k (Marked (Missed (j - 1))) piece _ ps (ap (λ (z : List Taken). marked_behind 0 (z ++ zs) ++ rest) (sym q.1) ∙ e) sw; may = inl may.1 }

-- a turn that begins with a load or a try
load-first : (n k : ℕ) (t u : Tree) (loads : List Taken) (y : Taken) (rest : List Piece) (piece : Piece) (ps : List Piece) → IsLoaded n t loads u → (SwapsOn k (Marked y) → ⊥) → last_marked (loads ++ y ∷ []) ++ rest ≡ piece ∷ ps → SwapsOn k piece → ⊥
load-first n k t u [] y rest piece ps l never e sw = never (same-head k (Marked y) piece rest ps e sw)
load-first n k t u (Stepped w x ∷ loads) y rest piece ps l never e sw =
    same-head k (Unmarked (Stepped w x)) piece (last_marked (loads ++ y ∷ []) ++ rest) ps (ap (λ (z : List Piece). z ++ rest) (sym (last-behind (Stepped w x) loads y)) ∙ e) sw
load-first n k t u (Swapped j a b ∷ loads) y rest piece ps l never e sw = l
load-first n k t u (Missed j ∷ loads) y rest piece ps l never e sw = l

marked-first : (k : ℕ) (w : WordStep) (x : ℕ) (loads : List Taken) (rest : List Piece) (piece : Piece) (ps : List Piece) → last_marked (Stepped w x ∷ loads) ++ rest ≡ piece ∷ ps → SwapsOn k piece → ⊥
marked-first k w x [] rest piece ps e sw = same-head k (Marked (Stepped w x)) piece rest ps e sw
marked-first k w x (y ∷ loads) rest piece ps e sw = same-head k (Unmarked (Stepped w x)) piece (last_marked (y ∷ loads) ++ rest) ps e sw

end-first : (k : ℕ) (t : Tree) (w : WordStep) (x : ℕ) (loads changes : List Taken) (rest : List Piece) (piece : Piece) (ps : List Piece) → IsEnd t → act_pieces t (Stepped w x ∷ loads) changes ++ rest ≡ piece ∷ ps → SwapsOn k piece → ⊥
end-first k (Lock l q m t) w x loads changes rest piece ps h e sw = absurd h
end-first k (Load v q f) w x loads changes rest piece ps h e sw = absurd h
end-first k (Test b r t) w x loads changes rest piece ps h e sw = absurd h
end-first k (End r [] []) w x loads changes rest piece ps h e sw = marked-first k w x loads rest piece ps e sw
end-first k (End r [] (c ∷ cs)) w x loads changes rest piece ps h e sw = same-head k (Unmarked (Stepped w x)) piece _ ps e sw
end-first k (End r (f ∷ fs) cs) w x loads changes rest piece ps h e sw = same-head k (Unmarked (Stepped w x)) piece _ ps e sw
end-first k (Since r cs) w x loads changes rest piece ps h e sw =
    marked-first k w x loads (map Unmarked changes ++ rest) piece ps (sym (append_assoc (last_marked (Stepped w x ∷ loads)) (map Unmarked changes) rest) ∙ e) sw

module _ (ls : Laws) (o : Opening) (trees : Trees) (s : State) (mem : Memory) (t : Table) (pos : ℕ → Position) (p : ℕ) (end_ : WordLp) (piece : Piece) (ps : List Piece) (are : AreTrees o trees) (known : Known o s) (sd : Stands o trees s mem t pos)
    (i : p < length o.calls) (k : ℕ) (sw : SwapsOn k piece) where
  abbrev Allowed : Type 0
  Allowed = MakesSwap o s p k

  -- by an act, or by what is owed
  by-act : (d : Does) → DoesHere o s p d → MaySwap o.machine (act_grip s mem p d) (lock_grip_of s p) s.world k → Allowed
  by-act d here may = record { act = act_grip s mem p d; part = act-part o s mem p d here; may = may }

  by-locks : (h : ℕ) → IsHkid o.machine h → h - 1 ≡ k → SwapsOwed (lock_grip_of s p) s.world h → Allowed
  by-locks h in_h slot may = record { act = lock_grip_of s p; part = locks-part s p; may = record { hkid = h; in_machine = in_h; slot = slot; may = inr may } }

  -- the fills that are left, and the act
  of-fills : (d : Does) → DoesHere o s p d → (answer : Answer) (fs ds : List Change) (stores : List Taken) (left : List Todo) (act : List Taken) (hasher : Option Measure) (rest : List Piece) → AreTodos o.machine.pages stores left
      → AreChanged o.machine ds None act hasher → ItsEndMay o s mem p d (End answer fs ds) → IsHand None (changed_all fs mem).hand
      → map Unmarked stores ++ (marked_behind 0 act ++ rest) ≡ piece ∷ ps → Allowed
  of-fills d here answer fs ds (Stepped w x ∷ stores) left act hasher rest todo ch may none e = absurd (same-head k (Unmarked (Stepped w x)) piece _ ps e sw)
  of-fills d here answer fs ds (Swapped j a b ∷ stores) left act hasher rest todo ch may none e = absurd todo
  of-fills d here answer fs ds (Missed j ∷ stores) left act hasher rest todo ch may none e = absurd todo
  of-fills d here answer fs [] [] left act hasher rest todo ch may none e =
      absurd (same-head k Wordless piece rest ps (ap (λ (z : List Taken). marked_behind 0 z ++ rest) (sym ch.1) ∙ e) sw)
  of-fills d here answer fs (c1 ∷ ds) [] left act hasher rest todo ch may none e =
      by-act d here (one-swap o.machine (act_grip s mem p d) (lock_grip_of s p) s.world (changed_all fs mem) c1 None ch.0 ch.1.0 ch.1.1.0 rest k piece ps may.1.0 ch.1.1.2 none (ap (λ (z : List Taken). marked_behind 0 z ++ rest) (sym ch.1.1.1) ∙ e) sw)

  of-verdict : (d : Does) (run run' : Standing) (e : RunEvent) (tree : Tree) (changes : List Taken) (reply : Reply) (rest : List Piece) (a : AtTurn o trees s mem t pos p d run) → (st : run.stage ≡ stages.Trying) → Ended o.machine run run' e tree changes reply
      → feed d.tree (a.runs.at.told st).told ≡ tree → Wants o.machine.pages tree (need.Verdict reply) → act_pieces tree [] changes ++ rest ≡ piece ∷ ps → Allowed
  of-verdict d run run' e (Lock l q m x) changes reply rest a st en is g h = cc
  of-verdict d run run' e (Load v q f) changes reply rest a st en is g h = cc
  of-verdict d run run' e (Test b r x) changes reply rest a st en is g h = absurd g
  of-verdict d run run' e (End r [] []) changes reply rest a st en is g h = absurd (same-head k Wordless piece rest ps h sw)
  of-verdict d run run' e (End r [] (c1 ∷ ds)) changes reply rest a st en is g h =
      let en' = at-end o trees s mem t pos p d run run' e (End r [] (c1 ∷ ds)) changes reply a st en is g in
      let may = subst (λ (z : Tree). ItsEndMay o s mem p d z) is
      (end-may o trees s mem t pos p d (a.runs.at.told st).told reply run run' e a st en') in
      by-act d a.here
      (one-swap o.machine (act_grip s mem p d) (lock_grip_of s p) s.world mem c1 run.hasher en.changed.0 en.changed.1.0 en.changed.1.1.0 rest k piece ps may.1.0 en.changed.1.1.2 (hand-now o trees s mem t pos p d run a st)
      (ap (λ (z : List Taken). marked_behind 0 z ++ rest) (sym en.changed.1.1.1) ∙ h) sw)
  of-verdict d run run' e (End r (f ∷ fs) ds) changes reply rest a st en is g h =
      let m = o.machine in
      let act = act_grip s mem p d in
      let en' = at-end o trees s mem t pos p d run run' e (End r (f ∷ fs) ds) changes reply a st en is g in
      let may = subst (λ (z : Tree). ItsEndMay o s mem p d z) is
      (end-may o trees s mem t pos p d (a.runs.at.told st).told reply run run' e a st en') in
      let fills = fills-of-may ds may in
      let two = two-parts m (f ∷ fs) ds run.hasher en.hasher changes en.changed in
      let items = fills-items m act s.world (f ∷ fs) run.hasher two.between two.first fills two.filled (a.hand.trying st) in
      let many = behind-fills m act s.world (f ∷ fs) run.hasher two.between two.first two.second fills two.filled (a.hand.trying st) in
      let heads : map Unmarked two.first ++ (marked_behind 0 two.second ++ rest) ≡ piece ∷ ps =
      sym (append_assoc (map Unmarked two.first) (marked_behind 0 two.second) rest)
      ∙ (ap (λ (z : List Piece). z ++ rest) (sym many) ∙ (ap (λ (z : List Taken). marked_behind (items_in (f ∷ fs)) z ++ rest) (sym two.items) ∙ h)) in
      of-fills d a.here r (f ∷ fs) ds two.first (all_todos (f ∷ fs)) two.second en.hasher rest items.1 (subst (λ (z : Option Measure). AreChanged m ds z two.second en.hasher) items.0 two.changed) may
      (hand-as None None (changed_all (f ∷ fs) mem).hand None refl ((fills-rest m act s.world (f ∷ fs) mem fills).1 ∙ a.all.hand) tt) heads
    where
      fills-of-may : (ds : List Change) → ItsEndMay o s mem p d (End r (f ∷ fs) ds) → MayFillAll o.machine (act_grip s mem p d) s.world (f ∷ fs)
      fills-of-may [] z = z
      fills-of-may (c1 ∷ es) z = z.0
  of-verdict d run run' e (Since r ds) changes reply rest a st en is g h = absurd (same-head k Wordless piece _ ps h sw)

  -- a turn on a line
  of-turn : (d : Does) (run run' : Standing) (e : RunEvent) (tp : List Piece) (rest : List Piece) → AtTurn o trees s mem t pos p d run → TurnIn run.stage o.machine run tp run' e → tp ++ rest ≡ piece ∷ ps → Allowed
  of-turn d run run' e tp rest a tn h = by run.stage refl tn
    where
      by-loads : (gi : GoesIn o.machine run tp run' e) → run.stage ≡ stages.Trying → (reply : Reply) → Wants o.machine.pages (settle gi.goes.tree) (need.Verdict reply) → (re : Replies o.machine run (passed (settle gi.goes.tree)) gi.goes.loads gi.items reply run' e)
          → (loads : List Taken) → gi.goes.loads ≡ loads → tp ≡ act_pieces (passed (settle gi.goes.tree)) loads (behind loads gi.items) → Allowed
      by-loads gi st reply g re [] f q =
          let tree = gi.goes.tree in
          let is-end = given-end o.machine.pages (settle tree) reply g in
          let at : passed (settle tree) ≡ settle tree = end-passed (settle tree) is-end in
          let l : run.rest ≡ tree = subst (λ (z : List Taken). IsLoaded o.machine.pages run.rest z tree) f gi.goes.loaded in
          let told : feed d.tree (a.runs.at.told st).told ≡ settle tree = sym (told-tree o trees s mem t pos p d run a st) ∙ ap settle l in
          let items : gi.items ≡ re.changes = re.items ∙ ap (λ (z : List Taken). z ++ re.changes) f in
          let en : Ended o.machine run run' e (settle tree) re.changes reply = record {
            hasher = re.hasher;
            changed = subst (λ (z : Tree). AreChanged o.machine (changes_of z) run.hasher re.changes re.hasher) at re.changed;
            after = re.after ∙ ap (λ (z : Tree). standing z (stages.Answered reply) run.held re.hasher) at;
            act = re.event;
          } in
          of-verdict d run run' e (settle tree) re.changes reply rest a st en told g
          (ap (λ (z : Tree). act_pieces z [] re.changes ++ rest) (sym at) ∙ (ap (λ (z : List Taken). act_pieces (passed (settle tree)) [] z ++ rest) (sym items) ∙ (ap (λ (z : List Piece). z ++ rest) (sym q) ∙ h)))
      by-loads gi st reply g re (Stepped w x ∷ loads) f q =
          absurd (end-first k (passed (settle gi.goes.tree)) w x loads (behind (Stepped w x ∷ loads) gi.items) rest piece ps
          (let is-end = given-end o.machine.pages (settle gi.goes.tree) reply g in subst (λ (z : Tree). IsEnd z) (sym (end-passed (settle gi.goes.tree) is-end)) is-end)
          (ap (λ (z : List Piece). z ++ rest) (sym q) ∙ h) sw)
      by-loads gi st reply g re (Swapped j u v ∷ loads) f q = absurd (subst (λ (z : List Taken). IsLoaded o.machine.pages run.rest z gi.goes.tree) f gi.goes.loaded)
      by-loads gi st reply g re (Missed j ∷ loads) f q = absurd (subst (λ (z : List Taken). IsLoaded o.machine.pages run.rest z gi.goes.tree) f gi.goes.loaded)

      try-no-swap : (at : ℕ) (mode : Rattle.td_words.specs.declared.names.Mode.Mode) (seen : ℕ) → SwapsOn k (Marked (Stepped (try_step at mode) seen)) → ⊥
      try-no-swap at mode seen z = z

      by-need : (gi : GoesIn o.machine run tp run' e) → run.stage ≡ stages.Trying → (x : Need) → Wants o.machine.pages (settle gi.goes.tree) x → TurnComes o.machine run (passed (settle gi.goes.tree)) gi.goes.loads gi.items x run' e
          → tp ≡ pieces_for x (passed (settle gi.goes.tree)) gi.goes.loads gi.items (behind gi.goes.loads gi.items) → Allowed
      by-need gi st (need.Lock name at mode) g co q =
          absurd (load-first o.machine.pages k run.rest gi.goes.tree gi.goes.loads (Stepped (try_step at mode) co.seen) rest piece ps gi.goes.loaded (try-no-swap at mode co.seen)
          (ap (λ (z : List Taken). last_marked z ++ rest) (sym co.items) ∙ (ap (λ (z : List Piece). z ++ rest) (sym q) ∙ h)) sw)
      by-need gi st (need.Load at) g co q = absurd co
      by-need gi st (need.Verdict reply) g co q = by-loads gi st reply g co gi.goes.loads refl q

      by : (st : Stage) → run.stage ≡ st → TurnIn st o.machine run tp run' e → Allowed
      by stages.Trying st gi = by-need gi st gi.goes.need gi.goes.gives gi.goes.comes gi.pieces
      by (stages.Undoing name at) st si =
          let tb : TakesBack run name at si.items run' e = subst (λ (z : Stage). TurnBy z o.machine run si.items run' e) st si.turn in
          absurd (same-head k (Marked (Stepped (step.Sub at 1) tb.items.0)) piece rest ps (ap (λ (z : List Taken). last_marked z ++ rest) (sym tb.items.1) ∙ (ap (λ (z : List Piece). z ++ rest) (sym si.pieces) ∙ h)) sw)
      by (stages.Answered r) st si =
          let both : GivesBack run.held si.items run'.held e × (run' ≡ record run { held = run'.held }) = subst (λ (z : Stage). TurnBy z o.machine run si.items run' e) st si.turn in
          absurd (same-head k (Marked (Stepped _ both.0.items.0)) piece rest ps (ap (λ (z : List Taken). last_marked z ++ rest) (sym both.0.items.1) ∙ (ap (λ (z : List Piece). z ++ rest) (sym si.pieces) ∙ h)) sw)

  processor-stands : Holds o trees p s.world mem.words (on_table o.machine t) (s.lps p) (pos p)
  processor-stands = sd.holds p i

  of-turns : (pos p).swaps ≡ [] → (last : Option Measure) (hand : Hand) → HasInHand (pos p).at last → IsHand last hand → (turns : List (List Piece)) → TurnsTo o trees p (pos p).at turns end_ → joined turns ≡ piece ∷ ps → Allowed
  of-turns no-swaps last hand has f [] own h = cc
  of-turns no-swaps last hand has f (tp ∷ tps) own h =
      let next = next-turn o trees s mem t pos p last hand own.0 tp own.1.0 are known sd i no-swaps has f own.1.1 in
      of-turn next.does next.run next.stands own.0 tp (joined tps) next.at next.turn h

  of-owed : (re : Rest o trees p (pos p).at (pos p).owes (pos p).swaps (piece ∷ ps) end_) → (os : List Owed) → re.owed ≡ os → AreOwed o.machine.pages re.hasher re.hand re.items os re.last → Allowed
  of-owed re [] q of =
      let r = of re.in_hand in
      of-turns (re.swaps_are ∙ ap swaps_in q) re.last re.hand re.last_is r.1 re.turns re.own (ap (λ (z : List Taken). map Unmarked z ++ joined re.turns) (sym r.0) ∙ sym re.pieces)
  of-owed re (Stores d ∷ os) q of =
      let r = of re.in_hand in
      absurd (same-head k (Unmarked (Stepped (step.Store (address o.machine.pages d.at) d.word) r.answer)) piece _ ps (ap (λ (z : List Taken). map Unmarked z ++ joined re.turns) (sym r.items) ∙ sym re.pieces) sw)
  of-owed re (Swaps d ∷ os) q of = by (of re.in_hand)
    where
      may : SwapsMay o.machine (lock_grip_of s p) s.world sd.slots.now (d ∷ swaps_in os)
      may = subst (λ (z : List SwapDue). SwapsMay o.machine (lock_grip_of s p) s.world sd.slots.now z) (re.swaps_are ∙ ap swaps_in q) (sd.slots.may p i)

      by : FirstSwaps re.items d (λ j ys. AreOwed o.machine.pages j d.taken ys os re.last) ⊎ FirstMisses re.items d → Allowed
      by (inr r) =
          by-locks d.hkid may.0.0 (same-head k (Unmarked (Missed (d.hkid - 1))) piece _ ps (ap (λ (z : List Taken). map Unmarked z ++ joined re.turns) (sym r.items) ∙ sym re.pieces) sw) may.0.1
      by (inl r) =
          by-locks d.hkid may.0.0 (same-head k (Unmarked (Swapped (d.hkid - 1) r.put r.taken)) piece _ ps (ap (λ (z : List Taken). map Unmarked z ++ joined re.turns) (sym r.items) ∙ sym re.pieces) sw) may.0.1

  of-filling : (f : Fill) → (pos p).fill ≡ Some f → RestFilling o trees p (pos p).swaps f (piece ∷ ps) end_ → Allowed
  of-filling f n re =
      let m = o.machine in
      let d = f.does in
      let due : FillHolds o trees p s.world mem.words (on_table m t) (s.lps p) (pos p).at (pos p).owes f =
      subst (λ (z : Option Fill). Pending o trees p s.world mem.words (on_table m t) (s.lps p) (pos p).at (pos p).owes z) n processor-stands.due in
      let st : f.run.stage ≡ stages.Trying = due.trying in
      let a = fill-turn o trees s mem t pos p f are known sd i re.no_swaps due in
      let told = (a.runs.at.told st).told in
      let tree-is : feed d.tree told ≡ End f.answer f.fills f.changes = sym (told-tree o trees s mem t pos p d f.run a st) ∙ ap settle due.rest in
      let en : AtEnd o mem d told told f.answer.reply f.run re.after events.Act = record {
        current = (a.runs.at.told st).current;
        locks = refl;
        gives = subst (λ (z : Tree). Wants m.pages z (need.Verdict f.answer.reply)) (sym tree-is) refl;
        answered = ap (λ (z : Standing). z.stage) re.after_is;
        held = ap (λ (z : Standing). z.held) re.after_is;
        act = refl;
        rest_is = ap (λ (z : Standing). z.rest) re.after_is ∙ sym tree-is;
      } in
      let may : ItsEndMay o s mem p d (End f.answer f.fills f.changes) = subst (λ (z : Tree). ItsEndMay o s mem p d z) tree-is (end-may o trees s mem t pos p d told f.answer.reply f.run re.after events.Act a st en) in
      of-fills d a.here f.answer f.fills f.changes re.stores f.left re.act re.hasher (joined re.turns) re.are re.changed may
      (hand-as None None (changed_all f.fills mem).hand None refl ((fills-rest m (act_grip s mem p d) s.world f.fills mem (fills-may f.changes may)).1 ∙ sd.hand) tt) (sym re.pieces)
    where
      fills-may : (ds : List Change) → ItsEndMay o s mem p f.does (End f.answer f.fills ds) → MayFillAll o.machine (act_grip s mem p f.does) s.world f.fills
      fills-may [] e = e
      fills-may (c1 ∷ ds) e = e.0

  by-fill : (f : Option Fill) → (pos p).fill ≡ f → RestBy o trees p (pos p) (piece ∷ ps) end_ f → Allowed
  by-fill None n re = of-owed re re.owed refl re.are
  by-fill (Some f) n re = of-filling f n re

  pub may-swap : RestOf o trees p (pos p) (piece ∷ ps) end_ → MakesSwap o s p k
  may-swap rest = by-fill (pos p).fill refl rest

-- two processors don't both have a swap on one slot next
pub two-never : (ls : Laws) (o : Opening) (s : State) (p q k : ℕ) → Known o s → p < length o.calls → q < length o.calls → q ≢ p → MakesSwap o s p k → MakesSwap o s q k → ⊥
two-never ls o s p q k known i j ne x y = by x.may.may (subst (λ (h : ℕ). SwapsAct y.act s.world h ⊎ SwapsOwed (lock_grip_of s q) s.world h) same y.may.may)
  where
    mine : Grip
    mine = lock_grip_of s p

    theirs : Grip
    theirs = lock_grip_of s q

    same : y.may.hkid ≡ x.may.hkid
    same = let a = x.may.in_machine in let b = y.may.in_machine in let u = x.may.slot in let v = y.may.slot in omega (arith, a, b, u, v)

    apart : (g h : Grip) → IsPart g (grip_of s q) → IsPart h (grip_of s p) → Apart g h
    apart g h u v = grips-apart ls o s q p g h known j i (ne_eqb q p ne) u v

    by : SwapsAct x.act s.world x.may.hkid ⊎ SwapsOwed mine s.world x.may.hkid → SwapsAct y.act s.world x.may.hkid ⊎ SwapsOwed theirs s.world x.may.hkid → ⊥
    by (inl u) (inl v) = (ls.words y.act x.act s.world (apart y.act x.act y.part x.part)).swaps x.may.hkid v u
    by (inr u) (inl v) = (ls.words y.act mine s.world (apart y.act mine y.part (locks-part s p))).swaps_owed x.may.hkid v u
    by (inr u) (inr v) = (ls.words theirs mine s.world (apart theirs mine (locks-part s q) (locks-part s p))).owed_swaps x.may.hkid v u
    by (inl u) (inr v) = (ls.words x.act theirs s.world (turned-round theirs x.act (apart theirs x.act (locks-part s q) x.part))).swaps_owed x.may.hkid u v
