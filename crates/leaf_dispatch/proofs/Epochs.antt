-- The count step that an exit tells is that of the epoch at which its virtual processor entered.
use Rattle.std.proofs.Common.{◌≡◌, ◌∙◌, ℕ, ◌+◌, ◌%◌, ◌<◌, ◌==◌, Bool, true, false, if◌then◌else◌, List, [], ◌∷◌, ◌++◌, length, Option, Some, None, refl, ap, sym, subst, arith}
use Rattle.td_words.specs.Seen.{CodeSeen}
use Rattle.td_words.specs.Address.{word_at}
use Rattle.td_words.specs.Place.{Word}
use Rattle.td_words.specs.declared.calls.Call.{Call}
use Rattle.td_words.specs.declared.machines.Machine.{Machine}
use Rattle.td_words.specs.declared.names.LifeState.TheVariants as life
use Rattle.td_words.specs.declared.names.PageKind.{PageKind}
use Rattle.td_words.specs.declared.names.PageKind.TheVariants as kind
use Rattle.td_words.specs.declared.places.TheConstants.{VP_LAST_EPOCH}
use Rattle.td_words.specs.declared.replies.Outcome.{Outcome}
use Rattle.td_words.specs.declared.replies.Reply.{Reply}
use Rattle.td_words.specs.NameNumber.{life_number}
use Rattle.flat_core.specs.Processor.{Translation}
use Rattle.flat_core.specs.Opening.{Opening}
use Rattle.flat_core.specs.Row.{Move, Attempts, Undoes, Refuses, Succeeds, Releases, Rests}
use Rattle.flat_core.specs.Event.{State, Event, OfCall, OfOperation, Walks, Reaches, Leaves, is_granted}
use Rattle.step_core.specs.declared.items.Taken.{Taken}
use Rattle.step_core.specs.declared.items.Taken.TheVariants.{Stepped, Swapped, Missed}
use Rattle.step_core.specs.declared.steps.WordStep.{WordStep}
use Rattle.step_core.specs.Items.{Table, PlaysTo}
use Rattle.step_core.specs.Words.{answer_of, after_step}
use Rattle.word_rules.specs.Cells.{cell, lock_word, page_cell, if_stands, vp_lines, IsAs}
use Rattle.word_rules.specs.Lines.{in_lines}
use Rattle.leaf_engine.specs.declared.needs.Need.{Need}
use Rattle.leaf_engine.specs.declared.needs.Need.TheVariants as need
use Rattle.leaf_engine.specs.declared.needs.Place.{Place}
use Rattle.leaf_engine.specs.declared.events.Event.{Event as RunEvent}
use Rattle.leaf_engine.specs.declared.events.Event.TheVariants as events
use Rattle.leaf_engine.specs.declared.events.Stage.TheVariants.{Trying}
use Rattle.leaf_engine.specs.Besides.{Beside}
use Rattle.leaf_engine.specs.Decides.{Wants}
use Rattle.leaf_engine.specs.Facts.{GuestFits, GuestIsIn}
use Rattle.leaf_engine.specs.Following.{StandsOn, IsRunning}
use Rattle.leaf_engine.specs.Guests.{WordGuest, Step, step_of, gives_epoch_back}
use Rattle.leaf_engine.specs.Guests as guests
use Rattle.leaf_engine.specs.Items.{IsLoaded}
use Rattle.leaf_engine.specs.OwnLists.{Piece, taken_in, LeafTable, WordLp, running, step_leaf, EnteredTurn, LinesTurn, LpTurns}
use Rattle.leaf_engine.specs.Standing.{GuestStands}
use Rattle.leaf_engine.specs.Trees.{Tree, settle, passed}
use Rattle.leaf_engine.specs.Turns.{Standing, standing, Advances, TurnBy, Comes}
use Rattle.leaf_engine.proofs.Pieces.{turn-of-taken}
use Rattle.vcpu_control.specs.ExitTrees.{exit_tree}
use Rattle.trace_lines.specs.Traces.{what_is, move_is}
use Rattle.trace_lines.specs.declared.traces.What.TheVariants as what
use Rattle.trace_laws.specs.Laws.{IsExitOf}
use Rattle.leaf_table.specs.Ends.{step_tries}
use Rattle.leaf_table.specs.Given.{Given}
use Rattle.leaf_table.specs.Table.{code_in, place_table, step_task}
use Rattle.leaf_dispatch.specs.Follows.{IsProcessor}
use Rattle.leaf_dispatch.specs.Guests.{guest_seen, next_in}
use Rattle.leaf_dispatch.specs.Inside.{guest_in, KeepsGuest}
use Rattle.leaf_dispatch.specs.Running.{IsAnsweredBy}
use Rattle.leaf_dispatch.specs.Shown.{event_as, parity_of, shown, epoch_loaded}
use Rattle.leaf_dispatch.specs.States.{seen_of}
use Rattle.leaf_dispatch.specs.StepRuns.{step_run_seen}
use Rattle.leaf_dispatch.specs.declared.guests.GuestAt.{GuestAt}
use Rattle.leaf_dispatch.specs.declared.running.Running.{Running}
use Rattle.leaf_dispatch.specs.declared.states.LpState.{LpState}
use Rattle.leaf_dispatch.specs.declared.step_runs.StepRun.{StepRun}
use Rattle.leaf_dispatch.proofs.Fewer.{run-same}
use Rattle.leaf_dispatch.proofs.ShortRuns.{none-is}
use Rattle.leaf_dispatch.proofs.Shown.{IsNoCount, parity-free, frees}
use Rattle.leaf_dispatch.proofs.StepTurns.{step-is}

-- the shown form, by a parity that is right where a guest is left

moves-none : {R : Type 0} (granted : Bool) (mv : Move R) → IsNoCount (move_is granted mv)
moves-none granted (Attempts l m) = tt
moves-none granted (Undoes l) = tt
moves-none granted (Refuses r) = tt
moves-none granted Succeeds = tt
moves-none granted (Releases h) = tt
moves-none granted Rests = tt

pub shown-as : (s : State) (p n : ℕ) (e : Event) → ((v : ℕ) (out : Outcome) → e ≡ Leaves v out → n ≡ parity_of (s.world.vps.entered v)) → event_as n (what_is s p e) ≡ shown s p e
shown-as s p n (OfCall row mv) h = parity-free n 0 (what_is s p (OfCall row mv)) (moves-none (is_granted s (OfCall row mv)) mv)
shown-as s p n (OfOperation row mv) h = parity-free n 0 (what_is s p (OfOperation row mv)) (moves-none (is_granted s (OfOperation row mv)) mv)
shown-as s p n (Walks access gpa) h = parity-free n 0 (what_is s p (Walks access gpa)) tt
shown-as s p n (Reaches t v access r gpa page) h = parity-free n 0 (what_is s p (Reaches t v access r gpa page)) tt
shown-as s p n (Leaves v out) h = ap (λ (k : ℕ). event_as k what.Counts) (h v out refl)

-- the words that a count step loads

loads-two : (m : Machine) (t v : ℕ) (out : Outcome) (s s' : Standing) (loads xs : List Taken) (tree : Tree) (n : Need) (e : RunEvent) (table after : Table) → IsLoaded m.pages (exit_tree m t v out) loads tree → Wants m.pages (settle tree) n → Comes m s (passed (settle tree)) loads xs n s' e
    → PlaysTo table xs after → epoch_loaded xs ≡ table.words (word_at v VP_LAST_EPOCH)
loads-two m t v out s s' [] xs tree n e table after loaded gives comes plays =
    let load = subst (λ (z : Tree). Wants m.pages (settle z) n) (sym loaded) gives in absurd (subst (λ (z : Need). Comes m s (passed (settle tree)) [] xs z s' e) load comes)
loads-two m t v out s s' (Stepped f a ∷ []) xs tree n e table after loaded gives comes plays =
    let load = subst (λ (z : Tree). Wants m.pages (settle z) n) (sym loaded.1) gives in absurd (subst (λ (z : Need). Comes m s (passed (settle tree)) (Stepped f a ∷ []) xs z s' e) load comes)
loads-two m t v out s s' (Swapped k put taken ∷ ls) xs tree n e table after loaded gives comes plays = absurd loaded
loads-two m t v out s s' (Missed k ∷ ls) xs tree n e table after loaded gives comes plays = absurd loaded
loads-two m t v out s s' (Stepped f a ∷ Swapped k put taken ∷ ls) xs tree n e table after loaded gives comes plays = absurd loaded.1
loads-two m t v out s s' (Stepped f a ∷ Missed k ∷ ls) xs tree n e table after loaded gives comes plays = absurd loaded.1
loads-two m t v out s s' (Stepped f a ∷ Stepped g b ∷ ls) xs tree n e table after loaded gives comes plays = by n comes
  where
    seen : (more : List Taken) → xs ≡ Stepped f a ∷ Stepped g b ∷ more → epoch_loaded xs ≡ table.words (word_at v VP_LAST_EPOCH)
    seen more is =
        let played = subst (λ (zs : List Taken). PlaysTo table zs after) is plays in
        ap epoch_loaded is
        ∙ (played.1.0
        ∙ (ap (λ (z : WordStep). answer_of (after_step table.words z) g) loaded.0.2
        ∙ (ap (answer_of table.words) loaded.1.0.2 ∙ ap table.words loaded.1.0.1)))

    by : (k : Need) → Comes m s (passed (settle tree)) (Stepped f a ∷ Stepped g b ∷ ls) xs k s' e → epoch_loaded xs ≡ table.words (word_at v VP_LAST_EPOCH)
    by (need.Lock name at mode) co = seen (ls ++ _) co.items
    by (need.Load at) co = absurd co
    by (need.Verdict reply) co = seen (ls ++ _) co.items

-- the last epoch of a virtual processor, as words show it
last-shown : (s : State) (t v : ℕ) → s.world.pages.kinds v ≡ kind.Tdvpr → s.world.pages.owners v ≡ t → (life_number (s.world.tds.lives t) == life_number life.Teardown) ≡ false → cell s (Word v VP_LAST_EPOCH) ≡ Some (s.world.vps.lasts v)
last-shown s t v kind-is owner life-is =
    ap (λ (k : PageKind). page_cell s.world (lock_word s.lps s.lp_count) (s.world.pages.owners v) v k VP_LAST_EPOCH) kind-is
    ∙ (ap (λ (z : ℕ). if_stands (s.world.tds.lives z) (in_lines (vp_lines s.world v) VP_LAST_EPOCH)) owner
    ∙ ap (λ (b : Bool). if b then None else in_lines (vp_lines s.world v) VP_LAST_EPOCH) life-is)

module _ (o : Opening) (s : State) (p : ℕ) (table after : Table) (place : Place) (given : Given) (codes : List CodeSeen) (e : RunEvent) (ps : List Piece) (runs : IsRunning o s) (inside : p < s.lp_count) (plays : PlaysTo table (taken_in ps) after) where
  abbrev leaf : LeafTable
  leaf = place_table place given (code_in codes)

  exit-at : place.machine ≡ o.machine → (lines : List Call) (run : Option Standing) (guest : Option WordGuest) (rs : List Reply) (b : Beside) (q : WordLp) (x : WordGuest) (out : Outcome) → guest ≡ Some x → x.run ≡ None → x.vp < o.machine.pages
      → step_of (code_in codes) b.cached x ≡ guests.Leaves out → e ≡ events.Act → StandsOn o leaf p s table (record { lines = lines; run = run; guest = guest; replies = rs; beside = b }) → LinesTurn leaf o.machine lines run guest rs b e ps q
      → epoch_loaded (taken_in ps) % 2 ≡ parity_of (s.world.vps.entered x.vp)
  exit-at machine [] run guest rs b q x out is none page step acts stands lt = absurd lt
  exit-at machine (c ∷ cs) run None rs b q x out is none page step acts stands lt = cc
  exit-at machine (c ∷ cs) None (Some y) rs b q x out is none page step acts stands lt = absurd lt
  exit-at machine (c ∷ cs) (Some line) (Some y) rs b q x out is none page step acts stands lt = (let same : y ≡ x = cc in at y same stands.stands.run (gives_epoch_back line.held) lt)
    where
      at : (y : WordGuest) → y ≡ x → GuestStands o leaf p c s.world stands.memory.words (s.lps p) line y rs b → (give : Bool) → EnteredTurn leaf o.machine c cs line y rs b e ps q give
          → epoch_loaded (taken_in ps) % 2 ≡ parity_of (s.world.vps.entered x.vp)
      at y same i true t =
          let free = frees line.stage o.machine line (taken_in ps) t.stands e (subst IsAnsweredBy (sym i.answered) tt) (turn-of-taken o.machine line t.stands ps e t.turn) in
          let is-free = free.1 in
          cc
      at y same i false t =
          let line-at : ℕ = length rs + 1 in
          let now : Standing = running (step_leaf leaf y rs b) y.run in
          let first : Standing = standing (exit_tree place.machine y.tdr y.vp out) Trying [] None in
          let step-y : step_of (code_in codes) b.cached y ≡ guests.Leaves out = ap (step_of (code_in codes) b.cached) same ∙ step in
          let none-y : y.run ≡ None = ap (λ (z : WordGuest). z.run) same ∙ none in
          let begins : now ≡ first = (λ k. running (step_task given place y.tdr y.vp line-at (step-y k)) (none-y k)) in
          let a : Advances o.machine first (taken_in ps) t.stands e = subst (λ (z : Standing). TurnBy z.stage o.machine z (taken_in ps) t.stands e) begins (turn-of-taken o.machine now t.stands ps e t.turn) in
          let tree : IsLoaded o.machine.pages (exit_tree o.machine y.tdr y.vp out) a.loads a.tree = subst (λ (m : Machine). IsLoaded o.machine.pages (exit_tree m y.tdr y.vp out) a.loads a.tree) machine a.loaded in
          let loaded : epoch_loaded (taken_in ps) ≡ table.words (word_at y.vp VP_LAST_EPOCH) = loads-two o.machine y.tdr y.vp out first t.stands a.loads (taken_in ps) a.tree a.need e table after tree a.gives a.comes plays in
          let fits : GuestFits s.world p (s.lps p).call.held i.guest.tdr i.guest.vp = subst (GuestIsIn s.world p (s.lps p).call.held) i.is_in (runs.facts.guests p inside) in
          let vp : i.guest.vp ≡ y.vp = i.at.vp in
          let vp-x : i.guest.vp ≡ x.vp = vp ∙ ap (λ (z : WordGuest). z.vp) same in
          let page-in : i.guest.vp < o.machine.pages = subst (λ (n : ℕ). n < o.machine.pages) (sym vp-x) page in
          let here : table.words (word_at i.guest.vp VP_LAST_EPOCH) ≡ stands.memory.words (Word i.guest.vp VP_LAST_EPOCH) = stands.is.words (Word i.guest.vp VP_LAST_EPOCH) (page-in, omega arith) in
          let last : stands.memory.words (Word i.guest.vp VP_LAST_EPOCH) ≡ s.world.vps.lasts i.guest.vp =
          subst (λ (z : Option ℕ). IsAs z (stands.memory.words (Word i.guest.vp VP_LAST_EPOCH))) (last-shown s i.guest.tdr i.guest.vp fits.vp_page.kind fits.vp_page.owner fits.alive.life) (stands.shows.word (Word i.guest.vp VP_LAST_EPOCH) (page-in, omega arith)) in
          ap (λ (n : ℕ). n % 2) (loaded ∙ (ap (λ (v : ℕ). table.words (word_at v VP_LAST_EPOCH)) (sym vp) ∙ (here ∙ last)))
          ∙ (ap parity_of (sym fits.counted) ∙ ap (λ (v : ℕ). parity_of (s.world.vps.entered v)) vp-x)

-- a guest that is to be left has begun nothing
to-be-left : (m : Machine) (codes : List CodeSeen) (ts : List Translation) (n : ℕ) (guest : Option GuestAt) (run : Option Running) (k : StepRun) (x : WordGuest) (out : Outcome) → KeepsGuest m codes ts n guest run k → guest_in guest k ≡ Some x
    → step_of (code_in codes) ts x ≡ guests.Leaves out → (x.run ≡ None) × (x.vp < m.pages)
to-be-left m codes ts n None run k x out keeps is step = cc
to-be-left m codes ts n (Some g) None k x out keeps is step = absurd keeps
to-be-left m codes ts n (Some g) (Some r) k x out keeps is step =
    let y : WordGuest = guest_seen g (step_run_seen k) in
    let same : y ≡ x = cc in
    let due : next_in ts g None ≡ guests.Leaves out =
    sym (run-same (code_in codes) ts (guest_seen g None) (step_run_seen k) ∙ step-is (code_in codes) ts g None keeps.1.list) ∙ (ap (step_of (code_in codes) ts) same ∙ step) in (
      ap (λ (z : WordGuest). z.run) (sym same) ∙ none-is (step_run_seen k) (keeps.1.alone (ap step_tries due)),
      subst (λ (z : WordGuest). z.vp < m.pages) same keeps.1.vp,
    )

pub exit-epoch : (o : Opening) (s : State) (p : ℕ) (l l' : LpState) (table after : Table) (given : Given) (e : RunEvent) (ps : List Piece) (v : ℕ) → IsProcessor o p l → IsRunning o s → p < s.lp_count
    → (let place : Place = record { machine = o.machine; lp = p } in StandsOn o (place_table place given (code_in l.codes.now)) p s table (seen_of l) → LpTurns (place_table place given (code_in l.codes.now)) o.machine (seen_of l) e ps (seen_of l')
    → PlaysTo table (taken_in ps) after → IsExitOf o (seen_of l) e v → epoch_loaded (taken_in ps) % 2 ≡ parity_of (s.world.vps.entered v))
exit-epoch o s p l l' table after given e ps v is runs inside stands lt plays exit =
    let at : WordLp = seen_of l in
    let machine : l.place.machine ≡ o.machine = ap (λ (z : Place). z.machine) is.place in
    let step : step_of (code_in l.codes.now) l.cached exit.guest ≡ guests.Leaves exit.outcome = ap (λ (c : ℕ → ℕ → List _). step_of c l.cached exit.guest) (λ i. λ (td n : ℕ). is.codes td n i) ∙ exit.step in
    let left = to-be-left l.place.machine l.codes.now l.cached (length l.replies.items + 1) l.guest l.run.other l.step_run exit.guest exit.outcome l.inside exit.is_in step in
    exit-at o s p table after (record { machine = o.machine; lp = p }) given l.codes.now e ps runs inside plays refl at.lines at.run at.guest at.replies at.beside (seen_of l') exit.guest exit.outcome exit.is_in left.0
    (subst (λ (m : Machine). exit.guest.vp < m.pages) machine left.1) step exit.acts stands lt
    ∙ ap (λ (n : ℕ). parity_of (s.world.vps.entered n)) exit.vp_is
