-- The leaf that takes a token means its row.
use Rattle.std.proofs.Common.{◌≡◌, ℕ, ◌%◌, ◌^◌, ◌<◌, ◌≤◌, Bool, true, false, ◌==◌, nat_lt, Option, List, [], ◌∷◌, ◌++◌, length, refl, sym, subst, arith}
use Rattle.std.specs.List.{list_any, sum_by}
use Rattle.std.proofs.lemmas.Bool.{ltb-true}
use Rattle.td_words.specs.declared.names.OpState.{OpState}
use Rattle.td_words.specs.declared.names.HeaderField.TheVariants as field
use Rattle.td_words.specs.declared.machines.Machine.{Machine}
use Rattle.td_words.specs.declared.refusals.Status.TheVariants.{OperandInvalid, BundleHeader, TokenTotal}
use Rattle.td_words.specs.declared.replies.Reply.{Reply}
use Rattle.td_words.specs.NameNumber.{op_number}
use Rattle.flat_core.specs.World.{World, ClearHeader}
use Rattle.flat_core.specs.Processor.{Held}
use Rattle.flat_core.specs.Row as row
use Rattle.flat_core.specs.Row.{Item}
use Rattle.flat_core.specs.Lawful.{Lawful, is_importing}
use Rattle.flat_core.specs.Opening.{Incoming}
use Rattle.flat_core.specs.Sessions.{stream_page, stream_counter, bundles_so_far}
use Rattle.flat_core.specs.Inputs.{Input, input_in, header_says, session_same, counter_due, tag_holds}
use Rattle.flat_core.specs.ImportRows.{is_start, import_token_ops, epoch_due, import_token}
use Rattle.flat_core.proofs.ImportKeeps.{filling_importing, vp_state_importing}
use Rattle.word_rules.specs.Cells.{Shows}
use Rattle.leaf_engine.specs.declared.needs.Place.{Place}
use Rattle.leaf_engine.specs.Trees.{Tree, needs}
use Rattle.leaf_engine.specs.Means.{Instant, Means, MeansRow, Work, work_of, OfCall}
use Rattle.leaf_parts.proofs.Begun.{IsTd}
use Rattle.stream_parts.specs.declared.rooms.Room.{Room}
use Rattle.stream_parts.specs.Streams.{sum_tree}
use Rattle.stream_parts.proofs.StreamSums.{sum-fits}
use Rattle.stream_parts.proofs.StreamMeans.{HoldsAlone, pages-means, sum-means, mig_epoch-means}
use Rattle.import_parts.specs.InputTrees.{input_checks, counter_due_tree, tag_tree}
use Rattle.stream_parts.proofs.AloneMeans.{alone_locks, alone-head, alone-own, alone-row-means}
use Rattle.import_parts.proofs.InputMeans.{session_same-means, counter_due-means}
use Rattle.import_core.specs.TokenTrees.{token_epoch_tree, total_same_tree, token_due_tree, import_token_end, import_token_task}
use Rattle.import_core.specs.TokenShows.{token-ended}

module _ (m : Machine) (c : Instant) (k : Work) (t : ℕ) (la : Lawful m c.state.world) (sh : Shows m c.memory.words c.memory.slots c.state) (ops : List OpState) (x : IsTd m c.state.world t ops) (first : 0 < length (c.state.world.tds.streams t)) (h : ClearHeader) where
  abbrev w : World
  w = c.state.world

  abbrev d : ℕ
  d = x.controls.tdcs

  abbrev held : List Held
  held = alone_locks t

  abbrev Mean : Tree → List (Item Reply) → Type 0
  Mean tree rest = Means m c k held tree rest

  own : HoldsAlone (held ++ c.kept) t
  own = alone-own t c.kept

  abbrev epoch_item : Item Reply
  epoch_item = header_says (h.epoch == epoch_due (is_start h) (c.state.world.tds.mig_epochs t)) field.Epoch

  abbrev total_item : Item Reply
  total_item = row.needs (bundles_so_far c.state.world t == h.total) (TokenTotal (bundles_so_far c.state.world t) h.total)

  -- the epoch that it begins
  token_epoch-means : (further : Tree) (rest : List (Item Reply)) → Mean further rest → Mean (token_epoch_tree d h further) (epoch_item ∷ rest)
  token_epoch-means further rest end =
      mig_epoch-means m c k held t la sh x.alive x.controls (alone-head t c.kept) (λ epoch. needs (h.epoch == epoch_due (is_start h) epoch) (BundleHeader field.Epoch) further) (epoch_item ∷ rest) (refl, λ e. refl, λ e. end)

  -- how many bundles came before it
  total_same-means : (further : Tree) (rest : List (Item Reply)) → Mean further rest → Mean (total_same_tree m.pages d h further) (total_item ∷ rest)
  total_same-means further rest end =
      let few : length (w.tds.streams t) ≤ 4 = la.tds.streams_few t in
      let fits : sum_by w.streams.counters (w.tds.streams t) % 2 ^ 64 ≡ bundles_so_far w t = sum-fits w.streams.counters
      (λ q. (let own = la.streams.counter q in omega (arith, own))) (w.tds.streams t) few in
      let tested : ℕ → Tree = λ total. needs (total == h.total) (TokenTotal total h.total) further in
      pages-means m c k held t la sh x.alive x.controls own (λ streams. sum_tree 0 streams.items tested) (total_item ∷ rest)
      (sum-means m c k held t la sh x.alive x.controls own 0 w.streams.counters (omega arith) (λ q. refl) refl tested (total_item ∷ rest)
      (subst (λ (n : ℕ). Mean (tested n) (total_item ∷ rest)) (sym fits) (refl, λ e. refl, λ e. end)))

  -- all that is due of it
  token_due-means : (i : Input) (further : Room → Tree) (rest : List (Item Reply)) → Mean (further (record { page = stream_page w t 0; counter = stream_counter w t 0 })) rest
      → Mean (token_due_tree m.pages d h i further) (session_same w t h ∷ epoch_item ∷ counter_due (stream_counter w t 0) h ∷ tag_holds i ∷ total_item ∷ rest)
  token_due-means i further rest end =
      let last : Room → Tree = λ room. tag_tree i (total_same_tree m.pages d h (further room)) in
      let its : Room = record { page = stream_page w t 0; counter = stream_counter w t 0 } in
      session_same-means m c k held t la sh x.alive x.controls own h (token_epoch_tree d h (counter_due_tree m.pages d 0 h last)) (epoch_item ∷ counter_due (stream_counter w t 0) h ∷ tag_holds i ∷ total_item ∷ rest)
      (λ e. token_epoch-means (counter_due_tree m.pages d 0 h last) (counter_due (stream_counter w t 0) h ∷ tag_holds i ∷ total_item ∷ rest)
      (counter_due-means m c k held t la sh x.alive x.controls own h 0 first last (tag_holds i ∷ total_item ∷ rest)
      (λ e. (refl, λ e. refl, λ e. total_same-means (further its) rest end))))

importing : (start : Bool) (s : OpState) → list_any (λ a. op_number a == op_number s) (import_token_ops start) ≡ true → is_importing s ≡ true
importing true s h = vp_state_importing s h
importing false s h = filling_importing s h

pub import_token-means : (p : Place) (b : Option Incoming) (t slot : ℕ) → MeansRow (import_token_task p b t slot)
import_token-means p b t slot = record {
  means = λ c at. (let m : Machine = p.machine in let i : Input = input_in b in let h : ClearHeader = i.header in let k : Work = work_of (OfCall (import_token m b t slot)) in let w : World = c.state.world in
      alone-row-means m c k t at.lawful at.shown ((nat_lt t m.pages, OperandInvalid 1) ∷ input_checks i slot (4 ∷ 5 ∷ [])) (λ a. ltb-true t m.pages a.0) (import_token_ops (is_start h)) (λ d. token_due_tree m.pages d h i (import_token_end h d))
      (session_same w t h ∷ header_says (h.epoch == epoch_due (is_start h) (w.tds.mig_epochs t)) field.Epoch ∷ counter_due (stream_counter w t 0) h ∷ tag_holds i ∷ row.needs (bundles_so_far w t == h.total) (TokenTotal (bundles_so_far w t) h.total) ∷ [])
      (λ a x. (let first : 0 < length (w.tds.streams t) = at.lawful.sessions.import_stream t (importing (is_start h) (w.tds.ops t) x.op) in
      token_due-means m c k t at.lawful at.shown (import_token_ops (is_start h)) x first h i (import_token_end h x.controls.tdcs) []
      (token-ended m c t (is_start h) at.lawful at.shown x first h.epoch (import_token m b t slot).items))));
}
