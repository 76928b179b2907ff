-- Each turn of a guest's step lowers how many events its processor can still give.
use Rattle.std.proofs.Common.{◌≡◌, ℕ, zero, suc, ◌-◌, ◌*◌, ◌<◌, ◌≤◌, Bool, true, false, List, Option, Some, None, refl, ap, sym, ◌∙◌, subst, arith}
use Rattle.std.proofs.lemmas.Bool.{leb-false}
use Rattle.td_words.specs.declared.names.Access.{Access}
use Rattle.td_words.specs.declared.names.Access.TheVariants.{Read, Write}
use Rattle.td_words.specs.declared.calls.GuestOp.{GuestOp}
use Rattle.td_words.specs.declared.refusals.Status.TheVariants.{OperandBusy}
use Rattle.td_words.specs.declared.replies.Outcome.{Outcome}
use Rattle.td_words.specs.declared.replies.Outcome.TheVariants.{Vmcall, Busy}
use Rattle.td_words.specs.declared.replies.Value.TheVariants as value
use Rattle.td_words.specs.declared.replies.Reply.{Reply}
use Rattle.td_words.specs.declared.replies.Reply.TheVariants.{Done, Refused, Exited}
use Rattle.flat_core.specs.Processor.{Translation, Walk}
use Rattle.flat_core.specs.Tree.{page_of_gpa}
use Rattle.flat_core.specs.Table.{operation_events}
use Rattle.flat_core.specs.Translations.{look_up, cache, allows_access}
use Rattle.flat_core.specs.Guest.{cached_after}
use Rattle.flat_core.proofs.Cached.{cached_found}
use Rattle.leaf_engine.specs.Turns.{Standing}
use Rattle.leaf_engine.specs.Guests.{WordGuest, Step, Accesses, Loads, named_page, is_right, private_step, step_of, exited_with, operated, walked, loaded}
use Rattle.access_core.specs.WalkTrees.{goes_on_by, translation_by}
use Rattle.leaf_dispatch.specs.Bounds.{step_used, guest_left}
use Rattle.leaf_dispatch.specs.Guests.{is_outcome}
use Rattle.leaf_dispatch.proofs.StepTurns.{left-is, passes-lower, leaving-lower}
use Rattle.leaf_dispatch.proofs.Walking.{WalkDue}

module _ (codes : ℕ → ℕ → List GuestOp) (ts : List Translation) (g : WordGuest) (s : Step) (is : step_of codes ts g ≡ s) (stays : g.leaving ≡ None) (more : g.completed < g.most) (few : step_used s g.run < 5) where
  -- an operation that has its reply
  pub operated-lower : (us : List Translation) (r : Reply) → is_outcome r ≡ true → guest_left codes us (operated r g) < guest_left codes ts g
  operated-lower us (Done v) fits = passes-lower codes ts us g s stays more is few
  operated-lower us (Exited (Vmcall x)) fits = rw (left-is codes ts g s stays is) (omega (arith, more, few))
  operated-lower us (Exited o) fits = exits o
    where
      exits : (o : Outcome) → guest_left codes us (exited_with o g) < guest_left codes ts g
      exits (Vmcall x) = rw (left-is codes ts g s stays is) (omega (arith, more, few))
      exits o = rw (left-is codes ts g s stays is) (omega (arith, more, few))
  operated-lower us (Refused (OperandBusy n)) fits = leaving-lower codes ts us g (Busy n) s stays more is few
  operated-lower us (Refused st) fits = cc

-- the load of an entry

write-allows : (access : Access) (t gpa seen : ℕ) → is_right access zero seen ≡ true → allows_access access (translation_by t gpa seen) ≡ true
write-allows Read t gpa seen h = refl
write-allows Write t gpa seen h = h

goes-right : (access : Access) (level seen : ℕ) → goes_on_by access level seen ≡ is_right access level seen
goes-right access (suc level) seen = refl
goes-right Read zero seen = refl
goes-right Write zero seen = refl

module _ (codes : ℕ → ℕ → List GuestOp) (ts : List Translation) (g : WordGuest) (access : Access) (gpa level page : ℕ) (is : step_of codes ts g ≡ Loads access gpa level page) (due : WalkDue codes ts g access gpa level) (low : level ≤ 3) where
  more : g.completed < g.most
  more = leb-false g.most g.completed due.more

  before : guest_left codes ts g ≡ operation_events * (g.most - g.completed) - (3 - level)
  before = left-is codes ts g (Loads access gpa level page) due.stays is

  -- its step then, by what is cached
  then-is : (us : List Translation) (k : Option Walk) (run : Option Standing) (s : Step) → let h = record g { walk = k; run = run } in private_step h access due.register gpa (look_up us g.tdr (page_of_gpa gpa) access) ≡ s
      → guest_left codes us h ≡ operation_events * (g.most - g.completed) - step_used s run
  then-is us k run s e = left-is codes us (record g { walk = k; run = run }) s due.stays (due.again us k run ∙ e)

  -- it goes on, is done, or is an EPT violation
  by-level : (n : ℕ) → level ≡ n → (seen : ℕ) (right : Bool) → is_right access n seen ≡ right → guest_left codes (cached_after right n (translation_by g.tdr gpa seen) ts) (walked access gpa n seen right g) < guest_left codes ts g
  by-level zero at seen true e =
      let found = cached_found (translation_by g.tdr gpa seen) ts access (write-allows access g.tdr gpa seen e) in
      let after = then-is (cache (translation_by g.tdr gpa seen) ts) None None (Accesses access due.register gpa (named_page seen)) (ap (private_step (record g { walk = None; run = None }) access due.register gpa) found) in
      rw (before, after) (let m = more in omega (arith, m, at))
  by-level (suc n) at seen true e =
      let k : Walk = record { gpa_page = page_of_gpa gpa; level = n; page = named_page seen } in
      let after = then-is ts (Some k) None (Loads access gpa n (named_page seen)) (ap (private_step (record g { walk = Some k; run = None }) access due.register gpa) due.none) in
      rw (before, after) (let m = more in omega (arith, m, at, low))
  by-level zero at seen false e = rw before (let m = more in omega (arith, m))
  by-level (suc n) at seen false e = rw before (let m = more in omega (arith, m))

  pub loaded-lower : (seen : ℕ) → guest_left codes (cached_after (goes_on_by access level seen) level (translation_by g.tdr gpa seen) ts) (loaded access gpa level (Done (value.Number seen)) g) < guest_left codes ts g
  loaded-lower seen =
      subst (λ (b : Bool). guest_left codes (cached_after b level (translation_by g.tdr gpa seen) ts) (loaded access gpa level (Done (value.Number seen)) g) < guest_left codes ts g) (sym (goes-right access level seen))
      (by-level level refl seen (is_right access level seen) refl)
