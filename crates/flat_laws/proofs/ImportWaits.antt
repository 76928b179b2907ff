-- What IMPORT.MEM takes of the host's is a page of a TD that has not run here.
use Rattle.std.proofs.Common.{◌≡◌, refl, sym, ◌∙◌, ap, subst, inr, ℕ, List, [], ◌∷◌, Option, true, ◌==◌}
use Rattle.std.proofs.lemmas.Bool.{eqb-true}
use Rattle.td_words.specs.declared.names.OpState.{OpState}
use Rattle.td_words.specs.declared.names.EntryState.{EntryState}
use Rattle.td_words.specs.declared.names.EntryState.TheVariants as entry
use Rattle.td_words.specs.declared.machines.Machine.{Machine}
use Rattle.flat_core.specs.World.{World}
use Rattle.flat_core.specs.Opening.{Incoming}
use Rattle.flat_core.specs.Row.{Passes}
use Rattle.flat_core.specs.Conditions.{is_host_in}
use Rattle.flat_core.specs.Tree.{entry_at}
use Rattle.flat_core.specs.Inputs.{Input, input_in}
use Rattle.flat_core.specs.Access.{has_not_run}
use Rattle.flat_core.specs.ImportRows.{fill_page, take_in, take_each, import_pages}
use Rattle.flat_core.specs.PageLists.{page_count, Arrival, arrivals}
use Rattle.flat_core.proofs.Tests.{by_test, host_kind}
use Rattle.flat_core.proofs.ImportKeeps.{take_passed}
use Rattle.flat_core.proofs.ImportStates.{filling_not_run}
use Rattle.flat_laws.proofs.Waits.{WaitsWherePrivate, host-not-private}

filled-waits : (w : World) (q t : ℕ) (a : Arrival) → WaitsWherePrivate w q → has_not_run (w.tds.ops t) ≡ true → (s : EntryState)
    → WaitsWherePrivate (fill_page t a.gpa a.page a.words s w) q
filled-waits w q t a h new entry.Free e = by_test (q == a.page)
    (λ y. inr (rw y new))
    (λ n. by_test (w.pages.owners q == t)
    (λ o. inr (rw n (subst (λ (u : ℕ). has_not_run (w.tds.ops u) ≡ true) (sym (eqb-true (w.pages.owners q) t o)) new)))
    (λ o. rw (n, o) (h (rw n at e))))
filled-waits w q t a h new _ e = h e

same-ops : (w : World) (t : ℕ) (a : Arrival) (s : EntryState) → (fill_page t a.gpa a.page a.words s w).tds.ops ≡ w.tds.ops
same-ops w t a entry.Free = refl
same-ops w t a _ = refl

each-waits : (q t : ℕ) (pages : List Arrival) (w : World) → WaitsWherePrivate w q → has_not_run (w.tds.ops t) ≡ true → WaitsWherePrivate (take_each t pages w) q
each-waits q t [] w h new = h
each-waits q t (a ∷ pages) w h new =
    let s : EntryState = (entry_at w t 0 a.gpa).state in
    each-waits q t pages (take_in t a w) (λ e. filled-waits w q t a h new s e) (ap (λ (f : ℕ → OpState). has_not_run (f t)) (same-ops w t a s) ∙ new)

pub import_pages-waits : (m : Machine) (b : Option Incoming) (t slot page : ℕ) (count : Option ℕ) (w : World) (q : ℕ) → is_host_in w.pages q ≡ true
    → Passes ((import_pages m b t slot page count).items w) → WaitsWherePrivate ((import_pages m b t slot page count).act w) q
import_pages-waits m b t slot page count w q host ps e =
    let x : Input = input_in b in
    let p = take_passed m b w t slot page count ps in
    each-waits q t (arrivals x.header.gpa page x.words (page_count count)) w (λ k. absurd (host-not-private (w.pages.kinds q) (host_kind _ host) k))
    (filling_not_run (w.tds.ops t) p.td.op) e
