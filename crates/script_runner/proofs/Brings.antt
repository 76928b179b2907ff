-- What a run seals comes over as it was made.
use Rattle.std.proofs.Common.{◌≡◌, ◌≢◌, refl, sym, ◌∙◌, ap, subst, ℕ, List, ◌++◌, map, get_or, Option, Some, None, Ok, Result, slice_index}
use Rattle.td_words.specs.Seen.{BundleSeen}
use Rattle.flat_core.specs.World.{Made}
use Rattle.flat_core.specs.Opening.{Opening}
use Rattle.flat_core.specs.Run.{run, bundles_in, to_the_end}
use Rattle.bundle_texts.specs.Sealed.{sealed}
use Rattle.bundle_texts.specs.Ordered.{FitContainer, in_slot_order}
use Rattle.bundle_store.specs.Containers.{container_in}
use Rattle.bundle_store.specs.declared.outside.PutFault.{PutFault}
use Rattle.bundle_store.specs.Outside.{IsSaved, SavesTold}
use Rattle.bundle_store.specs.History.{Loaded, Put, Writes}
use Rattle.incoming.specs.Arrivals.{SlotIncoming, incoming_in, at_slot}
use Rattle.image_laws.specs.Containers.{brought, AreWhole, ComeOf}
use Rattle.script_text.specs.Seen.{ScriptSeen}
use Rattle.script_text.specs.Laws.{IsInForm}
use Rattle.script_words.specs.Given.{AreInputWords, ComeInAsWords}
use Rattle.run_texts.specs.Sealing.{bundles_text}
use Rattle.run_texts.proofs.Making.{fit-run}
use Rattle.command_files.specs.declared.inputs.Inputs.{Inputs}
use Rattle.command_files.specs.declared.inputs.KeyBytes.{KeyBytes}
use Rattle.flat_core.specs.GuestText.{guest_text}
use Rattle.command_files.specs.Commands.{CommandSeen}
use Rattle.script_runner.specs.Ending.{Ended, HandedOut, file_named, both_files, run_end, keys_or_none, opening_by, handed_held}
use Rattle.script_runner.specs.Saving.{Saves, AllSaved}
use Rattle.script_runner.specs.Ends.{OneRun}
use Rattle.script_runner.specs.Done.{PutsRun}
use Rattle.script_runner.specs.Commanded.{handed_in}
use Rattle.script_runner.specs.Brings.{HandsWords, sealed_by, IsHandedOn, BringsOver, FileBringsOver, CarryingLaws}
use Rattle.script_runner.proofs.Named.{success_of}

same_list : (a b : List BundleSeen) (r : Result (List BundleSeen) ℕ) → r ≡ Ok a → r ≡ Ok b → a ≡ b
same_list a b r e f = let same = sym e ∙ f in cc

module _ (laws : CarryingLaws) (handed : HandedOut) (s : ScriptSeen) (form : IsInForm s) (fit : HandsWords handed) (schedule : List ℕ) where
  abbrev o : Opening
  o = opening_by handed s

  abbrev made : List Made
  made = bundles_in (run o schedule)

  fits : FitContainer made
  fits = fit-run laws.lines o schedule form.slots form.apart

  abbrev sealed_there : List BundleSeen
  sealed_there = map (sealed handed.keys.forward handed.keys.backward) (in_slot_order made)

  -- its container is read as its bundles, sealed
  read_back : container_in (sealed_by handed s schedule) ≡ Ok sealed_there
  unfolding bundles_text
  read_back = laws.read_again.container handed.keys.forward handed.keys.backward made fits

  abbrev HandedOn : HandedOut → Type 0
  HandedOn other = IsHandedOn handed (sealed_by handed s schedule) other

  read_there : (other : HandedOut) → HandedOn other → other.bundles ≡ sealed_there
  read_there other on = same_list other.bundles sealed_there (container_in (sealed_by handed s schedule)) on.container read_back

  comes_there : (other : HandedOut) (script : ScriptSeen) → HandedOn other → (slot : ℕ) → (opening_by other script).bundles slot ≡ brought handed.keys.forward handed.keys.backward made slot
  comes_there other script on slot =
      ap (λ (k : KeyBytes). at_slot (map (incoming_in k.forward k.backward) other.bundles) slot) on.keys
      ∙ ap (λ (bs : List BundleSeen). at_slot (map (incoming_in handed.keys.forward handed.keys.backward) bs) slot) (read_there other on)

  of_there : (other : HandedOut) (script : ScriptSeen) → HandedOn other → ComeOf handed.keys.forward handed.keys.backward made (opening_by other script).bundles
  of_there other script on slot b is = sym (comes_there other script on slot) ∙ is

  pub brings_over : BringsOver handed s schedule (sealed_by handed s schedule)
  brings_over =
      let given = laws.gives o s form (record { calls = refl; codes = refl }) fit in
      let whole : AreWhole made = laws.whole o None (schedule ++ to_the_end 0 o.calls) given.1 given.0 tt in
      let come = laws.come handed.keys.forward handed.keys.backward made whole fits.apart in
      record {
        container = (sealed_there, read_back);
        bundles = λ other script on k d inside. comes_there other script on (get_or made k d).slot ∙ come k d inside;
        unforged = λ other script on. laws.forged handed.keys.forward handed.keys.backward made whole (opening_by other script) (of_there other script on);
        images = λ other script on events session start noted. laws.images handed.keys.forward handed.keys.backward o None (schedule ++ to_the_end 0 o.calls) given.1 whole (opening_by other script) None events (of_there other script on) session start noted;
      }

pub of_run : CarryingLaws → (c : Option CommandSeen) (loads loads' : List Loaded) (puts puts' : List Put) (answer : Result (Unit {0}) PutFault) → (run : PutsRun c loads loads' puts puts' answer)
    → BringsOver run.handed run.script run.order (sealed_by run.handed run.script run.order)
of_run laws c loads loads' puts puts' answer run = brings_over laws run.handed run.script (laws.forms.in_form run.given.items run.script run.reads) run.handed_out.fit run.order

pub in-put : CarryingLaws → (c : Option CommandSeen) (loads loads' : List Loaded) (puts puts' : List Put) (answer : Result (Unit {0}) PutFault) → PutsRun c loads loads' puts puts' answer
    → (run : PutsRun c loads loads' puts puts' answer) × BringsOver run.handed run.script run.order (sealed_by run.handed run.script run.order)
in-put laws c loads loads' puts puts' answer run = (run, of_run laws c loads loads' puts puts' answer run)

-- ---- the file that the container was saved in

-- behind a save it is still told what names have
saved_there : (old : List ℕ → Option (List ℕ)) (name bytes : List ℕ) (w m : Writes) → w.contents ≡ Some old → Saves name bytes w (Ok tt) m
    → (new : List ℕ → Option (List ℕ)) × (m.contents ≡ Some new) × IsSaved old name bytes new
saved_there old name bytes w m told saves = by m.contents refl (subst (λ (x : Option (List ℕ → Option (List ℕ))). SavesTold x name bytes m.contents) told saves.told)
  where
    by : (x : Option (List ℕ → Option (List ℕ))) → m.contents ≡ x → SavesTold (Some old) name bytes x → (new : List ℕ → Option (List ℕ)) × (m.contents ≡ Some new) × IsSaved old name bytes new
    by None is h = absurd h
    by (Some new) is h = (new, is, h)

-- what it has stays where the guest file has another name
stays_there : (guest : Option (List ℕ)) (text name bytes : List ℕ) → guest ≢ Some name → (old : List ℕ → Option (List ℕ)) (w w' : Writes) → w.contents ≡ Some old → old name ≡ Some bytes → AllSaved (file_named guest text) w w'
    → (new : List ℕ → Option (List ℕ)) × (w'.contents ≡ Some new) × (new name ≡ Some bytes)
stays_there None text name bytes apart old w w' told there same = (old, ap (λ (x : Writes). x.contents) same ∙ told, there)
stays_there (Some g) text name bytes apart old w w' told there (m, saves, same) =
    let (new, is, saved) = saved_there old g text w m told saves in
    (new, ap (λ (x : Writes). x.contents) same ∙ is, saved.others name (λ e. apart (ap (λ (x : List ℕ). Some x) (sym e))) ∙ there)

-- so the container's file has the container behind both
both_there : (container guest : Option (List ℕ)) (made text name : List ℕ) → container ≡ Some name → guest ≢ Some name → (old : List ℕ → Option (List ℕ)) (w w' : Writes) → w.contents ≡ Some old → AllSaved (both_files container guest made text) w w'
    → (new : List ℕ → Option (List ℕ)) × (w'.contents ≡ Some new) × (new name ≡ Some made)
both_there None guest made text name named apart old w w' told all = absurd (cc)
both_there (Some x) guest made text name named apart old w w' told (m, saves, all) =
    let same : x ≡ name = cc in
    let (new, is, saved) = saved_there old x made w m told saves in
    stays_there guest text name made apart new m w' is (subst (λ (z : List ℕ). new z ≡ Some made) same saved.there) all

file_brings : CarryingLaws → (held : List ℕ → Option (List ℕ)) (c : Option CommandSeen) (old new : Option (List ℕ)) (w w' : Writes) → w.contents ≡ Some held → (run : OneRun held c old new w w')
    → FileBringsOver run.command w'.contents (handed_held held run.command) run.script run.order
file_brings laws held c old new w w' told run n name has named apart =
    let handed : HandedOut = handed_held held run.command in
    let saves : AllSaved (run_end n run.script handed run.order).files w w' = subst (λ (e : Ended). AllSaved e.files w w') (success_of run.command n run.script handed run.order has) run.saves in
    let (files, is, there) = both_there n.out_bundles n.guest_out (sealed_by handed run.script run.order) (guest_text handed.report_key (opening_by handed run.script) run.order) name named apart held w w' told saves in
    (files, is, there, brings_over laws handed run.script (laws.forms.in_form run.bytes run.script run.reads) run.words run.order)

pub in-one : CarryingLaws → (held : List ℕ → Option (List ℕ)) (c : Option CommandSeen) (old new : Option (List ℕ)) (w w' : Writes) → w.contents ≡ Some held → OneRun held c old new w w'
    → (run : OneRun held c old new w w') × FileBringsOver run.command w'.contents (handed_held held run.command) run.script run.order
in-one laws held c old new w w' told run = (run, file_brings laws held c old new w w' told run)

-- inputs hand words out: their secret words, and what their bundles open to
pub hands_words : (inputs : Inputs) (secrets forward backward : List ℕ) (bundles again : List BundleSeen) (opened : List SlotIncoming) → secrets ≡ inputs.secrets.items → again ≡ inputs.bundles.items → bundles ≡ inputs.bundles.items
    → forward ≡ (keys_or_none inputs.keys).forward → backward ≡ (keys_or_none inputs.keys).backward → opened ≡ map (incoming_in forward backward) bundles → ComeInAsWords secrets opened again → HandsWords (handed_in inputs)
hands_words inputs secrets forward backward bundles again opened same same' same'' f b is come =
    let keys = keys_or_none inputs.keys in
    let there : opened ≡ map (incoming_in keys.forward keys.backward) inputs.bundles.items = is ∙ (λ i. map (incoming_in (f i) (b i)) (same'' i)) in
    let own : ComeInAsWords inputs.secrets.items opened inputs.bundles.items =
    subst (λ (x : List ℕ). ComeInAsWords x opened inputs.bundles.items) same (subst (λ (x : List BundleSeen). ComeInAsWords secrets opened x) same' come) in
    subst (λ (x : List SlotIncoming). AreInputWords (slice_index inputs.secrets.items) (at_slot x)) there (own keys.forward keys.backward there)
