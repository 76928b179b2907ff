-- Without others no try of a row is denied: what the parts that rows share try isn't held.
use Rattle.std.proofs.Common.{◌≡◌, refl, sym, ◌∙◌, ap, subst, ℕ, List, [], ◌∷◌, ◌++◌, length, map, Bool, true, false, not, ◌==◌, ◌&&◌, nat_lt}
use Rattle.std.specs.List.{list_any}
use Rattle.std.proofs.lemmas.Bool.{and_parts, eqb-true, ne_eqb, ltb-true}
use Rattle.td_words.specs.declared.names.ReadField.{ReadField}
use Rattle.td_words.specs.declared.names.ReadField.TheVariants as field
use Rattle.td_words.specs.declared.names.Mode.{Mode}
use Rattle.td_words.specs.declared.names.Mode.TheVariants.{Shared, Exclusive}
use Rattle.td_words.specs.declared.replies.Reply.{Reply}
use Rattle.td_words.specs.declared.replies.Reply.TheVariants.{Refused}
use Rattle.td_words.specs.declared.refusals.Status.TheVariants.{EptWalkFailed}
use Rattle.td_words.specs.declared.machines.Machine.{Machine}
use Rattle.td_words.specs.declared.names.PageKind.TheVariants as kind
use Rattle.td_words.specs.declared.names.LifeState.TheVariants as life
use Rattle.td_words.specs.declared.names.OpState.{OpState}
use Rattle.td_words.specs.declared.names.OpState.TheVariants as op
use Rattle.td_words.specs.NameNumber.{life_number}
use Rattle.td_words.specs.declared.names.EntryState.{EntryState}
use Rattle.td_words.specs.declared.names.EntryState.TheVariants as entry
use Rattle.flat_core.specs.Tree.{number_at, entry_at, same_state, is_passed, levels_above}
use Rattle.flat_core.specs.MemRows.{named_row}
use Rattle.flat_core.specs.Sessions.{stream_page}
use Rattle.flat_core.specs.BundleRows.{tracked_in}
use Rattle.flat_core.specs.ExportRows.{opened_row}
use Rattle.flat_core.specs.Conditions.{same_kind}
use Rattle.flat_core.specs.Lawful.{Lawful, IsAlive, is_free}
use Rattle.flat_core.specs.World.{World}
use Rattle.flat_core.specs.Processor.{LockId, OfPage, OfOp, OfTree, OfEpoch, Held}
use Rattle.flat_core.specs.Locks.{alone_in, shared_in}
use Rattle.flat_core.specs.Row.{Item, Check, Try}
use Rattle.flat_core.specs.TdRows.{read_conditions}
use Rattle.flat_core.specs.KeyRows.{reclaim_conditions}
use Rattle.flat_core.proofs.Tests.{same_self, tdr_kind}
use Rattle.flat_core.proofs.Maps.{unlisted, node_named}
use Rattle.flat_core.proofs.Streams.{stream_owned}
use Rattle.flat_core.proofs.Blind.{is_living}

-- how often it shares a lock that it tries to hold alone; one that it tries to share it may share already
abbrev pub shared_for : Mode → LockId → List Held → ℕ
shared_for Shared l hs = 0
shared_for Exclusive l hs = shared_in l hs

-- a lock that is tried isn't held yet as the try forbids, where the conditions before it hold
abbrev pub FreeTries : List Held → List (Item Reply) → Type 0
FreeTries hs [] = Unit {0}
FreeTries hs (Check b r ∷ items) = b ≡ true → FreeTries hs items
FreeTries hs (Try l m ∷ items) = (alone_in l hs ≡ 0) × (shared_for m l hs ≡ 0) × FreeTries (record { lock = l; mode = m } ∷ hs) items

-- the same as a test, for rows whose locks tell it, whatever their conditions
abbrev pub fits : List Held → List (Item Reply) → Bool
fits hs [] = true
fits hs (Check b r ∷ items) = fits hs items
fits hs (Try l m ∷ items) = alone_in l hs == 0 && (shared_for m l hs == 0 && fits (record { lock = l; mode = m } ∷ hs) items)

pub free_by : (hs : List Held) (items : List (Item Reply)) → fits hs items ≡ true → FreeTries hs items
free_by hs [] h = tt
free_by hs (Check b r ∷ items) h = λ e. free_by hs items h
free_by hs (Try l m ∷ items) h =
    let (alone, rest) = and_parts (alone_in l hs == 0) _ h in
    let (shared, more) = and_parts (shared_for m l hs == 0) _ rest in
    (eqb-true _ _ alone, eqb-true _ _ shared, free_by (record { lock = l; mode = m } ∷ hs) items more)

-- a page that isn't the TDR page
pub other_page : (page tdr : ℕ) → not (page == tdr) ≡ true → (tdr == page) ≡ false
other_page page tdr h = ne_eqb tdr page (λ e. absurd (let no : not (tdr == tdr) ≡ true = subst (λ (x : ℕ). not (x == tdr) ≡ true) (sym e) h in let yes : (tdr == tdr) ≡ true = same_self tdr in let bad : false ≡ true = rw yes at no in cc))

pub free_reclaim : (w : World) (tdr page : ℕ) (b : Bool) → (page == tdr) ≡ b → FreeTries (record { lock = OfPage tdr; mode = Exclusive } ∷ []) (reclaim_conditions w tdr page b)
free_reclaim w tdr page true e = λ h. tt
free_reclaim w tdr page false e = let n : (tdr == page) ≡ false = other_page page tdr (rw e refl) in (rw n refl, refl, λ h. tt)

pub free_read : (w : World) (tdr : ℕ) (f : ReadField) → FreeTries [] (read_conditions w tdr f)
free_read w tdr field.Life = (refl, refl, λ a. tt)
free_read w tdr field.Op = (refl, refl, λ a b c. (refl, refl, λ d. tt))
free_read w tdr field.Epoch = (refl, refl, λ a b c. (refl, refl, λ d. (refl, refl, tt)))
free_read w tdr field.Mrtd = (refl, refl, λ a b c. (refl, refl, λ d. tt))

-- a walk is conditions alone
pub free_walk : (hs : List Held) (b : ℕ → Bool) (r : ℕ → Reply) (ls : List ℕ) (items : List (Item Reply)) → FreeTries hs items → FreeTries hs (map (λ l. Check (b l) (r l)) ls ++ items)
free_walk hs b r [] items h = h
free_walk hs b r (l ∷ ls) items h = λ e. free_walk hs b r ls items h

pub free_checks : (hs : List Held) (b : ℕ → Bool) (r : ℕ → Reply) (ls : List ℕ) → FreeTries hs (map (λ l. Check (b l) (r l)) ls)
free_checks hs b r [] = tt
free_checks hs b r (l ∷ ls) = λ e. free_checks hs b r ls

pub apart_false : (b : Bool) → not b ≡ true → b ≡ false
apart_false true h = cc
apart_false false h = refl

-- an entry of a TD names a page that isn't its TDR page
pub apart_named : (m : Machine) (w : World) → Lawful m w → (tdr level number : ℕ) → same_kind (w.pages.kinds tdr) kind.Tdr ≡ true → list_any (λ s. life_number s == life_number (w.tds.lives tdr)) (life.KeysConfigured ∷ []) ≡ true
    → is_free (w.tds.entries tdr level number).state ≡ false → (tdr == (w.tds.entries tdr level number).page) ≡ false
apart_named m w la tdr level number root living used =
    let tdr_is : w.pages.kinds tdr ≡ kind.Tdr = tdr_kind _ root in
    let node = node_named m w la tdr level number (record { kind = tdr_is; life = is_living (w.tds.lives tdr) living }) used in
    ne_eqb tdr _ (λ e. unlisted level kind.Tdr refl (sym node.page.kind ∙ (ap w.pages.kinds (sym e) ∙ tdr_is)))

pub free_named : (m : Machine) (w : World) → Lawful m w → (tdr gpa level : ℕ) (allowed : List EntryState) → ((s : EntryState) → list_any (λ a. same_state a s) allowed ≡ true → is_free s ≡ false) → (rest : List (Item Reply))
    → FreeTries (record { lock = OfPage (entry_at w tdr level gpa).page; mode = Exclusive } ∷ record { lock = OfEpoch tdr; mode = Shared } ∷ record { lock = OfTree tdr; mode = Exclusive } ∷ record { lock = OfOp tdr; mode = Shared } ∷ record { lock = OfPage tdr; mode = Shared } ∷ []) rest
    → FreeTries [] (named_row w tdr gpa level allowed rest)
free_named m w la tdr gpa level allowed used rest more = (
  refl,
  refl,
  λ root living two. (
    refl,
    refl,
    λ runs. (
      refl,
      refl,
      (
        refl,
        refl,
        free_walk _ (is_passed w tdr gpa) (λ l. Refused (EptWalkFailed l)) (levels_above level) _
            (λ state. let n = apart_named m w la tdr level (number_at level gpa) root living (used _ state) in (refl, rw n refl, more)),
      ),
    ),
  ),
)

-- so it is in each state but FREE
in_use : (allowed : List EntryState) (s : EntryState) → list_any (λ a. same_state a entry.Free) allowed ≡ false → list_any (λ a. same_state a s) allowed ≡ true → is_free s ≡ false
in_use allowed entry.Free never h = cc
in_use allowed _ never h = refl

pub has_use : (s : EntryState) → not (same_state s entry.Free) ≡ true → is_free s ≡ false
has_use entry.Free h = cc
has_use _ h = refl

-- the beginning of the rows that give a guest its page back
pub free_opened : (m : Machine) (w : World) → Lawful m w → (tdr gpa : ℕ) (ops : List OpState) (allowed : List EntryState) → list_any (λ a. same_state a entry.Free) allowed ≡ false → FreeTries [] (opened_row w tdr gpa ops allowed)
free_opened m w la tdr gpa ops allowed never = (
  refl,
  refl,
  λ root living two. (
    refl,
    refl,
    λ runs. (
      refl,
      refl,
      λ first second third state. let n = apart_named m w la tdr 0 (number_at 0 gpa) root living (in_use allowed _ never state) in (refl, rw n refl, tt),
    ),
  ),
)

-- a stream's page is neither the TDR page nor one that an entry names
pub apart_stream : (m : Machine) (w : World) → Lawful m w → (tdr k level number : ℕ) → same_kind (w.pages.kinds tdr) kind.Tdr ≡ true → list_any (λ s. life_number s == life_number (w.tds.lives tdr)) (life.KeysConfigured ∷ []) ≡ true
    → nat_lt k (length (w.tds.streams tdr)) ≡ true → is_free (w.tds.entries tdr level number).state ≡ false
    → ((tdr == stream_page w tdr k) ≡ false) × (((w.tds.entries tdr level number).page == stream_page w tdr k) ≡ false)
apart_stream m w la tdr k level number root living some used =
    let alive : IsAlive w.pages w.tds tdr = record { kind = tdr_kind _ root; life = is_living (w.tds.lives tdr) living } in
    let node = node_named m w la tdr level number alive used in
    let its = stream_owned m w la tdr k alive (ltb-true _ _ some) in (
      ne_eqb tdr (stream_page w tdr k) (λ e. let no : kind.Tdr ≡ kind.Migsc = sym (tdr_kind _ root) ∙ (ap w.pages.kinds e ∙ its.kind) in cc),
      ne_eqb (w.tds.entries tdr level number).page (stream_page w tdr k) (λ e. unlisted level kind.Migsc refl (sym node.page.kind ∙ (ap w.pages.kinds e ∙ its.kind))),
    )

pub free_tracked : (hs : List Held) (s : OpState) (w : World) (tdr : ℕ) (gpas : List ℕ) → FreeTries hs (tracked_in s w tdr gpas)
free_tracked hs op.LiveExport w tdr gpas = λ over. tt
free_tracked hs _ w tdr gpas = tt
