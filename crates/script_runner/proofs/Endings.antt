-- How a call ends where contents are told, and what its status then says.
use Rattle.std.proofs.Common.{◌≡◌, ◌≢◌, ◌⊎◌, inl, inr, refl, sym, ◌∙◌, ap, subst, ℕ, List, [], ◌∷◌, ◌++◌, append-nil, append_assoc, take, length, Option, Some, None, option_map, IfSome, Result, Ok, Err, ◌==◌, if◌then◌else◌, arith}
use Rattle.std.proofs.Math.Seq.{take-length}
use Rattle.bundle_store.specs.declared.outside.PutFault.{PutFault}
use Rattle.bundle_store.specs.declared.outside.PutFault.TheVariants as put
use Rattle.bundle_store.specs.Outside.{Rose, Gains}
use Rattle.script_text.specs.Seen.{ScriptSeen}
use Rattle.bundle_store.specs.History.{Reads, Writes, Outputs}
use Rattle.command_files.specs.Commands.{CommandSeen, Replay, Run, Check}
use Rattle.script_runner.specs.Ending.{ToSave, Ended, memory_end, unwritten_end, success_end, handed_held, ending_of, IsOrderIn, HandedOut}
use Rattle.script_runner.specs.Saving.{AllSaved, IsAmong}
use Rattle.script_runner.specs.Ends.{Faults, IsEnding, PutsPart, PutsBehind, TellsName, TellsUnsaved, Tells, EndsWith, ShowsThreads, IsBadScript, IsAbsent, IsBadContainer, IsBadLength, IsComplete, success_text, IsOwnText, PutsFronts, PutsFrontsOf}
use Rattle.script_runner.specs.Threads.{ThreadsOf}
use Rattle.script_runner.specs.Commanded.{Puts, PutsWant, DoesCommand}
use Rattle.script_runner.proofs.Asked.{asks}
use Rattle.script_runner.proofs.Part.{puts_part}
use Rattle.script_runner.proofs.Due.{Due, due, some_order, same_status, Usage, Absent, BadScript, Want, BadContainer, BadLength, Success}
use Rattle.script_runner.proofs.Closing.{Closing, closing, saved_later, unput, never_zero, Told, Lost, Wanting, Whole, Unsaved, WantingAfter}
use Rattle.script_runner.proofs.Came.{rose_earlier}
use Rattle.script_runner.proofs.Told.{ToldRun, told_ending}

-- ---- what is due, by its status

pub success_zero : (k : CommandSeen) (s : ScriptSeen) (handed : HandedOut) (order : List ℕ) → (success_end k s handed order).status ≡ 0
success_zero (Replay n) s handed order = refl
success_zero (Run n) s handed order = refl
success_zero (Check name) s handed order = refl

bad_of : (contents : List ℕ → Option (List ℕ)) (c : Option CommandSeen) (order : List ℕ) (e : Ended) → Due contents c order e → e.status ≡ 2 → IsBadScript contents c
bad_of contents c order e (Usage none is) s = absurd (let t = ap (λ (x : Ended). x.status) is in omega (arith, t, s))
bad_of contents c order e (Absent name a is) s = absurd (let t = ap (λ (x : Ended). x.status) is in omega (arith, t, s))
bad_of contents c order e (BadScript line reason b is) s = b
bad_of contents c order e (Want is) s = absurd (let t = ap (λ (x : Ended). x.status) is in omega (arith, t, s))
bad_of contents c order e (BadContainer place b is) s = absurd (let t = ap (λ (x : Ended). x.status) is in omega (arith, t, s))
bad_of contents c order e (BadLength b is) s = absurd (omega (arith, is, s))
bad_of contents c order e (Success r) s = absurd (let t = ap (λ (x : Ended). x.status) r.is in let z = success_zero r.command r.script (handed_held contents r.command) order in omega (arith, t, z, s))

absent_of : (contents : List ℕ → Option (List ℕ)) (c : Option CommandSeen) (order : List ℕ) (e : Ended) → Due contents c order e → e.status ≡ 3 → IsAbsent contents c
absent_of contents c order e (Usage none is) s = absurd (let t = ap (λ (x : Ended). x.status) is in omega (arith, t, s))
absent_of contents c order e (Absent name a is) s = a
absent_of contents c order e (BadScript line reason b is) s = absurd (let t = ap (λ (x : Ended). x.status) is in omega (arith, t, s))
absent_of contents c order e (Want is) s = absurd (let t = ap (λ (x : Ended). x.status) is in omega (arith, t, s))
absent_of contents c order e (BadContainer place b is) s = absurd (let t = ap (λ (x : Ended). x.status) is in omega (arith, t, s))
absent_of contents c order e (BadLength b is) s = absurd (omega (arith, is, s))
absent_of contents c order e (Success r) s = absurd (let t = ap (λ (x : Ended). x.status) r.is in let z = success_zero r.command r.script (handed_held contents r.command) order in omega (arith, t, z, s))

memory_of : (contents : List ℕ → Option (List ℕ)) (c : Option CommandSeen) (order : List ℕ) (e : Ended) → Due contents c order e → e.status ≡ 5 → e.text ≡ memory_end.text
memory_of contents c order e (Usage none is) s = absurd (let t = ap (λ (x : Ended). x.status) is in omega (arith, t, s))
memory_of contents c order e (Absent name a is) s = absurd (let t = ap (λ (x : Ended). x.status) is in omega (arith, t, s))
memory_of contents c order e (BadScript line reason b is) s = absurd (let t = ap (λ (x : Ended). x.status) is in omega (arith, t, s))
memory_of contents c order e (Want is) s = ap (λ (x : Ended). x.text) is
memory_of contents c order e (BadContainer place b is) s = absurd (let t = ap (λ (x : Ended). x.status) is in omega (arith, t, s))
memory_of contents c order e (BadLength b is) s = absurd (omega (arith, is, s))
memory_of contents c order e (Success r) s = absurd (let t = ap (λ (x : Ended). x.status) r.is in let z = success_zero r.command r.script (handed_held contents r.command) order in omega (arith, t, z, s))

container_of : (contents : List ℕ → Option (List ℕ)) (c : Option CommandSeen) (order : List ℕ) (e : Ended) → Due contents c order e → e.status ≡ 6 → IsBadContainer contents c
container_of contents c order e (Usage none is) s = absurd (let t = ap (λ (x : Ended). x.status) is in omega (arith, t, s))
container_of contents c order e (Absent name a is) s = absurd (let t = ap (λ (x : Ended). x.status) is in omega (arith, t, s))
container_of contents c order e (BadScript line reason b is) s = absurd (let t = ap (λ (x : Ended). x.status) is in omega (arith, t, s))
container_of contents c order e (Want is) s = absurd (let t = ap (λ (x : Ended). x.status) is in omega (arith, t, s))
container_of contents c order e (BadContainer place b is) s = b
container_of contents c order e (BadLength b is) s = absurd (omega (arith, is, s))
container_of contents c order e (Success r) s = absurd (let t = ap (λ (x : Ended). x.status) r.is in let z = success_zero r.command r.script (handed_held contents r.command) order in omega (arith, t, z, s))

keys_of : (contents : List ℕ → Option (List ℕ)) (c : Option CommandSeen) (order : List ℕ) (e : Ended) → Due contents c order e → e.status ≡ 7 → IsBadLength contents c
keys_of contents c order e (Usage none is) s = absurd (let t = ap (λ (x : Ended). x.status) is in omega (arith, t, s))
keys_of contents c order e (Absent name a is) s = absurd (let t = ap (λ (x : Ended). x.status) is in omega (arith, t, s))
keys_of contents c order e (BadScript line reason b is) s = absurd (let t = ap (λ (x : Ended). x.status) is in omega (arith, t, s))
keys_of contents c order e (Want is) s = absurd (let t = ap (λ (x : Ended). x.status) is in omega (arith, t, s))
keys_of contents c order e (BadContainer place b is) s = absurd (let t = ap (λ (x : Ended). x.status) is in omega (arith, t, s))
keys_of contents c order e (BadLength b is) s = b
keys_of contents c order e (Success r) s = absurd (let t = ap (λ (x : Ended). x.status) r.is in let z = success_zero r.command r.script (handed_held contents r.command) order in omega (arith, t, z, s))

no_four : (contents : List ℕ → Option (List ℕ)) (c : Option CommandSeen) (order : List ℕ) (e : Ended) → Due contents c order e → e.status ≢ 4
no_four contents c order e (Usage none is) s = absurd (let t = ap (λ (x : Ended). x.status) is in omega (arith, t, s))
no_four contents c order e (Absent name a is) s = absurd (let t = ap (λ (x : Ended). x.status) is in omega (arith, t, s))
no_four contents c order e (BadScript line reason b is) s = absurd (let t = ap (λ (x : Ended). x.status) is in omega (arith, t, s))
no_four contents c order e (Want is) s = absurd (let t = ap (λ (x : Ended). x.status) is in omega (arith, t, s))
no_four contents c order e (BadContainer place b is) s = absurd (let t = ap (λ (x : Ended). x.status) is in omega (arith, t, s))
no_four contents c order e (BadLength b is) s = absurd (omega (arith, is, s))
no_four contents c order e (Success r) s = absurd (let t = ap (λ (x : Ended). x.status) r.is in let z = success_zero r.command r.script (handed_held contents r.command) order in omega (arith, t, z, s))

-- ---- what is put

gains_twice : (a b c : Option (List ℕ)) (x y : List ℕ) → Gains a x b → Gains b y c → Gains a (x ++ y) c
gains_twice None b c x y g h = h ∙ ap (λ (z : Option (List ℕ)). option_map (λ p. p ++ y) z) g
gains_twice (Some p) b c x y g h = h ∙ ap (λ (z : Option (List ℕ)). option_map (λ q. q ++ y) z) g ∙ ap (λ (z : List ℕ). Some z) (append_assoc p x y)

behind : (a b c : Option (List ℕ)) (x y : List ℕ) → Gains a x b → PutsPart b y c → PutsBehind a x y c
behind a b c x y g (m, h) = (m, gains_twice a b c x (take m y) g h)

-- want of memory is put, in part at least
want_part : (o o' : Outputs) (status : ℕ) → PutsWant o o' status → PutsPart o.told memory_end.text o'.told
want_part o o' status (five, answer, puts) = puts_part o.told memory_end.text o'.told answer puts.told

among : (front : List ToSave) (f : ToSave) (rest : List ToSave) → IsAmong f.name (front ++ f ∷ rest)
among [] f rest = inl refl
among (g ∷ front) f rest = inr (among front f rest)

pub some_file : (front : List ToSave) (f : ToSave) (rest : List ToSave) → front ++ f ∷ rest ≢ []
some_file [] f rest = λ q. cc
some_file (g ∷ front) f rest = λ q. cc

module _ (e : Ended) (r r' : Reads) (w w' : Writes) (o o' : Outputs) (status : ℕ) where
  abbrev before : Faults
  before = record { reads = r.faults; writes = w.faults; puts = o.faults }

  abbrev after : Faults
  after = record { reads = r'.faults; writes = w'.faults; puts = o'.faults }

  name_tells : (n : List ℕ) (b : Outputs) (answer : Result (Unit {0}) PutFault) → Puts e.text o (Ok tt) b → answer ≢ Err put.OutOfMemory
      → Puts (unwritten_end n).text b answer o' → TellsName before after n e.text o.told o'.told
  name_tells n b (Ok t) puts not_want last = inl (gains_twice o.told b.told o'.told e.text _ puts.told last.told)
  name_tells n b (Err put.Failed) puts not_want last =
      inr (rose_earlier o.faults b.faults o'.faults puts.later last.cause, behind o.told b.told o'.told e.text _ puts.told last.told)
  name_tells n b (Err put.OutOfMemory) puts not_want last = absurd (not_want refl)

  tells_of : Closing e w w' o o' status → Tells before after o.told o'.told e status
  tells_of (Told puts not_zero is kept) = inl (is, puts.told)
  tells_of (Lost puts is kept) = inr (inl (is, puts.cause, puts.told))
  tells_of (Wanting b puts want kept) = inr (inr (inl (want.0, subst (λ (x : Option (List ℕ)). PutsPart x memory_end.text o'.told) puts.told (want_part b o' status want))))
  tells_of (Whole puts zero is saved) = inl (is ∙ sym zero, puts.told)
  tells_of (Unsaved front f rest m b answer are all zero puts saves not_want last four) =
      inr (inr (inr (
        zero,
        inl (
          f.name,
          subst (λ (x : List ToSave). IsAmong f.name x) (sym are) (among front f rest),
          four,
          rose_earlier w.faults m.faults w'.faults (saved_later front w m all) saves.cause,
          name_tells f.name b answer puts not_want last,
        ),
      )))
  tells_of (WantingAfter front f rest m b b' are all zero puts kept which want) =
      let same : b'.told ≡ b.told = elim which [ inl is ↦ ap (λ (x : Outputs). x.told) is | inr lost ↦ lost.told ] in
      let part : PutsPart b.told memory_end.text o'.told = subst (λ (x : Option (List ℕ)). PutsPart x memory_end.text o'.told) same (want_part b' o' status want) in
      inr (inr (inr (zero, inr ((λ q. some_file front f rest (sym are ∙ q)), want.0, behind o.told b.told o'.told e.text _ puts.told part))))

pub ends_with : (contents : Option (List ℕ → Option (List ℕ))) (c : Option CommandSeen) (r r' : Reads) (w w' : Writes) (o o' : Outputs) (status : ℕ)
    → DoesCommand contents (asks c) r r' w w' o o' status
    → IfSome contents (λ k. EndsWith (record { reads = r.faults; writes = w.faults; puts = o.faults }) (record { reads = r'.faults; writes = w'.faults; puts = o'.faults }) k c o.told o'.told status)
ends_with None c r r' w w' o o' status d = tt
ends_with (Some k) c r r' w w' o o' status (inl (e, comes, puts)) =
    inl (e, told_ending _ _ k c r r' e refl refl comes, tells_of e r r' w w' o o' status (closing e w w' o o' status puts))
ends_with (Some k) c r r' w w' o o' status (inr (part, kept, want)) = inr (want.0, want_part o o' status want)

-- ---- what each status says

-- the run of a status 0, whose order is for a run that of what threads made
pub one_run : (contents : List ℕ → Option (List ℕ)) (c : Option CommandSeen) (e : Ended) → ToldRun contents c e → (old new : Option (List ℕ)) → Gains old e.text new → (w w' : Writes) → AllSaved e.files w w'
    → ShowsThreads contents c old new w w'
one_run contents c e r old new gains w w' saved = (
  record {
    command = r.command;
    read_as = r.read_as;
    bytes = r.bytes;
    there = r.there;
    script = r.script;
    reads = r.reads;
    fits = r.fits;
    words = r.words;
    order = r.order;
    is_order = r.is_order;
    prints = subst (λ (x : Ended). Gains old x.text new) r.is gains;
    saves = subst (λ (x : Ended). AllSaved x.files w w') r.is saved;
  },
  subst (λ (x : Ended). ThreadsOf r.command r.script (handed_held contents r.command) r.order x) r.is r.threads,
)

module _ (before after : Faults) (contents : List ℕ → Option (List ℕ)) (c : Option CommandSeen) (old new : Option (List ℕ)) (status : ℕ) where
  -- behind the text the status is 4 or 5
  unsaved_status : (replies : List ℕ) (files : List ToSave) → TellsUnsaved before after files replies old new status → (status ≡ 4) ⊎ (status ≡ 5)
  unsaved_status replies files (inl (n, named, four, rose, h)) = inl four
  unsaved_status replies files (inr h) = inr h.1

  -- a status that no put makes is the ending's
  own_status : (e : Ended) → status ≢ 4 → status ≢ 5 → Tells before after old new e status → e.status ≡ status
  own_status e not_four not_five (inl h) = sym h.0
  own_status e not_four not_five (inr (inl h)) = elim (unput e.status status h.0) [ inl x ↦ absurd (not_four x.1) | inr x ↦ sym x.1 ]
  own_status e not_four not_five (inr (inr (inl h))) = absurd (not_five h.0)
  own_status e not_four not_five (inr (inr (inr h))) = elim (unsaved_status e.text e.files h.1) [ inl x ↦ absurd (not_four x) | inr x ↦ absurd (not_five x) ]

  zero_whole : (e : Ended) → status ≡ 0 → Tells before after old new e status → Gains old e.text new
  zero_whole e zero (inl h) = h.1
  zero_whole e zero (inr (inl h)) = absurd (never_zero e.status status h.0 zero)
  zero_whole e zero (inr (inr (inl h))) = absurd (omega (arith, zero, h.0))
  zero_whole e zero (inr (inr (inr h))) = elim (unsaved_status e.text e.files h.1) [ inl x ↦ absurd (omega (arith, zero, x)) | inr x ↦ absurd (omega (arith, zero, x)) ]

  -- an ending that is due has its cause
  caused : (order : List ℕ) (e : Ended) → e ≡ ending_of contents c order → Due contents c order e
  caused order e is = subst (λ (x : Ended). Due contents c order x) (sym is) (due contents c order)

  -- one that isn't for a name that couldn't be read is the one that is due
  due_ending : (e : Ended) → e.status ≢ 3 → IsEnding before after contents c e → (order : List ℕ) × IsOrderIn contents c order × Due contents c order e
  due_ending e not_three (inl (order, in_order, is)) = (order, in_order, caused order e is)
  due_ending e not_three (inr f) = absurd (not_three (ap (λ (x : Ended). x.status) f.told))

  -- the ending that a status from 0 to 3, 6 or 7 tells
  due_at : (s : ℕ) → s ≢ 3 → s ≢ 4 → s ≢ 5 → status ≡ s → EndsWith before after contents c old new status
      → (e : Ended) × (order : List ℕ) × Due contents c order e × (e.status ≡ s)
  due_at s x3 x4 x5 is (inl (e, ending, tells)) =
      let own : e.status ≡ s = own_status e (λ q. x4 (sym is ∙ q)) (λ q. x5 (sym is ∙ q)) tells ∙ is in
      let (order, in_order, d) = due_ending e (λ q. x3 (sym own ∙ q)) ending in
      (e, order, d, own)
  due_at s x3 x4 x5 is (inr h) = absurd (x5 (sym is ∙ h.0))

  pub bad_script : status ≡ 2 → EndsWith before after contents c old new status → IsBadScript contents c
  bad_script two h = let (e, order, d, own) = due_at 2 (λ q. omega (arith, q)) (λ q. omega (arith, q)) (λ q. omega (arith, q)) two h in bad_of contents c order e d own

  pub bad_container : status ≡ 6 → EndsWith before after contents c old new status → IsBadContainer contents c
  bad_container six h = let (e, order, d, own) = due_at 6 (λ q. omega (arith, q)) (λ q. omega (arith, q)) (λ q. omega (arith, q)) six h in container_of contents c order e d own

  pub bad_length : status ≡ 7 → EndsWith before after contents c old new status → IsBadLength contents c
  bad_length seven h = let (e, order, d, own) = due_at 7 (λ q. omega (arith, q)) (λ q. omega (arith, q)) (λ q. omega (arith, q)) seven h in keys_of contents c order e d own

  pub unread : status ≡ 3 → EndsWith before after contents c old new status → Rose before.reads after.reads ⊎ IsAbsent contents c
  unread three (inl (e, inl (order, in_order, is), tells)) =
      let own : e.status ≡ 3 = own_status e (λ q. omega (arith, q, three)) (λ q. omega (arith, q, three)) tells ∙ three in
      inr (absent_of contents c order e (caused order e is) own)
  unread three (inl (e, inr f, tells)) = inl f.rose
  unread three (inr h) = absurd (omega (arith, three, h.0))

  pub complete : EndsWith before after contents c old new status → (order : List ℕ) → IsComplete before after (ending_of contents c order) status
  complete (inr h) order = inr (inl h.0)
  complete (inl (e, inr f, tells)) order = inr (inr (inl f.rose))
  complete (inl (e, inl (order', in_order, is), tells)) order = by_status (ap (λ (x : Ended). x.status) is ∙ same_status contents c order' order) (by tells)
    where
      by_status : e.status ≡ (ending_of contents c order).status → IsComplete before after e status → IsComplete before after (ending_of contents c order) status
      by_status same h = subst (λ (n : ℕ). (status ≡ n) ⊎ (status ≡ 5) ⊎ Rose before.reads after.reads ⊎ ((n ≡ 0) × (Rose before.writes after.writes ⊎ Rose before.puts after.puts))) same h

      unsaved : e.status ≡ 0 → TellsUnsaved before after e.files e.text old new status → IsComplete before after e status
      unsaved zero (inl (n, named, four, rose, h)) = inr (inr (inr (zero, inl rose)))
      unsaved zero (inr h) = inr (inl h.1)

      by : Tells before after old new e status → IsComplete before after e status
      by (inl h) = inl h.0
      by (inr (inl h)) = elim (unput e.status status h.0) [ inl x ↦ inr (inr (inr (x.0, inr h.1))) | inr x ↦ inl x.1 ]
      by (inr (inr (inl h))) = inr (inl h.0)
      by (inr (inr (inr h))) = unsaved h.0 h.1

  -- ---- fronts

  memory_fronts : (e : Ended) → status ≡ 5 → PutsPart old memory_end.text new → PutsFronts old e status new
  memory_fronts e five (m, put) = (memory_end.text, inl (five, refl), 0, m, put)

  behind_fronts : (e : Ended) (second : List ℕ) → IsOwnText e.files status second → success_text e ≡ e.text → PutsBehind old e.text second new → PutsFronts old e status new
  behind_fronts e second own is (m, put) = (
    second,
    own,
    length e.text,
    m,
    subst (λ (x : List ℕ). Gains old (take (length e.text) x ++ take m second) new) (sym is) (subst (λ (x : List ℕ). Gains old (x ++ take m second) new) (sym (take-length e.text)) put),
  )

  run_fronts : (e : Ended) → status ≡ 4 → PutsPart old (success_text e) new → PutsFronts old e status new
  run_fronts e four (n, put) = ([], inr (four, inl refl), n, 0, subst (λ (x : List ℕ). Gains old x new) (sym (append-nil (take n (success_text e)))) put)

  whole_part : (text : List ℕ) → Gains old text new → PutsPart old text new
  whole_part text put = (length text, subst (λ (x : List ℕ). Gains old x new) (sym (take-length text)) put)

  whole_behind : (first second : List ℕ) → Gains old (first ++ second) new → PutsBehind old first second new
  whole_behind first second put = (length second, subst (λ (x : List ℕ). Gains old (first ++ x) new) (sym (take-length second)) put)

  success : (e : Ended) → e.status ≡ 0 → success_text e ≡ e.text
  success e zero = ap (λ (s : ℕ). if s == 0 then e.text else []) zero

  -- an ending whose status isn't 4, and which says that memory was wanting where it is 5
  fronts_of : (e : Ended) → e.status ≢ 4 → (e.status ≡ 5 → e.text ≡ memory_end.text) → Tells before after old new e status → (status ≡ 4) ⊎ (status ≡ 5)
      → PutsFronts old e status new
  fronts_of e never memory (inl h) (inl four) = absurd (never (sym h.0 ∙ four))
  fronts_of e never memory (inl h) (inr five) = memory_fronts e five (subst (λ (x : List ℕ). PutsPart old x new) (memory (sym h.0 ∙ five)) (whole_part e.text h.1))
  fronts_of e never memory (inr (inl h)) which = by (unput e.status status h.0) which
    where
      by : ((e.status ≡ 0) × (status ≡ 4)) ⊎ ((e.status ≢ 0) × (status ≡ e.status)) → (status ≡ 4) ⊎ (status ≡ 5) → PutsFronts old e status new
      by (inl x) w = run_fronts e x.1 (subst (λ (x : List ℕ). PutsPart old x new) (sym (success e x.0)) h.2)
      by (inr x) (inl four) = absurd (never (sym x.1 ∙ four))
      by (inr x) (inr five) = memory_fronts e five (subst (λ (x : List ℕ). PutsPart old x new) (memory (sym x.1 ∙ five)) h.2)
  fronts_of e never memory (inr (inr (inl h))) which = memory_fronts e h.0 h.1
  fronts_of e never memory (inr (inr (inr (zero, inl (n, named, four, rose, inl h))))) which =
      behind_fronts e (unwritten_end n).text (inr (four, inr (n, named, refl))) (success e zero) (whole_behind e.text _ h)
  fronts_of e never memory (inr (inr (inr (zero, inl (n, named, four, rose, inr h))))) which =
      behind_fronts e (unwritten_end n).text (inr (four, inr (n, named, refl))) (success e zero) h.1
  fronts_of e never memory (inr (inr (inr (zero, inr h)))) which = behind_fronts e memory_end.text (inl (h.1, refl)) (success e zero) h.2

  pub fronts : (status ≡ 4) ⊎ (status ≡ 5) → EndsWith before after contents c old new status → PutsFrontsOf contents c old status new
  fronts which (inr h) = let (order, in_order) = some_order contents c in (order, in_order, memory_fronts (ending_of contents c order) h.0 h.1)
  fronts which (inl (e, inl (order, in_order, is), tells)) =
      let d : Due contents c order e = caused order e is in
      (order, in_order, subst (λ (x : Ended). PutsFronts old x status new) is (fronts_of e (no_four contents c order e d) (memory_of contents c order e d) tells which))
  fronts which (inl (e, inr f, tells)) = let (order, in_order) = some_order contents c in (order, in_order, by order tells which)
    where
      three : e.status ≡ 3
      three = ap (λ (x : Ended). x.status) f.told

      by : (order : List ℕ) → Tells before after old new e status → (status ≡ 4) ⊎ (status ≡ 5) → PutsFronts old (ending_of contents c order) status new
      by order (inl h) (inl four) = absurd (let q = h.0 in omega (arith, q, four, three))
      by order (inl h) (inr five) = absurd (let q = h.0 in omega (arith, q, five, three))
      by order (inr (inl h)) w = elim (unput e.status status h.0) [ inl x ↦ absurd (let q = x.0 in omega (arith, q, three)) | inr x ↦ elim w [ inl four ↦ absurd (let q = x.1 in omega (arith, q, four, three)) | inr five ↦ absurd (let q = x.1 in omega (arith, q, five, three)) ] ]
      by order (inr (inr (inl h))) w = memory_fronts (ending_of contents c order) h.0 h.1
      by order (inr (inr (inr h))) w = absurd (let q = h.0 in omega (arith, q, three))
