-- What the check of a report does.
use Rattle.std.proofs.Common.{◌≡◌, ◌≢◌, ◌⊎◌, inl, inr, refl, sym, ◌∙◌, subst, ℕ, List, [], Option, Some, None, IfSome, Result, Ok, Err, arith}
use Rattle.report_core.specs.declared.facts.Facts.{Facts}
use Rattle.report_core.specs.declared.reports.ReportFault.{ReportFault}
use Rattle.bundle_store.specs.Outside.{Rose}
use Rattle.bundle_store.specs.declared.outside.PutFault.TheVariants as put
use Rattle.bundle_store.specs.History.{Reads, Writes, Outputs}
use Rattle.command_files.specs.Commands.{ReportFilesSeen, AskedSeen, OfScript, Soak, Verify}
use Rattle.report_checks.specs.declared.checked.CheckFault.{CheckFault}
use Rattle.report_checks.specs.declared.checked.CheckFault.TheVariants as check
use Rattle.report_checks.specs.Checked.{ChecksFiles, due_status}
use Rattle.report_checks.proofs.Told.{says_held, wrong_held, report_absent, key_gone, says_due, wrong_due, absent_due, gone_due}
use Rattle.script_runner.specs.Ending.{ToSave, Ended, verdict_end, unread_end, report_key_end}
use Rattle.script_runner.specs.Saving.{AllSaved}
use Rattle.script_runner.specs.Commanded.{Puts, PutsWant, PutsAndSaves, VerifyEnd, Verifies, VerifiesPart, DoesCommand}
use Rattle.script_runner.specs.Asked.{OfVerifies, PutsWantFor}
use Rattle.script_runner.specs.Verified.{PutsVerdict, PutsSome, PutsReason, DoesVerify, VerifiesHeld}
use Rattle.script_runner.proofs.Closing.{Closing, closing, Told, Lost, Wanting, Whole, Unsaved, WantingAfter, unput}
use Rattle.script_runner.proofs.Endings.{some_file}

-- how an ending that saves no file is put
data Plain (e : Ended) (o o' : Outputs) (status : ℕ) : Type 0 where
  Came : Puts e.text o (Ok tt) o' → status ≡ e.status → Plain e o o' status
  Dropped : Puts e.text o (Err put.Failed) o' → e.status ≡ 0 → status ≡ 4 → Plain e o o' status
  Broken : Puts e.text o (Err put.Failed) o' → e.status ≢ 0 → status ≡ e.status → Plain e o o' status
  Wanted : PutsWantFor e.text o o' status → status ≡ 5 → Plain e o o' status

failed : (e : Ended) (o o' : Outputs) (status : ℕ) → Puts e.text o (Err put.Failed) o' → ((e.status ≡ 0) × (status ≡ 4)) ⊎ ((e.status ≢ 0) × (status ≡ e.status)) → Plain e o o' status
failed e o o' status puts (inl x) = Dropped puts x.0 x.1
failed e o o' status puts (inr x) = Broken puts x.0 x.1

plain : (e : Ended) (w w' : Writes) (o o' : Outputs) (status : ℕ) → e.files ≡ [] → Closing e w w' o o' status → (w' ≡ w) × Plain e o o' status
plain e w w' o o' status none (Told puts not_zero is kept) = (kept, Came puts is)
plain e w w' o o' status none (Lost puts is kept) = (kept, failed e o o' status puts (unput e.status status is))
plain e w w' o o' status none (Wanting b puts want kept) = (kept, Wanted (inr (b, puts, want)) want.0)
plain e w w' o o' status none (Whole puts zero is saved) = (subst (λ (fs : List ToSave). AllSaved fs w w') none saved, Came puts (is ∙ sym zero))
plain e w w' o o' status none (Unsaved front f rest m b answer are all zero puts saves not_want last four) = absurd (some_file front f rest (sym are ∙ none))
plain e w w' o o' status none (WantingAfter front f rest m b b' are all zero puts kept which want) = absurd (some_file front f rest (sym are ∙ none))

-- each way that the check of a report can go, by its status
data Way (contents : Option (List ℕ → Option (List ℕ))) (n : ReportFilesSeen) (r r' : Reads) (o o' : Outputs) (status : ℕ) : Type 0 where
  Said : status ≡ 0 → PutsVerdict contents n r r' o (Ok tt) o' → Way contents n r r' o o' status
  Unsaid : status ≡ 4 → PutsVerdict contents n r r' o (Err put.Failed) o' → Way contents n r r' o o' status
  Unread : status ≡ 3 → PutsReason contents n r r' check.Report (unread_end n.report) o o' ⊎ PutsReason contents n r r' check.Key (unread_end n.key) o o' → Way contents n r r' o o' status
  Short : status ≡ 7 → PutsReason contents n r r' check.KeyLength report_key_end o o' → Way contents n r r' o o' status
  Lacking : status ≡ 5 → PutsWant o o' status ⊎ ((e : Ended) × Verifies contents n r r' e × PutsWantFor e.text o o' status) → Way contents n r r' o o' status

does_way : (contents : Option (List ℕ → Option (List ℕ))) (n : ReportFilesSeen) (r r' : Reads) (w w' : Writes) (o o' : Outputs) (status : ℕ) → VerifiesPart contents n r r' ⊎ ((status ≡ 5) × (r' ≡ r)) → w' ≡ w → Way contents n r r' o o' status
    → DoesVerify contents n r r' w w' o o' status
does_way contents n r r' w w' o o' status loads kept (Said is puts) = record {
  loads = loads;
  saves_nothing = kept;
  puts_verdict = λ q. puts;
  puts_lost = λ q. absurd (omega (arith, is, q));
  puts_name = λ q. absurd (omega (arith, is, q));
  puts_key = λ q. absurd (omega (arith, is, q));
  puts_want = λ q. absurd (omega (arith, is, q));
  statuses = inl is;
}
does_way contents n r r' w w' o o' status loads kept (Unsaid is puts) = record {
  loads = loads;
  saves_nothing = kept;
  puts_verdict = λ q. absurd (omega (arith, is, q));
  puts_lost = λ q. puts;
  puts_name = λ q. absurd (omega (arith, is, q));
  puts_key = λ q. absurd (omega (arith, is, q));
  puts_want = λ q. absurd (omega (arith, is, q));
  statuses = inr (inr (inl is));
}
does_way contents n r r' w w' o o' status loads kept (Unread is puts) = record {
  loads = loads;
  saves_nothing = kept;
  puts_verdict = λ q. absurd (omega (arith, is, q));
  puts_lost = λ q. absurd (omega (arith, is, q));
  puts_name = λ q. puts;
  puts_key = λ q. absurd (omega (arith, is, q));
  puts_want = λ q. absurd (omega (arith, is, q));
  statuses = inr (inl is);
}
does_way contents n r r' w w' o o' status loads kept (Short is puts) = record {
  loads = loads;
  saves_nothing = kept;
  puts_verdict = λ q. absurd (omega (arith, is, q));
  puts_lost = λ q. absurd (omega (arith, is, q));
  puts_name = λ q. absurd (omega (arith, is, q));
  puts_key = λ q. puts;
  puts_want = λ q. absurd (omega (arith, is, q));
  statuses = inr (inr (inr (inr is)));
}
does_way contents n r r' w w' o o' status loads kept (Lacking is puts) = record {
  loads = loads;
  saves_nothing = kept;
  puts_verdict = λ q. absurd (omega (arith, is, q));
  puts_lost = λ q. absurd (omega (arith, is, q));
  puts_name = λ q. absurd (omega (arith, is, q));
  puts_key = λ q. absurd (omega (arith, is, q));
  puts_want = λ q. puts;
  statuses = inr (inr (inr (inl is)));
}

module _ (contents : Option (List ℕ → Option (List ℕ))) (n : ReportFilesSeen) (r r' : Reads) (o o' : Outputs) (status : ℕ) where
  verdict_way : (verdict : Result Facts ReportFault) → ChecksFiles contents n r r' (Ok verdict) → Plain (verdict_end verdict) o o' status → Way contents n r r' o o' status
  verdict_way verdict c (Came puts is) = Said is (verdict, c, puts)
  verdict_way verdict c (Dropped puts zero is) = Unsaid is (verdict, c, puts)
  verdict_way verdict c (Broken puts not_zero is) = absurd (not_zero refl)
  verdict_way verdict c (Wanted want is) = Lacking is (inr (verdict_end verdict, (Ok verdict, c, refl), want))

  -- the text of another status is put, unless memory is wanting
  other : (e : Ended) → e.status ≢ 0 → Plain e o o' status → ((status ≡ e.status) × PutsSome e.text o o') ⊎ ((status ≡ 5) × PutsWantFor e.text o o' status)
  other e some (Came puts is) = inl (is, (Ok tt, λ q. cc, puts))
  other e some (Dropped puts zero is) = absurd (some zero)
  other e some (Broken puts not_zero is) = inl (is, (Err put.Failed, λ q. cc, puts))
  other e some (Wanted want is) = inr (is, want)

  report_way : ChecksFiles contents n r r' (Err check.Report) → ((status ≡ 3) × PutsSome (unread_end n.report).text o o') ⊎ ((status ≡ 5) × PutsWantFor (unread_end n.report).text o o' status) → Way contents n r r' o o' status
  report_way c (inl x) = Unread x.0 (inl (c, x.1))
  report_way c (inr x) = Lacking x.0 (inr (unread_end n.report, (Err check.Report, c, refl), x.1))

  key_way : ChecksFiles contents n r r' (Err check.Key) → ((status ≡ 3) × PutsSome (unread_end n.key).text o o') ⊎ ((status ≡ 5) × PutsWantFor (unread_end n.key).text o o' status) → Way contents n r r' o o' status
  key_way c (inl x) = Unread x.0 (inr (c, x.1))
  key_way c (inr x) = Lacking x.0 (inr (unread_end n.key, (Err check.Key, c, refl), x.1))

  short_way : ChecksFiles contents n r r' (Err check.KeyLength) → ((status ≡ 7) × PutsSome report_key_end.text o o') ⊎ ((status ≡ 5) × PutsWantFor report_key_end.text o o' status) → Way contents n r r' o o' status
  short_way c (inl x) = Short x.0 (c, x.1)
  short_way c (inr x) = Lacking x.0 (inr (report_key_end, (Err check.KeyLength, c, refl), x.1))

module _ (contents : Option (List ℕ → Option (List ℕ))) (n : ReportFilesSeen) (r r' : Reads) (w w' : Writes) (o o' : Outputs) (status : ℕ) where
  -- an ending that is put, and saves no file
  put_plain : (e d : Ended) → e ≡ d → d.files ≡ [] → PutsAndSaves e w w' o o' status → (w' ≡ w) × Plain d o o' status
  put_plain e d is none p = plain d w w' o o' status none (closing d w w' o o' status (subst (λ (x : Ended). PutsAndSaves x w w' o o' status) is p))

  by_answer : (answer : Result (Result Facts ReportFault) CheckFault) (e : Ended) → ChecksFiles contents n r r' answer → VerifyEnd n answer e → PutsAndSaves e w w' o o' status → DoesVerify contents n r r' w w' o o' status
  by_answer (Ok verdict) e c is p =
      let x = put_plain e (verdict_end verdict) is refl p in
      does_way contents n r r' w w' o o' status (inl (Ok verdict, c)) x.0 (verdict_way contents n r r' o o' status verdict c x.1)
  by_answer (Err check.Report) e c is p =
      let x = put_plain e (unread_end n.report) is refl p in
      does_way contents n r r' w w' o o' status (inl (Err check.Report, c)) x.0 (report_way contents n r r' o o' status c (other contents n r r' o o' status (unread_end n.report) (λ q. cc) x.1))
  by_answer (Err check.Key) e c is p =
      let x = put_plain e (unread_end n.key) is refl p in
      does_way contents n r r' w w' o o' status (inl (Err check.Key, c)) x.0 (key_way contents n r r' o o' status c (other contents n r r' o o' status (unread_end n.key) (λ q. cc) x.1))
  by_answer (Err check.KeyLength) e c is p =
      let x = put_plain e report_key_end is refl p in
      does_way contents n r r' w w' o o' status (inl (Err check.KeyLength, c)) x.0 (short_way contents n r r' o o' status c (other contents n r r' o o' status report_key_end (λ q. cc) x.1))
  by_answer (Err check.OutOfMemory) e c none p = absurd none

  -- memory was wanting on the way
  wanting : (r' ≡ r) ⊎ VerifiesPart contents n r r' → w' ≡ w → PutsWant o o' status → DoesVerify contents n r r' w w' o o' status
  wanting (inl same) kept want = does_way contents n r r' w w' o o' status (inr (want.0, same)) kept (Lacking want.0 (inl want))
  wanting (inr part) kept want = does_way contents n r r' w w' o o' status (inl part) kept (Lacking want.0 (inl want))

  pub does_verify : DoesCommand contents (Some (Verify n)) r r' w w' o o' status → DoesVerify contents n r r' w w' o o' status
  does_verify (inl (e, (answer, c, ends), p)) = by_answer answer e c ends p
  does_verify (inr (part, kept, want)) = wanting part kept want

-- ---- where contents are told

module _ (held : List ℕ → Option (List ℕ)) (n : ReportFilesSeen) (r r' : Reads) (o o' : Outputs) (status : ℕ) where
  abbrev Complete : Type 0
  Complete = (status ≡ due_status held n) ⊎ (status ≡ 5) ⊎ Rose r.faults r'.faults ⊎ ((due_status held n ≡ 0) × Rose o.faults o'.faults)

  due_three : status ≡ 3 → Rose r.faults r'.faults ⊎ (due_status held n ≡ 3) → Complete
  due_three is (inl rose) = inr (inr (inl rose))
  due_three is (inr due) = inl (is ∙ sym due)

  complete : (w w' : Writes) → DoesVerify (Some held) n r r' w w' o o' status → Complete
  complete w w' d = by d.statuses
    where
      unread : status ≡ 3 → PutsReason (Some held) n r r' check.Report (unread_end n.report) o o' ⊎ PutsReason (Some held) n r r' check.Key (unread_end n.key) o o' → Complete
      unread is (inl x) = due_three is (absent_due held n r r' x.0)
      unread is (inr x) = due_three is (gone_due held n r r' x.0)

      by : (status ≡ 0) ⊎ (status ≡ 3) ⊎ (status ≡ 4) ⊎ (status ≡ 5) ⊎ (status ≡ 7) → Complete
      by (inl is) = let p = d.puts_verdict is in inl (is ∙ sym (says_due held n r r' p.0 p.1))
      by (inr (inl is)) = unread is (d.puts_name is)
      by (inr (inr (inl is))) = let p = d.puts_lost is in inr (inr (inr (says_due held n r r' p.0 p.1, p.2.cause)))
      by (inr (inr (inr (inl is)))) = inr (inl is)
      by (inr (inr (inr (inr is)))) = inl (is ∙ sym (wrong_due held n r r' (d.puts_key is).0))

  absent : PutsReason (Some held) n r r' check.Report (unread_end n.report) o o' ⊎ PutsReason (Some held) n r r' check.Key (unread_end n.key) o o'
      → Rose r.faults r'.faults ⊎ (held n.report ≡ None) ⊎ (held n.key ≡ None)
  absent (inl x) = by (report_absent held n r r' x.0)
    where
      by : Rose r.faults r'.faults ⊎ (held n.report ≡ None) → Rose r.faults r'.faults ⊎ (held n.report ≡ None) ⊎ (held n.key ≡ None)
      by (inl rose) = inl rose
      by (inr none) = inr (inl none)
  absent (inr x) = by (key_gone held n r r' x.0)
    where
      by : Rose r.faults r'.faults ⊎ (held n.key ≡ None) → Rose r.faults r'.faults ⊎ (held n.report ≡ None) ⊎ (held n.key ≡ None)
      by (inl rose) = inl rose
      by (inr none) = inr (inr none)

  verifies_held : (w w' : Writes) → DoesVerify (Some held) n r r' w w' o o' status → VerifiesHeld held n r r' o o' status
  verifies_held w w' d = record {
    says = λ zero. let p = d.puts_verdict zero in (p.0, says_held held n r r' p.0 p.1, p.2.told);
    absent = λ three. absent (d.puts_name three);
    key = λ seven. wrong_held held n r r' (d.puts_key seven).0;
    complete = complete w w' d;
  }

-- ---- of what words ask for

pub of_verifies : (contents : Option (List ℕ → Option (List ℕ))) (asked : Option AskedSeen) (r r' : Reads) (w w' : Writes) (o o' : Outputs) (status : ℕ) → DoesCommand contents asked r r' w w' o o' status
    → OfVerifies asked (λ n. DoesVerify contents n r r' w w' o o' status)
of_verifies contents None r r' w w' o o' status d = tt
of_verifies contents (Some (OfScript c)) r r' w w' o o' status d = tt
of_verifies contents (Some (Soak n)) r r' w w' o o' status d = tt
of_verifies contents (Some (Verify n)) r r' w w' o o' status d = does_verify contents n r r' w w' o o' status d

held_verifies : (held : List ℕ → Option (List ℕ)) (asked : Option AskedSeen) (r r' : Reads) (w w' : Writes) (o o' : Outputs) (status : ℕ) → DoesCommand (Some held) asked r r' w w' o o' status
    → OfVerifies asked (λ n. VerifiesHeld held n r r' o o' status)
held_verifies held None r r' w w' o o' status d = tt
held_verifies held (Some (OfScript c)) r r' w w' o o' status d = tt
held_verifies held (Some (Soak n)) r r' w w' o o' status d = tt
held_verifies held (Some (Verify n)) r r' w w' o o' status d = verifies_held held n r r' o o' status w w' (does_verify (Some held) n r r' w w' o o' status d)

pub all_verifies : (contents : Option (List ℕ → Option (List ℕ))) (asked : Option AskedSeen) (r r' : Reads) (w w' : Writes) (o o' : Outputs) (status : ℕ) → DoesCommand contents asked r r' w w' o o' status
    → IfSome contents (λ held. OfVerifies asked (λ n. VerifiesHeld held n r r' o o' status))
all_verifies None asked r r' w w' o o' status d = tt
all_verifies (Some held) asked r r' w w' o o' status d = held_verifies held asked r r' w w' o o' status d
