-- The end of a run of a book's code on returns: what the book comes to.
use Rattle.std.proofs.Common.{◌≡◌, ◌≢◌, ℕ, true, Option, Some, sym, ap, subst, ◌∙◌, length}
use Rattle.std.proofs.lemmas.Option.{same_Some}
use Rattle.sl_compile.specs.Compiled.{ComesTo, IsCompiled, ending_by}
use Rattle.sl_count_calls.proofs.StageColumns.{all_long, each_stage, holds_stages}
use Rattle.sl_count_calls.specs.Outcomes.{FitsEnd, FitsOutcome}
use Rattle.sl_count_calls.specs.inner.Held.{EndsAs, Holds, recorded}
use Rattle.sl_law_meaning.specs.meaning.Counts.{IsMeantEnd}
use Rattle.sl_law_meaning.specs.declared.count.Counted.{Counted as Kept}
use Rattle.sl_law_meaning.specs.declared.count.End.TheVariants as end
use Rattle.sl_law_meaning.specs.declared.count.End.{End as Ends}
use Rattle.sl_law_meaning.specs.declared.count.Records.TheVariants.{Dropped, Kept as WithRecords}
use Rattle.sl_law_meaning.specs.declared.count.Records.{Records}
use Rattle.sl_code_instructions.specs.Codes.{CountingCode}
use Rattle.sl_machine.specs.Answers.{answer_of}
use Rattle.sl_machine.specs.Fits.{Fits}
use Rattle.sl_machine.specs.declared.machine.Ending.TheVariants as answer
use Rattle.sl_machine.specs.declared.machine.Ending.{Ending as Answer}
use Rattle.sl_code_semantics.specs.Fits.{FitsRecords}
use Rattle.sl_code_semantics.specs.Memories.{Held, held_of}
use Rattle.sl_code_semantics.specs.Runs.{Ended}
use Rattle.sl_code_semantics.specs.State.{End, Faulted, Halted, State}
use Rattle.sl_code_semantics.specs.Tables.{held_table}
use Rattle.sl_code_semantics.specs.Unrecorded.{unrecorded}
use Rattle.sl_law_meaning.proofs.meaning.MeaningProofs.{any_order, some_outcome, table-sym}
use Rattle.sl_law_meaning.specs.book.Trees.{BookTree}
use Rattle.sl_law_meaning.specs.book.Typing.{is_typed}
use Rattle.sl_law_meaning.specs.declared.fault.LegalFault.{LegalFault}
use Rattle.sl_law_meaning.specs.declared.table.Outcome.TheVariants as outcome
use Rattle.sl_law_meaning.specs.declared.table.Outcome.{Outcome as Meant}
use Rattle.sl_law_meaning.specs.meaning.Means.{Means}
use Rattle.sl_law_meaning.specs.meaning.Tables.{SeatTable}
use Rattle.sl_law_meaning.specs.returns.Election.{Election, IsElection}

held_same : (h k : Held) → answer.Done h ≡ answer.Done k → h ≡ k
held_same h k e = cc

fault_same : (f g : LegalFault) → answer.Fault f ≡ answer.Fault g → f ≡ g
fault_same f g e = cc

done_or_fault : (h : Held) (f : LegalFault) → answer.Done h ≡ answer.Fault f → ⊥
done_or_fault h f e = cc

done_or_out : (h : Held) → answer.Done h ≡ answer.OutOfBudget → ⊥
done_or_out h e = cc

fault_or_out : (f : LegalFault) → answer.Fault f ≡ answer.OutOfBudget → ⊥
fault_or_out f e = cc

module _ (r : Records) (b : BookTree) (c : CountingCode) (e : Election) (is : IsCompiled b c) (in_range : IsElection e) where
  -- what it says of an answer that it is that of the code's run, with its records or without
  abbrev pub Answers : Answer → Type 0
  Answers a = answer_of c e (recorded r (ending_by b c e)) ≡ Some a

  answers_as : (end : End) (a : Answer) → ending_by b c e ≡ Ended end → Answers a → answer_of c e (recorded r (Ended end)) ≡ Some a
  answers_as end a ends h = ap (λ x. answer_of c e (recorded r x)) (sym ends) ∙ h

  -- the run is never out of its budget
  not_out_at : Answers answer.OutOfBudget → ⊥
  not_out_at h = go r (is.ends e in_range).0 (answers_as (is.ends e in_range).0 answer.OutOfBudget (is.ends e in_range).1 h)
    where
      go : (r : Records) (end : End) → answer_of c e (recorded r (Ended end)) ≡ Some answer.OutOfBudget → ⊥
      go WithRecords (Halted base vacant s) h = done_or_out _ (same_Some _ _ h)
      go Dropped (Halted base vacant s) h = done_or_out _ (same_Some _ _ h)
      go WithRecords (Faulted f) h = fault_or_out f (same_Some _ _ h)
      go Dropped (Faulted f) h = fault_or_out f (same_Some _ _ h)

  pub not_out : (a : Answer) → Answers a → a ≢ answer.OutOfBudget
  not_out a h out = not_out_at (subst (λ (x : Answer). Answers x) out h)

  -- a run that ends with a fault: the book means it
  pub fault_is_meant : (f : LegalFault) → Answers (answer.Fault f) → Means b e (outcome.Fault f)
  fault_is_meant f h = go r (is.ends e in_range).0 (is.ends e in_range).1 (answers_as (is.ends e in_range).0 (answer.Fault f) (is.ends e in_range).1 h)
    where
      meant : (g : LegalFault) → ending_by b c e ≡ Ended (Faulted g) → answer.Fault g ≡ answer.Fault f → Means b e (outcome.Fault f)
      meant g ends same = (is.means e (outcome.Fault f) in_range).1 (subst (λ x. ComesTo c e x (outcome.Fault f)) (sym ends) (fault_same g f same))

      go : (r : Records) (end : End) → ending_by b c e ≡ Ended end → answer_of c e (recorded r (Ended end)) ≡ Some (answer.Fault f) → Means b e (outcome.Fault f)
      go WithRecords (Halted base vacant s) ends h = absurd (done_or_fault _ f (same_Some _ _ h))
      go Dropped (Halted base vacant s) ends h = absurd (done_or_fault _ f (same_Some _ _ h))
      go WithRecords (Faulted g) ends h = meant g ends (same_Some _ _ h)
      go Dropped (Faulted g) ends h = meant g ends (same_Some _ _ h)

  -- the table that is held with all records is meant
  pub table_is_meant : (base : ℕ) (vacant : Option ℕ) (s : State) → ending_by b c e ≡ Ended (Halted base vacant s) → (o : Meant) → Means b e o
      → Means b e (outcome.Table (held_table e (held_of c e base vacant s)))
  table_is_meant base vacant s ends o means = go o means (subst (λ x. ComesTo c e x o) ends ((is.means e o in_range).0 means))
    where
      go : (o : Meant) → Means b e o → ComesTo c e (Ended (Halted base vacant s)) o → Means b e (outcome.Table (held_table e (held_of c e base vacant s)))
      go (outcome.Table t) means comes = any_order b e t (held_table e (held_of c e base vacant s)) means (table-sym t (held_table e (held_of c e base vacant s)) comes.same)
      go (outcome.Fault g) means comes = absurd comes

  -- a run that is done: it holds the table and the columns that the book means
  counted_is_meant : is_typed b ≡ true → (h : Held) (x : Kept) → Answers (answer.Done h) → Holds c e h x → IsMeantEnd r b e (end.Counted x)
  counted_is_meant typed h x told holds =
      go r (is.ends e in_range).0 (is.ends e in_range).1 (answers_as (is.ends e in_range).0 (answer.Done h) (is.ends e in_range).1 told)
    where
      meant : (base : ℕ) (vacant : Option ℕ) (s : State) → ending_by b c e ≡ Ended (Halted base vacant s) → Means b e (outcome.Table (held_table e (held_of c e base vacant s)))
      meant base vacant s ends = let o = some_outcome b e typed in_range in table_is_meant base vacant s ends o.0 o.1

      go : (r : Records) (last : End) → ending_by b c e ≡ Ended last → answer_of c e (recorded r (Ended last)) ≡ Some (answer.Done h) → IsMeantEnd r b e (end.Counted x)
      go WithRecords (Halted base vacant s) ends at =
          let same : held_of c e base vacant s ≡ h = held_same (held_of c e base vacant s) h (same_Some _ _ at) in (
            (held_table e (held_of c e base vacant s), meant base vacant s ends, holds.table ∙ ap (held_table e) (sym same)),
            holds_stages b c is h x.columns.items holds.columns e base vacant s in_range ends (ap (λ (k : Held). k.columns) (sym same)),
          )
      go Dropped (Halted base vacant s) ends at =
          let same : held_of c e base vacant (unrecorded s) ≡ h = held_same (held_of c e base vacant (unrecorded s)) h (same_Some _ _ at) in (
            (held_table e (held_of c e base vacant s), meant base vacant s ends, holds.table ∙ ap (held_table e) (sym same)),
            holds_stages b c is h x.columns.items holds.columns e base vacant s in_range ends (ap (λ (k : Held). k.columns) (sym same)),
          )
      go WithRecords (Faulted f) ends at = absurd (done_or_fault h f (sym (same_Some _ _ at)))
      go Dropped (Faulted f) ends at = absurd (done_or_fault h f (sym (same_Some _ _ at)))

  -- how the run ends is how the book ends
  pub end_is_meant : is_typed b ≡ true → (a : Answer) (x : Ends) → Answers a → EndsAs c e a x → IsMeantEnd r b e x
  end_is_meant typed (answer.Done h) (end.Counted x) told holds = counted_is_meant typed h x told holds
  end_is_meant typed (answer.Fault f) (end.Fault g) told same = subst (λ (k : LegalFault). Means b e (outcome.Fault k)) same (fault_is_meant f told)
  end_is_meant typed (answer.Done h) (end.Fault g) told same = absurd same
  end_is_meant typed (answer.Fault f) (end.Counted x) told same = absurd same
  end_is_meant typed answer.OutOfBudget (end.Counted x) told same = absurd same
  end_is_meant typed answer.OutOfBudget (end.Fault g) told same = absurd same

  -- and it fits
  end_fits : (a : Answer) (x : Ends) → Fits c e a → EndsAs c e a x → FitsEnd (length c.stages) e x
  end_fits (answer.Done h) (end.Counted x) fits holds = record {
    table = holds.fits;
    records = subst (λ (t : SeatTable). FitsRecords (length c.stages) e t.steps t.weights) (sym holds.table) fits.records;
    columns = all_long b c is h x.columns.items holds.columns e fits.columns;
    each = each_stage b c is h x.columns.items holds.columns;
  }
  end_fits (answer.Fault f) (end.Fault g) fits same = rw same at fits
  end_fits (answer.Done h) (end.Fault g) fits same = absurd same
  end_fits (answer.Fault f) (end.Counted x) fits same = absurd same
  end_fits answer.OutOfBudget (end.Counted x) fits same = absurd same
  end_fits answer.OutOfBudget (end.Fault g) fits same = absurd same

  pub outcome_fits : (a : Answer) (x : Ends) → Fits c e a → EndsAs c e a x → FitsOutcome b e (record { code = c; end = x })
  outcome_fits a x fits ends = record { names = is.stages; fits = end_fits a x fits ends }
