-- A well-formed book has at most one text on an election.
use Rattle.std.proofs.Common.{◌≡◌, ℕ, true, List, slice_get, sym, ap, ◌∙◌, inl, inr}
use Rattle.std.proofs.lemmas.Option.{same_Some}
use Rattle.sl_law_meaning.specs.declared.table.Outcome.TheVariants as outcome
use Rattle.sl_law_meaning.specs.book.Trees.{BookTree}
use Rattle.sl_law_meaning.specs.book.Typing.{Column, is_typed}
use Rattle.sl_law_meaning.specs.returns.Election.{Election, IsElection}
use Rattle.sl_law_meaning.specs.meaning.Tables.{SeatTable}
use Rattle.sl_law_meaning.specs.meaning.Columns.{NamedColumn}
use Rattle.sl_law_meaning.specs.meaning.Means.{Known, Through, nothing_known, StagesMean, SameTable}
use Rattle.sl_law_meaning.specs.laws.MeaningLaws.{RecordsComeOnce}
use Rattle.sl_law_meaning.proofs.meaning.ExactlyOne.{same_ones}
use Rattle.sl_law_meaning.proofs.meaning.MeaningProofs.{at_most_one_outcome}
use Rattle.sl_law_meaning.proofs.meaning.OneOutcome.{one_stages_result}
use Rattle.sl_law_meaning.proofs.meaning.RecordsOnce.{records_once}
use Rattle.sl_count_texts.proofs.AnyOrder.{same_text}
use Rattle.sl_count_texts.specs.Short.{short_text}
use Rattle.sl_table.specs.Stages.{stage_text}
use Rattle.sl_count_texts.specs.Faults.{fault_text}
use Rattle.sl_count_calls.specs.declared.report.Report.{Report}
use Rattle.sl_count_calls.specs.declared.report.Report.TheVariants.{Seats, Steps, Stage}
use Rattle.sl_count_inputs.specs.declared.status.Status.{Status}
use Rattle.sl_count_inputs.specs.declared.verdict.Verdict.TheVariants.{Good}
use Rattle.sl_count_inputs.specs.StageNames.{names_of}
use Rattle.sl_count_calls.specs.Counting.{IsTableText, IsFaultText, IsTreeOutput}
use Rattle.sl_count_calls.specs.Showing.{IsColumnText}
use Rattle.sl_count_calls.specs.Reports.{IsReported}

-- the short text shows neither steps nor weights
pub same_short : (t u : SeatTable) (e : Election) → t.lists ≡ u.lists → t.placed ≡ u.placed → short_text t e ≡ short_text u e
same_short t u e lists placed =
    ap (λ lists. short_text (record { lists = lists; placed = t.placed; steps = u.steps; weights = u.weights }) e) lists
    ∙ ap (λ placed. short_text (record { lists = u.lists; placed = placed; steps = u.steps; weights = u.weights }) e) placed

known_same : (h k : Known) → Through h ≡ Through k → h ≡ k
known_same h k e = cc

-- the column of a stage has one text
one_column_text : (tree : BookTree) (e : Election) (n : ℕ) (s t : List ℕ) → is_typed tree ≡ true → IsColumnText tree e n s → IsColumnText tree e n t → s ≡ t
one_column_text tree e n s t typed h k =
    let same : h.known ≡ k.known = known_same h.known k.known
    (same_ones (StagesMean tree e nothing_known tree.stages) (one_stages_result tree e typed) (Through h.known) (Through k.known) h.means k.means) in
    let type : h.type ≡ k.type = same_Some h.type k.type (sym h.typed ∙ ap (λ (x : Known). slice_get x.types n) same ∙ k.typed) in
    let column : h.column ≡ k.column = same_Some h.column k.column (sym h.there ∙ ap (λ (x : Known). slice_get x.columns n) same ∙ k.there) in
    h.text ∙ ap (λ (x : Column). stage_text e x.type.shape h.column.values) type ∙ ap (λ (x : NamedColumn). stage_text e k.type.type.shape x.values) column ∙ sym k.text

-- what is reported of a table does not show in which order its steps and weights stand
same_report : (report : Report) (tree : BookTree) (e : Election) (t u : SeatTable) (x y : List ℕ) → is_typed tree ≡ true → SameTable t u → RecordsComeOnce t →
    IsReported report tree e t x → IsReported report tree e u y → x ≡ y
same_report Seats tree e t u x y typed same once h k = h ∙ same_short t u e same.lists same.placed ∙ sym k
same_report Steps tree e t u x y typed same once h k = same_text (names_of tree) e t u x y same once h k
same_report (Stage n) tree e t u x y typed same once h k = one_column_text tree e n x y typed h k

module _ (report : Report) (tree : BookTree) (e : Election) (typed : is_typed tree ≡ true) (is : IsElection e) where
  one_table_text : (s t : List ℕ) → IsTableText (IsReported report) tree e s → IsTableText (IsReported report) tree e t → s ≡ t
  one_table_text s t h k =
      let same : SameTable h.0 k.0 = at_most_one_outcome tree e typed is (outcome.Table h.0) (outcome.Table k.0) h.1 k.1 in
      same_report report tree e h.0 k.0 s t typed same (records_once tree e h.0 typed h.1) h.2 k.2

  one_fault_text : (s t : List ℕ) → IsFaultText tree e s → IsFaultText tree e t → s ≡ t
  one_fault_text s t h k =
      h.2 ∙ ap (fault_text (names_of tree) e) (at_most_one_outcome tree e typed is (outcome.Fault h.0) (outcome.Fault k.0) h.1 k.1) ∙ sym k.2

  -- a book that means a table means no fault
  not_both : (s t : List ℕ) → IsTableText (IsReported report) tree e s → IsFaultText tree e t → ⊥
  not_both s t h k = at_most_one_outcome tree e typed is (outcome.Table h.0) (outcome.Fault k.0) h.1 k.1

  pub one_good_output : (a b : Status) (s t : List ℕ) → IsTreeOutput (IsReported report) tree (Good e) a s → IsTreeOutput (IsReported report) tree (Good e) b t → (a ≡ b) × (s ≡ t)
  one_good_output a b s t (inl h) (inl k) = (h.0 ∙ sym k.0, one_table_text s t h.1 k.1)
  one_good_output a b s t (inl h) (inr k) = absurd (not_both s t h.1 k.1)
  one_good_output a b s t (inr h) (inl k) = absurd (not_both t s k.1 h.1)
  one_good_output a b s t (inr h) (inr k) = (h.0 ∙ sym k.0, one_fault_text s t h.1 k.1)
