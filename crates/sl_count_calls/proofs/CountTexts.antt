-- What is written of what a book comes to is what it means.
use Rattle.std.proofs.Common.{◌≡◌, ◌<◌, ℕ, zero, suc, Err, IfOk, List, [], ◌∷◌, Ok, Result, Some, get_or, length, map, slice_get, refl, ap, sym, subst, ◌∙◌, arith}
use Rattle.std.proofs.lemmas.List.{length-map}
use Rattle.std.proofs.lemmas.Option.{slice_get-get_or}
use Rattle.sl_compile.proofs.rulebooks.Known.{known_types}
use Rattle.sl_count_calls.specs.Outcomes.{FitsCounted, code_names}
use Rattle.sl_law_meaning.specs.meaning.Counts.{HoldsStages, IsMeantEnd, kept_table}
use Rattle.sl_law_meaning.specs.declared.count.Column.{Column}
use Rattle.sl_law_meaning.specs.declared.count.Counted.{Counted}
use Rattle.sl_law_meaning.specs.declared.count.End.TheVariants as end
use Rattle.sl_law_meaning.specs.declared.count.Records.TheVariants.{Dropped, Kept}
use Rattle.sl_law_meaning.specs.declared.count.Records.{Records}
use Rattle.sl_count_calls.proofs.OneMeaning.{same_short}
use Rattle.sl_count_calls.specs.Counting.{IsTableText}
use Rattle.sl_count_calls.specs.Reports.{IsReported}
use Rattle.sl_count_calls.specs.Showing.{IsColumnText}
use Rattle.sl_count_calls.specs.declared.report.Report.TheVariants.{Seats, Stage, Steps}
use Rattle.sl_count_calls.specs.declared.report.Report.{Report}
use Rattle.sl_count_calls.specs.inner.Texts.{HasColumn, HasStage, IsColumnOf, IsCountedText, SuitsReport}
use Rattle.sl_count_inputs.specs.StageNames.{names_of}
use Rattle.sl_code_instructions.specs.Codes.{CountingCode}
use Rattle.sl_law_meaning.specs.book.Trees.{BookTree, StageTree}
use Rattle.sl_law_meaning.specs.book.Typing.{Column as TypedColumn, columns_of}
use Rattle.sl_law_meaning.specs.meaning.Columns.{NamedColumn}
use Rattle.sl_law_meaning.specs.meaning.Tables.{SeatTable}
use Rattle.sl_law_meaning.specs.returns.Election.{Election}
use Rattle.sl_table.specs.Stages.{stage_text}
use Rattle.sl_count_texts.specs.Short.{short_text}
use Rattle.sl_count_texts.specs.Steps.{IsStepsText}

-- where the same is said of two lists, an element of the one has one at the same place in the other, of which the same is said
at_same : {X Y Z : Type 0} (f : X → Z) (g : Y → Z) (xs : List X) (ys : List Y) (n : ℕ) (x : X) → map f xs ≡ map g ys → slice_get xs n ≡ Some x
    → (y : Y) × (slice_get ys n ≡ Some y) × (f x ≡ g y)
at_same f g [] ys n x same at = absurd cc
at_same f g (z ∷ xs) [] n x same at = absurd cc
at_same f g (z ∷ xs) (y ∷ ys) zero x same at = (y, refl, cc)
at_same f g (z ∷ xs) (y ∷ ys) (suc n) x same at = let rest : map f xs ≡ map g ys = cc in at_same f g xs ys n x rest at

module _ (tree : BookTree) (e : Election) where
  -- the text of the column of a stage
  column_is : (n : ℕ) (columns : List Column) (output : List ℕ) → HoldsStages tree e columns → IsColumnOf e columns n output → IsColumnText tree e n output
  column_is n columns output holds text =
      let type = at_same (λ (c : Column). c.shape) (λ (t : TypedColumn). t.type.shape) columns (columns_of [] tree.stages) n text.0 holds.shapes text.1 in
      let column = at_same (λ (c : Column). c.cells.items) (λ (x : NamedColumn). x.values) columns holds.known.columns n text.0 holds.cells text.1 in
      record {
        known = holds.known;
        means = holds.means;
        type = type.0;
        column = column.0;
        typed = ap (λ (ts : List TypedColumn). slice_get ts n) (known_types tree e holds.known holds.means) ∙ type.1;
        there = column.1;
        text = text.2 ∙ ap (λ of. stage_text e of text.0.cells.items) type.2 ∙ ap (stage_text e type.0.type.shape) column.2;
      }

  module _ (r : Records) (c : CountingCode) (names : code_names c ≡ names_of tree) where
    pub table_is : (report : Report) (x : Counted) (output : List ℕ) → SuitsReport report r → IsMeantEnd r tree e (end.Counted x) → IsCountedText report c e x output
        → IsTableText (IsReported report) tree e output
    table_is Seats x output suits is text =
        (is.0.0, is.0.1, text ∙ ap (λ t. short_text t e) is.0.2 ∙ bare r is.0.0)
      where
        bare : (r : Records) (t : SeatTable) → short_text (kept_table r t) e ≡ short_text t e
        bare Kept t = refl
        bare Dropped t = same_short (kept_table Dropped t) t e refl refl
    table_is Steps x output suits is text = (
      is.0.0,
      is.0.1,
      subst (λ (ns : List (List ℕ)). IsStepsText ns is.0.0 e output) names
          (subst (λ (t : SeatTable). IsStepsText (code_names c) t e output) (is.0.2 ∙ ap (λ (k : Records). kept_table k is.0.0) suits) text),
    )
    table_is (Stage n) x output suits is text = (is.0.0, is.0.1, column_is n x.columns.items output is.1 text)

-- the text of a column that stands at a place
pub column_there : {V E : Type 0} (items : V → List ℕ) (e : Election) (columns : List Column) (n : ℕ) (x d : Column) (r : Result V E) → n < length columns → x ≡ get_or columns n d
    → IfOk r (λ text. items text ≡ stage_text e x.shape x.cells.items) → IfOk r (λ text. IsColumnOf e columns n (items text))
column_there items e columns n x d (Err error) within at text = tt
column_there items e columns n x d (Ok v) within at text = (x, slice_get-get_or columns n d within ∙ ap Some (sym at), text)

-- a book has the stage of which a column is asked for
pub has_column : (report : Report) (tree : BookTree) (e : Election) (c : CountingCode) (x : Counted) → code_names c ≡ names_of tree → FitsCounted (length c.stages) e x
    → HasStage report tree → HasColumn report x
has_column Seats tree e c x names fits has = tt
has_column Steps tree e c x names fits has = tt
has_column (Stage n) tree e c x names fits has =
    let code = length-map c.stages (λ s. s.name) in
    let book = length-map tree.stages (λ (s : StageTree). s.name) in
    omega (arith, has, fits.each, code, book, ap (λ (ns : List (List ℕ)). length ns) names)
