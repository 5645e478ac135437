-- What the outcome of a count has, whatever it means: the names of the stages, and what texts are made of.
use Rattle.std.specs.Prelude.{All, List, length, map, ◌≡◌, ℕ}
use Rattle.sl_count_calls.specs.declared.outcome.Outcome.{Outcome}
use Rattle.sl_law_meaning.specs.declared.count.Column.{Column}
use Rattle.sl_law_meaning.specs.declared.count.Counted.{Counted as Kept}
use Rattle.sl_law_meaning.specs.declared.count.End.TheVariants.{Counted, Fault}
use Rattle.sl_law_meaning.specs.declared.count.End.{End}
use Rattle.sl_count_inputs.specs.StageNames.{names_of}
use Rattle.sl_code_instructions.specs.Codes.{CountingCode}
use Rattle.sl_code_semantics.specs.Fits.{FitsFault, FitsRecords}
use Rattle.sl_code_semantics.specs.Places.{cells_of}
use Rattle.sl_law_meaning.specs.book.Trees.{BookTree}
use Rattle.sl_law_meaning.specs.returns.Election.{Election}
use Rattle.sl_count_texts.specs.inner.Fits.{Fits}

-- the names of a code's stages
abbrev pub code_names : CountingCode → List (List ℕ)
code_names c = map (λ s. s.name) c.stages

-- each Land, party, winner and stage that an end names is there; there is a column for each stage, and it has the length of its shape
abbrev pub IsLong : Election → Column → Type 0
IsLong e c = length c.cells.items ≡ cells_of e c.shape

pub record FitsCounted (stages : ℕ) (e : Election) (c : Kept) : Type 0 where
  pub table : Fits c.table e
  pub records : FitsRecords stages e c.table.steps c.table.weights
  pub columns : All (IsLong e) c.columns.items
  pub each : length c.columns.items ≡ stages

abbrev pub FitsEnd : ℕ → Election → End → Type 0
FitsEnd stages e (Counted c) = FitsCounted stages e c
FitsEnd stages e (Fault f) = FitsFault stages e f

-- the code has the names of the book's stages, and the end fits it and the returns
pub record FitsOutcome (tree : BookTree) (e : Election) (o : Outcome) : Type 0 where
  pub names : code_names o.code ≡ names_of tree
  pub fits : FitsEnd (length o.code.stages) e o.end
