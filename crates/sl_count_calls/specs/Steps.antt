-- What counting with the step of each seat writes (docs/output.md).
use Rattle.std.specs.Prelude.{ℕ, List}
use Rattle.sl_law_meaning.specs.book.Trees.{BookTree}
use Rattle.sl_law_meaning.specs.meaning.Tables.{SeatTable}
use Rattle.sl_law_meaning.specs.returns.Election.{Election}
use Rattle.sl_count_texts.specs.Steps.{IsStepsText}
use Rattle.sl_count_inputs.specs.StageNames.{names_of}

-- the table's text after the step of each of its seats
abbrev pub ShowsSteps : BookTree → Election → SeatTable → List ℕ → Type 0
ShowsSteps tree e t output = IsStepsText (names_of tree) t e output
