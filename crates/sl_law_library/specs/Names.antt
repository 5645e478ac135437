-- What counting writes for the name of a statute (docs/laws.md). The law is the contract of a function of `laws`.
use Rattle.std.specs.List.{All}
use Rattle.std.specs.Prelude.{ℕ, List}
use Rattle.sl_count_inputs.specs.declared.status.Status.{Status}
use Rattle.sl_law_meaning.specs.book.Trees.{BookTree}
use Rattle.sl_count_inputs.specs.declared.verdict.Verdict.TheVariants.{Good}
use Rattle.sl_count_inputs.specs.Books.{library, IsBookVerdict}
use Rattle.sl_count_calls.specs.declared.report.Report.{Report}
use Rattle.sl_count_calls.specs.Counting.{IsCount, IsOutput}
use Rattle.sl_count_calls.specs.Reports.{IsReported}
use Rattle.sl_law_statutes.specs.Trees.{statutes}

-- the library's book of that name is a good one, with the tree of the statute; and whatever is reported of a table, its seats, its steps or a column,
-- what counting writes for the name is what it writes for a good book of that tree: the table that it means on the returns, or the fault
pub record CountsBy (name : List ℕ) (statute : (ℕ → ℕ) → BookTree) : Type 0 where
  pub at : ℕ → ℕ
  pub good : IsBookVerdict (library name) (Good (statute at))
  pub counts : (report : Report) (returns : List ℕ) (ends : Status) (output : List ℕ) →
      IsOutput (IsReported report) (library name) returns ends output → IsCount (IsReported report) (Good (statute at)) returns ends output

abbrev pub NamesCountByStatutes : Type 0
NamesCountByStatutes = All (λ statute. CountsBy statute.0 statute.1) statutes
