-- What `report` and `stages` answer: status, line and tables (docs/report.md).
use Rattle.std.specs.Prelude.{Bool, List, [], false, true, ◌⊎◌, ◌≡◌}
use Rattle.sl_count_calls.specs.declared.judged.Judged.TheVariants.{BookRefused, Counted, ReturnsRefused, StageUnknown}
use Rattle.sl_count_calls.specs.declared.judged.Judged.{Judged}
use Rattle.sl_report_commands.specs.Statuses.{is_stopped, judged_line, judged_status}
use Rattle.sl_report_forms.specs.Tables.{Table}
use Rattle.sl_report_forms.specs.declared.names.Names.{Names}
use Rattle.sl_report_tables.specs.Answers.{IsRefusal, tables_of}
use Rattle.sl_report_tables.specs.Naming.{AreNames}
use Rattle.sl_report_tables.specs.Reports.{Shows}
use Rattle.sl_report_tables.specs.declared.answer.Answer.{Answer}
use Rattle.sl_report_tables.specs.declared.counts.Show.{Show}

-- the tables that show what inputs come to: those of the count, and none where one of them is refused
abbrev pub ShowsJudged : Show → Judged → List Table → Type 0
ShowsJudged show (BookRefused book) tables = tables ≡ []
ShowsJudged show (StageUnknown book name) tables = tables ≡ []
ShowsJudged show (ReturnsRefused returns) tables = tables ≡ []
ShowsJudged show (Counted counting) tables = Shows counting.book.book counting.returns show counting.outcome.end tables

-- the names in them are those of the returns, and of the stages of the book
abbrev pub NamesJudged : Judged → Names → Type 0
NamesJudged (Counted counting) names = AreNames counting.book.book.stages.items counting.returns names
NamesJudged _ names = Unit {0}

-- the answer that shows it
pub record AnswersJudged (show : Show) (judged : Judged) (a : Answer) : Type 0 where
  pub status : a.status ≡ judged_status judged
  pub line : a.line.items ≡ judged_line judged
  pub names : NamesJudged judged a.names
  pub tables : ShowsJudged show judged (tables_of a)

-- the same; or of a count whose names are refused a refusal
abbrev pub IsShown : Show → (are_refused : Bool) → Judged → Answer → Type 0
IsShown show are_refused judged a =
    ((is_stopped are_refused judged ≡ false) × AnswersJudged show judged a) ⊎ ((is_stopped are_refused judged ≡ true) × IsRefusal a)
