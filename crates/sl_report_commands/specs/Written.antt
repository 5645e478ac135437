-- The text of an answer, as a command writes it (docs/report.md).
use Rattle.std.specs.Prelude.{Bool, List, None, Option, Some, [], codes, if◌then◌else◌, ◌≡◌, ℕ}
use Rattle.sl_count_calls.specs.declared.judged.Judged.{Judged}
use Rattle.sl_count_inputs.specs.declared.refused_book.RefusedBook.{RefusedBook}
use Rattle.sl_count_inputs.specs.declared.refused_election.RefusedElection.{RefusedElection}
use Rattle.sl_count_inputs.specs.declared.status.Input.TheVariants as input
use Rattle.sl_count_inputs.specs.declared.verdict.Verdict.TheVariants.{Good, Refused}
use Rattle.sl_count_inputs.specs.declared.verdict.Verdict.{Verdict}
use Rattle.sl_explain_calls.specs.Codes.{Subject, book_code, election_code, judged_subject, subject}
use Rattle.sl_law_meaning.specs.declared.checked.CheckedBook.{CheckedBook}
use Rattle.sl_law_meaning.specs.returns.Election.{Election}
use Rattle.sl_report_commands.specs.Digests.{digests, is_json}
use Rattle.sl_report_commands.specs.Statuses.{is_stopped}
use Rattle.sl_report_commands.specs.declared.written.Style.{Style}
use Rattle.sl_report_forms.specs.declared.heading.Heading.{Heading}
use Rattle.sl_report_tables.specs.declared.answer.Answer.{Answer}
use Rattle.sl_report_forms.specs.declared.shape.Shape.{Shape}
use Rattle.sl_report_tables.specs.declared.counts.Show.TheVariants.{Report, Seats, Short, Stages, Steps}
use Rattle.sl_report_tables.specs.declared.counts.Show.{Show}

-- the text of an answer in a form: of this command, in this language, with these digests
pub record IsWritten (IsText : Shape → Heading → Answer → List ℕ → Type 0) (command : List ℕ) (style : Style) (shown : List (List ℕ)) (a : Answer) (text : List ℕ) : Type 0 where
  pub heading : Heading
  pub of : heading.command.now ≡ command
  pub spoken : heading.language ≡ style.language
  pub digested : digests heading.inputs.now ≡ shown
  pub written : IsText style.shape heading a text

-- the command that shows a count
abbrev pub command_of : Show → List ℕ
command_of Seats = codes "count"
command_of Steps = codes "steps"
command_of Report = codes "report"
command_of (Short earlier) = codes "report --short"
command_of Stages = codes "stages"

-- JSON alone has digests
abbrev pub json_digests : Style → List (List ℕ) → List (List ℕ)
json_digests style all = if is_json style.shape then all else []

-- ---- of which fault is told

-- of a count the fault that it met; nothing where names or an earlier table are refused
abbrev pub shown_subject : (is_refused : Bool) → Judged → Option Subject
shown_subject is_refused judged = if is_stopped is_refused judged then None else judged_subject judged

-- of totals the rulebook that is refused, if one is given and it is, or else the returns that are
abbrev pub returns_subject : Verdict Election RefusedElection → Option Subject
returns_subject (Good e) = None
returns_subject (Refused why) = Some (subject input.Returns (election_code why))

abbrev pub totals_subject : Option (Verdict CheckedBook RefusedBook) → Verdict Election RefusedElection → Option Subject
totals_subject None returns = returns_subject returns
totals_subject (Some (Good book)) returns = returns_subject returns
totals_subject (Some (Refused why)) returns = Some (subject input.Book (book_code why))
