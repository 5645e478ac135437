-- What is read beside the inputs of a report, and what a report answers of what its inputs come to.
use Rattle.std.specs.Borrow.{Bor}
use Rattle.std.specs.Prelude.{Bool, IfSome, List, None, Option, Some, false, option_map, ◌||◌, ◌≡◌, ℕ}
use Rattle.sl_count_calls.specs.declared.reading.Read.{Read}
use Rattle.sl_count_inputs.specs.Inputs.{Holds}
use Rattle.sl_count_inputs.specs.declared.input.Bytes.TheVariants.{TooLong, Whole}
use Rattle.sl_count_inputs.specs.declared.input.Bytes.{Bytes}
use Rattle.sl_report_commands.specs.Reports.{IsShown}
use Rattle.sl_report_commands.specs.Written.{IsWritten, command_of, json_digests}
use Rattle.sl_report_commands.specs.declared.written.Style.{Style}
use Rattle.sl_report_forms.specs.declared.heading.Heading.{Heading}
use Rattle.sl_report_parties.specs.declared.earlier.EarlierParty.{EarlierParty}
use Rattle.sl_report_tables.specs.Earlier.{is_refused_in}
use Rattle.sl_report_tables.specs.Reports.{beside}
use Rattle.sl_report_tables.specs.declared.answer.Answer.{Answer}
use Rattle.sl_report_forms.specs.declared.shape.Shape.{Shape}
use Rattle.sl_report_tables.specs.declared.counts.Show.{Show}
use Rattle.sl_terminal_commands.specs.Beside.{AreBeside}
use Rattle.sl_terminal_commands.specs.Requests.{AreEarlier, AreTold}
use Rattle.sl_terminal_commands.specs.Said.{IsSaid, report_said}
use Rattle.sl_terminal_commands.specs.declared.answered.Answered.{Answered}
use Rattle.sl_terminal_commands.specs.declared.reports.Writing.{Writing}
use Rattle.sl_terminal_commands.specs.inner.Digested.{read_digests}

-- the bytes of a file, if one is given, within a limit
abbrev pub IsReadFrom : (List ℕ → Option (List ℕ)) → (path : Option (List ℕ)) → (limit : ℕ) → Option Bytes → Type 0
IsReadFrom bytes None limit read = read ≡ None
IsReadFrom bytes (Some path) limit None = ⊥
IsReadFrom bytes (Some path) limit (Some read) = IfSome (bytes path) (Holds limit read)

-- with what a report is written
abbrev pub AreBesideIn : (List ℕ → Option (List ℕ)) → Writing → (is_refused : Bool) → Option (Bor (List EarlierParty)) → Type 0
AreBesideIn bytes w is_refused found =
    AreBeside bytes (option_map (λ path. path.now) w.names) (option_map (λ path. path.now) w.before) is_refused
    × AreEarlier bytes (option_map (λ path. path.now) w.before) found

-- the parties of an earlier table that was read, where it is not refused
abbrev pub AreToldIn : Option Bytes → Option (Bor (List EarlierParty)) → Type 0
AreToldIn None found = found ≡ None
AreToldIn (Some TooLong) found = Unit {0}
AreToldIn (Some (Whole text)) found = is_refused_in (Some (Whole text)) ≡ false → AreTold found text.items

-- what a report of a count that was read by a word answers: it shows the count, with its text and with what is said of it
pub record IsReportAnswer (IsText : Shape → Heading → Answer → List ℕ → Type 0) (show : Show) (is_refused : Bool) (word : List ℕ) (read : Read) (style : Style) (a : Answered) : Type 0 where
  pub answer : Answer
  pub status : a.status ≡ answer.status
  pub shows : IsShown show is_refused read.judged answer
  pub written : IsWritten IsText (command_of show) style (json_digests style (read_digests word read)) answer a.text.items
  pub said : IsSaid style.language (report_said is_refused read.judged) a.said.items

-- the same beside an earlier table that was read
abbrev pub IsReportBeside : (Shape → Heading → Answer → List ℕ → Type 0) → Show → (are_refused : Bool) → Option Bytes → (word : List ℕ) → Read → Style → Answered → Type 0
IsReportBeside IsText show are_refused table word read style a =
    (found : Option (Bor (List EarlierParty))) × AreToldIn table found × IsReportAnswer IsText (beside found show) (are_refused || is_refused_in table) word read style a
