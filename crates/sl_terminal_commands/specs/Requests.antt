-- What each request answers, where the bytes of its files are known (docs/output.md, docs/report.md).
use Rattle.std.specs.Option.{option_map}
use Rattle.std.specs.Borrow.{Bor}
use Rattle.std.specs.Prelude.{Bool, IfSome, List, None, Option, Some, [], codes, false, length, map, nat_lt, ◌||◌, ◌≡◌, ℕ}
use Rattle.sl_count_calls.specs.Counting.{IsOutput, ShowsSeats}
use Rattle.sl_count_calls.specs.Judged.{IsJudged}
use Rattle.sl_count_calls.specs.Showing.{IsStageOutput}
use Rattle.sl_count_calls.specs.Steps.{ShowsSteps}
use Rattle.sl_count_calls.specs.declared.judged.Judged.{Judged}
use Rattle.sl_desk.specs.Checking.{IsCheckOutput}
use Rattle.sl_desk.specs.Compiling.{IsCompilingOutput}
use Rattle.sl_desk.specs.Running.{IsRunCode}
use Rattle.sl_count_inputs.specs.Books.{BookInput}
use Rattle.sl_count_inputs.specs.Judging.{election_verdict}
use Rattle.sl_count_inputs.specs.Library.{IsLawOutput}
use Rattle.sl_count_inputs.specs.Reading.{ForKnown}
use Rattle.sl_count_inputs.specs.declared.refused_book.RefusedBook.{RefusedBook}
use Rattle.sl_count_inputs.specs.declared.refused_election.RefusedElection.{RefusedElection}
use Rattle.sl_count_inputs.specs.declared.status.Status.TheVariants as status
use Rattle.sl_count_inputs.specs.declared.status.Status.{Status}
use Rattle.sl_count_inputs.specs.declared.verdict.Verdict.{Verdict}
use Rattle.sl_explain_texts.specs.declared.code.FaultCode.{FaultCode}
use Rattle.sl_explain_texts.specs.declared.language.Language.{Language}
use Rattle.sl_law_meaning.specs.declared.checked.CheckedBook.{CheckedBook}
use Rattle.sl_law_meaning.specs.declared.count.Records.TheVariants.{Kept}
use Rattle.sl_law_meaning.specs.returns.Election.{Election}
use Rattle.sl_terminal_outside.specs.Inputs.{named_input}
use Rattle.sl_report_commands.specs.Digests.{count_digests, totals_digests}
use Rattle.sl_report_commands.specs.Reports.{IsShown as ShowsAnswer}
use Rattle.sl_report_commands.specs.Summaries.{IsTotalsBy}
use Rattle.sl_report_commands.specs.Written.{IsWritten, command_of, json_digests, totals_subject}
use Rattle.sl_report_commands.specs.declared.written.Style.{Style}
use Rattle.sl_report_forms.specs.declared.heading.Heading.{Heading}
use Rattle.sl_report_parties.specs.declared.earlier.EarlierParty.{EarlierParty}
use Rattle.sl_report_tables.specs.Earlier.{is_no_table, party_told, table_parties}
use Rattle.sl_report_tables.specs.Reports.{beside}
use Rattle.sl_report_tables.specs.declared.answer.Answer.{Answer}
use Rattle.sl_report_forms.specs.declared.shape.Shape.{Shape}
use Rattle.sl_report_tables.specs.declared.cases.TheConstants.{MAX_BEFORE_BYTES}
use Rattle.sl_report_tables.specs.declared.counts.Show.TheVariants as show
use Rattle.sl_report_tables.specs.declared.counts.Show.{Show as Shown}
use Rattle.sl_terminal_commands.specs.Beside.{AreBeside, AreNames}
use Rattle.sl_terminal_commands.specs.Files.{Loses}
use Rattle.sl_terminal_commands.specs.Said.{AreWarnings, IsSaid, Said, report_said, said_of}
use Rattle.sl_terminal_commands.specs.Comparisons.{IsComparisonOf}
use Rattle.sl_terminal_commands.specs.Sums.{AreJudged, IsGivenVerdict, given_input}
use Rattle.sl_terminal_commands.specs.Tellings.{IsOfFault, warns}
use Rattle.sl_terminal_commands.specs.declared.answered.Answered.{Answered}
use Rattle.sl_terminal_words.specs.declared.command_line.Request.TheVariants as asked
use Rattle.sl_terminal_words.specs.declared.command_line.Request.{Request}
use Rattle.sl_terminal_words.specs.declared.command_line.Show.TheVariants.{Seats, Stage, Steps}
use Rattle.sl_terminal_words.specs.declared.command_line.Show.{Show}
use Rattle.sl_terminal_words.specs.declared.reports.Report.TheVariants as what
use Rattle.sl_terminal_words.specs.declared.reports.Report.{Report}

-- what is shown of a count: its seat table, its steps, or the column of a stage
abbrev pub IsShown : Show → BookInput → List ℕ → Status → List ℕ → Type 0
IsShown Seats = IsOutput ShowsSeats
IsShown Steps = IsOutput ShowsSteps
IsShown (Stage name) = IsStageOutput name.now

-- how a report is written, in a form and in a language
abbrev pub style_of : Shape → Language → Style
style_of shape language = record { shape = shape; language = language }

-- the parties of an earlier seat table, if one is given: where it is not refused they are those that it tells
abbrev pub AreTold : Option (Bor (List EarlierParty)) → List ℕ → Type 0
AreTold None text = ⊥
AreTold (Some found) text = map party_told found.now ≡ table_parties text

abbrev pub AreEarlier : (List ℕ → Option (List ℕ)) → (path : Option (List ℕ)) → Option (Bor (List EarlierParty)) → Type 0
AreEarlier bytes None found = found ≡ None
AreEarlier bytes (Some path) found =
    IfSome (bytes path) (λ text. (nat_lt MAX_BEFORE_BYTES (length text) || is_no_table text) ≡ false → AreTold found text)

-- by the texts of answers, and what the bytes of files are
module _ (IsText : Shape → Heading → Answer → List ℕ → Type 0) (bytes : List ℕ → Option (List ℕ)) where
  -- a report of one count: it shows what the rulebook and the returns come to, with the names of a file and beside an earlier table, if these are given; its text
  -- is the text of just this answer, in JSON with the digests of the inputs; and what is said is of the same
  pub record IsReportOf (show : Shown) (book returns : List ℕ) (names earlier : Option (List ℕ)) (style : Style) (ends : Status) (text : List ℕ) (Says : Said → Type 0) : Type 0 where
    pub answer : Answer
    pub status : ends ≡ answer.status
    pub is_refused : Bool
    pub files : AreBeside bytes names earlier is_refused
    pub found : Option (Bor (List EarlierParty))
    pub told : AreEarlier bytes earlier found
    pub judged : Judged
    pub digests : List (List ℕ)
    pub means : ForKnown (named_input bytes book) (bytes returns) (λ input known.
        IsJudged Kept None input known judged × (digests ≡ count_digests judged input known))
    pub shows : ShowsAnswer (beside found show) is_refused judged answer
    pub written : IsWritten IsText (command_of (beside found show)) style (json_digests style digests) answer text
    pub said : Says (report_said is_refused judged)

  -- the totals of returns, with a rulebook and names if they are given: the same
  pub record IsTotalsOf (returns : List ℕ) (word names : Option (List ℕ)) (style : Style) (ends : Status) (text : List ℕ) (Says : Said → Type 0) : Type 0 where
    pub answer : Answer
    pub status : ends ≡ answer.status
    pub is_refused : Bool
    pub named : AreNames bytes names is_refused
    pub book : Option (Verdict CheckedBook RefusedBook)
    pub given : IsGivenVerdict bytes word book
    pub verdict : Verdict Election RefusedElection
    pub judged : AreJudged (bytes returns) (election_verdict verdict)
    pub shows : IsTotalsBy is_refused book verdict answer
    pub digests : List (List ℕ)
    pub digested : ForKnown (given_input bytes word) (bytes returns) (λ input known. digests ≡ totals_digests input known)
    pub written : IsWritten IsText (codes "totals") style (json_digests style digests) answer text
    pub said : Says (said_of (totals_subject book verdict))

  -- a command that reports
  abbrev pub IsReported : Report → (names : Option (List ℕ)) → Style → Status → List ℕ → (Said → Type 0) → Type 0
  IsReported (what.Seats book returns) names style ends text Says = IsReportOf show.Seats book.now returns.now names None style ends text Says
  IsReported (what.Steps book returns) names style ends text Says = IsReportOf show.Steps book.now returns.now names None style ends text Says
  IsReported (what.Count book returns) names style ends text Says = IsReportOf show.Report book.now returns.now names None style ends text Says
  IsReported (what.Short book returns before) names style ends text Says =
      IsReportOf (show.Short None) book.now returns.now names (option_map (λ path. path.now) before) style ends text Says
  IsReported (what.Stages book returns) names style ends text Says = IsReportOf show.Stages book.now returns.now names None style ends text Says
  IsReported (what.Totals returns book) names style ends text Says = IsTotalsOf returns.now (option_map (λ word. word.now) book) names style ends text Says
  IsReported (what.Compare returns books methods) names style ends text Says =
      IsComparisonOf IsText bytes returns.now (map (λ word. word.now) books.items) (map (λ word. word.now) methods.items) names style ends text Says

-- besides by the texts about codes, and in a language
module _ (IsText : Shape → Heading → Answer → List ℕ → Type 0) (IsAbout : Language → FaultCode → List ℕ → Type 0) (language : Language) (bytes : List ℕ → Option (List ℕ)) where
  -- a request: its status, its text, and the bytes of the file that it makes; of a report what is said goes with the tables
  abbrev pub IsOutputOf : Request → Status → (text made : List ℕ) → (Said → Type 0) → Type 0
  IsOutputOf (asked.Count show book returns) ends text made Says = ForKnown (named_input bytes book.now) (bytes returns.now) (λ input known. IsShown show input known ends text)
  IsOutputOf (asked.Check book) ends text made Says = IfSome (named_input bytes book.now) (λ input. IsCheckOutput input ends text)
  IsOutputOf (asked.Code book file is_forced) ends text made Says = IfSome (named_input bytes book.now) (λ input. IsCompilingOutput input ends made text)
  IsOutputOf (asked.Run code returns) ends text made Says = ForKnown (bytes code.now) (bytes returns.now) (λ file known. IsRunCode file known ends text)
  IsOutputOf (asked.Law name) ends text made Says = IsLawOutput name.now ends text
  IsOutputOf (asked.Explain code) ends text made Says = (ends ≡ status.Done) × IsAbout language code text
  IsOutputOf (asked.Report what form names) ends text made Says =
      IsReported IsText bytes what (option_map (λ path. path.now) names) (style_of form language) ends text Says

  -- an answer to a request
  pub record IsAnswerTo (request : Request) (a : Answered) : Type 0 where
    pub output : IsOutputOf request a.status a.text.items a.made.items (λ s. IsSaid language s a.said.items)
    -- what is said is of the fault that it met, or warnings of what it counted
    pub said : IsOfFault bytes request (λ s. IsSaid language s a.said.items)
    -- where it was done, no more than warnings, and nothing by a request that does not count
    pub done : a.status ≡ status.Done → AreWarnings language a.said.items
    pub still : warns request ≡ false → a.status ≡ status.Done → a.said.items ≡ []
    -- no file is lost by it that must stay
    pub lost : Loses bytes request → ⊥
