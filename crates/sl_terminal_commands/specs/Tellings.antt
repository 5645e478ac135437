-- What is told of each request on standard error: the fault that it met, or warnings of what it counted.
use Rattle.std.specs.Prelude.{Bool, IfSome, List, None, Option, Some, false, true, ℕ}
use Rattle.sl_count_calls.specs.Judged.{IsJudged}
use Rattle.sl_count_calls.specs.declared.judged.Judged.{Judged}
use Rattle.sl_law_meaning.specs.declared.count.Records.TheVariants as records
use Rattle.sl_law_meaning.specs.declared.count.Records.{Records}
use Rattle.sl_desk.specs.JudgedRuns.{IsJudged as IsJudgedRun}
use Rattle.sl_desk.specs.declared.calls.run.JudgedRun.{JudgedRun}
use Rattle.sl_explain_texts.specs.declared.code.FaultCode.TheVariants.{B01}
use Rattle.sl_explain_calls.specs.Codes.{check_subject, run_subject, subject}
use Rattle.sl_count_inputs.specs.Books.{IsBookVerdict}
use Rattle.sl_count_inputs.specs.Judging.{tree_verdict}
use Rattle.sl_count_inputs.specs.Reading.{ForKnown}
use Rattle.sl_count_inputs.specs.declared.refused_book.RefusedBook.{RefusedBook}
use Rattle.sl_count_inputs.specs.declared.status.Input.TheVariants as input
use Rattle.sl_count_inputs.specs.declared.verdict.Verdict.{Verdict}
use Rattle.sl_terminal_outside.specs.Inputs.{named_input}
use Rattle.sl_law_meaning.specs.declared.checked.CheckedBook.{CheckedBook}
use Rattle.sl_terminal_commands.specs.Said.{Said, fault, judged_said, nothing, said_of}
use Rattle.sl_laws.specs.Books.{law_text}
use Rattle.sl_terminal_words.specs.declared.command_line.Request.TheVariants as asked
use Rattle.sl_terminal_words.specs.declared.command_line.Request.{Request}
use Rattle.sl_terminal_words.specs.declared.command_line.Show.TheVariants.{Stage, Steps}
use Rattle.sl_terminal_words.specs.declared.command_line.Show.{Show}
use Rattle.sl_terminal_words.specs.declared.reports.Report.TheVariants as what
use Rattle.sl_terminal_words.specs.declared.reports.Report.{Report}

-- the records and the stage for what is shown of a count
abbrev pub shown_records : Show → Records
shown_records Steps = records.Kept
shown_records _ = records.Dropped

abbrev pub shown_stage : Show → Option (List ℕ)
shown_stage (Stage name) = Some name.now
shown_stage _ = None

-- what is said is of what inputs come to, where their bytes are known: a rulebook and returns, a rulebook alone, a code file and returns
abbrev pub IsOfCount : (List ℕ → Option (List ℕ)) → Records → Option (List ℕ) → List ℕ → List ℕ → (Said → Type 0) → Type 0
IsOfCount bytes r stage book returns Says =
    (judged : Judged) × ForKnown (named_input bytes book) (bytes returns) (λ input known. IsJudged r stage input known judged) × Says (judged_said judged)

abbrev pub IsOfBook : (List ℕ → Option (List ℕ)) → List ℕ → (Said → Type 0) → Type 0
IsOfBook bytes book Says =
    (verdict : Verdict CheckedBook RefusedBook) × IfSome (named_input bytes book) (λ input. IsBookVerdict input (tree_verdict verdict)) × Says (said_of (check_subject verdict))

abbrev pub IsOfRun : (List ℕ → Option (List ℕ)) → List ℕ → List ℕ → (Said → Type 0) → Type 0
IsOfRun bytes code returns Says =
    (judged : JudgedRun) × ForKnown (bytes code) (bytes returns) (λ file known. IsJudgedRun file known judged) × Says (said_of (run_subject judged))

-- of the name of a statute: that there is none of that name, where there is none
abbrev pub text_said : (source : Option (List ℕ)) → Said
text_said (Some source) = nothing
text_said None = fault (subject input.Book (Some B01))

abbrev pub law_said : List ℕ → Said
law_said name = text_said (law_text name)

-- of a request: of the fault that it met; of a report it goes with the tables (`IsReported`)
abbrev pub IsOfFault : (List ℕ → Option (List ℕ)) → Request → (Said → Type 0) → Type 0
IsOfFault bytes (asked.Count show book returns) Says = IsOfCount bytes (shown_records show) (shown_stage show) book.now returns.now Says
IsOfFault bytes (asked.Check book) Says = IsOfBook bytes book.now Says
IsOfFault bytes (asked.Code book file is_forced) Says = IsOfBook bytes book.now Says
IsOfFault bytes (asked.Run code returns) Says = IsOfRun bytes code.now returns.now Says
IsOfFault bytes (asked.Law name) Says = Says (law_said name.now)
IsOfFault bytes (asked.Explain code) Says = Says nothing
IsOfFault bytes (asked.Report what form names) Says = Unit {0}

-- requests that warn of what they count
abbrev pub warns_of : Report → Bool
warns_of (what.Totals returns book) = false
warns_of reported = true

abbrev pub warns : Request → Bool
warns (asked.Count show book returns) = true
warns (asked.Check book) = false
warns (asked.Code book file is_forced) = false
warns (asked.Run code returns) = false
warns (asked.Law name) = false
warns (asked.Explain code) = false
warns (asked.Report what form names) = warns_of what
