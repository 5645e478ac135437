-- Of what an explanation is: the input of whose file it speaks, and the code of the fault that a value has (docs/faults.md). Out of memory is no fault of
-- an input, and has no code.
use Rattle.std.specs.Prelude.{None, Option, Some}
use Rattle.sl_count_code_files.specs.declared.refusal.CodeRefusal.TheVariants as file
use Rattle.sl_count_code_files.specs.declared.refusal.CodeRefusal.{CodeRefusal}
use Rattle.sl_count_calls.specs.declared.judged.Judged.TheVariants as judged
use Rattle.sl_count_calls.specs.declared.judged.Judged.{Judged}
use Rattle.sl_law_meaning.specs.declared.count.End.TheVariants as ends
use Rattle.sl_law_meaning.specs.declared.count.End.{End}
use Rattle.sl_desk.specs.declared.calls.run.JudgedRun.TheVariants as runs
use Rattle.sl_desk.specs.declared.calls.run.JudgedRun.{JudgedRun}
use Rattle.sl_explain_texts.specs.declared.code.FaultCode.TheVariants.{B01, B02, B22, C14, C15, R12}
use Rattle.sl_explain_texts.specs.declared.code.FaultCode.{FaultCode}
use Rattle.sl_explain_books.specs.Codes.{grammar_code, test_code, token_code}
use Rattle.sl_explain_calls.specs.declared.explained.Explained.{Explained}
use Rattle.sl_explain_faults.specs.Codes.{file_code, legal_code, verifier_code}
use Rattle.sl_explain_returns.specs.Codes.{returns_code}
use Rattle.sl_count_inputs.specs.declared.refused_book.RefusedBook.TheVariants as book
use Rattle.sl_count_inputs.specs.declared.refused_book.RefusedBook.{RefusedBook}
use Rattle.sl_count_inputs.specs.declared.refused_election.RefusedElection.TheVariants as election
use Rattle.sl_count_inputs.specs.declared.refused_election.RefusedElection.{RefusedElection}
use Rattle.sl_count_inputs.specs.declared.status.Input.TheVariants as input
use Rattle.sl_count_inputs.specs.declared.status.Input.{Input}
use Rattle.sl_count_inputs.specs.declared.verdict.Verdict.TheVariants as verdict
use Rattle.sl_count_inputs.specs.declared.verdict.Verdict.{Verdict}
use Rattle.sl_machine.specs.declared.machine.Ending.TheVariants as ending
use Rattle.sl_machine.specs.declared.machine.Ending.{Ending}
use Rattle.sl_law_meaning.specs.declared.checked.CheckedBook.{CheckedBook}

-- what an explanation is of
pub record Subject : Type 0 where
  pub input : Input
  pub code : Option FaultCode

abbrev pub subject : Input → Option FaultCode → Subject
subject input code = record { input = input; code = code }

abbrev pub subject_of : Explained → Subject
subject_of told = subject told.input told.explanation.code

-- ---- refused inputs

abbrev pub book_code : RefusedBook → Option FaultCode
book_code (book.UnknownStatute name) = Some B01
book_code book.TooLong = Some B02
book_code (book.Tokens fault) = token_code fault
book_code (book.Grammar fault tokens) = grammar_code fault
book_code (book.Test fault tree) = Some (test_code fault)

abbrev pub election_code : RefusedElection → Option FaultCode
election_code election.TooLong = Some R12
election_code (election.Records refused) = returns_code refused.fault.kind

abbrev pub refused_code : CodeRefusal → Option FaultCode
refused_code file.TooLong = Some C14
refused_code (file.File fault) = file_code fault
refused_code (file.Kinds fault) = Some (verifier_code fault)

-- ---- what inputs come to: its fault, if it has one

abbrev pub check_subject : Verdict CheckedBook RefusedBook → Option Subject
check_subject (verdict.Good checked) = None
check_subject (verdict.Refused refused) = Some (subject input.Book (book_code refused))

abbrev pub end_subject : End → Option Subject
end_subject (ends.Counted counted) = None
end_subject (ends.Fault fault) = Some (subject input.Returns (Some (legal_code fault)))

abbrev pub judged_subject : Judged → Option Subject
judged_subject (judged.BookRefused refused) = Some (subject input.Book (book_code refused))
judged_subject (judged.StageUnknown checked name) = Some (subject input.Book (Some B22))
judged_subject (judged.ReturnsRefused refused) = Some (subject input.Returns (election_code refused))
judged_subject (judged.Counted counting) = end_subject counting.outcome.end

abbrev pub ending_subject : Ending → Option Subject
ending_subject (ending.Done held) = None
ending_subject (ending.Fault fault) = Some (subject input.Returns (Some (legal_code fault)))
ending_subject ending.OutOfBudget = Some (subject input.Code (Some C15))

abbrev pub run_subject : JudgedRun → Option Subject
run_subject (runs.CodeRefused refused) = Some (subject input.Code (refused_code refused))
run_subject (runs.ReturnsRefused refused) = Some (subject input.Returns (election_code refused))
run_subject (runs.Ran run) = ending_subject run.ending
