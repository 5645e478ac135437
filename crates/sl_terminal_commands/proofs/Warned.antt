-- What is said after a table.
use Rattle.std.proofs.Common.{Err, IfOk, List, None, Ok, Result, Some, [], ◌≡◌, ℕ}
use Rattle.sl_count_calls.specs.Views.{IsTable, IsTableEnd}
use Rattle.sl_count_calls.specs.declared.judged.Judged.TheVariants.{BookRefused, Counted, ReturnsRefused, StageUnknown}
use Rattle.sl_count_calls.specs.declared.judged.Judged.{Judged}
use Rattle.sl_desk.specs.JudgedRuns.{IsTable as IsRunTable, IsTableEnd as IsRunEnd}
use Rattle.sl_desk.specs.declared.calls.run.JudgedRun.TheVariants.{CodeRefused, Ran, ReturnsRefused as RunReturnsRefused}
use Rattle.sl_desk.specs.declared.calls.run.JudgedRun.{JudgedRun}
use Rattle.sl_explain_calls.specs.Codes.{ending_subject, run_subject}
use Rattle.sl_explain_texts.specs.declared.language.Language.{Language}
use Rattle.sl_law_meaning.specs.book.Books.{book_of}
use Rattle.sl_law_meaning.specs.declared.checked.CheckedBook.{CheckedBook}
use Rattle.sl_law_meaning.specs.declared.count.End.TheVariants as ends
use Rattle.sl_law_meaning.specs.declared.count.End.{End}
use Rattle.sl_law_meaning.specs.returns.Election.{Election}
use Rattle.sl_machine.specs.declared.machine.Ending.TheVariants as ending
use Rattle.sl_machine.specs.declared.machine.Ending.{Ending}
use Rattle.sl_report_warnings.specs.Warnings.{warnings_of}
use Rattle.sl_count_inputs.specs.declared.status.Status.TheVariants as status
use Rattle.sl_terminal_commands.specs.declared.answered.Answered.{Answered}
use Rattle.sl_terminal_commands.specs.Said.{AreWarnings, IsSaid, end_said, judged_said, said_of}

pub end_warns : (checked : CheckedBook) (e : Election) (end : End) (language : Language) (text : List ℕ) → IsTableEnd end → IsSaid language (end_said checked e end) text → AreWarnings language text
end_warns checked e (ends.Counted counted) language text is said = (e, warnings_of (Some (book_of checked.book)) e, said)
end_warns checked e (ends.Fault f) language text is said = absurd is

pub table_warns : (judged : Judged) (language : Language) (text : List ℕ) → IsTable judged → IsSaid language (judged_said judged) text → AreWarnings language text
table_warns (BookRefused why) language text is said = absurd is
table_warns (StageUnknown book name) language text is said = absurd is
table_warns (ReturnsRefused why) language text is said = absurd is
table_warns (Counted c) language text is said = end_warns c.book c.returns c.outcome.end language text is said

run_end : (end : Ending) (language : Language) (text : List ℕ) → IsRunEnd end → IsSaid language (said_of (ending_subject end)) text → text ≡ []
run_end (ending.Done held) language text is said = said
run_end (ending.Fault f) language text is said = absurd is
run_end ending.OutOfBudget language text is said = absurd is

pub run_says_nothing : (judged : JudgedRun) (language : Language) (text : List ℕ) → IsRunTable judged → IsSaid language (said_of (run_subject judged)) text → text ≡ []
run_says_nothing (CodeRefused why) language text is said = absurd is
run_says_nothing (RunReturnsRefused why) language text is said = absurd is
run_says_nothing (Ran run') language text is said = run_end run'.ending language text is said

-- returns without a record
no_election : Election
no_election = record { house = None; land_names = []; populations = []; cells = []; party_names = []; minorities = []; win_names = []; wins = []; lots = [] }

-- who says nothing says no more than warnings
pub nothing_warns : (language : Language) (text : List ℕ) → text ≡ [] → AreWarnings language text
nothing_warns language text none = (no_election, [], none)

pub quiet_warns : {R : Type 0} (r : Result Answered R) (language : Language) → IfOk r (λ a. a.status ≡ status.Done → a.said.items ≡ [])
    → IfOk r (λ a. a.status ≡ status.Done → AreWarnings language a.said.items)
quiet_warns (Ok a) language done = λ is. nothing_warns language a.said.items (done is)
quiet_warns (Err f) language done = tt
