-- How the program that counts ends (docs/output.md).
use Rattle.std.specs.Io.KnownBytes.{Keeps}
use Rattle.std.specs.Prelude.{Bool, Err, List, None, Ok, Option, Some, false, true, ℕ}
use Rattle.sl_terminal_count.specs.Words.{Asked, Shown, asked, seats, stage, steps}
use Rattle.sl_terminal_count.specs.declared.exit.Exit.TheVariants.{Failed, NoCount, Written}
use Rattle.sl_terminal_count.specs.declared.exit.Exit.{Exit}
use Rattle.sl_count_calls.specs.Counting.{IsOutput, ShowsSeats}
use Rattle.sl_count_calls.specs.Showing.{IsStageOutput}
use Rattle.sl_count_calls.specs.Steps.{ShowsSteps}
use Rattle.sl_count_inputs.specs.Books.{BookInput}
use Rattle.sl_count_inputs.specs.Reading.{ForKnown}
use Rattle.sl_count_inputs.specs.Statuses.{status_number}
use Rattle.sl_count_inputs.specs.Writing.{Delivers}
use Rattle.sl_count_inputs.specs.declared.status.Status.{Status}
use Rattle.sl_terminal_outside.specs.Inputs.{named_input}

-- the exit status: 1 for words that ask for no count, 5 for an error, and else that of what was written
abbrev pub exit_number : Exit → ℕ
exit_number NoCount = 1
exit_number (Written status) = status_number status
exit_number (Failed error) = 5

-- a line goes to standard error: all but a text that was written
abbrev pub is_told : Exit → Bool
is_told NoCount = true
is_told (Written status) = false
is_told (Failed error) = true

-- what is written of what is asked for
abbrev pub IsAskedOutput : Shown → BookInput → List ℕ → Status → List ℕ → Type 0
IsAskedOutput seats = IsOutput ShowsSeats
IsAskedOutput steps = IsOutput ShowsSteps
IsAskedOutput (stage name) = IsStageOutput name

-- the output of what is asked for, where the bytes of its files are known
abbrev pub IsOutputOf : (List ℕ → Option (List ℕ)) → Asked → Status → List ℕ → Type 0
IsOutputOf bytes a status text = ForKnown (named_input bytes a.book) (bytes a.returns) (λ input returns. IsAskedOutput a.shown input returns status text)

-- a count that is asked for: its output is delivered, and the exit is that of the call
abbrev pub IsCountedExit : (List ℕ → Option (List ℕ)) → Asked → Option (List ℕ) → Option (List ℕ) → Exit → Type 0
IsCountedExit bytes a old new NoCount = ⊥
IsCountedExit bytes a old new (Written status) = Delivers (IsOutputOf bytes a) old new (Ok status)
IsCountedExit bytes a old new (Failed error) = Delivers (IsOutputOf bytes a) old new (Err error)

-- words that ask for no count write nothing
abbrev pub IsExitOf : (List ℕ → Option (List ℕ)) → Option Asked → Option (List ℕ) → Option (List ℕ) → Exit → Type 0
IsExitOf bytes (Some a) old new exit = IsCountedExit bytes a old new exit
IsExitOf bytes None old new NoCount = Keeps old new
IsExitOf bytes None old new (Written status) = ⊥
IsExitOf bytes None old new (Failed error) = ⊥

-- the program's end by its words
abbrev pub IsExit : (List ℕ → Option (List ℕ)) → List (List ℕ) → Option (List ℕ) → Option (List ℕ) → Exit → Type 0
IsExit bytes words old new exit = IsExitOf bytes (asked words) old new exit
