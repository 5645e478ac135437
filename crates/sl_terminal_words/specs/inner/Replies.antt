-- What is said of words, step by step.
use Rattle.std.specs.Prelude.{◌≡◌, false, true, List, Option, Some, None, Result, Ok, Err}
use Rattle.clap.specs.Walk.{Row}
use Rattle.clap.specs.declared.error.kind.ErrorKind.{ErrorKind}
use Rattle.clap.specs.declared.error.kind.ErrorKind.TheVariants.{OutOfMemory}
use Rattle.sl_terminal_words.specs.Answers.{is_call}
use Rattle.sl_terminal_words.specs.Requests.{Wish, asked_of, counted_by, seats, steps, wish_by}
use Rattle.sl_terminal_words.specs.declared.answers.Answer.{Answer}
use Rattle.sl_terminal_words.specs.declared.answers.Answer.TheVariants.{Shown, Refused, NoMemory}
use Rattle.sl_terminal_words.specs.declared.command_line.Asked.{Asked}
use Rattle.sl_terminal_words.specs.declared.help.Name.{Name}
use Rattle.sl_terminal_words.specs.declared.help.Name.TheVariants.{Count, Steps, Report, Stages, Totals, Compare}
use Rattle.sl_terminal_words.specs.declared.options.Options.{Options}

-- what a command asks for where it does not report
abbrev pub desk_wish : Name → List Row → Option Wish
desk_wish Count given = counted_by seats given
desk_wish Steps given = counted_by steps given
desk_wish Report given = None
desk_wish Stages given = None
desk_wish Totals given = None
desk_wish Compare given = None
desk_wish command given = wish_by command given

-- a text that is called for
abbrev pub IsText : Answer → Type 0
IsText (Shown text) = Unit
IsText answer = ⊥

-- a refusal
abbrev pub IsRefusal : Answer → Type 0
IsRefusal (Refused text) = Unit
IsRefusal answer = ⊥

-- what is said where `clap` stops for this cause
abbrev pub Tells : ErrorKind → Answer → Type 0
Tells kind (Shown text) = is_call kind ≡ true
Tells kind (Refused text) = (is_call kind ≡ false) × (kind ≡ OutOfMemory → ⊥)
Tells kind (NoMemory language) = ⊥

-- what is said where `clap` stops at nothing and the words ask for this
abbrev pub Replies : Option (Wish × Options) → Result Asked Answer → Type 0
Replies wish (Ok asked) = wish ≡ Some (asked_of asked)
Replies wish (Err answer) = (wish ≡ None) × IsRefusal answer
