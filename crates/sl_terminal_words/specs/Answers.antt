-- What is answered to the words of a command line.
use Rattle.std.specs.Prelude.{ℕ, ◌≡◌, ◌⊎◌, Bool, true, false, List, [], Option, Some, None, Result, Ok, Err, codes, drop, if◌then◌else◌, option_and_then, take, unwrap_or, ◌∷◌}
use Rattle.std.specs.List.{list_all}
use Rattle.std.specs.Option.{option_map_or}
use Rattle.std.specs.Str.{bytes_eq}
use Rattle.clap.specs.Faults.{fault_of}
use Rattle.clap.specs.Kinds.{IsAmong, Kinds}
use Rattle.clap.specs.Simple.{subcommand_of}
use Rattle.clap.specs.Walk.{Text}
use Rattle.clap.specs.declared.error.kind.ErrorKind.{ErrorKind}
use Rattle.clap.specs.declared.error.kind.ErrorKind.TheVariants.{DisplayHelp, DisplayVersion}
use Rattle.sl_explain_texts.specs.Languages.{language_of}
use Rattle.sl_explain_texts.specs.declared.language.Language.{Language}
use Rattle.sl_terminal_words.specs.Commands.{commands_for, program_for}
use Rattle.sl_terminal_words.specs.Requests.{Wish, asked_by, asked_of}
use Rattle.sl_terminal_words.specs.declared.answers.Answer.{Answer}
use Rattle.sl_terminal_words.specs.declared.answers.Answer.TheVariants.{Shown, Refused, NoMemory}
use Rattle.sl_terminal_words.specs.declared.command_line.Asked.{Asked}
use Rattle.sl_terminal_words.specs.declared.help.Name.{Name}
use Rattle.sl_terminal_words.specs.declared.help.Name.TheVariants.{Report, Stages, Totals, Compare}
use Rattle.sl_terminal_words.specs.declared.options.Options.{Options}

-- ---- what `clap` makes of the words

-- what they ask for
unfoldable pub asked_in : List Text → Option (Wish × Options)
asked_in words = option_and_then asked_by (subcommand_of (program_for words) words)

-- their faults, of which `clap` names one
unfoldable pub faults_in : List Text → Kinds
faults_in words = fault_of (program_for words) words

-- no word of the command is tied to another
abbrev pub is_free : Name → Bool
is_free Report = false
is_free Stages = false
is_free Totals = false
is_free Compare = false
is_free command = true

-- the words begin with such a command: of these alone it is known why `clap` refuses words
unfoldable pub is_known : List Text → Bool
is_known words = list_all is_free (commands_for words)

-- a call for a help or for the version is no fault of the words
abbrev pub is_call : ErrorKind → Bool
is_call DisplayHelp = true
is_call DisplayVersion = true
is_call kind = false

-- there is a call for a text in the words, or a fault, if it is known
abbrev pub HasCall : List Text → Type 0
HasCall words = is_known words ≡ true → (kind : ErrorKind) × IsAmong kind (faults_in words) × (is_call kind ≡ true)

abbrev pub HasFault : List Text → Type 0
HasFault words = is_known words ≡ true → (kind : ErrorKind) × IsAmong kind (faults_in words) × (is_call kind ≡ false)

-- ---- the language

-- the word for a language that is given behind `--lang=`, or where `--lang` stands before it
abbrev pub language_given : Text → Text → Text
language_given before word = if bytes_eq (take 7 word) (codes "--lang=") then drop 7 word
    else (if bytes_eq before (codes "--lang") then word else [])

-- the first language that is given among words, which may be refused
abbrev pub first_language : Text → List Text → Option Language
first_language before [] = None
first_language before (word ∷ words) =
    option_map_or (λ language. Some language) (language_of (language_given before word)) (first_language word words)

-- ---- the answer

-- what is answered in a language: what the words ask for, if there is no fault in them; a text that they call for; why they are refused, for a fault or
-- because they ask for nothing; or that memory ran out
abbrev pub Answers : Language → List Text → Result Asked Answer → Type 0
Answers language words (Ok asked) = (asked_in words ≡ Some (asked_of asked)) × (is_known words ≡ true → faults_in words ≡ [])
Answers language words (Err (Shown text)) = HasCall words
Answers language words (Err (Refused text)) = HasFault words ⊎ (asked_in words ≡ None)
Answers language words (Err (NoMemory spoken)) = spoken ≡ language

-- an answer to these words, of which the first is the program's name: in the language that they ask for, else in this one
abbrev pub IsAnswerTo : Language → List Text → Result Asked Answer → Type 0
IsAnswerTo language words answer = Answers (unwrap_or (first_language [] words) language) words answer
