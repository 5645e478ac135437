-- The command line as data: its commands, and of each the words in their places and the options (docs/output.md, docs/report.md).
use Rattle.std.specs.Borrow.{Bor}
use Rattle.std.specs.Option.{option_map_or}
use Rattle.std.specs.Prelude.{◌++◌, ℕ, List, [], ◌∷◌, Option, Some, true, false, codes, find, map, option_and_then, slice_get}
use Rattle.std.specs.Str.{bytes_eq}
use Rattle.clap.specs.Lexer.{usize_max}
use Rattle.clap.specs.Simple.{App, Shape, new_rule, new_shape}
use Rattle.clap.specs.Walk.{Rule, Text}
use Rattle.clap.specs.declared.builder.action.ArgAction.TheVariants.{Set, Append, SetTrue}
use Rattle.clap.specs.declared.builder.value_parser.ValueParser.TheVariants.{Names}
use Rattle.sl_terminal_words.specs.declared.help.Name.{Name}
use Rattle.sl_terminal_words.specs.declared.help.Name.TheVariants.{Count, Steps, Stage, Check, Code, Run, Law, Explain, Report, Stages, Totals, Compare}
use Rattle.sl_terminal_words.specs.declared.words.WordName.{WordName}
use Rattle.sl_terminal_words.specs.declared.words.WordName.TheVariants.{Book, OptionalBook, Books, Returns, StageName, Out, CodeFile, Statute, FaultCode, Short, Markdown, Html, Json, PlainJson, Csv, Before, Method, Names as FullNames, Quiet, Language, Force, Help, Version}

-- ---- words in memory

-- words, as if they stood at no place
abbrev pub placed : List Text → Bor (List (Bor Text))
placed words = record { ref_ptr = (0, 0); now = map (λ word. record { ref_ptr = (0, 0); now = word }) words }

-- ---- how a word is given

-- in its place, and it has to be there
abbrev pub needed : Text → Rule
needed name = record (new_rule name) { action = Some Set; required = true }

-- in its place, or left out
abbrev pub optional : Text → Rule
optional name = record (new_rule name) { action = Some Set }

-- in its place, any number of times
abbrev pub repeated : Text → Rule
repeated name =
    record (new_rule name) { action = Some Append; range = Some (record { start_inclusive = 0; end_inclusive = usize_max }) }

-- by its name alone
abbrev pub flag : Text → Rule
flag name = record (new_rule name) { long = Some name; action = Some SetTrue }

-- by its name alone, or by a letter
abbrev pub flag_or_letter : Text → ℕ → Rule
flag_or_letter name letter = record (flag name) { short = Some letter }

-- by its name, with a value
abbrev pub valued : Text → Rule
valued name = record (new_rule name) { long = Some name; action = Some Set; value_names = 1 }

-- and only together with another word, or without it
abbrev pub tied : Rule → Rule
tied rule = record rule { is_free = false }

-- by its name, with one of these values
abbrev pub chosen : Text → List Text → Rule
chosen name values = record (valued name) { parser = Some (Names (placed values)) }

-- the same, any number of times
abbrev pub chosen_again : Text → List Text → Rule
chosen_again name values = record (chosen name values) { action = Some Append }

-- ---- the words

-- the words of `--lang` and of `--method`
abbrev pub language_words : List Text
language_words = codes "de" ∷ codes "en" ∷ []

abbrev pub method_words : List Text
method_words =
    codes "webster" ∷ codes "jefferson" ∷ codes "adams" ∷ codes "dean" ∷ codes "hill" ∷ codes "hamilton" ∷ []

-- how each word is given
abbrev pub rule_named : WordName → Rule
rule_named Book = needed (codes "BOOK")
rule_named OptionalBook = optional (codes "BOOK")
rule_named Books = repeated (codes "BOOK")
rule_named Returns = needed (codes "RETURNS")
rule_named StageName = needed (codes "NAME")
rule_named Out = needed (codes "OUT")
rule_named CodeFile = needed (codes "CODE")
rule_named Statute = needed (codes "NAME")
rule_named FaultCode = needed (codes "CODE")
rule_named Short = flag (codes "short")
rule_named Markdown = flag (codes "markdown")
rule_named Html = tied (flag (codes "html"))
rule_named Json = tied (flag (codes "json"))
rule_named PlainJson = flag (codes "json")
rule_named Csv = tied (flag (codes "csv"))
rule_named Before = tied (valued (codes "before"))
rule_named Method = tied (chosen_again (codes "method") method_words)
rule_named FullNames = valued (codes "names")
rule_named Quiet = flag_or_letter (codes "quiet") 113
rule_named Language = chosen (codes "lang") language_words
rule_named Force = flag (codes "force")
rule_named Help = flag_or_letter (codes "help") 104
rule_named Version = flag_or_letter (codes "version") 86

-- ---- the commands

abbrev pub command_word : Name → Text
command_word Count = codes "count"
command_word Steps = codes "steps"
command_word Stage = codes "stage"
command_word Check = codes "check"
command_word Code = codes "code"
command_word Run = codes "run"
command_word Law = codes "law"
command_word Explain = codes "explain"
command_word Report = codes "report"
command_word Stages = codes "stages"
command_word Totals = codes "totals"
command_word Compare = codes "compare"

abbrev pub all_commands : List Name
all_commands =
    Count ∷ Steps ∷ Stage ∷ Check ∷ Code ∷ Run ∷ Law ∷ Explain ∷ Report ∷ Stages ∷ Totals ∷ Compare ∷ []

-- the command that a word names, if it names one
abbrev pub command_named : Text → Option Name
command_named word = find (λ command. bytes_eq (command_word command) word) all_commands

-- the words of a command in their places
abbrev pub places_of : Name → List WordName
places_of Count = Book ∷ Returns ∷ []
places_of Steps = Book ∷ Returns ∷ []
places_of Stage = Book ∷ Returns ∷ StageName ∷ []
places_of Check = Book ∷ []
places_of Code = Book ∷ Out ∷ []
places_of Run = CodeFile ∷ Returns ∷ []
places_of Law = Statute ∷ []
places_of Explain = FaultCode ∷ []
places_of Report = Book ∷ Returns ∷ []
places_of Stages = Book ∷ Returns ∷ []
places_of Totals = Returns ∷ OptionalBook ∷ []
places_of Compare = Returns ∷ Books ∷ []

-- the options of every command, and of those that report
abbrev pub speaking : List WordName
speaking = Quiet ∷ Language ∷ []

abbrev pub reporting : List WordName
reporting = Markdown ∷ Html ∷ Json ∷ Csv ∷ FullNames ∷ speaking

abbrev pub options_of : Name → List WordName
options_of Count = PlainJson ∷ speaking
options_of Steps = PlainJson ∷ speaking
options_of Code = Force ∷ speaking
options_of Report = Short ∷ Before ∷ reporting
options_of Stages = reporting
options_of Totals = reporting
options_of Compare = Method ∷ reporting
options_of command = speaking

abbrev pub shape_of_command : Name → Shape
shape_of_command command =
    record (new_shape (command_word command)) { rules = map rule_named (places_of command ++ options_of command) }

-- ---- the program

abbrev pub program_with : List Name → App
program_with commands = record {
  top = record (new_shape (codes "seatlaw")) { is_leaf = false; has_version = true; subcommand_required = true };
  subs = map shape_of_command commands;
}

-- the command that the words begin with, behind the program's name; all of them where they begin with none
abbrev pub commands_for : List Text → List Name
commands_for words =
    option_map_or (λ command. command ∷ []) (option_and_then command_named (slice_get words 1)) all_commands

-- the program as it reads these words
abbrev pub program_for : List Text → App
program_for words = program_with (commands_for words)
