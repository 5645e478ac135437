-- The program as it is built up from the tables of `src/`.
use Rattle.std.specs.Borrow.{Bor}
use Rattle.std.specs.Prelude.{◌≡◌, false, List, [], ◌∷◌, Option, Some, None, map, option_map}
use Rattle.clap.specs.Simple.{App, Shape, app_of, new_app, with_rule, with_subcommand}
use Rattle.clap.specs.Walk.{Rule, Text, is_empty}
use Rattle.clap.specs.declared.builder.value_parser.ValueParser.{ValueParser}
use Rattle.clap.specs.declared.builder.value_parser.ValueParser.TheVariants.{Names}
use Rattle.clap.specs.declared.builder.command.Command.{Command}
use Rattle.clap.specs.declared.builder.command.Command.TheViews.{out-Command}
use Rattle.sl_terminal_words.specs.Commands.{placed, chosen, chosen_again, command_word, flag, flag_or_letter, needed, optional, options_of, places_of, repeated, rule_named, tied, valued}
use Rattle.sl_terminal_words.specs.declared.help.Form.{Form}
use Rattle.sl_terminal_words.specs.declared.help.Name.{Name}
use Rattle.sl_terminal_words.specs.declared.words.Given.{Given}
use Rattle.sl_terminal_words.specs.declared.words.Given.TheVariants.{Needed, Optional, Repeated, Flag, Letter, Value, Beside, Choice, Choices}
use Rattle.sl_terminal_words.specs.declared.words.Word.{Word}

-- ---- words in memory

-- a program, but for where the words stand that its options let choose
abbrev pub without_places : ValueParser → ValueParser
without_places (Names words) = Names (placed (map (λ word. word.now) words.now))
without_places parser = parser

abbrev pub plain_rule : Rule → Rule
plain_rule rule = record rule { parser = option_map without_places rule.parser }

abbrev pub plain_shape : Shape → Shape
plain_shape shape = record shape { rules = map plain_rule shape.rules }

abbrev pub plain : App → App
plain program = record { top = plain_shape program.top; subs = map plain_shape program.subs }

-- ---- a word

abbrev pub rule_given : Text → Given → Rule
rule_given name Needed = needed name
rule_given name Optional = optional name
rule_given name Repeated = repeated name
rule_given name (Flag against) = record (flag name) { is_free = is_empty against.now }
rule_given name (Letter letter) = flag_or_letter name letter
rule_given name (Value value) = valued name
rule_given name (Beside value other) = tied (valued name)
rule_given name (Choice value values) = chosen name (map (λ word. word.now) values.now)
rule_given name (Choices value values beside) = tied (chosen_again name (map (λ word. word.now) values.now))

abbrev pub rule_of_word : Word → Rule
rule_of_word word = rule_given word.name.now word.given

-- ---- a command

-- a program with more words of its own
abbrev pub with_rules : App → List Rule → App
with_rules program [] = program
with_rules program (rule ∷ rules) = with_rules (with_rule program rule) rules

pub record HasRules (old : Command) (rules : List Rule) (new : Command) : Type 0 where
  pub shape : plain (app_of new) ≡ with_rules (plain (app_of old)) rules
  pub globals : (out-Command new).has_globals ≡ (out-Command old).has_globals

abbrev pub app_of_form : Form → App
app_of_form form =
    with_rules (with_rules (new_app form.name.now) (map rule_named form.words.now)) (map rule_named form.options.now)

pub record IsOfForm (form : Form) (command : Command) : Type 0 where
  pub shape : plain (app_of command) ≡ app_of_form form
  pub globals : (out-Command command).has_globals ≡ false

-- the form is that of the command
pub record IsFormOf (command : Name) (form : Form) : Type 0 where
  pub name : form.name.now ≡ command_word command
  pub places : form.words.now ≡ places_of command
  pub options : form.options.now ≡ options_of command

-- the form of the command, if there is one
abbrev pub NamesForm : Option Name → Option (Bor Form) → Type 0
NamesForm (Some command) (Some form) = IsFormOf command form.now
NamesForm None None = Unit
NamesForm command form = ⊥

-- ---- the program

-- a program with more commands
abbrev pub with_commands : App → List Shape → App
with_commands program [] = program
with_commands program (command ∷ commands) = with_commands (with_subcommand program command) commands

abbrev pub HasCommands : Command → List Shape → Command → Type 0
HasCommands old commands new = plain (app_of new) ≡ with_commands (plain (app_of old)) commands
