-- How the program is built up, word by word and command by command.
use Rattle.std.proofs.Common.{◌≡◌, ◌∙◌, ◌+◌, ◌<◌, ◌≤◌, ◌||◌, ℕ, false, List, [], ◌∷◌, Option, Some, None, ap, drop, length, map, refl, sym, true}
use Rattle.std.proofs.Math.Bool.{or-false}
use Rattle.std.proofs.lemmas.List.{at_drop_all, at_drop_more, map-append}
use Rattle.std.specs.List.{slice_index_or}
use Rattle.std.specs.Borrow.{Bor}
use Rattle.std.specs.Option.{option_map_or}
use Rattle.std.specs.Prelude.{codes}
use Rattle.clap.specs.Built.{AddsArg, AddsSubcommand}
use Rattle.clap.specs.Simple.{App, Shape, app_of, app_of_fields, new_app, new_shape, shape_of, with_rule, with_subcommand}
use Rattle.clap.specs.Walk.{Rule, Text, rule_of}
use Rattle.clap.specs.declared.builder.arg.Arg.{Arg}
use Rattle.clap.specs.declared.builder.command.Command.{Command}
use Rattle.clap.specs.declared.builder.command.Command.TheOpen.{Command-F}
use Rattle.clap.specs.declared.builder.command.Command.TheViews.{out-Command}
use Rattle.sl_terminal_words.specs.Commands.{all_commands, command_word, options_of, places_of, program_with, rule_named, shape_of_command}
use Rattle.sl_terminal_words.specs.declared.help.Form.{Form}
use Rattle.sl_terminal_words.specs.declared.help.Name.{Name}
use Rattle.sl_terminal_words.specs.declared.help.Name.TheVariants.{Count, Steps, Stage, Check, Code, Run, Law, Explain, Report, Stages, Totals, Compare}
use Rattle.sl_terminal_words.specs.declared.words.WordName.{WordName}
use Rattle.sl_terminal_words.specs.inner.Rules.{HasCommands, HasRules, IsFormOf, IsOfForm, NamesForm, app_of_form, with_commands, with_rules, plain, plain_rule, plain_shape}

-- ---- one more word

plain-with_rule : (a : App) (r : Rule) → plain (with_rule a r) ≡ with_rule (plain a) (plain_rule r)
plain-with_rule a r =
    let put : List Rule → App = λ rules. record { top = record a.top { rules = rules }; subs = map plain_shape a.subs } in
    ap put (map-append plain_rule a.top.rules (r ∷ []))

pub one_word : (old new : Command) (a : Arg) (r : Rule) → AddsArg old a new → plain_rule (rule_of a) ≡ r → a.global ≡ false → HasRules old (r ∷ []) new
one_word old new a r added is own = record {
  shape = ap plain (added.shape own) ∙ plain-with_rule (app_of old) (rule_of a) ∙ ap (with_rule (plain (app_of old))) is;
  globals = added.globals ∙ ap (λ b. (out-Command old).has_globals || b) own ∙ or-false (out-Command old).has_globals;
}

-- ---- the words of a command, in turn

-- the words from `i` on are still to come
pub record HasWordsBut (old : Command) (names : List WordName) (i : ℕ) (now : Command) : Type 0 where
  pub shape : with_rules (plain (app_of now)) (map rule_named (drop i names)) ≡ with_rules (plain (app_of old)) (map rule_named names)
  pub globals : (out-Command now).has_globals ≡ (out-Command old).has_globals

pub no_words_yet : (old : Command) (names : List WordName) → HasWordsBut old names 0 old
no_words_yet old names = record { shape = refl; globals = refl }

pub one_word_less : (old now next : Command) (names : List WordName) (i : ℕ) (name : WordName) (r : Rule) → HasWordsBut old names i now
    → i < length names → name ≡ slice_index_or names i name → r ≡ rule_named name → HasRules now (r ∷ []) next → HasWordsBut old names (i + 1) next
one_word_less old now next names i name r before lt at is added = record {
  shape = ap (λ a. with_rules a (map rule_named (drop (i + 1) names))) (added.shape ∙ ap (with_rule (plain (app_of now))) (is ∙ ap rule_named at))
      ∙ sym (at_drop_more (λ rest. with_rules (plain (app_of now)) (map rule_named rest)) names i name lt)
      ∙ before.shape;
  globals = added.globals ∙ before.globals;
}

pub all_words : (old now : Command) (names : List WordName) (i : ℕ) → length names ≤ i → HasWordsBut old names i now → HasRules old (map rule_named names) now
all_words old now names i le before = record {
  shape = sym (at_drop_all (λ rest. with_rules (plain (app_of now)) (map rule_named rest)) names i le) ∙ before.shape;
  globals = before.globals;
}

-- ---- a command

pub whole_command : (new titled placed command : Command) (form : Form) → app_of new ≡ new_app form.name.now
    → (out-Command new).has_globals ≡ false → app_of titled ≡ app_of new → (out-Command titled).has_globals ≡ (out-Command new).has_globals
    → HasRules titled (map rule_named form.words.now) placed → HasRules placed (map rule_named form.options.now) command → IsOfForm form command
whole_command new titled placed command form is own same same_own one other = record {
  shape = other.shape ∙ ap (λ a. with_rules a (map rule_named form.options.now)) (one.shape
      ∙ ap (λ a. with_rules (plain a) (map rule_named form.words.now)) (same ∙ is));
  globals = other.globals ∙ one.globals ∙ same_own ∙ own;
}

-- a command of the table has the form of the table
abbrev form_parts : Text → List WordName → List WordName → Shape
form_parts name places options = (with_rules (with_rules (new_app name) (map rule_named places)) (map rule_named options)).top

table_shape : (command : Name) → form_parts (command_word command) (places_of command) (options_of command) ≡ shape_of_command command
table_shape Count = refl
table_shape Steps = refl
table_shape Stage = refl
table_shape Check = refl
table_shape Code = refl
table_shape Run = refl
table_shape Law = refl
table_shape Explain = refl
table_shape Report = refl
table_shape Stages = refl
table_shape Totals = refl
table_shape Compare = refl

pub form_shape : (command : Name) (form : Form) → IsFormOf command form → (app_of_form form).top ≡ shape_of_command command
form_shape command form is =
    ap (λ name. form_parts name form.words.now form.options.now) is.name
    ∙ ap (λ places. form_parts (command_word command) places form.options.now) is.places
    ∙ ap (form_parts (command_word command) (places_of command)) is.options
    ∙ table_shape command

-- ---- one more command

pub plain-with_subcommand : (a : App) (s : Shape) → plain (with_subcommand a s) ≡ with_subcommand (plain a) (plain_shape s)
plain-with_subcommand a s =
    let put : List Shape → App = λ subs. record { top = record (plain_shape a.top) { is_leaf = false }; subs = subs } in
    ap put (map-append plain_shape a.subs (s ∷ []))

pub one_command : (old sub new : Command) (form : Form) → AddsSubcommand old sub new → IsOfForm form sub → HasCommands old ((app_of_form form).top ∷ []) new
one_command old sub new form added is =
    ap plain (added.shape is.globals) ∙ plain-with_subcommand (app_of old) (shape_of sub)
    ∙ ap (λ (a : App). with_subcommand (plain (app_of old)) a.top) is.shape

-- the commands from `i` on are still to come
abbrev pub HasCommandsBut : Command → List Name → ℕ → Command → Type 0
HasCommandsBut old commands i now =
    with_commands (plain (app_of now)) (map shape_of_command (drop i commands)) ≡ with_commands (plain (app_of old)) (map shape_of_command commands)

pub one_command_less : (old now next : Command) (commands : List Name) (i : ℕ) (d : Name) (form : Form) → HasCommandsBut old commands i now
    → i < length commands → IsFormOf (slice_index_or commands i d) form → HasCommands now ((app_of_form form).top ∷ []) next
    → HasCommandsBut old commands (i + 1) next
one_command_less old now next commands i d form before lt is added =
    ap (λ a. with_commands a (map shape_of_command (drop (i + 1) commands))) (added ∙ ap (with_subcommand (plain (app_of now))) (form_shape (slice_index_or commands i d) form is))
    ∙ sym (at_drop_more (λ rest. with_commands (plain (app_of now)) (map shape_of_command rest)) commands i d lt)
    ∙ before

pub every_command : (old now : Command) (commands : List Name) (i : ℕ) → length commands ≤ i → HasCommandsBut old commands i now
    → HasCommands old (map shape_of_command commands) now
every_command old now commands i le before =
    sym (at_drop_all (λ rest. with_commands (plain (app_of now)) (map shape_of_command rest)) commands i le) ∙ before

-- ---- the program

-- without a command
abbrev pub bare : App
bare = record { top = record (new_shape (codes "seatlaw")) { has_version = true; subcommand_required = true }; subs = [] }

pub bare_program : (program titled required : Command) (version : Bor Text) → plain (app_of program) ≡ new_app (codes "seatlaw")
    → ◌≡◌ {A = Command-F Command} (out-Command titled) (record (out-Command program) { version = Some version })
    → ◌≡◌ {A = Command-F Command} (out-Command required) (record (out-Command titled) { subcommand_required = true }) → plain (app_of required) ≡ bare
bare_program program titled required version is one other =
    let asks : Command-F Command → Command-F Command = λ fields. record fields { subcommand_required = true } in
    let as_app : Command-F Command → App = λ fields. plain (app_of_fields fields) in
    let flagged : App → App = λ a. record { top = record a.top { has_version = true; subcommand_required = true }; subs = a.subs } in
    ap as_app (other ∙ ap asks one) ∙ ap flagged is

-- with the command that the words begin with
pub with_the_command : (o : Option Name) (old new : Command) (form : Bor Form) → plain (app_of old) ≡ bare → NamesForm o (Some form)
    → HasCommands old ((app_of_form form.now).top ∷ []) new → plain (app_of new) ≡ program_with (option_map_or (λ command. command ∷ []) o all_commands)
with_the_command None old new form is names added = absurd names
with_the_command (Some command) old new form is names added =
    added ∙ ap (λ a. with_subcommand a (app_of_form form.now).top) is ∙ ap (with_subcommand bare) (form_shape command form.now names)

-- with all of them
pub with_every_command : (o : Option Name) (old new : Command) → plain (app_of old) ≡ bare → NamesForm o None
    → HasCommands old (map shape_of_command all_commands) new → plain (app_of new) ≡ program_with (option_map_or (λ command. command ∷ []) o all_commands)
with_every_command (Some command) old new is names added = absurd names
with_every_command None old new is names added = added ∙ ap (λ a. with_commands a (map shape_of_command all_commands)) is
