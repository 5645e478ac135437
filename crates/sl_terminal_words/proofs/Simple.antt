-- The program is one of which `clap` gives the matches.
use Rattle.std.proofs.Common.{◌≡◌, ◌∙◌, ◌&&◌, List, [], ◌∷◌, Option, Some, None, ap, ap₂, drop, map, refl, true}
use Rattle.std.specs.List.{list_all}
use Rattle.std.specs.Option.{option_map_or}
use Rattle.std.specs.Prelude.{option_and_then, slice_get}
use Rattle.clap.specs.Faults.{is_simple_and_free}
use Rattle.clap.specs.Simple.{App, Shape, is_simple}
use Rattle.clap.specs.Walk.{Rule, Text}
use Rattle.clap.specs.declared.builder.value_parser.ValueParser.{ValueParser}
use Rattle.sl_terminal_words.specs.Answers.{is_free, is_known}
use Rattle.sl_terminal_words.specs.Commands.{all_commands, command_named, program_for, program_with}
use Rattle.sl_terminal_words.specs.inner.Rules.{plain, plain_rule, plain_shape}
use Rattle.sl_terminal_words.specs.declared.help.Name.{Name}
use Rattle.sl_terminal_words.specs.declared.help.Name.TheVariants.{Count, Steps, Stage, Check, Code, Run, Law, Explain, Report, Stages, Totals, Compare}

abbrev Parsers : Type 0
Parsers = List (Option ValueParser)

abbrev first : {X : Type 0} → X → List X → X
first none [] = none
first none (x ∷ xs) = x

-- a program with these parsers of its values
abbrev rules_with : Parsers → List Rule → List Rule
rules_with parsers [] = []
rules_with parsers (rule ∷ rules) = record rule { parser = first None parsers } ∷ rules_with (drop 1 parsers) rules

abbrev shape_with : Parsers → Shape → Shape
shape_with parsers shape = record shape { rules = rules_with parsers shape.rules }

abbrev shapes_with : List Parsers → List Shape → List Shape
shapes_with parsers [] = []
shapes_with parsers (shape ∷ shapes) = shape_with (first [] parsers) shape ∷ shapes_with (drop 1 parsers) shapes

abbrev app_with : Parsers → List Parsers → App → App
app_with parsers others a = record { top = shape_with parsers a.top; subs = shapes_with others a.subs }

-- a program is the plain one with its own parsers
abbrev parsers_of : List Rule → Parsers
parsers_of = map (λ rule. rule.parser)

rules_again : (rules : List Rule) → rules ≡ rules_with (parsers_of rules) (map plain_rule rules)
rules_again [] = refl
rules_again (rule ∷ rules) = ap (λ rest. rule ∷ rest) (rules_again rules)

shape_again : (shape : Shape) → shape ≡ shape_with (parsers_of shape.rules) (plain_shape shape)
shape_again shape = ap (λ rules. record shape { rules = rules }) (rules_again shape.rules)

shapes_again : (shapes : List Shape) → shapes ≡ shapes_with (map (λ shape. parsers_of shape.rules) shapes) (map plain_shape shapes)
shapes_again [] = refl
shapes_again (shape ∷ shapes) = ap₂ (λ (s : Shape) rest. s ∷ rest) (shape_again shape) (shapes_again shapes)

app_again : (a : App) → a ≡ app_with (parsers_of a.top.rules) (map (λ shape. parsers_of shape.rules) a.subs) (plain a)
app_again a = ap₂ (λ (top : Shape) (subs : List Shape). record { top = top; subs = subs }) (shape_again a.top) (shapes_again a.subs)

-- and whether it is simple does not depend on them
simple_one : (parsers : Parsers) (others : List Parsers) (command : Name) → is_simple (app_with parsers others (program_with (command ∷ []))) ≡ true
simple_one parsers others Count = refl
simple_one parsers others Steps = refl
simple_one parsers others Stage = refl
simple_one parsers others Check = refl
simple_one parsers others Code = refl
simple_one parsers others Run = refl
simple_one parsers others Law = refl
simple_one parsers others Explain = refl
simple_one parsers others Report = refl
simple_one parsers others Stages = refl
simple_one parsers others Totals = refl
simple_one parsers others Compare = refl

simple_all : (parsers : Parsers) (others : List Parsers) → is_simple (app_with parsers others (program_with all_commands)) ≡ true
simple_all parsers others = refl

simple_by : (parsers : Parsers) (others : List Parsers) (o : Option Name)
    → is_simple (app_with parsers others (program_with (option_map_or (λ command. command ∷ []) o all_commands))) ≡ true
simple_by parsers others None = simple_all parsers others
simple_by parsers others (Some command) = simple_one parsers others command

pub ours_is_simple : (a : App) (words : List Text) → plain a ≡ program_for words → is_simple a ≡ true
ours_is_simple a words is =
    let parsers = parsers_of a.top.rules in
    let others : List Parsers = map (λ shape. parsers_of shape.rules) a.subs in
    ap is_simple (app_again a) ∙ ap (λ b. is_simple (app_with parsers others b)) is ∙ simple_by parsers others (option_and_then command_named (slice_get words 1))

-- nor whether it is known why it refuses words
free_one : (parsers : Parsers) (others : List Parsers) (command : Name) → is_free command && true ≡ true → is_simple_and_free (app_with parsers others (program_with (command ∷ []))) ≡ true
free_one parsers others Count known = refl
free_one parsers others Steps known = refl
free_one parsers others Stage known = refl
free_one parsers others Check known = refl
free_one parsers others Code known = refl
free_one parsers others Run known = refl
free_one parsers others Law known = refl
free_one parsers others Explain known = refl
free_one parsers others Report known = cc
free_one parsers others Stages known = cc
free_one parsers others Totals known = cc
free_one parsers others Compare known = cc

free_by : (parsers : Parsers) (others : List Parsers) (o : Option Name) → list_all is_free (option_map_or (λ command. command ∷ []) o all_commands) ≡ true
    → is_simple_and_free (app_with parsers others (program_with (option_map_or (λ command. command ∷ []) o all_commands))) ≡ true
free_by parsers others None known = cc
free_by parsers others (Some command) known = free_one parsers others command known

pub ours_is_free : (a : App) (words : List Text) → plain a ≡ program_for words → is_known words ≡ true → is_simple_and_free a ≡ true
unfolding is_known
ours_is_free a words is known =
    let parsers = parsers_of a.top.rules in
    let others : List Parsers = map (λ shape. parsers_of shape.rules) a.subs in
    ap is_simple_and_free (app_again a) ∙ ap (λ b. is_simple_and_free (app_with parsers others b)) is ∙ free_by parsers others (option_and_then command_named (slice_get words 1)) known
