-- And none to the faults by which `clap` stops at words.
use Rattle.std.proofs.Common.{◌≡◌, ◌∙◌, ◌&&◌, ◌||◌, ℕ, Bool, cond, false, not, zero, suc, List, [], ◌∷◌, Option, Some, None, ap, ap₂, drop, length, map, min, option_map, refl, sym}
use Rattle.std.specs.Borrow.{Bor}
use Rattle.std.specs.List.{find, list_any}
use Rattle.std.specs.Option.{option_map_or}
use Rattle.std.specs.Prelude.{◌+◌, encode_utf8, is_some, slice_get}
use Rattle.std.specs.Str.{bytes_eq, chars}
use Rattle.clap.proofs.WalkLemmas.{list_any-map}
use Rattle.clap.specs.Facts.{explicit_source, parser_of_value, unwrap_or_range}
use Rattle.clap.specs.Faults.{action_fault, built_fault, bundle_step_fault, check_fault, count_fault, default_fault, defaults_fault, entered_fault, fault_of, flag_word_fault, flags_fault, level_fault, long_fault, option_fault, other_fault, positional_fault, react_fault, repeat_fault, set_fault, settle_fault, short_fault, step_fault, stray_fault, turn_fault, use_fault, values_fault, walk_fault, word_fault}
use Rattle.clap.specs.Kinds.{Kinds, check_kinds, or_else, range_kinds, request_kinds, value_kinds, values_kinds}
use Rattle.clap.specs.Lexer.{long_of, short_of}
use Rattle.clap.specs.Matches.{count_text}
use Rattle.clap.specs.Simple.{App, Shape, argument_words, built, entered, label_of, names_of}
use Rattle.clap.specs.Takes.{is_given}
use Rattle.clap.specs.ValueTests.{accepts}
use Rattle.clap.specs.Values.{refused_kind, same_text}
use Rattle.clap.specs.Walk.{Held, Names, Row, Rule, Step, Text, Waiting, Walk, action_of, answers_to, arg_by_id, arg_by_index, arg_by_long, arg_by_short, attached_value, count_of, finished, has_row, is_empty, is_pending, most_values, next, nothing_held, reacted, settled, subcommand, subcommand_met, takes_several, takes_values, trailing, value, values_or_missing, walk, walk_from, walked, with_default, word_met}
use Rattle.clap.specs.declared.builder.action.ArgAction.{ArgAction}
use Rattle.clap.specs.declared.builder.action.ArgAction.TheVariants as action
use Rattle.clap.specs.declared.builder.value_parser.ValueParser.{ValueParser}
use Rattle.clap.specs.declared.builder.value_parser.ValueParser.TheVariants as vp
use Rattle.clap.specs.declared.error.kind.ErrorKind.{ErrorKind}
use Rattle.clap.specs.declared.error.kind.ErrorKind.TheVariants as kind
use Rattle.sl_terminal_words.proofs.Places.{built-same, by_id, by_index, by_long, by_short, entered-same, finished-same, names-same, plain_rules, reacted-same, settled-same, shape_named, walk-same, walked-same, with_default-same, word_met-same}
use Rattle.sl_terminal_words.specs.Commands.{placed}
use Rattle.sl_terminal_words.specs.inner.Rules.{plain, plain_rule, plain_shape, without_places}

-- ---- one use of an argument

same_choice : (ignore_case : Bool) (text : Text) (names : List (Bor Text))
    → list_any (λ name. same_text ignore_case name.now text) (placed (map (λ name. name.now) names)).now ≡ list_any (λ name. same_text ignore_case name.now text) names
same_choice ignore_case text [] = refl
same_choice ignore_case text (name ∷ names) = ap (λ b. same_text ignore_case name.now text || b) (same_choice ignore_case text names)

accepts-same : (i : Bool) (p : ValueParser) (text : Text) → accepts i (without_places p) text ≡ accepts i p text
accepts-same i vp.String text = refl
accepts-same i vp.NonEmptyString text = refl
accepts-same i vp.Bool text = refl
accepts-same i vp.Boolish text = refl
accepts-same i vp.Falsey text = refl
accepts-same i (vp.Signed low high) text = refl
accepts-same i (vp.Unsigned low high) text = refl
accepts-same i vp.Float text = refl
accepts-same i vp.Char text = refl
accepts-same i (vp.Names names) text = same_choice i text names.now
accepts-same i (vp.Values values) text = refl

refused_kind-same : (p : ValueParser) → refused_kind (without_places p) ≡ refused_kind p
refused_kind-same vp.String = refl
refused_kind-same vp.NonEmptyString = refl
refused_kind-same vp.Bool = refl
refused_kind-same vp.Boolish = refl
refused_kind-same vp.Falsey = refl
refused_kind-same (vp.Signed low high) = refl
refused_kind-same (vp.Unsigned low high) = refl
refused_kind-same vp.Float = refl
refused_kind-same vp.Char = refl
refused_kind-same (vp.Names names) = refl
refused_kind-same (vp.Values values) = refl

abbrev one_kind : ErrorKind → Kinds
one_kind k = k ∷ []

value_kinds-same : (i : Bool) (p : ValueParser) (text : Text) → value_kinds i (without_places p) text ≡ value_kinds i p text
value_kinds-same i p text = ap₂ (λ (b : Bool) (k : ErrorKind). cond b [] (one_kind k)) (accepts-same i p text) (refused_kind-same p)

value_fault-same : (i : Bool) (o : Option ValueParser) (text : Text) → value_kinds i (parser_of_value (option_map without_places o)) text ≡ value_kinds i (parser_of_value o) text
value_fault-same i None text = refl
value_fault-same i (Some p) text = value_kinds-same i p text

values_kinds-same : (i : Bool) (o : Option ValueParser) (values : List Text)
    → values_kinds i (parser_of_value (option_map without_places o)) values ≡ values_kinds i (parser_of_value o) values
values_kinds-same i o [] = refl
values_kinds-same i o (v ∷ values) = ap₂ or_else (value_fault-same i o v) (values_kinds-same i o values)

values_fault-same : (a : Rule) (values : List Text) → values_fault (plain_rule a) values ≡ values_fault a values
values_fault-same a values = values_kinds-same a.ignore_case a.parser values

count_fault-same : (a : Rule) (values : List Text) (rows : List Row) → count_fault (plain_rule a) values rows ≡ count_fault a values rows
count_fault-same a [] rows = value_fault-same a.ignore_case a.parser (count_text (min (count_of a.id rows + 1) 255))
count_fault-same a (v ∷ values) rows = values_fault-same a (v ∷ values)

set_fault-same : (again : Bool) (a : Rule) (values : List Text) (rows : List Row) → set_fault again (plain_rule a) values rows ≡ set_fault again a values rows
set_fault-same again a values rows = ap (or_else (repeat_fault again a.id rows)) (values_fault-same a values)

action_fault-same : (x : ArgAction) (again : Bool) (a : Rule) (values : List Text) (rows : List Row) → action_fault x again (plain_rule a) values rows ≡ action_fault x again a values rows
action_fault-same action.Set again a values rows = set_fault-same again a values rows
action_fault-same action.SetTrue again a values rows = set_fault-same again a values rows
action_fault-same action.SetFalse again a values rows = set_fault-same again a values rows
action_fault-same action.Append again a values rows = values_fault-same a values
action_fault-same action.Count again a values rows = count_fault-same a values rows
action_fault-same action.Help again a values rows = refl
action_fault-same action.HelpShort again a values rows = refl
action_fault-same action.HelpLong again a values rows = refl
action_fault-same action.Version again a values rows = refl

use_fault-same : (again : Bool) (a : Rule) (values : List Text) (rows : List Row) → use_fault again (plain_rule a) values rows ≡ use_fault again a values rows
use_fault-same again a values rows = ap (or_else (range_kinds (unwrap_or_range a.range).start_inclusive (most_values a) (length values)))
    (action_fault-same (action_of a) again a (values_or_missing a values) rows)

-- ---- the walk

settle-same : (c : List Rule) (again : Bool) (h : Held) → settle_fault (plain_rules c) again h ≡ settle_fault c again h
settle-same c again h = go h.pending
  where
    found : (p : Text × List Text) (o : Option Rule) → option_map_or (λ a. use_fault again a p.1 h.rows) (option_map plain_rule o) [] ≡ option_map_or (λ a. use_fault again a p.1 h.rows) o []
    found p None = refl
    found p (Some a) = use_fault-same again a p.1 h.rows

    go : (o : Option (Text × List Text)) → option_map_or (λ p. option_map_or (λ a. use_fault again a p.1 h.rows) (arg_by_id (plain_rules c) p.0) []) o []
        ≡ option_map_or (λ p. option_map_or (λ a. use_fault again a p.1 h.rows) (arg_by_id c p.0) []) o []
    go None = refl
    go (Some p) = ap (λ o. option_map_or (λ a. use_fault again a p.1 h.rows) o []) (by_id c p.0) ∙ found p (arg_by_id c p.0)

react-same : (c : List Rule) (again : Bool) (a : Rule) (values : List Text) (h : Held) → react_fault (plain_rules c) again (plain_rule a) values h ≡ react_fault c again a values h
react-same c again a values h = ap₂ or_else (settle-same c again h)
    (ap (λ (x : Held). use_fault again (plain_rule a) values x.rows) (settled-same c h) ∙ use_fault-same again a values (settled c h).rows)

option-same : (c : List Rule) (again : Bool) (a : Rule) (v : Option Text) (h : Held) → option_fault (plain_rules c) again (plain_rule a) v h ≡ option_fault c again a v h
option-same c again a (Some v) h = react-same c again a (v ∷ []) h
option-same c again a None h = settle-same c again h

long-same : (c : List Rule) (again : Bool) (o : Option Rule) (v : Option Text) (h : Held) → long_fault (plain_rules c) again (option_map plain_rule o) v h ≡ long_fault c again o v h
long-same c again None v h = refl
long-same c again (Some a) v h =
    ap₂ (cond (takes_values a)) (option-same c again a v h) (ap (cond (is_some v) (one_kind kind.TooManyValues)) (react-same c again a [] h))

short-same : (c : List Rule) (again : Bool) (o : Option Rule) (rest : Text) (h : Held) (f g : Held → Kinds) → ((x : Held) → f x ≡ g x)
    → short_fault (plain_rules c) again (option_map plain_rule o) rest h f ≡ short_fault c again o rest h g
short-same c again None rest h f g same = refl
short-same c again (Some a) rest h f g same = ap₂ (cond (takes_values a)) (option-same c again a (attached_value rest) h)
    (ap₂ or_else (react-same c again a [] h) (ap f (reacted-same c a [] h) ∙ same (reacted c a [] h)))

bundle_step-same : (c : List Rule) (again : Bool) (o : Option ℕ) (flags : Text) (skip : ℕ) (h : Held) (f g : Text → ℕ → Held → Kinds)
    → ((r : Text) (k : ℕ) (x : Held) → f r k x ≡ g r k x) → bundle_step_fault (plain_rules c) again o flags skip h f ≡ bundle_step_fault c again o flags skip h g
bundle_step-same c again None flags skip h f g same = refl
bundle_step-same c again (Some x) flags zero h f g same =
    let rest = drop (length (encode_utf8 x)) flags in
    ap (λ o. short_fault (plain_rules c) again o rest h (f rest 0)) (by_short c x) ∙ short-same c again (arg_by_short c x) rest h (f rest 0) (g rest 0) (same rest 0)
bundle_step-same c again (Some x) flags (suc skip) h f g same = same (drop (length (encode_utf8 x)) flags) skip h

flags-same : (k : ℕ) (c : List Rule) (again : Bool) (flags : Text) (skip : ℕ) (h : Held) → flags_fault (plain_rules c) again k flags skip h ≡ flags_fault c again k flags skip h
unfolding flags_fault
flags-same zero c again flags skip h = refl
flags-same (suc k) c again flags skip h =
    bundle_step-same c again (slice_get (chars flags) 0) flags skip h (flags_fault (plain_rules c) again k) (flags_fault c again k) (flags-same k c again)

flag_word-same : (c : List Rule) (again : Bool) (o : Option (Text × Option Text)) (word : Text) (h : Held) → flag_word_fault (plain_rules c) again o word h ≡ flag_word_fault c again o word h
flag_word-same c again (Some p) word h = ap (λ o. long_fault (plain_rules c) again o p.1 h) (by_long c p.0) ∙ long-same c again (arg_by_long c p.0) p.1 h
flag_word-same c again None word h = go (short_of word)
  where
    go : (o : Option Text) → option_map_or (λ flags. flags_fault (plain_rules c) again (length flags) flags h.skip (record h { skip = 0 })) o []
        ≡ option_map_or (λ flags. flags_fault c again (length flags) flags h.skip (record h { skip = 0 })) o []
    go None = refl
    go (Some flags) = flags-same (length flags) c again flags h.skip (record h { skip = 0 })

other-same : (s : Shape) (o : Option Text) (word : Text) (h : Held) → other_fault (plain_shape s) o word h ≡ other_fault s o word h
other-same s (Some name) word h = refl
other-same s None word h = ap (cond (bytes_eq word (45 ∷ 45 ∷ [])) []) (flag_word-same s.rules s.args_override_self (long_of word) word h)

word-same : (s : Shape) (names : Names) (is_trailing : Bool) (waiting : Waiting) (word : Text) (h : Held) → word_fault (plain_shape s) names is_trailing waiting word h ≡ word_fault s names is_trailing waiting word h
word-same s names is_trailing waiting word h = ap (cond is_trailing []) (other-same s (subcommand_met names waiting word) word h)

step-same : (s : Shape) (position : ℕ) (h : Held) (step : Step) → step_fault (plain_shape s) position h step ≡ step_fault s position h step
step-same s position h (next waiting) = refl
step-same s position h (trailing after) = refl
step-same s position h (subcommand name) = refl
step-same s position h value = ap (λ o. option_map_or (λ a. positional_fault (plain_rules s.rules) s.args_override_self a h) o (stray_fault s)) (by_index s.rules position)
    ∙ go (arg_by_index s.rules position)
  where
    go : (o : Option Rule) → option_map_or (λ a. positional_fault (plain_rules s.rules) s.args_override_self a h) (option_map plain_rule o) (stray_fault s)
        ≡ option_map_or (λ a. positional_fault s.rules s.args_override_self a h) o (stray_fault s)
    go None = refl
    go (Some a) = ap (cond (is_pending a h.pending && takes_several a) []) (settle-same s.rules s.args_override_self h)

turn-same : (s : Shape) (names : Names) (w : Walk) (word : Text) → turn_fault (plain_shape s) names w word ≡ turn_fault s names w word
turn-same s names w word =
    let met = word_met s.rules names w.is_trailing w.waiting w.position word w.held in
    ap (cond (is_some w.stopped) []) (ap₂ or_else (word-same s names w.is_trailing w.waiting word w.held)
    (ap (λ (m : Held × Step). step_fault (plain_shape s) w.position m.0 m.1) (word_met-same s.rules names w.is_trailing w.waiting w.position word w.held)
    ∙ step-same s w.position met.0 met.1))

walk_fault-same : (s : Shape) (names : Names) (words : List Text) (w : Walk) → walk_fault (plain_shape s) names w words ≡ walk_fault s names w words
unfolding walk_fault
walk_fault-same s names [] w = refl
walk_fault-same s names (word ∷ words) w = ap₂ or_else (turn-same s names w word)
    (ap (λ (x : Walk). walk_fault (plain_shape s) names x words) (walked-same s.rules names w word) ∙ walk_fault-same s names words (walked s.rules names w word))

-- ---- after the walk

default-same : (rows : List Row) (a : Rule) → default_fault rows (plain_rule a) ≡ default_fault rows a
default-same rows a = ap (cond (has_row a.id rows || is_empty a.defaults) []) (ap (or_else (request_kinds (action_of a))) (values_fault-same a a.defaults))

defaults-same : (c : List Rule) (rows : List Row) → defaults_fault rows (plain_rules c) ≡ defaults_fault rows c
unfolding defaults_fault
defaults-same [] rows = refl
defaults-same (a ∷ c) rows = ap₂ or_else (default-same rows a)
    (ap (λ (r : List Row). defaults_fault r (plain_rules c)) (with_default-same rows a) ∙ defaults-same c (with_default rows a))

check-same : (s : Shape) (rows : List Row) (has : Bool) → check_fault (plain_shape s) rows has ≡ check_fault s rows has
check-same s rows has = ap (λ (b : Bool). check_kinds (not has && (s.arg_required_else_help && not (list_any (λ r. explicit_source r.source) rows)))
    (not has && s.subcommand_required) (not (s.subcommand_negates_reqs && has) && b))
    (sym (list_any-map (λ (a : Rule). a.required && not (is_given a.id rows)) plain_rule s.rules))

level-same : (s : Shape) (names : Names) (h : Held) (words : List Text) (has : Bool) (below : Kinds) → level_fault (plain_shape s) names h words has below ≡ level_fault s names h words has below
level-same s names h words has below =
    let end = (walk s.rules names h words).held in
    let tail : Held → Kinds = λ x. or_else below (or_else (settle_fault (plain_rules s.rules) s.args_override_self x)
    (or_else (defaults_fault (settled (plain_rules s.rules) x).rows (plain_rules s.rules)) (check_fault (plain_shape s) (finished (plain_rules s.rules) x) has))) in
    ap₂ or_else (walk_fault-same s names words (walk_from h))
    (ap (λ (w : Walk). tail w.held) (walk-same s.rules names words (walk_from h))
    ∙ ap (or_else below) (ap₂ or_else (settle-same s.rules s.args_override_self end) (ap₂ or_else
    (ap (λ (x : Held). defaults_fault x.rows (plain_rules s.rules)) (settled-same s.rules end) ∙ defaults-same s.rules (settled s.rules end).rows)
    (ap (λ (rows : List Row). check_fault (plain_shape s) rows has) (finished-same s.rules end) ∙ check-same s (finished s.rules end) has))))

entered_fault-same : (a : App) (stop : Option (Text × List Text)) → entered_fault (plain a) stop ≡ entered_fault a stop
entered_fault-same a None = refl
entered_fault-same a (Some p) = ap (λ o. option_map_or (λ s. level_fault s [] nothing_held p.1 false []) o []) (shape_named p.0 a.subs)
    ∙ go (find (λ s. answers_to p.0 (label_of s)) a.subs)
  where
    go : (o : Option Shape) → option_map_or (λ s. level_fault s [] nothing_held p.1 false []) (option_map plain_shape o) [] ≡ option_map_or (λ s. level_fault s [] nothing_held p.1 false []) o []
    go None = refl
    go (Some s) = level-same s [] nothing_held p.1 false []

built_fault-same : (a : App) (h : Held) (words : List Text) → built_fault (plain a) h words ≡ built_fault a h words
built_fault-same a h words =
    let stop = (walk a.top.rules (names_of a) h words).stopped in
    let by_stop : Names → Option (Text × List Text) → Kinds = λ names x. level_fault (plain_shape a.top) names h words (is_some (entered (plain a) x)) (entered_fault (plain a) x) in
    ap (λ (names : Names). by_stop names (walk (plain_rules a.top.rules) names h words).stopped) (names-same a.subs)
    ∙ ap (λ (w : Walk). by_stop (names_of a) w.stopped) (walk-same a.top.rules (names_of a) words (walk_from h))
    ∙ ap₂ (λ (o : Option (Text × List Row)) (below : Kinds). level_fault (plain_shape a.top) (names_of a) h words (is_some o) below) (entered-same a stop) (entered_fault-same a stop)
    ∙ level-same a.top (names_of a) h words (is_some (entered a stop)) (entered_fault a stop)

-- the faults of words are those of the plain program
pub fault_of-same : (a : App) (words : List Text) → fault_of (plain a) words ≡ fault_of a words
fault_of-same a words = ap (λ (x : App). built_fault x nothing_held (argument_words a words)) (built-same a) ∙ built_fault-same (built a) nothing_held (argument_words a words)
