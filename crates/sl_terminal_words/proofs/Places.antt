-- Where the words stand in memory that an option lets choose makes no difference to the matches.
use Rattle.std.proofs.Common.{◌≡◌, ◌∙◌, ◌++◌, ◌||◌, ◌&&◌, ℕ, Bool, cond, false, true, not, zero, suc, List, [], ◌∷◌, Option, Some, None, ap, ap₂, drop, length, map, option_map, refl, sym}
use Rattle.std.proofs.lemmas.List.{map-append}
use Rattle.std.specs.List.{find, fold}
use Rattle.std.specs.Option.{option_map_or}
use Rattle.std.specs.Prelude.{◌==◌, encode_utf8, if◌then◌else◌, is_some, slice_get, unwrap_or}
use Rattle.std.specs.Str.{bytes_eq, chars}
use Rattle.clap.proofs.WalkLemmas.{find-map}
use Rattle.clap.specs.Facts.{parser_of_value}
use Rattle.clap.specs.Lexer.{long_of, short_of}
use Rattle.clap.specs.Simple.{App, Shape, argument_words, built, built_above, built_leaf, entered, filled, filled_from, help_rule, help_shape, index_after, inherited, label_of, marked_built, names_of, on_top, parser_for, rows_at, subcommand_of, version_rule, with_action, with_built_subs, with_filled_rules, with_help_flag, with_help_subcommand, with_index, with_inherited, with_leaf_noted, with_subcommand, with_version_flag}
use Rattle.clap.specs.Values.{reading_of}
use Rattle.clap.specs.Walk.{Held, Names, Outcome, Row, Rule, Step, Text, Waiting, Walk, action_of, after_flag, after_step, answers_to, arg_by_id, arg_by_index, arg_by_long, arg_by_short, attached_value, bundle, bundle_met, bundle_step, default_rows, done, finished, flag_met, has_long, has_row, has_short, idle, is_multiple, is_pending, long_met, long_or_other, long_word, next, next_position, nothing_held, option, option_met, option_word, plain as no_flag, plain_word, positional, pushed, reacted, reading_by, refused, rows_after, settled, settled_rows, short_met, short_or_plain, stop_after, subcommand, subcommand_met, subcommand_or_other, takes_several, takes_values, to_positional, trailing, used, used_as, used_by_id, value, values_or_missing, waits, walk, walk_from, walked, walked_from, with_default, word_met}
use Rattle.clap.specs.declared.builder.action.ArgAction.{ArgAction}
use Rattle.clap.specs.declared.builder.action.ArgAction.TheVariants as action
use Rattle.clap.specs.declared.builder.value_parser.Reading.{Reading}
use Rattle.clap.specs.declared.builder.value_parser.ValueParser.{ValueParser}
use Rattle.clap.specs.declared.builder.value_parser.ValueParser.TheVariants as vp
use Rattle.sl_terminal_words.proofs.Programs.{plain-with_subcommand}
use Rattle.sl_terminal_words.specs.inner.Rules.{plain, plain_rule, plain_shape, without_places}

abbrev pub plain_rules : List Rule → List Rule
plain_rules = map plain_rule

-- ---- one argument

reading_of-same : (p : ValueParser) → reading_of (without_places p) ≡ reading_of p
reading_of-same vp.String = refl
reading_of-same vp.NonEmptyString = refl
reading_of-same vp.Bool = refl
reading_of-same vp.Boolish = refl
reading_of-same vp.Falsey = refl
reading_of-same (vp.Signed low high) = refl
reading_of-same (vp.Unsigned low high) = refl
reading_of-same vp.Float = refl
reading_of-same vp.Char = refl
reading_of-same (vp.Names names) = refl
reading_of-same (vp.Values values) = refl

reading_by-same : (a : Rule) → reading_by (plain_rule a) ≡ reading_by a
reading_by-same a = go a.parser
  where
    go : (o : Option ValueParser) → reading_of (parser_of_value (option_map without_places o)) ≡ reading_of (parser_of_value o)
    go None = refl
    go (Some p) = reading_of-same p

pub by_id : (c : List Rule) (id : Text) → arg_by_id (plain_rules c) id ≡ option_map plain_rule (arg_by_id c id)
by_id c id = sym (find-map (λ (a : Rule). bytes_eq a.id id) plain_rule c)

pub by_long : (c : List Rule) (name : Text) → arg_by_long (plain_rules c) name ≡ option_map plain_rule (arg_by_long c name)
by_long c name = sym (find-map (λ (a : Rule). not (is_some a.index) && has_long a name) plain_rule c)

pub by_short : (c : List Rule) (x : ℕ) → arg_by_short (plain_rules c) x ≡ option_map plain_rule (arg_by_short c x)
by_short c x = sym (find-map (λ (a : Rule). not (is_some a.index) && has_short a x) plain_rule c)

pub by_index : (c : List Rule) (i : ℕ) → arg_by_index (plain_rules c) i ≡ option_map plain_rule (arg_by_index c i)
by_index c i = sym (find-map (λ (a : Rule). option_map_or (λ k. k == i) a.index false) plain_rule c)

-- ---- one use of an argument

used-same : (a : Rule) (values : List Text) (rows : List Row) → used (plain_rule a) values rows ≡ used a values rows
used-same a values rows = ap (λ (how : Reading). used_as (action_of a) a.id how (values_or_missing a values) rows) (reading_by-same a)

used_by_id-same : (o : Option Rule) (values : List Text) (rows : List Row) → used_by_id (option_map plain_rule o) values rows ≡ used_by_id o values rows
used_by_id-same None values rows = refl
used_by_id-same (Some a) values rows = used-same a values rows

settled_rows-same : (c : List Rule) (p : Option (Text × List Text)) (rows : List Row) → settled_rows (plain_rules c) p rows ≡ settled_rows c p rows
settled_rows-same c None rows = refl
settled_rows-same c (Some p) rows = ap (λ o. used_by_id o p.1 rows) (by_id c p.0) ∙ used_by_id-same (arg_by_id c p.0) p.1 rows

pub settled-same : (c : List Rule) (h : Held) → settled (plain_rules c) h ≡ settled c h
settled-same c h = ap (λ (rows : List Row). record h { rows = rows; pending = None }) (settled_rows-same c h.pending h.rows)

pub reacted-same : (c : List Rule) (a : Rule) (values : List Text) (h : Held) → reacted (plain_rules c) (plain_rule a) values h ≡ reacted c a values h
reacted-same c a values h = ap (λ (x : Held). record h { rows = used (plain_rule a) values x.rows; pending = None }) (settled-same c h)
    ∙ ap (λ (rows : List Row). record h { rows = rows; pending = None }) (used-same a values (settled c h).rows)

-- ---- a word that begins with a hyphen

abbrev with_done : Held → Held × Outcome
with_done h = (h, done)

abbrev with_wait : Text → Held → Held × Outcome
with_wait id h = (record h { pending = Some (id, []) }, waits id)

option_met-same : (c : List Rule) (a : Rule) (v : Option Text) (h : Held) → option_met (plain_rules c) (plain_rule a) v h ≡ option_met c a v h
option_met-same c a (Some v) h = ap with_done (reacted-same c a (v ∷ []) h)
option_met-same c a None h = ap (with_wait a.id) (settled-same c h)

flag_met-same : (c : List Rule) (a : Rule) (v : Option Text) (h : Held) → flag_met (plain_rules c) (plain_rule a) v h ≡ flag_met c a v h
flag_met-same c a (Some v) h = refl
flag_met-same c a None h = ap with_done (reacted-same c a [] h)

long_met-same : (c : List Rule) (o : Option Rule) (v : Option Text) (h : Held) → long_met (plain_rules c) (option_map plain_rule o) v h ≡ long_met c o v h
long_met-same c None v h = refl
long_met-same c (Some a) v h = ap₂ (cond (takes_values a)) (option_met-same c a v h) (flag_met-same c a v h)

short_met-same : (c : List Rule) (o : Option Rule) (rest : Text) (h : Held) (f g : Held → Held × Outcome) → ((x : Held) → f x ≡ g x)
    → short_met (plain_rules c) (option_map plain_rule o) rest h f ≡ short_met c o rest h g
short_met-same c None rest h f g same = refl
short_met-same c (Some a) rest h f g same =
    ap₂ (cond (takes_values a)) (option_met-same c a (attached_value rest) h) (ap f (reacted-same c a [] h) ∙ same (reacted c a [] h))

abbrev Next : Type 0
Next = Text → ℕ → Outcome → Held → Held × Outcome

bundle_step-same : (c : List Rule) (o : Option ℕ) (flags : Text) (skip : ℕ) (so_far : Outcome) (h : Held) (f g : Next)
    → ((r : Text) (k : ℕ) (s : Outcome) (x : Held) → f r k s x ≡ g r k s x) → bundle_step (plain_rules c) o flags skip so_far h f ≡ bundle_step c o flags skip so_far h g
bundle_step-same c None flags skip so_far h f g same = refl
bundle_step-same c (Some x) flags zero so_far h f g same =
    let rest = drop (length (encode_utf8 x)) flags in
    ap (λ o. short_met (plain_rules c) o rest h (f rest 0 done)) (by_short c x)
    ∙ short_met-same c (arg_by_short c x) rest h (f rest 0 done) (g rest 0 done) (same rest 0 done)
bundle_step-same c (Some x) flags (suc skip) so_far h f g same = same (drop (length (encode_utf8 x)) flags) skip so_far h

bundle_met-same : (k : ℕ) (c : List Rule) (flags : Text) (skip : ℕ) (so_far : Outcome) (h : Held) → bundle_met (plain_rules c) k flags skip so_far h ≡ bundle_met c k flags skip so_far h
unfolding bundle_met
bundle_met-same zero c flags skip so_far h = refl
bundle_met-same (suc k) c flags skip so_far h =
    bundle_step-same c (slice_get (chars flags) 0) flags skip so_far h (bundle_met (plain_rules c) k) (bundle_met c k) (bundle_met-same k c)

-- ---- a word

abbrev option_step : Text → Text → Held → Option Rule → Held × Step
option_step id word h o = ((option_word o id word h).0, next (option_word o id word h).1)

option_step-same : (id word : Text) (h : Held) (o : Option Rule) → option_step id word h (option_map plain_rule o) ≡ option_step id word h o
option_step-same id word h None = refl
option_step-same id word h (Some a) = refl

plain_word-same : (c : List Rule) (waiting : Waiting) (word : Text) (h : Held) → plain_word (plain_rules c) waiting word h ≡ plain_word c waiting word h
plain_word-same c (option id) word h = ap (option_step id word h) (by_id c id) ∙ option_step-same id word h (arg_by_id c id)
plain_word-same c idle word h = refl
plain_word-same c positional word h = refl

after_flag-same : (c : List Rule) (waiting : Waiting) (word : Text) (h : Held) (outcome : Outcome) → after_flag (plain_rules c) waiting word h outcome ≡ after_flag c waiting word h outcome
after_flag-same c waiting word h done = refl
after_flag-same c waiting word h (waits id) = refl
after_flag-same c waiting word h no_flag = plain_word-same c waiting word h
after_flag-same c waiting word h refused = plain_word-same c waiting word h

by_outcome : (c : List Rule) (waiting : Waiting) (word : Text) (a b : Held × Outcome) → a ≡ b → after_flag (plain_rules c) waiting word a.0 a.1 ≡ after_flag c waiting word b.0 b.1
by_outcome c waiting word a b e = ap (λ (m : Held × Outcome). after_flag (plain_rules c) waiting word m.0 m.1) e ∙ after_flag-same c waiting word b.0 b.1

long_word-same : (c : List Rule) (waiting : Waiting) (word name : Text) (v : Option Text) (h : Held) → long_word (plain_rules c) waiting word name v h ≡ long_word c waiting word name v h
long_word-same c waiting word name v h = by_outcome c waiting word (long_met (plain_rules c) (arg_by_long (plain_rules c) name) v h) (long_met c (arg_by_long c name) v h)
    (ap (λ o. long_met (plain_rules c) o v h) (by_long c name) ∙ long_met-same c (arg_by_long c name) v h)

short_or_plain-same : (c : List Rule) (waiting : Waiting) (word : Text) (o : Option Text) (h : Held) → short_or_plain (plain_rules c) waiting word o h ≡ short_or_plain c waiting word o h
short_or_plain-same c waiting word (Some flags) h = by_outcome c waiting word (bundle (plain_rules c) flags h) (bundle c flags h)
    (bundle_met-same (length flags) c flags h.skip no_flag (record h { skip = 0 }))
short_or_plain-same c waiting word None h = plain_word-same c waiting word h

long_or_other-same : (c : List Rule) (waiting : Waiting) (word : Text) (o : Option (Text × Option Text)) (h : Held)
    → long_or_other (plain_rules c) waiting word o h ≡ long_or_other c waiting word o h
long_or_other-same c waiting word (Some p) h = long_word-same c waiting word p.0 p.1 h
long_or_other-same c waiting word None h = short_or_plain-same c waiting word (short_of word) h

abbrev with_step : Held → Step → Held × Step
with_step h s = (h, s)

subcommand_or_other-same : (c : List Rule) (o : Option Text) (waiting : Waiting) (position : ℕ) (word : Text) (h : Held)
    → subcommand_or_other (plain_rules c) o waiting position word h ≡ subcommand_or_other c o waiting position word h
subcommand_or_other-same c (Some name) waiting position word h = refl
subcommand_or_other-same c None waiting position word h =
    ap (cond (bytes_eq word (45 ∷ 45 ∷ [])) (with_step h (trailing position))) (long_or_other-same c waiting word (long_of word) h)

pub word_met-same : (c : List Rule) (names : Names) (is_trailing : Bool) (waiting : Waiting) (position : ℕ) (word : Text) (h : Held)
    → word_met (plain_rules c) names is_trailing waiting position word h ≡ word_met c names is_trailing waiting position word h
word_met-same c names is_trailing waiting position word h =
    ap (cond is_trailing (with_step h value)) (subcommand_or_other-same c (subcommand_met names waiting word) waiting position word h)

-- ---- the walk

abbrev taken_by : Rule → Walk → Held → Walk
taken_by a w h = record {
  held = h;
  waiting = if is_multiple a then positional else idle;
  position = next_position a w.position;
  is_trailing = w.is_trailing || a.trailing_var_arg;
  stopped = None;
}

to_positional-same : (c : List Rule) (o : Option Rule) (word : Text) (w : Walk) (h : Held) → to_positional (plain_rules c) (option_map plain_rule o) word w h ≡ to_positional c o word w h
to_positional-same c None word w h = refl
to_positional-same c (Some a) word w h =
    ap (λ (x : Held). taken_by a w (pushed a.id word (cond (is_pending a h.pending && takes_several a) h x))) (settled-same c h)

after_step-same : (c : List Rule) (word : Text) (w : Walk) (h : Held) (s : Step) → after_step (plain_rules c) word w h s ≡ after_step c word w h s
after_step-same c word w h (next waiting) = refl
after_step-same c word w h (trailing position) = refl
after_step-same c word w h (subcommand name) = refl
after_step-same c word w h value = ap (λ o. to_positional (plain_rules c) o word w h) (by_index c w.position) ∙ to_positional-same c (arg_by_index c w.position) word w h

walked_from-same : (c : List Rule) (names : Names) (stop : Option (Text × List Text)) (w : Walk) (word : Text) → walked_from (plain_rules c) names stop w word ≡ walked_from c names stop w word
walked_from-same c names (Some p) w word = refl
walked_from-same c names None w word =
    let met = word_met c names w.is_trailing w.waiting w.position word w.held in
    ap (λ (m : Held × Step). after_step (plain_rules c) word w m.0 m.1) (word_met-same c names w.is_trailing w.waiting w.position word w.held)
    ∙ after_step-same c word w met.0 met.1

pub walked-same : (c : List Rule) (names : Names) (w : Walk) (word : Text) → walked (plain_rules c) names w word ≡ walked c names w word
unfolding walked
walked-same c names w word = walked_from-same c names w.stopped w word

pub walk-same : (c : List Rule) (names : Names) (words : List Text) (w : Walk) → fold (walked (plain_rules c) names) w words ≡ fold (walked c names) w words
walk-same c names [] w = refl
walk-same c names (word ∷ words) w = ap (λ (x : Walk). fold (walked (plain_rules c) names) x words) (walked-same c names w word) ∙ walk-same c names words (walked c names w word)

pub with_default-same : (rows : List Row) (a : Rule) → with_default rows (plain_rule a) ≡ with_default rows a
with_default-same rows a = ap (λ (how : Reading). cond (has_row a.id rows) rows (default_rows a.id how a.defaults rows)) (reading_by-same a)

defaults-same : (c : List Rule) (rows : List Row) → fold with_default rows (plain_rules c) ≡ fold with_default rows c
defaults-same [] rows = refl
defaults-same (a ∷ c) rows = ap (λ (r : List Row). fold with_default r (plain_rules c)) (with_default-same rows a) ∙ defaults-same c (with_default rows a)

pub finished-same : (c : List Rule) (h : Held) → finished (plain_rules c) h ≡ finished c h
finished-same c h = ap (λ (x : Held). fold with_default x.rows (plain_rules c)) (settled-same c h) ∙ defaults-same c (settled c h).rows

rows_after-same : (c : List Rule) (names : Names) (words : List Text) → rows_after (plain_rules c) names words ≡ rows_after c names words
rows_after-same c names words = ap (λ (w : Walk). finished (plain_rules c) w.held) (walk-same c names words (walk_from nothing_held))
    ∙ finished-same c (walk c names nothing_held words).held

-- ---- building

parser-same : (o : Option ValueParser) (x : ArgAction) → unwrap_or (option_map without_places o) (parser_for x) ≡ without_places (unwrap_or o (parser_for x))
parser-same (Some p) x = refl
parser-same None action.Set = refl
parser-same None action.Append = refl
parser-same None action.SetTrue = refl
parser-same None action.SetFalse = refl
parser-same None action.Count = refl
parser-same None action.Help = refl
parser-same None action.HelpShort = refl
parser-same None action.HelpLong = refl
parser-same None action.Version = refl

filled-same : (a : Rule) → filled (plain_rule a) ≡ plain_rule (filled a)
filled-same a = ap (λ (p : ValueParser). record (filled a) { parser = Some p }) (parser-same a.parser (action_of (with_action a)))

filled_from-same : (c : List Rule) (i : ℕ) → filled_from i (plain_rules c) ≡ plain_rules (filled_from i c)
filled_from-same [] i = refl
filled_from-same (a ∷ c) i = ap₂ (λ (r : Rule) rest. r ∷ rest) (ap (with_index i) (filled-same a)) (filled_from-same c (index_after i a))

abbrev with_own_rules : Shape → List Rule → Shape
with_own_rules s rules = record s { rules = rules }

rules-same : (s : Shape) → with_filled_rules (plain_shape s) ≡ plain_shape (with_filled_rules s)
rules-same s = ap (with_own_rules s) (filled_from-same s.rules 1)

one_more : (b : Bool) (rules : List Rule) (r : Rule) → plain_rule r ≡ r → cond b (plain_rules rules) (plain_rules rules ++ r ∷ []) ≡ plain_rules (cond b rules (rules ++ r ∷ []))
one_more true rules r is = refl
one_more false rules r is = ap (λ (x : Rule). plain_rules rules ++ x ∷ []) (sym is) ∙ sym (map-append plain_rule rules (r ∷ []))

help-same : (s : Shape) → with_help_flag (plain_shape s) ≡ plain_shape (with_help_flag s)
help-same s = ap (with_own_rules s) (one_more s.disable_help_flag s.rules help_rule refl)

version-same : (s : Shape) → with_version_flag (plain_shape s) ≡ plain_shape (with_version_flag s)
version-same s = ap (with_own_rules s) (one_more (s.disable_version_flag || (not s.has_version && not s.has_long_version)) s.rules version_rule refl)

either : {X : Type 0} (f : X → X) (b : Bool) (x y : X) → cond b (f x) (f y) ≡ f (cond b x y)
either f true x y = refl
either f false x y = refl

built_leaf-same : (s : Shape) → built_leaf (plain_shape s) ≡ plain_shape (built_leaf s)
built_leaf-same s =
    let t = with_leaf_noted (marked_built s) in
    ap (cond s.is_built (plain_shape s)) (ap (λ (x : Shape). with_filled_rules (with_version_flag x)) (help-same t)
    ∙ ap with_filled_rules (version-same (with_help_flag t)) ∙ rules-same (with_version_flag (with_help_flag t)))
    ∙ either plain_shape s.is_built s (with_filled_rules (with_version_flag (with_help_flag t)))

shapes-same : (f g : Shape → Shape) → ((s : Shape) → g (plain_shape s) ≡ plain_shape (f s)) → (subs : List Shape) → map g (map plain_shape subs) ≡ map plain_shape (map f subs)
shapes-same f g same [] = refl
shapes-same f g same (s ∷ subs) = ap₂ (λ (x : Shape) rest. x ∷ rest) (same s) (shapes-same f g same subs)

abbrev with_own_subs : Shape → List Shape → App
with_own_subs top subs = record { top = top; subs = subs }

on_top-same : (f : Shape → Shape) → ((s : Shape) → f (plain_shape s) ≡ plain_shape (f s)) → (a : App) → on_top f (plain a) ≡ plain (on_top f a)
on_top-same f same a = ap (λ (top : Shape). with_own_subs top (map plain_shape a.subs)) (same a.top)

inherited-same : (a : App) → with_inherited (plain a) ≡ plain (with_inherited a)
inherited-same a = ap (with_own_subs (plain_shape a.top)) (shapes-same (inherited a.top) (inherited (plain_shape a.top)) (λ s. refl) a.subs)

help_subcommand-same : (a : App) → with_help_subcommand (plain a) ≡ plain (with_help_subcommand a)
help_subcommand-same a = ap (cond a.top.disable_help_subcommand (plain a)) (sym (plain-with_subcommand a help_shape)) ∙ either plain a.top.disable_help_subcommand a (with_subcommand a help_shape)

built_subs-same : (a : App) → with_built_subs (plain a) ≡ plain (with_built_subs a)
built_subs-same a = ap (with_own_subs (plain_shape a.top)) (shapes-same built_leaf built_leaf built_leaf-same a.subs)

above-same : (a : App) → built_above (plain a) ≡ plain (built_above a)
above-same a =
    let b = with_inherited (on_top with_leaf_noted a) in
    let c = on_top with_help_flag b in
    let d = on_top with_version_flag c in
    ap (λ (x : App). on_top with_filled_rules (with_help_subcommand (on_top with_version_flag (on_top with_help_flag x)))) (inherited-same (on_top with_leaf_noted a))
    ∙ ap (λ (x : App). on_top with_filled_rules (with_help_subcommand (on_top with_version_flag x))) (on_top-same with_help_flag help-same b)
    ∙ ap (λ (x : App). on_top with_filled_rules (with_help_subcommand x)) (on_top-same with_version_flag version-same c)
    ∙ ap (on_top with_filled_rules) (help_subcommand-same d) ∙ on_top-same with_filled_rules rules-same (with_help_subcommand d)

pub built-same : (a : App) → built (plain a) ≡ plain (built a)
built-same a =
    let m = on_top marked_built a in
    ap (cond a.top.is_built (plain a)) (ap with_built_subs (above-same m) ∙ built_subs-same (built_above m)) ∙ either plain a.top.is_built a (with_built_subs (built_above m))

-- ---- the subcommand that is entered

pub names-same : (subs : List Shape) → map label_of (map plain_shape subs) ≡ map label_of subs
names-same [] = refl
names-same (s ∷ subs) = ap (λ (rest : Names). label_of s ∷ rest) (names-same subs)

pub shape_named : (name : Text) (subs : List Shape) → find (λ s. answers_to name (label_of s)) (map plain_shape subs) ≡ option_map plain_shape (find (λ s. answers_to name (label_of s)) subs)
shape_named name subs = sym (find-map (λ (s : Shape). answers_to name (label_of s)) plain_shape subs)

abbrev with_name : Text → List Row → Text × List Row
with_name name rows = (name, rows)

pub entered-same : (a : App) (stop : Option (Text × List Text)) → entered (plain a) stop ≡ entered a stop
entered-same a None = refl
entered-same a (Some p) = ap (option_map (λ (s : Shape). rows_at s p.1)) (shape_named p.0 a.subs) ∙ go (find (λ s. answers_to p.0 (label_of s)) a.subs)
  where
    go : (o : Option Shape) → option_map (λ (s : Shape). rows_at s p.1) (option_map plain_shape o) ≡ option_map (λ (s : Shape). rows_at s p.1) o
    go None = refl
    go (Some s) = ap (λ (rows : List Row). Some (with_name s.name rows)) (rows_after-same s.rules [] p.1)

stop-same : (c : List Rule) (names : Names) (words : List Text) → stop_after (plain_rules c) names words ≡ stop_after c names words
stop-same c names words = ap (λ (w : Walk). w.stopped) (walk-same c names words (walk_from nothing_held))

-- the matches of a subcommand are those of the plain program
pub subcommand_of-same : (a : App) (words : List Text) → subcommand_of (plain a) words ≡ subcommand_of a words
subcommand_of-same a words =
    let b = built a in
    let given = argument_words a words in
    ap (λ (x : App). entered x (stop_after x.top.rules (names_of x) given)) (built-same a)
    ∙ ap (λ (names : Names). entered (plain b) (stop_after (plain_rules b.top.rules) names given)) (names-same b.subs)
    ∙ ap (entered (plain b)) (stop-same b.top.rules (names_of b) given)
    ∙ entered-same b (stop_after b.top.rules (names_of b) given)
