-- Which words stand for facts, pairs, axes, methods and seatings, and what a token stands for (docs/language.md, section 2).
use Rattle.std.specs.Prelude.{Bool, List, [], ◌∷◌, ◌++◌, Option, find, map}
use Rattle.sl_base_quotients.specs.declared.method.Divisor.TheVariants as divisors
use Rattle.sl_base_quotients.specs.declared.method.Method.{Method}
use Rattle.sl_base_quotients.specs.declared.method.Method.TheVariants as methods
use Rattle.sl_lex.specs.contracts.token.KindPartialEq.TheImpl.{ghosts as kind_eq}
use Rattle.sl_lex.specs.declared.keyword.Keyword.{Keyword}
use Rattle.sl_lex.specs.declared.keyword.Keyword.TheVariants as keywords
use Rattle.sl_lex.specs.declared.token.Kind.{Kind}
use Rattle.sl_lex.specs.declared.token.Kind.TheVariants as kinds
use Rattle.sl_law_meaning.specs.declared.fact.Fact.{Fact}
use Rattle.sl_law_meaning.specs.declared.fact.Fact.TheVariants as facts
use Rattle.sl_law_meaning.specs.declared.fact.TheConstants.{FACTS}
use Rattle.sl_law_meaning.specs.declared.book.Pairing.{Pairing}
use Rattle.sl_law_meaning.specs.declared.book.Pairing.TheVariants as pairings
use Rattle.sl_law_meaning.specs.declared.book.Axis.{Axis}
use Rattle.sl_law_meaning.specs.declared.book.Axis.TheVariants as axes
use Rattle.sl_law_meaning.specs.declared.book.Seating.{Seating}
use Rattle.sl_law_meaning.specs.declared.book.Seating.TheVariants as seatings
use Rattle.sl_parse.specs.declared.form.Form.{Form}
use Rattle.sl_parse.specs.declared.form.Form.TheVariants as forms

abbrev pub same_kind : Kind → Kind → Bool
same_kind a b = kind_eq.eq a b

-- the one of these that a token of that kind stands for
abbrev pub stands_for : {A : Type 0} → (A → Kind) → List A → Kind → Option A
stands_for kind_of all k = find (λ x. same_kind k (kind_of x)) all

-- ---- axes, methods and seatings

abbrev pub axis_word : Axis → Keyword
axis_word axes.Party = keywords.Party
axis_word axes.Land = keywords.Land
axis_word axes.All = keywords.All

abbrev pub all_axes : List Axis
all_axes = axes.Party ∷ axes.Land ∷ axes.All ∷ []

abbrev pub axis_of : Kind → Option Axis
axis_of = stands_for (λ x. kinds.Keyword (axis_word x)) all_axes

abbrev pub method_word : Method → Keyword
method_word (methods.Divisor divisors.Adams) = keywords.Adams
method_word (methods.Divisor divisors.Dean) = keywords.Dean
method_word (methods.Divisor divisors.Hill) = keywords.Hill
method_word (methods.Divisor divisors.Webster) = keywords.Webster
method_word (methods.Divisor divisors.Jefferson) = keywords.Jefferson
method_word methods.Hamilton = keywords.Hamilton

abbrev pub all_methods : List Method
all_methods = map methods.Divisor (divisors.Adams ∷ divisors.Dean ∷ divisors.Hill ∷ divisors.Webster ∷ divisors.Jefferson ∷ []) ++ methods.Hamilton ∷ []

abbrev pub method_of : Kind → Option Method
method_of = stands_for (λ x. kinds.Keyword (method_word x)) all_methods

abbrev pub seating_word : Seating → Keyword
seating_word seatings.Keep = keywords.Keep
seating_word seatings.Cover = keywords.Cover

abbrev pub all_seatings : List Seating
all_seatings = seatings.Keep ∷ seatings.Cover ∷ []

abbrev pub seating_of : Kind → Option Seating
seating_of = stands_for (λ x. kinds.Keyword (seating_word x)) all_seatings

-- ---- expressions

abbrev pub fact_word : Fact → Keyword
fact_word facts.House = keywords.House
fact_word facts.Counted = keywords.Counted
fact_word facts.Winners = keywords.Winners
fact_word facts.Outside = keywords.Outside
fact_word facts.Independents = keywords.Independents
fact_word facts.Population = keywords.Population

abbrev pub pairing_word : Pairing → Keyword
pairing_word pairings.Larger = keywords.Larger
pairing_word pairings.Less = keywords.Less

-- the kind of the first token of an expression of that form
abbrev pub first_kind : Form → Kind
first_kind (forms.Fact told) = kinds.Keyword (fact_word told)
first_kind forms.Name = kinds.Name
first_kind forms.Sum = kinds.Keyword keywords.Sum
first_kind (forms.Pair pairing) = kinds.Keyword (pairing_word pairing)
first_kind forms.Split = kinds.Keyword keywords.Split
first_kind forms.Grow = kinds.Keyword keywords.Grow

abbrev pub all_forms : List Form
all_forms =
    map forms.Fact FACTS ++ map forms.Pair (pairings.Larger ∷ pairings.Less ∷ []) ++ forms.Name ∷ forms.Sum ∷ forms.Split ∷ forms.Grow ∷ []

-- the form of the expressions that begin with a token of that kind
abbrev pub form_of : Kind → Option Form
form_of = stands_for first_kind all_forms
