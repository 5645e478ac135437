-- Outcomes up to the order of a table's records: each typed book means exactly one.
use Rattle.std.proofs.Common.{refl, rules, sym, ◌∙◌, subst}
use Rattle.std.proofs.lemmas.List.Sorted.{IsPermutation-refl, IsPermutation-sym, IsPermutation-trans}
use Rattle.sl_law_meaning.specs.declared.table.Outcome.{Outcome}
use Rattle.sl_law_meaning.specs.declared.table.Outcome.TheVariants as outcome
use Rattle.sl_law_meaning.specs.meaning.Tables.{SeatTable}
use Rattle.sl_law_meaning.specs.meaning.Means.{SameTable, SameOutcome, IsOutcome}
use Rattle.sl_law_meaning.specs.laws.MeaningLaws.{SomeOutcome, AtMostOneOutcome, AnyOrder}
use Rattle.sl_law_meaning.proofs.meaning.ExactlyOne.{same_ones}
use Rattle.sl_law_meaning.proofs.meaning.OneOutcome.{one_outcome}

-- ---- the same table, and the same outcome

table-refl : (t : SeatTable) → SameTable t t
table-refl t = record { lists = refl; placed = refl; steps = IsPermutation-refl t.steps; weights = IsPermutation-refl t.weights }

pub table-sym : (t u : SeatTable) → SameTable t u → SameTable u t
table-sym t u h = search (rules, IsPermutation-sym)

table-trans : (t u v : SeatTable) → SameTable t u → SameTable u v → SameTable t v
table-trans t u v h k = search (rules, IsPermutation-trans)

pub same_itself : (o : Outcome) → SameOutcome o o
same_itself (outcome.Table t) = table-refl t
same_itself (outcome.Fault f) = refl

same_through : (o p q : Outcome) → SameOutcome o q → SameOutcome p q → SameOutcome o p
same_through (outcome.Table t) (outcome.Table u) (outcome.Table v) h k = table-trans t v u h (table-sym u v k)
same_through (outcome.Fault f) (outcome.Fault g) (outcome.Fault i) h k = h ∙ sym k
same_through (outcome.Table t) _ (outcome.Fault f) h k = absurd h
same_through (outcome.Fault f) _ (outcome.Table v) h k = absurd h
same_through _ _ _ h k = absurd k

reordered : (t u : SeatTable) (o : Outcome) → SameTable u t → SameOutcome (outcome.Table t) o → SameOutcome (outcome.Table u) o
reordered t u (outcome.Table v) h k = table-trans u t v h k
reordered t u (outcome.Fault f) h k = absurd k

-- ---- the laws

pub some_outcome : SomeOutcome
some_outcome b e typed is = let one = one_outcome b e typed is in (one.one, record { ordered = one.one; is = one.is; same = same_itself one.one })

pub at_most_one_outcome : AtMostOneOutcome
at_most_one_outcome b e typed is o p means also =
    let same = same_ones (IsOutcome b e) (one_outcome b e typed is) also.ordered means.ordered also.is means.is in
    same_through o p means.ordered means.same (subst (SameOutcome p) same also.same)

pub any_order : AnyOrder
any_order b e t u means same = record { ordered = means.ordered; is = means.is; same = reordered t u means.ordered same means.same }
