-- The first test that fails, of an expression with several arguments.
use Rattle.std.proofs.Common.{◌≡◌, List, ◌++◌, Some, None, Result, Ok, Err, refl, ◌∙◌, sym, ap, subst, append_assoc}
use Rattle.std.specs.Option.{option_or}
use Rattle.sl_law_meaning.specs.declared.check_fault.CheckFault.{CheckFault}
use Rattle.sl_law_meaning.specs.declared.book.ColumnType.{ColumnType}
use Rattle.sl_law_meaning.specs.declared.book.Unit.TheVariants as unit
use Rattle.sl_law_meaning.specs.book.Trees.{ExprTree}
use Rattle.sl_law_meaning.specs.book.Typing.{Column, column, type_of, expr_tests}
use Rattle.sl_base_terms.proofs.Tests.{fails_in_row}
use Rattle.sl_base_terms.specs.Tests.{Test, first_failing, Judges}

-- the first two lists may be taken together
pub fails_behind : (a b c : List (Test CheckFault)) → first_failing (a ++ (b ++ c)) ≡ option_or (first_failing (a ++ b)) (first_failing c)
fails_behind a b c = sym (ap first_failing (append_assoc a b c)) ∙ fails_in_row (a ++ b) c

-- so may the first three
pub fails_behind_three : (a b c d : List (Test CheckFault)) → first_failing (a ++ (b ++ (c ++ d))) ≡ option_or (first_failing (a ++ (b ++ c))) (first_failing d)
fails_behind_three a b c d =
    ap (λ (tests : List (Test CheckFault)). first_failing (a ++ tests)) (sym (append_assoc b c d)) ∙ fails_behind a (b ++ c) d

-- where the first tests hold, a call judges the others
pub judges_behind : {A : Type 0} (r : Result A CheckFault) (front own all : List (Test CheckFault)) (x y : A) → first_failing all ≡ option_or (first_failing front) (first_failing own)
    → first_failing front ≡ None → x ≡ y → Judges r own x → Judges r all y
judges_behind (Ok z) front own all x y parts holds e h = (parts ∙ rw holds h.0, h.1 ∙ e)
judges_behind (Err f) front own all x y parts holds e h = parts ∙ rw holds h

-- what two expressions fail, they fail with any tests after them
pub fails_two : (cs : List Column) (a b : ExprTree) (own : List (Test CheckFault)) (f : CheckFault) → first_failing (expr_tests cs a ++ expr_tests cs b) ≡ Some f
    → first_failing (expr_tests cs a ++ (expr_tests cs b ++ own)) ≡ Some f
fails_two cs a b own f fails = fails_behind (expr_tests cs a) (expr_tests cs b) own ∙ rw fails refl

-- a column of the types of two expressions, all of whose tests hold
pub judges_two : (cs : List Column) (a b : ExprTree) (own : ColumnType → ColumnType → List (Test CheckFault)) (has : ColumnType → ColumnType → ColumnType) (r : Result ColumnType CheckFault) (x y : ColumnType)
    → first_failing (expr_tests cs a ++ expr_tests cs b) ≡ None → ◌≡◌ {A = ColumnType × ColumnType} (x, y) (type_of cs a, type_of cs b)
    → Judges r (own x y) (has x y)
    → Judges r (expr_tests cs a ++ (expr_tests cs b ++ own (type_of cs a) (type_of cs b))) (has (type_of cs a) (type_of cs b))
judges_two cs a b own has r x y holds told judged =
    let tests = own (type_of cs a) (type_of cs b) in
    let value = has (type_of cs a) (type_of cs b) in
    judges_behind r (expr_tests cs a ++ expr_tests cs b) tests (expr_tests cs a ++ (expr_tests cs b ++ tests)) value value (fails_behind (expr_tests cs a) (expr_tests cs b) tests) holds refl
    (subst (λ (p : ColumnType × ColumnType). Judges r (own p.0 p.1) (has p.0 p.1)) told judged)

-- what three expressions fail, they fail with any tests after them
pub fails_three : (cs : List Column) (a b c : ExprTree) (own : List (Test CheckFault)) (f : CheckFault) → first_failing (expr_tests cs a ++ (expr_tests cs b ++ expr_tests cs c)) ≡ Some f
    → first_failing (expr_tests cs a ++ (expr_tests cs b ++ (expr_tests cs c ++ own))) ≡ Some f
fails_three cs a b c own f fails = fails_behind_three (expr_tests cs a) (expr_tests cs b) (expr_tests cs c) own ∙ rw fails refl

-- seats shared out by the types of three expressions, all of whose tests hold
pub judges_three : (cs : List Column) (a b c : ExprTree) (own : ColumnType → ColumnType → ColumnType → List (Test CheckFault)) (r : Result ColumnType CheckFault) (x y z : ColumnType)
    → first_failing (expr_tests cs a ++ (expr_tests cs b ++ expr_tests cs c)) ≡ None → ◌≡◌ {A = ColumnType × ColumnType × ColumnType} (x, y, z) (type_of cs a, type_of cs b, type_of cs c)
    → Judges r (own x y z) (column y.shape unit.Seats)
    → Judges r (expr_tests cs a ++ (expr_tests cs b ++ (expr_tests cs c ++ own (type_of cs a) (type_of cs b) (type_of cs c)))) (column (type_of cs b).shape unit.Seats)
judges_three cs a b c own r x y z holds told judged =
    let tests = own (type_of cs a) (type_of cs b) (type_of cs c) in
    judges_behind r (expr_tests cs a ++ (expr_tests cs b ++ expr_tests cs c)) tests (expr_tests cs a ++ (expr_tests cs b ++ (expr_tests cs c ++ tests)))
    (column (type_of cs b).shape unit.Seats) (column (type_of cs b).shape unit.Seats) (fails_behind_three (expr_tests cs a) (expr_tests cs b) (expr_tests cs c) tests) holds refl
    (subst (λ (p : ColumnType × ColumnType × ColumnType). Judges r (own p.0 p.1 p.2) (column p.1.shape unit.Seats)) told judged)
