-- What is asked of the arguments of a split or a growth: each is well formed, and has none itself.
use Rattle.std.proofs.Common.{◌≡◌, ℕ, ◌≤◌, List, Option, Some, None, arith, subst}
use Rattle.std.specs.Global.{Box}
use Rattle.std.proofs.lemmas.Option.{same_Some}
use Rattle.sl_base_quotients.specs.declared.method.Method.{Method}
use Rattle.sl_report_results.specs.Values.{HasNoSplit, IsWellFormed}
use Rattle.sl_law_meaning.specs.book.Trees.{tree_of}
use Rattle.sl_law_meaning.specs.book.Typing.{Column as TypedColumn, expr_tests, splits_in}
use Rattle.sl_law_meaning.specs.declared.book.Expr.{Expr, Grow, Split}
use Rattle.sl_law_meaning.specs.declared.book.Majority.{Majority}
use Rattle.sl_law_meaning.specs.declared.book.Number.{Number}
use Rattle.sl_base_terms.proofs.Tests.{pass_parts}

module _ (types : List TypedColumn) where
  pub record IsArgument (x : Expr) : Type 0 where
    pub formed : IsWellFormed types (tree_of x)
    pub simple : HasNoSplit (tree_of x)

  pub record AreArguments (s v : Box Expr) (told : Option (Box Expr)) : Type 0 where
    pub seats : IsArgument s.value
    pub votes : IsArgument v.value
    pub minima : (m : Box Expr) → told ≡ Some m → IsArgument m.value

  module _ (at : ℕ) (s v : Box Expr) (method : Method) (majority : Majority) where
    split_asks : (minima : Option (Box Expr)) → IsWellFormed types (tree_of (Split at s v method minima majority)) →
        splits_in (tree_of (Split at s v method minima majority)) ≤ 1 → AreArguments s v minima
    split_asks None formed one =
        let ps = pass_parts (expr_tests types (tree_of s.value)) _ formed in
        let pv = pass_parts (expr_tests types (tree_of v.value)) _ ps.1 in
        record {
          seats = record { formed = ps.0; simple = omega (arith, one) };
          votes = record { formed = pv.0; simple = omega (arith, one) };
          minima = λ m is. cc;
        }
    split_asks (Some k) formed one =
        let ps = pass_parts (expr_tests types (tree_of s.value)) _ formed in
        let pv = pass_parts (expr_tests types (tree_of v.value)) _ ps.1 in
        let pm = pass_parts (expr_tests types (tree_of k.value)) _ pv.1 in
        let least : IsArgument k.value = record { formed = pm.0; simple = omega (arith, one) } in
        record {
          seats = record { formed = ps.0; simple = omega (arith, one) };
          votes = record { formed = pv.0; simple = omega (arith, one) };
          minima = λ m is. subst (λ z. IsArgument z.value) (same_Some k m is) least;
        }

    pub of_split : (minima : Option (Box Expr)) (x : Expr) → x ≡ Split at s v method minima majority → IsWellFormed types (tree_of x) → splits_in (tree_of x) ≤ 1 →
        AreArguments s v minima
    of_split minima x is formed one = split_asks minima (subst (λ y. IsWellFormed types (tree_of y)) is formed) (subst (λ y. splits_in (tree_of y) ≤ 1) is one)

    pub of_growth : (m : Box Expr) (cap : Number) (x : Expr) → x ≡ Grow at s v method m cap majority → IsWellFormed types (tree_of x) → splits_in (tree_of x) ≤ 1 →
        AreArguments s v (Some m)
    of_growth k cap x is formed one =
        let told : IsWellFormed types (tree_of (Grow at s v method k cap majority)) = subst (λ y. IsWellFormed types (tree_of y)) is formed in
        let few : splits_in (tree_of (Grow at s v method k cap majority)) ≤ 1 = subst (λ y. splits_in (tree_of y) ≤ 1) is one in
        let ps = pass_parts (expr_tests types (tree_of s.value)) _ told in
        let pv = pass_parts (expr_tests types (tree_of v.value)) _ ps.1 in
        let pm = pass_parts (expr_tests types (tree_of k.value)) _ pv.1 in
        let least : IsArgument k.value = record { formed = pm.0; simple = omega (arith, few) } in
        record {
          seats = record { formed = ps.0; simple = omega (arith, few) };
          votes = record { formed = pv.0; simple = omega (arith, few) };
          minima = λ m is. subst (λ z. IsArgument z.value) (same_Some k m is) least;
        }
