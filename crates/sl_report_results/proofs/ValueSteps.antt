-- What sums and pairs come to.
use Rattle.std.proofs.Common.{◌≡◌, ℕ, List, refl, sym, subst}
use Rattle.sl_law_meaning.specs.declared.book.Axis.{Axis}
use Rattle.sl_law_meaning.specs.declared.book.Pairing.{Pairing}
use Rattle.sl_law_meaning.specs.book.Trees.{ExprTree, sum, pair, BookTree}
use Rattle.sl_law_meaning.specs.returns.Election.{Election}
use Rattle.sl_law_meaning.specs.meaning.Columns.{NamedColumn, sum_over, pair_of}
use Rattle.sl_law_meaning.specs.meaning.Results.{plain}
use Rattle.sl_law_meaning.specs.meaning.Expressions.{ExprMeans}
use Rattle.sl_report_results.specs.Values.{IsValue}

module _ (b : BookTree) (e : Election) (columns : List NamedColumn) where
  pub sum_value : (at : ℕ) (x : ExprTree) (over : Axis) (xs zs : List ℕ) → IsValue b e columns x xs → zs ≡ sum_over e over xs → IsValue b e columns (sum at x over) zs
  sum_value at x over xs zs of_x is c same =
      subst (λ v. ExprMeans b e c (sum at x over) (plain v)) (sym is)
      (record { first = plain xs; comes = of_x c same; goes_on = (plain (sum_over e over xs), refl, refl) })

  pub pair_value : (at : ℕ) (pairing : Pairing) (x y : ExprTree) (xs ys zs : List ℕ) → IsValue b e columns x xs → IsValue b e columns y ys → zs ≡ pair_of pairing xs ys →
      IsValue b e columns (pair at pairing x y) zs
  pair_value at pairing x y xs ys zs of_x of_y is c same =
      subst (λ v. ExprMeans b e c (pair at pairing x y) (plain v)) (sym is)
      (record {
        first = plain xs;
        comes = of_x c same;
        goes_on = (plain (pair_of pairing xs ys), record { first = plain ys; comes = of_y c same; goes_on = (plain (pair_of pairing xs ys), refl, refl) }, refl);
      })
