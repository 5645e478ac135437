-- Each call goes down the tree; `both` and `three` stand between an expression and its arguments.
use Rattle.std.proofs.Common.{◌+◌, ◌*◌, max}
use Rattle.sl_law_meaning.specs.declared.book.Expr.{size-Expr}
use Rattle.sl_check.proofs.columns.Columns.+expr.Given as goal

abbrev pub decreases-expr_type : goal.decreases-expr_type
decreases-expr_type l = 3 * size-Expr l.expr.now

abbrev pub decreases-both : goal.decreases-both
decreases-both l = 3 * max (size-Expr l.left.now) (size-Expr l.right.now) + 1

abbrev pub decreases-three : goal.decreases-three
decreases-three l = 3 * max (max (size-Expr l.first.now) (size-Expr l.second.now)) (size-Expr l.third.now) + 2
