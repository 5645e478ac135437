-- Each call goes down the tree; `both` stands between an expression and its arguments.
use Rattle.std.proofs.Common.{◌+◌, ◌*◌, max}
use Rattle.sl_law_meaning.specs.book.Limits.{depth_of}
use Rattle.sl_law_meaning.specs.book.Trees.{tree_of}
use Rattle.sl_compile.proofs.exprs.Site.+expr.Given as goal

abbrev pub decreases-expr : goal.decreases-expr
decreases-expr l = 2 * depth_of (tree_of l.expr.now)

abbrev pub decreases-both : goal.decreases-both
decreases-both l = 2 * max (depth_of (tree_of l.left.now)) (depth_of (tree_of l.right.now)) + 1
