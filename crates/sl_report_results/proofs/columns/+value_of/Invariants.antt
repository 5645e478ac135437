-- Each call goes down the tree.
use Rattle.sl_law_meaning.specs.book.Limits.{depth_of}
use Rattle.sl_law_meaning.specs.book.Trees.{tree_of}
use Rattle.sl_report_results.proofs.columns.+value_of.Given as goal

abbrev pub decreases-value_of : goal.decreases-value_of
decreases-value_of l = depth_of (tree_of l.expr.now)
