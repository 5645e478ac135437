-- Each call goes down the tree.
use Rattle.sl_law_meaning.specs.book.Limits.{depth_of}
use Rattle.sl_law_meaning.specs.book.Trees.{tree_of}
use Rattle.sl_report_results.proofs.columns.+distribution_of.Given as goal

abbrev pub decreases-distribution_of : goal.decreases-distribution_of
decreases-distribution_of l = depth_of (tree_of l.expr.now)
