use Rattle.std.proofs.Common.{◌+◌, ◌*◌}
use Rattle.sl_parse.proofs.token.Parser.+expr.Given as goal

abbrev pub decreases-expr : goal.decreases-expr
decreases-expr l = 8 * l.levels

abbrev pub decreases-boxed : goal.decreases-boxed
decreases-boxed l = 8 * l.levels + 1

abbrev pub decreases-sum : goal.decreases-sum
decreases-sum l = 8 * l.levels + 2

abbrev pub decreases-minima : goal.decreases-minima
decreases-minima l = 8 * l.levels + 2

abbrev pub decreases-two : goal.decreases-two
decreases-two l = 8 * l.levels + 2

abbrev pub decreases-pair : goal.decreases-pair
decreases-pair l = 8 * l.levels + 3

abbrev pub decreases-division : goal.decreases-division
decreases-division l = 8 * l.levels + 3

abbrev pub decreases-split : goal.decreases-split
decreases-split l = 8 * l.levels + 4

abbrev pub decreases-grow : goal.decreases-grow
decreases-grow l = 8 * l.levels + 4

abbrev pub decreases-node : goal.decreases-node
decreases-node l = 8 * l.levels + 5
