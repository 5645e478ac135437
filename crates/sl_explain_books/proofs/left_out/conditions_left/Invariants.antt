-- The conditions so far are left, or left out.
use Rattle.std.proofs.Common.{◌≡◌, take}
use Rattle.std.specs.Prelude.{filter}
use Rattle.sl_explain_books.specs.Further.{condition_left}
use Rattle.sl_explain_books.proofs.left_out.conditions_left.Given as goal

abbrev pub invariant-loop-condition : goal.invariant-loop-condition
invariant-loop-condition l = l.left.items ≡ filter (condition_left l.clause) (take l.condition-index l.conditions)
