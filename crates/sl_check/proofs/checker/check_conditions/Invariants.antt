-- The conditions so far pass: the first that fails is one of the rest.
use Rattle.std.proofs.Common.{◌≡◌, drop}
use Rattle.sl_base_terms.specs.Tests.{first_failing}
use Rattle.sl_law_meaning.specs.book.Typing.{condition_tests}
use Rattle.sl_check.proofs.checker.check_conditions.Given as goal

abbrev pub invariant-loop-condition : goal.invariant-loop-condition
invariant-loop-condition l = first_failing (condition_tests l.conditions) ≡ first_failing (condition_tests (drop l.condition-index l.conditions))
