-- The stages so far pass, and the types before this place are those of their columns.
use Rattle.sl_check.proofs.Walking.{Passed}
use Rattle.sl_check.proofs.stages.stage_types.Given as goal

abbrev pub invariant-loop-i : goal.invariant-loop-i
invariant-loop-i l = Passed l.stages l.types l.i
