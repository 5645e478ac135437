-- The tests of the instructions so far hold.
use Rattle.sl_verify.proofs.Walking.{Passed}
use Rattle.sl_verify.proofs.pass.check_instrs.Given as goal

abbrev pub invariant-loop-place : goal.invariant-loop-place
invariant-loop-place l = Passed l.code l.instrs l.place l.comes
