use Rattle.sl_code.specs.Operands.{bytes_of}
use Rattle.sl_code.proofs.Numbered.{more_written}
use Rattle.sl_code.proofs.spelling.instr.Goals as goal

pub loop-each-preserved : goal.loop-each-preserved
loop-each-preserved c = more_written bytes_of _ c.loop-each.each-index _ _ _ _ c.loop-each-test.true c.loop-each.invariant c.in_ok-operand.ensures
