use Rattle.sl_code.specs.Listing.{operand_word}
use Rattle.sl_code.proofs.Numbered.{more_written}
use Rattle.sl_code.proofs.lines.line.Goals as goal

pub loop-operand-preserved : goal.loop-operand-preserved
loop-operand-preserved c = more_written operand_word _ c.loop-operand.operand-index _ _ _ _ c.loop-operand-test.true c.loop-operand.invariant c.in_ok-operand_word.ensures
