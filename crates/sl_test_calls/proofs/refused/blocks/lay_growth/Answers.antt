use Rattle.std.proofs.Common.{refl}
use Rattle.sl_test_calls.proofs.Jobs.{growth}
use Rattle.sl_test_calls.proofs.refused.blocks.lay_growth.Goals as goal

pub grow_block-requires-clause-job : goal.grow_block-requires-clause-job
grow_block-requires-clause-job c = growth _ refl refl refl refl c.args.cap refl c.requires.cap
