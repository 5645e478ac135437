use Rattle.std.proofs.Common.{refl}
use Rattle.sl_test_calls.proofs.Jobs.{plain_split}
use Rattle.sl_test_calls.proofs.refused.blocks.lay_split.Goals as goal

pub split_block-requires-clause-job : goal.split_block-requires-clause-job
split_block-requires-clause-job c = plain_split _ refl refl refl refl c.args.method refl
