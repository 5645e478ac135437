use Rattle.std.proofs.Common.{refl, arith}
use Rattle.sl_test_calls.proofs.refused.blocks.lay_covering.Goals as goal

pub cover_block-requires-clause-job : goal.cover_block-requires-clause-job
cover_block-requires-clause-job c = record { base = refl; eligible = refl; numbers = refl; apart = λ same. omega (arith, same) }
