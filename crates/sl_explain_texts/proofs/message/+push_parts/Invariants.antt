-- Less text is left at each call.
use Rattle.std.proofs.Common.{length}
use Rattle.sl_explain_texts.proofs.message.+push_parts.Given as goal

abbrev pub decreases-push_parts : goal.decreases-push_parts
decreases-push_parts l = length l.holes.now
