-- Less text is left at each call.
use Rattle.std.proofs.Common.{length}
use Rattle.sl_explain_texts.proofs.message.+push_names.Given as goal

abbrev pub decreases-push_names : goal.decreases-push_names
decreases-push_names l = length l.holes.now
