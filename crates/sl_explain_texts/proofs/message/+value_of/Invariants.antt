-- Fewer names are left at each call.
use Rattle.std.proofs.Common.{length}
use Rattle.sl_explain_texts.proofs.message.+value_of.Given as goal

abbrev pub decreases-value_of : goal.decreases-value_of
decreases-value_of l = length l.names.now
