use Rattle.std.proofs.Common.{◌-◌, length}
use Rattle.sl_lex.proofs.Cuts.{IsCutTo}
use Rattle.sl_lex.proofs.scan.lex.Given as goal

abbrev pub invariant-pieces : goal.invariant-pieces
invariant-pieces l = IsCutTo l.text l.start l.tokens.items

abbrev pub decreases-pieces : goal.decreases-pieces
decreases-pieces l = length l.text - l.start
