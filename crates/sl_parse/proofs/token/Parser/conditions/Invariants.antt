use Rattle.std.proofs.Common.{drop, length}
use Rattle.sl_parse.specs.inner.Reading.{read_conditions}
use Rattle.sl_parse.proofs.Loop.{MayGoOn}
use Rattle.sl_parse.proofs.token.Parser.conditions.Given as goal

abbrev pub invariant-each : goal.invariant-each
invariant-each l = MayGoOn l.conditions.items (drop l.at l.self.tokens.now) (read_conditions (drop l.fn.at l.self.tokens.now))

abbrev pub decreases-each : goal.decreases-each
decreases-each l = length (drop l.at l.self.tokens.now)
