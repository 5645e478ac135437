use Rattle.std.proofs.Common.{◌≡◌, ◌-◌, ◌≤◌, map, drop, vec_len}
use Rattle.sl_law_meaning.specs.book.Trees.{stage_of}
use Rattle.sl_parse.specs.Parsing.{limits}
use Rattle.sl_parse.specs.inner.Reading.{read_stages}
use Rattle.sl_parse.proofs.Loop.{with_front}
use Rattle.sl_parse.proofs.token.Parser.stages.Given as goal

abbrev pub invariant-each : goal.invariant-each
invariant-each l = record {
  few : vec_len l.stages ≤ limits.stages;
  so_far : with_front (map stage_of l.stages.items) (read_stages l.self.text.now limits (limits.stages - vec_len l.stages) (drop l.at l.self.tokens.now)) ≡ read_stages l.self.text.now limits limits.stages (drop l.fn.at l.self.tokens.now);
}

abbrev pub decreases-each : goal.decreases-each
decreases-each l = limits.stages - vec_len l.stages
