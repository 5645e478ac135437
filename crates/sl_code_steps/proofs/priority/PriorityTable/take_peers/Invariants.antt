-- What was taken is the front of the ranking, and the table has the rest.
use Rattle.std.proofs.Common.{◌≡◌, ◌<◌, All, Some, map, take, drop}
use Rattle.sl_base_quotients.specs.Quotient.{FitsRatio}
use Rattle.sl_base_rankings.specs.Ranking.{ranked}
use Rattle.sl_code_semantics.specs.Places.{item_of}
use Rattle.sl_code_semantics.specs.Safe.{entries_in}
use Rattle.sl_code_steps.specs.inner.Tables.{FitsMark}
use Rattle.sl_code_steps.proofs.priority.PriorityTable.take_peers.Given as goal

abbrev pub invariant-loop : goal.invariant-loop
invariant-loop l = record {
  kind : l.self-inside.kind ≡ Some l.kind;
  lots : l.self-inside.lots ≡ l.initial.self-inside.lots;
  draws : l.self-inside.draws.passed ≡ 0;
  marks : All (λ x. FitsMark l.kind.ranking x.ratio) l.self-inside.prio;
  ratios : All (λ x. FitsRatio x.ratio) l.self-inside.prio;
  range : All (λ x. x.index < entries_in l.returns l.kind.entries) l.self-inside.prio;
  rest : ranked l.self-inside.prio ≡ drop l.counter (ranked l.initial.self-inside.prio);
  items : l.items.items ≡ map (λ x. item_of l.returns l.kind.entries x.index) (take l.counter (ranked l.initial.self-inside.prio));
}
