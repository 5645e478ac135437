use Rattle.sl_count_texts.specs.Orders.{entry_key}
use Rattle.sl_count_texts.proofs.SeatCounts.{HasCounted}
use Rattle.sl_count_texts.proofs.bounds.count_seats.Given as goal

abbrev pub invariant-loop-step : goal.invariant-loop-step
invariant-loop-step l = HasCounted (λ x. entry_key x.stage x.scope x.entry) l.steps l.counts l.step-index
