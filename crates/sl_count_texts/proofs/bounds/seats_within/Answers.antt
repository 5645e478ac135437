use Rattle.sl_base_quotients.specs.declared.limits.TheConstants.{MAX_SEATS}
use Rattle.sl_count_texts.specs.inner.Counts.{counted_seats}
use Rattle.sl_count_texts.proofs.EntrySeats.{one_past, numbers_more, small_more}
use Rattle.sl_count_texts.proofs.bounds.seats_within.Goals as goal

pub returns-in_default : goal.returns-in_default
returns-in_default c =
    one_past (λ w. counted_seats c.args.counts.now w.now) MAX_SEATS c.args.scope.now c.loop-weight.weight-index _ c.loop-weight-test.true c.in_default.ensures

pub loop-weight-preserved : goal.loop-weight-preserved
loop-weight-preserved c =
    record {
      taken = numbers_more (λ w. counted_seats c.args.counts.now w.now) MAX_SEATS c.args.scope.now c.loop-weight.weight-index _ c.loop-weight-test.true c.loop-weight.seats.items c.push.new.self.items c.in-Some.held
          c.in-Some.ensures.0 c.in_ok-push.ensures.items c.loop-weight.invariant.taken;
      small = small_more (λ w. counted_seats c.args.counts.now w.now) MAX_SEATS c.args.scope.now c.loop-weight.weight-index _ c.loop-weight-test.true c.loop-weight.seats.items c.push.new.self.items c.in-Some.held
          c.in-Some.ensures.0 c.in_ok-push.ensures.items c.in-Some.ensures.1 c.loop-weight.invariant.small;
    }
