use Rattle.sl_report_results.proofs.margins.found.Goals as goal

pub lacking-requires-clause-won : goal.lacking-requires-clause-won
lacking-requires-clause-won c = rw c.as_slice.ensures.value c.in_ok-last.ensures

pub lots_of-requires-clause-won : goal.lots_of-requires-clause-won
lots_of-requires-clause-won c = rw c.as_slice-2.ensures.value c.in_ok-last.ensures

pub lots_of-requires-clause-claims : goal.lots_of-requires-clause-claims
lots_of-requires-clause-claims c = rw c.as_slice-3.ensures.value c.in_ok-next.ensures

pub returns-clause-margins : goal.returns-clause-margins
returns-clause-margins c = record { divides = c.divisor-divisor.ensures; won = c.in_ok-last.ensures; claims = c.in_ok-next.ensures; long = c.in_ok-missing.ensures.long; missing = c.in_ok-missing.ensures.missing }

pub returns-clause-lots : goal.returns-clause-lots
returns-clause-lots c = rw (← c.as_slice-2.ensures.value, ← c.as_slice-3.ensures.value) c.in_ok-lots.ensures
