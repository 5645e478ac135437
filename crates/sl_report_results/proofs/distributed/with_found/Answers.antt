use Rattle.std.proofs.Common.{refl}
use Rattle.sl_report_results.proofs.distributed.with_found.Goals as goal

pub returns-clause-head : goal.returns-clause-head
returns-clause-head c = record { stage = refl; scope = refl; method = refl; grows = refl; minima = c.is_some.ensures; seats = c.seats_in.ensures; weight = c.weight_in.ensures }

pub returns-clause-margins : goal.returns-clause-margins
returns-clause-margins c = record {
  allocated = c.requires.allocated;
  quota = refl;
  lacking = c.args.found.missing.items;
  marks = c.args.found.marks.items;
  margins = c.requires.margins;
  lots = c.requires.lots;
  entries = rw (← c.as_slice.ensures.value, ← c.as_slice-2.ensures.value) c.in_ok-all.ensures;
}
