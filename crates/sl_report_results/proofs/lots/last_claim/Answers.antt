use Rattle.sl_base_quotients.specs.Bounds.{IsLast}
use Rattle.sl_report_results.proofs.Borders.{first_listed}
use Rattle.sl_law_meaning.proofs.methods.DivisorProofs.{in_range}
use Rattle.sl_report_results.proofs.lots.last_claim.Goals as goal

pub last_of-requires-clause-within : goal.last_of-requires-clause-within
last_of-requires-clause-within c =
    let v = c.args.weights.now in
    let found = first_listed (IsLast c.args.method v c.args.seats.now) c.args.last.now c.in_ok-entry.field-0.now c.in_ok-entry.ensures.value c.requires.won in
    in_range v c.in_ok-entry.field-0.now found.weight

pub last_of-requires-clause-won : goal.last_of-requires-clause-won
last_of-requires-clause-won c =
    first_listed (IsLast c.args.method c.args.weights.now c.args.seats.now) c.args.last.now c.in_ok-entry.field-0.now c.in_ok-entry.ensures.value c.requires.won
