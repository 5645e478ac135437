use Rattle.sl_base_quotients.specs.Bounds.{IsNext}
use Rattle.sl_report_results.proofs.Borders.{first_listed}
use Rattle.sl_law_meaning.proofs.methods.DivisorProofs.{in_range}
use Rattle.sl_report_results.proofs.lots.next_claim.Goals as goal

pub next_of-requires-clause-within : goal.next_of-requires-clause-within
next_of-requires-clause-within c =
    let v = c.args.weights.now in
    let found = first_listed (IsNext c.args.method v c.args.seats.now) c.args.next.now c.in_ok-entry.field-0.now c.in_ok-entry.ensures.value c.requires.claims in
    in_range v c.in_ok-entry.field-0.now found.weight

pub next_of-requires-clause-claims : goal.next_of-requires-clause-claims
next_of-requires-clause-claims c =
    first_listed (IsNext c.args.method c.args.weights.now c.args.seats.now) c.args.next.now c.in_ok-entry.field-0.now c.in_ok-entry.ensures.value c.requires.claims
