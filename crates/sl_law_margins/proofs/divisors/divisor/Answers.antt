use Rattle.std.proofs.Common.{ℕ, sym, subst, arith}
use Rattle.sl_base_quotients.specs.Quotient.{SameQuotient}
use Rattle.sl_law_meaning.proofs.methods.DivisorProofs.{empty_fields}
use Rattle.sl_law_margins.specs.Decimals.{value_of}
use Rattle.sl_law_margins.specs.Divisors.{IsShortDivisor}
use Rattle.sl_law_margins.specs.inner.Units.{units}
use Rattle.sl_law_margins.proofs.Dividing.{none_above, divided_some, divided_none}
use Rattle.sl_law_margins.proofs.divisors.divisor.Goals as goal

pub returns : goal.returns
returns c =
    let m = c.args.method in
    let same : SameQuotient (value_of c.shortened.result) (units m c.in_ok-units.units) =
    subst (λ (p : ℕ). SameQuotient (value_of c.shortened.result) (value_of (record { digits = c.in_ok-units.units; places = p }))) c.places.ensures.value c.shortened.ensures in
    divided_some m c.args.weights.now c.args.seats.now c.in_ok-next.next c.in_ok-next.ensures c.least_last-last.result c.least_last-last.ensures
    c.lowest-low.result c.lowest-low.ensures.value c.highest.result c.highest.ensures.value c.in_ok-units.units c.shortened.result c.in_ok-units.ensures same

pub returns-in_err-units : goal.returns-in_err-units
returns-in_err-units c =
    subst (IsShortDivisor c.args.method c.args.weights.now c.args.seats.now) (sym c.from_residual-in_err-units.ensures)
    (divided_none c.args.method c.args.weights.now c.args.seats.now c.in_ok-next.next c.in_ok-next.ensures c.least_last-last.result c.least_last-last.ensures
    c.lowest-low.result c.lowest-low.ensures.value c.highest.result c.highest.ensures.value c.in_err-units.ensures)

pub returns-then-is_infinite : goal.returns-then-is_infinite
returns-then-is_infinite c =
    none_above c.args.method c.args.weights.now c.args.seats.now c.in_ok-next.next c.in_ok-next.ensures (c.is_infinite.ensures.0 c.if-is_infinite.true)

pub returns-in_err-next : goal.returns-in_err-next
returns-in_err-next c =
    let none = (empty_fields c.args.weights.now).0 c.in_err-next.ensures in
    absurd (omega (arith, none, c.requires.field))
