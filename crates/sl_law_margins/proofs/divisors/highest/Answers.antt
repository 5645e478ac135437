use Rattle.std.proofs.Common.{◌<◌, Option, Some, sym, subst, arith}
use Rattle.sl_base_quotients.specs.Quotient.{Quotient}
use Rattle.sl_law_margins.specs.inner.Units.{IsHighest}
use Rattle.sl_law_margins.proofs.Overtaking.{finite_by}
use Rattle.sl_law_margins.proofs.Units.{highest_is, parts_below_small}
use Rattle.sl_law_margins.proofs.divisors.highest.Goals as goal

pub returns : goal.returns
returns c =
    let finite : 0 < c.in_ok-last.last.den = finite_by c.is_infinite.result c.in_ok-last.last.den c.if-is_infinite.false c.is_infinite.ensures in
    let some : 0 < c.in_ok-last.last.num = omega (arith, c.num.ensures.fits.positive) in
    let pos : 0 < c.den.result = omega (arith, finite, c.den.ensures.value) in
    let small = parts_below_small c.num.result c.den.result (omega (arith, c.num.ensures.value, c.num.ensures.fits.num)) pos in
    record {
      value = subst (λ (o : Option Quotient). IsHighest c.args.method o (Some c.root_within.result)) (sym c.in_ok-last.was)
          (finite, highest_is c.args.method c.in_ok-last.last c.num.result c.den.result c.root_within.result c.num.ensures.value c.den.ensures.value some finite c.root_within.ensures.value);
      most = omega (arith, small, c.root_within.ensures.most);
    }
