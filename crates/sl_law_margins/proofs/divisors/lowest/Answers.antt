use Rattle.std.proofs.Common.{◌<◌, arith}
use Rattle.sl_law_margins.proofs.Units.{lowest_is, least_small, parts_small}
use Rattle.sl_law_margins.proofs.divisors.lowest.Goals as goal

pub returns-clause-value : goal.returns-clause-value
returns-clause-value c =
    lowest_is c.args.method c.args.next c.num.result c.den.result c.root_above.result c.num.ensures.value c.den.ensures.value c.requires.finite c.root_above.ensures

pub returns-clause-most : goal.returns-clause-most
returns-clause-most c =
    let pos : 0 < c.den.result = omega (arith, c.den.ensures.value, c.requires.finite) in
    let small = parts_small c.num.result c.den.result (omega (arith, c.num.ensures.value, c.num.ensures.fits.num)) pos in
    let le = least_small c.args.method _ c.root_above.result c.root_above.ensures in
    omega (arith, le, small)
