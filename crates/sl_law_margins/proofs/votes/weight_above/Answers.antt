use Rattle.std.proofs.Common.{◌<◌, ap, arith}
use Rattle.sl_base_quotients.specs.Quotient.{Quotient, quotient}
use Rattle.sl_law_margins.specs.inner.Needed.{IsLeast, IsAbove}
use Rattle.sl_law_margins.proofs.Overtaking.{found_above, above_fits, finite_by}
use Rattle.sl_law_margins.proofs.votes.weight_above.Goals as goal
use Rattle.sl_law_margins.proofs.votes.weight_above.Goals.{After-root_above}

finite : (c : After-root_above) → 0 < c.ratio-claim.result.den
finite c = finite_by c.is_infinite.result c.ratio-claim.result.den c.if-is_infinite.false c.is_infinite.ensures

least : (c : After-root_above) → IsLeast (IsAbove c.args.method c.args.held (quotient c.args.method c.args.weight c.args.won)) c.root_above.result
least c =
    found_above c.args.method c.args.weight c.args.won c.args.held c.root_above.result c.ratio-claim.result c.ratio-unit.result
    c.num.result c.den.result c.den-2.result c.num-2.result c.ratio-claim.ensures c.ratio-unit.ensures c.num.ensures.value c.den.ensures.value
    c.den-2.ensures.value c.num-2.ensures.value (finite c) c.root_above.ensures

pub overflow_cast-result : goal.overflow_cast-result
overflow_cast-result c =
    let pos = finite c in
    let same = ap (λ (q : Quotient). q.den) c.ratio-claim.ensures in
    let fits = above_fits c.args.method c.args.weight c.args.won c.args.held c.root_above.result c.requires.weight c.requires.held
    (omega (arith, pos, same)) (least c) in
    omega (arith, fits)

pub returns : goal.returns
returns c = least c
