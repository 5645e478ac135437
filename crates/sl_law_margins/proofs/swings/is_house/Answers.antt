use Rattle.std.proofs.Common.{◌≡◌, ◌+◌, get_or, sum, arith, ap}
use Rattle.std.specs.Prelude.{take}
use Rattle.std.proofs.lemmas.List.{take_all}
use Rattle.std.proofs.lemmas.List.Sums.{sum_by_more}
use Rattle.sl_law_margins.proofs.swings.is_house.Goals as goal

pub loop-held-init : goal.loop-held-init
loop-held-init c = omega arith

pub loop-held-preserved : goal.loop-held-preserved
loop-held-preserved c =
    let is = c.loop-held.invariant in
    let up : sum (take (c.loop-held.held-index + 1) c.args.seats.now) ≡ sum (take c.loop-held.held-index c.args.seats.now) + get_or c.args.seats.now c.loop-held.held-index 0 =
    sum_by_more (λ n. n) c.args.seats.now c.loop-held.held-index 0 c.loop-held-test.true in
    omega (arith, is, up)

pub returns : goal.returns
returns c = λ e.
    let is = c.loop-held.invariant in
    let all = ap sum (take_all c.loop-held.held-index c.args.seats.now c.loop-held-test.false) in
    omega (arith, is, all)
