-- The shares of the greatest number of stages fit.
use Rattle.std.proofs.Common.{rules, ◌+◌, ◌*◌, ◌^◌, ◌<◌, ◌≤◌, arith}
use Rattle.std.proofs.lemmas.Nat.{mul-le}
use Rattle.sl_base_terms.specs.declared.limits.TheConstants.{MAX_STAGES}
use Rattle.sl_machine.proofs.machine.budget.Goals as goal

pub overflow_mul-result : goal.overflow_mul-result
overflow_mul-result c =
    let stages : c.args.stages + 2 ≤ MAX_STAGES + 2 = omega (arith, c.requires) in
    let all = mul-le (c.args.stages + 2) c.share.result (MAX_STAGES + 2) _ stages c.share.ensures.most in
    let fits : (c.args.stages + 2) * c.share.result < 2 ^ 64 = omega (arith, all) in
    search rules
