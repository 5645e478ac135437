use Rattle.std.proofs.Common.{None, Some, ap, arith, if◌then◌else◌, is_le, ◌∙◌}
use Rattle.sl_ratio.proofs.Searches.{pair_if, sum_none}
use Rattle.sl_ratio.proofs.bound.bounds.Goals as goal
use Rattle.sl_base_quotients.specs.Quotient.{Quotient}

pub returns-in_err-last : goal.returns-in_err-last
returns-in_err-last c =
    let none = rw c.in_err-last.was at c.last_bound.ensures in
    absurd (omega (arith, sum_none c.args.seats.now none, c.requires.awarded))

pub returns : goal.returns
returns c =
    let last = c.in_ok-last.last in
    let next = c.in_ok-next.next in
    let pair : Quotient × Quotient = (last, next) in
    let is = c.is_le.ensures ∙ ap is_le c.cmp.ensures in
    (last, next, c.in_ok-last.ensures, c.in_ok-next.ensures, c.then_some.ensures ∙ pair_if c.is_le.result pair ∙ ap (λ b. if b then Some pair else None) is)
