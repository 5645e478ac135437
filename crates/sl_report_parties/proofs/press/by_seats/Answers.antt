use Rattle.std.proofs.Common.{rules, subst}
use Rattle.sl_report_parties.specs.Press.{AreByGreatest}
use Rattle.sl_report_parties.proofs.PressSteps.{greatest_first}
use Rattle.sl_report_parties.proofs.press.by_seats.Goals as goal

pub returns : goal.returns
returns c =
    subst (λ xs. AreByGreatest (λ p. p.seats.seats) xs c.sort_by.new.self.items) c.in_ok-found.ensures
    (greatest_first (λ p. p.seats.seats) c.in_ok-found.found.items c.sort_by.new.self.items c.in_ok-sort_by.ensures.permutation
    c.in_ok-sort_by.ensures.sorted c.in_ok-sort_by.ensures.stable (λ f a r g h. search rules))
