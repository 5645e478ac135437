use Rattle.std.proofs.Common.{ap, is_some, ◌∙◌}
use Rattle.sl_report_parties.proofs.Taking.{part_met}
use Rattle.sl_report_parties.proofs.facts.Setting.takes_part.Goals as goal

pub returns : goal.returns
returns c =
    let s = c.args.self.now in
    c.is_some.ensures ∙ ap (λ p. is_some p.met) c.part.ensures ∙ part_met s.book.now.eligible.items s.returns.now c.args.party
