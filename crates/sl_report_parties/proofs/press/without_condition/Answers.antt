use Rattle.std.proofs.Common.{rules, filter, map, arith}
use Rattle.sl_report_parties.specs.Press.{is_left_out, standing_of}
use Rattle.sl_report_parties.proofs.PressSteps.{kept_number}
use Rattle.sl_report_parties.proofs.Steps.{at_last}
use Rattle.sl_report_parties.proofs.press.without_condition.Goals as goal

pub loop-party-preserved : goal.loop-party-preserved
loop-party-preserved c =
    kept_number (standing_of c.args.setting.now.book.now.eligible.items c.args.setting.now.returns.now) is_left_out c.loop-party.party _ _ _ c.loop-party.invariant
    c.in_ok-push_left_out.ensures (search rules)

pub returns : goal.returns
returns c = at_last (λ parties. filter is_left_out (map (standing_of c.args.setting.now.book.now.eligible.items c.args.setting.now.returns.now) parties)) c.loop-party.party _ _ (omega (arith, c.parties-party-end.ensures.number)) c.loop-party.invariant
