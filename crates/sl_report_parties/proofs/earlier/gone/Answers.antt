use Rattle.std.proofs.Common.{filter}
use Rattle.std.proofs.lemmas.Option.{slice_get-get_or}
use Rattle.sl_report_parties.specs.Earlier.{is_gone}
use Rattle.sl_report_parties.proofs.Steps.{at_end, filter_pushed}
use Rattle.sl_report_parties.proofs.earlier.gone.Goals as goal

pub loop-party-preserved : goal.loop-party-preserved
loop-party-preserved c =
    filter_pushed (is_gone c.args.returns.now) c.args.earlier.now c.loop-party.party-index _ _ _ (slice_get-get_or c.args.earlier.now c.loop-party.party-index _ c.loop-party-test.true) c.loop-party.invariant
    c.in_ok-push_gone.ensures

pub returns : goal.returns
returns c = at_end (filter (is_gone c.args.returns.now)) c.args.earlier.now c.loop-party.party-index _ c.loop-party-test.false c.loop-party.invariant
