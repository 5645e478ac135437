use Rattle.std.proofs.Common.{arith}
use Rattle.std.proofs.lemmas.Option.{slice_get-get_or}
use Rattle.sl_report_parties.proofs.Steps.{count_next, one_if_le}
use Rattle.sl_report_warnings.specs.Heads.{are_of_kind}
use Rattle.sl_report_warnings.proofs.sentences.of_kind.Goals as goal

pub loop-other-preserved : goal.loop-other-preserved
loop-other-preserved c =
    let all = c.args.warnings.now in
    let more = count_next (are_of_kind c.args.warning) all c.loop-other.other-index _ c.are_of_kind.result (slice_get-get_or all c.loop-other.other-index _ c.loop-other-test.true) c.are_of_kind.ensures in
    record {
      found = omega (arith, more, c.loop-other.invariant.found, c.one_if-found.ensures);
      few = omega (arith, one_if_le c.are_of_kind.result, c.loop-other.invariant.few, c.one_if-found.ensures);
    }
