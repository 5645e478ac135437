use Rattle.std.proofs.Common.{ap, arith, length, subst, ◌++◌, ◌≡◌, ◌∙◌}
use Rattle.std.specs.List.{flat_map, range_with_len}
use Rattle.sl_report_parties.proofs.Steps.{pieces_more}
use Rattle.sl_report_warnings.specs.Heads.{line_at}
use Rattle.sl_report_warnings.proofs.sentences.written.Goals as goal

pub loop-number-preserved : goal.loop-number-preserved
loop-number-preserved c =
    pieces_more (line_at c.args.language c.args.returns.now c.args.warnings.now) c.loop-number.number _ _ c.loop-number.invariant
    (c.in_ok-extend_from_slice.ensures.items ∙ ap (λ t. c.loop-number.text.items ++ t) (c.as_slice.ensures.value ∙ c.in_ok-line.ensures))

pub returns : goal.returns
returns c =
    let past : c.loop-number.number ≡ length c.args.warnings.now = omega (arith, c.loop-number-test.false, c.loop-number.auto.number-end) in
    subst (λ n. c.loop-number.text.items ≡ flat_map (line_at c.args.language c.args.returns.now c.args.warnings.now) (range_with_len 0 n)) past c.loop-number.invariant
