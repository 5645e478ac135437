use Rattle.std.proofs.Common.{map, arith, ap, ◌∙◌}
use Rattle.std.specs.List.{zip}
use Rattle.std.proofs.lemmas.List.{take_all}
use Rattle.std.proofs.lemmas.Slice.Zip.{length-zip}
use Rattle.sl_report_results.specs.Scopes.{with_margins}
use Rattle.sl_report_parties.proofs.Steps.{zip_at, map_next}
use Rattle.sl_report_results.proofs.scopes.with_margins.Goals as goal

pub loop-number-preserved : goal.loop-number-preserved
loop-number-preserved c =
    let xs = c.args.entries.now in
    let ys = c.args.lacking.now in
    let zs = c.args.marks.now in
    let n = c.loop-number.number in
    map_next (λ z. with_margins c.args.divisor.now c.args.border.now z.0 z.1.0 z.1.1) (zip xs (zip ys zs)) n
    (c.entry_at-entry.result, (c.lack_at-missing.result, c.mark_at-lot.result)) _ _ _
    (zip_at xs (zip ys zs) n c.entry_at-entry.result (c.lack_at-missing.result, c.mark_at-lot.result) c.entry_at-entry.ensures
    (zip_at ys zs n c.lack_at-missing.result c.mark_at-lot.result c.lack_at-missing.ensures c.mark_at-lot.ensures))
    c.loop-number.invariant c.in_ok-push.ensures.items c.margin_entry.ensures

pub returns : goal.returns
returns c =
    let xs = c.args.entries.now in
    let ys = c.args.lacking.now in
    let zs = c.args.marks.now in
    c.loop-number.invariant
    ∙ ap (map (λ x. with_margins c.args.divisor.now c.args.border.now x.0 x.1.0 x.1.1))
    (take_all c.loop-number.number (zip xs (zip ys zs))
    (omega (arith, c.loop-number-test.false, c.requires.lacking, c.requires.marks, length-zip xs (zip ys zs), length-zip ys zs)))
