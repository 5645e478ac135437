use Rattle.std.proofs.Common.{flat_map, ap, ◌∙◌}
use Rattle.std.specs.List.{zip}
use Rattle.sl_count_texts.specs.Lines.{with_lines}
use Rattle.sl_count_texts.specs.Short.{winner_line}
use Rattle.sl_count_texts.proofs.LineLoops.{lines_more}
use Rattle.sl_count_texts.proofs.Winners.{in_zip, pair_at, all_pairs}
use Rattle.sl_count_texts.proofs.short_form.winner_lines.Goals as goal

pub loop-win-preserved : goal.loop-win-preserved
loop-win-preserved c =
    let names = c.args.returns.now.win_names in
    let placed = c.placed-place-items.result.now in
    lines_more winner_line c.args.text.now (zip names placed) c.loop-win.win _ c.loop-win.text _
    (in_zip names placed c.loop-win.win _ c.win_name.ensures c.loop-win-test.true)
    (pair_at names placed c.loop-win.win _ _ c.win_name.ensures c.loop-win-test.true) c.loop-win.invariant c.in_ok-winner_line.ensures

pub returns : goal.returns
returns c =
    let names = c.args.returns.now.win_names in
    c.loop-win.invariant ∙ ap (λ pairs. with_lines c.args.text.now (flat_map winner_line pairs)) (all_pairs names c.placed-place-items.result.now c.loop-win.win c.loop-win-test.false ∙ ap (zip names) c.placed-place-items.ensures)
