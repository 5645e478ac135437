use Rattle.std.proofs.Common.{◌<◌, [], get_or, sym, ap, ◌∙◌, arith}
use Rattle.std.proofs.lemmas.Option.{get_or_from_slice_get}
use Rattle.sl_law_meaning.specs.returns.Election.{lands_of}
use Rattle.sl_count_texts.specs.Lines.{with_lines}
use Rattle.sl_table.specs.Stages.{entry_line, land_entry}
use Rattle.sl_table.proofs.EntryLines.{numbers_more, numbers_all}
use Rattle.sl_table.proofs.stage_form.land_lines.Goals as goal

pub loop-land-preserved : goal.loop-land-preserved
loop-land-preserved c =
    let e = c.args.returns.now in
    let column = c.args.column.now in
    let land = c.loop-land.land in
    let within : land < lands_of e = omega (arith, c.requires.cells) in
    numbers_more (land_entry e column) c.args.text.now (lands_of e) land c.loop-land.text _ within c.loop-land.invariant
    (c.in_ok-entry_line.ensures
    ∙ ap (λ name. with_lines c.loop-land.text (entry_line name (get_or column land 0))) (sym (get_or_from_slice_get e.land_names land c.land_name.result.now [] c.land_name.ensures)))

pub returns : goal.returns
returns c =
    let e = c.args.returns.now in
    numbers_all (land_entry e c.args.column.now) c.args.text.now (lands_of e) c.loop-land.land _ (omega (arith, c.requires.cells)) c.loop-land.invariant
