use Rattle.std.proofs.Common.{◌<◌, arith}
use Rattle.sl_law_meaning.specs.returns.Election.{lands_of}
use Rattle.sl_table.specs.Stages.{land_lists}
use Rattle.sl_table.proofs.EntryLines.{numbers_more, numbers_all}
use Rattle.sl_table.proofs.stage_form.list_lines.Goals as goal

pub loop-land-preserved : goal.loop-land-preserved
loop-land-preserved c =
    let e = c.args.returns.now in
    let land = c.loop-land.land in
    let within : land < lands_of e = omega (arith, c.lands-land-end.ensures.number) in
    numbers_more (land_lists e c.args.column.now) c.args.text.now (lands_of e) land c.loop-land.text _ within c.loop-land.invariant c.in_ok-land_lists.ensures

pub returns : goal.returns
returns c =
    let e = c.args.returns.now in
    numbers_all (land_lists e c.args.column.now) c.args.text.now (lands_of e) c.loop-land.land _ (omega (arith, c.lands-land-end.ensures.number)) c.loop-land.invariant
