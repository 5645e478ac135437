use Rattle.std.proofs.Common.{Some, ap, map, string_bytes, sym, ◌∙◌}
use Rattle.std.proofs.lemmas.Option.{slice_get-get_or}
use Rattle.sl_report_parties.proofs.Steps.{at_end}
use Rattle.sl_report_tables.specs.Naming.{stage_name, text_of}
use Rattle.sl_report_tables.proofs.MoreNames.{names_next}
use Rattle.sl_report_tables.proofs.naming.names_in.Goals as goal

pub loop-stage-preserved : goal.loop-stage-preserved
loop-stage-preserved c =
    let stages = c.args.stages.now in
    let here = slice_get-get_or stages c.loop-stage.stage-index c.stage-item.result c.loop-stage-test.true ∙ ap Some (sym c.stage-item.is) in
    names_next string_bytes stage_name stages c.loop-stage.stage-index c.stage-item.result _ _ c.in_ok-owned.field-0
    here c.loop-stage.invariant c.in_ok-push.ensures.items (c.in_ok-owned.ensures ∙ c.text_of.ensures ∙ ap text_of c.as_bytes.ensures.bytes)

pub returns : goal.returns
returns c = at_end (map stage_name) c.args.stages.now c.loop-stage.stage-index _ c.loop-stage-test.false c.loop-stage.invariant
