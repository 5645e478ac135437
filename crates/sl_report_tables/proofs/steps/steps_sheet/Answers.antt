use Rattle.std.proofs.Common.{Bor, Some, ap, map, sym, ◌∙◌, []}
use Rattle.std.proofs.lemmas.Option.{slice_get-get_or}
use Rattle.std.proofs.lemmas.Simd.{map-map}
use Rattle.sl_law_meaning.specs.declared.table.SeatStep.{SeatStep}
use Rattle.sl_report_parties.proofs.Steps.{at_end}
use Rattle.sl_report_tables.specs.Steps.{step_row, steps_table}
use Rattle.sl_report_tables.proofs.MoreRows.{rows_next}
use Rattle.sl_report_tables.proofs.steps.steps_sheet.Goals as goal

pub loop-step-preserved : goal.loop-step-preserved
loop-step-preserved c =
    let items = c.as_slice-step-items.result.now in
    let i = c.loop-step.step-index in
    rows_next (λ s. step_row s.now) items i c.step-item.result (record (steps_table c.args.table.now) { rows = [] }) _ _
    (slice_get-get_or items i c.step-item.result c.loop-step-test.true ∙ ap Some (sym c.step-item.is)) c.loop-step.invariant
    (rw c.in_ok-step_row.ensures at c.in_ok-push.ensures)

pub returns : goal.returns
returns c =
    let rows = map (λ (s : Bor SeatStep). step_row s.now) in
    let t = steps_table c.args.table.now in
    at_end (λ xs. record t { rows = rows xs }) c.as_slice-step-items.result.now c.loop-step.step-index _ c.loop-step-test.false c.loop-step.invariant
    ∙ ap (λ rs. record t { rows = rs })
    (ap rows c.as_slice-step-items.ensures.value ∙ sym (map-map step_row (λ (s : Bor SeatStep). s.now) c.in_ok-steps.steps.items) ∙ ap (map step_row) c.in_ok-steps.ensures)
