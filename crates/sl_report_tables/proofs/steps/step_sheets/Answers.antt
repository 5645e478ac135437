use Rattle.std.proofs.Common.{ap, map, refl, ◌∙◌, ◌++◌}
use Rattle.std.proofs.lemmas.List.{map-append}
use Rattle.sl_report_forms.specs.Tables.{table_of}
use Rattle.sl_report_tables.proofs.MoreTables.{table_added}
use Rattle.sl_report_tables.proofs.steps.step_sheets.Goals as goal

pub returns : goal.returns
returns c =
    let first = table_added _ _ _ (ap (map table_of) c.new-sheets.ensures.items) c.steps_sheet.ensures c.in_ok-add_sheet.ensures in
    let both = table_added _ _ _ first c.bounds_sheet.ensures c.in_ok-add_sheet-2.ensures in
    let seats = c.in_ok-seats.seats.items in (
      c.in_ok-found.found.items,
      c.in_ok-found.ensures,
      ap (map table_of) c.in_ok-append.ensures.items ∙ map-append table_of c.add_sheet-2.new.sheets.items seats ∙ ap (λ v. v ++ map table_of seats) both
          ∙ rw (c.as_slice.ensures.value, c.in_ok-seats.ensures) refl,
    )
