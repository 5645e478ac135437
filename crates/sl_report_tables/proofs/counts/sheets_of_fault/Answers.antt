use Rattle.std.proofs.Common.{ap, map, ◌∙◌, ◌++◌}
use Rattle.std.proofs.lemmas.List.{map-append}
use Rattle.sl_report_forms.specs.Tables.{table_of}
use Rattle.sl_report_tables.proofs.counts.sheets_of_fault.Goals as goal

pub returns : goal.returns
returns c =
    let told = c.in_ok-sheets.sheets.items in (
      map table_of told,
      c.in_ok-sheets.ensures,
      ap (map table_of) c.in_ok-append.ensures.items ∙ map-append table_of told c.in_ok-first.first.items ∙ ap (λ v. map table_of told ++ v) c.in_ok-first.ensures,
    )
