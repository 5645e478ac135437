use Rattle.std.proofs.Common.{◌≡◌, map, take}
use Rattle.sl_report_forms.specs.Shown.{view_in, views_of}
use Rattle.sl_report_forms.proofs.shown.shown_sheets.Given as goal

abbrev pub invariant-loop-sheet : goal.invariant-loop-sheet
invariant-loop-sheet l = map view_in l.all.items ≡ views_of l.language l.names (take l.sheet-index l.sheets)
