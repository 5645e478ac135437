use Rattle.std.proofs.Common.{map, take, ◌++◌, ◌≡◌}
use Rattle.sl_report_forms.specs.Tables.{contents_of}
use Rattle.sl_report_tables.specs.Compare.{change_or_fault, compared_name}
use Rattle.sl_report_tables.proofs.changes.change_row.Given as goal

abbrev pub invariant-loop-book : goal.invariant-loop-book
invariant-loop-book l =
    contents_of l.row.items
    ≡ compared_name l.party ++ map (λ x. change_or_fault l.returns l.party l.first.judged.now.counted x.judged.now) (take l.book-index l.others)
