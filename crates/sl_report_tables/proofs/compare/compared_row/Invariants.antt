use Rattle.std.proofs.Common.{map, take, ◌++◌, ◌≡◌}
use Rattle.sl_report_forms.specs.Tables.{contents_of}
use Rattle.sl_report_tables.specs.Compare.{compared_cell, compared_name}
use Rattle.sl_report_tables.proofs.compare.compared_row.Given as goal

abbrev pub invariant-loop-book : goal.invariant-loop-book
invariant-loop-book l = contents_of l.row.items ≡ compared_name l.party ++ map (λ x. compared_cell l.returns l.party x.judged.now) (take l.book-index l.books)
