use Rattle.std.proofs.Common.{◌++◌, ◌≡◌}
use Rattle.std.specs.List.{flat_map, range_with_len}
use Rattle.sl_law_meaning.specs.book.Books.{book_of}
use Rattle.sl_report_warnings.specs.Warnings.{of_numbered}
use Rattle.sl_report_warnings.proofs.lots.warn_of_lots.Given as goal

abbrev pub invariant-loop-number : goal.invariant-loop-number
invariant-loop-number l = l.found.items ≡ l.initial.found.items ++ flat_map (of_numbered (book_of l.book) l.returns) (range_with_len 0 l.number)
