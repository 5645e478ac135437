use Rattle.std.proofs.Common.{take}
use Rattle.sl_report_tables.specs.inner.Seated.{AreSeated}
use Rattle.sl_report_tables.proofs.seated.seated_books.Given as goal

abbrev pub invariant-loop-judged : goal.invariant-loop-judged
invariant-loop-judged l = AreSeated l.returns (take l.judged-index l.books) l.all.items
