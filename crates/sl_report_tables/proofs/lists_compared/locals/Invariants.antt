use Rattle.std.proofs.Common.{map, take, ◌≡◌}
use Rattle.sl_report_tables.specs.inner.Seen.{seen, with_land}
use Rattle.sl_report_tables.proofs.lists_compared.locals.Given as goal

abbrev pub invariant-loop-judged : goal.invariant-loop-judged
invariant-loop-judged l = map seen l.all.items ≡ map (with_land l.land) (take l.judged-index l.books)
