use Rattle.std.specs.List.{AllZip}
use Rattle.sl_report_commands.specs.Compared.{IsComparedTo}
use Rattle.sl_report_commands.proofs.comparison.compare_judged.Given as goal

abbrev pub invariant-loop-compared : goal.invariant-loop-compared
invariant-loop-compared l = AllZip (IsComparedTo l.returns) l.yielded l.all.items
