use Rattle.std.proofs.Common.{map, take, ◌≡◌}
use Rattle.sl_report_tables.specs.Naming.{short_name, text_of}
use Rattle.sl_report_tables.proofs.naming.winner_names.Given as goal

abbrev pub invariant-loop-win : goal.invariant-loop-win
invariant-loop-win l = map short_name l.names.items ≡ map text_of (take l.win l.returns.win_names)
