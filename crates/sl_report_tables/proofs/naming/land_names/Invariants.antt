use Rattle.std.proofs.Common.{map, take, ◌≡◌}
use Rattle.sl_report_tables.specs.Naming.{short_name, text_of}
use Rattle.sl_report_tables.proofs.naming.land_names.Given as goal

abbrev pub invariant-loop-land : goal.invariant-loop-land
invariant-loop-land l = map short_name l.names.items ≡ map text_of (take l.land l.returns.land_names)
