use Rattle.std.proofs.Common.{map, string_bytes, take, ◌≡◌}
use Rattle.sl_report_tables.specs.Naming.{stage_name}
use Rattle.sl_report_tables.proofs.naming.names_in.Given as goal

abbrev pub invariant-loop-stage : goal.invariant-loop-stage
invariant-loop-stage l = map string_bytes l.names.items ≡ map stage_name (take l.stage-index l.stages)
