use Rattle.std.proofs.Common.{map, take, ◌≡◌}
use Rattle.sl_report_tables.specs.Naming.{short_name, text_of}
use Rattle.sl_report_tables.proofs.naming.party_names.Given as goal

abbrev pub invariant-loop-party : goal.invariant-loop-party
invariant-loop-party l = map short_name l.names.items ≡ map text_of (take l.party l.returns.party_names)
