use Rattle.std.proofs.Common.{◌≡◌, map}
use Rattle.std.specs.List.{range_with_len}
use Rattle.sl_report_parties.specs.Parts.{part_of}
use Rattle.sl_report_parties.proofs.parts.parts_of.Given as goal

abbrev pub invariant-loop-party : goal.invariant-loop-party
invariant-loop-party l = l.parts.items ≡ map (part_of l.conditions l.returns) (range_with_len 0 l.party)
