use Rattle.std.proofs.Common.{◌≡◌, filter, map}
use Rattle.std.specs.List.{range_with_len}
use Rattle.sl_report_parties.specs.Press.{is_left_out, standing_of}
use Rattle.sl_report_parties.proofs.press.without_condition.Given as goal

abbrev pub invariant-loop-party : goal.invariant-loop-party
invariant-loop-party l = l.found.items ≡ filter is_left_out (map (standing_of l.setting.book.now.eligible.items l.setting.returns.now) (range_with_len 0 l.party))
