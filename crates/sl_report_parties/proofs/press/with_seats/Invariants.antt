use Rattle.std.proofs.Common.{◌≡◌, filter, map, option_map}
use Rattle.std.specs.List.{range_with_len}
use Rattle.sl_report_parties.specs.Press.{is_pressed, pressed_of}
use Rattle.sl_report_parties.proofs.press.with_seats.Given as goal

abbrev pub invariant-loop-party : goal.invariant-loop-party
invariant-loop-party l =
    l.found.items
    ≡ filter is_pressed (map (pressed_of l.setting.book.now.eligible.items l.table l.setting.returns.now (option_map (λ all. all.now) l.earlier)) (range_with_len 0 l.party))
