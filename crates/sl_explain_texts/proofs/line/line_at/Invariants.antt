use Rattle.std.proofs.Common.{◌≡◌, ◌+◌, ◌≤◌, None, count_by, suc, unwrap_or}
use Rattle.std.specs.List.{filter, last_or, range_with_len}
use Rattle.std.specs.Option.{option_map}
use Rattle.sl_explain_texts.specs.Lines.{ends_line}
use Rattle.sl_explain_texts.proofs.line.line_at.Given as goal

abbrev pub invariant-loop-place : goal.invariant-loop-place
invariant-loop-place l = record {
  number : l.number ≡ 1 + count_by (ends_line l.text) (range_with_len 0 l.place);
  few : l.number ≤ 1 + l.place;
  start : l.start ≡ unwrap_or (option_map suc (last_or None (filter (ends_line l.text) (range_with_len 0 l.place)))) 0;
}
