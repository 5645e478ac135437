use Rattle.std.proofs.Common.{map, string_bytes, take, ◌≡◌}
use Rattle.sl_report_forms.specs.Tables.{table_of, with_heads, under}
use Rattle.sl_report_tables.proofs.compare.push_heads.Given as goal

abbrev pub invariant-loop-judged : goal.invariant-loop-judged
invariant-loop-judged l = table_of l.sheet ≡ with_heads (table_of l.initial.sheet) (map (λ j. under (string_bytes j.word)) (take l.judged-index l.books))
