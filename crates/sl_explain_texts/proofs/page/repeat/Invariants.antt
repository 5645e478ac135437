use Rattle.std.proofs.Common.{◌≡◌, ◌++◌, replicate}
use Rattle.sl_explain_texts.proofs.page.repeat.Given as goal

abbrev pub invariant-loop : goal.invariant-loop
invariant-loop l = l.text.items ≡ l.fn.text.items ++ replicate l.counter l.byte
