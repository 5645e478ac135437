use Rattle.std.proofs.Common.{◌≡◌, ◌++◌, map, take}
use Rattle.sl_explain_texts.specs.Pages.{lines_of}
use Rattle.sl_explain_texts.proofs.page.write_lines.Given as goal

abbrev pub invariant-loop-line : goal.invariant-loop-line
invariant-loop-line l = l.text.items ≡ l.fn.text.items ++ lines_of l.label (map (λ x. x.now) (take l.line-index l.lines))
