use Rattle.std.proofs.Common.{◌≡◌, ◌++◌, codes, take}
use Rattle.sl_explain_texts.specs.Pages.{lines_of, texts_in}
use Rattle.sl_explain_texts.proofs.page.write_texts.Given as goal

abbrev pub invariant-loop-line : goal.invariant-loop-line
invariant-loop-line l = l.text.items ≡ l.fn.text.items ++ lines_of (codes "") (texts_in (take l.line-index l.lines))
