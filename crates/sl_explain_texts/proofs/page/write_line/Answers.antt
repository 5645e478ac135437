use Rattle.std.proofs.Common.{◌≡◌, List, OnOk, subst, ℕ}
use Rattle.sl_explain_texts.proofs.Marks.{marked_line}
use Rattle.sl_explain_texts.proofs.page.write_line.Goals as goal

pub returns : goal.returns
returns c =
    subst (λ (xs : List ℕ). OnOk c.write_mark.result (c.write_mark.new.text.items ≡ xs))
    (marked_line c.args.text.now.items _ _ c.args.digits.now c.args.line.now c.window-place.result.0.now c.args.at c.window-place.result.1 c.args.bytes c.window-place.ensures.part c.window-place.ensures.place
    c.in_ok-write_part.ensures c.in_ok-write_margin.ensures) c.write_mark.ensures
