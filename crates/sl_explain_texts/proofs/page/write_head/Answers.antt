use Rattle.std.proofs.Common.{◌≡◌, ◌∙◌, ◌++◌, List, OnOk, subst, ℕ}
use Rattle.std.specs.Fmt.{decimal}
use Rattle.sl_explain_texts.proofs.Marks.{headed}
use Rattle.sl_explain_texts.proofs.page.write_head.Goals as goal

pub returns : goal.returns
returns c =
    subst (λ (xs : List ℕ). OnOk c.write_margin.result (c.write_margin.new.text.items ≡ c.args.text.now.items ++ xs))
    (headed c.args.path.now c.args.digits.now c.as_bytes.result.now (decimal c.args.column) (c.as_bytes.ensures.value ∙ c.in_ok-column.ensures.ok)) c.write_margin.ensures
