use Rattle.std.proofs.Common.{inl, inr, refl}
use Rattle.std.proofs.lemmas.Result.{IfOk-weaker}
use Rattle.sl_terminal_commands.proofs.Columns.{contains_first}
use Rattle.sl_terminal_commands.proofs.comparing.refuse_comparison.Goals as goal

pub returns : goal.returns
returns g c =
    IfOk-weaker c.refuse_book.result _ _
    (λ a told. inl (c.in-Some.book.now, c.in-Refused.refused, contains_first c.args.books.now c.in-Some.book.now c.in-Some.ensures.value, c.in-Refused.is, told)) c.refuse_book.ensures

pub returns-2 : goal.returns-2
returns-2 g c = IfOk-weaker c.refuse_returns.result _ _ (λ a told. inr (c.args.refused.now, refl, told)) c.refuse_returns.ensures
