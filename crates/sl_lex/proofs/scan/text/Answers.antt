use Rattle.std.proofs.Common.{arith}
use Rattle.std.proofs.lemmas.List.{take_rest}
use Rattle.sl_lex.proofs.FrontFacts.{text_front, open_text}
use Rattle.sl_lex.proofs.scan.text.Goals as goal
use Rattle.sl_lex.proofs.scan.text.Goals.{else-inner-behind-via-then-inner-behind+else-behind-inner-eq34, else-inner-behind-via-else-inner-behind}

pub returns-then-behind-inner-eq34-clause-ok : goal.returns-then-behind-inner-eq34-clause-ok
returns-then-behind-inner-eq34-clause-ok c =
    text_front _ _ _ c.requires (take_rest c.args.here.now 1) c.inner_len-inner.ensures (c.if-inner-behind.true, c.if-behind-inner-eq34.true)

pub returns-else-inner-behind-clause-err : goal.returns-else-inner-behind-clause-err
returns-else-inner-behind-clause-err c =
    open_text _ _ _ _ c.requires (take_rest c.args.here.now 1) c.inner_len-inner.ensures (λ at.
    elim c.else-inner-behind.branch [
      | else-inner-behind-via-then-inner-behind+else-behind-inner-eq34 w ↦ w.if-behind-inner-eq34.false at.1
      | else-inner-behind-via-else-inner-behind w ↦ omega (arith, at.0)
    ])
