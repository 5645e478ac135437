use Rattle.std.proofs.Common.{[], subst, sym, take, ◌+◌, ◌++◌, ◌∷◌}
use Rattle.std.proofs.lemmas.List.{take_more}
use Rattle.std.specs.List.{AllZip}
use Rattle.sl_law_meaning.proofs.meaning.Members.{all_and_one}
use Rattle.sl_terminal_commands.proofs.varied.each_varied.Goals as goal
use Rattle.sl_terminal_commands.specs.inner.Comparing.{IsVaried}

pub loop-method-preserved : goal.loop-method-preserved
loop-method-preserved c =
    let IsIt = IsVaried c.args.named.now c.args.book.now in
    let methods = c.args.methods.now in
    let i = c.loop-method.method-index in
    let found = c.loop-method.found.items in
    let new = c.in_ok-varied.field-0 in
    subst (λ all. AllZip IsIt (take (i + 1) methods) all) (sym c.in_ok-push.ensures.items)
    (
    subst (λ ms. AllZip IsIt ms (found ++ new ∷ [])) (sym (take_more methods i _ c.loop-method-test.true))
    (all_and_one IsIt (take i methods) found _ new c.in_ok-varied.ensures c.loop-method.invariant)
    )
