use Rattle.std.proofs.Common.{[], subst, sym, ◌++◌, ◌∷◌}
use Rattle.std.specs.List.{AllZip}
use Rattle.sl_report_commands.specs.Compared.{IsComparedTo}
use Rattle.sl_law_meaning.proofs.meaning.Members.{all_and_one}
use Rattle.sl_report_commands.proofs.comparison.compare_judged.Goals as goal

pub loop-compared-preserved : goal.loop-compared-preserved
loop-compared-preserved c =
    let e = c.args.returns.now in
    let yielded = c.loop-compared.yielded in
    subst (λ all. AllZip (IsComparedTo e) (yielded ++ c.in-Some.compared ∷ []) all) (sym c.in_ok-push.ensures.items)
    (all_and_one (IsComparedTo e) yielded c.loop-compared.all.items c.in-Some.compared c.in_ok-judged.field-0 c.in_ok-judged.ensures c.loop-compared.invariant)
