-- The returns, where nothing stands against them.
use Rattle.std.proofs.Common.{◌≡◌, Option, Some, None, Result, Ok, Err, IfErr, IfSome, OnOk, ap, sym, ◌∙◌}
use Rattle.std.specs.Result.{result_and}
use Rattle.sl_law_meaning.specs.returns.Election.{Election}
use Rattle.sl_returns.specs.declared.fault.ReturnsFault.{ReturnsFault}
use Rattle.sl_returns.proofs.builder.ReturnsBuilder.finish.Goals as goal

ended : (checked : Result (Unit {0}) ReturnsFault) (e : Election) (all : Result Election ReturnsFault) → OnOk checked (all ≡ Ok e) → IfErr checked (λ f. all ≡ Err f) → result_and checked (Ok e) ≡ all
ended (Ok u) e all done refused = sym done
ended (Err f) e all done refused = sym refused

pub returns-clause-finished : goal.returns-clause-finished
returns-clause-finished c rs s =
    c.and.ensures ∙ rw c.into_returns.ensures (ended c.check-checked.result _ _ (c.check-checked.ensures.finished rs s) (c.check-checked.ensures.refused rs s))

failing : (fault : Option ReturnsFault) (checked : Result (Unit {0}) ReturnsFault) (answer : Result Election ReturnsFault) → IfSome fault (λ f. checked ≡ Err f) → IfSome fault (λ f. result_and checked answer ≡ Err f)
failing None checked answer h = tt
failing (Some f) checked answer h = ap (λ r. result_and r answer) h

pub returns-clause-failed : goal.returns-clause-failed
returns-clause-failed c = rw c.and.ensures (failing c.args.self.fault c.check-checked.result _ c.check-checked.ensures.failed)
