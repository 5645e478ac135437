use Rattle.std.proofs.Common.{arith, subst, sym, take, ◌+◌}
use Rattle.std.proofs.lemmas.List.{take_all}
use Rattle.sl_report_parties.specs.Lacking.{AreWinnersFor, ForOne, IsLeastIfAny}
use Rattle.sl_report_parties.proofs.LackingSteps.{Fits, lesser_fits, one_more}
use Rattle.sl_report_parties.proofs.lacking.winners_for_one.Goals as goal

pub loop-number-init : goal.loop-number-init
loop-number-init c = record { fits = tt; least = λ n below h. h }

pub loop-number-preserved : goal.loop-number-preserved
loop-number-preserved c =
    let so_far = c.loop-number.invariant in
    record {
      fits = subst Fits (sym c.lesser-lacking.ensures) (lesser_fits c.loop-number.lacking c.winners_for.result so_far.fits c.winners_for.ensures.fits);
      least = subst (IsLeastIfAny (ForOne (AreWinnersFor c.args.has) (take (c.loop-number.number + 1) c.args.conditions.now))) (sym c.lesser-lacking.ensures)
          (one_more (AreWinnersFor c.args.has) c.args.conditions.now c.loop-number.number _ c.loop-number.lacking c.winners_for.result c.loop-number-test.true so_far.fits c.winners_for.ensures.fits so_far.least c.winners_for.ensures.least);
    }

pub returns : goal.returns
returns c =
    subst (λ cs. IsLeastIfAny (ForOne (AreWinnersFor c.args.has) cs) c.loop-number.lacking)
    (take_all c.loop-number.number c.args.conditions.now (omega (arith, c.loop-number-test.false))) c.loop-number.invariant.least
