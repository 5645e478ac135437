use Rattle.std.proofs.Common.{arith, sym, ◌∙◌}
use Rattle.sl_law_meaning.specs.declared.book.Cond.TheVariants as condition
use Rattle.sl_law_meaning.specs.returns.Facts.{meets}
use Rattle.sl_report_parties.proofs.Steps.{first_is, none_is}
use Rattle.sl_report_parties.proofs.parts.first_met.Goals as goal

pub returns-then-meets : goal.returns-then-meets
returns-then-meets c =
    first_is (meets c.args.returns.now c.args.party) c.args.conditions.now c.loop-number.number _ c.loop-number-test.true
    (λ k less. c.loop-number.invariant k _ less) (sym c.meets.ensures ∙ c.if-meets.true)

pub returns : goal.returns
returns c =
    none_is (meets c.args.returns.now c.args.party) c.args.conditions.now condition.All
    (λ k less. c.loop-number.invariant k condition.All (omega (arith, less, c.loop-number-test.false)))
