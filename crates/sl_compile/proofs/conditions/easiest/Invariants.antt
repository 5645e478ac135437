-- The few say what the conditions so far say, and their winners fit four bytes.
use Rattle.sl_compile.specs.inner.Weakest.{IsSmallIn}
use Rattle.sl_compile.proofs.Easier.{SaysFirst}
use Rattle.sl_compile.proofs.conditions.easiest.Given as goal

abbrev pub invariant-loop-condition : goal.invariant-loop-condition
invariant-loop-condition l = record { said : SaysFirst l.conditions l.condition-index l.few; small : IsSmallIn l.few.winners }
