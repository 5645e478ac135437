-- What a run answers fits the code and the returns (docs/machine.md, section 6).
use Rattle.std.specs.Prelude.{length}
use Rattle.sl_law_meaning.specs.returns.Election.{Election}
use Rattle.sl_code_instructions.specs.Codes.{CountingCode}
use Rattle.sl_code_semantics.specs.Fits.{FitsMemory, FitsFault}
use Rattle.sl_machine.specs.declared.machine.Ending.{Ending as Answer}
use Rattle.sl_machine.specs.declared.machine.Ending.TheVariants as answer

abbrev pub Fits : CountingCode → Election → Answer → Type 0
Fits c e (answer.Done memory) = FitsMemory c e memory
Fits c e (answer.Fault f) = FitsFault (length c.stages) e f
Fits c e answer.OutOfBudget = Unit {0}
