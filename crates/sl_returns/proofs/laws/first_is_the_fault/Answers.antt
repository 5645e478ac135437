-- The first of all records that are refused is the fault of the returns.
use Rattle.sl_returns.proofs.Refusals.{first_of}
use Rattle.sl_returns.proofs.laws.first_is_the_fault.Goals as goal

pub returns : goal.returns
returns c = first_of
