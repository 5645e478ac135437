-- the sum of the seats so far
use Rattle.std.proofs.Common.{◌≡◌, sum}
use Rattle.std.specs.Prelude.{take}
use Rattle.sl_law_margins.proofs.swings.seats_of_others.Given as goal

abbrev pub invariant-loop-held : goal.invariant-loop-held
invariant-loop-held l = l.all ≡ sum (take l.held-index l.seats)
