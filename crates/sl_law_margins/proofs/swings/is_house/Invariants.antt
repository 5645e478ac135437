-- what the seats so far leave of the limit
use Rattle.std.proofs.Common.{◌≡◌, ◌+◌, sum}
use Rattle.std.specs.Prelude.{take}
use Rattle.sl_base_quotients.specs.declared.limits.TheConstants.{MAX_SEATS}
use Rattle.sl_law_margins.proofs.swings.is_house.Given as goal

abbrev pub invariant-loop-held : goal.invariant-loop-held
invariant-loop-held l = l.left + sum (take l.held-index l.seats) ≡ MAX_SEATS
