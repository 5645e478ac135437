-- The records read so far are taken, or kept as refused.
use Rattle.std.proofs.Common.{Some}
use Rattle.csv.specs.Reading.{strip_bom}
use Rattle.sl_returns.proofs.Sifting.{IsSifting}
use Rattle.sl_returns.proofs.sieve.sift_all.Given as goal

abbrev pub invariant-loop : goal.invariant-loop
invariant-loop l = IsSifting (λ s. Some s.now) l.reader l.builder l.refusals (strip_bom l.fn.bytes)
