use Rattle.std.proofs.Common.{◌≡◌, ◌≤◌, take}
use Rattle.sl_base_quotients.specs.declared.limits.TheConstants.{MAX_NUMBER}
use Rattle.sl_lex.specs.Tokens.{number_of}
use Rattle.sl_lex.proofs.scan.number_of.Given as goal

abbrev pub invariant-loop-digit : goal.invariant-loop-digit
invariant-loop-digit l = record {
  so_far : l.number ≡ number_of (take l.digit-index l.digits);
  fits : l.number ≤ MAX_NUMBER;
}
