-- The number of the digits read so far, which are all digits.
use Rattle.std.proofs.Common.{◌≡◌, true, take}
use Rattle.std.specs.Char.{is_ascii_digit}
use Rattle.std.specs.List.{list_all}
use Rattle.std.specs.Str.Parse.{digits_value}
use Rattle.sl_returns.proofs.cells.spelled_number.Given as goal

abbrev pub invariant-loop-byte : goal.invariant-loop-byte
invariant-loop-byte l = record {
  digits : list_all is_ascii_digit (take l.byte-index l.cell) ≡ true;
  number : l.number ≡ digits_value 10 (take l.byte-index l.cell);
}
