use Rattle.std.proofs.Common.{arith}
use Rattle.sl_law_margins.proofs.Shortest.{ten_pos}
use Rattle.sl_law_margins.proofs.Digits.{ten_le}
use Rattle.sl_law_margins.proofs.decimal.power_of_ten.Goals as goal

pub returns-clause-positive : goal.returns-clause-positive
returns-clause-positive c = let pos = ten_pos c.args.places in omega (arith, pos, c.pow.ensures)

pub returns-clause-most : goal.returns-clause-most
returns-clause-most c = let le = ten_le c.args.places c.requires in omega (arith, le, c.pow.ensures)
