use Rattle.std.proofs.Common.{◌<◌, ◌≤◌, length, arith}
use Rattle.sl_check.proofs.Finding.{first_columns}
use Rattle.sl_check.proofs.columns.Columns.of.Goals as goal

pub returns : goal.returns
returns c =
    let few : c.min-count.result < length c.args.stages.now → length c.args.types.now ≤ c.min-count.result = λ lt. omega (arith, lt, c.min-count.ensures) in
    first_columns c.min-count.result c.args.stages.now c.args.types.now few
