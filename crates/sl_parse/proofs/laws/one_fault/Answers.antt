use Rattle.sl_parse.specs.Parsing.{limits}
use Rattle.sl_parse.proofs.Stands.{one_fault}
use Rattle.sl_parse.proofs.laws.one_fault.Goals as goal

pub returns : goal.returns
returns c = λ text. one_fault text limits
