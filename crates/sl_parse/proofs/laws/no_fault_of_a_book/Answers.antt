use Rattle.sl_parse.specs.Parsing.{limits}
use Rattle.sl_parse.proofs.OneTree.{within}
use Rattle.sl_parse.proofs.Stands.{no_fault}
use Rattle.sl_parse.proofs.laws.no_fault_of_a_book.Goals as goal

pub returns : goal.returns
returns c = λ text tokens tree cause rest is fits. no_fault text limits tokens tree cause rest is (within tree.stages fits)
