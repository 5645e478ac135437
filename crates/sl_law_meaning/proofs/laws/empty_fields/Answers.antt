use Rattle.sl_law_meaning.proofs.methods.DivisorProofs.{empty_fields}
use Rattle.sl_law_meaning.proofs.laws.empty_fields.Goals as goal

pub returns : goal.returns
returns c = empty_fields
