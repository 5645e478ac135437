use Rattle.sl_law_examples.proofs.Compared.{other_field}
use Rattle.sl_law_examples.proofs.premises.other_field.Goals as goal

pub returns : goal.returns
returns c = other_field
