use Rattle.sl_law_examples.proofs.Compared.{put_in_place}
use Rattle.sl_law_examples.proofs.premises.put_in_place.Goals as goal

pub returns : goal.returns
returns c = put_in_place
