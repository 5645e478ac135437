use Rattle.sl_law_certificate_examples.proofs.Small.{order_differs}
use Rattle.sl_law_certificate_examples.proofs.laws.order_differs.Goals as goal

pub returns : goal.returns
returns c = order_differs
