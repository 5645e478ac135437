use Rattle.sl_count_texts.proofs.AnyOrder.{same_text}
use Rattle.sl_count_texts.proofs.laws.steps_in_any_order.Goals as goal

pub returns : goal.returns
returns c = same_text
