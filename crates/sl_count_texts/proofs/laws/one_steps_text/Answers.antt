use Rattle.sl_count_texts.proofs.AnyOrder.{one_steps_text}
use Rattle.sl_count_texts.proofs.laws.one_steps_text.Goals as goal

pub returns : goal.returns
returns c = one_steps_text
