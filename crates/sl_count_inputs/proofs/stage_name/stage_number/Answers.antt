use Rattle.std.proofs.Common.{◌∙◌}
use Rattle.sl_count_inputs.proofs.StageNames.{number_among}
use Rattle.sl_count_inputs.proofs.stage_name.stage_number.Goals as goal

pub returns : goal.returns
returns c = (rw c.deref.ensures.value at c.number_among.ensures) ∙ number_among c.args.name.now c.args.book.now.stages.items
