use Rattle.sl_code.proofs.Pieces.{list_stops}
use Rattle.sl_code.proofs.reader.Reader.stages.Goals as goal

pub returns-clause-err : goal.returns-clause-err
returns-clause-err c = list_stops _ _ _ _ _ _ c.stage_list.result _ _ _ c.in_ok-count.ensures.ok.0 c.in_ok-count.ensures.ok.1 c.stage_list.ensures.err
