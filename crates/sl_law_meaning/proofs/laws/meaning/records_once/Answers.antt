use Rattle.sl_law_meaning.proofs.meaning.RecordsOnce.{records_once}
use Rattle.sl_law_meaning.proofs.laws.meaning.records_once.Goals as goal

pub returns : goal.returns
returns c = records_once
