use Rattle.sl_law_statutes.proofs.Statutes.{last_clauses}
use Rattle.sl_law_statutes.proofs.laws.last_clauses.Goals as goal

pub returns : goal.returns
returns c = last_clauses
