use Rattle.sl_code_semantics.proofs.kinds.PieceFacts.{passed_within, piece_within, declared_from_first}
use Rattle.sl_verify.proofs.laws.pieces.Goals as goal

pub returns-clause-within : goal.returns-clause-within
returns-clause-within c = passed_within

pub returns-clause-context : goal.returns-clause-context
returns-clause-context c = piece_within

pub returns-clause-declared : goal.returns-clause-declared
returns-clause-declared c = declared_from_first
