use Rattle.sl_law_meaning.proofs.meaning.TypedMeaning.{typed_expressions, typed_stages}
use Rattle.sl_law_meaning.proofs.laws.meaning.typed_columns.Goals as goal

pub returns-clause-expressions : goal.returns-clause-expressions
returns-clause-expressions c = typed_expressions

pub returns-clause-stages : goal.returns-clause-stages
returns-clause-stages c = typed_stages
