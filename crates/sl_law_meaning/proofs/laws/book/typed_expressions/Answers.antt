use Rattle.sl_law_meaning.proofs.typing.TypedExpressions.{typed_expressions}
use Rattle.sl_law_meaning.proofs.laws.book.typed_expressions.Goals as goal

pub returns : goal.returns
returns c = typed_expressions
