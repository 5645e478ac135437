use Rattle.sl_compile.proofs.rulebooks.Sizes.{books_are_short}
use Rattle.sl_compile.proofs.laws.books_are_short.Goals as goal

pub returns : goal.returns
returns c = books_are_short
