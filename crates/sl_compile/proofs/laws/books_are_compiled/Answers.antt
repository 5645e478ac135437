use Rattle.sl_compile_pieces.proofs.closing.Closings.{closings_achieve}
use Rattle.sl_compile.proofs.rulebooks.Books.{books_are_compiled_by}
use Rattle.sl_compile.proofs.rulebooks.Costs.{books_cost}
use Rattle.sl_compile.proofs.laws.books_are_compiled.Goals as goal

pub returns : goal.returns
returns c = books_are_compiled_by closings_achieve books_cost
