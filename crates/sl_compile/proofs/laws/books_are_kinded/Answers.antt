use Rattle.sl_compile.proofs.rulebooks.KindsOfBooks.{books_are_kinded}
use Rattle.sl_compile.proofs.laws.books_are_kinded.Goals as goal

pub returns : goal.returns
returns c = books_are_kinded
