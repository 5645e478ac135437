use Rattle.std.proofs.Common.{rules}
use Rattle.sl_law_meaning.specs.book.Books.{book_of}
use Rattle.sl_compile.proofs.Books.{code_compiled, code_kinded}
use Rattle.sl_compile.proofs.compiler.compile.Goals as goal

-- the verifier accepts the code of a typed book
pub known-requires : goal.known-requires
known-requires c = code_kinded (book_of c.args.book.now.book) c.in_ok-code.code c.args.book.now.typed c.args.book.now.book.within_limits c.in_ok-code.ensures

pub returns : goal.returns
returns c =
    let is = code_compiled (book_of c.args.book.now.book) c.in_ok-code.code c.args.book.now.typed c.args.book.now.book.within_limits c.in_ok-code.ensures in
    search (rules, is)
