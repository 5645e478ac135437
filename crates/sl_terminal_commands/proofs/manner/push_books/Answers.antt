use Rattle.std.proofs.Common.{Some, ap, sym, ◌∙◌}
use Rattle.std.proofs.lemmas.Option.{slice_get-get_or}
use Rattle.sl_terminal_commands.proofs.Pieces.{pieces_next}
use Rattle.sl_terminal_commands.specs.inner.Digested.{named_digest}
use Rattle.sl_terminal_commands.proofs.manner.push_books.Goals as goal

pub loop-book-preserved : goal.loop-book-preserved
loop-book-preserved c =
    let here = slice_get-get_or c.args.books.now c.loop-book.book-index c.book-item.result c.loop-book-test.true ∙ ap Some (sym c.book-item.is) in
    pieces_next named_digest c.args.books.now c.loop-book.book-index c.book-item.result _ _ _ here c.loop-book.invariant c.in_ok-push_book.ensures
