use Rattle.std.proofs.Common.{Some, ap, arith, length, subst, sym, ◌++◌, ◌≡◌, ◌∙◌}
use Rattle.std.proofs.lemmas.Option.{slice_get-get_or}
use Rattle.std.specs.Prelude.{slice_get}
use Rattle.sl_law_meaning.specs.book.Books.{book_of}
use Rattle.sl_report_warnings.proofs.Pieces.{numbered, pieces_behind, pieces_end}
use Rattle.sl_report_warnings.proofs.lots.warn_of_lots.Goals as goal
use Rattle.sl_report_warnings.specs.Warnings.{of_numbered}

pub loop-number-preserved : goal.loop-number-preserved
loop-number-preserved c =
    let b = book_of c.args.book.now in
    let e = c.args.returns.now in
    let n = c.loop-number.number in
    let lot = c.index-lots-number.result in
    let lots = c.lots-lots.result.now in
    let there : slice_get e.lots n ≡ Some lot =
    subst (λ ls. slice_get ls n ≡ Some lot) c.lots-lots.ensures.lots (slice_get-get_or lots n lot c.loop-number-test.true ∙ ap Some (sym c.index-lots-number.is)) in
    pieces_behind (of_numbered b e) n _ _ _ c.loop-number.invariant (c.in_ok-warn_of_lot.ensures ∙ ap (λ ws. c.loop-number.found.items ++ ws) (sym (numbered b e n lot there)))

pub returns : goal.returns
returns c = pieces_end (of_numbered (book_of c.args.book.now) c.args.returns.now) c.loop-number.number _ _ _ (omega (arith, ap length c.lots-lots.ensures.lots)) c.loop-number.invariant
