use Rattle.std.proofs.Common.{arith}
use Rattle.std.proofs.lemmas.List.{length-map}
use Rattle.sl_law_meaning.specs.book.Books.{book_of}
use Rattle.sl_law_meaning.specs.book.Trees.{stage_of}
use Rattle.sl_report_warnings.proofs.Pieces.{pieces_behind, pieces_end}
use Rattle.sl_report_warnings.specs.Warnings.{of_stage}
use Rattle.sl_report_warnings.proofs.book.warn_of_stages.Goals as goal

pub loop-number-preserved : goal.loop-number-preserved
loop-number-preserved c = pieces_behind (of_stage (book_of c.args.book.now)) c.loop-number.number _ _ _ c.loop-number.invariant c.in_ok-warn_of_stage.ensures

pub returns : goal.returns
returns c =
    let stages = c.args.book.now.stages in
    pieces_end (of_stage (book_of c.args.book.now)) c.loop-number.number _ _ _
    (omega (arith, c.loop-number-test.false, c.loop-number.auto.number-end, c.len-number-end.ensures, length-map stages.items stage_of, stages.ok.0)) c.loop-number.invariant
