-- The limits are kept.
use Rattle.std.proofs.Common.{arith, map}
use Rattle.std.specs.Vec.{with_items}
use Rattle.sl_law_meaning.specs.book.Books.{book_of}
use Rattle.sl_law_meaning.specs.book.Trees.{stage_of}
use Rattle.sl_report_commands.proofs.SameLimits.{all_set, same_limits, same_small}
use Rattle.sl_report_commands.proofs.method.by_method.Goals as goal

pub invariant_of-result : goal.invariant_of-result
invariant_of-result c =
    let by = c.args.by in
    let stages = c.args.book.stages in
    let new = c.set_methods.new.stages in
    let after = map stage_of (with_items stages new).items in
    let set = all_set by stages c.as_mut_slice.result.now new c.as_mut_slice.ensures.value (omega (arith, c.set_methods.auto.stages, c.as_mut_slice.ensures.len)) c.set_methods.ensures in
    record {
      within_limits = same_limits by (map stage_of stages.items) after set c.args.book.within_limits;
      small_numbers = same_small by (book_of c.args.book) after set c.args.book.small_numbers;
    }
