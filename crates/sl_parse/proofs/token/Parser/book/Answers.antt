use Rattle.std.proofs.Common.{drop, map}
use Rattle.sl_law_meaning.specs.book.Trees.{stage_of}
use Rattle.sl_parse.specs.inner.Views.{head_tree}
use Rattle.sl_parse.proofs.TokenNumbers.{small_book}
use Rattle.sl_parse.proofs.token.Parser.book.Goals as goal

pub invariant_of-result-clause-small_numbers : goal.invariant_of-result-clause-small_numbers
invariant_of-result-clause-small_numbers c =
    let all = c.args.self.now.tokens.now in
    small_book c.args.self.now.text.now all (drop c.in_ok-head.at all) (drop c.in_ok-stages.at all) (head_tree c.in_ok-head.head) (map stage_of c.in_ok-stages.stages.items) c.in_ok-last.last
    c.args.self.now.spans c.in_ok-head.ensures c.in_ok-stages.ensures.gives
