use Rattle.std.proofs.Common.{rules}
use Rattle.std.proofs.lemmas.Iterator.{YieldsList-from_slice, cases_from_all}
use Rattle.sl_count_texts.specs.Bounds.{IsBoundsWeight}
use Rattle.sl_count_texts.proofs.Tests.{all_or_not}
use Rattle.sl_count_texts.proofs.bounds.are_bounds_weights.Goals as goal

pub returns : goal.returns
returns c =
    all_or_not (IsBoundsWeight c.args.method) (λ w. w.now) c.args.scope.now c.all.result
    (cases_from_all _ _ _ (λ w. IsBoundsWeight c.args.method w.now) (λ w. ¬ IsBoundsWeight c.args.method w.now) c.all.ensures.ran (YieldsList-from_slice c.args.scope.now c.iter.ensures.rest) (λ x q k. search rules) (λ x q k. search rules))
