use Rattle.std.proofs.Common.{nat_lt, rules, tests}
use Rattle.std.proofs.lemmas.Iterator.{YieldsList-from_slice}
use Rattle.std.proofs.lemmas.Iterator.Search.{any_from_yields_List}
use Rattle.sl_count_texts.proofs.Tests.{sum_or_none}
use Rattle.sl_count_texts.proofs.bounds.is_awarded.Goals as goal

pub returns : goal.returns
returns c =
    sum_or_none c.args.seats.now c.any.result
    (any_from_yields_List (λ s. nat_lt 0 s) _ _ _ c.any.ensures.ran (YieldsList-from_slice c.args.seats.now c.iter.ensures.rest) (λ x b q k. search (rules, tests)))
