use Rattle.std.proofs.Common.{set}
use Rattle.std.proofs.lemmas.List.Sorted.{IsPermutation-trans}
use Rattle.sl_prio.proofs.heap.replace_first.Goals as goal

pub returns-clause-moved : goal.returns-clause-moved
returns-clause-moved c =
    IsPermutation-trans (set c.args.entries.now 0 c.args.entry) (set c.sink-hole.new.entries c.sink-hole.result c.args.entry) c.raise.new.entries (c.sink-hole.ensures.moved c.args.entry) c.raise.ensures.moved
