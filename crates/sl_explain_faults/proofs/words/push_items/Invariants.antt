-- The names of the items up to a place are added.
use Rattle.std.proofs.Common.{◌≡◌, ◌++◌, codes, flat_map, take}
use Rattle.sl_explain_faults.specs.Legal.{item_name}
use Rattle.sl_explain_faults.proofs.words.push_items.Given as goal

abbrev pub invariant-loop-item : goal.invariant-loop-item
invariant-loop-item l = l.text.items ≡ l.fn.text.items ++ flat_map (λ i. codes ", " ++ item_name l.returns i) (take l.item-index l.items)
