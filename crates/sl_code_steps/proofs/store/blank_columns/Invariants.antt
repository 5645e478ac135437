-- The columns before the place are blank.
use Rattle.std.proofs.Common.{◌≡◌, map, take}
use Rattle.sl_code_steps.proofs.stores.Starting.{blank}
use Rattle.sl_code_steps.proofs.store.blank_columns.Given as goal

abbrev pub invariant-loop-shape : goal.invariant-loop-shape
invariant-loop-shape l = l.columns.items ≡ map (blank l.returns) (take l.shape-index l.slots)
