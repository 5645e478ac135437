-- The records of the items up to a place stand.
use Rattle.std.proofs.Common.{◌≡◌, map, take}
use Rattle.sl_explain_texts.specs.Pages.{texts_in}
use Rattle.sl_explain_faults.specs.Legal.{lot_record}
use Rattle.sl_explain_faults.proofs.lots.records_of.Given as goal

abbrev pub invariant-loop-item : goal.invariant-loop-item
invariant-loop-item l = texts_in l.records.items ≡ map (lot_record l.returns l.stage) (take l.item-index l.items)
