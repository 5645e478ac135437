use Rattle.std.proofs.Common.{◌≡◌, ◌++◌, flat_map, length}
use Rattle.sl_code.specs.Faults.{shape_bytes}
use Rattle.sl_code.proofs.reader.Reader.slot_list.Given as goal

abbrev pub invariant-loop-at : goal.invariant-loop-at
invariant-loop-at l =
    (l.initial.self ≡ flat_map shape_bytes l.slots.items ++ l.self) × (length l.slots.items ≡ l._at)
