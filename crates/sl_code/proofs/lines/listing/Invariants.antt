use Rattle.std.proofs.Common.{◌≡◌, flat_map, take}
use Rattle.std.specs.List.{enumerate_from}
use Rattle.sl_code.specs.Listing.{line_of}
use Rattle.sl_code.proofs.lines.listing.Given as goal

abbrev pub invariant-loop-number : goal.invariant-loop-number
invariant-loop-number l =
    l.text.items ≡ flat_map (λ entry. line_of entry.0 entry.1) (take l.number (enumerate_from 0 l.instr-items))
