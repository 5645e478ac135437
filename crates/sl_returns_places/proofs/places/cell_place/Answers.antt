-- The scan begins after a byte order mark.
use Rattle.std.proofs.Common.{◌≡◌, ◌+◌, arith}
use Rattle.sl_returns_places.proofs.Scans.{scanned_none}
use Rattle.sl_returns_places.proofs.places.cell_place.Goals as goal

pub loop-at-init : goal.loop-at-init
loop-at-init c =
    let length = c.mark_length-begin.ensures.length in
    let rest = rw length at c.mark_length-begin.ensures.rest in
    let row : c.args.row ≡ c.in_ok-before.before + 1 = omega (arith, c.in_ok-before.ensures.0, c.in_ok-before.ensures.1) in
    rw (c.begin-scan.ensures, length, row) (scanned_none c.args.bytes.now c.in_ok-before.before c.args.column rest)
