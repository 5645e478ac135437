use Rattle.std.proofs.Common.{nat_lt, ◌∙◌, arith}
use Rattle.std.proofs.lemmas.Bool.Decides.{nat_tests}
use Rattle.sl_base_quotients.proofs.WholeParts.{greater_by_wholes}
use Rattle.sl_prio.proofs.heap.exceeds.Goals as goal

pub returns : goal.returns
returns c =
    let mine = c.whole-mine.ensures in
    let its = c.whole-its.ensures in
    (λ i. nat_lt (its.value i) (mine.value i))
    ∙ greater_by_wholes c.args.entry.now c.args.other.now mine.fits.positive its.fits.positive (grind (arith, nat_tests, mine.value, its.value, c.if-mine-its.false))
