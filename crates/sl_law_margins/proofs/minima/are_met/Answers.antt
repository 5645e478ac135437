use Rattle.std.proofs.Common.{◌≡◌, ◌≤◌, ℕ, get_or, arith, refl, ◌∙◌}
use Rattle.sl_law_margins.proofs.Missing.{below_next}
use Rattle.sl_law_margins.proofs.minima.are_met.Goals as goal

pub loop-entry-init : goal.loop-entry-init
loop-entry-init c = λ i l. absurd (omega (arith, l))

pub loop-entry-preserved : goal.loop-entry-preserved
loop-entry-preserved c =
    let P : ℕ → Type 0 = λ i. (get_or c.args.minima.now i 0 ≤ get_or c.args.seats.now i 0) × (get_or c.args.weights.now i 0 ≡ 0 → get_or c.args.seats.now i 0 ≡ get_or c.args.minima.now i 0) in
    let met = c.is_met.ensures.0 c.if-not-is_met.false in
    let least = c.minimum.ensures in
    let low = met.0 in
    λ i l. below_next P c.loop-entry.entry i l (c.loop-entry.invariant i) (omega (arith, low, least), λ z. met.1 z ∙ least)

pub returns : goal.returns
returns c = (
  λ e i l. let past = c.loop-entry-test.false in c.loop-entry.invariant i (omega (arith, l, past)),
  λ all. refl,
)
