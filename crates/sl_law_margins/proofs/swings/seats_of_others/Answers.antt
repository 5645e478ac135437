use Rattle.std.proofs.Common.{◌≡◌, ℕ, ◌+◌, ◌≤◌, List, length, get_or, sum, arith, ap, ◌∙◌}
use Rattle.std.specs.Prelude.{take}
use Rattle.std.proofs.lemmas.List.{take_all}
use Rattle.std.proofs.lemmas.List.Sums.{sum_by_more, sum_by_more_le}
use Rattle.sl_law_meaning.proofs.methods.SeatSums.{entry_le_sum}
use Rattle.sl_law_margins.proofs.swings.seats_of_others.Goals as goal

all_of : (s : List ℕ) (n all : ℕ) → all ≡ sum (take n s) → length s ≤ n → all ≡ sum s
all_of s n all is past = is ∙ ap sum (take_all n s past)

pub loop-held-init : goal.loop-held-init
loop-held-init c = omega arith

pub overflow_add-all : goal.overflow_add-all
overflow_add-all c =
    let is = c.loop-held.invariant in
    let up : sum (take c.loop-held.held-index c.args.seats.now) + get_or c.args.seats.now c.loop-held.held-index 0 ≤ sum c.args.seats.now =
    sum_by_more_le (λ n. n) c.args.seats.now c.loop-held.held-index 0 c.loop-held-test.true in
    let house = c.requires.house in
    omega (arith, is, up, house)

pub loop-held-preserved : goal.loop-held-preserved
loop-held-preserved c =
    let is = c.loop-held.invariant in
    let up : sum (take (c.loop-held.held-index + 1) c.args.seats.now) ≡ sum (take c.loop-held.held-index c.args.seats.now) + get_or c.args.seats.now c.loop-held.held-index 0 =
    sum_by_more (λ n. n) c.args.seats.now c.loop-held.held-index 0 c.loop-held-test.true in
    omega (arith, is, up)

pub overflow_sub-result : goal.overflow_sub-result
overflow_sub-result c =
    let e = all_of c.args.seats.now c.loop-held.held-index c.loop-held.all c.loop-held.invariant c.loop-held-test.false in
    let le = entry_le_sum c.args.seats.now c.args.entry in
    omega (arith, e, le)

pub returns : goal.returns
returns c =
    let e = all_of c.args.seats.now c.loop-held.held-index c.loop-held.all c.loop-held.invariant c.loop-held-test.false in
    let le = entry_le_sum c.args.seats.now c.args.entry in
    omega (arith, e, le)
