use Rattle.std.proofs.Common.{◌≡◌, ◌+◌, ◌-◌, ◌/◌, ◌<◌, inl, inr, arith, subst}
use Rattle.std.specs.Prelude.{slice_index}
use Rattle.std.proofs.lemmas.Bool.{cases_lt}
use Rattle.sl_law_margins.specs.Swings.{MayWinNone}
use Rattle.sl_law_margins.proofs.Swinging.{none_moved, when_filled, when_short}
use Rattle.sl_law_margins.proofs.swings.swing.Goals as goal
use Rattle.sl_law_margins.proofs.swings.swing.Goals.{then-all-eq0-via-then-all-eq0, then-all-eq0-via-else-all-eq0+then-are_filled}

pub returns-then-all-eq0 : goal.returns-then-all-eq0
returns-then-all-eq0 c =
    let m = c.args.method in
    let v = c.args.weights.now in
    let s = c.args.seats.now in
    let j = c.args.from in
    let i = c.args.to in
    elim c.then-all-eq0.branch [
      | then-all-eq0-via-then-all-eq0 w ↦
          (λ y le.
          let none = w.if-all-eq0.true in
          let z : 0 ≡ y = omega (arith, le, none) in
          subst (MayWinNone m v s j i) z (none_moved m v s c.requires.allocation j i c.requires.apart c.requires.from c.requires.to))
      | then-all-eq0-via-else-all-eq0+then-are_filled w ↦
          (λ y le.
          when_filled m v s c.requires.allocation j i c.requires.apart c.requires.from c.requires.to (slice_index v j) w.are_filled.result w.are_filled.ensures w.if-are_filled.true y le)
    ]

pub loop-enough-init : goal.loop-enough-init
loop-enough-init c =
    let m = c.args.method in
    let v = c.args.weights.now in
    let s = c.args.seats.now in
    let j = c.args.from in
    let i = c.args.to in
    let some : 0 < slice_index v j = (let ne = c.if-all-eq0.false in elim (cases_lt 0 (slice_index v j)) [ inl l ↦ l | inr g ↦ absurd (ne (omega (arith, g))) ]) in (
      some,
      omega arith,
      λ y le.
          let z : 0 ≡ y = omega (arith, le) in
          subst (MayWinNone m v s j i) z (none_moved m v s c.requires.allocation j i c.requires.apart c.requires.from c.requires.to),
      when_short m v s c.requires.allocation j i c.requires.apart c.requires.from c.requires.to (slice_index v j) c.are_filled.result c.are_filled.ensures c.if-are_filled.false some,
    )

pub overflow_sub-enough : goal.overflow_sub-enough
overflow_sub-enough c = let l = c.loop-enough.invariant.0 in omega (arith, l)

pub loop-enough-preserved-then-are_filled-2 : goal.loop-enough-preserved-then-are_filled-2
loop-enough-preserved-then-are_filled-2 c =
    let inv = c.loop-enough.invariant in
    let l = inv.0 in
    let more = c.loop-enough-test.true in (
      omega (arith, l, more),
      inv.1,
      λ y le.
          when_filled c.args.method c.args.weights.now c.args.seats.now c.requires.allocation c.args.from c.args.to c.requires.apart c.requires.from c.requires.to
          (c.loop-enough.few + (c.loop-enough.enough - c.loop-enough.few) / 2) c.are_filled-in-loop-enough.result c.are_filled-in-loop-enough.ensures c.if-are_filled-2.true y le,
      inv.3,
    )

pub loop-enough-preserved : goal.loop-enough-preserved
loop-enough-preserved c =
    let inv = c.loop-enough.invariant in
    let l = inv.0 in
    let within = inv.1 in
    let more = c.loop-enough-test.true in (
      omega (arith, l, more),
      omega (arith, l, more, within),
      inv.2,
      when_short c.args.method c.args.weights.now c.args.seats.now c.requires.allocation c.args.from c.args.to c.requires.apart c.requires.from c.requires.to
          (c.loop-enough.few + (c.loop-enough.enough - c.loop-enough.few) / 2) c.are_filled-in-loop-enough.result c.are_filled-in-loop-enough.ensures c.if-are_filled-2.false (omega (arith, l, more)),
    )
