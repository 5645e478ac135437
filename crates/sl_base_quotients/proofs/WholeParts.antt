-- Of two quotients with different whole parts the one with the greater is the greater, and so are entries with them.
use Rattle.std.proofs.Common.{◌≡◌, ℕ, zero, suc, ◌+◌, ◌*◌, ◌/◌, ◌%◌, ◌<◌, ◌≤◌, ◌≢◌, false, inl, inr, min, nat_eq, nat_lt, if◌then◌else◌, sym, ap, ◌∙◌, arith}
use Rattle.std.proofs.Math.Nat.{mul-le-mul_right}
use Rattle.std.proofs.lemmas.Bool.{cases_lt, lt-ltb, le-ltb}
use Rattle.std.proofs.lemmas.Bool.Decides.{nat_tests}
use Rattle.std.proofs.lemmas.Nat.{div-add-mod', mod_below}
use Rattle.std.specs.Cmp.{nat_cmp_is}
use Rattle.std.specs.declared.cmp.Ordering.{Ordering}
use Rattle.std.specs.declared.cmp.Ordering.TheVariants.{Less, Greater}
use Rattle.std.specs.Ordering.{nat_cmp, is_eq, is_gt, ordering_then}
use Rattle.sl_base_quotients.specs.declared.ratio.TheConstants.{MAX_WHOLE_PART}
use Rattle.sl_base_quotients.specs.declared.entry.Entry.{Entry}
use Rattle.sl_base_quotients.specs.Entry.{entry_cmp}
use Rattle.sl_base_quotients.specs.Quotient.{Quotient, Below, compare}
use Rattle.sl_base_quotients.specs.inner.Kept.{whole_part}
use Rattle.sl_base_quotients.specs.inner.EntryLaws.{quotient_cmp-positive}

-- a and c by their whole parts p and q
apart : (a b c d p q r s : ℕ) → p * b + r ≡ a → r < b → q * d + s ≡ c → p < q → 0 < d → a * d < c * b
apart a b c d p q r s low rest high less pos =
    let one : (a + 1) * d ≤ (p + 1) * b * d = mul-le-mul_right d (omega arith) in
    let two : (p + 1) * b * d ≤ q * b * d = mul-le-mul_right d (mul-le-mul_right b (omega arith)) in
    let three : q * d * b ≤ c * b = mul-le-mul_right b (omega arith) in
    omega (arith, one, two, three)

positive_product : (c b : ℕ) → 0 < c → 0 < b → 0 < c * b
positive_product c b pos more = let l : 1 * b ≤ c * b = mul-le-mul_right b (omega arith) in omega (arith, l)

finite : (a b : ℕ) → 0 < b → whole_part (record { num = a; den = b }) ≡ min (a / b) MAX_WHOLE_PART
finite a b pos =
    let positive : nat_eq b 0 ≡ false = grind (arith, nat_tests) in
    ap (λ infinite. if infinite then MAX_WHOLE_PART else min (a / b) MAX_WHOLE_PART) positive

wholes_apart : (a b c d : ℕ) → 0 < c → whole_part (record { num = a; den = b }) < whole_part (record { num = c; den = d }) → a * d < c * b
wholes_apart a zero c zero pos h = absurd (omega arith)
wholes_apart a zero c (suc d) pos h = let f = finite c (suc d) (omega arith) in absurd (omega (arith, f))
wholes_apart a (suc b) c zero pos h = let l = positive_product c (suc b) pos (omega arith) in omega (arith, l)
wholes_apart a (suc b) c (suc d) pos h =
    let p = finite a (suc b) (omega arith) in
    let q = finite c (suc d) (omega arith) in
    apart a (suc b) c (suc d) (a / suc b) (c / suc d) (a % suc b) (c % suc d) (div-add-mod' a (suc b)) (mod_below a (suc b) (omega arith)) (div-add-mod' c (suc d)) (omega (arith, p, q)) (omega arith)

pub below_by_wholes : (x y : Quotient) → 0 < y.num → whole_part x < whole_part y → Below x y
below_by_wholes x y pos h = wholes_apart x.num x.den y.num y.den pos h

pub unequal_by_wholes : (x y : Quotient) → 0 < x.num → 0 < y.num → whole_part x ≢ whole_part y → is_eq (compare x y) ≡ false
unequal_by_wholes x y x_pos y_pos other =
    elim (cases_lt (whole_part x) (whole_part y)) [
      | inl less ↦ ap is_eq (sym (nat_cmp_is (x.num * y.den) (y.num * x.den) Less (below_by_wholes x y y_pos less)))
      | inr more ↦ ap is_eq (sym (nat_cmp_is (x.num * y.den) (y.num * x.den) Greater (below_by_wholes y x x_pos (omega (arith, more, other)))))
    ]

module _ (x y : Entry) (x_pos : 0 < x.ratio.num) (y_pos : 0 < y.ratio.num) where
  -- an order of entries that the quotients decide
  by_quotients : (o : Ordering) → compare x.ratio y.ratio ≡ o
      → entry_cmp x y ≡ ordering_then (ordering_then (ordering_then o (nat_cmp y.index x.index)) (nat_cmp x.ratio.num y.ratio.num)) (nat_cmp x.ratio.den y.ratio.den)
  by_quotients o e =
      ap (λ q. ordering_then (ordering_then (ordering_then q (nat_cmp y.index x.index)) (nat_cmp x.ratio.num y.ratio.num)) (nat_cmp x.ratio.den y.ratio.den)) (quotient_cmp-positive x.ratio y.ratio x_pos y_pos ∙ e)

  pub greater_by_wholes : whole_part x.ratio ≢ whole_part y.ratio → nat_lt (whole_part y.ratio) (whole_part x.ratio) ≡ is_gt (entry_cmp x y)
  greater_by_wholes other =
      let a = x.ratio.num * y.ratio.den in
      let b = y.ratio.num * x.ratio.den in
      elim (cases_lt (whole_part y.ratio) (whole_part x.ratio)) [
        | inl less ↦ lt-ltb _ _ less ∙ sym (ap is_gt (by_quotients Greater (sym (nat_cmp_is a b Greater (below_by_wholes y.ratio x.ratio x_pos less)))))
        | inr more ↦
            let above : whole_part x.ratio < whole_part y.ratio = omega (arith, more, other) in
            le-ltb _ _ more ∙ sym (ap is_gt (by_quotients Less (sym (nat_cmp_is a b Less (below_by_wholes x.ratio y.ratio y_pos above)))))
      ]
