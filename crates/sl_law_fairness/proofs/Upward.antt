-- A house larger than one that meets each minimum does too: an entry with fewer seats there is tied, one above and at its minimum.
use Rattle.std.proofs.Common.{get_or, inl, inr, arith}
use Rattle.std.proofs.lemmas.Bool.{cases_lt}
use Rattle.sl_law_meaning.specs.methods.LeastHouse.{outside_minima}
use Rattle.sl_law_meaning.proofs.methods.DivisorProofs.{divisor_allocations}
use Rattle.sl_law_meaning.proofs.methods.HouseProofs.{length-outside}
use Rattle.sl_law_fairness.specs.Growths.{LargerHouseMeets}
use Rattle.sl_law_fairness.proofs.Larger.{larger_house}

pub larger_house_meets : LargerHouseMeets
larger_house_meets method v m e h k enough meets le t ht i =
    elim (cases_lt (get_or t i 0) (get_or m i 0)) [
      | inr g ↦ g
      | inl few ↦ absurd (
          let can = (divisor_allocations method v (outside_minima v m) k (length-outside v m e)).0.0 (t, ht) in
          let well = (divisor_allocations method v (outside_minima v m) h (length-outside v m e)).1
          (enough, λ empty. let z = can.1 empty in omega (arith, z, enough, le)) in
          let s = well.some in
          let low = meets s.0 s.1 i in
          let one = larger_house method v (outside_minima v m) h k s.0 t le s.1 ht i (omega (arith, few, low)) in
          let high = one.1 in
          let raised = high.2 in
          let low' = meets raised.0 raised.1 i in
          let above = raised.2 in
          let two = larger_house method v (outside_minima v m) h k high.0 t le high.1 ht i (omega (arith, few, low', above)) in
          let same = two.0 in
          omega (arith, few, low', above, same))
    ]
