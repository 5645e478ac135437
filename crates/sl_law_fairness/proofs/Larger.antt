-- Two houses: an entry with fewer seats in the larger one shares all its quotients there with one that has more.
use Rattle.std.proofs.Common.{◌≡◌, ◌≢◌, ◌+◌, ◌-◌, ◌<◌, get_or, inl, inr, arith, sym, subst}
use Rattle.std.proofs.lemmas.Bool.{cases_lt}
use Rattle.sl_base_quotients.specs.Quotient.{AtMost, quotient}
use Rattle.sl_base_quotients.specs.inner.QuotientLaws.{quotient_positive}
use Rattle.sl_base_quotients.proofs.Order.{AtMost-trans}
use Rattle.sl_law_meaning.proofs.methods.SeatSums.{some_greater}
use Rattle.sl_law_fairness.specs.Houses.{LargerHouse}
use Rattle.sl_law_fairness.proofs.Chains.{falls_weak, falls_strict, in_field}
use Rattle.sl_law_fairness.proofs.Moves.{holder_tied, taker_tied}

pub larger_house : LargerHouse
larger_house method v m seats house s t le hs ht i less =
    let found = some_greater s t i (omega (arith, le, hs.total, ht.total)) less in
    let j = found.0 in
    let more : get_or s j 0 < get_or t j 0 = found.1 in
    let ne : i ≢ j = λ e. let more' = subst (λ k. get_or s k 0 < get_or t k 0) (sym e) more in omega (arith, more', less) in
    let mi = ht.minima i in
    let mj = hs.minima j in
    let above_i : get_or m i 0 < get_or s i 0 = omega (arith, mi, less) in
    let above_j : get_or m j 0 < get_or t j 0 = omega (arith, mj, more) in
    let fi = in_field method v m seats s hs i above_i in
    let fj = in_field method v m house t ht j above_j in
    -- next of i in t ≤ last of j in t ≤ next of j in s ≤ last of i in s ≤ next of i in t
    let A = quotient method (get_or v i 0) (get_or t i 0) in
    let B = quotient method (get_or v j 0) (get_or t j 0 - 1) in
    let C = quotient method (get_or v j 0) (get_or s j 0) in
    let D = quotient method (get_or v i 0) (get_or s i 0 - 1) in
    let posA = quotient_positive method (get_or v i 0) (get_or t i 0) fi in
    let posB = quotient_positive method (get_or v j 0) (get_or t j 0 - 1) fj in
    let posC = quotient_positive method (get_or v j 0) (get_or s j 0) fj in
    let posD = quotient_positive method (get_or v i 0) (get_or s i 0 - 1) fi in
    let ab : AtMost A B = ht.min_max j i fj fi above_j in
    let bc : AtMost B C = falls_weak method v j (get_or s j 0) (get_or t j 0 - 1) fj (omega arith) in
    let cd : AtMost C D = hs.min_max i j fi fj above_i in
    let da : AtMost D A = falls_weak method v i (get_or t i 0) (get_or s i 0 - 1) fi (omega arith) in
    let ad : AtMost A D = AtMost-trans A C D posC (AtMost-trans A B C posB ab bc) cd in
    let ba : AtMost B A = AtMost-trans B D A posD (AtMost-trans B C D posC bc cd) da in
    let dc : AtMost D C = AtMost-trans D B C posB (AtMost-trans D A B posA da ab) bc in
    let one : get_or t i 0 + 1 ≡ get_or s i 0 =
    elim (cases_lt (get_or t i 0) (get_or s i 0 - 1)) [
      | inr g ↦ omega (arith, g, less)
      | inl far ↦ absurd (let below = falls_strict method v i (get_or t i 0) (get_or s i 0 - 1) fi far in omega (arith, below, ad))
    ] in
    (one, holder_tied method v m seats s hs i j ne above_i fj dc, taker_tied method v m house t ht j i (λ e. ne (sym e)) above_j fi ba)
