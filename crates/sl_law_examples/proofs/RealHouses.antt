-- The house of 2013, by the closed form of a growth.
use Rattle.std.proofs.Common.{◌≡◌, ℕ, zero, suc, ◌+◌, ◌≤◌, inr, arith, refl}
use Rattle.sl_law_meaning.specs.methods.LeastHouse.{outside_sum}
use Rattle.sl_law_fairness.specs.ClosedHouse.{needed_by, HasMinimum}
use Rattle.sl_law_fairness.proofs.ClosedHouse.{closed_house}
use Rattle.sl_law_examples.specs.ByHand.{votes_2013, floors_2013, House2013}

enough : (q : ℕ) → HasMinimum votes_2013 floors_2013 q → outside_sum votes_2013 floors_2013 + needed_by votes_2013 floors_2013 q ≤ 631
enough zero has = let e : outside_sum votes_2013 floors_2013 + needed_by votes_2013 floors_2013 0 ≡ 597 = refl in omega (arith, e)
enough (suc zero) has = let e : outside_sum votes_2013 floors_2013 + needed_by votes_2013 floors_2013 1 ≡ 596 = refl in omega (arith, e)
enough (suc (suc zero)) has = let e : outside_sum votes_2013 floors_2013 + needed_by votes_2013 floors_2013 2 ≡ 594 = refl in omega (arith, e)
enough (suc (suc (suc zero))) has = let e : outside_sum votes_2013 floors_2013 + needed_by votes_2013 floors_2013 3 ≡ 593 = refl in omega (arith, e)
enough (suc (suc (suc (suc zero)))) has = let e : outside_sum votes_2013 floors_2013 + needed_by votes_2013 floors_2013 4 ≡ 631 = refl in omega (arith, e)
enough (suc (suc (suc (suc (suc q))))) has = absurd (let f = has.0 in omega (arith, f))

pub house_2013 : House2013
house_2013 = record {
  cdu = omega arith;
  spd = omega arith;
  linke = omega arith;
  gruene = omega arith;
  growth = (closed_house votes_2013 floors_2013 598 4000 631).1 (
    (λ empty. empty 0 (omega arith)),
    omega arith,
    record {
      from = omega arith;
      enough = enough;
      one_of = inr (4, (omega arith, omega arith), refl);
    },
  );
  seats = refl;
}
