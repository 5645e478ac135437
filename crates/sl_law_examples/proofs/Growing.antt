-- What fails where a house grows, and the bound on growth of the house of 2013.
use Rattle.std.proofs.Common.{◌≡◌, ℕ, zero, suc, ◌+◌, ◌-◌, ◌*◌, ◌<◌, ◌≤◌, List, [], ◌∷◌, get_or, sum, inr, arith, refl, sym, subst}
use Rattle.sl_base_quotients.specs.declared.method.Divisor.{Divisor}
use Rattle.sl_base_quotients.specs.declared.method.Divisor.TheVariants.{Adams, Dean, Hill, Webster, Jefferson}
use Rattle.sl_law_meaning.specs.methods.LeastHouse.{outside_sum, Meets, Serves, IsGrowth, GrownTo, IsGrownAllocation}
use Rattle.sl_law_meaning.proofs.methods.SeatSums.{entry_le_sum}
use Rattle.sl_law_fairness.specs.ClosedHouse.{needed_by, HasMinimum}
use Rattle.sl_law_fairness.specs.Growths.{MeetsEach}
use Rattle.sl_law_fairness.proofs.ClosedHouse.{closed_house}
use Rattle.sl_law_examples.specs.Failures.{IsOnly, Free}
use Rattle.sl_law_examples.specs.ByHand.{votes_2013, floors_2013}
use Rattle.sl_law_examples.specs.Growing.{MetByLot, TooFewSeats, WithoutVotes, HalfDecides, Bound2013}
use Rattle.sl_law_examples.proofs.Allocated.{divisor_some, divisor_only}

-- ---- three equal entries

last_of_three : (method : Divisor) → Free method (1 ∷ 1 ∷ 1 ∷ []) 1 (0 ∷ 0 ∷ 1 ∷ [])
last_of_three Adams = divisor_some Adams (1 ∷ 1 ∷ 1 ∷ []) (0 ∷ 0 ∷ 0 ∷ []) (0 ∷ 0 ∷ 1 ∷ []) refl refl refl
last_of_three Dean = divisor_some Dean (1 ∷ 1 ∷ 1 ∷ []) (0 ∷ 0 ∷ 0 ∷ []) (0 ∷ 0 ∷ 1 ∷ []) refl refl refl
last_of_three Hill = divisor_some Hill (1 ∷ 1 ∷ 1 ∷ []) (0 ∷ 0 ∷ 0 ∷ []) (0 ∷ 0 ∷ 1 ∷ []) refl refl refl
last_of_three Webster = divisor_some Webster (1 ∷ 1 ∷ 1 ∷ []) (0 ∷ 0 ∷ 0 ∷ []) (0 ∷ 0 ∷ 1 ∷ []) refl refl refl
last_of_three Jefferson = divisor_some Jefferson (1 ∷ 1 ∷ 1 ∷ []) (0 ∷ 0 ∷ 0 ∷ []) (0 ∷ 0 ∷ 1 ∷ []) refl refl refl

first_of_three : (method : Divisor) → Free method (1 ∷ 1 ∷ 1 ∷ []) 1 (1 ∷ 0 ∷ 0 ∷ [])
first_of_three Adams = divisor_some Adams (1 ∷ 1 ∷ 1 ∷ []) (0 ∷ 0 ∷ 0 ∷ []) (1 ∷ 0 ∷ 0 ∷ []) refl refl refl
first_of_three Dean = divisor_some Dean (1 ∷ 1 ∷ 1 ∷ []) (0 ∷ 0 ∷ 0 ∷ []) (1 ∷ 0 ∷ 0 ∷ []) refl refl refl
first_of_three Hill = divisor_some Hill (1 ∷ 1 ∷ 1 ∷ []) (0 ∷ 0 ∷ 0 ∷ []) (1 ∷ 0 ∷ 0 ∷ []) refl refl refl
first_of_three Webster = divisor_some Webster (1 ∷ 1 ∷ 1 ∷ []) (0 ∷ 0 ∷ 0 ∷ []) (1 ∷ 0 ∷ 0 ∷ []) refl refl refl
first_of_three Jefferson = divisor_some Jefferson (1 ∷ 1 ∷ 1 ∷ []) (0 ∷ 0 ∷ 0 ∷ []) (1 ∷ 0 ∷ 0 ∷ []) refl refl refl

first_two : (method : Divisor) → Free method (1 ∷ 1 ∷ 1 ∷ []) 2 (1 ∷ 1 ∷ 0 ∷ [])
first_two Adams = divisor_some Adams (1 ∷ 1 ∷ 1 ∷ []) (0 ∷ 0 ∷ 0 ∷ []) (1 ∷ 1 ∷ 0 ∷ []) refl refl refl
first_two Dean = divisor_some Dean (1 ∷ 1 ∷ 1 ∷ []) (0 ∷ 0 ∷ 0 ∷ []) (1 ∷ 1 ∷ 0 ∷ []) refl refl refl
first_two Hill = divisor_some Hill (1 ∷ 1 ∷ 1 ∷ []) (0 ∷ 0 ∷ 0 ∷ []) (1 ∷ 1 ∷ 0 ∷ []) refl refl refl
first_two Webster = divisor_some Webster (1 ∷ 1 ∷ 1 ∷ []) (0 ∷ 0 ∷ 0 ∷ []) (1 ∷ 1 ∷ 0 ∷ []) refl refl refl
first_two Jefferson = divisor_some Jefferson (1 ∷ 1 ∷ 1 ∷ []) (0 ∷ 0 ∷ 0 ∷ []) (1 ∷ 1 ∷ 0 ∷ []) refl refl refl

one_each : (method : Divisor) → IsOnly (Free method (1 ∷ 1 ∷ 1 ∷ []) 3) (1 ∷ 1 ∷ 1 ∷ [])
one_each Adams = divisor_only Adams (1 ∷ 1 ∷ 1 ∷ []) (0 ∷ 0 ∷ 0 ∷ []) (1 ∷ 1 ∷ 1 ∷ []) refl refl refl
one_each Dean = divisor_only Dean (1 ∷ 1 ∷ 1 ∷ []) (0 ∷ 0 ∷ 0 ∷ []) (1 ∷ 1 ∷ 1 ∷ []) refl refl refl
one_each Hill = divisor_only Hill (1 ∷ 1 ∷ 1 ∷ []) (0 ∷ 0 ∷ 0 ∷ []) (1 ∷ 1 ∷ 1 ∷ []) refl refl refl
one_each Webster = divisor_only Webster (1 ∷ 1 ∷ 1 ∷ []) (0 ∷ 0 ∷ 0 ∷ []) (1 ∷ 1 ∷ 1 ∷ []) refl refl refl
one_each Jefferson = divisor_only Jefferson (1 ∷ 1 ∷ 1 ∷ []) (0 ∷ 0 ∷ 0 ∷ []) (1 ∷ 1 ∷ 1 ∷ []) refl refl refl

three_meet : Meets (1 ∷ 1 ∷ 1 ∷ []) (0 ∷ 0 ∷ 1 ∷ []) (1 ∷ 1 ∷ 1 ∷ [])
three_meet zero f = omega arith
three_meet (suc zero) f = omega arith
three_meet (suc (suc zero)) f = omega arith
three_meet (suc (suc (suc i))) f = omega arith

least_three : (method : Divisor) (h : ℕ) → Serves method (1 ∷ 1 ∷ 1 ∷ []) (0 ∷ 0 ∷ 1 ∷ []) 1 9 h → 3 ≤ h
least_three method zero s = absurd (let from = s.from in omega (arith, from))
least_three method (suc zero) s = absurd (let le : 1 ≤ 0 = s.met (1 ∷ 0 ∷ 0 ∷ []) (first_of_three method) 2 (omega arith) in omega (arith, le))
least_three method (suc (suc zero)) s = absurd (let le : 1 ≤ 0 = s.met (1 ∷ 1 ∷ 0 ∷ []) (first_two method) 2 (omega arith) in omega (arith, le))
least_three method (suc (suc (suc h))) s = omega arith

grows_to_three : (method : Divisor) → IsGrowth method (1 ∷ 1 ∷ 1 ∷ []) (0 ∷ 0 ∷ 1 ∷ []) 1 9 (GrownTo 3)
grows_to_three method = (
  λ empty. empty 0 (omega arith),
  record {
    from = omega arith;
    up_to = omega arith;
    outside = omega arith;
    met = λ t h. subst (Meets (1 ∷ 1 ∷ 1 ∷ []) (0 ∷ 0 ∷ 1 ∷ [])) (sym ((one_each method).1 t h)) three_meet;
  },
  least_three method,
)

pub met_by_lot : MetByLot
met_by_lot = record { met = last_of_three; unmet = first_two; growth = grows_to_three }

-- ---- an entry without votes

no_seats : (method : Divisor) → MeetsEach method (1 ∷ 0 ∷ []) (1 ∷ 1 ∷ []) 0
no_seats method s h i =
    let some : 1 ≤ get_or s 1 0 = h.minima 1 in
    let le = entry_le_sum s 1 in
    absurd (omega (arith, some, le, h.total))

to_the_second : (method : Divisor) → IsOnly (IsGrownAllocation method (1 ∷ 0 ∷ []) (1 ∷ 1 ∷ []) 1) (0 ∷ 1 ∷ [])
to_the_second Adams = divisor_only Adams (1 ∷ 0 ∷ []) (0 ∷ 1 ∷ []) (0 ∷ 1 ∷ []) refl refl refl
to_the_second Dean = divisor_only Dean (1 ∷ 0 ∷ []) (0 ∷ 1 ∷ []) (0 ∷ 1 ∷ []) refl refl refl
to_the_second Hill = divisor_only Hill (1 ∷ 0 ∷ []) (0 ∷ 1 ∷ []) (0 ∷ 1 ∷ []) refl refl refl
to_the_second Webster = divisor_only Webster (1 ∷ 0 ∷ []) (0 ∷ 1 ∷ []) (0 ∷ 1 ∷ []) refl refl refl
to_the_second Jefferson = divisor_only Jefferson (1 ∷ 0 ∷ []) (0 ∷ 1 ∷ []) (0 ∷ 1 ∷ []) refl refl refl

its_minimum : (method : Divisor) → IsOnly (IsGrownAllocation method (1 ∷ 0 ∷ []) (0 ∷ 1 ∷ []) 1) (0 ∷ 1 ∷ [])
its_minimum Adams = divisor_only Adams (1 ∷ 0 ∷ []) (0 ∷ 1 ∷ []) (0 ∷ 1 ∷ []) refl refl refl
its_minimum Dean = divisor_only Dean (1 ∷ 0 ∷ []) (0 ∷ 1 ∷ []) (0 ∷ 1 ∷ []) refl refl refl
its_minimum Hill = divisor_only Hill (1 ∷ 0 ∷ []) (0 ∷ 1 ∷ []) (0 ∷ 1 ∷ []) refl refl refl
its_minimum Webster = divisor_only Webster (1 ∷ 0 ∷ []) (0 ∷ 1 ∷ []) (0 ∷ 1 ∷ []) refl refl refl
its_minimum Jefferson = divisor_only Jefferson (1 ∷ 0 ∷ []) (0 ∷ 1 ∷ []) (0 ∷ 1 ∷ []) refl refl refl

pub too_few_seats : TooFewSeats
too_few_seats = record { none = no_seats; one = to_the_second }

any_meet : (t : List ℕ) → Meets (1 ∷ 0 ∷ []) (0 ∷ 1 ∷ []) t
any_meet t zero f = omega arith
any_meet t (suc zero) f = absurd (omega (arith, f))
any_meet t (suc (suc i)) f = omega arith

pub without_votes : WithoutVotes
without_votes = record {
  growth = λ method. (
    λ empty. empty 0 (omega arith),
    record { from = omega arith; up_to = omega arith; outside = omega arith; met = λ t h. any_meet t },
    λ h s. s.from,
  );
  seats = its_minimum;
  by_votes = λ method h. let e : 1 ≡ 0 = h.outside 1 refl in omega (arith, e);
}

-- ---- closed forms

needs : (q : ℕ) → HasMinimum (10 ∷ 1 ∷ []) (9 ∷ 1 ∷ []) q → outside_sum (10 ∷ 1 ∷ []) (9 ∷ 1 ∷ []) + needed_by (10 ∷ 1 ∷ []) (9 ∷ 1 ∷ []) q ≤ 10
needs zero has = let e : outside_sum (10 ∷ 1 ∷ []) (9 ∷ 1 ∷ []) + needed_by (10 ∷ 1 ∷ []) (9 ∷ 1 ∷ []) 0 ≡ 10 = refl in omega (arith, e)
needs (suc zero) has = let e : outside_sum (10 ∷ 1 ∷ []) (9 ∷ 1 ∷ []) + needed_by (10 ∷ 1 ∷ []) (9 ∷ 1 ∷ []) 1 ≡ 6 = refl in omega (arith, e)
needs (suc (suc q)) has = absurd (let f = has.0 in omega (arith, f))

pub half_decides : HalfDecides
half_decides = record {
  fewer = omega arith;
  least = omega arith;
  first = refl;
  second = refl;
  growth = (closed_house (10 ∷ 1 ∷ []) (9 ∷ 1 ∷ []) 9 20 10).1 (
    (λ empty. empty 0 (omega arith)),
    omega arith,
    record { from = omega arith; enough = needs; one_of = inr (0, (omega arith, omega arith), refl) },
  );
}

without_halves : (q : ℕ) → HasMinimum votes_2013 floors_2013 q → (2 * get_or floors_2013 q 0 - 1) * sum votes_2013 < 2 * get_or votes_2013 q 0 * 631
without_halves zero has = let l : 483 * 36867417 < 29843754 * 631 = omega arith in l
without_halves (suc zero) has = let l : 363 * 36867417 < 22504430 * 631 = omega arith in l
without_halves (suc (suc zero)) has = let l : 121 * 36867417 < 7511398 * 631 = omega arith in l
without_halves (suc (suc (suc zero))) has = let l : 119 * 36867417 < 7388114 * 631 = omega arith in l
without_halves (suc (suc (suc (suc zero)))) has = let l : 111 * 36867417 < 6487138 * 631 = omega arith in l
without_halves (suc (suc (suc (suc (suc q))))) has = absurd (let f = has.0 in omega (arith, f))

pub bound_2013 : Bound2013
bound_2013 = record {
  without_halves = without_halves;
  of_last = (let l : 6487138 * 631 ≤ 111 * 36867417 + 3243569 * 5 = omega arith in l);
  of_first = (let l : 483 * 36867417 + 14921877 * 5 < 29843754 * 631 = omega arith in l);
}
