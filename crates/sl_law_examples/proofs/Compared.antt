-- What fails from one method to another and by other measures, by tests that compute; and premises that are met.
use Rattle.std.proofs.Common.{◌≡◌, ℕ, zero, suc, ◌+◌, ◌*◌, ◌<◌, ◌≤◌, Bool, true, false, List, [], ◌∷◌, length, get_or, max, sum, inl, inr, arith, refl, subst}
use Rattle.std.specs.Prelude.{Contains}
use Rattle.std.proofs.lemmas.Bool.{cases_lt}
use Rattle.std.proofs.lemmas.List.Sorted.{IsPermutation-to_front}
use Rattle.sl_base_quotients.specs.declared.method.Divisor.{Divisor}
use Rattle.sl_base_quotients.specs.declared.method.Divisor.TheVariants.{Adams, Dean, Hill, Webster, Jefferson}
use Rattle.sl_law_meaning.specs.methods.Hamilton.{IsHamiltonAllocation}
use Rattle.sl_law_meaning.specs.methods.Ties.{Distinct}
use Rattle.sl_law_meaning.proofs.methods.RaisedSeats.{Contains-head, Contains-tail, Contains-cases, Contains-none}
use Rattle.sl_law_examples.specs.Failures.{IsOnly, Free}
use Rattle.sl_law_examples.specs.Measures.{EqualRemainders, PreferredDeviates, OneGains, JustShares, WholePercents, OtherField, PutInPlace, NotNear, TwoByLot}
use Rattle.sl_law_examples.specs.Measures.{LaterMethods, NoDivisor, MostLeastByLot, WebsterDeviates}
use Rattle.sl_law_examples.proofs.Allocated.{divisor_some, divisor_only, hamilton_some, hamilton_only, hamilton_only_with}
use Rattle.sl_law_examples.proofs.DeanAndHill.{join}
use Rattle.sl_law_examples.proofs.EqualVotes.{equal_votes, larger_house_by_tie}
use Rattle.sl_law_examples.proofs.MissingPremises.{fewer_votes_by_lot}
use Rattle.sl_law_examples.proofs.OutsideQuota.{webster_below}
use Rattle.sl_law_examples.proofs.Sharper.{sum_three}

-- ---- Hamilton's method

pub equal_remainders : EqualRemainders
equal_remainders true = (hamilton_some true (1 ∷ 1 ∷ []) (1 ∷ 0 ∷ []) refl refl, hamilton_some true (1 ∷ 1 ∷ []) (0 ∷ 1 ∷ []) refl refl)
equal_remainders false = (hamilton_some false (1 ∷ 1 ∷ []) (1 ∷ 0 ∷ []) refl refl, hamilton_some false (1 ∷ 1 ∷ []) (0 ∷ 1 ∷ []) refl refl)

pub preferred_deviates : PreferredDeviates
preferred_deviates = record {
  plain = hamilton_only (4 ∷ 2 ∷ 1 ∷ []) (1 ∷ 1 ∷ 0 ∷ []) refl refl;
  preferred = hamilton_only_with true (4 ∷ 2 ∷ 1 ∷ []) (2 ∷ 0 ∷ 0 ∷ []) refl refl;
  more = (let l : 6 < 12 = omega arith in l);
}

pub one_gains : OneGains
one_gains = record {
  before = hamilton_only (3 ∷ 3 ∷ 1 ∷ []) (1 ∷ 1 ∷ 1 ∷ []) refl refl;
  after = hamilton_only (4 ∷ 3 ∷ 1 ∷ []) (2 ∷ 1 ∷ 0 ∷ []) refl refl;
}

-- ---- the principles

shares : (method : Divisor) → IsOnly (Free method (6 ∷ 4 ∷ 2 ∷ []) 6) (3 ∷ 2 ∷ 1 ∷ [])
shares Adams = divisor_only Adams (6 ∷ 4 ∷ 2 ∷ []) (0 ∷ 0 ∷ 0 ∷ []) (3 ∷ 2 ∷ 1 ∷ []) refl refl refl
shares Dean = divisor_only Dean (6 ∷ 4 ∷ 2 ∷ []) (0 ∷ 0 ∷ 0 ∷ []) (3 ∷ 2 ∷ 1 ∷ []) refl refl refl
shares Hill = divisor_only Hill (6 ∷ 4 ∷ 2 ∷ []) (0 ∷ 0 ∷ 0 ∷ []) (3 ∷ 2 ∷ 1 ∷ []) refl refl refl
shares Webster = divisor_only Webster (6 ∷ 4 ∷ 2 ∷ []) (0 ∷ 0 ∷ 0 ∷ []) (3 ∷ 2 ∷ 1 ∷ []) refl refl refl
shares Jefferson = divisor_only Jefferson (6 ∷ 4 ∷ 2 ∷ []) (0 ∷ 0 ∷ 0 ∷ []) (3 ∷ 2 ∷ 1 ∷ []) refl refl refl

by_remainders : (prefer : Bool) → IsOnly (IsHamiltonAllocation prefer (6 ∷ 4 ∷ 2 ∷ []) 6) (3 ∷ 2 ∷ 1 ∷ [])
by_remainders true = hamilton_only_with true (6 ∷ 4 ∷ 2 ∷ []) (3 ∷ 2 ∷ 1 ∷ []) refl refl
by_remainders false = hamilton_only_with false (6 ∷ 4 ∷ 2 ∷ []) (3 ∷ 2 ∷ 1 ∷ []) refl refl

pub just_shares : JustShares
just_shares = record { seats = shares; remainders = by_remainders; order = IsPermutation-to_front (0 ∷ 1 ∷ []) 2; turned = refl }

pub whole_percents : WholePercents
whole_percents = record {
  votes = divisor_only Webster (751 ∷ 249 ∷ []) (0 ∷ 0 ∷ []) (2 ∷ 0 ∷ []) refl refl refl;
  percents = divisor_some Webster (75 ∷ 25 ∷ []) (0 ∷ 0 ∷ []) (1 ∷ 1 ∷ []) refl refl refl;
  votes_by_remainders = hamilton_only (751 ∷ 249 ∷ []) (2 ∷ 0 ∷ []) refl refl;
  percents_by_remainders = hamilton_some false (75 ∷ 25 ∷ []) (1 ∷ 1 ∷ []) refl refl;
}

-- ---- without a premise, and with it

pub other_field : OtherField
other_field = (
  (divisor_only Adams (1 ∷ 0 ∷ []) (0 ∷ 0 ∷ []) (1 ∷ 0 ∷ []) refl refl refl, (equal_votes Adams).1),
  (divisor_only Dean (1 ∷ 0 ∷ []) (0 ∷ 0 ∷ []) (1 ∷ 0 ∷ []) refl refl refl, (equal_votes Dean).1),
  (divisor_only Hill (1 ∷ 0 ∷ []) (0 ∷ 0 ∷ []) (1 ∷ 0 ∷ []) refl refl refl, (equal_votes Hill).1),
)

first_alone : (method : Divisor) → Free method (1 ∷ 1 ∷ []) 1 (1 ∷ 0 ∷ [])
first_alone method = (equal_votes method).0

zero_and_one : Distinct (0 ∷ 1 ∷ [])
zero_and_one = ((λ c. elim (Contains-cases 1 [] 0 c) [ inl e ↦ omega (arith, e) | inr rest ↦ Contains-none 0 rest ]), (Contains-none 1, tt))

abbrev before_it : List ℕ
before_it = 0 ∷ 1 ∷ 1 ∷ []

abbrev after_it : List ℕ
after_it = 1 ∷ 0 ∷ 1 ∷ []

the_last : (i : ℕ) → (Contains (0 ∷ 1 ∷ []) i → ⊥) → get_or after_it i 0 ≡ get_or before_it i 0
the_last zero out = absurd (out (Contains-head 0 (1 ∷ [])))
the_last (suc zero) out = absurd (out (Contains-tail 0 (1 ∷ []) 1 (Contains-head 1 [])))
the_last (suc (suc i)) out = refl

pub put_in_place : PutInPlace
put_in_place = record {
  distinct = zero_and_one;
  before = λ method. (larger_house_by_tie method).1;
  among = first_alone;
  put = record { same_length = refl; put = refl; others = the_last };
}

-- ---- quota, and joins

pub not_near : NotNear
not_near = record {
  few = (divisor_only Adams (4 ∷ 1 ∷ []) (0 ∷ 0 ∷ []) (1 ∷ 1 ∷ []) refl refl refl, divisor_only Dean (4 ∷ 1 ∷ []) (0 ∷ 0 ∷ []) (1 ∷ 1 ∷ []) refl refl refl, divisor_only Hill (4 ∷ 1 ∷ []) (0 ∷ 0 ∷ []) (1 ∷ 1 ∷ []) refl refl refl);
  few_apart = (omega arith, omega arith, omega arith);
  many = divisor_only Jefferson (4 ∷ 1 ∷ []) (0 ∷ 0 ∷ []) (3 ∷ 0 ∷ []) refl refl refl;
  many_apart = (omega arith, omega arith, omega arith);
}

pub two_by_lot : TwoByLot
two_by_lot = record {
  join = join 1 1 2 (1 ∷ 1 ∷ []) refl;
  had_none = divisor_some Jefferson (1 ∷ 1 ∷ 1 ∷ 1 ∷ []) (0 ∷ 0 ∷ 0 ∷ 0 ∷ []) (0 ∷ 0 ∷ 1 ∷ 1 ∷ []) refl refl refl;
  have_two = divisor_some Jefferson (2 ∷ 0 ∷ 1 ∷ 1 ∷ []) (0 ∷ 0 ∷ 0 ∷ 0 ∷ []) (2 ∷ 0 ∷ 0 ∷ 0 ∷ []) refl refl refl;
  had_four = divisor_some Adams (1 ∷ 1 ∷ 1 ∷ 1 ∷ []) (0 ∷ 0 ∷ 0 ∷ 0 ∷ []) (2 ∷ 2 ∷ 1 ∷ 1 ∷ []) refl refl refl;
  keep_two = divisor_some Adams (2 ∷ 0 ∷ 1 ∷ 1 ∷ []) (0 ∷ 0 ∷ 0 ∷ 0 ∷ []) (2 ∷ 0 ∷ 2 ∷ 2 ∷ []) refl refl refl;
}

-- ---- from one method to another

pub later_methods : LaterMethods
later_methods = record {
  one_each = divisor_only Adams (4 ∷ 3 ∷ 1 ∷ 1 ∷ []) (0 ∷ 0 ∷ 0 ∷ 0 ∷ []) (1 ∷ 1 ∷ 1 ∷ 1 ∷ []) refl refl refl;
  two_each = divisor_only Jefferson (4 ∷ 3 ∷ 1 ∷ 1 ∷ []) (0 ∷ 0 ∷ 0 ∷ 0 ∷ []) (2 ∷ 2 ∷ 0 ∷ 0 ∷ []) refl refl refl;
  earlier = divisor_only Webster (5 ∷ 2 ∷ 1 ∷ []) (0 ∷ 0 ∷ 0 ∷ []) (1 ∷ 1 ∷ 0 ∷ []) refl refl refl;
  later = divisor_only Jefferson (5 ∷ 2 ∷ 1 ∷ []) (0 ∷ 0 ∷ 0 ∷ []) (2 ∷ 0 ∷ 0 ∷ []) refl refl refl;
  first_by_lot = divisor_some Adams (2 ∷ 1 ∷ []) (0 ∷ 0 ∷ []) (1 ∷ 0 ∷ []) refl refl refl;
  second_by_lot = fewer_votes_by_lot.1;
}

-- ---- by a divisor, and by measures

pub no_divisor : NoDivisor
no_divisor = record {
  by_lot = fewer_votes_by_lot;
  up = λ h.
      let r = h.rounded 0 (omega arith) in
      let none : r.0 ≡ 0 = (let e : 0 ≡ max 0 r.0 = r.2 in omega (arith, e)) in
      let below = subst (λ n. 2 * h.divisor.den ≤ n * h.divisor.num) none r.1.not_below in
      let some = h.positive.1 in omega (arith, below, some);
  harmonic = λ h.
      let r = h.rounded 0 (omega arith) in
      let none : r.0 ≡ 0 = (let e : 0 ≡ max 0 r.0 = r.2 in omega (arith, e)) in
      let below = subst (λ n. (2 * n + 1) * (2 * h.divisor.den) ≤ 2 * (n * (n + 1)) * h.divisor.num) none r.1.not_below in
      let some = h.positive.1 in omega (arith, below, some);
  geometric = λ h.
      let r = h.rounded 0 (omega arith) in
      let none : r.0 ≡ 0 = (let e : 0 ≡ max 0 r.0 = r.2 in omega (arith, e)) in
      let below = subst (λ n. 2 * 2 * h.divisor.den ≤ n * (n + 1) * h.divisor.num) none r.1.not_below in
      let some = h.positive.1 in omega (arith, below, some);
}

-- one of three entries has none of two seats
none_for_one : (t : List ℕ) → length t ≡ 3 → sum t ≡ 2 → (j : ℕ) × (0 < get_or {A = ℕ} (1 ∷ 1 ∷ 1 ∷ []) j 0) × (get_or t j 0 ≡ 0)
none_for_one t long total =
    let all = sum_three t long in
    elim (cases_lt 0 (get_or t 0 0)) [
      | inr g ↦ (0, omega arith, omega (arith, g))
      | inl a ↦ elim (cases_lt 0 (get_or t 1 0)) [ inr g ↦ (1, omega arith, omega (arith, g)) | inl b ↦ (2, omega arith, omega (arith, all, total, a, b)) ]
    ]

none_times : (n a b : ℕ) → n ≡ 0 → n * a ≤ b
none_times zero a b e = omega arith
none_times (suc n) a b e = absurd (omega (arith, e))

pub most_least_by_lot : MostLeastByLot
most_least_by_lot = record {
  given = record { same_length = refl; total = refl; outside = outside };
  most = λ t h i f. let found = none_for_one t h.same_length h.total in (found.0, found.1, none_times (get_or t found.0 0) _ _ found.2);
  none = λ h. let le : 1 * 1 ≤ 1 * 0 = h.min_max 0 1 (omega arith) (omega arith) (omega arith) in omega (arith, le);
} where
  outside : (i : ℕ) → get_or {A = ℕ} (1 ∷ 1 ∷ 1 ∷ []) i 0 ≡ 0 → get_or {A = ℕ} (2 ∷ 0 ∷ 0 ∷ []) i 0 ≡ 0
  outside zero e = absurd (omega (arith, e))
  outside (suc zero) e = absurd (omega (arith, e))
  outside (suc (suc zero)) e = absurd (omega (arith, e))
  outside (suc (suc (suc i))) e = refl

pub webster_deviates : WebsterDeviates
webster_deviates = record { seats = webster_below.seats; less = (let l : 12 < 18 = omega arith in l) }
