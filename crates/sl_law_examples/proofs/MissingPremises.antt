-- What fails where a premise is missing.
use Rattle.std.proofs.Common.{ℕ, zero, suc, ◌≤◌, [], ◌∷◌, arith, refl, sym, subst}
use Rattle.sl_base_quotients.specs.declared.method.Divisor.TheVariants.{Adams, Dean, Hill, Webster, Jefferson}
use Rattle.sl_law_meaning.specs.methods.LeastHouse.{Meets, Serves}
use Rattle.sl_law_examples.specs.Failures.{IsOnly, Free, MoreVotesByLot, FewerVotesByLot, FewerVotesByMinima, MoreVotesAmongOthers, MajorityByMinima, WebsterMajority, HalfOfEven, HouseGrows}
use Rattle.sl_law_examples.proofs.Allocated.{divisor_some, divisor_only}

pub fewer_votes_by_lot : FewerVotesByLot
fewer_votes_by_lot = (
  divisor_some Adams (2 ∷ 1 ∷ []) (0 ∷ 0 ∷ []) (0 ∷ 1 ∷ []) refl refl refl,
  divisor_some Dean (2 ∷ 1 ∷ []) (0 ∷ 0 ∷ []) (0 ∷ 1 ∷ []) refl refl refl,
  divisor_some Hill (2 ∷ 1 ∷ []) (0 ∷ 0 ∷ []) (0 ∷ 1 ∷ []) refl refl refl,
)

pub more_votes_by_lot : MoreVotesByLot
more_votes_by_lot = (
  (divisor_some Adams (1 ∷ 1 ∷ []) (0 ∷ 0 ∷ []) (1 ∷ 0 ∷ []) refl refl refl, fewer_votes_by_lot.0),
  (divisor_some Dean (1 ∷ 1 ∷ []) (0 ∷ 0 ∷ []) (1 ∷ 0 ∷ []) refl refl refl, fewer_votes_by_lot.1),
  (divisor_some Hill (1 ∷ 1 ∷ []) (0 ∷ 0 ∷ []) (1 ∷ 0 ∷ []) refl refl refl, fewer_votes_by_lot.2),
)

pub fewer_votes_by_minima : FewerVotesByMinima
fewer_votes_by_minima Adams = divisor_only Adams (2 ∷ 1 ∷ []) (0 ∷ 2 ∷ []) (1 ∷ 2 ∷ []) refl refl refl
fewer_votes_by_minima Dean = divisor_only Dean (2 ∷ 1 ∷ []) (0 ∷ 2 ∷ []) (1 ∷ 2 ∷ []) refl refl refl
fewer_votes_by_minima Hill = divisor_only Hill (2 ∷ 1 ∷ []) (0 ∷ 2 ∷ []) (1 ∷ 2 ∷ []) refl refl refl
fewer_votes_by_minima Webster = divisor_only Webster (2 ∷ 1 ∷ []) (0 ∷ 2 ∷ []) (1 ∷ 2 ∷ []) refl refl refl
fewer_votes_by_minima Jefferson = divisor_only Jefferson (2 ∷ 1 ∷ []) (0 ∷ 2 ∷ []) (1 ∷ 2 ∷ []) refl refl refl

pub majority_by_minima : MajorityByMinima
majority_by_minima Adams = divisor_only Adams (2 ∷ 1 ∷ []) (0 ∷ 1 ∷ []) (0 ∷ 1 ∷ []) refl refl refl
majority_by_minima Dean = divisor_only Dean (2 ∷ 1 ∷ []) (0 ∷ 1 ∷ []) (0 ∷ 1 ∷ []) refl refl refl
majority_by_minima Hill = divisor_only Hill (2 ∷ 1 ∷ []) (0 ∷ 1 ∷ []) (0 ∷ 1 ∷ []) refl refl refl
majority_by_minima Webster = divisor_only Webster (2 ∷ 1 ∷ []) (0 ∷ 1 ∷ []) (0 ∷ 1 ∷ []) refl refl refl
majority_by_minima Jefferson = divisor_only Jefferson (2 ∷ 1 ∷ []) (0 ∷ 1 ∷ []) (0 ∷ 1 ∷ []) refl refl refl

pub more_votes_among_others : MoreVotesAmongOthers
more_votes_among_others = record {
  before = divisor_only Webster (7 ∷ 1 ∷ 4 ∷ []) (0 ∷ 0 ∷ 0 ∷ []) (3 ∷ 0 ∷ 1 ∷ []) refl refl refl;
  after = divisor_only Webster (8 ∷ 2 ∷ 2 ∷ []) (0 ∷ 0 ∷ 0 ∷ []) (2 ∷ 1 ∷ 1 ∷ []) refl refl refl;
}

pub webster_majority : WebsterMajority
webster_majority = divisor_only Webster (4 ∷ 1 ∷ 1 ∷ 1 ∷ []) (0 ∷ 0 ∷ 0 ∷ 0 ∷ []) (2 ∷ 1 ∷ 1 ∷ 1 ∷ []) refl refl refl

pub half_of_even : HalfOfEven
half_of_even = divisor_only Jefferson (3 ∷ 2 ∷ []) (0 ∷ 0 ∷ []) (1 ∷ 1 ∷ []) refl refl refl

two_meet : Meets (3 ∷ 2 ∷ []) (0 ∷ 1 ∷ []) (1 ∷ 1 ∷ [])
two_meet zero f = omega arith
two_meet (suc zero) f = omega arith
two_meet (suc (suc i)) f = omega arith

pub house_grows : HouseGrows
house_grows = record {
  first_house = one;
  growth = (
    λ empty. empty 0 (omega arith),
    record {
      from = omega arith;
      up_to = omega arith;
      outside = omega arith;
      met = λ t h. subst (λ s. Meets (3 ∷ 2 ∷ []) (0 ∷ 1 ∷ []) s) (sym (half_of_even.1 t h)) two_meet;
    },
    least,
  );
} where
  one : IsOnly (Free Jefferson (3 ∷ 2 ∷ []) 1) (1 ∷ 0 ∷ [])
  one = divisor_only Jefferson (3 ∷ 2 ∷ []) (0 ∷ 0 ∷ []) (1 ∷ 0 ∷ []) refl refl refl

  least : (h : ℕ) → Serves Jefferson (3 ∷ 2 ∷ []) (0 ∷ 1 ∷ []) 1 9 h → 2 ≤ h
  least zero s = absurd (let from = s.from in omega (arith, from))
  least (suc zero) s = absurd (let le : 1 ≤ 0 = s.met (1 ∷ 0 ∷ []) one.0 1 (omega arith) in omega (arith, le))
  least (suc (suc h)) s = omega arith
