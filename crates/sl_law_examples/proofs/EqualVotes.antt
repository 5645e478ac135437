-- What fails with equal votes, and with entries that are named twice, under each divisor method.
use Rattle.std.proofs.Common.{◌≡◌, ℕ, zero, suc, List, [], ◌∷◌, get_or, arith, refl}
use Rattle.std.specs.Prelude.{Contains}
use Rattle.sl_base_quotients.specs.declared.method.Divisor.{Divisor}
use Rattle.sl_base_quotients.specs.declared.method.Divisor.TheVariants.{Adams, Dean, Hill, Webster, Jefferson}
use Rattle.sl_law_meaning.proofs.methods.RaisedSeats.{Contains-head, Contains-tail}
use Rattle.sl_law_examples.specs.Failures.{Free, EqualVotes, LargerHouseByTie, first_twice, NamedTwice}
use Rattle.sl_law_examples.proofs.Allocated.{divisor_some}

first_of_two : (method : Divisor) → Free method (1 ∷ 1 ∷ []) 1 (1 ∷ 0 ∷ [])
first_of_two Adams = divisor_some Adams (1 ∷ 1 ∷ []) (0 ∷ 0 ∷ []) (1 ∷ 0 ∷ []) refl refl refl
first_of_two Dean = divisor_some Dean (1 ∷ 1 ∷ []) (0 ∷ 0 ∷ []) (1 ∷ 0 ∷ []) refl refl refl
first_of_two Hill = divisor_some Hill (1 ∷ 1 ∷ []) (0 ∷ 0 ∷ []) (1 ∷ 0 ∷ []) refl refl refl
first_of_two Webster = divisor_some Webster (1 ∷ 1 ∷ []) (0 ∷ 0 ∷ []) (1 ∷ 0 ∷ []) refl refl refl
first_of_two Jefferson = divisor_some Jefferson (1 ∷ 1 ∷ []) (0 ∷ 0 ∷ []) (1 ∷ 0 ∷ []) refl refl refl

second_of_two : (method : Divisor) → Free method (1 ∷ 1 ∷ []) 1 (0 ∷ 1 ∷ [])
second_of_two Adams = divisor_some Adams (1 ∷ 1 ∷ []) (0 ∷ 0 ∷ []) (0 ∷ 1 ∷ []) refl refl refl
second_of_two Dean = divisor_some Dean (1 ∷ 1 ∷ []) (0 ∷ 0 ∷ []) (0 ∷ 1 ∷ []) refl refl refl
second_of_two Hill = divisor_some Hill (1 ∷ 1 ∷ []) (0 ∷ 0 ∷ []) (0 ∷ 1 ∷ []) refl refl refl
second_of_two Webster = divisor_some Webster (1 ∷ 1 ∷ []) (0 ∷ 0 ∷ []) (0 ∷ 1 ∷ []) refl refl refl
second_of_two Jefferson = divisor_some Jefferson (1 ∷ 1 ∷ []) (0 ∷ 0 ∷ []) (0 ∷ 1 ∷ []) refl refl refl

pub equal_votes : EqualVotes
equal_votes method = (first_of_two method, second_of_two method)

one_of_three : (method : Divisor) → Free method (1 ∷ 1 ∷ 1 ∷ []) 1 (1 ∷ 0 ∷ 0 ∷ [])
one_of_three Adams = divisor_some Adams (1 ∷ 1 ∷ 1 ∷ []) (0 ∷ 0 ∷ 0 ∷ []) (1 ∷ 0 ∷ 0 ∷ []) refl refl refl
one_of_three Dean = divisor_some Dean (1 ∷ 1 ∷ 1 ∷ []) (0 ∷ 0 ∷ 0 ∷ []) (1 ∷ 0 ∷ 0 ∷ []) refl refl refl
one_of_three Hill = divisor_some Hill (1 ∷ 1 ∷ 1 ∷ []) (0 ∷ 0 ∷ 0 ∷ []) (1 ∷ 0 ∷ 0 ∷ []) refl refl refl
one_of_three Webster = divisor_some Webster (1 ∷ 1 ∷ 1 ∷ []) (0 ∷ 0 ∷ 0 ∷ []) (1 ∷ 0 ∷ 0 ∷ []) refl refl refl
one_of_three Jefferson = divisor_some Jefferson (1 ∷ 1 ∷ 1 ∷ []) (0 ∷ 0 ∷ 0 ∷ []) (1 ∷ 0 ∷ 0 ∷ []) refl refl refl

two_of_three : (method : Divisor) → Free method (1 ∷ 1 ∷ 1 ∷ []) 2 (0 ∷ 1 ∷ 1 ∷ [])
two_of_three Adams = divisor_some Adams (1 ∷ 1 ∷ 1 ∷ []) (0 ∷ 0 ∷ 0 ∷ []) (0 ∷ 1 ∷ 1 ∷ []) refl refl refl
two_of_three Dean = divisor_some Dean (1 ∷ 1 ∷ 1 ∷ []) (0 ∷ 0 ∷ 0 ∷ []) (0 ∷ 1 ∷ 1 ∷ []) refl refl refl
two_of_three Hill = divisor_some Hill (1 ∷ 1 ∷ 1 ∷ []) (0 ∷ 0 ∷ 0 ∷ []) (0 ∷ 1 ∷ 1 ∷ []) refl refl refl
two_of_three Webster = divisor_some Webster (1 ∷ 1 ∷ 1 ∷ []) (0 ∷ 0 ∷ 0 ∷ []) (0 ∷ 1 ∷ 1 ∷ []) refl refl refl
two_of_three Jefferson = divisor_some Jefferson (1 ∷ 1 ∷ 1 ∷ []) (0 ∷ 0 ∷ 0 ∷ []) (0 ∷ 1 ∷ 1 ∷ []) refl refl refl

pub larger_house_by_tie : LargerHouseByTie
larger_house_by_tie method = (one_of_three method, two_of_three method)

among_four : (method : Divisor) → Free method (1 ∷ 1 ∷ 1 ∷ 1 ∷ []) 2 (1 ∷ 1 ∷ 0 ∷ 0 ∷ [])
among_four Adams = divisor_some Adams (1 ∷ 1 ∷ 1 ∷ 1 ∷ []) (0 ∷ 0 ∷ 0 ∷ 0 ∷ []) (1 ∷ 1 ∷ 0 ∷ 0 ∷ []) refl refl refl
among_four Dean = divisor_some Dean (1 ∷ 1 ∷ 1 ∷ 1 ∷ []) (0 ∷ 0 ∷ 0 ∷ 0 ∷ []) (1 ∷ 1 ∷ 0 ∷ 0 ∷ []) refl refl refl
among_four Hill = divisor_some Hill (1 ∷ 1 ∷ 1 ∷ 1 ∷ []) (0 ∷ 0 ∷ 0 ∷ 0 ∷ []) (1 ∷ 1 ∷ 0 ∷ 0 ∷ []) refl refl refl
among_four Webster = divisor_some Webster (1 ∷ 1 ∷ 1 ∷ 1 ∷ []) (0 ∷ 0 ∷ 0 ∷ 0 ∷ []) (1 ∷ 1 ∷ 0 ∷ 0 ∷ []) refl refl refl
among_four Jefferson = divisor_some Jefferson (1 ∷ 1 ∷ 1 ∷ 1 ∷ []) (0 ∷ 0 ∷ 0 ∷ 0 ∷ []) (1 ∷ 1 ∷ 0 ∷ 0 ∷ []) refl refl refl

abbrev first_alone : List ℕ
first_alone = 1 ∷ 0 ∷ 0 ∷ []

abbrev last_two : List ℕ
last_two = 0 ∷ 1 ∷ 1 ∷ []

others : (i : ℕ) → (Contains first_twice i → ⊥) → get_or first_alone i 0 ≡ get_or last_two i 0
others zero out = absurd (out (Contains-head 0 (0 ∷ 1 ∷ 2 ∷ [])))
others (suc zero) out = absurd (out (Contains-tail 0 (0 ∷ 1 ∷ 2 ∷ []) 1 (Contains-tail 0 (1 ∷ 2 ∷ []) 1 (Contains-head 1 (2 ∷ [])))))
others (suc (suc zero)) out =
    absurd (out (Contains-tail 0 (0 ∷ 1 ∷ 2 ∷ []) 2 (Contains-tail 0 (1 ∷ 2 ∷ []) 2 (Contains-tail 1 (2 ∷ []) 2 (Contains-head 2 [])))))
others (suc (suc (suc i))) out = refl

pub named_twice : NamedTwice
named_twice = record {
  before = two_of_three;
  among = among_four;
  put = record { same_length = refl; put = refl; others = others };
  after = λ method h. let total = h.total in absurd (omega (arith, total));
}
