-- The worked scopes, by tests that compute.
use Rattle.std.proofs.Common.{◌≡◌, ℕ, zero, suc, ◌+◌, ◌<◌, true, false, List, [], ◌∷◌, length, sum, inl, inr, arith, refl}
use Rattle.sl_base_quotients.specs.declared.method.Divisor.TheVariants.{Adams, Webster, Jefferson}
use Rattle.sl_law_meaning.specs.methods.LeastHouse.{Meets}
use Rattle.sl_law_meaning.specs.methods.Ties.{Distinct, Lists, NamesAll, IsChoice, Decided, Tied}
use Rattle.sl_law_meaning.specs.laws.Ladders.{Ladders, RaisesEach, AreFalling, IsTop, IsSettled, IsPeer, divisor_ladders, hamilton_ladders, covering_ladders}
use Rattle.sl_law_meaning.specs.laws.MethodLaws.{AllHaveVotes}
use Rattle.sl_law_examples.specs.Examples.{WebsterThirtyTen, FirstSeats, four_lists, HamiltonMajority, ThreeWinners}
use Rattle.sl_law_meaning.proofs.methods.RaisedSeats.{Contains-head, Contains-cases, Contains-none}
use Rattle.sl_law_meaning.proofs.methods.LadderProofs.{batches, raise_each}
use Rattle.sl_law_meaning.proofs.methods.DivisorProofs.{divisor_tops}
use Rattle.sl_law_meaning.proofs.methods.HamiltonProofs.{hamilton_tops}
use Rattle.sl_law_meaning.proofs.methods.CoveringProofs.{covering_tops}
use Rattle.sl_law_meaning.proofs.methods.HouseProofs.{growing}
use Rattle.sl_law_examples.proofs.SettledTests.{settled_test, settled_by_test, peers_test, peers_by_test, names_by_test, lacks_by_test}

module _ (l : Ladders) (law : AreFalling l) (s : List ℕ) (e : length s ≡ length l.base) (settled : settled_test l s ≡ true) where
  pub decided : (lot : List ℕ) → IsChoice (IsTop l (sum s)) lot (Decided s)
  decided = ((batches l law).settled s (settled_by_test l s law e settled)).choice

  module _ (peers : List ℕ) (listed : peers_test l s peers ≡ true) (r : ℕ) (pos : 0 < r) (less : r < length peers) where
    tied : (lot : List ℕ) → (NamesAll lot peers → ⊥) → IsChoice (IsTop l (sum s + r)) lot (Tied r peers)
    tied lot none = ((batches l law).batch s peers (settled_by_test l s law e settled) (peers_by_test l s law peers listed)).tied_ones r pos less lot none

two_peers : Lists (IsPeer (divisor_ladders Webster (30 ∷ 10 ∷ []) (0 ∷ 0 ∷ [])) (1 ∷ 0 ∷ [])) (0 ∷ 1 ∷ [])
two_peers = peers_by_test (divisor_ladders Webster (30 ∷ 10 ∷ []) (0 ∷ 0 ∷ [])) (1 ∷ 0 ∷ []) (divisor_tops Webster (30 ∷ 10 ∷ []) (0 ∷ 0 ∷ []) refl).falling (0 ∷ 1 ∷ []) refl

one_settled : IsSettled (divisor_ladders Webster (30 ∷ 10 ∷ []) (0 ∷ 0 ∷ [])) (1 ∷ 0 ∷ [])
one_settled = settled_by_test (divisor_ladders Webster (30 ∷ 10 ∷ []) (0 ∷ 0 ∷ [])) (1 ∷ 0 ∷ []) (divisor_tops Webster (30 ∷ 10 ∷ []) (0 ∷ 0 ∷ []) refl).falling refl refl

three_settled : IsSettled (divisor_ladders Webster (30 ∷ 10 ∷ []) (0 ∷ 0 ∷ [])) (2 ∷ 1 ∷ [])
three_settled = settled_by_test (divisor_ladders Webster (30 ∷ 10 ∷ []) (0 ∷ 0 ∷ [])) (2 ∷ 1 ∷ []) (divisor_tops Webster (30 ∷ 10 ∷ []) (0 ∷ 0 ∷ []) refl).falling refl refl

both_once : Distinct (1 ∷ 0 ∷ [])
both_once = (λ c. elim (Contains-cases 0 [] 1 c) [ inl e ↦ omega arith | inr h ↦ Contains-none 1 h ], (λ c. Contains-none 0 c, tt))

one_raised : RaisesEach (1 ∷ []) (1 ∷ 0 ∷ []) (1 ∷ 1 ∷ [])
one_raised = raise_each (1 ∷ 0 ∷ []) (1 ∷ []) (λ c. Contains-none 1 c, tt)
    (λ p c. elim (Contains-cases 1 [] p c) [ inl e ↦ omega arith | inr h ↦ absurd (Contains-none p h) ])

three_meet : Meets (30 ∷ 10 ∷ []) (0 ∷ 1 ∷ []) (2 ∷ 1 ∷ [])
three_meet zero f = omega arith
three_meet (suc zero) f = omega arith
three_meet (suc (suc i)) f = omega arith

pub webster_thirty_ten : WebsterThirtyTen
webster_thirty_ten =
    let tops = divisor_tops Webster (30 ∷ 10 ∷ []) (0 ∷ 0 ∷ []) refl in
    let l = divisor_ladders Webster (30 ∷ 10 ∷ []) (0 ∷ 0 ∷ []) in
    let grow = growing Webster (30 ∷ 10 ∷ []) (0 ∷ 1 ∷ []) refl in
    let batch = (batches l tops.falling).batch (1 ∷ 0 ∷ []) (0 ∷ 1 ∷ []) one_settled two_peers in
    record {
      tie = (tops.choice 2 [] (Tied 1 (0 ∷ 1 ∷ []))).0 (batch.tied_ones 1 (omega arith) (omega arith) [] (lacks_by_test [] (0 ∷ 1 ∷ []) 0 (Contains-head 0 (1 ∷ [])) refl));
      half_a_lot = (tops.choice 2 (1 ∷ []) (Tied 1 (0 ∷ 1 ∷ []))).0
          (batch.tied_ones 1 (omega arith) (omega arith) (1 ∷ []) (lacks_by_test (1 ∷ []) (0 ∷ 1 ∷ []) 0 (Contains-head 0 (1 ∷ [])) refl));
      lot = (tops.choice 2 (1 ∷ 0 ∷ []) (Decided (1 ∷ 1 ∷ []))).0
          (batch.drawn_ones 1 (omega arith) (omega arith) (1 ∷ 0 ∷ []) both_once (names_by_test (1 ∷ 0 ∷ []) (0 ∷ 1 ∷ []) refl) (1 ∷ 1 ∷ []) one_raised);
      three = λ lot. (tops.choice 3 lot (Decided (2 ∷ 1 ∷ []))).0 (decided l tops.falling (2 ∷ 1 ∷ []) refl refl lot);
      steps = (refl, refl, refl);
      growth = grow.house 3 (λ seats. (
        λ all. let le = grow.unmet (1 ∷ 0 ∷ []) (0 ∷ 1 ∷ []) one_settled two_peers 1 (omega arith) (omega arith) seats all in omega (arith, le),
        grow.met (2 ∷ 1 ∷ []) three_settled three_meet seats,
      )) 0 (omega arith) 2 9 (omega arith);
    }

pub first_seats : FirstSeats
first_seats =
    let infinite = divisor_tops Adams (3 ∷ 2 ∷ []) (0 ∷ 0 ∷ []) refl in
    let minima = divisor_tops Jefferson (100 ∷ 10 ∷ []) (0 ∷ 2 ∷ []) refl in
    record {
      infinite = (infinite.choice 1 [] (Tied 1 (0 ∷ 1 ∷ []))).0
          (tied (divisor_ladders Adams (3 ∷ 2 ∷ []) (0 ∷ 0 ∷ [])) infinite.falling (0 ∷ 0 ∷ []) refl refl (0 ∷ 1 ∷ []) refl 1 (omega arith) (omega arith) []
          (lacks_by_test [] (0 ∷ 1 ∷ []) 0 (Contains-head 0 (1 ∷ [])) refl));
      minima = (minima.choice 3 [] (Decided (1 ∷ 2 ∷ []))).0 (decided (divisor_ladders Jefferson (100 ∷ 10 ∷ []) (0 ∷ 2 ∷ [])) minima.falling (1 ∷ 2 ∷ []) refl refl []);
    }

pub hamilton_majority : HamiltonMajority
hamilton_majority =
    let plain = hamilton_tops false four_lists 5 in
    let preferred = hamilton_tops true four_lists 5 in
    record {
      plain = (plain.choice [] (Decided (2 ∷ 1 ∷ 1 ∷ 1 ∷ []))).0 (decided (hamilton_ladders false four_lists 5) plain.falling (2 ∷ 1 ∷ 1 ∷ 1 ∷ []) refl refl []);
      preferred = (preferred.choice [] (Decided (3 ∷ 1 ∷ 1 ∷ 0 ∷ []))).0 (decided (hamilton_ladders true four_lists 5) preferred.falling (3 ∷ 1 ∷ 1 ∷ 0 ∷ []) refl refl []);
    }

pub three_votes : (a b c : ℕ) → 0 < a → 0 < b → 0 < c → AllHaveVotes (a ∷ b ∷ c ∷ [])
three_votes a b c x y z zero less = x
three_votes a b c x y z (suc zero) less = y
three_votes a b c x y z (suc (suc zero)) less = z
three_votes a b c x y z (suc (suc (suc i))) less = absurd (omega arith)

pub three_winners : ThreeWinners
three_winners =
    let seated = covering_tops (300 ∷ 400 ∷ 390 ∷ []) (500 ∷ 1000 ∷ 900 ∷ []) (three_votes 300 400 390 (omega arith) (omega arith) (omega arith)) in
    let tie = covering_tops (300 ∷ 400 ∷ 360 ∷ []) (500 ∷ 1000 ∷ 900 ∷ []) (three_votes 300 400 360 (omega arith) (omega arith) (omega arith)) in
    record {
      seated = (seated.choice 2 [] (Decided (1 ∷ 0 ∷ 1 ∷ []))).0
          (decided (covering_ladders (300 ∷ 400 ∷ 390 ∷ []) (500 ∷ 1000 ∷ 900 ∷ [])) seated.falling (1 ∷ 0 ∷ 1 ∷ []) refl refl []);
      tie = (tie.choice 2 [] (Tied 1 (1 ∷ 2 ∷ []))).0
          (tied (covering_ladders (300 ∷ 400 ∷ 360 ∷ []) (500 ∷ 1000 ∷ 900 ∷ [])) tie.falling (1 ∷ 0 ∷ 0 ∷ []) refl refl (1 ∷ 2 ∷ []) refl 1 (omega arith) (omega arith) []
          (lacks_by_test [] (1 ∷ 2 ∷ []) 1 (Contains-head 1 (2 ∷ [])) refl));
    }
