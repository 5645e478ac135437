-- The allocations of a house that is grown: those of the field, and the minima outside it.
use Rattle.std.proofs.Common.{◌≡◌, ℕ, zero, suc, ◌+◌, ◌-◌, ◌≤◌, List, [], ◌∷◌, length, get_or, sum, inl, inr, arith, refl, sym, ap, ◌∙◌, subst}
use Rattle.std.specs.Prelude.{All}
use Rattle.std.proofs.lemmas.Bool.{cases_lt}
use Rattle.std.proofs.lemmas.List.Elements.{All-head, All-tail}
use Rattle.sl_base_quotients.specs.declared.method.Divisor.{Divisor}
use Rattle.sl_base_quotients.specs.Quotient.{AtMost, quotient}
use Rattle.sl_law_meaning.specs.methods.Field.{InField, no_minima}
use Rattle.sl_law_meaning.specs.methods.Allocations.{IsDivisorAllocation}
use Rattle.sl_law_meaning.specs.methods.LeastHouse.{outside_minima, outside_sum, AllMeet, IsGrownAllocation}
use Rattle.sl_law_meaning.proofs.methods.SeatSums.{sum-cons, none_needed}
use Rattle.sl_law_meaning.proofs.methods.HouseProofs.{length-outside, outside_in, growth_batches}
use Rattle.sl_law_fairness.specs.Growths.{MeetsEach, GrownHouseMeets, GrowthStays, GrownByVotes}
use Rattle.sl_law_fairness.specs.Parts.{part}
use Rattle.sl_law_fairness.proofs.Parts.{coherent}

-- two lists added, entry by entry
abbrev added : List ℕ → List ℕ → List ℕ
added (x ∷ xs) (y ∷ ys) = (x + y) ∷ added xs ys
added xs ys = []

length-added : (xs ys : List ℕ) → length ys ≡ length xs → length (added xs ys) ≡ length xs
length-added [] ys e = refl
length-added (x ∷ xs) [] e = absurd (omega arith)
length-added (x ∷ xs) (y ∷ ys) e = ap (λ n. suc n) (length-added xs ys (omega arith))

at_added : (xs ys : List ℕ) (i : ℕ) → length ys ≡ length xs → get_or (added xs ys) i 0 ≡ get_or xs i 0 + get_or ys i 0
at_added [] [] i e = omega arith
at_added [] (y ∷ ys) i e = absurd (omega arith)
at_added (x ∷ xs) [] i e = absurd (omega arith)
at_added (x ∷ xs) (y ∷ ys) zero e = refl
at_added (x ∷ xs) (y ∷ ys) (suc i) e = at_added xs ys i (omega arith)

sum-added : (xs ys : List ℕ) → length ys ≡ length xs → sum (added xs ys) ≡ sum xs + sum ys
sum-added [] [] e = omega arith
sum-added [] (y ∷ ys) e = absurd (omega arith)
sum-added (x ∷ xs) [] e = absurd (omega arith)
sum-added (x ∷ xs) (y ∷ ys) e =
    let rest = sum-added xs ys (omega arith) in
    let a = sum-cons x xs in
    let b = sum-cons y ys in
    let c = sum-cons (x + y) (added xs ys) in
    omega (arith, rest, a, b, c)

module _ (method : Divisor) (v m : List ℕ) (e : length m ≡ length v) where
  module _ (house : ℕ) (enough : outside_sum v m ≤ house) (t : List ℕ) (h : IsDivisorAllocation method v (no_minima v) (house - outside_sum v m) t) where
    one_each : length (outside_minima v m) ≡ length t
    one_each = length-outside v m e ∙ sym h.same_length

    at : (i : ℕ) → get_or (added t (outside_minima v m)) i 0 ≡ get_or t i 0 + get_or (outside_minima v m) i 0
    at i = at_added t (outside_minima v m) i one_each

    at_field : (i : ℕ) → InField v i → get_or (added t (outside_minima v m)) i 0 ≡ get_or t i 0
    at_field i f = let a = at i in let z = outside_in v m i f in omega (arith, a, z)

    -- with the minima outside the field an allocation of the field is one of the house
    with_outside : IsGrownAllocation method v m house (added t (outside_minima v m))
    with_outside = record {
      same_length = length-added t (outside_minima v m) one_each ∙ h.same_length;
      total = let all = sum-added t (outside_minima v m) one_each in omega (arith, all, h.total, enough);
      minima = λ i. let a = at i in omega (arith, a);
      outside = λ i z. let a = at i in let none = h.outside i z in let zero' = none_needed (length v) i in omega (arith, a, none, zero');
      min_max = λ i j fi fj less.
          let ei = at_field i fi in
          let ej = at_field j fj in
          let z = none_needed (length v) i in
          let fair = h.min_max i j fi fj (omega (arith, less, ei, z)) in
          subst (λ n. AtMost (quotient method (get_or v j 0) n) (quotient method (get_or v i 0) (get_or (added t (outside_minima v m)) i 0 - 1))) (sym ej)
          (subst (λ n. AtMost (quotient method (get_or v j 0) (get_or t j 0)) (quotient method (get_or v i 0) (n - 1))) (sym ei) fair);
    }

    field_meets : MeetsEach method v m house → (i : ℕ) → InField v i → get_or m i 0 ≤ get_or t i 0
    field_meets meets i f = let le = meets (added t (outside_minima v m)) with_outside i in let a = at_field i f in omega (arith, le, a)

  all_meet : (house : ℕ) → outside_sum v m ≤ house → MeetsEach method v m house → AllMeet method v m (house - outside_sum v m)
  all_meet house enough meets t h = field_meets house enough t h meets

pub grown_house_meets : GrownHouseMeets
grown_house_meets method v m e seats cap house g = (
  λ s h i. (growth_batches method v m e).seats_meet seats cap house g.1 s h i,
  λ h from enough meets. elim (cases_lt cap h) [
    | inl above ↦ (let le = g.1.up_to in omega (arith, le, above))
    | inr up_to ↦ g.2 h (record { from = from; up_to = up_to; outside = enough; met = all_meet method v m e h enough meets })
  ],
)

pub growth_stays : GrowthStays
growth_stays method v m e seats cap field enough up_to meets = (
  field,
  record { from = omega arith; up_to = up_to; outside = enough; met = all_meet method v m e seats enough meets },
  λ h serves. serves.from,
)

-- entries with votes have no minima there
no_minima_among : (v m entries : List ℕ) → All (InField v) entries → part entries (outside_minima v m) ≡ no_minima (part entries v)
no_minima_among v m [] all = refl
no_minima_among v m (i ∷ entries) all = cc (outside_in v m i (All-head (InField v) i entries all), no_minima_among v m entries (All-tail (InField v) i entries all))

pub grown_by_votes : GrownByVotes
grown_by_votes method v m house s h entries all =
    subst (λ k. IsDivisorAllocation method (part entries v) k (sum (part entries s)) (part entries s)) (no_minima_among v m entries all) (coherent method v (outside_minima v m) house s h entries)
