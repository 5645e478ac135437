-- The weights of a scope's entries sum to a number that a register holds.
use Rattle.std.proofs.Common.{◌≡◌, ℕ, zero, suc, ◌+◌, ◌*◌, ◌<◌, ◌≤◌, List, length, map, refl, sym, subst, arith, mul-le-mul_right}
use Rattle.std.specs.Prelude.{sum, slice_index, All, Some, slice_get}
use Rattle.std.specs.List.Sorted.{IsStrictlyIncreasing}
use Rattle.std.proofs.lemmas.List.{length-map}
use Rattle.std.proofs.lemmas.List.Sums.{sum_by-le}
use Rattle.sl_base_quotients.specs.declared.limits.TheConstants.{MAX_WEIGHT, MAX_LANDS, MAX_PARTIES}
use Rattle.sl_law_meaning.specs.returns.Election.{Election, IsElection, lands_of, parties_of}
use Rattle.sl_law_meaning.specs.meaning.Scopes.{Group, place}
use Rattle.sl_code_semantics.specs.Places.{cells_of}
use Rattle.sl_code_semantics.specs.Effects.{most}
use Rattle.sl_compile_pieces.specs.scopes.Forms.{Form, AllParties, AllLands, votes_of, groups_of}
use Rattle.sl_compile_pieces.specs.scopes.Scopes.{IsScope}
use Rattle.sl_compile_pieces.proofs.scopes.Scopes.{scopes_hold}
use Rattle.sl_compile_pieces.proofs.seats.Lists.{mapped_at}
use Rattle.sl_compile_pieces.specs.seats.Slots.{HasCells}
use Rattle.sl_compile_plans.proofs.KeepingRules.{element_there}

-- ---- numbers that rise

least_at : (xs : List ℕ) (k : ℕ) → IsStrictlyIncreasing xs → k < length xs → k ≤ slice_index xs k
least_at xs zero rise less = omega arith
least_at xs (suc k) rise less =
    let next : k + 1 ≡ suc k = omega arith in
    let higher : slice_index xs k < slice_index xs (suc k) = subst (λ (n : ℕ). slice_index xs k < slice_index xs n) next (rise k (omega (arith, less))) in
    omega (arith, least_at xs k rise (omega (arith, less)), higher)

-- there are no more of them than numbers below their bound
rising_few : (xs : List ℕ) (n : ℕ) → IsStrictlyIncreasing xs → ((k : ℕ) → k < length xs → slice_index xs k < n) → length xs ≤ n
rising_few xs n rise below = of (length xs) refl
  where
    of : (m : ℕ) → length xs ≡ m → length xs ≤ n
    of zero is = omega (arith, is)
    of (suc k) is =
        omega (arith, is, least_at xs k rise)

-- ---- entries

module _ (e : Election) (f : Form) (g : Group) (h : IsScope e f g) where
  place_below : (k : ℕ) → k < length (map (place e) g.entries) → slice_index (map (place e) g.entries) k < cells_of e (votes_of f)
  place_below k less =
      let there = element_there g.entries k (omega (arith, less, length-map g.entries (place e))) in
      subst (λ (n : ℕ). n < cells_of e (votes_of f)) (sym (mapped_at (place e) g.entries k there.0 there.1)) (h.entry k there.0 there.1).within

  few_entries : length g.entries ≤ cells_of e (votes_of f)
  few_entries =
      let all : length (map (place e) g.entries) ≤ cells_of e (votes_of f) = rising_few (map (place e) g.entries) (cells_of e (votes_of f)) h.increasing place_below in
      omega (arith, length-map g.entries (place e), all)

few_cells : (e : Election) (f : Form) → IsElection e → cells_of e (votes_of f) ≤ MAX_LANDS * MAX_PARTIES
few_cells e f is = of f
  where
    l : lands_of e ≤ MAX_LANDS
    l = is.lands

    p : parties_of e ≤ MAX_PARTIES
    p = is.parties

    lists : lands_of e * parties_of e ≤ MAX_LANDS * MAX_PARTIES
    lists =
        omega (arith, mul-le-mul_right (parties_of e) l, p)

    of : (f : Form) → cells_of e (votes_of f) ≤ MAX_LANDS * MAX_PARTIES
    of AllParties = omega (arith, p)
    of AllLands = omega (arith, l)
    of _ = lists

-- weights of a scope's entries sum to a number that a register holds
pub weights_fit : (e : Election) (f : Form) (m : ℕ) (g : Group) (column : ℕ → ℕ) (v : List ℕ) → IsElection e → slice_get (groups_of e f) m ≡ Some g →
    HasCells e g.entries column v → All (λ weight. weight ≤ MAX_WEIGHT) v → sum v ≤ most
weights_fit e f m g column v is at cells small =
    let entries : length g.entries ≤ cells_of e (votes_of f) = few_entries e f g (scopes_hold e f m g at) in
    let all : cells_of e (votes_of f) ≤ MAX_LANDS * MAX_PARTIES = few_cells e f is in
    omega (arith, sum_by-le (λ x. x) MAX_WEIGHT v small)
