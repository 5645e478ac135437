-- What a plan takes at most: its steps and its instructions, by its price and its size, which are found by evaluation.
use Rattle.std.proofs.Common.{◌≡◌, ℕ, ◌+◌, ◌*◌, ◌<◌, ◌≤◌, Bool, true, ◌&&◌, arith}
use Rattle.std.proofs.Math.Nat.{mul-le-mul_left, mul-le-mul_right}
use Rattle.std.specs.Prelude.{nat_lt}
use Rattle.std.proofs.lemmas.Bool.{and_parts, ltb-true}
use Rattle.sl_base_quotients.specs.declared.limits.TheConstants.{MAX_SEATS}
use Rattle.sl_law_meaning.specs.returns.Election.{Election, lands_of, parties_of, wins_of}
use Rattle.sl_code_semantics.specs.declared.budget.TheConstants.{STEPS_EACH}
use Rattle.sl_code_semantics.specs.Runs.{share_of}
use Rattle.sl_compile_plans.specs.Trees.{Tree, size_of}
use Rattle.sl_compile_plans.specs.Meaning.{cost}
use Rattle.sl_compile_plans.specs.Prices.{Rate, rate_at, price_of, has_price, up_to}
use Rattle.sl_compile_plans.proofs.Prices.{plans_cost_their_price, times_below}

-- the plan has a price; none of its first four numbers is above the first number, none of the others above the second; and its instructions are no
-- more than the third
abbrev pub is_modest : (plain by_win size : ℕ) → Tree → Bool
is_modest plain by_win size tree = has_price tree && (up_to plain (price_of tree).plain && (up_to by_win (price_of tree).by_win && nat_lt (size_of tree) (size + 1)))

pub record IsModest (plain by_win size : ℕ) (tree : Tree) : Type 0 where
  pub is : is_modest plain by_win size tree ≡ true

-- the plan of a split or of a growth
abbrev pub IsNodePlan : Tree → Type 0
IsNodePlan = IsModest 500000 0 350

-- ---- instructions

pub size_at_most : (plain by_win size : ℕ) (tree : Tree) → IsModest plain by_win size tree → size_of tree + 1 ≤ size + 1
size_at_most plain by_win size tree modest =
    let priced = and_parts (has_price tree) _ modest.is in
    let rates = and_parts (up_to plain (price_of tree).plain) _ priced.1 in
    let wins = and_parts (up_to by_win (price_of tree).by_win) (nat_lt (size_of tree) (size + 1)) rates.1 in
    let few : size_of tree < size + 1 = ltb-true (size_of tree) (size + 1) wins.1 in
    omega (arith, few)

-- ---- steps

-- a rate none of whose numbers is above n, for so many parties and Länder
rate_at_most : (p l n : ℕ) (r : Rate) → up_to n r ≡ true → rate_at p l r ≤ (p + 1) * (l + 1) * n
rate_at_most p l n r h =
    let one = and_parts (nat_lt r.fixed (n + 1)) _ h in
    let two = and_parts (nat_lt r.by_party (n + 1)) _ one.1 in
    let three = and_parts (nat_lt r.by_land (n + 1)) (nat_lt r.by_list (n + 1)) two.1 in
    let fixed : r.fixed < n + 1 = ltb-true r.fixed (n + 1) one.0 in
    omega (arith, fixed, times_below r.by_party n p (ltb-true _ _ two.0), times_below r.by_land n l (ltb-true _ _ three.0), times_below r.by_list n (l * p) (ltb-true _ _ three.1))

module _ (e : Election) where
  -- so many steps, and so many for each winner, each as often as there are pairs of a party, or none, and a Land, or none
  abbrev pub steps : ℕ → ℕ → ℕ
  steps plain by_win = (parties_of e + 1) * (lands_of e + 1) * (plain + by_win * wins_of e)

  -- a plan costs no more than its price allows
  cost_at_most : (plain by_win size : ℕ) (tree : Tree) → IsModest plain by_win size tree → cost e tree ≤ steps plain by_win
  cost_at_most plain by_win size tree modest =
      let priced = and_parts (has_price tree) _ modest.is in
      let rates = and_parts (up_to plain (price_of tree).plain) _ priced.1 in
      let wins = and_parts (up_to by_win (price_of tree).by_win) (nat_lt (size_of tree) (size + 1)) rates.1 in
      rw (plans_cost_their_price e tree priced.0)
      (of (rate_at (parties_of e) (lands_of e) (price_of tree).plain) (rate_at (parties_of e) (lands_of e) (price_of tree).by_win) ((parties_of e + 1) * (lands_of e + 1)) (wins_of e)
      (rate_at_most (parties_of e) (lands_of e) plain (price_of tree).plain rates.0) (rate_at_most (parties_of e) (lands_of e) by_win (price_of tree).by_win wins.0))
    where
      of : (a b q w : ℕ) → a ≤ q * plain → b ≤ q * by_win → a + b * w ≤ q * (plain + by_win * w)
      of a b q w ha hb = omega (arith, ha, mul-le-mul_left w hb)

  -- with the declaration in front of a plan
  pub with_one : (plain by_win size : ℕ) (tree : Tree) → IsModest plain by_win size tree → cost e tree + 1 ≤ steps (plain + 1) by_win
  with_one plain by_win size tree modest = of (parties_of e) (lands_of e) (cost e tree) (by_win * wins_of e) (cost_at_most plain by_win size tree modest)
    where
      of : (p l c w : ℕ) → c ≤ (p + 1) * (l + 1) * (plain + w) → c + 1 ≤ (p + 1) * (l + 1) * (plain + 1 + w)
      of p l c w h = omega (arith, h)

-- they are a share at most, where none of the numbers is above a share's
pub within_share : (plain by_win size : ℕ) (tree : Tree) → plain + 1 ≤ STEPS_EACH * (MAX_SEATS + 2) → by_win ≤ STEPS_EACH → IsModest plain by_win size tree →
    (e : Election) → cost e tree + 1 ≤ share_of e
within_share plain by_win size tree few few_wins modest e = of (parties_of e) (lands_of e) (wins_of e) (cost e tree) (with_one e plain by_win size tree modest)
  where
    of : (p l w c : ℕ) → c + 1 ≤ (p + 1) * (l + 1) * (plain + 1 + by_win * w) → c + 1 ≤ STEPS_EACH * (p + 1) * (l + 1) * (MAX_SEATS + w + 2)
    of p l w c h =
        let each : by_win * w ≤ STEPS_EACH * w = mul-le-mul_right w few_wins in
        let all : (p + 1) * (l + 1) * (plain + 1 + by_win * w) ≤ (p + 1) * (l + 1) * (STEPS_EACH * (MAX_SEATS + w + 2)) = mul-le-mul_left ((p + 1) * (l + 1)) (omega (arith, few, each)) in
        omega (arith, h, all)
