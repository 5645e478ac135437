-- What plans cost.
use Rattle.std.proofs.Common.{◌≡◌, ℕ, ◌+◌, ◌*◌, ◌<◌, ◌≤◌, true, sym, ap, ◌∙◌, arith}
use Rattle.std.proofs.Math.Nat.{mul-le-mul_left}
use Rattle.std.proofs.lemmas.Bool.{and_parts, eqb-true, ltb-true}
use Rattle.sl_base_quotients.specs.declared.limits.TheConstants.{MAX_SEATS}
use Rattle.sl_law_meaning.specs.returns.Election.{Election, lands_of, parties_of, wins_of}
use Rattle.sl_code_semantics.specs.declared.budget.TheConstants.{STEPS_EACH}
use Rattle.sl_compile_plans.specs.declared.plan.Cursor.{Cursor}
use Rattle.sl_compile_plans.specs.declared.plan.Cursor.TheVariants as cursor
use Rattle.sl_compile_plans.specs.declared.plan.Bound.{Bound}
use Rattle.sl_compile_plans.specs.declared.plan.Bound.TheVariants as bound
use Rattle.sl_compile_plans.specs.Trees.{Tree, Line, Stop, Then, If, Each, Times}
use Rattle.sl_compile_plans.specs.Meaning.{count_of, turns_in, cost}
use Rattle.sl_compile_plans.specs.Costs.{PlansCostTheirPrice, SharesSuffice}
use Rattle.sl_compile_plans.specs.Prices.{Rate, Price, rate_at, price_at, both_prices, and_steps, rate_times, for_parties, for_lands, for_lists, without_party, without_land, only_fixed, is_nothing, for_each_of, may_be_each, as_often, may_be_often, price_of, has_price, up_to, is_in_share}

-- ---- prices at numbers of parties, Länder and winners
module _ (p l w : ℕ) where
  at_both : (a b : Price) → price_at p l w (both_prices a b) ≡ price_at p l w a + price_at p l w b
  at_both a b = omega arith

  at_more : (n : ℕ) (q : Price) → price_at p l w (and_steps n q) ≡ price_at p l w q + n
  at_more n q = omega arith

  at_times : (n : ℕ) (q : Price) → price_at p l w (record { plain = rate_times n q.plain; by_win = rate_times n q.by_win }) ≡ n * price_at p l w q
  at_times n q = omega arith

  at_parties : (r : Rate) → without_party r ≡ true → rate_at p l (for_parties r) ≡ p * rate_at p l r
  at_parties r h = of r.fixed r.by_party r.by_land r.by_list (eqb-true _ _ (and_parts _ _ h).0) (eqb-true _ _ (and_parts _ _ h).1)
    where
      of : (f x y z : ℕ) → x ≡ 0 → z ≡ 0 → 0 + f * p + 0 * l + y * (l * p) ≡ p * (f + x * p + y * l + z * (l * p))
      of f x y z hx hz = rw (hx, hz) (omega arith)

  at_lands : (r : Rate) → without_land r ≡ true → rate_at p l (for_lands r) ≡ l * rate_at p l r
  at_lands r h = of r.fixed r.by_party r.by_land r.by_list (eqb-true _ _ (and_parts _ _ h).0) (eqb-true _ _ (and_parts _ _ h).1)
    where
      of : (f x y z : ℕ) → y ≡ 0 → z ≡ 0 → 0 + 0 * p + f * l + x * (l * p) ≡ l * (f + x * p + y * l + z * (l * p))
      of f x y z hy hz = rw (hy, hz) (omega arith)

  at_lists : (r : Rate) → only_fixed r ≡ true → rate_at p l (for_lists r) ≡ (l * p) * rate_at p l r
  at_lists r h =
      let more = and_parts _ _ (and_parts _ _ h).1 in
      of r.fixed r.by_party r.by_land r.by_list (eqb-true _ _ (and_parts _ _ h).0) (eqb-true _ _ more.0) (eqb-true _ _ more.1)
    where
      of : (f x y z : ℕ) → x ≡ 0 → y ≡ 0 → z ≡ 0 → 0 + 0 * p + 0 * l + f * (l * p) ≡ (l * p) * (f + x * p + y * l + z * (l * p))
      of f x y z hx hy hz = rw (hx, hy, hz) (omega arith)

  at_nothing : (r : Rate) → is_nothing r ≡ true → rate_at p l r ≡ 0
  at_nothing r h =
      let rest = and_parts _ _ (and_parts _ _ h).1 in
      let more = and_parts _ _ rest.1 in
      of r.fixed r.by_party r.by_land r.by_list (eqb-true _ _ (and_parts _ _ h).0) (eqb-true _ _ rest.0) (eqb-true _ _ more.0) (eqb-true _ _ more.1)
    where
      of : (f x y z : ℕ) → f ≡ 0 → x ≡ 0 → y ≡ 0 → z ≡ 0 → f + x * p + y * l + z * (l * p) ≡ 0
      of f x y z hf hx hy hz = rw (hf, hx, hy, hz) (omega arith)

  -- a rate for each of so many, in both parts of a price
  in_both : (n a b x y : ℕ) → x ≡ n * a → y ≡ n * b → x + y * w ≡ n * (a + b * w)
  in_both n a b x y hx hy = rw (hx, hy) (omega arith)

  -- the plain part for each winner
  at_wins : (r none : Rate) → is_nothing none ≡ true → 0 + 0 * p + 0 * l + 0 * (l * p) + rate_at p l r * w ≡ w * (rate_at p l r + rate_at p l none * w)
  at_wins r none h = of (rate_at p l r) (rate_at p l none) (at_nothing none h)
    where
      of : (a b : ℕ) → b ≡ 0 → 0 + 0 * p + 0 * l + 0 * (l * p) + a * w ≡ w * (a + b * w)
      of a b hb = rw hb (omega arith)

-- ---- loops
module _ (e : Election) where
  abbrev at : Price → ℕ
  at q = price_at (parties_of e) (lands_of e) (wins_of e) q

  at_each : (over : Cursor) (q : Price) → may_be_each over q ≡ true → at (for_each_of over q) ≡ count_of e over * at q
  at_each cursor.Party q h =
      let parts = and_parts _ _ h in
      in_both (parties_of e) (lands_of e) (wins_of e) (parties_of e) _ _ _ _ (at_parties (parties_of e) (lands_of e) (wins_of e) q.plain parts.0) (at_parties (parties_of e) (lands_of e) (wins_of e) q.by_win parts.1)
  at_each cursor.Land q h =
      let parts = and_parts _ _ h in
      in_both (parties_of e) (lands_of e) (wins_of e) (lands_of e) _ _ _ _ (at_lands (parties_of e) (lands_of e) (wins_of e) q.plain parts.0) (at_lands (parties_of e) (lands_of e) (wins_of e) q.by_win parts.1)
  at_each cursor.Win q h = at_wins (parties_of e) (lands_of e) (wins_of e) q.plain q.by_win h

  at_often : (m : Bound) (q : Price) → may_be_often m q ≡ true → at (as_often m q) ≡ turns_in e m * at q
  at_often (bound.AtMost n) q h = at_times (parties_of e) (lands_of e) (wins_of e) n q
  at_often bound.Lists q h =
      let parts = and_parts _ _ h in
      in_both (parties_of e) (lands_of e) (wins_of e) (lands_of e * parties_of e) _ _ _ _ (at_lists (parties_of e) (lands_of e) (wins_of e) q.plain parts.0) (at_lists (parties_of e) (lands_of e) (wins_of e) q.by_win parts.1)
  at_often bound.Wins q h = at_wins (parties_of e) (lands_of e) (wins_of e) q.plain q.by_win h

  -- ---- plans
  price_is : (tree : Tree) → has_price tree ≡ true → cost e tree ≡ at (price_of tree)
  price_is (Line is) h = omega arith
  price_is (Stop i) h = omega arith
  price_is (Then a b) h =
      let parts = and_parts (has_price a) (has_price b) h in
      rw (price_is a parts.0, price_is b parts.1) (sym (at_both (parties_of e) (lands_of e) (wins_of e) (price_of a) (price_of b)))
  price_is (If t a b) h =
      let parts = and_parts (has_price a) (has_price b) h in
      let both : at (both_prices (price_of a) (price_of b)) ≡ cost e a + cost e b = rw (price_is a parts.0, price_is b parts.1) (at_both (parties_of e) (lands_of e) (wins_of e) (price_of a) (price_of b)) in
      ap (λ (n : ℕ). n + 3) (sym both) ∙ sym (at_more (parties_of e) (lands_of e) (wins_of e) 3 (both_prices (price_of a) (price_of b)))
  price_is (Each over a) h =
      let parts = and_parts (has_price a) (may_be_each over (and_steps 2 (price_of a))) h in
      let turn : at (and_steps 2 (price_of a)) ≡ cost e a + 2 = at_more (parties_of e) (lands_of e) (wins_of e) 2 (price_of a) ∙ ap (λ (n : ℕ). n + 2) (sym (price_is a parts.0)) in
      ap (λ (n : ℕ). count_of e over * n + 2) (sym turn) ∙ ap (λ (n : ℕ). n + 2) (sym (at_each over (and_steps 2 (price_of a)) parts.1))
      ∙ sym (at_more (parties_of e) (lands_of e) (wins_of e) 2 (for_each_of over (and_steps 2 (price_of a))))
  price_is (Times r m a) h =
      let parts = and_parts (has_price a) (may_be_often m (and_steps 5 (price_of a))) h in
      let turn : at (and_steps 5 (price_of a)) ≡ cost e a + 5 = at_more (parties_of e) (lands_of e) (wins_of e) 5 (price_of a) ∙ ap (λ (n : ℕ). n + 5) (sym (price_is a parts.0)) in
      ap (λ (n : ℕ). turns_in e m * n + 3) (sym turn) ∙ ap (λ (n : ℕ). n + 3) (sym (at_often m (and_steps 5 (price_of a)) parts.1))
      ∙ sym (at_more (parties_of e) (lands_of e) (wins_of e) 3 (as_often m (and_steps 5 (price_of a))))

pub plans_cost_their_price : PlansCostTheirPrice
plans_cost_their_price e tree h = price_is e tree h

-- ---- shares

pub times_below : (a n k : ℕ) → a < n + 1 → k * a ≤ k * n
times_below a n k h = mul-le-mul_left k (omega arith)

rate_below : (p l n : ℕ) (r : Rate) → up_to n r ≡ true → rate_at p l r ≤ n + n * p + n * l + n * (l * p)
rate_below p l n r h =
    let one = and_parts _ _ h in
    let two = and_parts _ _ one.1 in
    let three = and_parts _ _ two.1 in
    let fixed : r.fixed < n + 1 = ltb-true _ _ one.0 in
    omega (arith, fixed, times_below r.by_party n p (ltb-true _ _ two.0), times_below r.by_land n l (ltb-true _ _ three.0), times_below r.by_list n (l * p) (ltb-true _ _ three.1))

in_share : (p l w : ℕ) (q : Price) → is_in_share q ≡ true → price_at p l w q ≤ STEPS_EACH * (p + 1) * (l + 1) * (MAX_SEATS + w + 2)
in_share p l w q h =
    let parts = and_parts _ _ h in
    let by_win : w * rate_at p l q.by_win ≤ w * (STEPS_EACH + STEPS_EACH * p + STEPS_EACH * l + STEPS_EACH * (l * p)) = mul-le-mul_left w (rate_below p l STEPS_EACH q.by_win parts.1) in
    of (rate_at p l q.plain) (rate_at p l q.by_win) (rate_below p l _ q.plain parts.0) by_win
  where
    of : (a b : ℕ) → a ≤ (STEPS_EACH * (MAX_SEATS + 2)) + (STEPS_EACH * (MAX_SEATS + 2)) * p + (STEPS_EACH * (MAX_SEATS + 2)) * l + (STEPS_EACH * (MAX_SEATS + 2)) * (l * p) → w * b ≤ w * (STEPS_EACH + STEPS_EACH * p + STEPS_EACH * l + STEPS_EACH * (l * p)) → a + b * w ≤ STEPS_EACH * (p + 1) * (l + 1) * (MAX_SEATS + w + 2)
    of a b ha hb = omega arith

pub shares_suffice : SharesSuffice
shares_suffice e tree priced fits = rw (price_is e tree priced) (in_share (parties_of e) (lands_of e) (wins_of e) (price_of tree) fits)
