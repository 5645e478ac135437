-- Sums in two directions: of filtered lists, of tables by rows and by columns, and of winners by their Länder.
use Rattle.std.proofs.Common.{◌≡◌, ◌≢◌, ℕ, zero, suc, ◌+◌, ◌-◌, ◌<◌, ◌≤◌, ◌&&◌, Bool, cond, List, [], ◌∷◌, nat_eq, filter, count_by, sum_by, inl, inr, arith, refl, sym, ap, subst, ◌∙◌}
use Rattle.std.specs.Prelude.{All}
use Rattle.std.specs.List.{AllByRecursion as Every, range_with_len}
use Rattle.std.proofs.lemmas.Bool.{cases_Bool, cases_lt, cases_eq, cond-true, cond-false, eq-eqb, ne_eqb}
use Rattle.std.proofs.lemmas.List.Elements.{All-head, All-tail}
use Rattle.std.proofs.lemmas.List.Sums.{sum_by-cons}
use Rattle.sl_law_meaning.specs.declared.election.Win.{Win}
use Rattle.sl_law_meaning.specs.returns.Facts.{is_in}
use Rattle.sl_law_meaning.proofs.meaning.DistinctLists.{every_weaker, always}
use Rattle.sl_law_fairness.proofs.ListColumns.{sum_agree}

pub every_of : {X : Type 0} (P : X → Type 0) (xs : List X) → All P xs → Every P xs
every_of P [] all = tt
every_of P (x ∷ xs) all = (All-head P x xs all, every_of P xs (All-tail P x xs all))

module _ {X : Type 0} where
  -- what is filtered out counts nothing
  pub sum_filter : (p : X → Bool) (f : X → ℕ) (xs : List X) → sum_by f (filter p xs) ≡ sum_by (λ x. cond (p x) (f x) 0) xs
  sum_filter p f [] = refl
  sum_filter p f (x ∷ xs) =
      let rest = sum_filter p f xs in
      let whole = sum_by-cons (λ x. cond (p x) (f x) 0) x xs in
      elim (cases_Bool (p x)) [
        | inl yes' ↦
            (let this : cond (p x) (f x) 0 ≡ f x = cond-true (p x) (f x) 0 yes' in
            ap (sum_by f) (cond-true (p x) (x ∷ filter p xs) (filter p xs) yes') ∙ sum_by-cons f x (filter p xs) ∙ omega (arith, rest, whole, this))
        | inr no' ↦
            (let this : cond (p x) (f x) 0 ≡ 0 = cond-false (p x) (f x) 0 no' in
            ap (sum_by f) (cond-false (p x) (x ∷ filter p xs) (filter p xs) no') ∙ omega (arith, rest, whole, this))
      ]

  pub sum_zero : (xs : List X) → sum_by (λ x. 0) xs ≡ 0
  sum_zero [] = refl
  sum_zero (x ∷ xs) = let rest = sum_zero xs in sum_by-cons (λ x. 0) x xs ∙ omega (arith, rest)

  sum_added : (f g : X → ℕ) (xs : List X) → sum_by (λ x. f x + g x) xs ≡ sum_by f xs + sum_by g xs
  sum_added f g [] = refl
  sum_added f g (x ∷ xs) =
      let rest = sum_added f g xs in
      sum_by-cons (λ x. f x + g x) x xs ∙ omega (arith, rest, sum_by-cons f x xs, sum_by-cons g x xs)

-- a table is summed by rows as by columns
pub sum_swap : {X Y : Type 0} (f : X → Y → ℕ) (xs : List X) (ys : List Y) → sum_by (λ x. sum_by (f x) ys) xs ≡ sum_by (λ y. sum_by (λ x. f x y) xs) ys
sum_swap f [] ys = sym (sum_zero ys)
sum_swap f (x ∷ xs) ys =
    sum_by-cons (λ x. sum_by (f x) ys) x xs
    ∙ ap (λ n. sum_by (f x) ys + n) (sum_swap f xs ys)
    ∙ sym (sum_added (f x) (λ y. sum_by (λ x. f x y) xs) ys)
    ∙ sum_agree (λ y. f x y + sum_by (λ x. f x y) xs) (λ y. sum_by (λ x. f x y) (x ∷ xs)) ys
    (always (λ y. f x y + sum_by (λ x. f x y) xs ≡ sum_by (λ x. f x y) (x ∷ xs)) (λ y. sym (sum_by-cons (λ x. f x y) x xs)) ys)

-- ---- sums over numbers of which one alone counts, or differs

no_term : (f : ℕ → ℕ) (x a n : ℕ) → ((p : ℕ) → p ≢ x → f p ≡ 0) → x < a → sum_by f (range_with_len a n) ≡ 0
no_term f x a zero none less = refl
no_term f x a (suc n) none less =
    let rest = no_term f x (a + 1) n none (omega (arith, less)) in
    let this = none a (λ same. omega (arith, same, less)) in
    sum_by-cons f a (range_with_len (a + 1) n) ∙ omega (arith, rest, this)

pub one_term : (f : ℕ → ℕ) (x a n : ℕ) → ((p : ℕ) → p ≢ x → f p ≡ 0) → a ≤ x → x < a + n → sum_by f (range_with_len a n) ≡ f x
one_term f x a zero none from below = absurd (omega (arith, from, below))
one_term f x a (suc n) none from below =
    elim (cases_lt a x) [
      | inl less ↦
          (let rest = one_term f x (a + 1) n none (omega (arith, less)) (omega (arith, below)) in
          let this = none a (λ same. omega (arith, same, less)) in
          sum_by-cons f a (range_with_len (a + 1) n) ∙ omega (arith, rest, this))
      | inr least ↦
          (let rest = no_term f x (a + 1) n none (omega (arith, least)) in
          let this : f a ≡ f x = ap f (let same : a ≡ x = omega (arith, from, least) in same) in
          sum_by-cons f a (range_with_len (a + 1) n) ∙ omega (arith, rest, this))
    ]

pub sum_raised : (f g : ℕ → ℕ) (x n : ℕ) → x < n → ((p : ℕ) → p ≢ x → g p ≡ f p) → f x ≤ g x → sum_by g (range_with_len 0 n) ≡ sum_by f (range_with_len 0 n) + (g x - f x)
sum_raised f g x n less same more =
    let Parts : ℕ → Type 0 = λ p. g p ≡ f p + (g p - f p) in
    let parts : (p : ℕ) → Parts p = λ p. elim (cases_eq x p) [
      | inl e ↦ subst Parts e (omega (arith, more))
      | inr ne ↦ (let here = same p (λ e. ne (sym e)) in omega (arith, here))
    ] in
    sum_agree g (λ p. f p + (g p - f p)) (range_with_len 0 n) (always Parts parts (range_with_len 0 n))
    ∙ sum_added f (λ p. g p - f p) (range_with_len 0 n)
    ∙ ap (λ k. sum_by f (range_with_len 0 n) + k)
    (one_term (λ p. g p - f p) x 0 n (λ p ne. let here = same p ne in omega (arith, here)) (omega arith) (omega (arith, less)))

-- what holds of each number holds of this one
every_from : (P : ℕ → Type 0) (a n p : ℕ) → Every P (range_with_len a n) → a ≤ p → p < a + n → P p
every_from P a zero p all from below = absurd (omega (arith, from, below))
every_from P a (suc n) p all from below =
    elim (cases_eq a p) [
      | inl e ↦ subst P e all.0
      | inr ne ↦ every_from P (a + 1) n p all.1 (omega (arith, from, ne)) (omega (arith, below))
    ]

pub every_number : (P : ℕ → Type 0) (n p : ℕ) → Every P (range_with_len 0 n) → p < n → P p
every_number P n p all below = every_from P 0 n p all (omega arith) (omega (arith, below))

-- ---- winners by their Länder

-- 1 for a winner of that Land who passes the test
abbrev mark : Bool → ℕ → ℕ → ℕ
mark t x land = cond (nat_eq x land && t) 1 0

once : (t : Bool) (x n : ℕ) → x < n → sum_by (mark t x) (range_with_len 0 n) ≡ cond t 1 0
once t x n below =
    one_term (mark t x) x 0 n (λ p ne. ap (λ same. cond (same && t) 1 0) (ne_eqb x p (λ same. ne (sym same)))) (omega arith) (omega (arith, below))
    ∙ ap (λ same. cond (same && t) 1 0) (eq-eqb x x refl)

-- each winner is counted in one Land
pub sum_of_lands : (q : Win → Bool) (n : ℕ) (wins : List Win) → Every (λ w. w.land < n) wins →
    sum_by (λ land. count_by (λ w. is_in land w && q w) wins) (range_with_len 0 n) ≡ count_by q wins
sum_of_lands q n wins within =
    sum_swap (λ land (w : Win). mark (q w) w.land land) (range_with_len 0 n) wins
    ∙ sum_agree (λ w. sum_by (mark (q w) w.land) (range_with_len 0 n)) (λ w. cond (q w) 1 0) wins
    (every_weaker (λ w. w.land < n) (λ w. sum_by (mark (q w) w.land) (range_with_len 0 n) ≡ cond (q w) 1 0) (λ w less. once (q w) w.land n less) wins within)
