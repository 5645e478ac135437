-- One more seat on each of some entries.
use Rattle.std.proofs.Common.{◌≡◌, ℕ, zero, suc, ◌+◌, ◌<◌, ◌≢◌, ◌⊎◌, List, [], ◌∷◌, length, get_or, nat_eq, set, sum, inl, inr, arith, refl, sym, ap, ◌∙◌, subst}
use Rattle.std.specs.Prelude.{Contains}
use Rattle.std.specs.List.Sorted.{IsStrictlyIncreasing}
use Rattle.std.proofs.Math.ListN.{length-set}
use Rattle.std.specs.Cmp.{nat_eq_equiv}
use Rattle.std.specs.List.{list_any}
use Rattle.std.proofs.lemmas.Bool.{cases_Bool, eqb-true, both_ways}
use Rattle.std.proofs.lemmas.List.Kept.{AllPairs-from_increasing}
use Rattle.std.proofs.lemmas.Map.Views.{Contains-from_any, list_any-from_Contains}
use Rattle.std.proofs.lemmas.List.{get_or-set_same, get_or-set_other}
use Rattle.std.proofs.lemmas.List.Sums.{sum_by-set}
use Rattle.sl_law_meaning.specs.methods.Ties.{Distinct}

pub Contains-head : (x : ℕ) (xs : List ℕ) → Contains (x ∷ xs) x
Contains-head x xs = (0, omega arith, refl)

pub Contains-tail : (x : ℕ) (xs : List ℕ) (y : ℕ) → Contains xs y → Contains (x ∷ xs) y
Contains-tail x xs y h = (suc h.0, (let l : h.0 < length xs = h.1 in omega arith), h.2)

pub Contains-cases : (x : ℕ) (xs : List ℕ) (y : ℕ) → Contains (x ∷ xs) y → (x ≡ y) ⊎ Contains xs y
Contains-cases x xs y h = at h.0 h.1 h.2 where
  at : (k : ℕ) → k < length (x ∷ xs) → get_or (x ∷ xs) k y ≡ y → (x ≡ y) ⊎ Contains xs y
  at zero l e = inl e
  at (suc k) l e = inr (k, omega arith, e)

pub Contains-none : (y : ℕ) → Contains [] y → ⊥
Contains-none y h = let l : h.0 < length {A = ℕ} [] = h.1 in omega arith

pub cases_Contains : (xs : List ℕ) (y : ℕ) → Contains xs y ⊎ (Contains xs y → ⊥)
cases_Contains xs y =
    elim (cases_Bool (list_any (nat_eq y) xs)) [
      | inl some ↦ inl (Contains-from_any eqb-true y xs some)
      | inr none ↦ inr (λ c. both_ways (list_any (nat_eq y) xs) none (list_any-from_Contains nat_eq_equiv y xs c))
    ]

-- each of these is among those, or one is not
pub all_or_one : (xs ys : List ℕ) → ((i : ℕ) → Contains xs i → Contains ys i) ⊎ ((i : ℕ) × Contains xs i × ¬ Contains ys i)
all_or_one [] ys = inl (λ i c. absurd (Contains-none i c))
all_or_one (x ∷ xs) ys =
    elim (cases_Contains ys x) [
      | inr out ↦ inr (x, Contains-head x xs, out)
      | inl here ↦ elim (all_or_one xs ys) [
        | inl rest ↦ inl (λ i c. elim (Contains-cases x xs i c) [ inl e ↦ subst (λ z. Contains ys z) e here | inr h ↦ rest i h ])
        | inr one ↦ inr (one.0, Contains-tail x xs one.0 one.1, one.2)
      ]
    ]

pub increasing-tail : (x : ℕ) (xs : List ℕ) → IsStrictlyIncreasing (x ∷ xs) → IsStrictlyIncreasing xs
increasing-tail x xs inc k l = AllPairs-from_increasing (x ∷ xs) inc (suc k) (suc (k + 1)) 0 (omega arith) (omega arith)

pub increasing-head : (x : ℕ) (xs : List ℕ) (y : ℕ) → IsStrictlyIncreasing (x ∷ xs) → Contains xs y → x < y
increasing-head x xs y inc h =
    let less : x < get_or xs h.0 y = AllPairs-from_increasing (x ∷ xs) inc 0 (suc h.0) y (omega arith) (let l : h.0 < length xs = h.1 in omega arith) in
    omega (arith, less, h.2)

pub increasing-cons : (x : ℕ) (xs : List ℕ) → ((y : ℕ) → Contains xs y → x < y) → IsStrictlyIncreasing xs → IsStrictlyIncreasing (x ∷ xs)
increasing-cons x [] h inc k l = absurd (omega arith)
increasing-cons x (z ∷ zs) h inc zero l = h z (Contains-head z zs)
increasing-cons x (z ∷ zs) h inc (suc k) l =
    let l' : k + 1 < length (z ∷ zs) = omega arith in
    let e : suc (k + 1) ≡ suc k + 1 = omega arith in
    subst (λ n. get_or (x ∷ z ∷ zs) (suc k) 0 < get_or (x ∷ z ∷ zs) n 0) e (inc k l')

pub increasing_distinct : (xs : List ℕ) → IsStrictlyIncreasing xs → Distinct xs
increasing_distinct [] inc = tt
increasing_distinct (x ∷ xs) inc = (λ c. let l = increasing-head x xs x inc c in omega (arith, l), increasing_distinct xs (increasing-tail x xs inc))

abbrev pub raise : List ℕ → List ℕ → List ℕ
raise s [] = s
raise s (i ∷ is) = raise (set s i (get_or s i 0 + 1)) is

pub length-raise : (s is : List ℕ) → length (raise s is) ≡ length s
length-raise s [] = refl
length-raise s (i ∷ is) = length-raise (set s i (get_or s i 0 + 1)) is ∙ length-set s i (get_or s i 0 + 1)

pub sum-raise : (s is : List ℕ) → ((i : ℕ) → Contains is i → i < length s) → sum (raise s is) ≡ sum s + length is
sum-raise s [] h = omega arith
sum-raise s (i ∷ is) h =
    let more = set s i (get_or s i 0 + 1) in
    let within : i < length s = h i (Contains-head i is) in
    let same : length more ≡ length s = length-set s i (get_or s i 0 + 1) in
    let one : sum more + get_or s i 0 ≡ sum s + (get_or s i 0 + 1) = sum_by-set (λ n. n) s i (get_or s i 0 + 1) 0 within in
    let rest = sum-raise more is (λ j c. let l = h j (Contains-tail i is j c) in omega (arith, l, same)) in
    omega (arith, rest, one)

pub raise_other : (s is : List ℕ) (j : ℕ) → (Contains is j → ⊥) → get_or (raise s is) j 0 ≡ get_or s j 0
raise_other s [] j out = refl
raise_other s (i ∷ is) j out =
    let more = set s i (get_or s i 0 + 1) in
    let ne : j ≢ i = λ e. out (subst (λ z. Contains (i ∷ is) z) (sym e) (Contains-head i is)) in
    raise_other more is j (λ c. out (Contains-tail i is j c)) ∙ get_or-set_other s i j (get_or s i 0 + 1) 0 ne

pub raise_at : (s is : List ℕ) (j : ℕ) → Distinct is → Contains is j → j < length s → get_or (raise s is) j 0 ≡ get_or s j 0 + 1
raise_at s [] j d c l = absurd (Contains-none j c)
raise_at s (i ∷ is) j d c l =
    let more = set s i (get_or s i 0 + 1) in
    elim (Contains-cases i is j c) [
      | inl e ↦
          (let gone : Contains is j → ⊥ = λ c'. d.0 (subst (λ z. Contains is z) (sym e) c') in
          raise_other more is j gone
          ∙ subst (λ z. get_or more z 0 ≡ get_or s z 0 + 1) e (get_or-set_same s i (get_or s i 0 + 1) 0 (subst (λ z. z < length s) (sym e) l)))
      | inr c' ↦
          (let l' : j < length more = omega (arith, length-set s i (get_or s i 0 + 1)) in
          raise_at more is j d.1 c' l' ∙ ap (λ n. n + 1) (get_or-set_other s i j (get_or s i 0 + 1) 0 (λ e. d.0 (subst (λ z. Contains is z) e c'))))
    ]
