-- Tests of all entries, and what options and conditions come to.
use Rattle.std.proofs.Common.{◌≡◌, ℕ, ◌+◌, ◌<◌, ◌⊎◌, Bool, true, false, not, ◌||◌, List, [], ◌∷◌, Some, None, length, get_or, cond, inl, inr, arith, refl, sym, ◌∙◌, subst, nat_eq}
use Rattle.std.specs.Prelude.{Contains, filter, Option, option_map}
use Rattle.std.specs.List.{list_all, list_any, range_with_len}
use Rattle.std.proofs.lemmas.Bool.{cases_Bool, both_ways, eqb-true, cond-true, cond-false, false_from_ne_true}
use Rattle.std.proofs.lemmas.List.FromFn.{length-range_with_len, get_or-range_with_len}
use Rattle.std.proofs.lemmas.List.Sums.{AllPass-from_list_all, list_all-from_AllPass}
use Rattle.std.proofs.lemmas.List.Kept.{IsStrictlyIncreasing-filter}
use Rattle.std.proofs.lemmas.List.Elements.{All-contains_itself, All-contains}
use Rattle.std.proofs.lemmas.Option.{same_Some, none-some}
use Rattle.sl_law_meaning.specs.methods.Ties.{Lists}
use Rattle.sl_law_meaning.proofs.methods.RaisedSeats.{Contains-head}
use Rattle.sl_law_meaning.proofs.methods.ListedEntries.{filter_only, filter_has, cases_all}
use Rattle.sl_law_meaning.proofs.methods.DrawnLots.{is_in, stands_in}
use Rattle.sl_law_certificates.specs.Cuts.{names_all}

-- ---- conditions and options

pub if_cases : {A : Type 0} (b : Bool) (x y z : A) → cond b x y ≡ z → ((b ≡ true) × (x ≡ z)) ⊎ ((b ≡ false) × (y ≡ z))
if_cases true x y z e = inl (refl, e)
if_cases false x y z e = inr (refl, e)

pub if_some : {A : Type 0} (b : Bool) (x : Option A) (z : A) → cond b x None ≡ Some z → (b ≡ true) × (x ≡ Some z)
if_some true x z e = (refl, e)
if_some false x z e = absurd (none-some z e)

pub if_true : {A : Type 0} (b : Bool) (x y z : A) → b ≡ true → x ≡ z → cond b x y ≡ z
if_true b x y z e h = cond-true b x y e ∙ h

pub if_false : {A : Type 0} (b : Bool) (x y z : A) → b ≡ false → y ≡ z → cond b x y ≡ z
if_false b x y z e h = cond-false b x y e ∙ h

pub map_some : {A B : Type 0} (f : A → B) (o : Option A) (y : B) → option_map f o ≡ Some y → (x : A) × (o ≡ Some x) × (f x ≡ y)
map_some f None y e = absurd (none-some y e)
map_some f (Some x) y e = (x, refl, same_Some (f x) y e)

-- a test that is only asked where another holds
pub asked : (b x : Bool) → (not b || x) ≡ true → b ≡ true → x ≡ true
asked true x h e = h
asked false x h e = absurd (both_ways false refl e)

pub if_asked : (b x : Bool) → (b ≡ true → x ≡ true) → (not b || x) ≡ true
if_asked true x h = h refl
if_asked false x h = refl

-- ---- tests of the numbers below n

pub all_below : (p : ℕ → Bool) (n : ℕ) → list_all p (range_with_len 0 n) ≡ true → (i : ℕ) → i < n → p i ≡ true
all_below p n all i less =
    let e : get_or (range_with_len 0 n) i 0 ≡ i = omega (arith, get_or-range_with_len 0 n i 0 less) in
    subst (λ k. p k ≡ true) e (AllPass-from_list_all p (range_with_len 0 n) all i 0 (omega (arith, less, length-range_with_len 0 n)))

pub below_all : (p : ℕ → Bool) (n : ℕ) → ((i : ℕ) → i < n → p i ≡ true) → list_all p (range_with_len 0 n) ≡ true
below_all p n each =
    list_all-from_AllPass p (range_with_len 0 n) (λ k d less.
    let within : k < n = omega (arith, less, length-range_with_len 0 n) in
    let e : get_or (range_with_len 0 n) k d ≡ k = omega (arith, get_or-range_with_len 0 n k d within) in
    subst (λ j. p j ≡ true) (sym e) (each k within))

pub some_fails : (p : ℕ → Bool) (n : ℕ) → list_all p (range_with_len 0 n) ≡ false → (i : ℕ) × (i < n) × (p i ≡ false)
some_fails p n h =
    elim (cases_all (λ i. p i ≡ true) (λ i. elim (cases_Bool (p i)) [ inl e ↦ inl e | inr e ↦ inr (both_ways (p i) e) ]) n) [
      | inl all ↦ absurd (both_ways (list_all p (range_with_len 0 n)) h (below_all p n all))
      | inr some ↦ (some.0, some.2, false_from_ne_true (p some.0) some.1)
    ]

-- those that pass a test
pub lists_filter : (P : ℕ → Type 0) (p : ℕ → Bool) (n : ℕ) → ((i : ℕ) → P i → i < n) → ((i : ℕ) → P i → p i ≡ true) → ((i : ℕ) → p i ≡ true → P i) →
    Lists P (filter p (range_with_len 0 n))
lists_filter P p n bound to from =
    let all = range_with_len 0 n in
    let long = length-range_with_len 0 n in
    record {
      in_order = IsStrictlyIncreasing-filter p all
          (λ k less. omega (arith, long, get_or-range_with_len 0 n k 0 (omega arith), get_or-range_with_len 0 n (k + 1) 0 (omega arith)));
      has = λ i h. filter_has p all i (i, omega (arith, long, bound i h), omega (arith, get_or-range_with_len 0 n i i (bound i h))) (to i h);
      has_only = λ i c. from i (filter_only p all i c).1;
    }

-- ---- names

pub all_named : (there xs : List ℕ) → names_all there xs ≡ true → (i : ℕ) → Contains xs i → Contains there i
all_named there xs h i c =
    stands_in there i (All-contains (λ x. list_any (λ j. nat_eq j x) there ≡ true) xs i (AllPass-from_list_all (λ x. list_any (λ j. nat_eq j x) there) xs h) c)

pub names_them : (there xs : List ℕ) → ((i : ℕ) → Contains xs i → Contains there i) → names_all there xs ≡ true
names_them there xs h =
    list_all-from_AllPass (λ x. list_any (λ j. nat_eq j x) there) xs
    (λ k d less. is_in there (get_or xs k d) (h (get_or xs k d) (All-contains_itself xs k d less)))

pub empty_is : (xs : List ℕ) → nat_eq (length xs) 0 ≡ true → xs ≡ []
empty_is [] h = refl
empty_is (x ∷ xs) h = absurd (let e = eqb-true (length (x ∷ xs)) 0 h in omega arith)

pub first_of : (xs : List ℕ) → nat_eq (length xs) 0 ≡ false → (i : ℕ) × Contains xs i
first_of [] h = absurd (both_ways true h refl)
first_of (x ∷ xs) h = (x, Contains-head x xs)
