-- What a lot draws from some entries.
use Rattle.std.proofs.Common.{◌≡◌, ℕ, zero, suc, ◌+◌, ◌<◌, ◌≤◌, Bool, true, false, List, [], ◌∷◌, ◌++◌, length, get_or, take, drop, inl, inr, arith, refl, sym, subst}
use Rattle.std.specs.Prelude.{Contains, filter, nat_eq}
use Rattle.std.specs.List.{list_any}
use Rattle.std.specs.List.Sorted.{IsStrictlyIncreasing}
use Rattle.std.proofs.lemmas.Bool.{cases_eq, eq-eqb, eqb-true}
use Rattle.std.proofs.lemmas.Bool.{cond_both, both_ways}
use Rattle.sl_law_meaning.specs.methods.Ties.{Distinct, Lists, NamesAll, drawn}
use Rattle.std.proofs.lemmas.List.{length-take-le, take-append-drop, take_more}
use Rattle.std.proofs.lemmas.List.Folds.{Any-from_list_any, list_any_at}
use Rattle.std.proofs.lemmas.List.Elements.{Contains-append_left, Contains-get_or, Contains-push}
use Rattle.sl_law_meaning.specs.laws.Awards.{Draws}
use Rattle.sl_law_meaning.proofs.methods.RaisedSeats.{increasing-head, increasing-tail, cases_Contains, Contains-head, Contains-tail, Contains-cases, Contains-none}
use Rattle.sl_law_meaning.proofs.methods.TieLaw.{others}
use Rattle.sl_law_meaning.proofs.methods.ListedEntries.{filter_only, filter_has, filter_distinct}

-- a list without repeats is no longer than one that has all its entries
pub fits_in : (xs ys : List ℕ) → Distinct xs → Distinct ys → ((i : ℕ) → Contains xs i → Contains ys i) → length xs ≤ length ys
fits_in [] ys d e sub = omega arith
fits_in (x ∷ xs) ys d e sub =
    let rest = others ys x e (sub x (Contains-head x xs)) in
    let fewer : length xs ≤ length rest.0 = fits_in xs rest.0 d.1 rest.1.distinct (λ i c.
    elim (cases_Contains rest.0 i) [
      | inl h ↦ h
      | inr out ↦ absurd (elim (cases_eq x i) [
        | inl same ↦ d.0 (subst (λ z. Contains xs z) (sym same) c)
        | inr ne ↦ out (rest.1.kept i (sub i (Contains-tail x xs i c)) (λ h. ne (sym h)))
      ])
    ]) in
    omega (arith, fewer, rest.1.one_less)

-- two lists in order of the same entries are one list
pub same_entries : (P Q : ℕ → Type 0) (xs ys : List ℕ) → ((i : ℕ) → P i → Q i) → ((i : ℕ) → Q i → P i) → Lists P xs → Lists Q ys → xs ≡ ys
same_entries P Q xs ys to from hx hy = same xs ys hx.in_order hy.in_order (λ i c. hy.has i (to i (hx.has_only i c))) (λ i c. hx.has i (from i (hy.has_only i c))) where
  same : (xs ys : List ℕ) → IsStrictlyIncreasing xs → IsStrictlyIncreasing ys → ((i : ℕ) → Contains xs i → Contains ys i) → ((i : ℕ) → Contains ys i → Contains xs i) → xs ≡ ys
  same [] [] a b f g = refl
  same [] (y ∷ ys) a b f g = absurd (Contains-none y (g y (Contains-head y ys)))
  same (x ∷ xs) [] a b f g = absurd (Contains-none x (f x (Contains-head x xs)))
  same (x ∷ xs) (y ∷ ys) a b f g =
      let e : x ≡ y = elim (Contains-cases y ys x (f x (Contains-head x xs))) [
        | inl e ↦ sym e
        | inr c ↦ elim (Contains-cases x xs y (g y (Contains-head y ys))) [
          | inl e ↦ e
          | inr c' ↦ absurd (let l = increasing-head y ys x b c in let l' = increasing-head x xs y a c' in omega (arith, l, l'))
        ]
      ] in
      let tails = same xs ys (increasing-tail x xs a) (increasing-tail y ys b)
      (λ i c. elim (Contains-cases y ys i (f i (Contains-tail x xs i c))) [ inl e' ↦ absurd (let l = increasing-head x xs i a c in omega (arith, l, e, e')) | inr h ↦ h ])
      (λ i c. elim (Contains-cases x xs i (g i (Contains-tail y ys i c))) [ inl e' ↦ absurd (let l = increasing-head y ys i b c in omega (arith, l, e, e')) | inr h ↦ h ]) in
      cc

pub is_in : (xs : List ℕ) (i : ℕ) → Contains xs i → list_any (λ j. nat_eq j i) xs ≡ true
is_in xs i c = list_any_at (λ j. nat_eq j i) xs c.0 i c.1 (eq-eqb (get_or xs c.0 i) i c.2)

pub stands_in : (xs : List ℕ) (i : ℕ) → list_any (λ j. nat_eq j i) xs ≡ true → Contains xs i
stands_in xs i e = let found = Any-from_list_any (λ j. nat_eq j i) xs e in subst (Contains xs) (eqb-true found.1 i found.4) (found.0, found.2, found.3)

take_only : (k : ℕ) (xs : List ℕ) (i : ℕ) → Contains (take k xs) i → Contains xs i
take_only k xs i c = subst (λ l. Contains l i) (take-append-drop k xs) (Contains-append_left (take k xs) (drop k xs) i c)

take_distinct : (k : ℕ) (xs : List ℕ) → Distinct xs → Distinct (take k xs)
take_distinct zero xs d = tt
take_distinct (suc k) [] d = tt
take_distinct (suc k) (x ∷ xs) d = (λ c. d.0 (take_only k xs x c), take_distinct k xs d.1)

-- what a lot draws: k of the entries, each once
pub drawn_only : (lot : List ℕ) (k : ℕ) (entries : List ℕ) (i : ℕ) → Contains (drawn lot k entries) i → Contains entries i
drawn_only lot k entries i c =
    let p = λ (j : ℕ). list_any (λ n. nat_eq n j) entries in
    stands_in entries i (filter_only p lot i (take_only k (filter p lot) i c)).1

pub drawn_distinct : (lot : List ℕ) (k : ℕ) (entries : List ℕ) → Distinct lot → Distinct (drawn lot k entries)
drawn_distinct lot k entries d =
    let p = λ (j : ℕ). list_any (λ n. nat_eq n j) entries in
    take_distinct k (filter p lot) (filter_distinct p lot d)

pub drawn_length : (lot : List ℕ) (k : ℕ) (entries : List ℕ) → Distinct lot → Distinct entries → NamesAll lot entries → k ≤ length entries → length (drawn lot k entries) ≡ k
drawn_length lot k entries d e names le =
    let p = λ (j : ℕ). list_any (λ n. nat_eq n j) entries in
    let fits = fits_in entries (filter p lot) e (filter_distinct p lot d) (λ i c. filter_has p lot i (names i c) (is_in entries i c)) in
    length-take-le k (filter p lot) (omega (arith, fits))

-- the place in xs of the k-th of those that pass a test, which are ys
record NthPlace (p : ℕ → Bool) (xs ys : List ℕ) (k : ℕ) : Type 0 where
  place : ℕ
  within : place < length xs
  is : get_or xs place 0 ≡ get_or ys k 0
  earlier : (q : ℕ) → q < place → p (get_or xs q 0) ≡ true → Contains (take k ys) (get_or xs q 0)

nth_place : (p : ℕ → Bool) (xs : List ℕ) (k : ℕ) → k < length (filter p xs) → NthPlace p xs (filter p xs) k
nth_place p [] k l = absurd (omega arith)
nth_place p (x ∷ xs) k l =
    cond_both (p x) (x ∷ filter p xs) (filter p xs) (λ ys. k < length ys → NthPlace p (x ∷ xs) ys k)
    (λ yes' less. passes k less (λ j within. nth_place p xs j within)) (λ no' less. fails (filter p xs) no' (nth_place p xs k less)) l where
      passes : (j : ℕ) → j < length (x ∷ filter p xs) → ((i : ℕ) → i < length (filter p xs) → NthPlace p xs (filter p xs) i) →
          NthPlace p (x ∷ xs) (x ∷ filter p xs) j
      passes zero less rest = record { place = 0; within = omega arith; is = refl; earlier = λ q none pass. absurd (omega arith) }
      passes (suc j) less rest =
          let at = rest j (omega arith) in
          record { place = suc at.place; within = (let w = at.within in omega (arith, w)); is = at.is; earlier = after at.place (take j (filter p xs)) at.earlier } where
            after : (n : ℕ) (zs : List ℕ) → ((q : ℕ) → q < n → p (get_or xs q 0) ≡ true → Contains zs (get_or xs q 0)) →
                (q : ℕ) → q < suc n → p (get_or (x ∷ xs) q 0) ≡ true → Contains (x ∷ zs) (get_or (x ∷ xs) q 0)
            after n zs h zero l' pass = Contains-head x zs
            after n zs h (suc q) l' pass = Contains-tail x zs (get_or xs q 0) (h q (omega arith) pass)

      fails : (ys : List ℕ) → p x ≡ false → NthPlace p xs ys k → NthPlace p (x ∷ xs) ys k
      fails ys no' at =
          record { place = suc at.place; within = (let w = at.within in omega (arith, w)); is = at.is; earlier = after at.place (take k ys) at.earlier } where
            after : (n : ℕ) (zs : List ℕ) → ((q : ℕ) → q < n → p (get_or xs q 0) ≡ true → Contains zs (get_or xs q 0)) →
                (q : ℕ) → q < suc n → p (get_or (x ∷ xs) q 0) ≡ true → Contains zs (get_or (x ∷ xs) q 0)
            after n zs h zero l' pass = absurd (both_ways (p x) no' pass)
            after n zs h (suc q) l' pass = h q (omega arith) pass

-- what stands last in a list without repeats stands there once
last_once : (ys : List ℕ) (x : ℕ) → Distinct (ys ++ x ∷ []) → Contains ys x → ⊥
last_once [] x d c = Contains-none x c
last_once (y ∷ ys) x d c =
    elim (Contains-cases y ys x c) [
      | inl e ↦ d.0 (subst (λ z. Contains (ys ++ x ∷ []) z) (sym e) (Contains-push ys x))
      | inr h ↦ last_once ys x d.1 h
    ]

pub draws : Draws
draws lot entries k d e names less =
    let p = λ (j : ℕ). list_any (λ n. nat_eq n j) entries in
    let f = filter p lot in
    let fd = filter_distinct p lot d in
    let fits : length entries ≤ length f = fits_in entries f e fd (λ i c. filter_has p lot i (names i c) (is_in entries i c)) in
    let x = get_or f k 0 in
    let l : k < length f = omega arith in
    let more : take (k + 1) f ≡ take k f ++ x ∷ [] = take_more f k 0 l in
    let once = last_once (take k f) x (subst Distinct more (take_distinct (k + 1) f fd)) in
    let at = nth_place p lot k l in
    record {
      entry = x;
      one_of = stands_in entries x (filter_only p lot x (Contains-get_or f k 0 l)).1;
      left = once;
      place = at.place;
      stands = (at.within, at.is);
      first = λ q l' c. at.earlier q l' (is_in entries (get_or lot q 0) c);
      drawn_too = more;
    }
