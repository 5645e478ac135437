-- Whether a vector is settled and which entries are its peers, by tests that compute on worked examples.
use Rattle.std.proofs.Common.{◌≡◌, ℕ, zero, suc, ◌-◌, ◌*◌, ◌<◌, Bool, true, false, List, [], ◌∷◌, length, get_or, inl, inr, arith, refl, subst}
use Rattle.std.specs.Prelude.{Contains, nat_le, nat_lt, nat_eq, ◌&&◌, ◌||◌, not}
use Rattle.std.specs.List.{list_any, list_all}
use Rattle.std.specs.List.Sorted.{IsStrictlyIncreasing}
use Rattle.std.proofs.lemmas.Bool.{cases_lt, cases_eq, cases_Bool, and_parts, or_cases, leb-true, ltb-true, not-true, not_from_false, both_ways, le-ltb, ltb-false, and_from, or_left, or_right}
use Rattle.std.proofs.lemmas.List.{get_or_past}
use Rattle.sl_law_meaning.specs.methods.Steps.{is_below}
use Rattle.sl_law_meaning.specs.methods.Ties.{Lists, NamesAll}
use Rattle.sl_law_meaning.specs.laws.Ladders.{Ladders, AreFalling, IsSettled, IsPeer}
use Rattle.sl_law_meaning.proofs.methods.RaisedSeats.{Contains-cases, Contains-none, increasing-cons}
use Rattle.sl_law_meaning.proofs.methods.DrawnLots.{is_in, stands_in}

-- the test passes at each number below n
abbrev pub all_below : (ℕ → Bool) → ℕ → Bool
all_below p zero = true
all_below p (suc n) = p n && all_below p n

all_below_at : (p : ℕ → Bool) (n i : ℕ) → all_below p n ≡ true → i < n → p i ≡ true
all_below_at p zero i e l = absurd (omega arith)
all_below_at p (suc n) i e l =
    let parts = and_parts (p n) (all_below p n) e in
    elim (cases_eq n i) [ inl s ↦ subst (λ k. p k ≡ true) s parts.0 | inr ne ↦ all_below_at p n i parts.1 (omega arith) ]

all_below_from : (p : ℕ → Bool) (n : ℕ) → ((i : ℕ) → i < n → p i ≡ true) → all_below p n ≡ true
all_below_from p zero h = refl
all_below_from p (suc n) h = and_from (p n) (all_below p n) (h n (omega arith)) (all_below_from p n (λ i l. h i (omega arith)))

all_in : (p : ℕ → Bool) (xs : List ℕ) (i : ℕ) → list_all p xs ≡ true → Contains xs i → p i ≡ true
all_in p [] i e c = absurd (Contains-none i c)
all_in p (x ∷ xs) i e c =
    let parts = and_parts (p x) (list_all p xs) e in
    elim (Contains-cases x xs i c) [ inl s ↦ subst (λ k. p k ≡ true) s parts.0 | inr h ↦ all_in p xs i parts.1 h ]

abbrev pub rising : List ℕ → Bool
rising [] = true
rising (x ∷ xs) = list_all (λ y. nat_lt x y) xs && rising xs

increasing_by_test : (xs : List ℕ) → rising xs ≡ true → IsStrictlyIncreasing xs
increasing_by_test [] e = λ k l. absurd (omega arith)
increasing_by_test (x ∷ xs) e =
    let parts = and_parts (list_all (λ y. nat_lt x y) xs) (rising xs) e in
    increasing-cons x xs (λ y c. ltb-true x y (all_in (λ z. nat_lt x z) xs y parts.0 c)) (increasing_by_test xs parts.1)

abbrev pub names_test : List ℕ → List ℕ → Bool
names_test lot entries = list_all (λ i. list_any (λ j. nat_eq j i) lot) entries

pub names_by_test : (lot entries : List ℕ) → names_test lot entries ≡ true → NamesAll lot entries
names_by_test lot entries e i c = stands_in lot i (all_in (λ i. list_any (λ j. nat_eq j i) lot) entries i e c)

pub lacks_by_test : (lot entries : List ℕ) (i : ℕ) → Contains entries i → list_any (λ j. nat_eq j i) lot ≡ false → NamesAll lot entries → ⊥
lacks_by_test lot entries i c e all = both_ways (list_any (λ j. nat_eq j i) lot) e (is_in lot i (all i c))

module _ (l : Ladders) (s : List ℕ) where
  abbrev on_test : ℕ → Bool
  on_test i = nat_le (get_or l.base i 0) (get_or s i 0) && (nat_le (get_or s i 0) (get_or l.base i 0) || l.has i (get_or s i 0 - 1))

  abbrev apart_test : ℕ → ℕ → Bool
  apart_test i j =
      nat_le (get_or s i 0) (get_or l.base i 0) || (not (l.has j (get_or s j 0)) || is_below (l.rank j (get_or s j 0)) (l.rank i (get_or s i 0 - 1)))

  abbrev pub settled_test : Bool
  settled_test = all_below (λ i. on_test i && all_below (λ j. apart_test i j) (length l.base)) (length l.base)

  abbrev peer_test : ℕ → Bool
  peer_test i = l.has i (get_or s i 0) && all_below (λ j. not (l.has j (get_or s j 0)) || not (is_below (l.rank i (get_or s i 0)) (l.rank j (get_or s j 0)))) (length l.base)

  abbrev pub peers_test : List ℕ → Bool
  peers_test peers =
      all_below (λ i. not (peer_test i) || list_any (λ j. nat_eq j i) peers) (length l.base) && (list_all (λ i. peer_test i) peers && rising peers)

  module _ (law : AreFalling l) where
    module _ (e : length s ≡ length l.base) (test : settled_test ≡ true) where
      row : (i : ℕ) → i < length l.base → (on_test i ≡ true) × (all_below (λ j. apart_test i j) (length l.base) ≡ true)
      row i less = and_parts (on_test i) (all_below (λ j. apart_test i j) (length l.base))
          (all_below_at (λ i. on_test i && all_below (λ j. apart_test i j) (length l.base)) (length l.base) i test less)

      in_range : (i : ℕ) → get_or l.base i 0 < get_or s i 0 → i < length l.base
      in_range i more =
          elim (cases_lt i (length l.base)) [ inl less ↦ less | inr g ↦ absurd (let past = get_or_past s i 0 (omega arith) in omega (arith, past, more)) ]

      pub settled_by_test : IsSettled l s
      settled_by_test = record {
        on = record {
          same_length = e;
          above = λ i. elim (cases_lt i (length l.base)) [
            | inl less ↦ leb-true (get_or l.base i 0) (get_or s i 0) (and_parts (nat_le (get_or l.base i 0) (get_or s i 0)) (nat_le (get_or s i 0) (get_or l.base i 0) || l.has i (get_or s i 0 - 1)) (row i less).0).0
            | inr g ↦ (let past = get_or_past l.base i 0 g in omega (arith, past))
          ];
          there = λ i more.
              let parts = and_parts (nat_le (get_or l.base i 0) (get_or s i 0)) (nat_le (get_or s i 0) (get_or l.base i 0) || l.has i (get_or s i 0 - 1)) (row i (in_range i more)).0 in
              elim (or_cases (nat_le (get_or s i 0) (get_or l.base i 0)) (l.has i (get_or s i 0 - 1)) parts.1) [
                | inl le ↦ absurd (let h = leb-true (get_or s i 0) (get_or l.base i 0) le in omega (arith, h, more))
                | inr h ↦ h
              ];
        };
        apart = λ i j more next.
            let A = nat_le (get_or s i 0) (get_or l.base i 0) in
            let B = not (l.has j (get_or s j 0)) in
            let C = is_below (l.rank j (get_or s j 0)) (l.rank i (get_or s i 0 - 1)) in
            let here = all_below_at (λ j. apart_test i j) (length l.base) j (row i (in_range i more)).1 (law.within j (get_or s j 0) next) in
            elim (or_cases A (B || C) here) [
              | inl le ↦ absurd (let h = leb-true (get_or s i 0) (get_or l.base i 0) le in omega (arith, h, more))
              | inr rest ↦ elim (or_cases B C rest) [
                | inl none ↦ absurd (both_ways (l.has j (get_or s j 0)) (not-true (l.has j (get_or s j 0)) none) next)
                | inr less ↦ ltb-true ((l.rank j (get_or s j 0)).num * (l.rank i (get_or s i 0 - 1)).den) ((l.rank i (get_or s i 0 - 1)).num * (l.rank j (get_or s j 0)).den) less
              ]
            ];
      }

    module _ (peers : List ℕ) (test : peers_test peers ≡ true) where
      peer_passes : (i : ℕ) → peer_test i ≡ true → IsPeer l s i
      peer_passes i h =
          let test_at = λ (j : ℕ). not (l.has j (get_or s j 0)) || not (is_below (l.rank i (get_or s i 0)) (l.rank j (get_or s j 0))) in
          let parts = and_parts (l.has i (get_or s i 0)) (all_below test_at (length l.base)) h in
          record {
            next = parts.0;
            greatest = λ j next.
                let A = not (l.has j (get_or s j 0)) in
                let B = is_below (l.rank i (get_or s i 0)) (l.rank j (get_or s j 0)) in
                elim (or_cases A (not B) (all_below_at test_at (length l.base) j parts.1 (law.within j (get_or s j 0) next))) [
                  | inl none ↦ absurd (both_ways (l.has j (get_or s j 0)) (not-true (l.has j (get_or s j 0)) none) next)
                  | inr le ↦ ltb-false ((l.rank i (get_or s i 0)).num * (l.rank j (get_or s j 0)).den) ((l.rank j (get_or s j 0)).num * (l.rank i (get_or s i 0)).den) (not-true B le)
                ];
          }

      peer_is : (i : ℕ) → IsPeer l s i → peer_test i ≡ true
      peer_is i peer =
          let test_at = λ (j : ℕ). not (l.has j (get_or s j 0)) || not (is_below (l.rank i (get_or s i 0)) (l.rank j (get_or s j 0))) in
          and_from (l.has i (get_or s i 0)) (all_below test_at (length l.base)) peer.next (all_below_from test_at (length l.base) (λ j less.
          let A = l.has j (get_or s j 0) in
          let B = is_below (l.rank i (get_or s i 0)) (l.rank j (get_or s j 0)) in
          elim (cases_Bool A) [
            | inl next ↦ or_right (not A) (not B)
                (not_from_false B (le-ltb ((l.rank i (get_or s i 0)).num * (l.rank j (get_or s j 0)).den) ((l.rank j (get_or s j 0)).num * (l.rank i (get_or s i 0)).den) (peer.greatest j next)))
            | inr none ↦ or_left (not A) (not B) (not_from_false A none)
          ]))

      pub peers_by_test : Lists (IsPeer l s) peers
      peers_by_test =
          let covers = λ (i : ℕ). not (peer_test i) || list_any (λ j. nat_eq j i) peers in
          let parts = and_parts (all_below covers (length l.base)) (list_all (λ i. peer_test i) peers && rising peers) test in
          let rest = and_parts (list_all (λ i. peer_test i) peers) (rising peers) parts.1 in
          record {
            in_order = increasing_by_test peers rest.1;
            has = λ i peer.
                elim (or_cases (not (peer_test i)) (list_any (λ j. nat_eq j i) peers) (all_below_at covers (length l.base) i parts.0 (law.within i (get_or s i 0) peer.next))) [
                  | inl none ↦ absurd (both_ways (peer_test i) (not-true (peer_test i) none) (peer_is i peer))
                  | inr c ↦ stands_in peers i c
                ];
            has_only = λ i c. peer_passes i (all_in (λ i. peer_test i) peers i rest.0 c);
          }
