-- Entries that move up and down in a heap, and one that leaves it.
use Rattle.std.proofs.Common.{◌≡◌, ℕ, zero, suc, ◌+◌, ◌-◌, ◌*◌, ◌/◌, ◌<◌, ◌≤◌, ◌≢◌, true, false, List, [], ◌∷◌, All, IsPermutation, length, get_or, IsTrue, Some, slice_get, take, drop, ◌++◌, refl, sym, ap, subst, ◌∙◌, inl, inr, arith}
use Rattle.std.specs.List.{SwappedAt}
use Rattle.std.specs.Ordering.{is_le, is_gt}
use Rattle.std.proofs.lemmas.Bool.{cases_eq}
use Rattle.std.proofs.lemmas.List.{get_or-take, get_or_default, length-take-le}
use Rattle.sl_base_quotients.specs.declared.entry.Entry.{Entry}
use Rattle.sl_base_quotients.specs.Entry.{entry_cmp}
use Rattle.std.proofs.Math.Seq.{take-append_seam}
use Rattle.std.proofs.lemmas.List.Elements.{All-tail}
use Rattle.std.proofs.lemmas.List.Sorted.{All-permutation}
use Rattle.sl_base_quotients.specs.Quotient.{FitsRatio}
use Rattle.sl_prio.specs.inner.Heap.{IsKept, IsUnder, IsHeap, IsHeapBut, MayRise, IsGreatestChild}
use Rattle.sl_base_rankings.specs.Peers.{top}
use Rattle.sl_base_rankings.proofs.Greatest.{greatest-is, AtMost-self, AtMost-trans, le_not_gt}
use Rattle.sl_base_rankings.proofs.Orders.{entry_order}

-- ---- one entry no greater than another

-- as the places of two other lists, or of the same, have it
module _ (xs ys : List Entry) (p k q m : ℕ) where
  pub moved : ((d : Entry) → get_or ys p d ≡ get_or xs q d) → ((d : Entry) → get_or ys k d ≡ get_or xs m d) → IsUnder xs q m → IsUnder ys p k
  moved above below h d = (λ i. is_le (entry_cmp (below d i) (above d i))) ∙ h d

under_chain : (xs : List Entry) (p j k : ℕ) → IsUnder xs p j → IsUnder xs j k → IsUnder xs p k
under_chain xs p j k h g d = AtMost-trans entry_cmp entry_order (get_or xs k d) (get_or xs j d) (get_or xs p d) (g d) (h d)

under_itself : (xs : List Entry) (p k : ℕ) → k ≡ p → IsUnder xs p k
under_itself xs p k e = moved xs xs p k p p (λ d. refl) (λ d. ap (λ n. get_or xs n d) e) (λ d. AtMost-self entry_cmp entry_order (get_or xs p d))

-- from two entries that were read
module _ (xs : List Entry) (p k : ℕ) (x y : Entry) (low : p < length xs) (high : k < length xs) (above : x ≡ get_or xs p x) (below : y ≡ get_or xs k y) where
  pub under_read : is_le (entry_cmp y x) ≡ true → IsUnder xs p k
  under_read h d = (λ i. is_le (entry_cmp ((get_or_default xs k d y high ∙ sym below) i) ((get_or_default xs p d x low ∙ sym above) i))) ∙ h

  pub under_not_greater : is_gt (entry_cmp y x) ≡ false → IsUnder xs p k
  under_not_greater h = under_read (le_not_gt (entry_cmp y x) h)

-- ---- children

pub only_child : (xs : List Entry) (j : ℕ) → j * 2 + 1 < length xs → length xs ≤ j * 2 + 2 → IsGreatestChild xs j (j * 2 + 1)
only_child xs j within last = record { from = omega arith; to = omega arith; within = within; greatest = λ k a b l. under_itself xs (j * 2 + 1) k (omega arith) }

module _ (xs : List Entry) (j c : ℕ) (from : j * 2 + 1 ≤ c) (to : c ≤ j * 2 + 2) (within : c < length xs) where
  pub greater_child : (o : ℕ) → (c + o ≡ j * 4 + 3) → IsUnder xs c o → IsGreatestChild xs j c
  greater_child o both h = record {
    from = from;
    to = to;
    within = within;
    greatest = λ k a b l. elim (cases_eq k c) [
      | inl e ↦ under_itself xs c k e
      | inr z ↦ let is : k ≡ o = omega arith in moved xs xs c k c o (λ d. refl) (λ d. ap (λ n. get_or xs n d) is) h
    ];
  }

-- ---- a child that moves up into the hole

module _ (xs ys : List Entry) (j c : ℕ) (long : length ys ≡ length xs) (first : (d : Entry) → get_or ys j d ≡ get_or xs c d) (others : (k : ℕ) (d : Entry) → k ≢ j → get_or ys k d ≡ get_or xs k d) where
  in_hole : (k : ℕ) → k ≡ j → (d : Entry) → get_or ys k d ≡ get_or xs c d
  in_hole k e d = ap (λ n. get_or ys n d) e ∙ first d

  pub sunk : IsGreatestChild xs j c → IsHeapBut xs j → IsHeapBut ys c
  sunk g h =
      let from : j * 2 + 1 ≤ c = g.from in
      let to : c ≤ j * 2 + 2 = g.to in record {
        apart = λ p k a b l u v. elim (cases_eq p j) [
          | inl e ↦ moved xs ys p k c k (in_hole p e) (λ d. others k d (omega arith)) (g.greatest k (omega arith) (omega arith) (omega arith))
          | inr z ↦ elim (cases_eq k j) [
            | inl e ↦ moved xs ys p k p c (λ d. others p d z) (in_hole k e) (h.across p c (omega arith) (omega arith) from to g.within)
            | inr y ↦ moved xs ys p k p k (λ d. others p d z) (λ d. others k d y) (h.apart p k a b (omega arith) z y)
          ]
        ];
        across = λ p k a b f t l. moved xs ys p k c k (in_hole p (omega arith)) (λ d. others k d (omega arith)) (h.apart c k f t (omega arith) (omega arith) (omega arith));
      }

-- ---- an exchange of an entry with its parent

module _ (xs ys : List Entry) (j c : ℕ) (s : SwappedAt xs ys j c) (long : length ys ≡ length xs) where
  at_second : (k : ℕ) → k ≡ c → (d : Entry) → get_or ys k d ≡ get_or xs j d
  at_second k e d = ap (λ n. get_or ys n d) e ∙ s.1 d

  module _ (from : j * 2 + 1 ≤ c) (to : c ≤ j * 2 + 2) (may : MayRise xs c) (under : IsUnder xs c j) where
    rest : IsHeapBut xs c
    rest = may.others

    -- the entries under the parent, the one that rises left out
    sibling : (k : ℕ) → j * 2 + 1 ≤ k → k ≤ j * 2 + 2 → k < length xs → k ≢ c → IsUnder xs j k
    sibling k f t l z = rest.apart j k f t l (omega arith) z

    pub risen : MayRise ys j
    risen =
        let within : c < length xs = may.within in record {
          within = omega arith;
          others = record {
            apart = λ p k a b l u v. elim (cases_eq p c) [
              | inl e ↦ moved xs ys p k j k (at_second p e) (λ d. s.2 k d v (omega arith)) (rest.across j k from to (omega arith) (omega arith) (omega arith))
              | inr z ↦
                  let y : k ≢ c = omega arith in
                  moved xs ys p k p k (λ d. s.2 p d u z) (λ d. s.2 k d v y) (rest.apart p k a b (omega arith) z y)
            ];
            across = λ p k a b f t l.
                let over = rest.apart p j a b (omega arith) (omega arith) (omega arith) in
                let same : (d : Entry) → get_or ys p d ≡ get_or xs p d = λ d. s.2 p d (omega arith) (omega arith) in
                elim (cases_eq k c) [
                  | inl e ↦ moved xs ys p k p j same (at_second k e) over
                  | inr z ↦ moved xs ys p k p k same (λ d. s.2 k d (omega arith) z) (under_chain xs p j k over (sibling k f t (omega arith) z))
                ];
          };
          below = λ k f t l. elim (cases_eq k c) [
            | inl e ↦ moved xs ys j k c j s.0 (at_second k e) under
            | inr z ↦ moved xs ys j k c k s.0 (λ d. s.2 k d (omega arith) z) (under_chain xs c j k under (sibling k f t (omega arith) z))
          ];
        }

-- ---- where an entry rests

module _ (xs : List Entry) (j : ℕ) (may : MayRise xs j) where
  rests : ((p : ℕ) → p * 2 + 1 ≤ j → j ≤ p * 2 + 2 → IsUnder xs p j) → IsHeap xs
  rests above p k a b l =
      elim (cases_eq p j) [
        | inl e ↦ moved xs xs p k j k (λ d. ap (λ n. get_or xs n d) e) (λ d. refl) (may.below k (omega arith) (omega arith) l)
        | inr z ↦ elim (cases_eq k j) [
          | inl e ↦ moved xs xs p k p j (λ d. refl) (λ d. ap (λ n. get_or xs n d) e) (above p (omega arith) (omega arith))
          | inr y ↦ may.others.apart p k a b l z y
        ]
      ]

  pub rests_on_top : j ≡ 0 → IsHeap xs
  rests_on_top e = rests (λ p a b. absurd (omega arith))

  pub rests_under_parent : 0 < j → IsUnder xs ((j - 1) / 2) j → IsHeap xs
  rests_under_parent pos h = rests (λ p a b. let e : p ≡ (j - 1) / 2 = omega arith in moved xs xs p j ((j - 1) / 2) j (λ d. ap (λ n. get_or xs n d) e) (λ d. refl) h)

-- ---- an entry that leaves

pub without_one : (xs : List Entry) (j : ℕ) → IsHeap xs → IsHeapBut xs j
without_one xs j heap = record { apart = λ p k a b l u v. heap p k a b l; across = λ p k a b f t l. under_chain xs p j k (heap p j a b (omega arith)) (heap j k f t l) }

-- the first n entries
module _ (xs : List Entry) (n : ℕ) (short : n ≤ length xs) where
  long : length (take n xs) ≡ n
  long = length-take-le n xs short

  within_front : (p k : ℕ) → p < n → k < n → IsUnder xs p k → IsUnder (take n xs) p k
  within_front p k u v h = moved xs (take n xs) p k p k (λ d. get_or-take n xs p d u) (λ d. get_or-take n xs k d v) h

  pub front_rises : (j : ℕ) → j < n → MayRise xs j → MayRise (take n xs) j
  front_rises j inside may =
      let e = long in record {
        within = omega (arith, e, inside);
        others = record {
          apart = λ p k a b l u v. within_front p k (omega (arith, e)) (omega (arith, e)) (may.others.apart p k a b (omega (arith, e, short)) u v);
          across = λ p k a b f t l. within_front p k (omega (arith, e)) (omega (arith, e)) (may.others.across p k a b f t (omega (arith, e, short)));
        };
        below = λ k f t l. within_front j k inside (omega (arith, e)) (may.below k f t (omega (arith, e, short)));
      }

  pub front_heap : (j : ℕ) → n ≤ j → IsHeapBut xs j → IsHeap (take n xs)
  front_heap j outside but p k a b l =
      let e = long in within_front p k (omega (arith, e)) (omega (arith, e)) (but.apart p k a b (omega (arith, e, short)) (omega (arith, e, outside)) (omega (arith, e, outside)))

-- ---- the top

pub under_top : (xs : List Entry) (n k : ℕ) → IsHeap xs → k ≤ n → k < length xs → IsUnder xs 0 k
under_top xs zero k heap fuel l = under_itself xs 0 k (omega arith)
under_top xs (suc n) k heap fuel l =
    elim (cases_eq k 0) [
      | inl e ↦ under_itself xs 0 k e
      | inr z ↦ under_chain xs 0 ((k - 1) / 2) k (under_top xs n ((k - 1) / 2) heap (omega arith) (omega arith)) (heap ((k - 1) / 2) k (omega arith) (omega arith) l)
    ]

module _ (xs : List Entry) (heap : IsHeap xs) where
  pub top_first : (x : Entry) → 0 < length xs → x ≡ get_or xs 0 x → top xs ≡ Some x
  top_first x some first =
      greatest-is entry_cmp entry_order xs x (0, some, sym first)
      (λ k d l. subst (λ (z : Entry). IsTrue (is_le (entry_cmp (get_or xs k d) z))) (get_or_default xs 0 d x some ∙ sym first) (under_top xs k k heap (omega arith) l d))

pub top_at_first : (xs : List Entry) → IsHeap xs → slice_get xs 0 ≡ top xs
top_at_first [] heap = refl
top_at_first (x ∷ xs) heap = sym (top_first (x ∷ xs) heap x (omega arith) refl)

-- ---- a part of a vector that is lent and comes back

pub given_back : {X : Type 0} (n : ℕ) (xs ys : List X) → n ≡ length xs → length ys ≡ length xs → take n (ys ++ drop (length ys) xs) ≡ ys
given_back n xs ys e l = ap (λ k. take k (ys ++ drop (length ys) xs)) (e ∙ sym l) ∙ take-append_seam ys (drop (length ys) xs)

-- ---- what a table keeps

pub kept_by : (xs ys : List Entry) → IsPermutation xs ys → All (λ entry. FitsRatio entry.ratio) xs → IsHeap ys → IsKept ys
kept_by xs ys h ratios heap = record { heap = heap; ratios = All-permutation (λ entry. FitsRatio entry.ratio) xs ys h ratios }

pub kept_after : (xs ys : List Entry) (x : Entry) → IsPermutation xs (x ∷ ys) → All (λ entry. FitsRatio entry.ratio) xs → IsHeap ys → IsKept ys
kept_after xs ys x h ratios heap = record {
  heap = heap;
  ratios = All-tail (λ entry. FitsRatio entry.ratio) x ys (All-permutation (λ entry. FitsRatio entry.ratio) xs (x ∷ ys) h ratios);
}
