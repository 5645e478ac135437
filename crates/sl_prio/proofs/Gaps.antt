-- An entry that is carried past others, which move into the gap one by one: with it put into the gap, two entries have exchanged places.
-- Where an entry leaves, the gap sinks to the bottom, and the last entry is put there.
use Rattle.std.proofs.Common.{◌≡◌, ◌≢◌, ℕ, ◌+◌, ◌-◌, ◌*◌, ◌<◌, ◌≤◌, true, false, List, [], ◌∷◌, ◌++◌, Some, IsPermutation, length, get_or, set, take, drop, sym, ap, subst, ◌∙◌, inl, inr, arith}
use Rattle.std.specs.List.{SwappedAt}
use Rattle.std.proofs.lemmas.Bool.{cases_eq}
use Rattle.std.proofs.lemmas.List.{get_or_default, get_or-set_other, get_or-set_same, length-set, length-take-le, set_comm, set-get_or, set-set, take-set-le}
use Rattle.std.proofs.lemmas.List.Edits.{swap_is}
use Rattle.std.proofs.lemmas.List.Sorted.{IsPermutation-cons, IsPermutation-swap, IsPermutation-swap_remove, IsPermutation-trans}
use Rattle.std.proofs.Math.Seq.{set-append_seam, take-set-lt}
use Rattle.std.specs.Ordering.{is_gt}
use Rattle.sl_base_quotients.specs.declared.entry.Entry.{Entry}
use Rattle.sl_base_quotients.specs.Entry.{entry_cmp}
use Rattle.sl_prio.specs.inner.Heap.{IsGreatestChild, IsHeap, IsHeapBut, IsUnder, MayRise}
use Rattle.sl_prio.proofs.Heaps.{front_heap, front_rises, given_back, moved, sunk, under_not_greater, under_read}
use Rattle.sl_base_rankings.proofs.Greatest.{AtMost-other}
use Rattle.sl_base_rankings.proofs.Orders.{entry_order}

-- x is carried, and y moves from place c into the gap at j
module _ (xs : List Entry) (j c : ℕ) (x y : Entry) (gap : j < length xs) (within : c < length xs) (other : c ≢ j) (read : y ≡ get_or xs c y) where
  -- the entries with the one that is carried in the gap, before and after
  abbrev pub before : List Entry
  before = set xs j x

  abbrev pub after : List Entry
  after = set (set xs j y) c x

  pub same_length : length after ≡ length before
  same_length =
      let one = length-set xs j x in
      let two = length-set xs j y in
      let three = length-set (set xs j y) c x in
      omega (arith, one, two, three)

  was_there : (d : Entry) → get_or before c d ≡ y
  was_there d = get_or-set_other xs j c x d other ∙ get_or_default xs c d y within ∙ sym read

  was_here : (d : Entry) → get_or before j d ≡ x
  was_here d = get_or-set_same xs j x d gap

  exchange : (d : Entry) → after ≡ set (set before j (get_or before c d)) c (get_or before j d)
  exchange d = (λ i. set (sym (set-set xs j x y) i) c x) ∙ (λ i. set (set before j (sym (was_there d) i)) c (sym (was_here d) i))

  is_there : (d : Entry) → get_or after c d ≡ x
  is_there d = let long = length-set xs j y in get_or-set_same (set xs j y) c x d (omega (arith, long, within))

  is_here : (d : Entry) → get_or after j d ≡ y
  is_here d = get_or-set_other (set xs j y) c j x d (λ e. other (sym e)) ∙ get_or-set_same xs j y d gap

  elsewhere : (k : ℕ) (d : Entry) → k ≢ j → k ≢ c → get_or after k d ≡ get_or before k d
  elsewhere k d u v = get_or-set_other (set xs j y) c k x d v ∙ get_or-set_other xs j k y d u ∙ sym (get_or-set_other xs j k x d u)

  pub exchanged_back : SwappedAt before after c j
  exchanged_back = ((λ d. is_there d ∙ sym (was_here d)), (λ d. is_here d ∙ sym (was_there d)), (λ k d u v. elsewhere k d v u), λ d. exchange_back d)
    where
      exchange_back : (d : Entry) → after ≡ set (set before c (get_or before j d)) j (get_or before c d)
      exchange_back d = exchange d ∙ set_comm before j c (get_or before c d) (get_or before j d) (λ e. other (sym e))

  long_before : length before ≡ length xs
  long_before = length-set xs j x

  pub moves : IsPermutation before after
  moves =
      let long = long_before in
      IsPermutation-swap before after j c (omega (arith, long, gap)) (omega (arith, long, within)) (exchange x ∙ swap_is before j c x (omega (arith, long, gap)) (omega (arith, long, within)))

-- y moves from the greatest child of j up into the gap, and leaves one where it stood
pub deeper : (xs : List Entry) (j c : ℕ) (y : Entry) → j < length xs → y ≡ get_or xs c y → IsGreatestChild xs j c → IsHeapBut xs j → IsHeapBut (set xs j y) c
deeper xs j c y gap read found but =
    let within = found.within in
    sunk xs (set xs j y) j c (length-set xs j y) (λ d. get_or-set_same xs j y d gap ∙ read ∙ sym (get_or_default xs c d y within)) (λ k d z. get_or-set_other xs j k y d z)
    found but

-- x is put into a gap that has no children
pub filled : (xs : List Entry) (j : ℕ) (x : Entry) → j < length xs → length xs ≤ j * 2 + 1 → IsHeapBut xs j → MayRise (set xs j x) j
filled xs j x gap last but =
    let e = length-set xs j x in
    let same : (k : ℕ) → k ≢ j → (d : Entry) → get_or (set xs j x) k d ≡ get_or xs k d = λ k z d. get_or-set_other xs j k x d z in record {
      within = omega (arith, e, gap);
      others = record {
        apart = λ p k a b l u v. moved xs (set xs j x) p k p k (same p u) (same k v) (but.apart p k a b (omega (arith, e, l)) u v);
        across = λ p k a b f t l. moved xs (set xs j x) p k p k (same p (omega arith)) (same k (omega arith)) (but.across p k a b f t (omega (arith, e, l)));
      };
      below = λ k f t l. absurd (omega (arith, e, l, f, last));
    }

-- the last entry is put into the gap that r leaves, unless r is the last
pub moves_last : (xs : List Entry) (j : ℕ) (r last : Entry) → j < length xs → last ≡ get_or xs (length xs - 1) last → IsPermutation (set xs j r) (r ∷ take (length xs - 1) (set xs j last))
moves_last xs j r last gap read =
    let before = set xs j r in
    let long : length before ≡ length xs = length-set xs j r in
    let end = get_or before (length before - 1) r in
    let put : take (length before - 1) (set before j end) ≡ take (length xs - 1) (set xs j end) = λ i. take (long i - 1) (set-set xs j r end i) in
    let same : take (length xs - 1) (set xs j end) ≡ take (length xs - 1) (set xs j last) = elim (cases_eq j (length xs - 1)) [
      | inl e ↦ take-set-le (length xs - 1) xs j end (omega (arith, e)) ∙ sym (take-set-le (length xs - 1) xs j last (omega (arith, e)))
      | inr z ↦
          let is : end ≡ last =
          ap (λ n. get_or before (n - 1) r) long ∙ get_or-set_other xs j (length xs - 1) r r (λ e. z (sym e)) ∙ get_or_default xs (length xs - 1) r last (omega (arith, gap)) ∙ sym read in
          ap (λ x. take (length xs - 1) (set xs j x)) is
    ] in
    subst (λ (ys : List Entry). IsPermutation before (r ∷ ys)) (put ∙ same) (IsPermutation-swap_remove before j r (omega (arith, long, gap)) (sym (get_or-set_same xs j r r gap)))

-- An entry leaves a place of a vector: its entries are lent, the gap sinks to j, they come back, the last one is popped, and is put into the
-- gap, unless it moved up itself.
module _ (n : ℕ) (xs lent sunk rest : List Entry) (place j : ℕ) (last : Entry) (all : n ≡ length xs) (is : lent ≡ xs) (long : length sunk ≡ length xs)
    (popped : rest ≡ take (n - 1) (take n (sunk ++ drop (length sunk) xs))) (value : Some last ≡ Some (get_or (take n (sunk ++ drop (length sunk) xs)) (n - 1) last))
    (sinks : (x : Entry) → IsPermutation (set lent place x) (set sunk j x)) (settled : (x : Entry) → MayRise (set sunk j x) j) where
  back : take n (sunk ++ drop (length sunk) xs) ≡ sunk
  back = given_back n xs sunk all long

  cut : rest ≡ take (length sunk - 1) sunk
  cut = popped ∙ (λ i. take ((all ∙ sym long) i - 1) (back i))

  read : last ≡ get_or sunk (length sunk - 1) last
  read = let same : last ≡ get_or (take n (sunk ++ drop (length sunk) xs)) (n - 1) last = cc in same ∙ (λ i. get_or (back i) ((all ∙ sym long) i - 1) last)

  abbrev front : List Entry
  front = take (length sunk - 1) (set sunk j last)

  here : j < length sunk
  here = let e = length-set sunk j last in let within = (settled last).within in omega (arith, e, within)

  short : length sunk - 1 ≤ length (set sunk j last)
  short = let e = length-set sunk j last in omega (arith, e)

  put_there : j < length sunk - 1 → set rest j last ≡ front
  put_there inside = ap (λ (ys : List Entry). set ys j last) cut ∙ sym (take-set-lt (length sunk - 1) sunk j last inside)

  left_for : (d : Entry) → IsPermutation xs (get_or xs place d ∷ front)
  left_for d =
      let x = get_or xs place d in
      let whole = (λ i. set (is i) place x) ∙ set-get_or xs place d in
      IsPermutation-trans xs (set sunk j x) (x ∷ front) (subst (λ (ys : List Entry). IsPermutation ys (set sunk j x)) whole (sinks x)) (moves_last sunk j x last here read)

  -- with entries left beside the one in the gap
  module _ (inside : j < length rest) where
    before_last : j < length sunk - 1
    before_last = let e = ap length cut in let few = length-take-le (length sunk - 1) sunk (omega arith) in omega (arith, e, few, inside)

    pub last_rises : (ys : List Entry) → ys ≡ rest → MayRise (set ys j last) j
    last_rises ys e =
        subst (λ (zs : List Entry). MayRise zs j) (sym (ap (λ (zs : List Entry). set zs j last) e ∙ put_there before_last))
        (front_rises (set sunk j last) (length sunk - 1) short j before_last (settled last))

    pub others_left : (ys after : List Entry) → ys ≡ rest → IsPermutation (set ys j last) after → (d : Entry) → IsPermutation xs (get_or xs place d ∷ after)
    others_left ys after e risen d =
        let x = get_or xs place d in
        let on = subst (λ (zs : List Entry). IsPermutation zs after) (ap (λ (zs : List Entry). set zs j last) e ∙ put_there before_last) risen in
        IsPermutation-trans xs (x ∷ front) (x ∷ after) (left_for d) (IsPermutation-cons x front after on)

  -- with the gap at the end
  module _ (outside : length rest ≤ j) where
    cut_off : front ≡ rest
    cut_off =
        let e = ap length cut in
        let few = length-take-le (length sunk - 1) sunk (omega arith) in
        take-set-le (length sunk - 1) sunk j last (omega (arith, e, few, outside)) ∙ sym cut

    pub rest_left : (d : Entry) → IsPermutation xs (get_or xs place d ∷ rest)
    rest_left d = subst (λ (ys : List Entry). IsPermutation xs (get_or xs place d ∷ ys)) cut_off (left_for d)

    pub rest_heap : IsHeap rest
    rest_heap =
        let e = ap length cut in
        let few = length-take-le (length sunk - 1) sunk (omega arith) in
        subst (λ (ys : List Entry). IsHeap ys) cut_off (front_heap (set sunk j last) (length sunk - 1) short j (omega (arith, e, few, outside)) (settled last).others)

-- an entry that was pushed is put into the gap where it stands
pub joins : (xs lent after : List Entry) (x : Entry) (n : ℕ) → lent ≡ xs ++ x ∷ [] → n ≡ length xs → IsPermutation (set lent n x) after → IsPermutation (xs ++ x ∷ []) after
joins xs lent after x n e last moved = subst (λ (ys : List Entry). IsPermutation ys after) ((λ i. set (e i) (last i) x) ∙ set-append_seam xs x [] x) moved

-- the entry in the gap at j beside the one at another place p
module _ (xs : List Entry) (j p : ℕ) (x : Entry) (gap : j < length xs) (within : p < length xs) (other : p ≢ j) where
  long : length (set xs j x) ≡ length xs
  long = length-set xs j x

  in_gap : x ≡ get_or (set xs j x) j x
  in_gap = sym (get_or-set_same xs j x x gap)

  beside : get_or xs p x ≡ get_or (set xs j x) p (get_or xs p x)
  beside = get_or_default xs p x (get_or xs p x) within ∙ sym (get_or-set_other xs j p x (get_or xs p x) other)

  pub under_gap : is_gt (entry_cmp x (get_or xs p x)) ≡ true → IsUnder (set xs j x) j p
  under_gap greater =
      let e = long in
      under_read (set xs j x) j p x (get_or xs p x) (omega (arith, e, gap)) (omega (arith, e, within)) in_gap beside (AtMost-other entry_cmp entry_order x (get_or xs p x) greater)

  pub gap_under : is_gt (entry_cmp x (get_or xs p x)) ≡ false → IsUnder (set xs j x) p j
  gap_under most =
      let e = long in
      under_not_greater (set xs j x) p j (get_or xs p x) x (omega (arith, e, within)) (omega (arith, e, gap)) beside in_gap most
