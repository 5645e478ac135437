-- Counting the seats that rank above the seats of a batch.
use Rattle.std.proofs.Common.{◌≡◌, ℕ, zero, suc, ◌+◌, ◌-◌, ◌*◌, ◌<◌, ◌≤◌, Bool, true, false, List, length, get_or, drop, sum, inl, inr, arith, ap, cond}
use Rattle.std.specs.Prelude.{Contains}
use Rattle.std.specs.List.{sum_by, count_by, range_with_len}
use Rattle.std.proofs.lemmas.Bool.{cases_lt, lt-ltb, le-ltb}
use Rattle.std.proofs.lemmas.List.{drop_all}
use Rattle.std.proofs.lemmas.List.Sums.{sum_by-cons, sum_by-drop_more}
use Rattle.sl_law_meaning.specs.methods.Ties.{Lists}
use Rattle.sl_law_meaning.specs.methods.Steps.{is_below, awarded_seats, step_of}
use Rattle.sl_law_meaning.specs.laws.Ladders.{Ladders, AreFalling, IsTop, IsSettled, IsPeer}
use Rattle.sl_base_quotients.proofs.Order.{AtMost-trans, Below-AtMost}
use Rattle.sl_law_meaning.proofs.methods.OneBatch.{has_below, falls_to_weak, settled_below}

-- of n numbers from low on, those below mid pass
count_run : (p : ℕ → Bool) (n low mid : ℕ) → low ≤ mid → mid ≤ low + n → ((a : ℕ) → low ≤ a → a < mid → p a ≡ true) →
    ((a : ℕ) → mid ≤ a → a < low + n → p a ≡ false) → count_by p (range_with_len low n) ≡ mid - low
count_run p zero low mid a b more less = omega arith
count_run p (suc n) low mid a b more less =
    let cons = sum_by-cons (λ x. cond {A = ℕ} (p x) 1 0) low (range_with_len (low + 1) n) in
    elim (cases_lt low mid) [
      | inl l ↦
          (let rest = count_run p n (low + 1) mid (omega arith) (omega arith) (λ x lo hi. more x (omega arith) hi) (λ x lo hi. less x lo (omega arith)) in
          let here : cond {A = ℕ} (p low) 1 0 ≡ 1 = ap (λ t. cond {A = ℕ} t 1 0) (more low (omega arith) l) in
          omega (arith, cons, rest, here))
      | inr g ↦
          (let rest = count_run p n (low + 1) (low + 1) (omega arith) (omega arith) (λ x lo hi. absurd (omega arith)) (λ x lo hi. less x (omega arith) (omega arith)) in
          let here : cond {A = ℕ} (p low) 1 0 ≡ 0 = ap (λ t. cond {A = ℕ} t 1 0) (less low g (omega arith)) in
          omega (arith, cons, rest, here))
    ]

-- what each entry adds to its base
add_up : (f : ℕ → ℕ) (base s : List ℕ) → ((j : ℕ) → f j + get_or base j 0 ≡ get_or s j 0) → (n k : ℕ) → length base ≡ k + n → length s ≡ k + n →
    sum_by f (range_with_len k n) + sum (drop k base) ≡ sum (drop k s)
add_up f base s each zero k eb es =
    let b : sum (drop k base) ≡ 0 = ap sum (drop_all k base (omega arith)) in
    let t : sum (drop k s) ≡ 0 = ap sum (drop_all k s (omega arith)) in
    omega (arith, b, t)
add_up f base s each (suc n) k eb es =
    let rest = add_up f base s each n (k + 1) (omega arith) (omega arith) in
    let cons = sum_by-cons f k (range_with_len (k + 1) n) in
    let b : sum (drop k base) ≡ get_or base k 0 + sum (drop (k + 1) base) = sum_by-drop_more (λ x. x) base k 0 (omega arith) in
    let t : sum (drop k s) ≡ get_or s k 0 + sum (drop (k + 1) s) = sum_by-drop_more (λ x. x) s k 0 (omega arith) in
    omega (arith, rest, cons, b, t, each k)

module _ (l : Ladders) (law : AreFalling l) (s peers : List ℕ) (settled : IsSettled l s) (listed : Lists (IsPeer l s) peers) where
  module _ (t : List ℕ) (seats i : ℕ) (ht : IsTop l seats t) (less : sum s < seats) (c : Contains peers i) where
    each_entry : (j : ℕ) → count_by (λ a. is_below (l.rank i (get_or s i 0)) (l.rank j a)) (awarded_seats l.base t j) + get_or l.base j 0 ≡ get_or s j 0
    each_entry j =
        let x = l.rank i (get_or s i 0) in
        let peer = listed.has_only i c in
        let up = settled_below l law s t seats settled ht (omega arith) j in
        let low = settled.on.above j in
        let same = count_run (λ a. is_below x (l.rank j a)) (get_or t j 0 - get_or l.base j 0) (get_or l.base j 0) (get_or s j 0) low (omega arith)
        (λ a lo hi.
        let last = settled.on.there j (omega arith) in
        let here = has_below l law j a (get_or s j 0 - 1) lo (omega arith) last in
        lt-ltb (x.num * (l.rank j a).den) ((l.rank j a).num * x.den)
        (Below-AtMost x (l.rank j (get_or s j 0 - 1)) (l.rank j a) (law.positive j a here) (settled.apart j i (omega arith) peer.next)
        (falls_to_weak l law j a (get_or s j 0 - 1) lo (omega arith) last)))
        (λ a lo hi.
        let last = ht.on.there j (omega arith) in
        let here = has_below l law j a (get_or t j 0 - 1) (omega arith) (omega arith) last in
        let next = has_below l law j (get_or s j 0) a low lo here in
        le-ltb (x.num * (l.rank j a).den) ((l.rank j a).num * x.den)
        (AtMost-trans (l.rank j a) (l.rank j (get_or s j 0)) x (law.positive j (get_or s j 0) next) (falls_to_weak l law j (get_or s j 0) a low lo here) (peer.greatest j next))) in
        omega (arith, same)

    pub step_is : step_of l.rank l.base t i (get_or s i 0) ≡ 1 + (sum s - sum l.base)
    step_is =
        let x = l.rank i (get_or s i 0) in
        let all = add_up (λ j. count_by (λ a. is_below x (l.rank j a)) (awarded_seats l.base t j)) l.base s each_entry (length t) 0
        (omega (arith, ht.on.same_length)) (omega (arith, ht.on.same_length, settled.on.same_length)) in
        omega (arith, all)
