-- Batch after batch: each number of seats has a settled vector below it, and a last batch that is not given to all its peers.
use Rattle.std.proofs.Common.{◌≡◌, ℕ, zero, suc, ◌+◌, ◌-◌, ◌<◌, ◌≤◌, ◌⊎◌, List, length, get_or, sum, inl, inr, arith, refl, sym, subst}
use Rattle.std.proofs.lemmas.Bool.{cases_lt, cases_Bool, both_ways}
use Rattle.sl_base_quotients.specs.Quotient.{Quotient, AtMost}
use Rattle.sl_law_meaning.specs.methods.Ties.{Lists, IsWellDefined}
use Rattle.sl_law_meaning.specs.laws.Ladders.{Ladders, Has, AreFalling, IsTop, IsSettled, IsPeer, HasRoom, Raises}
use Rattle.sl_base_quotients.proofs.Order.{AtMost-trans, decide_AtMost, not-AtMost}
use Rattle.sl_law_meaning.proofs.methods.RaisedSeats.{raise, sum-raise, increasing_distinct}
use Rattle.sl_law_meaning.proofs.methods.ListedEntries.{below_next, find_all, cases_all}
use Rattle.sl_law_meaning.proofs.methods.OneBatch.{batch_only, batch_each, batch_all, peers_within}
use Rattle.sl_law_meaning.proofs.methods.TieLaw.{ties}
use Rattle.sl_law_meaning.proofs.methods.ChoiceLaw.{well_defined}

pub decide_Has : (l : Ladders) (i a : ℕ) → Has l i a ⊎ (Has l i a → ⊥)
decide_Has l i a = elim (cases_Bool (l.has i a)) [ inl yes' ↦ inl yes' | inr no' ↦ inr (both_ways (l.has i a) no') ]

module _ (l : Ladders) (law : AreFalling l) where
  decide_peer : (s : List ℕ) (i : ℕ) → IsPeer l s i ⊎ (IsPeer l s i → ⊥)
  decide_peer s i =
      elim (decide_Has l i (get_or s i 0)) [
        | inr none ↦ inr (λ peer. none peer.next)
        | inl next ↦
            (let P : ℕ → Type 0 = λ j. Has l j (get_or s j 0) → AtMost (l.rank j (get_or s j 0)) (l.rank i (get_or s i 0)) in
            let dec : (j : ℕ) → P j ⊎ (P j → ⊥) = λ j.
            elim (decide_Has l j (get_or s j 0)) [
              | inr none ↦ inl (λ h. absurd (none h))
              | inl here ↦ elim (decide_AtMost (l.rank j (get_or s j 0)) (l.rank i (get_or s i 0))) [ inl h ↦ inl (λ _. h) | inr h ↦ inr (λ all. h (all here)) ]
            ] in
            elim (cases_all P dec (length l.base)) [
              | inl all ↦ inl (record { next = next; greatest = λ j h. all j (law.within j (get_or s j 0) h) h })
              | inr some ↦ inr (λ peer. some.1 (peer.greatest some.0))
            ])
      ]

  -- the peers of a vector
  pub list_peers : (s : List ℕ) → (peers : List ℕ) × Lists (IsPeer l s) peers
  list_peers s = find_all (IsPeer l s) (decide_peer s) (length l.base) (λ i peer. law.within i (get_or s i 0) peer.next)

  -- the best of the first n entries
  best_of : (s : List ℕ) (n : ℕ) →
      ((i : ℕ) → i < n → Has l i (get_or s i 0) → ⊥)
      ⊎ ((i : ℕ) × Has l i (get_or s i 0) × ((j : ℕ) → j < n → Has l j (get_or s j 0) → AtMost (l.rank j (get_or s j 0)) (l.rank i (get_or s i 0))))
  best_of s zero = inl (λ i less h. absurd (omega arith))
  best_of s (suc n) =
      let r : ℕ → Quotient = λ j. l.rank j (get_or s j 0) in
      let None : ℕ → Type 0 = λ j. Has l j (get_or s j 0) → ⊥ in
      let Under : ℕ → ℕ → Type 0 = λ i j. Has l j (get_or s j 0) → AtMost (r j) (r i) in
      elim (best_of s n) [
        | inl empty ↦ elim (decide_Has l n (get_or s n 0)) [
          | inr none ↦ inl (below_next None n empty none)
          | inl here ↦ inr (n, here, below_next (Under n) n (λ j less h. absurd (empty j less h)) (λ h. omega arith))
        ]
        | inr some ↦ elim (decide_Has l n (get_or s n 0)) [
          | inr none ↦ inr (some.0, some.1, below_next (Under some.0) n some.2 (λ h. absurd (none h)))
          | inl here ↦ elim (decide_AtMost (r n) (r some.0)) [
            | inl le ↦ inr (some.0, some.1, below_next (Under some.0) n some.2 (λ h. le))
            | inr more ↦ inr (
              n,
              here,
              below_next (Under n) n
                  (λ j less h. AtMost-trans (r j) (r some.0) (r n) (law.positive some.0 (get_or s some.0 0) some.1) (some.2 j less h) (not-AtMost (r n) (r some.0) more)) (λ h. omega arith),
            )
          ]
        ]
      ]

  -- no entry has a next seat, or one ranks highest
  pub cases_peer : (s : List ℕ) → ((i : ℕ) → Has l i (get_or s i 0) → ⊥) ⊎ ((i : ℕ) × IsPeer l s i)
  cases_peer s =
      elim (best_of s (length l.base)) [
        | inl none ↦ inl (λ i h. none i (law.within i (get_or s i 0) h) h)
        | inr some ↦ inr (some.0, record { next = some.1; greatest = λ j h. some.2 j (law.within j (get_or s j 0) h) h })
      ]

  pub some_peer : (s peers : List ℕ) → Lists (IsPeer l s) peers → (i : ℕ) → Has l i (get_or s i 0) → 0 < length peers
  some_peer s peers listed i h =
      elim (cases_peer s) [
        | inl none ↦ absurd (none i h)
        | inr some ↦ (let c = listed.has some.0 some.1 in let less = c.1 in omega (arith, less))
      ]

  -- the base is settled
  pub begin : IsSettled l l.base
  begin = record {
    on = record { same_length = refl; above = λ i. omega arith; there = λ i less. absurd (omega arith) };
    apart = λ i j less h. absurd (omega arith);
  }

-- the settled vector below a number of seats, its peers, and how many of them still get a seat
pub record LastBatch (l : Ladders) (seats : ℕ) : Type 0 where
  pub start : List ℕ
  pub peers : List ℕ
  pub k : ℕ
  pub settled : IsSettled l start
  pub listed : Lists (IsPeer l start) peers
  pub few : (k ≡ 0) ⊎ (k < length peers)
  pub total : sum start + k ≡ seats

module _ (l : Ladders) (law : AreFalling l) (seats : ℕ) where
  module _ (room : HasRoom l seats) where
    batches_from : (fuel r : ℕ) (s : List ℕ) → r ≤ fuel → sum s + r ≡ seats → IsSettled l s → LastBatch l seats
    batches_from zero r s le e hs =
        let listed = list_peers l law s in
        record { start = s; peers = listed.0; k = r; settled = hs; listed = listed.1; few = inl (omega arith); total = e }
    batches_from (suc fuel) r s le e hs =
        let listed = list_peers l law s in
        let peers = listed.0 in
        elim (cases_lt 0 r) [
          | inr g ↦ record { start = s; peers = peers; k = r; settled = hs; listed = listed.1; few = inl (omega arith); total = e }
          | inl pos ↦ elim (cases_lt r (length peers)) [
            | inl less ↦ record { start = s; peers = peers; k = r; settled = hs; listed = listed.1; few = inr less; total = e }
            | inr g ↦
                (let next = room s hs.on (omega arith) in
                let some = some_peer l law s peers listed.1 next.0 next.1 in
                let more : sum (raise s peers) ≡ sum s + length peers = sum-raise s peers (peers_within l law s peers hs listed.1) in
                batches_from fuel (r - length peers) (raise s peers) (omega arith) (omega arith) (batch_all l law s peers hs listed.1))
          ]
        ]

    pub last_batch : sum l.base ≤ seats → LastBatch l seats
    last_batch le = batches_from (seats - sum l.base) (seats - sum l.base) l.base (omega arith) (omega arith) (begin l law)

  -- the tops are what the last batch can give
  module _ (b : LastBatch l seats) where
    k_le : b.k ≤ length b.peers
    k_le = elim b.few [ inl z ↦ omega arith | inr less ↦ omega arith ]

    pub tops_only : (t : List ℕ) → IsTop l seats t → Raises b.peers b.k b.start t
    tops_only t ht = batch_only l law b.start b.peers b.settled b.listed t b.k k_le (subst (λ n. IsTop l n t) (sym b.total) ht)

    pub tops_each : (t : List ℕ) → Raises b.peers b.k b.start t → IsTop l seats t
    tops_each t h = subst (λ n. IsTop l n t) b.total (batch_each l law b.start b.peers b.settled b.listed t b.k h)

  pub tops_well_defined : sum l.base ≤ seats → HasRoom l seats → IsWellDefined (IsTop l seats)
  tops_well_defined le room =
      let b = last_batch room le in
      well_defined (IsTop l seats)
      (ties b.start b.peers b.k (increasing_distinct b.peers b.listed.in_order) (peers_within l law b.start b.peers b.settled b.listed)
      (IsTop l seats) (tops_only b) (tops_each b) b.listed.in_order b.few)
