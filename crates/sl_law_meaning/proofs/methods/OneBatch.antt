-- One batch of awards: the entries whose next seat ranks highest get it.
use Rattle.std.proofs.Common.{◌≡◌, ℕ, zero, suc, ◌+◌, ◌-◌, ◌<◌, ◌≤◌, ◌⊎◌, List, length, get_or, sum, inl, inr, arith, sym, ◌∙◌, subst}
use Rattle.std.specs.Prelude.{Contains}
use Rattle.std.proofs.lemmas.Bool.{cases_lt, cases_eq}
use Rattle.sl_base_quotients.specs.Quotient.{AtMost, Below}
use Rattle.sl_law_meaning.specs.methods.Ties.{Distinct, Lists}
use Rattle.sl_law_meaning.specs.laws.Ladders.{Ladders, Has, AreFalling, IsOn, IsTop, IsSettled, IsPeer, Raises}
use Rattle.sl_base_quotients.proofs.Order.{AtMost-trans, Below-AtMost, AtMost-Below, Below-AtMost_weak, Below-irrefl, cases_below, not-Below}
use Rattle.sl_law_meaning.proofs.methods.SeatSums.{some_greater, sum_mono_strict}
use Rattle.sl_law_meaning.proofs.methods.RaisedSeats.{raise, length-raise, sum-raise, raise_other, raise_at, increasing_distinct, cases_Contains}

module _ (l : Ladders) (law : AreFalling l) where
  -- a ladder has each seat below one that it has
  has_far : (i a d : ℕ) → get_or l.base i 0 ≤ a → Has l i (a + d) → Has l i a
  has_far i a zero low h = let e : a + zero ≡ a = omega arith in subst (λ n. Has l i n) e h
  has_far i a (suc d) low h =
      let e : a + suc d ≡ a + d + 1 = omega arith in
      has_far i a d low (law.no_gap i (a + d) (omega arith) (subst (λ n. Has l i n) e h))

  pub has_below : (i a b : ℕ) → get_or l.base i 0 ≤ a → a ≤ b → Has l i b → Has l i a
  has_below i a b low le h = let e : b ≡ a + (b - a) = omega arith in has_far i a (b - a) low (subst (λ n. Has l i n) e h)

  far : (i a d : ℕ) → get_or l.base i 0 ≤ a → Has l i (a + suc d) → Below (l.rank i (a + suc d)) (l.rank i a)
  far i a zero low h =
      let e : a + suc zero ≡ a + 1 = omega arith in
      subst (λ n. Below (l.rank i n) (l.rank i a)) (sym e) (law.falls i a low (subst (λ n. Has l i n) e h))
  far i a (suc d) low h =
      let e : a + suc (suc d) ≡ a + suc d + 1 = omega arith in
      let h' = subst (λ n. Has l i n) e h in
      let low' : get_or l.base i 0 ≤ a + suc d = omega arith in
      let there = law.no_gap i (a + suc d) low' h' in
      let step = law.falls i (a + suc d) low' h' in
      subst (λ n. Below (l.rank i n) (l.rank i a)) (sym e)
      (AtMost-Below (l.rank i (a + suc d + 1)) (l.rank i (a + suc d)) (l.rank i a) (law.positive i (a + suc d + 1) h')
      (Below-AtMost_weak (l.rank i (a + suc d + 1)) (l.rank i (a + suc d)) step) (far i a d low there))

  -- more seats held, a lower rank
  pub falls_to : (i a b : ℕ) → get_or l.base i 0 ≤ a → a < b → Has l i b → Below (l.rank i b) (l.rank i a)
  falls_to i a b low less h =
      let e : a + suc (b - suc a) ≡ b = omega arith in
      subst (λ n. Below (l.rank i n) (l.rank i a)) e (far i a (b - suc a) low (subst (λ n. Has l i n) (sym e) h))

  pub falls_to_weak : (i a b : ℕ) → get_or l.base i 0 ≤ a → a ≤ b → Has l i b → AtMost (l.rank i b) (l.rank i a)
  falls_to_weak i a b low le h =
      elim (cases_eq a b) [
        | inl e ↦ subst (λ n. AtMost (l.rank i n) (l.rank i a)) e (omega arith)
        | inr ne ↦ Below-AtMost_weak (l.rank i b) (l.rank i a) (falls_to i a b low (omega arith) h)
      ]

  -- an entry that has less in one vector than in another has a next seat in the first
  pub has_next : (s t : List ℕ) (i : ℕ) → IsOn l s → IsOn l t → get_or s i 0 < get_or t i 0 → Has l i (get_or s i 0)
  has_next s t i hs ht less =
      let low = hs.above i in
      has_below i (get_or s i 0) (get_or t i 0 - 1) low (omega arith) (ht.there i (omega (arith, low)))

  -- a settled vector does not have more than a top at one place and less at another
  not_crossed : (s t : List ℕ) (n i j : ℕ) → IsSettled l s → IsTop l n t → get_or t i 0 < get_or s i 0 → get_or s j 0 < get_or t j 0 → ⊥
  not_crossed s t n i j hs ht less more =
      let mi : get_or l.base i 0 ≤ get_or t i 0 = ht.on.above i in
      let mj : get_or l.base j 0 ≤ get_or s j 0 = hs.on.above j in
      let ti = has_next t s i ht.on hs.on less in
      let sj = has_next s t j hs.on ht.on more in
      let si = hs.on.there i (omega arith) in
      let tj = ht.on.there j (omega arith) in
      -- rank(i, t_i) ≤ rank(j, t_j - 1) ≤ rank(j, s_j) < rank(i, s_i - 1) ≤ rank(i, t_i)
      let one = ht.min_max j i (omega arith) ti in
      let two = falls_to_weak j (get_or s j 0) (get_or t j 0 - 1) mj (omega arith) tj in
      let three = hs.apart i j (omega arith) sj in
      let four = falls_to_weak i (get_or t i 0) (get_or s i 0 - 1) mi (omega arith) si in
      let A = l.rank i (get_or t i 0) in
      let B = l.rank j (get_or t j 0 - 1) in
      let C = l.rank j (get_or s j 0) in
      let D = l.rank i (get_or s i 0 - 1) in
      let pos = law.positive i (get_or t i 0) ti in
      let ac = AtMost-trans A B C (law.positive j (get_or t j 0 - 1) tj) one two in
      let ad = AtMost-Below A C D pos ac three in
      Below-irrefl A (Below-AtMost A D A pos ad four)

  -- so it is below each top of at least as many seats
  pub settled_below : (s t : List ℕ) (n : ℕ) → IsSettled l s → IsTop l n t → sum s ≤ n → (i : ℕ) → get_or s i 0 ≤ get_or t i 0
  settled_below s t n hs ht le i =
      let crossed : get_or t i 0 < get_or s i 0 → ⊥ = λ less. let found = some_greater s t i (omega (arith, ht.total)) less in not_crossed s t n i found.0 hs ht less found.1 in
      omega (arith, crossed)

  -- and above each top of at most as many
  pub settled_above : (s t : List ℕ) (n : ℕ) → IsSettled l s → IsTop l n t → n ≤ sum s → (i : ℕ) → get_or t i 0 ≤ get_or s i 0
  settled_above s t n hs ht le i =
      let crossed : get_or s i 0 < get_or t i 0 → ⊥ = λ less. let found = some_greater t s i (omega (arith, ht.total)) less in not_crossed s t n found.0 i hs ht found.1 less in
      omega (arith, crossed)

  -- a vector with a seat more on each peer, and still more at one place, has too many seats
  too_many : (s t peers : List ℕ) (i : ℕ) → Distinct peers → ((p : ℕ) → Contains peers p → p < length s) →
      ((j : ℕ) → get_or s j 0 ≤ get_or t j 0) → ((p : ℕ) → Contains peers p → get_or s p 0 < get_or t p 0) →
      get_or (raise s peers) i 0 < get_or t i 0 → sum s + length peers < sum t
  too_many s t peers i d within up more less =
      let each : (j : ℕ) → get_or (raise s peers) j 0 ≤ get_or t j 0 =
      λ j. elim (cases_Contains peers j) [
        | inl c ↦ omega (arith, raise_at s peers j d c (within j c), more j c)
        | inr out ↦ omega (arith, raise_other s peers j out, up j)
      ] in
      let fewer = sum_mono_strict (raise s peers) t i each less in
      omega (arith, fewer, sum-raise s peers within)

  module _ (s peers : List ℕ) (settled : IsSettled l s) (listed : Lists (IsPeer l s) peers) where
    pub peers_within : (p : ℕ) → Contains peers p → p < length s
    peers_within p c = let less = law.within p (get_or s p 0) (listed.has_only p c).next in omega (arith, less, settled.on.same_length)

    -- what every top of some more seats does
    module _ (t : List ℕ) (r : ℕ) (le : r ≤ length peers) (ht : IsTop l (sum s + r) t) where
      up : (j : ℕ) → get_or s j 0 ≤ get_or t j 0
      up = settled_below s t (sum s + r) settled ht (omega arith)

      -- if the last seat of i ranks below the peers' next one, each peer has got its seat
      all_got : (i : ℕ) → get_or l.base i 0 < get_or t i 0 →
          ((p : ℕ) → Contains peers p → Below (l.rank i (get_or t i 0 - 1)) (l.rank p (get_or s p 0))) →
          (p : ℕ) → Contains peers p → get_or s p 0 < get_or t p 0
      all_got i raised worse p c =
          elim (cases_lt (get_or s p 0) (get_or t p 0)) [
            | inl less ↦ less
            | inr g ↦
                (let e : get_or s p 0 ≡ get_or t p 0 = omega (arith, up p) in
                let fair = ht.min_max i p raised (subst (λ n. Has l p n) e (listed.has_only p c).next) in
                let fair' = subst (λ n. AtMost (l.rank p n) (l.rank i (get_or t i 0 - 1))) (sym e) fair in
                absurd (let w = worse p c in omega (arith, w, fair')))
          ]

      too_much : (i : ℕ) → ((p : ℕ) → Contains peers p → get_or s p 0 < get_or t p 0) → get_or (raise s peers) i 0 < get_or t i 0 → ⊥
      too_much i got less =
          let many = too_many s t peers i (increasing_distinct peers listed.in_order) peers_within up got less in
          omega (arith, many, ht.total)

      -- who has more than before is a peer
      gains_peer : (i : ℕ) → get_or s i 0 < get_or t i 0 → Contains peers i
      gains_peer i less =
          elim (cases_Contains peers i) [
            | inl c ↦ c
            | inr out ↦
                (let mi : get_or l.base i 0 ≤ get_or s i 0 = settled.on.above i in
                let si = has_next s t i settled.on ht.on less in
                let ti = ht.on.there i (omega arith) in
                let last = falls_to_weak i (get_or s i 0) (get_or t i 0 - 1) mi (omega arith) ti in
                let all : (j : ℕ) → Has l j (get_or s j 0) → AtMost (l.rank j (get_or s j 0)) (l.rank i (get_or s i 0)) =
                λ j sj. not-Below (l.rank i (get_or s i 0)) (l.rank j (get_or s j 0)) (λ below.
                too_much i
                (all_got i (omega arith) (λ p c.
                let peer = listed.has_only p c in
                Below-AtMost (l.rank i (get_or t i 0 - 1)) (l.rank j (get_or s j 0)) (l.rank p (get_or s p 0))
                (law.positive p (get_or s p 0) peer.next)
                (AtMost-Below (l.rank i (get_or t i 0 - 1)) (l.rank i (get_or s i 0)) (l.rank j (get_or s j 0)) (law.positive i (get_or t i 0 - 1) ti) last below)
                (peer.greatest j sj)))
                (omega (arith, raise_other s peers i out, less))) in
                listed.has i (record { next = si; greatest = all }))
          ]

      gains_one : (i : ℕ) → get_or t i 0 ≤ get_or s i 0 + 1
      gains_one i =
          elim (cases_lt (get_or s i 0 + 1) (get_or t i 0)) [
            | inr g ↦ g
            | inl less ↦
                (let c = gains_peer i (omega arith) in
                let mi : get_or l.base i 0 ≤ get_or s i 0 = settled.on.above i in
                let ti = ht.on.there i (omega arith) in
                let last = falls_to i (get_or s i 0) (get_or t i 0 - 1) mi (omega arith) ti in
                absurd (too_much i
                (all_got i (omega arith) (λ p c'.
                let peer = listed.has_only p c' in
                Below-AtMost (l.rank i (get_or t i 0 - 1)) (l.rank i (get_or s i 0)) (l.rank p (get_or s p 0))
                (law.positive p (get_or s p 0) peer.next) last (peer.greatest i (listed.has_only i c).next)))
                (omega (arith, raise_at s peers i (increasing_distinct peers listed.in_order) c (peers_within i c), less))))
          ]

      pub batch_only : Raises peers r s t
      batch_only = record {
        same_length = ht.on.same_length ∙ sym settled.on.same_length;
        each = λ i. elim (cases_lt (get_or s i 0) (get_or t i 0)) [
          | inl less ↦ inr (gains_peer i less, omega (arith, gains_one i, less))
          | inr g ↦ inl (omega (arith, up i))
        ];
        total = ht.total;
      }

    -- a seat more for some of the peers gives a top
    pub batch_each : (t : List ℕ) (r : ℕ) → Raises peers r s t → IsTop l (sum s + r) t
    batch_each t r h =
        let on = settled.on in
        let above : (i : ℕ) → get_or s i 0 ≤ get_or t i 0 = λ i. elim (h.each i) [ inl e ↦ omega (arith, e) | inr c ↦ omega (arith, c.1) ] in
        record {
          on = record {
            same_length = h.same_length ∙ on.same_length;
            above = λ i. omega (arith, on.above i, above i);
            there = λ i less. elim (h.each i) [
              | inl e ↦ subst (λ n. Has l i (n - 1)) (sym e) (on.there i (omega (arith, e, less)))
              | inr c ↦ (let e : get_or s i 0 ≡ get_or t i 0 - 1 = omega (arith, c.1) in subst (λ n. Has l i n) e (listed.has_only i c.0).next)
            ];
          };
          total = h.total;
          min_max = λ i j less tj.
              let mj : get_or l.base j 0 ≤ get_or s j 0 = on.above j in
              let sj = has_below j (get_or s j 0) (get_or t j 0) mj (above j) tj in
              let own = falls_to_weak j (get_or s j 0) (get_or t j 0) mj (above j) tj in
              elim (h.each i) [
                | inl e ↦
                    (let apart = settled.apart i j (omega (arith, e, less)) sj in
                    let all = AtMost-Below (l.rank j (get_or t j 0)) (l.rank j (get_or s j 0)) (l.rank i (get_or s i 0 - 1)) (law.positive j (get_or t j 0) tj) own apart in
                    subst (λ n. AtMost (l.rank j (get_or t j 0)) (l.rank i (n - 1))) (sym e) (Below-AtMost_weak (l.rank j (get_or t j 0)) (l.rank i (get_or s i 0 - 1)) all))
                | inr c ↦
                    (let e : get_or s i 0 ≡ get_or t i 0 - 1 = omega (arith, c.1) in
                    let best = (listed.has_only i c.0).greatest j sj in
                    subst (λ n. AtMost (l.rank j (get_or t j 0)) (l.rank i n)) e
                    (AtMost-trans (l.rank j (get_or t j 0)) (l.rank j (get_or s j 0)) (l.rank i (get_or s i 0)) (law.positive j (get_or s j 0) sj) own best))
              ];
        }

    -- a seat more for all the peers gives a settled vector
    pub batch_all : IsSettled l (raise s peers)
    batch_all =
        let on = settled.on in
        let t = raise s peers in
        let d = increasing_distinct peers listed.in_order in
        let cases : (i : ℕ) → (get_or t i 0 ≡ get_or s i 0) ⊎ (Contains peers i × (get_or t i 0 ≡ get_or s i 0 + 1)) =
        λ i. elim (cases_Contains peers i) [ inl c ↦ inr (c, raise_at s peers i d c (peers_within i c)) | inr out ↦ inl (raise_other s peers i out) ] in
        let made = batch_each t (length peers) (record { same_length = length-raise s peers; each = cases; total = sum-raise s peers peers_within }) in
        record {
          on = made.on;
          apart = λ i j less tj.
              let mj : get_or l.base j 0 ≤ get_or s j 0 = on.above j in
              let above : get_or s j 0 ≤ get_or t j 0 = elim (cases j) [ inl ej ↦ omega (arith, ej) | inr cj ↦ omega (arith, cj.1) ] in
              let sj = has_below j (get_or s j 0) (get_or t j 0) mj above tj in
              elim (cases_Contains peers i) [
                | inl c ↦
                    (let e : get_or s i 0 ≡ get_or t i 0 - 1 = omega (arith, raise_at s peers i d c (peers_within i c)) in
                    let peer = listed.has_only i c in
                    subst (λ n. Below (l.rank j (get_or t j 0)) (l.rank i n)) e
                    (elim (cases_Contains peers j) [
                      | inl cj ↦
                          Below-AtMost (l.rank j (get_or t j 0)) (l.rank j (get_or s j 0)) (l.rank i (get_or s i 0)) (law.positive i (get_or s i 0) peer.next)
                          (falls_to j (get_or s j 0) (get_or t j 0) mj (omega (arith, raise_at s peers j d cj (peers_within j cj))) tj) (peer.greatest j sj)
                      | inr outj ↦
                          subst (λ n. Below (l.rank j n) (l.rank i (get_or s i 0))) (sym (raise_other s peers j outj))
                          (elim (cases_below (l.rank j (get_or s j 0)) (l.rank i (get_or s i 0))) [
                            | inl below ↦ below
                            | inr g ↦ absurd (outj (listed.has j (record {
                              next = sj;
                              greatest = λ k sk. AtMost-trans (l.rank k (get_or s k 0)) (l.rank i (get_or s i 0)) (l.rank j (get_or s j 0))
                                  (law.positive i (get_or s i 0) peer.next) (peer.greatest k sk) g;
                            })))
                          ])
                    ]))
                | inr out ↦
                    (let e = raise_other s peers i out in
                    subst (λ n. Below (l.rank j (get_or t j 0)) (l.rank i (n - 1))) (sym e)
                    (AtMost-Below (l.rank j (get_or t j 0)) (l.rank j (get_or s j 0)) (l.rank i (get_or s i 0 - 1)) (law.positive j (get_or t j 0) tj)
                    (falls_to_weak j (get_or s j 0) (get_or t j 0) mj above tj) (settled.apart i j (omega (arith, e, less)) sj)))
              ];
        }
