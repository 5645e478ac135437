-- The laws of ladders.
use Rattle.std.proofs.Common.{◌≡◌, ◌↔◌, ℕ, ◌+◌, ◌<◌, ◌≤◌, List, length, sum, arith, refl, sym, ap, ◌∙◌, subst, inl, inr, get_or}
use Rattle.std.specs.Prelude.{Contains}
use Rattle.sl_base_quotients.specs.Quotient.{AtMost}
use Rattle.sl_law_meaning.specs.methods.Ties.{Distinct, Lists}
use Rattle.sl_law_meaning.specs.laws.Ladders.{Ladders, Has, AreFalling, IsTop, IsSettled, IsPeer, Raises, RaisesEach}
use Rattle.sl_law_meaning.specs.laws.Awards.{SettledLaws, BatchLaws, Batches}
use Rattle.sl_base_quotients.proofs.Order.{AtMost-trans, Below-AtMost}
use Rattle.sl_law_meaning.proofs.methods.RaisedSeats.{raise, length-raise, sum-raise, raise_other, raise_at, increasing_distinct, cases_Contains}
use Rattle.sl_law_meaning.proofs.methods.OneBatch.{has_below, falls_to, falls_to_weak, settled_below, settled_above, batch_only, batch_each, batch_all, peers_within}
use Rattle.sl_law_meaning.proofs.methods.ManyBatches.{list_peers, some_peer, begin, tops_well_defined}
use Rattle.sl_law_meaning.proofs.methods.TieLaw.{HasTies, tied_some, unraised, none_raised, raised_is}
use Rattle.sl_law_meaning.proofs.methods.ChoiceLaw.{one_member, drawn_choice}
use Rattle.sl_law_meaning.proofs.methods.StepLaw.{step_is}

pub raise_each : (s entries : List ℕ) → Distinct entries → ((p : ℕ) → Contains entries p → p < length s) → RaisesEach entries s (raise s entries)
raise_each s entries d within = record {
  same_length = length-raise s entries;
  raised = λ i c. raise_at s entries i d c (within i c);
  others = λ i out. raise_other s entries i out;
}

module _ (l : Ladders) (law : AreFalling l) (s : List ℕ) (settled : IsSettled l s) where
  module _ (peers : List ℕ) (listed : Lists (IsPeer l s) peers) where
    distinct : Distinct peers
    distinct = increasing_distinct peers listed.in_order

    within : (p : ℕ) → Contains peers p → p < length s
    within = peers_within l law s peers settled listed

    only : (r : ℕ) → r ≤ length peers → (t : List ℕ) → IsTop l (sum s + r) t → Raises peers r s t
    only r le t ht = batch_only l law s peers settled listed t r le ht

    each : (r : ℕ) (t : List ℕ) → Raises peers r s t → IsTop l (sum s + r) t
    each r t h = batch_each l law s peers settled listed t r h

    pub part_ties : (r : ℕ) → 0 < r → r < length peers → HasTies (IsTop l (sum s + r)) peers r
    part_ties r pos less = tied_some s peers r distinct within (IsTop l (sum s + r)) (λ t ht. only r (omega arith) t ht) (each r) listed.in_order pos less

    -- once some peers have got their seat, the others are the peers
    module _ (given t : List ℕ) (some : (i : ℕ) → Contains given i → Contains peers i) (h : RaisesEach given s t)
        (i : ℕ) (ci : Contains peers i) (out : Contains given i → ⊥) where
      up : (j : ℕ) → get_or s j 0 ≤ get_or t j 0
      up j = elim (cases_Contains given j) [ inl c ↦ omega (arith, h.raised j c) | inr o ↦ omega (arith, h.others j o) ]

      -- a next rank is no higher than it was
      no_higher : (j : ℕ) → Has l j (get_or t j 0) → Has l j (get_or s j 0) × AtMost (l.rank j (get_or t j 0)) (l.rank j (get_or s j 0))
      no_higher j next = (
        has_below l law j (get_or s j 0) (get_or t j 0) (settled.on.above j) (up j) next,
        falls_to_weak l law j (get_or s j 0) (get_or t j 0) (settled.on.above j) (up j) next,
      )

      left_peer : (j : ℕ) → Contains peers j → (Contains given j → ⊥) → IsPeer l t j
      left_peer j c o =
          let same = h.others j o in
          let peer = listed.has_only j c in
          record {
            next = subst (λ n. Has l j n) (sym same) peer.next;
            greatest = λ k next. let low = no_higher k next in
                subst (λ n. AtMost (l.rank k (get_or t k 0)) (l.rank j n)) (sym same)
                (AtMost-trans (l.rank k (get_or t k 0)) (l.rank k (get_or s k 0)) (l.rank j (get_or s j 0)) (law.positive k (get_or s k 0) low.0) low.1 (peer.greatest k low.0));
          }

      only_left : (j : ℕ) → IsPeer l t j → Contains peers j × (Contains given j → ⊥)
      only_left j peer =
          let first = listed.has_only i ci in
          let ei = h.others i out in
          let fair = subst (λ n. AtMost (l.rank i n) (l.rank j (get_or t j 0))) ei (peer.greatest i (subst (λ n. Has l i n) (sym ei) first.next)) in
          elim (cases_Contains given j) [
            | inl c ↦
                (let e = h.raised j c in
                let less = falls_to l law j (get_or s j 0) (get_or t j 0) (settled.on.above j) (omega (arith, e)) peer.next in
                let best = first.greatest j (listed.has_only j (some j c)).next in
                let below = Below-AtMost (l.rank j (get_or t j 0)) (l.rank j (get_or s j 0)) (l.rank i (get_or s i 0)) (law.positive i (get_or s i 0) first.next) less best in
                absurd (omega (arith, below, fair)))
            | inr o ↦
                (let e = h.others j o in
                let fair' = subst (λ n. AtMost (l.rank i (get_or s i 0)) (l.rank j n)) e fair in (
                  listed.has j (record {
                    next = subst (λ n. Has l j n) e peer.next;
                    greatest = λ k next. AtMost-trans (l.rank k (get_or s k 0)) (l.rank i (get_or s i 0)) (l.rank j (get_or s j 0))
                        (law.positive i (get_or s i 0) first.next) (first.greatest k next) fair';
                  }),
                  o,
                ))
          ]

    pub batch : BatchLaws l s peers
    batch = record {
      more = λ i next. some_peer l law s peers listed i next;
      some = λ r le t. (only r le t, each r t);
      left = λ given t some h i ci out j. (only_left given t some h i ci out j, λ c. left_peer given t some h i ci out j c.0 c.1);
      all = λ t h. let e = raised_is s t peers distinct within h in
          (subst (λ y. IsSettled l y) e (batch_all l law s peers settled listed), ap sum (sym e) ∙ sum-raise s peers within);
      drawn_ones = λ r pos less lot d names t h.
          drawn_choice (IsTop l (sum s + r)) s peers r (part_ties r pos less).are_tied less (λ y. (only r (omega arith) y, each r y)) lot d names t h;
      tied_ones = λ r pos less lot none. ((part_ties r pos less).are_tied, none);
      step = λ seats t i ht less c. step_is l law s peers settled listed t seats i ht less c;
    }

  alone_only : (t : List ℕ) → IsTop l (sum s) t → t ≡ s
  alone_only t ht =
      let listed = list_peers l law s in
      let none : sum s + 0 ≡ sum s = omega arith in
      none_raised s listed.0 0 (distinct listed.0 listed.1) (within listed.0 listed.1) t refl (only listed.0 listed.1 0 (omega arith) t (subst (λ n. IsTop l n t) (sym none) ht))

  alone_member : IsTop l (sum s) s
  alone_member =
      let listed = list_peers l law s in
      let none : sum s + 0 ≡ sum s = omega arith in
      subst (λ n. IsTop l n s) none (each listed.0 listed.1 0 s (unraised listed.0 s))

  pub known : SettledLaws l s
  known =
      let only_one : (t : List ℕ) → IsTop l (sum s) t ↔ (t ≡ s) = λ t. (alone_only t, λ same. subst (λ y. IsTop l (sum s) y) (sym same) alone_member) in
      record {
        alone = only_one;
        choice = one_member (IsTop l (sum s)) s only_one;
        below = λ seats t ht le. settled_below l law s t seats settled ht le;
        above = λ seats t ht le. settled_above l law s t seats settled ht le;
      }

pub batches : Batches
batches l law = record {
  begin = begin l law;
  peers = list_peers l law;
  settled = known l law;
  batch = λ s peers settled listed. batch l law s settled peers listed;
  well_defined = tops_well_defined l law;
}
