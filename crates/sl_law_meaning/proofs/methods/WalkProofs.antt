-- Within a batch the peers get their seats one by one.
use Rattle.std.proofs.Common.{◌≡◌, ◌↔◌, ℕ, ◌+◌, ◌<◌, List, [], ◌∷◌, length, get_or, sum, arith, refl, sym, ap, subst, ◌∙◌, inl, inr}
use Rattle.std.specs.Prelude.{Contains}
use Rattle.sl_law_meaning.specs.methods.Ties.{Distinct}
use Rattle.sl_law_meaning.specs.laws.Ladders.{Ladders, AreFalling, IsSettled, IsPeer, RaisesEach}
use Rattle.sl_law_meaning.specs.laws.Walks.{MidBatch, Walks}
use Rattle.sl_law_meaning.proofs.methods.RaisedSeats.{Contains-head, Contains-tail, Contains-cases, Contains-none, all_or_one, increasing_distinct, sum-raise}
use Rattle.sl_law_meaning.proofs.methods.DrawnLots.{fits_in}
use Rattle.sl_law_meaning.proofs.methods.LadderProofs.{batches}
use Rattle.sl_law_meaning.proofs.methods.TieLaw.{raised_is}

-- entries without the first of them that differ from it
not_alone : (i j : ℕ) → ¬ (i ≡ j) → ¬ Contains (i ∷ []) j
not_alone i j other c = elim (Contains-cases i [] j c) [ inl e ↦ other e | inr h ↦ Contains-none j h ]

module _ (l : Ladders) (law : AreFalling l) (s peers given t : List ℕ) (mid : MidBatch l s peers given t) where
  peers_distinct : Distinct peers
  peers_distinct = increasing_distinct peers mid.listed.in_order

  -- a peer without its seat, while there are more peers than seats given
  one_left : length given < length peers → (i : ℕ) × Contains peers i × ¬ Contains given i
  one_left fewer =
      elim (all_or_one peers given) [
        | inl all ↦ (let fits = fits_in peers given peers_distinct mid.distinct all in absurd (omega (arith, fits)))
        | inr one ↦ one
      ]

  left : length given < length peers → (j : ℕ) → IsPeer l t j ↔ (Contains peers j × ¬ Contains given j)
  left fewer j =
      let one = one_left fewer in
      ((batches l law).batch s peers mid.settled mid.listed).left given t mid.some mid.raised one.0 one.1 one.2 j

  more : length given < length peers → (j : ℕ) × IsPeer l t j
  more fewer = let one = one_left fewer in (one.0, (left fewer one.0).1 (one.1, one.2))

  next : (i : ℕ) (u : List ℕ) → Contains peers i → ¬ Contains given i → RaisesEach (i ∷ []) t u → MidBatch l s peers (i ∷ given) u × (get_or t i 0 ≡ get_or s i 0)
  next i u of_peers new h =
      let before = mid.raised.others i new in (
        record {
          settled = mid.settled;
          listed = mid.listed;
          distinct = (new, mid.distinct);
          some = λ j c. elim (Contains-cases i given j c) [ inl e ↦ subst (λ z. Contains peers z) e of_peers | inr g ↦ mid.some j g ];
          raised = record {
            same_length = h.same_length ∙ mid.raised.same_length;
            raised = λ j c. elim (Contains-cases i given j c) [
              | inl e ↦ subst (λ z. get_or u z 0 ≡ get_or s z 0 + 1) e (h.raised i (Contains-head i []) ∙ ap (λ n. n + 1) before)
              | inr g ↦ h.others j (not_alone i j (λ e. new (subst (λ z. Contains given z) (sym e) g))) ∙ mid.raised.raised j g
            ];
            others = λ j out.
                h.others j (not_alone i j (λ e. out (subst (λ z. Contains (i ∷ given) z) e (Contains-head i given)))) ∙ mid.raised.others j (λ g. out (Contains-tail i given j g));
          };
        },
        before,
      )

  within : (p : ℕ) → Contains given p → p < length s
  within p c =
      let less = law.within p (get_or s p 0) (mid.listed.has_only p (mid.some p c)).next in
      omega (arith, less, mid.settled.on.same_length)

  total : sum t ≡ sum s + length given
  total = ap sum (sym (raised_is s t given mid.distinct within mid.raised)) ∙ sum-raise s given within

  all : length given ≡ length peers → RaisesEach peers s t × IsSettled l t × (sum t ≡ sum s + length peers)
  all full =
      let has : (i : ℕ) → Contains peers i → Contains given i =
      elim (all_or_one peers given) [
        | inl every ↦ every
        | inr one ↦
            (let fits = fits_in (one.0 ∷ given) peers (one.2, mid.distinct) peers_distinct (λ j c.
            elim (Contains-cases one.0 given j c) [ inl e ↦ subst (λ z. Contains peers z) e one.1 | inr g ↦ mid.some j g ]) in
            absurd (omega (arith, fits, full)))
      ] in
      let each : RaisesEach peers s t = record {
        same_length = mid.raised.same_length;
        raised = λ i c. mid.raised.raised i (has i c);
        others = λ i out. mid.raised.others i (λ g. out (mid.some i g));
      } in
      let settled = ((batches l law).batch s peers mid.settled mid.listed).all t each in
      (each, settled.0, settled.1)

pub walks : Walks
walks l law = record {
  begin = λ s peers settled listed. record {
    settled = settled;
    listed = listed;
    distinct = tt;
    some = λ i c. absurd (Contains-none i c);
    raised = record { same_length = refl; raised = λ i c. absurd (Contains-none i c); others = λ i out. refl };
  };
  within = λ s peers given t mid. record {
    left = left l law s peers given t mid;
    more = more l law s peers given t mid;
    next = next l law s peers given t mid;
    total = total l law s peers given t mid;
    all = all l law s peers given t mid;
  };
}
