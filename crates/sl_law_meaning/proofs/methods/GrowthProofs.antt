-- From how many seats on every allocation meets the minima.
use Rattle.std.proofs.Common.{◌≡◌, ℕ, ◌+◌, ◌-◌, ◌<◌, ◌≤◌, ◌⊎◌, List, length, get_or, sum, inl, inr, arith, subst}
use Rattle.std.specs.Prelude.{Contains}
use Rattle.std.proofs.lemmas.Bool.{cases_lt}
use Rattle.sl_base_quotients.specs.declared.method.Divisor.{Divisor}
use Rattle.sl_law_meaning.specs.methods.Field.{InField, no_minima}
use Rattle.sl_law_meaning.specs.methods.LeastHouse.{Meets, AllMeet}
use Rattle.sl_law_meaning.specs.methods.Ties.{Distinct, Lists}
use Rattle.sl_law_meaning.specs.laws.Ladders.{Ladders, AreFalling, IsTop, IsSettled, IsPeer, HasRoom, divisor_ladders}
use Rattle.sl_law_meaning.proofs.methods.SeatSums.{some_less, sum_zeros}
use Rattle.sl_law_meaning.proofs.methods.RaisedSeats.{raise, raise_other, increasing_distinct, cases_Contains}
use Rattle.sl_law_meaning.proofs.methods.ListedEntries.{cases_all}
use Rattle.sl_law_meaning.proofs.methods.OneBatch.{has_next, settled_below, settled_above, batch_each, peers_within}
use Rattle.sl_law_meaning.proofs.methods.ManyBatches.{last_batch, tops_each}
use Rattle.sl_law_meaning.proofs.methods.TieLaw.{others, some_of, Some, unraised, raise_chosen}
use Rattle.sl_law_meaning.proofs.methods.DivisorProofs.{in_range, free_tops}

-- r of the peers, but not i
without : (peers : List ℕ) (i r : ℕ) → Distinct peers → r < length peers → (chosen : List ℕ) × Some peers r chosen × (Contains chosen i → ⊥)
without peers i r d less =
    elim (cases_Contains peers i) [
      | inl c ↦
          (let rest = others peers i d c in
          let picked = some_of rest.0 r rest.1.distinct (omega (arith, rest.1.one_less)) in
          (picked.0, record { number = picked.1.number; distinct = picked.1.distinct; still = λ j h. rest.1.still j (picked.1.still j h) }, λ h. rest.1.gone (picked.1.still i h)))
      | inr out ↦ (let picked = some_of peers r d (omega arith) in (picked.0, picked.1, λ h. out (picked.1.still i h)))
    ]

module _ (l : Ladders) (law : AreFalling l) (v m : List ℕ) where
  module _ (s : List ℕ) (settled : IsSettled l s) where
    tops_meet : Meets v m s → (seats : ℕ) → sum s ≤ seats → (t : List ℕ) → IsTop l seats t → Meets v m t
    tops_meet meets seats le t ht i f = let up = settled_below l law s t seats settled ht le i in omega (arith, up, meets i f)

    -- a settled vector has room below it
    room_below : (seats : ℕ) → seats ≤ sum s → HasRoom l seats
    room_below seats le t on less = let found = some_less t s (omega arith) in (found.0, has_next l law t s found.0 on settled.on found.1)

    -- an entry that is short of its minimum is short in some top of fewer seats than one for each peer
    short_top : (peers : List ℕ) → Lists (IsPeer l s) peers → (i seats : ℕ) → sum l.base ≤ seats → seats < sum s + length peers →
        (t : List ℕ) × IsTop l seats t × (get_or t i 0 ≤ get_or s i 0)
    short_top peers listed i seats enough less =
        elim (cases_lt (sum s) seats) [
          | inl more ↦
              (let r = seats - sum s in
              let e : sum s + r ≡ seats = omega arith in
              let d = increasing_distinct peers listed.in_order in
              let picked = without peers i r d (omega arith) in
              let t = raise s picked.0 in
              let within = peers_within l law s peers settled listed in
              let ht = batch_each l law s peers settled listed t r (raise_chosen s peers r d within picked.0 picked.1.distinct picked.1.still picked.1.number) in
              let same = raise_other s picked.0 i picked.2 in
              (t, subst (λ n. IsTop l n t) e ht, omega (arith, same)))
          | inr g ↦
              (let b = last_batch l law seats (room_below seats g) enough in
              let d = increasing_distinct b.peers b.listed.in_order in
              let le : b.k ≤ length b.peers = elim b.few [ inl z ↦ omega arith | inr lt ↦ omega arith ] in
              let picked = some_of b.peers b.k d le in
              let t = raise b.start picked.0 in
              let ht = tops_each l law seats b t
              (raise_chosen b.start b.peers b.k d (peers_within l law b.start b.peers b.settled b.listed) picked.0 picked.1.distinct picked.1.still picked.1.number) in
              (t, ht, settled_above l law s t seats settled ht g i))
        ]

  -- whether each top meets the minima
  decide_tops : (seats : ℕ) → sum l.base ≤ seats → HasRoom l seats →
      ((t : List ℕ) → IsTop l seats t → Meets v m t) ⊎ (((t : List ℕ) → IsTop l seats t → Meets v m t) → ⊥)
  decide_tops seats enough room =
      let b = last_batch l law seats room enough in
      let P : ℕ → Type 0 = λ i. InField v i → get_or m i 0 ≤ get_or b.start i 0 in
      let dec : (i : ℕ) → P i ⊎ (P i → ⊥) = λ i.
      elim (cases_lt 0 (get_or v i 0)) [
        | inr g ↦ inl (λ f. absurd (omega arith))
        | inl f ↦ elim (cases_lt (get_or b.start i 0) (get_or m i 0)) [ inl less ↦ inr (λ h. let le = h f in omega (arith, le, less)) | inr g ↦ inl (λ _. g) ]
      ] in
      elim (cases_all P dec (length v)) [
        | inl all ↦ inl (tops_meet b.start b.settled (λ i f. all i (in_range v i f) f) seats (omega (arith, b.total)))
        | inr some ↦ inr (λ meets.
            let i = some.0 in
            some.1 (λ f.
            let low : (t : List ℕ) → IsTop l seats t → get_or m i 0 ≤ get_or t i 0 = λ t ht. meets t ht i f in
            elim b.few [
              | inl z ↦
                  (let e : sum b.start + 0 ≡ seats = omega (arith, b.total, z) in
                  low b.start (subst (λ n. IsTop l n b.start) e (batch_each l law b.start b.peers b.settled b.listed b.start 0 (unraised b.peers b.start))))
              | inr less ↦
                  (let found = short_top b.start b.settled b.peers b.listed i seats enough (omega (arith, b.total, less)) in
                  let le = low found.0 found.1 in
                  let up = found.2 in omega (arith, le, up))
            ]))
      ]

module _ (method : Divisor) (v m : List ℕ) where
  to_tops : (seats : ℕ) → AllMeet method v m seats → (t : List ℕ) → IsTop (divisor_ladders method v (no_minima v)) seats t → Meets v m t
  to_tops seats all t ht = all t (((free_tops method v).tops seats t).1 ht)

  from_tops : (seats : ℕ) → ((t : List ℕ) → IsTop (divisor_ladders method v (no_minima v)) seats t → Meets v m t) → AllMeet method v m seats
  from_tops seats all t ht = all t (((free_tops method v).tops seats t).0 ht)

  enough : (seats : ℕ) → sum (no_minima v) ≤ seats
  enough seats = omega (arith, sum_zeros (length v))

  pub met : (s : List ℕ) → IsSettled (divisor_ladders method v (no_minima v)) s → Meets v m s → (seats : ℕ) → sum s ≤ seats → AllMeet method v m seats
  met s settled meets seats le = from_tops seats (tops_meet (divisor_ladders method v (no_minima v)) (free_tops method v).falling v m s settled meets seats le)

  pub unmet : (s peers : List ℕ) → IsSettled (divisor_ladders method v (no_minima v)) s → Lists (IsPeer (divisor_ladders method v (no_minima v)) s) peers →
      (i : ℕ) → InField v i → get_or s i 0 < get_or m i 0 → (seats : ℕ) → AllMeet method v m seats → sum s + length peers ≤ seats
  unmet s peers settled listed i f short seats all =
      let short_of : seats < sum s + length peers → ⊥ = λ less.
      let found = short_top (divisor_ladders method v (no_minima v)) (free_tops method v).falling v m s settled peers listed i seats (enough seats) less in
      omega (arith, to_tops seats all found.0 found.1 i f, found.2, short) in
      omega (arith, short_of)

  pub decide_AllMeet : (seats i : ℕ) → InField v i → AllMeet method v m seats ⊎ (AllMeet method v m seats → ⊥)
  decide_AllMeet seats i f =
      elim (decide_tops (divisor_ladders method v (no_minima v)) (free_tops method v).falling v m seats (enough seats) ((free_tops method v).room seats i f)) [
        | inl all ↦ inl (from_tops seats all)
        | inr none ↦ inr (λ all. none (to_tops seats all))
      ]
