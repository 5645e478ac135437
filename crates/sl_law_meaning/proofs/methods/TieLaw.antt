-- A set whose members are one vector raised on k of some entries obeys the law of ties.
use Rattle.std.proofs.Common.{◌≡◌, ℕ, zero, suc, ◌+◌, ◌-◌, ◌<◌, ◌≤◌, ◌⊎◌, List, [], ◌∷◌, length, get_or, sum, inl, inr, arith, refl, sym, ap, ◌∙◌, subst}
use Rattle.std.specs.Prelude.{Contains}
use Rattle.std.specs.List.Sorted.{IsStrictlyIncreasing}
use Rattle.std.proofs.lemmas.Bool.{cases_lt}
use Rattle.std.proofs.lemmas.List.{ext_get_or}
use Rattle.sl_law_meaning.specs.laws.Ladders.{Raises, RaisesEach}
use Rattle.sl_law_meaning.specs.methods.Ties.{Distinct, Lists, IsRaised, IsTied, AreTied}
use Rattle.sl_law_meaning.proofs.methods.SeatSums.{sum_mono_strict}
use Rattle.sl_law_meaning.proofs.methods.ListedEntries.{find_all}
use Rattle.sl_law_meaning.proofs.methods.RaisedSeats.{raise, length-raise, sum-raise, raise_other, raise_at, increasing_distinct, cases_Contains, Contains-head, Contains-tail, Contains-cases, Contains-none}

-- the law of ties: members differ by at most one on an entry, all raise the same number of tied entries, and every choice of that many is
-- a member
pub record HasTies (X : List ℕ → Type 0) (tied : List ℕ) (k : ℕ) : Type 0 where
  pub some : (s : List ℕ) × X s
  pub one_length : (s t : List ℕ) → X s → X t → length s ≡ length t
  pub one_apart : (s t : List ℕ) → X s → X t → (i : ℕ) → get_or s i 0 ≤ get_or t i 0 + 1
  pub are_tied : AreTied X tied k
  pub every_choice : (chosen : List ℕ) → IsStrictlyIncreasing chosen → ((i : ℕ) → Contains chosen i → Contains tied i) → length chosen ≡ k →
      (s : List ℕ) × X s × Lists (IsRaised X s) chosen

pub equal_lists : (s t : List ℕ) → length s ≡ length t → ((i : ℕ) → get_or s i 0 ≡ get_or t i 0) → s ≡ t
equal_lists s t e h = ext_get_or 0 s t e (λ i l. h i)

-- a seat more for each entry gives one vector
pub raised_is : (s t entries : List ℕ) → Distinct entries → ((p : ℕ) → Contains entries p → p < length s) → RaisesEach entries s t → raise s entries ≡ t
raised_is s t entries d within h =
    equal_lists (raise s entries) t (length-raise s entries ∙ sym h.same_length) (λ i.
    elim (cases_Contains entries i) [
      | inl c ↦ raise_at s entries i d c (within i c) ∙ sym (h.raised i c)
      | inr out ↦ raise_other s entries i out ∙ sym (h.others i out)
    ])

pub below_length : (s : List ℕ) (i n : ℕ) → n < get_or s i 0 → i < length s
below_length [] i n h = absurd (omega arith)
below_length (x ∷ xs) zero n h = omega arith
below_length (x ∷ xs) (suc i) n h = let l = below_length xs i n h in omega (arith, l)

-- the others of a list without repeats
pub record Others (xs : List ℕ) (x : ℕ) (ys : List ℕ) : Type 0 where
  pub one_less : length ys + 1 ≡ length xs
  pub distinct : Distinct ys
  pub still : (i : ℕ) → Contains ys i → Contains xs i
  pub gone : Contains ys x → ⊥
  pub kept : (i : ℕ) → Contains xs i → (i ≡ x → ⊥) → Contains ys i

pub others : (xs : List ℕ) (x : ℕ) → Distinct xs → Contains xs x → (ys : List ℕ) × Others xs x ys
others [] x d c = absurd (Contains-none x c)
others (y ∷ ys) x d c =
    elim (Contains-cases y ys x c) [
      | inl e ↦ (ys, record { one_less = omega arith; distinct = d.1; still = λ i h. Contains-tail y ys i h; gone = λ h. d.0 (subst (λ z. Contains ys z) (sym e) h); kept = λ i h ne. elim (Contains-cases y ys i h) [ inl s ↦ absurd (ne (sym s ∙ e)) | inr h' ↦ h' ] })
      | inr c' ↦
          (let rest = others ys x d.1 c' in (
            y ∷ rest.0,
            record {
              one_less = omega (arith, rest.1.one_less);
              distinct = (λ h. d.0 (rest.1.still y h), rest.1.distinct);
              still = λ i h. elim (Contains-cases y rest.0 i h) [ inl e ↦ subst (λ z. Contains (y ∷ ys) z) e (Contains-head y ys) | inr h' ↦ Contains-tail y ys i (rest.1.still i h') ];
              gone = λ h. elim (Contains-cases y rest.0 x h) [ inl e ↦ d.0 (subst (λ z. Contains ys z) (sym e) c') | inr h' ↦ rest.1.gone h' ];
              kept = λ i h out. elim (Contains-cases y ys i h) [ inl s ↦ subst (λ z. Contains (y ∷ rest.0) z) s (Contains-head y rest.0) | inr h' ↦ Contains-tail y rest.0 i (rest.1.kept i h' out) ];
            },
          ))
    ]

pub record Some (xs : List ℕ) (k : ℕ) (ys : List ℕ) : Type 0 where
  pub number : length ys ≡ k
  pub distinct : Distinct ys
  pub still : (i : ℕ) → Contains ys i → Contains xs i

pub some_of : (xs : List ℕ) (k : ℕ) → Distinct xs → k ≤ length xs → (ys : List ℕ) × Some xs k ys
some_of xs zero d le = ([], record { number = refl; distinct = tt; still = λ i c. absurd (Contains-none i c) })
some_of [] (suc k) d le = absurd (omega arith)
some_of (x ∷ xs) (suc k) d le =
    let rest = some_of xs k d.1 (omega arith) in (
      x ∷ rest.0,
      record {
        number = omega (arith, rest.1.number);
        distinct = (λ h. d.0 (rest.1.still x h), rest.1.distinct);
        still = λ i h. elim (Contains-cases x rest.0 i h) [ inl e ↦ subst (λ z. Contains (x ∷ xs) z) e (Contains-head x xs) | inr h' ↦ Contains-tail x xs i (rest.1.still i h') ];
      },
    )

pub unraised : (peers s : List ℕ) → Raises peers 0 s s
unraised peers s = record { same_length = refl; each = λ i. inl refl; total = omega arith }

-- a set of one member has no ties
module _ (X : List ℕ → Type 0) (s : List ℕ) (alone : (t : List ℕ) → X t → t ≡ s) where
  pub no_raise : (t : List ℕ) → X t → (i : ℕ) → IsRaised X t i → ⊥
  no_raise t ht i r = let e : get_or r.0 i 0 ≡ get_or t i 0 = ap (λ y. get_or y i 0) (alone r.0 r.1 ∙ sym (alone t ht)) in let l = r.2 in omega (arith, l, e)

  none_listed : (P : ℕ → Type 0) → ((i : ℕ) → P i → ⊥) → Lists P []
  none_listed P none = record { in_order = λ j l. absurd (omega arith); has = λ i p. absurd (none i p); has_only = λ i c. absurd (Contains-none i c) }

  pub no_list : (t : List ℕ) → X t → Lists (IsRaised X t) []
  no_list t ht = none_listed (IsRaised X t) (no_raise t ht)

  pub none_tied : AreTied X [] 0
  none_tied = record { entries = none_listed (IsTied X) (λ i h. no_raise h.0 h.1 i h.2); number = λ t ht. ([], no_list t ht, refl) }

module _ (base peers : List ℕ) (k : ℕ) (distinct : Distinct peers) (within : (p : ℕ) → Contains peers p → p < length base) where
  -- a choice of k of the peers
  pub raise_chosen : (chosen : List ℕ) → Distinct chosen → ((i : ℕ) → Contains chosen i → Contains peers i) → length chosen ≡ k → Raises peers k base (raise base chosen)
  raise_chosen chosen d sub e = record {
    same_length = length-raise base chosen;
    each = λ i. elim (cases_Contains chosen i) [ inl c ↦ inr (sub i c, raise_at base chosen i d c (within i (sub i c))) | inr out ↦ inl (raise_other base chosen i out) ];
    total = sum-raise base chosen (λ i c. within i (sub i c)) ∙ ap (λ n. sum base + n) e;
  }

  raised_above : (t : List ℕ) → Raises peers k base t → (i : ℕ) → get_or base i 0 ≤ get_or t i 0
  raised_above t h i = elim (h.each i) [ inl e ↦ omega (arith, e) | inr c ↦ omega (arith, c.1) ]

  raised_by_one : (t : List ℕ) → Raises peers k base t → (i : ℕ) → get_or t i 0 ≤ get_or base i 0 + 1
  raised_by_one t h i = elim (h.each i) [ inl e ↦ omega (arith, e) | inr c ↦ omega (arith, c.1) ]

  raised_peer : (t : List ℕ) → Raises peers k base t → (i : ℕ) → get_or base i 0 < get_or t i 0 → Contains peers i
  raised_peer t h i l = elim (h.each i) [ inl e ↦ absurd (omega (arith, e, l)) | inr c ↦ c.0 ]

  -- which entries a member raises, and that they are k
  pub raised_list : (t : List ℕ) → Raises peers k base t → (raised : List ℕ) × Lists (λ i. get_or base i 0 < get_or t i 0) raised × (length raised ≡ k)
  raised_list t h =
      let P : ℕ → Type 0 = λ i. get_or base i 0 < get_or t i 0 in
      let dec : (i : ℕ) → P i ⊎ (P i → ⊥) = λ i. elim (cases_lt (get_or base i 0) (get_or t i 0)) [ inl l ↦ inl l | inr g ↦ inr (λ l. omega arith) ] in
      let found = find_all P dec (length t) (λ i l. below_length t i (get_or base i 0) l) in
      let raised = found.0 in
      let d = increasing_distinct raised found.1.in_order in
      let inside : (i : ℕ) → Contains raised i → i < length base = λ i c. within i (raised_peer t h i (found.1.has_only i c)) in
      let same : (i : ℕ) → get_or (raise base raised) i 0 ≡ get_or t i 0 =
      λ i. elim (cases_Contains raised i) [
        | inl c ↦ omega (arith, raise_at base raised i d c (inside i c), found.1.has_only i c, raised_by_one t h i)
        | inr out ↦ elim (cases_lt (get_or base i 0) (get_or t i 0)) [
          | inl l ↦ absurd (out (found.1.has i l))
          | inr g ↦ omega (arith, raise_other base raised i out, raised_above t h i)
        ]
      ] in
      let e : raise base raised ≡ t = equal_lists (raise base raised) t (length-raise base raised ∙ sym h.same_length) same in
      let s : sum (raise base raised) ≡ sum t = ap sum e in
      (raised, found.1, omega (arith, s, sum-raise base raised inside, h.total))

  -- no seat to give: one member
  pub none_raised : (t : List ℕ) → k ≡ 0 → Raises peers k base t → t ≡ base
  none_raised t z h =
      equal_lists t base h.same_length (λ i.
      elim (cases_lt (get_or base i 0) (get_or t i 0)) [
        | inl l ↦ absurd (let more = sum_mono_strict base t i (raised_above t h) l in omega (arith, more, h.total))
        | inr g ↦ omega (arith, raised_above t h i)
      ])

  module _ (X : List ℕ → Type 0) (only : (t : List ℕ) → X t → Raises peers k base t) (each : (t : List ℕ) → Raises peers k base t → X t) where
    one_length : (s t : List ℕ) → X s → X t → length s ≡ length t
    one_length s t hs ht = (only s hs).same_length ∙ sym (only t ht).same_length

    one_apart : (s t : List ℕ) → X s → X t → (i : ℕ) → get_or s i 0 ≤ get_or t i 0 + 1
    one_apart s t hs ht i = omega (arith, raised_by_one s (only s hs) i, raised_above t (only t ht) i)

    -- a raised entry has more than the base has
    pub raised_more : (s : List ℕ) → X s → (i : ℕ) → IsRaised X s i → get_or base i 0 < get_or s i 0
    raised_more s hs i r = let l = r.2 in omega (arith, l, raised_above r.0 (only r.0 r.1) i)

    -- and if not all peers get a seat, an entry that has more than the base has is raised
    pub more_raised : k < length peers → (s : List ℕ) → X s → (i : ℕ) → get_or base i 0 < get_or s i 0 → IsRaised X s i
    more_raised l s hs i more =
        let rest = others peers i distinct (raised_peer s (only s hs) i more) in
        let picked = some_of rest.0 k rest.1.distinct (omega (arith, rest.1.one_less)) in
        let t = raise base picked.0 in
        let e : get_or t i 0 ≡ get_or base i 0 = raise_other base picked.0 i (λ c. rest.1.gone (picked.1.still i c)) in
        (t, each t (raise_chosen picked.0 picked.1.distinct (λ j c. rest.1.still j (picked.1.still j c)) picked.1.number), omega (arith, e, more))

    -- and each peer is raised in some member
    peer_raised : 0 < k → k < length peers → (i : ℕ) → Contains peers i → IsTied X i
    peer_raised pos l i c =
        let rest = others peers i distinct c in
        let picked = some_of rest.0 (k - 1) rest.1.distinct (omega (arith, rest.1.one_less)) in
        let chosen = i ∷ picked.0 in
        let d : Distinct chosen = (λ h. rest.1.gone (picked.1.still i h), picked.1.distinct) in
        let s = raise base chosen in
        let sub : (j : ℕ) → Contains chosen j → Contains peers j =
        λ j h. elim (Contains-cases i picked.0 j h) [ inl e ↦ subst (λ z. Contains peers z) e c | inr h' ↦ rest.1.still j (picked.1.still j h') ] in
        let hs = each s (raise_chosen chosen d sub (omega (arith, picked.1.number))) in
        let e : get_or s i 0 ≡ get_or base i 0 + 1 = raise_at base chosen i d (Contains-head i picked.0) (within i c) in
        (s, hs, more_raised l s hs i (omega arith))

    pub tied_some : IsStrictlyIncreasing peers → 0 < k → k < length peers → HasTies X peers k
    tied_some inc pos l =
        let lists : (s : List ℕ) → X s → (chosen : List ℕ) → Lists (λ i. get_or base i 0 < get_or s i 0) chosen → Lists (IsRaised X s) chosen =
        λ s hs chosen h. record { in_order = h.in_order; has = λ i r. h.has i (raised_more s hs i r); has_only = λ i c. more_raised l s hs i (h.has_only i c) } in
        let first = some_of peers k distinct (omega arith) in
        record {
          some = (raise base first.0, each (raise base first.0) (raise_chosen first.0 first.1.distinct first.1.still first.1.number));
          one_length = one_length;
          one_apart = one_apart;
          are_tied = record {
            entries = record { in_order = inc; has = λ i h. raised_peer h.0 (only h.0 h.1) i (raised_more h.0 h.1 i h.2); has_only = peer_raised pos l };
            number = λ s hs. let r = raised_list s (only s hs) in (r.0, lists s hs r.0 r.1, r.2);
          };
          every_choice = λ chosen inc' sub e.
              let d = increasing_distinct chosen inc' in
              let s = raise base chosen in
              let hs = each s (raise_chosen chosen d sub e) in (
                s,
                hs,
                lists s hs chosen (record {
                  in_order = inc';
                  has = λ i more. elim (cases_Contains chosen i) [ inl c ↦ c | inr out ↦ absurd (omega (arith, raise_other base chosen i out, more)) ];
                  has_only = λ i c. omega (arith, raise_at base chosen i d c (within i (sub i c)));
                }),
              );
        }

    -- with no seat to give there are no ties
    tied_none : k ≡ 0 → HasTies X [] 0
    tied_none z =
        let alone : (t : List ℕ) → X t → t ≡ base = λ t ht. none_raised t z (only t ht) in
        let here : X base = each base (subst (λ n. Raises peers n base base) (sym z) (unraised peers base)) in
        record {
          some = (base, here);
          one_length = one_length;
          one_apart = one_apart;
          are_tied = none_tied X base alone;
          every_choice = λ chosen inc' sub e. elim chosen as (λ c. length c ≡ 0 → (s : List ℕ) × X s × Lists (IsRaised X s) c) [
            | [] ↦ λ _. (base, here, no_list X base alone base here)
            | ◌∷◌ x xs ↦ λ e'. absurd (omega arith)
          ] e;
        }

    -- the law of ties
    pub ties : IsStrictlyIncreasing peers → (k ≡ 0) ⊎ (k < length peers) → (tied : List ℕ) × (number : ℕ) × HasTies X tied number
    ties inc few =
        elim few [
          | inl z ↦ ([], 0, tied_none z)
          | inr l ↦ elim (cases_lt 0 k) [ inl pos ↦ (peers, k, tied_some inc pos l) | inr g ↦ ([], 0, tied_none (omega arith)) ]
        ]
