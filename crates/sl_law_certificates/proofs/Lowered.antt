-- One seat less on each of some entries.
use Rattle.std.proofs.Common.{◌≡◌, ℕ, ◌+◌, ◌-◌, ◌<◌, ◌≢◌, List, [], ◌∷◌, length, get_or, set, sum, inl, inr, arith, refl, sym, ap, ◌∙◌, subst}
use Rattle.std.specs.Prelude.{Contains}
use Rattle.std.proofs.Math.ListN.{length-set}
use Rattle.std.proofs.lemmas.List.{get_or-set_same, get_or-set_other}
use Rattle.sl_law_meaning.specs.methods.Ties.{Distinct}
use Rattle.sl_law_meaning.proofs.methods.RaisedSeats.{raise, length-raise, sum-raise, raise_other, raise_at, cases_Contains, Contains-head, Contains-tail, Contains-cases, Contains-none}
use Rattle.sl_law_meaning.proofs.methods.TieLaw.{equal_lists}

abbrev pub lower : List ℕ → List ℕ → List ℕ
lower s [] = s
lower s (i ∷ is) = lower (set s i (get_or s i 0 - 1)) is

pub length-lower : (s is : List ℕ) → length (lower s is) ≡ length s
length-lower s [] = refl
length-lower s (i ∷ is) = length-lower (set s i (get_or s i 0 - 1)) is ∙ length-set s i (get_or s i 0 - 1)

pub lower_other : (s is : List ℕ) (j : ℕ) → (Contains is j → ⊥) → get_or (lower s is) j 0 ≡ get_or s j 0
lower_other s [] j out = refl
lower_other s (i ∷ is) j out =
    let less = set s i (get_or s i 0 - 1) in
    let ne : j ≢ i = λ e. out (subst (λ z. Contains (i ∷ is) z) (sym e) (Contains-head i is)) in
    lower_other less is j (λ c. out (Contains-tail i is j c)) ∙ get_or-set_other s i j (get_or s i 0 - 1) 0 ne

pub lower_at : (s is : List ℕ) (j : ℕ) → Distinct is → Contains is j → j < length s → get_or (lower s is) j 0 ≡ get_or s j 0 - 1
lower_at s [] j d c l = absurd (Contains-none j c)
lower_at s (i ∷ is) j d c l =
    let less = set s i (get_or s i 0 - 1) in
    elim (Contains-cases i is j c) [
      | inl e ↦
          (let gone : Contains is j → ⊥ = λ c'. d.0 (subst (λ z. Contains is z) (sym e) c') in
          lower_other less is j gone
          ∙ subst (λ z. get_or less z 0 ≡ get_or s z 0 - 1) e (get_or-set_same s i (get_or s i 0 - 1) 0 (subst (λ z. z < length s) (sym e) l)))
      | inr c' ↦
          (let l' : j < length less = omega (arith, length-set s i (get_or s i 0 - 1)) in
          lower_at less is j d.1 c' l' ∙ ap (λ n. n - 1) (get_or-set_other s i j (get_or s i 0 - 1) 0 (λ e. d.0 (subst (λ z. Contains is z) e c'))))
    ]

-- who has a seat and loses it gets it back
module _ (s is : List ℕ) (d : Distinct is) (have : (i : ℕ) → Contains is i → (i < length s) × (0 < get_or s i 0)) where
  pub raise-lower : raise (lower s is) is ≡ s
  raise-lower =
      equal_lists (raise (lower s is) is) s (length-raise (lower s is) is ∙ length-lower s is) (λ i.
      elim (cases_Contains is i) [
        | inl c ↦
            (let has = have i c in
            let within : i < length (lower s is) = omega (arith, has.0, length-lower s is) in
            omega (arith, raise_at (lower s is) is i d c within, lower_at s is i d c has.0, has.1))
        | inr out ↦ raise_other (lower s is) is i out ∙ lower_other s is i out
      ])

  pub sum-lower : sum (lower s is) + length is ≡ sum s
  sum-lower =
      let e : sum (raise (lower s is) is) ≡ sum s = ap sum raise-lower in
      let more = sum-raise (lower s is) is (λ i c. let l = (have i c).0 in omega (arith, l, length-lower s is)) in
      omega (arith, e, more)
