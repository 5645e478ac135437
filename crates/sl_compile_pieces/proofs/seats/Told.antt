-- The weights that are recorded while a scope is filled are those of the field.
use Rattle.std.proofs.Common.{◌≡◌, ℕ, suc, ◌+◌, List, [], ◌∷◌, length, map, refl, sym, ap, ◌∙◌, inl, inr, arith}
use Rattle.std.specs.Prelude.{flat_map, nat_lt, slice_index}
use Rattle.std.specs.List.{filter, zip, enumerate_from}
use Rattle.std.proofs.lemmas.Bool.{cases_Bool}
use Rattle.sl_law_meaning.specs.declared.fault.Item.{Item}
use Rattle.sl_law_meaning.specs.declared.table.Weight.{Weight}
use Rattle.sl_compile_pieces.specs.inner.seats.Filling.{told_of}

module _ (v : List ℕ) where
  -- where nothing is recorded of an entry, nothing is
  pub none_told : (xs : List (ℕ × Item)) → flat_map (λ y. told_of (λ j i. []) v y.0 y.1) xs ≡ []
  none_told [] = refl
  none_told (y ∷ xs) =
      elim (cases_Bool (nat_lt 0 (slice_index v y.0))) [
        | inl there ↦ rw there (none_told xs)
        | inr none ↦ rw none (none_told xs)
      ]

  module _ (weight_of : Item → ℕ → Weight) where
    -- from entry n on
    told_from : (n : ℕ) (entries : List Item) (vs : List ℕ) → length vs ≡ length entries → ((k : ℕ) → slice_index v (n + k) ≡ slice_index vs k)
        → flat_map (λ y. told_of (λ j i. weight_of i (slice_index v j) ∷ []) v y.0 y.1) (enumerate_from n entries) ≡ map (λ x. weight_of x.0 x.1) (filter (λ x. nat_lt 0 x.1) (zip entries vs))
    told_from n [] [] long same = refl
    told_from n [] (w ∷ vs) long same = absurd (omega (arith, long))
    told_from n (i ∷ entries) [] long same = absurd (omega (arith, long))
    told_from n (i ∷ entries) (w ∷ vs) long same =
        let first : n + 0 ≡ n = omega arith in
        let later : (k : ℕ) → slice_index v (n + 1 + k) ≡ slice_index vs k = λ k. let next : n + 1 + k ≡ n + suc k = omega arith in ap (slice_index v) next ∙ same (suc k) in
        let rest = told_from (n + 1) entries vs (omega (arith, long)) later in
        rw (ap (slice_index v) (sym first) ∙ same 0)
        (elim (cases_Bool (nat_lt 0 w)) [
          | inl there ↦ rw there (ap (λ ws. weight_of i w ∷ ws) rest)
          | inr none ↦ rw none rest
        ])

    pub field_told : (entries : List Item) → length v ≡ length entries
        → flat_map (λ y. told_of (λ j i. weight_of i (slice_index v j) ∷ []) v y.0 y.1) (enumerate_from 0 entries) ≡ map (λ x. weight_of x.0 x.1) (filter (λ x. nat_lt 0 x.1) (zip entries v))
    field_told entries long = told_from 0 entries v long (λ k. let same : 0 + k ≡ k = omega arith in ap (slice_index v) same)
