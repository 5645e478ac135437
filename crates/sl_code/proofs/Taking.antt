-- A count and its elements, in front of bytes: they stand there, or one of them fails.
use Rattle.std.proofs.Common.{◌≡◌, ℕ, zero, suc, ◌≤◌, List, [], ◌∷◌, ◌++◌, length, flat_map, ◌⊎◌, inl, inr, refl, sym, ap, ◌∙◌, arith, append_assoc}
use Rattle.std.specs.List.{All}
use Rattle.std.proofs.lemmas.List.Elements.{All-nil, All-cons}
use Rattle.sl_code.specs.declared.fault.Stop.{Stop}
use Rattle.sl_code.specs.Faults.{FailsElement, FailsList, in_count, in_element}
use Rattle.sl_code.specs.Laws.{IsByte}
use Rattle.sl_code.proofs.Determined.{StandsList}

-- an element stands in front of the rest
pub record Taken {X : Type 0} (f : X → List ℕ) (Is : X → Type 0) (here : List ℕ) : Type 0 where
  pub element : X
  pub is : Is element
  pub rest : List ℕ
  pub stands : here ≡ f element ++ rest
  pub are_bytes : All IsByte rest

-- so many elements do
record TakenAll {X : Type 0} (f : X → List ℕ) (Is : X → Type 0) (n : ℕ) (here : List ℕ) : Type 0 where
  elements : List X
  are : All Is elements
  many : length elements ≡ n
  rest : List ℕ
  stand : here ≡ flat_map f elements ++ rest
  are_bytes : All IsByte rest

-- a count does
pub record Counted (count_bytes : ℕ → List ℕ) (most : ℕ) (here : List ℕ) : Type 0 where
  pub number : ℕ
  pub few : number ≤ most
  pub rest : List ℕ
  pub stands : here ≡ count_bytes number ++ rest
  pub are_bytes : All IsByte rest

module _ {X : Type 0} (f : X → List ℕ) (Is : X → Type 0) (Fails : List ℕ → Stop → Type 0)
    (one : (here : List ℕ) → All IsByte here → Taken f Is here ⊎ ((stop : Stop) × Fails here stop)) where
  abbrev AllOrFault : ℕ → List ℕ → Type 0
  AllOrFault n here = TakenAll f Is n here ⊎ ((stop : Stop) × FailsElement f Is Fails n here stop)

  -- after the first element
  more : (n : ℕ) (here : List ℕ) (t : Taken f Is here) → AllOrFault n t.rest → AllOrFault (suc n) here
  more n here t (inl all) =
      inl (record {
        elements = t.element ∷ all.elements;
        are = All-cons Is t.element all.elements t.is all.are;
        many = ap suc all.many;
        rest = all.rest;
        stand = t.stands ∙ ap (λ b. f t.element ++ b) all.stand ∙ sym (append_assoc (f t.element) (flat_map f all.elements) all.rest);
        are_bytes = all.are_bytes;
      })
  more n here t (inr e) =
      let failing : FailsElement f Is Fails n t.rest e.0 = e.1 in
      inr (
        e.0,
        record {
          before = t.element ∷ failing.before;
          are = All-cons Is t.element failing.before t.is failing.are;
          rest = failing.rest;
          fewer = omega (arith, failing.fewer);
          stand = t.stands ∙ ap (λ b. f t.element ++ b) failing.stand ∙ sym (append_assoc (f t.element) (flat_map f failing.before) failing.rest);
          fails = failing.fails;
        },
      )

  all_or_fault : (n : ℕ) (here : List ℕ) → All IsByte here → AllOrFault n here
  all_or_fault zero here are =
      inl (record { elements = []; are = All-nil Is; many = refl; rest = here; stand = refl; are_bytes = are })
  all_or_fault (suc n) here are =
      elim (one here are) as (λ t. AllOrFault (suc n) here) [
        | inl t ↦ more n here t (all_or_fault n t.rest t.are_bytes)
        | inr e ↦ inr (e.0, record { before = []; are = All-nil Is; rest = here; fewer = omega arith; stand = refl; fails = e.1 })
      ]

  module _ (count_bytes : ℕ → List ℕ) (FailsCounting : ℕ → List ℕ → Stop → Type 0) (most : ℕ)
      (count : (here : List ℕ) → All IsByte here → Counted count_bytes most here ⊎ ((stop : Stop) × FailsCounting most here stop)) where
    abbrev pub ListOrFault : List ℕ → Type 0
    ListOrFault here =
        ((rest : List ℕ) × StandsList count_bytes most f Is here rest × All IsByte rest)
        ⊎ ((stop : Stop) × FailsList count_bytes FailsCounting most f Is Fails here stop)

    behind_count : (here : List ℕ) (c : Counted count_bytes most here) → AllOrFault c.number c.rest → ListOrFault here
    behind_count here c (inl all) =
        inl (
          all.rest,
          record {
            elements = all.elements;
            are = all.are;
            few = omega (arith, all.many, c.few);
            stand = c.stands ∙ ap (λ n. count_bytes n ++ c.rest) (sym all.many) ∙ ap (λ b. count_bytes (length all.elements) ++ b) all.stand;
          },
          all.are_bytes,
        )
    behind_count here c (inr e) = inr (e.0, in_element c.number c.rest c.stands c.few e.1)

    pub list_or_fault : (here : List ℕ) → All IsByte here → ListOrFault here
    list_or_fault here are =
        elim (count here are) as (λ c. ListOrFault here) [
          | inl c ↦ behind_count here c (all_or_fault c.number c.rest c.are_bytes)
          | inr e ↦ inr (e.0, in_count e.1)
        ]
