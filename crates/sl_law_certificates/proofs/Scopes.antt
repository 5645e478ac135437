-- Scopes up to the first fault: with it they come to what all of them do.
use Rattle.std.proofs.Common.{◌≡◌, ◌⊎◌, List, [], ◌∷◌, Some, None, inl, inr, refl, sym, ap, subst, ◌∙◌}
use Rattle.std.specs.Prelude.{Option, option_map, option_and_then, unwrap_or, filter_map, slice_get, is_some, if◌then◌else◌}
use Rattle.std.specs.List.{cons_option}
use Rattle.std.specs.List.{zip, AllZip}
use Rattle.std.proofs.lemmas.Option.{same_Some, none-some, option_and_then_some}
use Rattle.sl_law_meaning.specs.declared.fault.LegalFault.{LegalFault}
use Rattle.sl_law_certificates.specs.Cuts.{Told}
use Rattle.sl_law_certificates.specs.Outcomes.{each_shown}
use Rattle.sl_law_certificates.proofs.Tests.{map_some}

module _ {A B : Type 0} (fault : A × B → Option LegalFault) where
  abbrev pub first_fault : List A → List B → Option LegalFault
  first_fault xs ys = slice_get (filter_map fault (zip xs ys)) 0

  -- ys and zs are the same, or have the same first fault
  abbrev pub EndAlike : List A → List B → List B → Type 0
  EndAlike xs ys zs = (ys ≡ zs) ⊎ ((f : LegalFault) × (first_fault xs ys ≡ Some f) × (first_fault xs zs ≡ Some f))

  -- so what is made of the first fault, or without one of all of them, is the same
  pub same_end : {R : Type 0} (g : LegalFault → R) (made : List B → R) (xs : List A) (ys zs : List B) → EndAlike xs ys zs →
      unwrap_or (option_map g (first_fault xs ys)) (made ys) ≡ unwrap_or (option_map g (first_fault xs zs)) (made zs)
  same_end g made xs ys zs (inl same) = ap (λ all. unwrap_or (option_map g (first_fault xs all)) (made all)) same
  same_end g made xs ys zs (inr both) =
      ap (λ o. unwrap_or (option_map g o) (made ys)) both.1 ∙ sym (ap (λ o. unwrap_or (option_map g o) (made zs)) both.2)

  fault_now : (x : A) (xs : List A) (y : B) (ys : List B) (f : LegalFault) → fault (x, y) ≡ Some f → first_fault (x ∷ xs) (y ∷ ys) ≡ Some f
  fault_now x xs y ys f e = ap (λ o. slice_get (cons_option o (filter_map fault (zip xs ys))) 0) e

  fault_later : (x : A) (xs : List A) (y : B) (ys : List B) → fault (x, y) ≡ None → first_fault (x ∷ xs) (y ∷ ys) ≡ first_fault xs ys
  fault_later x xs y ys e = ap (λ o. slice_get (cons_option o (filter_map fault (zip xs ys))) 0) e

  alike_after : (x : A) (xs : List A) (y : B) (ys zs : List B) → fault (x, y) ≡ None → EndAlike xs ys zs → EndAlike (x ∷ xs) (y ∷ ys) (y ∷ zs)
  alike_after x xs y ys zs e (inl same) = inl (ap (λ all. y ∷ all) same)
  alike_after x xs y ys zs e (inr both) = inr (both.0, fault_later x xs y ys e ∙ both.1, fault_later x xs y zs e ∙ both.2)

  -- an option is something or nothing
  which : (o : Option LegalFault) → (o ≡ None) ⊎ ((f : LegalFault) × (o ≡ Some f))
  which None = inl refl
  which (Some f) = inr (f, refl)

  module _ (P : A → B → Type 0) (shows : A → Told → Option B) where
    all_some : ((x : A) → (y : B) × P x y) → (xs : List A) → (ys : List B) × AllZip P xs ys
    all_some some [] = ([], tt)
    all_some some (x ∷ xs) = let first = some x in let rest = all_some some xs in (first.0 ∷ rest.0, (first.1, rest.1))

    abbrev rest_of : A → B → Option (List B) → Option (List B)
    rest_of x y rest = if is_some (fault (x, y)) then Some (y ∷ []) else option_map (λ ys. y ∷ ys) rest

    -- what is shown up to the first fault is, with it, what all come to, whatever those after it do
    pub each_meant : ((x : A) (t : Told) (y : B) → shows x t ≡ Some y → P x y) → ((x : A) → (y : B) × P x y) →
        (xs : List A) (ts : List Told) (ys : List B) → each_shown fault shows xs ts ≡ Some ys → (zs : List B) × AllZip P xs zs × EndAlike xs ys zs
    each_meant one some [] ts ys h = ([], tt, inl (sym (same_Some [] ys h)))
    each_meant one some (x ∷ xs) [] ys h = absurd (none-some ys h)
    each_meant one some (x ∷ xs) (t ∷ ts) ys h =
        option_and_then_some (λ y. rest_of x y (each_shown fault shows xs ts)) (shows x t) ys h (λ y e k. elim (which (fault (x, y))) [
          | inr f ↦
              (let last : y ∷ [] ≡ ys = same_Some (y ∷ []) ys (sym (ap (λ o. if is_some o then Some (y ∷ []) else option_map (λ ys. y ∷ ys) (each_shown fault shows xs ts)) f.1) ∙ k) in
              let others = all_some some xs in (
                y ∷ others.0,
                (one x t y e, others.1),
                subst (λ all. EndAlike (x ∷ xs) all (y ∷ others.0)) last (inr (f.0, fault_now x xs y [] f.0 f.1, fault_now x xs y others.0 f.0 f.1)),
              ))
          | inl none ↦
              (let more = map_some (λ ys. y ∷ ys) (each_shown fault shows xs ts) ys
              (sym (ap (λ o. if is_some o then Some (y ∷ []) else option_map (λ ys. y ∷ ys) (each_shown fault shows xs ts)) none) ∙ k) in
              let rest = each_meant one some xs ts more.0 more.1 in (
                y ∷ rest.0,
                (one x t y e, rest.1),
                subst (λ all. EndAlike (x ∷ xs) all (y ∷ rest.0)) more.2 (alike_after x xs y more.0 rest.0 none rest.2),
              ))
        ])

    -- and what all come to is shown, up to the first fault
    pub each_found : ((x : A) (y : B) → P x y → (t : Told) × (shows x t ≡ Some y)) → (xs : List A) (zs : List B) → AllZip P xs zs →
        (ts : List Told) × (ys : List B) × (each_shown fault shows xs ts ≡ Some ys) × EndAlike xs ys zs
    each_found one [] [] h = ([], [], refl, inl refl)
    each_found one [] (z ∷ zs) h = absurd h
    each_found one (x ∷ xs) [] h = absurd h
    each_found one (x ∷ xs) (z ∷ zs) h =
        let first = one x z h.0 in
        let rest = each_found one xs zs h.1 in
        let now = ap (option_and_then (λ y. rest_of x y (each_shown fault shows xs rest.0))) first.1 in
        elim (which (fault (x, z))) [
          | inr f ↦ (
            first.0 ∷ rest.0,
            z ∷ [],
            now ∙ ap (λ o. if is_some o then Some (z ∷ []) else option_map (λ ys. z ∷ ys) (each_shown fault shows xs rest.0)) f.1,
            inr (f.0, fault_now x xs z [] f.0 f.1, fault_now x xs z zs f.0 f.1),
          )
          | inl none ↦ (
            first.0 ∷ rest.0,
            z ∷ rest.1,
            now ∙ ap (λ o. if is_some o then Some (z ∷ []) else option_map (λ ys. z ∷ ys) (each_shown fault shows xs rest.0)) none
                ∙ ap (option_map (λ ys. z ∷ ys)) rest.2,
            alike_after x xs z rest.1 zs none rest.3,
          )
        ]
