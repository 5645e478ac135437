-- What a slice's `chunk_by` gives are the groups of its elements.
use Rattle.std.proofs.Common.{◌≡◌, suc, ◌-◌, ◌<◌, Bool, true, false, List, [], ◌∷◌, ◌++◌, None, length, map, get_or, sym, ap, subst, ◌∙◌, add-one, length-append, arith}
use Rattle.std.proofs.lemmas.List.{nil_from_length}
use Rattle.std.proofs.lemmas.Simd.{map-map}
use Rattle.std.proofs.lemmas.List.Sorted.{answers_always}
use Rattle.std.specs.Borrow.{Bor}
use Rattle.std.specs.Fn.{Mut, Called, ComputesOnPairs}
use Rattle.std.specs.Iterator.{Yields}
use Rattle.std.specs.List.{IsChunkByPrefix}
use Rattle.std.specs.declared.slice.ChunkBy.{ChunkBy}
use Rattle.std.specs.Slice.Iter.{chunk_by_rest, chunk_by_callee, chunk_by_steps}
use Rattle.sl_count_texts.specs.Bounds.{groups}
use Rattle.sl_count_texts.proofs.Groups.{first_group, map-groups}

module _ {A F : Type 0} (g : Mut F (Bor A × (Bor A × Unit {0})) Bool) (together : A → A → Bool) where
  one_part : (x rest : List A) → 0 < length x → IsChunkByPrefix together (x ++ rest) (length x) → groups together (x ++ rest) ≡ x ∷ groups together rest
  one_part [] rest some prefix = absurd (omega (arith, some))
  one_part (a ∷ xs) rest some prefix =
      let all : List A = a ∷ xs ++ rest in
      let before : length (a ∷ xs) - 1 ≡ length xs = omega arith in
      first_group together a xs rest
      (λ k d l. subst (λ n. together (get_or all k d) (get_or all n d) ≡ true) (add-one k) (prefix.0 k d (omega arith)))
      (λ l d. subst (λ n. together (get_or all n d) (get_or all (suc (length xs)) d) ≡ false) before (prefix.1 (omega (arith, l, length-append xs rest)) d))

  parts_are_groups : (xs : List (Bor (List A))) (s t u : ChunkBy A F) → ComputesOnPairs g together (chunk_by_callee s) → Yields (chunk_by_steps g) s xs t → chunk_by_steps g t None u
      → map (λ x. x.now) xs ≡ groups together (chunk_by_rest s)
  parts_are_groups [] s t u computes same end = ap (groups together) (sym (nil_from_length (chunk_by_rest s) (ap (λ (y : ChunkBy A F). length (chunk_by_rest y)) same ∙ end.0)))
  parts_are_groups (x ∷ xs) s t u computes (next, step, more) end =
      let law = step.2 together computes in
      ap (λ parts. x.now ∷ parts) (parts_are_groups xs next t u law.0 more end)
      ∙ sym (ap (groups together) step.0 ∙ one_part x.now (chunk_by_rest next) step.1 (subst (λ l. IsChunkByPrefix together l (length x.now)) step.0 law.1))

-- references, separated by what a closure answers of two of them, where that is whether their values go together
pub references_in_groups : {A F : Type 0} {g : Mut F (Bor (Bor A) × (Bor (Bor A) × Unit {0})) Bool} (together : A → A → Bool) (xs : List (Bor A)) (parts : List (Bor (List (Bor A))))
    (s t u : ChunkBy (Bor A) F) → chunk_by_rest s ≡ xs
    → ((f : F) (a : Bor (Bor A) × (Bor (Bor A) × Unit {0})) (answer : Bool) (f' : F) → Called g f a answer f' → answer ≡ together a.0.now.now a.1.0.now.now)
    → Yields (chunk_by_steps g) s parts t → chunk_by_steps g t None u
    → map (λ part. map (λ x. x.now) part.now) parts ≡ groups together (map (λ x. x.now) xs)
references_in_groups {A} {F} {g} together xs parts s t u of_xs answers yields end =
    let near : Bor A → Bor A → Bool = λ x y. together x.now y.now in
    let computes = answers_always g (λ a answer. answer ≡ near a.0.now a.1.0.now) (chunk_by_callee s) answers in
    sym (map-map (map (λ x. x.now)) (λ part. part.now) parts)
    ∙ ap (map (map (λ x. x.now))) (parts_are_groups g near parts s t u computes yields end ∙ ap (groups near) of_xs)
    ∙ map-groups (λ x. x.now) together xs
