-- The column of a name among those of earlier stages.
use Rattle.std.proofs.Common.{◌≡◌, ℕ, suc, zero, ◌<◌, ◌≤◌, ◌||◌, List, [], ◌∷◌, Bool, true, false, cond, Some, length, find, option_map, drop, take, get_or, arith, refl, ap}
use Rattle.std.specs.Str.{bytes_eq}
use Rattle.std.specs.Option.{ok_or}
use Rattle.std.specs.List.{list_any}
use Rattle.sl_law_meaning.specs.declared.check_fault.CheckFault.TheVariants.{StageUnknown}
use Rattle.sl_law_meaning.specs.declared.book.Stage.{Stage}
use Rattle.sl_law_meaning.specs.declared.book.ColumnType.{ColumnType}
use Rattle.sl_base_terms.specs.Tests.{test}
use Rattle.sl_law_meaning.specs.book.Typing.{Column, is_named, type_or_one}
use Rattle.sl_check.specs.inner.Known.{columns}
use Rattle.sl_base_terms.specs.Tests.{Judges}

-- a column of another name is passed over
pub find-drop : (n : List ℕ) (ss : List Stage) (ts : List ColumnType) (i : ℕ) (s : Stage)
    → i < length ss → length ss ≤ length ts → s ≡ get_or ss i s → bytes_eq n s.name ≡ false
    → find (is_named n) (columns (drop i ss) (drop i ts)) ≡ find (is_named n) (columns (drop (suc i) ss) (drop (suc i) ts))
find-drop n [] ts i s lt len here other = absurd (omega arith)
find-drop n (x ∷ ss) [] i s lt len here other = absurd (omega arith)
find-drop n (x ∷ ss) (t ∷ ts) zero s lt len here other = grind arith
find-drop n (x ∷ ss) (t ∷ ts) (suc i) s lt len here other = find-drop n ss ts i s (omega arith) (omega arith) here other

-- the type of a name: that of the first column of that name, if there is one
pub judges_name : (p : Column → Bool) (cs : List Column) (at : ℕ)
    → Judges (ok_or (option_map (λ c. c.type) (find p cs)) (StageUnknown at)) (test (list_any p cs) (StageUnknown at) ∷ []) (type_or_one (find p cs))
judges_name p [] at = refl
judges_name p (c ∷ cs) at =
    elim (p c) as (λ b. Judges (ok_or (option_map (λ d. d.type) (cond b (Some c) (find p cs))) (StageUnknown at)) (test (b || list_any p cs) (StageUnknown at) ∷ []) (type_or_one (cond b (Some c) (find p cs))))
    [ true ↦ (refl, refl) | false ↦ judges_name p cs at ]

-- stages without a type have no column
pub first_columns : (n : ℕ) (ss : List Stage) (ts : List ColumnType) → (n < length ss → length ts ≤ n) → columns (take n ss) ts ≡ columns ss ts
first_columns zero [] ts few = refl
first_columns zero (s ∷ ss) [] few = refl
first_columns zero (s ∷ ss) (t ∷ ts) few = absurd (omega (arith, few (omega arith)))
first_columns (suc n) [] ts few = refl
first_columns (suc n) (s ∷ ss) [] few = refl
first_columns (suc n) (s ∷ ss) (t ∷ ts) few = ap (λ cs. record { name = s.name; type = t } ∷ cs) (first_columns n ss ts (λ lt. omega (arith, few (omega (arith, lt)))))
