-- What the verifier finds in the plans of columns, whatever their slots are: those of roles 0, 1 and 2 are judged by evaluation.
use Rattle.std.proofs.Common.{◌≡◌, ℕ, zero, suc, true, Option, Some, refl, subst, ◌∙◌}
use Rattle.std.proofs.lemmas.Bool.{false≢true}
use Rattle.sl_law_meaning.specs.declared.book.Pairing.{Pairing}
use Rattle.sl_law_meaning.specs.declared.book.Pairing.TheVariants as pairings
use Rattle.sl_law_meaning.specs.declared.book.Axis.{Axis}
use Rattle.sl_law_meaning.specs.declared.book.Axis.TheVariants as axis
use Rattle.sl_base_terms.specs.declared.shape.Shape.{Shape}
use Rattle.sl_base_terms.specs.declared.shape.Shape.TheVariants as shape
use Rattle.sl_law_meaning.specs.book.Typing.{can_sum}
use Rattle.sl_code_semantics.specs.declared.known.TheConstants.{LAST_CLAUSE}
use Rattle.sl_code_semantics.specs.Kinds.{start_kinds}
use Rattle.sl_compile_plans.specs.Trees.{Tree}
use Rattle.sl_compile_plans.specs.Fine.{is_fine, judged_by}
use Rattle.sl_compile_pieces.specs.columns.Trees.{copy_tree, pair_tree, sum_tree, summed}
use Rattle.sl_compile_plans.proofs.Renaming.{Renaming, renamed, Renames, renamed_is_fine}

-- two columns of one shape, and the result
abbrev shape_of_role : Shape → Shape → ℕ → Option Shape
shape_of_role s made zero = Some s
shape_of_role s made (suc zero) = Some s
shape_of_role s made (suc (suc k)) = Some made

abbrev slot_of_role : ℕ → ℕ → ℕ → ℕ → ℕ
slot_of_role left right to zero = left
slot_of_role left right to (suc zero) = right
slot_of_role left right to (suc (suc k)) = to

abbrev names : ℕ → ℕ → ℕ → Renaming
names left right to = record { slot = slot_of_role left right to; stage = LAST_CLAUSE; number = λ n. n }

-- a plan of roles is fine, and under those names it is the other plan
record IsFineAs (s made : Shape) (left right to : ℕ) (role tree : Tree) : Type 0 where
  fine : is_fine (judged_by (shape_of_role s made) 0) start_kinds role ≡ true
  same : renamed (names left right to) role ≡ tree

-- ---- what is evaluated

copy_as : (s : Shape) (from to : ℕ) → IsFineAs s s from from to (copy_tree s 0 2) (copy_tree s from to)
copy_as shape.One from to = record { fine = refl; same = refl }
copy_as _ from to = record { fine = refl; same = refl }

pair_as : (pairing : Pairing) (s : Shape) (left right to : ℕ) → IsFineAs s s left right to (pair_tree pairing s 0 1 2) (pair_tree pairing s left right to)
pair_as pairings.Larger shape.One left right to = record { fine = refl; same = refl }
pair_as _ shape.One left right to = record { fine = refl; same = refl }
pair_as _ _ left right to = record { fine = refl; same = refl }

sum_as : (over : Axis) (s : Shape) (from to : ℕ) → can_sum s over ≡ true → IsFineAs s (summed over) from from to (sum_tree over s 0 2) (sum_tree over s from to)
sum_as axis.Party shape.List from to can = record { fine = refl; same = refl }
sum_as axis.Land shape.List from to can = record { fine = refl; same = refl }
sum_as axis.All shape.List from to can = record { fine = refl; same = refl }
sum_as axis.All shape.Party from to can = record { fine = refl; same = refl }
sum_as axis.All shape.Land from to can = record { fine = refl; same = refl }
sum_as _ _ from to can = absurd (false≢true can)

-- ---- what follows from it

module _ (slots : ℕ → Option Shape) (stages : ℕ) where
  names_fit : (s made : Shape) (left right to : ℕ) → slots left ≡ Some s → slots right ≡ Some s → slots to ≡ Some made
      → Renames (names left right to) (judged_by (shape_of_role s made) 0) (judged_by slots stages)
  names_fit s made left right to is_left is_right is_made = record { slots = of; stage = refl; numbers = λ n. refl }
    where
      of : (k : ℕ) (x : Shape) → shape_of_role s made k ≡ Some x → slots (slot_of_role left right to k) ≡ Some x
      of zero x h = is_left ∙ h
      of (suc zero) x h = is_right ∙ h
      of (suc (suc k)) x h = is_made ∙ h

  by_roles : (s made : Shape) (left right to : ℕ) (role tree : Tree) → IsFineAs s made left right to role tree → slots left ≡ Some s → slots right ≡ Some s → slots to ≡ Some made
      → is_fine (judged_by slots stages) start_kinds tree ≡ true
  by_roles s made left right to role tree h is_left is_right is_made =
      subst (λ t. is_fine (judged_by slots stages) start_kinds t ≡ true) h.same
      (renamed_is_fine (names left right to) (judged_by (shape_of_role s made) 0) (judged_by slots stages) (names_fit s made left right to is_left is_right is_made) start_kinds role h.fine)

  pub copy_fine : (s : Shape) (from to : ℕ) → slots from ≡ Some s → slots to ≡ Some s → is_fine (judged_by slots stages) start_kinds (copy_tree s from to) ≡ true
  copy_fine s from to is made = by_roles s s from from to (copy_tree s 0 2) (copy_tree s from to) (copy_as s from to) is is made

  pub pair_fine : (pairing : Pairing) (s : Shape) (left right to : ℕ) → slots left ≡ Some s → slots right ≡ Some s → slots to ≡ Some s
      → is_fine (judged_by slots stages) start_kinds (pair_tree pairing s left right to) ≡ true
  pair_fine pairing s left right to = by_roles s s left right to (pair_tree pairing s 0 1 2) (pair_tree pairing s left right to) (pair_as pairing s left right to)

  -- a column that can be summed so
  pub sum_fine : (over : Axis) (s : Shape) (from to : ℕ) → can_sum s over ≡ true → slots from ≡ Some s → slots to ≡ Some (summed over)
      → is_fine (judged_by slots stages) start_kinds (sum_tree over s from to) ≡ true
  sum_fine over s from to can is made = by_roles s (summed over) from from to (sum_tree over s 0 2) (sum_tree over s from to) (sum_as over s from to can) is is made
