-- What the verifier finds in the plan of a split, which numbers it sets registers to, and what it costs.
use Rattle.std.proofs.Common.{◌≡◌, ℕ, true, Option, None, refl}
use Rattle.sl_base_quotients.specs.declared.method.Divisor.TheVariants as divisor
use Rattle.sl_base_quotients.specs.declared.method.Method.{Method}
use Rattle.sl_base_quotients.specs.declared.method.Method.TheVariants as by
use Rattle.sl_base_terms.specs.declared.shape.Shape.{Shape}
use Rattle.sl_law_meaning.specs.declared.book.Majority.{Majority}
use Rattle.sl_law_meaning.specs.declared.book.Majority.TheVariants as majority
use Rattle.sl_code_semantics.specs.Kinds.{start_kinds}
use Rattle.sl_compile_plans.specs.Fine.{is_fine, judged_by}
use Rattle.sl_compile_pieces.specs.declared.form.Form.{Form}
use Rattle.sl_compile_pieces.specs.declared.form.Form.TheVariants.{AllParties}
use Rattle.sl_compile_pieces.specs.seats.Slots.{Slots}
use Rattle.sl_compile_pieces.specs.nodes.Trees.{split_tree}
use Rattle.sl_compile_plans.proofs.Modest.{IsNodePlan}
use Rattle.sl_compile_plans.proofs.ProperTrees.{IsRanged}
use Rattle.sl_compile_pieces.proofs.judged.Roles.{roles, names_of, IsFineAs, HasShapes, fine_of, ranged_as}

module _ (x : Slots) where
  abbrev IsFineSplit : Option ℕ → Form → Method → Majority → Type 0
  IsFineSplit minima f method m = IsFineAs f (names_of x minima (λ n. n)) (split_tree f (roles minima) method m) (split_tree f (record x { minima = minima }) method m)

  -- each form and each majority clause is a case of its own, and each divisor where there are no minima: without minima weights are recorded, by some divisors
  split_as : (minima : Option ℕ) (f : Form) (method : Method) (m : Majority) → IsFineSplit minima f method m
  split_as None AllParties (by.Divisor divisor.Adams) majority.Free = record { fine = refl; ranged = refl; same = refl; modest = refl }
  split_as _ AllParties (by.Divisor d) majority.Free = record { fine = refl; ranged = refl; same = refl; modest = refl }
  split_as _ AllParties _ majority.Free = record { fine = refl; ranged = refl; same = refl; modest = refl }
  split_as None _ (by.Divisor divisor.Adams) majority.Free = record { fine = refl; ranged = refl; same = refl; modest = refl }
  split_as _ _ (by.Divisor d) majority.Free = record { fine = refl; ranged = refl; same = refl; modest = refl }
  split_as _ _ _ majority.Free = record { fine = refl; ranged = refl; same = refl; modest = refl }
  split_as _ _ _ _ = record { fine = refl; ranged = refl; same = refl; modest = refl }

-- where the slots have their shapes and there is the stage, its instructions have what they need
pub split_fine : (slots : ℕ → Option Shape) (stages : ℕ) (f : Form) (x : Slots) (method : Method) (m : Majority)
    → HasShapes slots stages f x → is_fine (judged_by slots stages) start_kinds (split_tree f x method m) ≡ true
split_fine slots stages f x method m has =
    fine_of slots stages f x has (λ n. n) (λ n. refl) (split_tree f (roles x.minima) method m) (split_tree f x method m) (split_as x x.minima f method m)

pub split_ranged : (f : Form) (x : Slots) (method : Method) (m : Majority) → IsRanged (split_tree f x method m)
split_ranged f x method m = ranged_as (names_of x x.minima (λ n. n)) (λ n h. h) f (split_tree f (roles x.minima) method m) (split_tree f x method m) (split_as x x.minima f method m)

pub split_modest : (f : Form) (x : Slots) (method : Method) (m : Majority) → IsNodePlan (split_tree f x method m)
split_modest f x method m = record { is = (split_as x x.minima f method m).modest }
