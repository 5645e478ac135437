-- What the verifier finds in the plan of a growth, which numbers it sets registers to, and what it costs.
use Rattle.std.proofs.Common.{◌≡◌, ℕ, zero, suc, Bool, true, false, ◌==◌, Option, Some, if◌then◌else◌, refl, sym, subst, ◌∙◌, arith}
use Rattle.std.specs.Prelude.{nat_lt}
use Rattle.std.proofs.lemmas.Bool.{eqb-true, lt-ltb}
use Rattle.sl_base_quotients.specs.declared.method.Divisor.{Divisor}
use Rattle.sl_base_terms.specs.declared.shape.Shape.{Shape}
use Rattle.sl_law_meaning.specs.declared.book.Majority.{Majority}
use Rattle.sl_law_meaning.specs.declared.book.Majority.TheVariants as majority
use Rattle.sl_code_semantics.specs.Kinds.{start_kinds}
use Rattle.sl_compile_plans.specs.Fine.{is_fine, judged_by}
use Rattle.sl_compile_pieces.specs.declared.form.Form.{Form}
use Rattle.sl_compile_pieces.specs.declared.form.Form.TheVariants.{AllParties}
use Rattle.sl_compile_pieces.specs.seats.Slots.{Slots}
use Rattle.sl_compile_pieces.specs.nodes.Trees.{grow_tree}
use Rattle.sl_compile_plans.proofs.Modest.{IsNodePlan}
use Rattle.sl_compile_plans.proofs.ProperLists.{Fits}
use Rattle.sl_compile_plans.proofs.ProperTrees.{IsRanged}
use Rattle.sl_compile_pieces.proofs.judged.Roles.{roles, names_of, IsFineAs, HasShapes, fine_of, ranged_as}

-- the cap in the plan of roles: 0, or 2 for all others, which is no other number of the plan
abbrev role_of_cap : ℕ → ℕ
role_of_cap zero = 0
role_of_cap (suc n) = 2

abbrev number_of_role : ℕ → ℕ → ℕ
number_of_role zero k = k
number_of_role (suc n) k = if k == 2 then suc n else k

numbers : (cap k : ℕ) → nat_lt 0 (number_of_role cap k) ≡ nat_lt 0 k
numbers zero k = refl
numbers (suc n) k = by_case (k == 2) refl
  where
    by_case : (b : Bool) → (k == 2) ≡ b → nat_lt 0 (if b then suc n else k) ≡ nat_lt 0 k
    by_case true e = lt-ltb 0 (suc n) (omega arith) ∙ sym (lt-ltb 0 k (omega (arith, eqb-true k 2 e)))
    by_case false e = refl

number_fits : (cap : ℕ) → Fits cap → (n : ℕ) → Fits n → Fits (number_of_role cap n)
number_fits zero fits n h = h
number_fits (suc cap) fits n h = by_case (n == 2)
  where
    by_case : (b : Bool) → Fits (if b then suc cap else n)
    by_case true = fits
    by_case false = h

module _ (x : Slots) where
  abbrev IsFineGrowth : ℕ → ℕ → Form → Divisor → Majority → Type 0
  IsFineGrowth slot cap f d m =
      IsFineAs f (names_of x (Some slot) (number_of_role cap)) (grow_tree f (roles (Some slot)) d m (role_of_cap cap)) (grow_tree f (record x { minima = Some slot }) d m cap)

  -- each form and each majority clause is a case of its own: first one of them, then the others
  growth_as : (slot cap : ℕ) (f : Form) (d : Divisor) (m : Majority) → IsFineGrowth slot cap f d m
  growth_as slot zero AllParties d majority.Free = record { fine = refl; ranged = refl; same = refl; modest = refl }
  growth_as slot _ AllParties d majority.Free = record { fine = refl; ranged = refl; same = refl; modest = refl }
  growth_as slot _ _ d majority.Free = record { fine = refl; ranged = refl; same = refl; modest = refl }
  growth_as slot _ _ d _ = record { fine = refl; ranged = refl; same = refl; modest = refl }

  -- with the slots' own minima
  with_own : (slot cap : ℕ) (f : Form) (d : Divisor) (m : Majority) → x.minima ≡ Some slot
      → IsFineAs f (names_of x x.minima (number_of_role cap)) (grow_tree f (roles x.minima) d m (role_of_cap cap)) (grow_tree f x d m cap)
  with_own slot cap f d m is =
      subst (λ o. IsFineAs f (names_of x o (number_of_role cap)) (grow_tree f (roles o) d m (role_of_cap cap)) (grow_tree f (record x { minima = o }) d m cap)) (sym is)
      (growth_as slot cap f d m)

-- where the slots have their shapes and there is the stage, its instructions have what they need
pub growth_fine : (slots : ℕ → Option Shape) (stages : ℕ) (f : Form) (x : Slots) (d : Divisor) (m : Majority) (cap slot : ℕ)
    → x.minima ≡ Some slot → HasShapes slots stages f x → is_fine (judged_by slots stages) start_kinds (grow_tree f x d m cap) ≡ true
growth_fine slots stages f x d m cap slot is has =
    fine_of slots stages f x has (number_of_role cap) (numbers cap) (grow_tree f (roles x.minima) d m (role_of_cap cap)) (grow_tree f x d m cap) (with_own x slot cap f d m is)

module _ (f : Form) (x : Slots) (d : Divisor) (m : Majority) (cap slot : ℕ) (is : x.minima ≡ Some slot) where
  pub growth_ranged : Fits cap → IsRanged (grow_tree f x d m cap)
  growth_ranged fits =
      ranged_as (names_of x x.minima (number_of_role cap)) (number_fits cap fits) f (grow_tree f (roles x.minima) d m (role_of_cap cap)) (grow_tree f x d m cap)
      (with_own x slot cap f d m is)

  pub growth_modest : IsNodePlan (grow_tree f x d m cap)
  growth_modest = record { is = (with_own x slot cap f d m is).modest }
