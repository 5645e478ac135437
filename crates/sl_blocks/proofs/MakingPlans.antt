-- Plans that make blocks of what they say: columns, facts, the last clause, splits and growths.
use Rattle.std.proofs.Common.{◌≡◌, ℕ, ◌<◌, ◌^◌, true, List, [], ◌∷◌, length, flat_map, Result, Ok, Err, IfOk, refl, subst, arith}
use Rattle.std.proofs.lemmas.List.Elements.{recursion_from_All, All-weaker}
use Rattle.sl_law_meaning.specs.declared.fact.Fact.{Fact}
use Rattle.sl_law_meaning.specs.declared.book.Axis.{Axis}
use Rattle.sl_law_meaning.specs.declared.book.Cond.{Cond}
use Rattle.sl_law_meaning.specs.declared.book.Pairing.{Pairing}
use Rattle.sl_base_terms.specs.declared.shape.Shape.{Shape}
use Rattle.sl_law_meaning.specs.book.Limits.{condition_numbers}
use Rattle.sl_law_meaning.specs.book.Typing.{can_sum}
use Rattle.sl_code_instructions.specs.declared.instr.Instr.{Instr}
use Rattle.sl_code_instructions.specs.declared.instr.Instr.TheVariants.{Input}
use Rattle.sl_code_instructions.specs.declared.operand.Input.TheVariants as input
use Rattle.sl_code_instructions.specs.Codes.{CountingCode}
use Rattle.sl_compile_plans.specs.Trees.{Tree, Line}
use Rattle.sl_compile_pieces.specs.columns.Trees.{copy_tree, pair_tree, sum_tree}
use Rattle.sl_compile_pieces.specs.facts.Trees.{eligible_tree, fact_tree}
use Rattle.sl_compile_pieces.specs.declared.slots.TheConstants.{NAMES_LEFT as names_left}
use Rattle.sl_compile_pieces.specs.exprs.Slots.{fact_slots}
use Rattle.sl_compile_pieces.specs.closing.Trees.{place_kept}
use Rattle.sl_blocks.specs.Facts.{HasFirstSlots}
use Rattle.sl_blocks.specs.inner.Few.{AreSmall}
use Rattle.sl_blocks.specs.inner.Layout.{IsLaid}
use Rattle.sl_blocks.specs.PlanBlocks.{AreBlocks, HasCopy, HasPair, HasSum}
use Rattle.sl_compile_pieces.proofs.judged.Columns.{copy_fine, pair_fine, sum_fine}
use Rattle.sl_blocks.proofs.FineFacts.{first_fine, eligible_fine, fact_fine}
use Rattle.sl_compile_plans.proofs.ProperLists.{Fits}
use Rattle.sl_compile_plans.proofs.ProperTrees.{small_ranged}
use Rattle.sl_compile_pieces.proofs.judged.SmallPlans.{copy_judged, pair_judged, sum_judged, eligible_ranged, fact_ranged}
use Rattle.sl_blocks.proofs.Standing.{MakesPlan, is_plan_block}

-- what is laid out of a plan is its block
pub stands : (Stands : CountingCode → Type 0) (t : Tree) (p : ℕ) (before after : List Instr) → MakesPlan Stands t → p ≡ length before → IsLaid t p before after →
    AreBlocks Stands (t ∷ []) before after
stands Stands t p before after make place laid = record {
  row = (after, is_plan_block Stands t make before after (subst (λ (n : ℕ). IsLaid t n before after) place laid), refl);
}

pub made : {R E : Type 0} (r : Result R E) (Stands : CountingCode → Type 0) (t : Tree) (p : ℕ) (before after : List Instr) → MakesPlan Stands t → p ≡ length before →
    IfOk r (λ _. IsLaid t p before after) → IfOk r (λ _. AreBlocks Stands (t ∷ []) before after)
made (Ok y) Stands t p before after make place laid = stands Stands t p before after make place laid
made (Err y) Stands t p before after make place laid = laid

-- ---- columns

pub copy_makes : (s : Shape) (from to : ℕ) → MakesPlan (HasCopy s from to) (copy_tree s from to)
copy_makes s from to = record {
  ranged = small_ranged _ (copy_judged s from to).ranged;
  fine = λ code has. copy_fine _ (length code.stages) s from to has.from_there has.to_there;
}

pub pair_makes : (pairing : Pairing) (s : Shape) (left right to : ℕ) → MakesPlan (HasPair s left right to) (pair_tree pairing s left right to)
pair_makes pairing s left right to = record {
  ranged = small_ranged _ (pair_judged pairing s left right to).ranged;
  fine = λ code has. pair_fine _ (length code.stages) pairing s left right to has.left_there has.right_there has.to_there;
}

pub sum_makes : (over : Axis) (s : Shape) (from to : ℕ) → can_sum s over ≡ true → MakesPlan (HasSum over s from to) (sum_tree over s from to)
sum_makes over s from to can = record {
  ranged = small_ranged _ (sum_judged over s from to).ranged;
  fine = λ code has. sum_fine _ (length code.stages) over s from to can has.from_there has.to_there;
}

-- ---- facts

pub eligible_makes : (few : List Cond) → AreSmall few → MakesPlan HasFirstSlots (eligible_tree fact_slots few)
eligible_makes few small =
    let wide = All-weaker (λ n. n < 2 ^ 32) Fits (λ n h. omega (arith, h)) (flat_map condition_numbers few) small in
    record {
      ranged = eligible_ranged fact_slots few (recursion_from_All Fits (flat_map condition_numbers few) wide);
      fine = λ code has. eligible_fine code has few;
    }

pub fact_makes : (house : ℕ) (told : Fact) → house < 2 ^ 32 → MakesPlan HasFirstSlots (fact_tree fact_slots house told)
fact_makes house told low = record { ranged = fact_ranged fact_slots house told (omega (arith, low)); fine = λ code has. fact_fine code has house told }

-- ---- the last clause

pub placing_makes : MakesPlan HasFirstSlots place_kept
placing_makes = record { ranged = small_ranged _ refl; fine = λ code has. first_fine code has place_kept refl refl }

pub names_make : MakesPlan HasFirstSlots (Line (Input names_left input.Names ∷ []))
names_make = record { ranged = record { plain = refl; numbers = tt }; fine = λ code has. first_fine code has (Line (Input names_left input.Names ∷ [])) refl refl }
