-- What is found of the plans of columns, facts and the last clause by evaluation: that they are modest, that their lines neither jump nor declare, and
-- that the numbers fit that they set registers to.
use Rattle.std.proofs.Common.{◌≡◌, ℕ, true, List, [], ◌∷◌, flat_map, refl, arith}
use Rattle.std.proofs.lemmas.Bool.{and_from}
use Rattle.sl_law_meaning.specs.declared.fact.Fact.{Fact}
use Rattle.sl_law_meaning.specs.declared.fact.Fact.TheVariants as facts
use Rattle.sl_law_meaning.specs.declared.book.Pairing.{Pairing}
use Rattle.sl_law_meaning.specs.declared.book.Pairing.TheVariants as pairings
use Rattle.sl_law_meaning.specs.declared.book.Axis.{Axis}
use Rattle.sl_law_meaning.specs.declared.book.Axis.TheVariants as axis
use Rattle.sl_law_meaning.specs.declared.book.Cond.{Cond}
use Rattle.sl_law_meaning.specs.declared.book.Cond.TheVariants as condition
use Rattle.sl_base_terms.specs.declared.shape.Shape.{Shape}
use Rattle.sl_base_terms.specs.declared.shape.Shape.TheVariants as shape
use Rattle.sl_law_meaning.specs.book.Limits.{condition_numbers}
use Rattle.sl_code_instructions.specs.declared.instr.Instr.{Instr}
use Rattle.sl_compile_plans.specs.Trees.{Tree, Line}
use Rattle.sl_compile_pieces.specs.covers.Trees.{CoverSlots, cover_tree}
use Rattle.sl_compile_pieces.specs.columns.Trees.{copy_tree, pair_tree, sum_tree}
use Rattle.sl_compile_pieces.specs.facts.Trees.{FactSlots, condition_tree, conditions_tree, eligible_tree, fact_tree}
use Rattle.sl_compile_pieces.specs.closing.Trees.{place_kept}
use Rattle.sl_compile_plans.proofs.Modest.{is_modest, IsModest}
use Rattle.sl_compile_plans.proofs.ProperLists.{all_append, all_parts, Fits, AllFit}
use Rattle.sl_compile_plans.proofs.ProperTrees.{set_numbers, IsRanged, is_ranged, small_ranged}

-- a modest plan that sets registers to small numbers alone
pub record IsJudged (plain by_win size : ℕ) (tree : Tree) : Type 0 where
  pub modest : is_modest plain by_win size tree ≡ true
  pub ranged : is_ranged tree ≡ true

pub judged_modest : (plain by_win size : ℕ) (tree : Tree) → IsJudged plain by_win size tree → IsModest plain by_win size tree
judged_modest plain by_win size tree h = record { is = h.modest }

-- any plan of an expression but that of a split or a growth; that of a fact, or one besides a covering; that of a covering
abbrev pub IsColumnPlan : Tree → Type 0
IsColumnPlan = IsJudged 19 0 14

abbrev pub IsFactPlan : Tree → Type 0
IsFactPlan = IsModest 30 30 40

abbrev pub IsCoverPlan : Tree → Type 0
IsCoverPlan = IsJudged 70 70 220

-- ---- columns

pub copy_judged : (s : Shape) (from to : ℕ) → IsColumnPlan (copy_tree s from to)
copy_judged shape.One from to = record { modest = refl; ranged = refl }
copy_judged _ from to = record { modest = refl; ranged = refl }

pub pair_judged : (pairing : Pairing) (s : Shape) (left right to : ℕ) → IsColumnPlan (pair_tree pairing s left right to)
pair_judged pairings.Larger shape.One left right to = record { modest = refl; ranged = refl }
pair_judged _ shape.One left right to = record { modest = refl; ranged = refl }
pair_judged _ _ left right to = record { modest = refl; ranged = refl }

pub sum_judged : (over : Axis) (s : Shape) (from to : ℕ) → IsColumnPlan (sum_tree over s from to)
sum_judged axis.All shape.One from to = record { modest = refl; ranged = refl }
sum_judged _ s from to = record { modest = refl; ranged = refl }

-- ---- facts, and the last clause

pub line_modest : (i : Instr) → IsFactPlan (Line (i ∷ []))
line_modest i = record { is = refl }

pub condition_modest : (x : FactSlots) (c : Cond) → IsFactPlan (condition_tree x c)
condition_modest x (condition.Valid share per) = record { is = refl }
condition_modest x _ = record { is = refl }

pub nothing_modest : IsFactPlan (Line [])
nothing_modest = record { is = refl }

pub fact_modest : (x : FactSlots) (house : ℕ) (told : Fact) → IsFactPlan (fact_tree x house told)
fact_modest x house facts.House = record { is = refl }
fact_modest x house told = record { is = refl }

pub place_kept_modest : IsFactPlan place_kept
place_kept_modest = record { is = refl }

pub cover_judged : (x : CoverSlots) → IsCoverPlan (cover_tree x)
cover_judged x = record { modest = refl; ranged = refl }

-- the numbers of a condition are its own and small ones
condition_ranged : (x : FactSlots) (c : Cond) → AllFit (condition_numbers c) → IsRanged (condition_tree x c)
condition_ranged x (condition.Valid share per) fit =
    record { plain = refl; numbers = (omega arith, (fit.0, (omega arith, (fit.1.0, (omega arith, tt))))) }
condition_ranged x (condition.Winners least) fit = record { plain = refl; numbers = (omega arith, (fit.0, (omega arith, tt))) }
condition_ranged x _ fit = small_ranged _ refl

conditions_ranged : (x : FactSlots) (few : List Cond) → AllFit (flat_map condition_numbers few) → IsRanged (conditions_tree x few)
conditions_ranged x [] fit = record { plain = refl; numbers = tt }
conditions_ranged x (c ∷ few) fit =
    let parts = all_parts Fits (condition_numbers c) (flat_map condition_numbers few) fit in
    let first = condition_ranged x c parts.0 in
    let rest = conditions_ranged x few parts.1 in
    record { plain = and_from _ _ first.plain rest.plain; numbers = all_append Fits (set_numbers (condition_tree x c)) _ first.numbers rest.numbers }

pub eligible_ranged : (x : FactSlots) (few : List Cond) → AllFit (flat_map condition_numbers few) → IsRanged (eligible_tree x few)
eligible_ranged x few fit = let all = conditions_ranged x few fit in record { plain = all.plain; numbers = all.numbers }

pub fact_ranged : (x : FactSlots) (house : ℕ) (told : Fact) → Fits house → IsRanged (fact_tree x house told)
fact_ranged x house facts.House fit = record { plain = refl; numbers = (fit, tt) }
fact_ranged x house told fit = small_ranged _ refl
