-- The plans of the facts: that of the eligible parties, from those of its conditions.
use Rattle.std.proofs.Common.{◌≡◌, ℕ, Bool, true, false, cond, List, [], ◌∷◌, ◌++◌, Option, None, Some, is_some, refl, ap, ◌∙◌}
use Rattle.std.specs.Prelude.{unwrap_or}
use Rattle.sl_law_meaning.specs.declared.book.Cond.{Cond}
use Rattle.sl_law_meaning.specs.declared.book.Cond.TheVariants as condition
use Rattle.sl_code_instructions.specs.declared.instr.Instr.TheVariants.{Zero}
use Rattle.sl_compile_plans.specs.Trees.{Tree, Line, Then}
use Rattle.sl_compile_pieces.specs.facts.Trees.{nothing, condition_tree, conditions_tree, eligible_tree}
use Rattle.sl_compile_pieces.specs.exprs.Slots.{fact_slots}
use Rattle.sl_blocks.specs.declared.easiest.Share.{Share}
use Rattle.sl_blocks.specs.declared.easiest.Easiest.{Easiest}
use Rattle.sl_blocks.specs.inner.Few.{share_in, winners_in, minority_in, all_in, few_of, votes_of, per_of}

-- a plan before another, where it is there
abbrev pub before : Bool → Tree → Tree → Tree
before b plan rest = cond b (Then plan rest) rest

-- the plan of these conditions
abbrev pub plan_of : List Cond → Tree
plan_of cs = conditions_tree fact_slots cs

-- the plan of a share of so many votes
abbrev pub share_tree : ℕ → ℕ → Tree
share_tree votes per = condition_tree fact_slots (condition.Valid (record { value = votes; at = 0 }) per)

-- ---- one more condition

all_first : (b : Bool) → before b (condition_tree fact_slots condition.All) nothing ≡ plan_of (all_in b)
all_first false = refl
all_first true = refl

minority_first : (b : Bool) (cs : List Cond) → before b (condition_tree fact_slots condition.Minority) (plan_of cs) ≡ plan_of (minority_in b ++ cs)
minority_first false cs = refl
minority_first true cs = refl

winners_first : (o : Option ℕ) (cs : List Cond) → before (is_some o) (condition_tree fact_slots (condition.Winners (unwrap_or o 0))) (plan_of cs) ≡ plan_of (winners_in o ++ cs)
winners_first None cs = refl
winners_first (Some least) cs = refl

share_first : (o : Option Share) (cs : List Cond) → before (is_some o) (share_tree (votes_of o) (per_of o)) (plan_of cs) ≡ plan_of (share_in o ++ cs)
share_first None cs = refl
share_first (Some s) cs = refl

-- ---- all of them

pub eligible_plan : (few : Easiest) (all minorities winners valid : Tree) →
    all ≡ before few.all (condition_tree fact_slots condition.All) nothing →
    minorities ≡ before few.minority (condition_tree fact_slots condition.Minority) all →
    winners ≡ before (is_some few.winners) (condition_tree fact_slots (condition.Winners (unwrap_or few.winners 0))) minorities →
    valid ≡ before (is_some few.valid) (share_tree (votes_of few.valid) (per_of few.valid)) winners →
    Then (Line (Zero fact_slots.eligible ∷ [])) valid ≡ eligible_tree fact_slots (few_of few)
eligible_plan few all minorities winners valid all_is minorities_is winners_is valid_is =
    let a = all_is ∙ all_first few.all in
    let m = minorities_is ∙ ap (λ (t : Tree). before few.minority (condition_tree fact_slots condition.Minority) t) a ∙ minority_first few.minority (all_in few.all) in
    let w = winners_is ∙ ap (λ (t : Tree). before (is_some few.winners) (condition_tree fact_slots (condition.Winners (unwrap_or few.winners 0))) t) m ∙ winners_first few.winners (minority_in few.minority ++ all_in few.all) in
    let v = valid_is ∙ ap (λ (t : Tree). before (is_some few.valid) (share_tree (votes_of few.valid) (per_of few.valid)) t) w ∙ share_first few.valid (winners_in few.winners ++ (minority_in few.minority ++ all_in few.all)) in
    ap (λ (t : Tree). Then (Line (Zero fact_slots.eligible ∷ [])) t) v
