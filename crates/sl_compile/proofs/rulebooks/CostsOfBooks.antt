-- What the plans of a rulebook take together, by a measure of each of them: its steps, or its instructions.
use Rattle.std.proofs.Common.{◌≡◌, ℕ, suc, ◌+◌, ◌*◌, ◌≤◌, true, List, [], ◌∷◌, ◌++◌, length, map, Option, None, Some, refl, arith}
use Rattle.std.specs.Prelude.{nat_le}
use Rattle.std.specs.List.{list_all}
use Rattle.std.proofs.lemmas.Bool.{and_parts, leb-true}
use Rattle.std.proofs.lemmas.Nat.{mul-le}
use Rattle.sl_base_quotients.specs.declared.method.Method.{Method}
use Rattle.sl_base_quotients.specs.declared.method.Method.TheVariants as by
use Rattle.sl_law_meaning.specs.declared.fact.Fact.{Fact}
use Rattle.sl_law_meaning.specs.declared.fact.TheConstants.{FACTS}
use Rattle.sl_law_meaning.specs.declared.book.Pairing.TheVariants as pairings
use Rattle.sl_law_meaning.specs.declared.book.Cond.{Cond}
use Rattle.sl_law_meaning.specs.declared.book.LastClause.{LastClause}
use Rattle.sl_law_meaning.specs.declared.book.Majority.{Majority}
use Rattle.sl_law_meaning.specs.declared.book.Seating.{Seating}
use Rattle.sl_law_meaning.specs.declared.book.Seating.TheVariants as seating
use Rattle.sl_base_terms.specs.declared.shape.Shape.{Shape}
use Rattle.sl_base_terms.specs.declared.shape.Shape.TheVariants as shape
use Rattle.sl_law_meaning.specs.declared.check_fault.CheckFault.TheVariants as fault
use Rattle.sl_law_meaning.specs.declared.limits.TheConstants.{MAX_DEPTH, MAX_PARTS}
use Rattle.sl_base_terms.specs.declared.limits.TheConstants.{MAX_STAGES}
use Rattle.sl_base_terms.specs.Tests.{test, first_failing}
use Rattle.sl_law_meaning.specs.book.Trees.{ExprTree, fact as of_returns, name, sum, pair, split, without, atleast, grow, StageTree, BookTree}
use Rattle.sl_law_meaning.specs.book.Limits.{depth_of, parts_of, is_within_stage}
use Rattle.sl_law_meaning.specs.book.Typing.{Column, splits_in, is_seat_number, expr_tests, stage_column, columns_of, stages_tests, version_tests, condition_tests, base_tests, tests_of, is_typed}
use Rattle.sl_base_terms.proofs.Tests.{no_fault, pass_parts, head_holds}
use Rattle.sl_code_instructions.specs.declared.instr.Instr.TheVariants.{Zero, Input}
use Rattle.sl_code_instructions.specs.declared.operand.Input.TheVariants as input
use Rattle.sl_compile_plans.specs.Trees.{Tree, Line, Then}
use Rattle.sl_compile_pieces.specs.columns.Trees.{copy_tree}
use Rattle.sl_compile_pieces.specs.facts.Trees.{FactSlots, condition_tree, conditions_tree, eligible_tree, fact_tree}
use Rattle.sl_compile_pieces.specs.declared.slots.TheConstants.{NAMES_LEFT as names_left, VACANT_SEATS as vacant_seats}
use Rattle.sl_compile_pieces.specs.exprs.Slots.{fact_slots, winners_slot}
use Rattle.sl_compile_pieces.specs.declared.arguments.Arguments.{Arguments}
use Rattle.sl_compile_pieces.specs.exprs.Pieces.{form_by, shape_of, slot_of, arguments_at, node_slots, split_piece, grow_piece, pieces}
use Rattle.sl_compile_pieces.specs.exprs.Stages.{stage_pieces, stages_pieces}
use Rattle.sl_compile_pieces.specs.closing.Trees.{base_slot, final_seats, cover_slots, seating_pieces, vacant_pieces, last_pieces}
use Rattle.sl_compile.specs.Codes.{facts_pieces, book_pieces}
use Rattle.sl_compile.specs.Laws.{CanCompile}
use Rattle.sl_compile_plans.proofs.Modest.{IsNodePlan}
use Rattle.sl_compile_pieces.proofs.judged.SmallPlans.{IsColumnPlan, IsFactPlan, IsCoverPlan, copy_judged, pair_judged, sum_judged, line_modest, nothing_modest, condition_modest, fact_modest, place_kept_modest, cover_judged}
use Rattle.sl_compile_pieces.proofs.judged.Splits.{split_modest}
use Rattle.sl_compile_pieces.proofs.judged.Growths.{growth_modest}

-- the sum of a measure over some plans
abbrev pub total : (Tree → ℕ) → List Tree → ℕ
total f [] = 0
total f (t ∷ ts) = f t + total f ts

-- the measure of a split or a growth is at most the first number, of any other plan of an expression the second, of a fact the third, and of a
-- covering the fourth; and two plans in a row measure no more than both
pub record IsMeasure (f : Tree → ℕ) (node column fact cover : ℕ) : Type 0 where
  pub nodes : (t : Tree) → IsNodePlan t → f t ≤ node
  pub columns : (t : Tree) → IsColumnPlan t → f t ≤ column
  pub facts : (t : Tree) → IsFactPlan t → f t ≤ fact
  pub covers : (t : Tree) → IsCoverPlan t → f t ≤ cover
  pub joins : (a b : Tree) → f (Then a b) ≤ f a + f b

-- the tests of the stages hold
stages_hold : (b : BookTree) → is_typed b ≡ true → first_failing (stages_tests [] b.stages) ≡ None
stages_hold b typed =
    let ends = base_tests (columns_of [] b.stages) b.last.at b.last.base in
    let behind = condition_tests b.eligible ++ (stages_tests [] b.stages ++ ends) in
    let house = (pass_parts (version_tests b.version b.last.vacate) (test (is_seat_number b.house.value) (fault.HouseRange b.house.at) ∷ behind) (no_fault (tests_of b) typed)).1 in
    let conditions = (pass_parts (condition_tests b.eligible) (stages_tests [] b.stages ++ ends) (head_holds _ _ _ house).1).1 in
    (pass_parts (stages_tests [] b.stages) ends conditions).0

module _ (f : Tree → ℕ) where
  total-append : (xs ys : List Tree) → total f (xs ++ ys) ≡ total f xs + total f ys
  total-append [] ys = omega arith
  total-append (x ∷ xs) ys = omega (arith, total-append xs ys)

  both_at_most : (xs ys : List Tree) (a b : ℕ) → total f xs ≤ a → total f ys ≤ b → total f (xs ++ ys) ≤ a + b
  both_at_most xs ys a b hx hy = omega (arith, total-append xs ys, hx, hy)

  one_at_most : (t : Tree) (a : ℕ) → f t ≤ a → total f (t ∷ []) ≤ a
  one_at_most t a h = omega (arith, h)

-- ---- sums of splits and parts
module _ (node column : ℕ) where
  -- the most of an expression with so many splits and growths, and so many parts
  abbrev at_most : ℕ → ℕ → ℕ
  at_most splits parts = splits * node + parts * column

  leaf : (c : ℕ) → c ≤ column → c ≤ at_most 0 1
  leaf c h = omega (arith, h)

  after_one : (c a p : ℕ) → c ≤ at_most a p + column → c ≤ at_most a (1 + p)
  after_one c a p h = omega (arith, h)

  after_two : (c a b p q : ℕ) → c ≤ at_most a p + (at_most b q + column) → c ≤ at_most (a + b) (1 + p + q)
  after_two c a b p q h = omega (arith, h)

  split_of_two : (c a b p q : ℕ) → c ≤ at_most a p + (at_most b q + node) → c ≤ at_most (1 + a + b) (1 + p + q)
  split_of_two c a b p q h = omega (arith, h)

  split_of_three : (c a b d p q r : ℕ) → c ≤ at_most a p + (at_most b q + (at_most d r + node)) → c ≤ at_most (1 + a + b + d) (1 + p + q + r)
  split_of_three c a b d p q r h = omega (arith, h)

  stage_sum : (c a p : ℕ) → a ≤ 1 → p ≤ MAX_PARTS → c ≤ at_most a p + column → c ≤ node + (MAX_PARTS + 1) * column
  stage_sum c a p ha hp h = omega (arith, h, mul-le a node 1 node ha (omega arith), mul-le p column MAX_PARTS column hp (omega arith))

-- so many plans are no greater than that of a fact: one for each fact, six for who is eligible, and two of the last clause
abbrev pub fact_plans : ℕ
fact_plans = 8 + length FACTS

one_more : (c n x : ℕ) → c ≤ x + n * x → c ≤ suc n * x
one_more c n x h = omega (arith, h)

module _ (f : Tree → ℕ) (node column fact cover : ℕ) (m : IsMeasure f node column fact cover) where
  -- ---- expressions
  module _ (types : List Column) (stage : ℕ) where
    copy_at_most : (s : Shape) (from to : ℕ) → total f (copy_tree s from to ∷ []) ≤ at_most node column 0 1
    copy_at_most s from to = leaf node column _ (one_at_most f _ column (m.columns _ (copy_judged s from to)))

    split_at_most : (level : ℕ) (seats votes : Shape) (from : Arguments) (method : Method) (major : Majority) →
        total f (split_piece types stage level seats votes from method major) ≤ node
    split_at_most level seats votes from method major =
        one_at_most f _ node (m.nodes _ (split_modest (form_by seats votes) (node_slots types stage level from votes) method major))

    grow_at_most : (level : ℕ) (seats votes : Shape) (from : Arguments) (slot : ℕ) → from.minima ≡ Some slot → (method : Method) (major : Majority) (most : ℕ) →
        total f (grow_piece types stage level seats votes from method major most) ≤ node
    grow_at_most level seats votes from slot some (by.Divisor d) major most =
        one_at_most f _ node (m.nodes _ (growth_modest (form_by seats votes) (node_slots types stage level from votes) d major most slot some))
    grow_at_most level seats votes from slot some by.Hamilton major most = omega arith

    -- each part has one plan of its own at most
    pieces_at_most : (level : ℕ) (x : ExprTree) → total f (pieces types stage level x) ≤ at_most node column (splits_in x) (parts_of x)
    pieces_at_most level (of_returns at told) = omega arith
    pieces_at_most level (name at n) = copy_at_most _ _ _
    pieces_at_most level (sum at x over) =
        after_one node column _ (splits_in x) (parts_of x)
        (both_at_most f (pieces types stage level x) _ _ column (pieces_at_most level x) (one_at_most f _ column (m.columns _ (sum_judged over _ _ _))))
    pieces_at_most level (pair at pairing l r) =
        after_two node column _ (splits_in l) (splits_in r) (parts_of l) (parts_of r)
        (both_at_most f (pieces types stage level l) _ _ _ (pieces_at_most level l)
        (both_at_most f (pieces types stage (level + 1) r) _ _ column (pieces_at_most (level + 1) r) (one_at_most f _ column (m.columns _ (pair_judged pairing _ _ _ _)))))
    pieces_at_most level (split at s v method without major) =
        split_of_two node column _ (splits_in s) (splits_in v) (parts_of s) (parts_of v)
        (both_at_most f (pieces types stage level s) _ _ _ (pieces_at_most level s)
        (both_at_most f (pieces types stage (level + 1) v) _ _ node (pieces_at_most (level + 1) v) (split_at_most level (shape_of types s) (shape_of types v) (arguments_at types level s v None) method major)))
    pieces_at_most level (split at s v method (atleast g) major) =
        split_of_three node column _ (splits_in s) (splits_in v) (splits_in g) (parts_of s) (parts_of v) (parts_of g)
        (both_at_most f (pieces types stage level s) _ _ _ (pieces_at_most level s)
        (both_at_most f (pieces types stage (level + 1) v) _ _ _ (pieces_at_most (level + 1) v)
        (both_at_most f (pieces types stage (level + 2) g) _ _ node (pieces_at_most (level + 2) g)
        (split_at_most level (shape_of types s) (shape_of types v) (arguments_at types level s v (Some g)) method major))))
    pieces_at_most level (grow at s v method g most major) =
        split_of_three node column _ (splits_in s) (splits_in v) (splits_in g) (parts_of s) (parts_of v) (parts_of g)
        (both_at_most f (pieces types stage level s) _ _ _ (pieces_at_most level s)
        (both_at_most f (pieces types stage (level + 1) v) _ _ _ (pieces_at_most (level + 1) v)
        (both_at_most f (pieces types stage (level + 2) g) _ _ node (pieces_at_most (level + 2) g)
        (grow_at_most level (shape_of types s) (shape_of types v) (arguments_at types level s v (Some g)) (slot_of types (level + 2) g) refl method major most.value))))

  -- ---- stages
  -- at most one split or growth, as many other plans as there are parts, and a copy
  stage_at_most : (types : List Column) (k : ℕ) (s : StageTree) → splits_in s.expr ≤ 1 → is_within_stage s ≡ true → total f (stage_pieces types k s) ≤ node + (MAX_PARTS + 1) * column
  stage_at_most types k s single within =
      let few : parts_of s.expr ≤ MAX_PARTS = leb-true (parts_of s.expr) MAX_PARTS (and_parts (nat_le (depth_of s.expr) MAX_DEPTH) (nat_le (parts_of s.expr) MAX_PARTS) within).1 in
      stage_sum node column (total f (stage_pieces types k s)) (splits_in s.expr) (parts_of s.expr) single few
      (both_at_most f (pieces types k 0 s.expr) _ _ column (pieces_at_most types k 0 s.expr) (one_at_most f _ column (m.columns _ (copy_judged _ _ _))))

  stages_at_most : (types : List Column) (k : ℕ) (ss : List StageTree) → first_failing (stages_tests types ss) ≡ None → list_all is_within_stage ss ≡ true
      → total f (stages_pieces types k ss) ≤ length ss * (node + (MAX_PARTS + 1) * column)
  stages_at_most types k [] pass within = omega arith
  stages_at_most types k (s ∷ ss) pass within =
      let once = head_holds _ _ _ pass in
      let single = head_holds _ _ _ once.1 in
      let parts = pass_parts (expr_tests types s.expr) _ single.1 in
      let kept = and_parts (is_within_stage s) (list_all is_within_stage ss) within in
      one_more _ (length ss) (node + (MAX_PARTS + 1) * column)
      (both_at_most f (stage_pieces types k s) _ _ _ (stage_at_most types k s (leb-true (splits_in s.expr) 1 single.0) kept.0)
      (stages_at_most (types ++ stage_column types s ∷ []) (k + 1) ss parts.1 kept.1))

  -- ---- facts
  conditions_at_most : (x : FactSlots) (few : List Cond) → f (conditions_tree x few) ≤ suc (length few) * fact
  conditions_at_most x [] = let none = m.facts _ nothing_modest in omega (arith, none)
  conditions_at_most x (c ∷ few) =
      one_more _ (suc (length few)) fact
      (let one = m.facts _ (condition_modest x c) in omega (arith, one, conditions_at_most x few, m.joins (condition_tree x c) (conditions_tree x few)))

  -- there are at most four conditions
  eligible_at_most : (x : FactSlots) (few : List Cond) → length few ≤ 4 → f (eligible_tree x few) ≤ 6 * fact
  eligible_at_most x few long =
      let first = m.facts (Line (Zero x.eligible ∷ [])) (line_modest (Zero x.eligible)) in
      let five : suc (length few) ≤ 5 = omega (arith, long) in
      let rest = mul-le (suc (length few)) fact 5 fact five (omega arith) in
      omega (arith, first, rest, conditions_at_most x few, m.joins (Line (Zero x.eligible ∷ [])) (conditions_tree x few))

  each_at_most : (house : ℕ) (fs : List Fact) → total f (map (fact_tree fact_slots house) fs) ≤ length fs * fact
  each_at_most house [] = omega arith
  each_at_most house (x ∷ xs) = one_more _ (length xs) fact (let one = m.facts _ (fact_modest fact_slots house x) in omega (arith, one, each_at_most house xs))

  facts_at_most : (few : List Cond) (b : BookTree) → length few ≤ 4 → total f (facts_pieces few b) ≤ (6 + length FACTS) * fact
  facts_at_most few b long = let all : total f (map (fact_tree fact_slots b.house.value) FACTS) ≤ length FACTS * fact = each_at_most b.house.value FACTS in omega (arith, eligible_at_most fact_slots few long, all)

  -- ---- the last clause
  seating_at_most : (from : ℕ) (s : Seating) → total f (seating_pieces from s) ≤ fact + (column + cover)
  seating_at_most from seating.Keep =
      let one = m.columns _ (pair_judged pairings.Larger shape.List from winners_slot final_seats) in
      let two = m.facts _ place_kept_modest in
      omega (arith, one, two)
  seating_at_most from seating.Cover =
      let one = m.columns _ (copy_judged shape.List from final_seats) in
      let two = m.covers _ (cover_judged cover_slots) in
      omega (arith, one, two)

  vacant_at_most : (vacate : Option ℕ) → total f (vacant_pieces vacate) ≤ fact + 2 * column
  vacant_at_most None = omega arith
  vacant_at_most (Some vacate) =
      let one = m.facts (Line (Input names_left input.Names ∷ [])) (line_modest (Input names_left input.Names)) in
      let two = m.columns _ (pair_judged pairings.Less shape.List final_seats winners_slot vacant_seats) in
      let three = m.columns _ (pair_judged pairings.Less shape.List vacant_seats names_left vacant_seats) in
      omega (arith, one, two, three)

  last_at_most : (types : List Column) (last : LastClause) → total f (last_pieces types last) ≤ 2 * fact + (3 * column + cover)
  last_at_most types last =
      let both = both_at_most f (seating_pieces (base_slot types last.base) last.seating) (vacant_pieces last.vacate) _ _
      (seating_at_most (base_slot types last.base) last.seating) (vacant_at_most last.vacate) in
      omega (arith, both)

  -- ---- the whole book
  pub book_at_most : (few : List Cond) (b : BookTree) → CanCompile few b
      → total f (book_pieces few b) ≤ length b.stages * (node + (MAX_PARTS + 1) * column) + (fact_plans * fact + (3 * column + cover))
  book_at_most few b can =
      let within = (and_parts (nat_le (length b.stages) MAX_STAGES) (list_all is_within_stage b.stages) can.limits).1 in
      let stages = stages_at_most [] 0 b.stages (stages_hold b can.typed) within in
      let last = last_at_most (columns_of [] b.stages) b.last in
      let all = both_at_most f (facts_pieces few b) _ _ _ (facts_at_most few b can.same.long)
      (both_at_most f (stages_pieces [] 0 b.stages) (last_pieces (columns_of [] b.stages) b.last) _ _ stages last) in
      of_three (total f (book_pieces few b)) (length b.stages * (node + (MAX_PARTS + 1) * column)) all
    where
      of_three : (c stages : ℕ) → c ≤ (6 + length FACTS) * fact + (stages + (2 * fact + (3 * column + cover))) → c ≤ stages + (fact_plans * fact + (3 * column + cover))
      of_three c stages h = omega (arith, h)
