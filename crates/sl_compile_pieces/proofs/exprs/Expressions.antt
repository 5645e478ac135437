-- The plans of an expression leave its column and its records, or end the run with its fault: by induction over the expression.
use Rattle.std.proofs.Common.{◌≡◌, ℕ, ◌+◌, ◌<◌, ◌≤◌, true, List, [], ◌∷◌, ◌++◌, All, None, Some, refl, subst, inr, arith}
use Rattle.std.specs.Prelude.{position, unwrap_or}
use Rattle.std.specs.List.{AllZip}
use Rattle.sl_base_quotients.specs.declared.limits.TheConstants.{MAX_WEIGHT}
use Rattle.sl_base_quotients.specs.declared.method.Method.TheVariants as by
use Rattle.sl_law_meaning.specs.declared.book.Axis.{Axis}
use Rattle.sl_law_meaning.specs.declared.book.Pairing.{Pairing}
use Rattle.sl_base_terms.specs.declared.shape.Shape.{Shape}
use Rattle.sl_law_meaning.specs.book.Limits.{depth_of}
use Rattle.sl_base_terms.specs.Tests.{first_failing}
use Rattle.sl_law_meaning.specs.book.Trees.{ExprTree, fact, name, sum, pair, split, without, atleast, grow, BookTree}
use Rattle.sl_law_meaning.specs.book.Typing.{is_typed, fact_type, type_of, expr_tests, splits_in, is_named}
use Rattle.sl_law_meaning.specs.returns.Election.{Election, IsElection}
use Rattle.sl_law_meaning.specs.meaning.Columns.{sum_over, pair_of, fact_column}
use Rattle.sl_law_meaning.specs.meaning.Records.{Records, no_records, both_records}
use Rattle.sl_law_meaning.specs.meaning.Results.{Column, plain, Then}
use Rattle.sl_law_meaning.specs.meaning.Expressions.{Context, shape_in, stand, ExprMeans, IsSplit, IsGrown}
use Rattle.sl_law_meaning.specs.laws.ColumnLaws.{IsTypedAs}
use Rattle.sl_base_terms.proofs.Tests.{head_holds, pass_parts}
use Rattle.sl_law_meaning.proofs.typing.TestLists.{pass_parts3, pass_parts4}
use Rattle.sl_law_meaning.proofs.meaning.TypedMeaning.{typed_expressions}
use Rattle.sl_code_instructions.specs.Codes.{CountingCode}
use Rattle.sl_code_semantics.specs.State.{State}
use Rattle.sl_code_semantics.specs.Effects.{most}
use Rattle.sl_compile_pieces.specs.columns.Columns.{HoldsColumn}
use Rattle.sl_compile_plans.specs.Trees.{Tree}
use Rattle.sl_compile_pieces.specs.nodes.Nodes.{EndsWith}
use Rattle.sl_compile_pieces.specs.exprs.Slots.{fact_slots, passing, stage_slot, HasBookSlots, LEVELS}
use Rattle.sl_compile_pieces.specs.exprs.Pieces.{slot_of, arguments_at, pieces}
use Rattle.sl_compile_pieces.specs.exprs.Meaning.{HoldsKnown, StandsIn, ExprsAchieve, ComesTo}
use Rattle.sl_compile_pieces.proofs.exprs.Following.{AllAchieve}
use Rattle.sl_compile_pieces.proofs.exprs.Places.{first_of, slot_stands, stands_there, stands_below}
use Rattle.sl_compile_pieces.proofs.exprs.Arguments.{then_all, two_arguments, three_arguments}
use Rattle.sl_compile_pieces.proofs.exprs.Leaves.{known_kept, fact_all, leaf_all, HasNamed, has_named}
use Rattle.sl_compile_pieces.proofs.exprs.Sums.{typed_weights, typed_numbers, sum_all, pair_all}
use Rattle.sl_compile_pieces.proofs.exprs.Nodes.{HasStage, has_stage, IsThere, without_minima, with_minima, split_all, grow_all}
use Rattle.sl_compile_pieces.proofs.exprs.Levels.{low_level, one_level, two_levels, split_levels, three_levels, pair_passes, split_passes, Shares, split_from_passes, fits_minima, Grows, grow_passes, no_hamilton}

-- a column under another name of its shape
same_column : (e : Election) (s v : Shape) (column : ℕ → ℕ) (values : List ℕ) → s ≡ v → HoldsColumn e s column values → HoldsColumn e v column values
same_column e s v column values same h = subst (λ x. HoldsColumn e x column values) same h

-- the slot of an expression, in a code that has the slots
module _ (code : CountingCode) (c : Context) (slots : HasBookSlots code c.types) where
  abbrev slot_in : ℕ → ExprTree → ℕ
  slot_in = slot_of c.types

  pub slot_is : (x : ExprTree) (level : ℕ) → level + depth_of x + splits_in x ≤ LEVELS → IsThere code level (shape_in c x) (slot_in level x)
  slot_is x level within =
      let on = slot_stands c.types x level in
      record { there = stands_there code c.types slots level (shape_in c x) (slot_in level x) (low_level x level within) on; on = on }

  pub slot_as : (x : ExprTree) (s : Shape) (level : ℕ) → shape_in c x ≡ s → level + depth_of x + splits_in x ≤ LEVELS → IsThere code level s (slot_in level x)
  slot_as x s level same within = subst (λ v. IsThere code level v (slot_in level x)) same (slot_is x level within)

  pub slot_below : (x : ExprTree) (k level : ℕ) → k < level → slot_in k x < first_of level
  slot_below x k level less = stands_below k level (shape_in c x) (slot_in k x) less (slot_stands c.types x k)

module _ (code : CountingCode) (b : BookTree) (e : Election) (c : Context) (typed : is_typed b ≡ true) (is : IsElection e)
    (known : AllZip (IsTypedAs e) c.types c.columns) (stands : StandsIn code c) where
  -- the numbers of a sum
  sum_small : (at : ℕ) (x : ExprTree) (over : Axis) (xs : List ℕ) (records : Records) → first_failing (expr_tests c.types (sum at x over)) ≡ None
      → ExprMeans b e c x (Column xs records) → All (λ n. n ≤ most) (sum_over e over xs)
  sum_small at x over xs records pass means =
      typed_numbers e (type_of c.types (sum at x over)) (sum_over e over xs)
      (typed_expressions b e c (sum at x over) (sum_over e over xs) (both_records records no_records) typed is known pass
      (record { first = Column xs records; comes = means; goes_on = (plain (sum_over e over xs), refl, refl) }))

  -- the numbers of votes
  votes_small : (v : ExprTree) (ys : List ℕ) (records : Records) → first_failing (expr_tests c.types v) ≡ None → ExprMeans b e c v (Column ys records)
      → All (λ n. n ≤ MAX_WEIGHT) ys
  votes_small v ys records pass means = typed_weights e (type_of c.types v) ys (typed_expressions b e c v ys records typed is known pass means)

  of_stage : HasStage code c.stage c.name
  of_stage = has_stage code c.stage c.name stands.stage stands.few stands.staged stands.named

  abbrev slot : ℕ → ExprTree → ℕ
  slot = slot_of c.types

  abbrev Goes : ExprTree → ℕ → State → Type 0
  Goes x level s =
      AllAchieve code e (pieces c.types c.stage level x) s (ComesTo e (ExprMeans b e c x) (shape_in c x) (slot level x) (first_of level) s)
      (EndsWith (ExprMeans b e c x))

  -- two expressions of one shape
  record PairParts (x y : ExprTree) (level : ℕ) : Type 0 where
    left : first_failing (expr_tests c.types x) ≡ None
    right : first_failing (expr_tests c.types y) ≡ None
    same : shape_in c y ≡ shape_in c x
    left_within : level + depth_of x + splits_in x ≤ LEVELS
    right_within : level + 1 + depth_of y + splits_in y ≤ LEVELS

  pair_parts : (at : ℕ) (pairing : Pairing) (x y : ExprTree) (level : ℕ) → first_failing (expr_tests c.types (pair at pairing x y)) ≡ None
      → level + depth_of (pair at pairing x y) + splits_in (pair at pairing x y) ≤ LEVELS → PairParts x y level
  pair_parts at pairing x y level pass within =
      let p = pass_parts3 (expr_tests c.types x) (expr_tests c.types y) _ pass in
      let levels = two_levels level (depth_of x) (depth_of y) (splits_in x) (splits_in y) within in
      record { left = p.0; right = p.1; same = pair_passes at (type_of c.types x) (type_of c.types y) p.2; left_within = levels.0; right_within = levels.1 }

  joined : (x y : ExprTree) (level : ℕ) (s : State) (join : List ℕ → List ℕ → List ℕ) {tree : Tree} → shape_in c y ≡ shape_in c x → HoldsKnown b e c.types c.columns s
      → Goes x level s → ((t : State) → HoldsKnown b e c.types c.columns t → Goes y (level + 1) t)
      → ((xs ys : List ℕ) (u : State) → HoldsColumn e (shape_in c x) (u.columns (slot level x)) xs
      → HoldsColumn e (shape_in c x) (u.columns (slot (level + 1) y)) ys
      → AllAchieve code e (tree ∷ []) u (ComesTo e (λ r. r ≡ plain (join xs ys)) (shape_in c x) (passing level (shape_in c x)) (first_of level) u) (EndsWith (λ r. r ≡ plain (join xs ys))))
      → AllAchieve code e (pieces c.types c.stage level x ++ (pieces c.types c.stage (level + 1) y ++ tree ∷ [])) s
      (ComesTo e (Then (ExprMeans b e c x) (λ xs. Then (ExprMeans b e c y) (λ ys r. r ≡ plain (join xs ys)))) (shape_in c x) (passing level (shape_in c x)) (first_of level) s)
      (EndsWith (Then (ExprMeans b e c x) (λ xs. Then (ExprMeans b e c y) (λ ys r. r ≡ plain (join xs ys)))))
  joined x y level s join same holds first second last =
      two_arguments level (ExprMeans b e c x) (ExprMeans b e c y) (slot_below code c stands.slots x level (level + 1) (omega arith))
      (λ xs ys r. r ≡ plain (join xs ys)) first (λ t h. second t (known_kept level h holds))
      (λ u xs ys one two. last xs ys u one.column (same_column e (shape_in c y) (shape_in c x) (u.columns (slot (level + 1) y)) ys same two.column))

  goes : (x : ExprTree) (level : ℕ) (s : State) → first_failing (expr_tests c.types x) ≡ None → level + depth_of x + splits_in x ≤ LEVELS → HoldsKnown b e c.types c.columns s
      → Goes x level s
  goes (fact at told) level s pass within holds =
      fact_all (fact_type told).shape (fact_slots.of told) (first_of level) (fact_column b e told) s (holds.facts told) (fact_column b e told, refl, refl)
  goes (name at n) level s pass within holds =
      let low = low_level (name at n) level within in
      let h : HasNamed code e n c.types c.columns s = has_named code b e n c.types c.columns s stands.slots known (head_holds _ _ _ pass).0 holds in
      leaf_all level low (shape_in c (name at n)) (stage_slot (unwrap_or (position (is_named n) c.types) 0)) h.values s h.slot
      (stands.slots.passing_are level (shape_in c (name at n)) low) (inr (omega arith)) h.holds (h.values, h.found, refl)
  goes (sum at x over) level s pass within holds =
      let low = low_level (sum at x over) level within in
      let parts = pass_parts (expr_tests c.types x) _ pass in
      then_all e (ExprMeans b e c x) (λ xs r. r ≡ plain (sum_over e over xs)) (omega arith) (omega arith)
      (goes x level s parts.0 (one_level level (depth_of x) (splits_in x) within) holds)
      (λ t h. sum_all level (λ k. stands.slots.passing_are level k low) low (shape_in c x) (slot level x) (slot_is code c stands.slots x level (one_level level (depth_of x) (splits_in x) within)).there over h.values t (head_holds _ _ _ parts.1).0 h.column
      (sum_small at x over h.values h.records pass h.result))
  goes (pair at pairing x y) level s pass within holds =
      let p = pair_parts at pairing x y level pass within in
      let low = low_level y (level + 1) p.right_within in
      joined x y level s (pair_of pairing) p.same holds (goes x level s p.left p.left_within holds) (λ t h. goes y (level + 1) t p.right p.right_within h)
      (λ xs ys u left right.
      let here = slot_is code c stands.slots x level p.left_within in
      let next = slot_as code c stands.slots y (shape_in c x) (level + 1) p.same p.right_within in
      pair_all level (λ k. stands.slots.passing_are level k (omega (arith, low))) (omega (arith, low)) (shape_in c x) (slot level x) here.there (slot (level + 1) y) next.there next.on xs ys u left right pairing)
  goes (split at x v method without majority) level s pass within holds =
      let p = pass_parts3 (expr_tests c.types x) (expr_tests c.types v) _ pass in
      let can = split_passes at (type_of c.types x) (type_of c.types v) method majority p.2 in
      let levels = split_levels level (depth_of x) (depth_of v) (splits_in x) (splits_in v) within in
      two_arguments level (ExprMeans b e c x) (ExprMeans b e c v) (slot_below code c stands.slots x level (level + 1) (omega arith))
      (λ amounts votes. IsSplit e (stand c v) amounts votes (shape_in c x) method majority None)
      (goes x level s p.0 levels.0 holds)
      (λ t h. goes v (level + 1) t p.1 levels.1 (known_kept level h holds))
      (λ u amounts votes one two. split_all code c.types c.stage c.name level of_stage stands.slots.passing_are (low_level v (level + 1) levels.1)
      (arguments_at c.types level x v None) e is amounts votes u
      (votes_small v votes two.records p.1 two.result) None method majority tt (shape_in c x) (shape_in c v) can
      (without_minima code level (shape_in c x) (shape_in c v) (slot level x) (slot (level + 1) v)
      (slot_is code c stands.slots x level levels.0) (slot_is code c stands.slots v (level + 1) levels.1))
      (one.column, two.column, tt))
  goes (split at x v method (atleast m) majority) level s pass within holds =
      let p = pass_parts4 (expr_tests c.types x) (expr_tests c.types v) (expr_tests c.types m) _ pass in
      let tests : Shares (type_of c.types x) (type_of c.types v) (type_of c.types m) method =
      split_from_passes at (type_of c.types x) (type_of c.types v) (type_of c.types m) method majority p.3 in
      let levels = three_levels level (depth_of x) (depth_of v) (depth_of m) (splits_in x) (splits_in v) (splits_in m) within in
      three_arguments level (ExprMeans b e c x) (ExprMeans b e c v) (slot_below code c stands.slots x level (level + 1) (omega arith))
      (ExprMeans b e c m) (slot_below code c stands.slots v (level + 1) (level + 2) (omega arith))
      (λ amounts votes minima. IsSplit e (stand c v) amounts votes (shape_in c x) method majority (Some minima))
      (goes x level s p.0 levels.0 holds)
      (λ t h. goes v (level + 1) t p.1 levels.1 (known_kept level h holds))
      (λ t u h k. goes m (level + 2) u p.2 levels.2 (known_kept (level + 1) k (known_kept level h holds)))
      (λ u amounts votes minima one two three. split_all code c.types c.stage c.name level of_stage stands.slots.passing_are (low_level v (level + 1) levels.1)
      (arguments_at c.types level x v (Some m)) e is amounts votes u
      (votes_small v votes two.records p.1 two.result) (Some minima) method majority
      (fits_minima (type_of c.types x) (type_of c.types v) (type_of c.types m) method minima tests) (shape_in c x) (shape_in c v) tests.can
      (with_minima code level (shape_in c x) (shape_in c v) (slot level x) (slot (level + 1) v) (slot (level + 2) m)
      (slot_is code c stands.slots x level levels.0) (slot_is code c stands.slots v (level + 1) levels.1) (slot_as code c stands.slots m (shape_in c v) (level + 2) tests.same levels.2))
      (one.column, two.column, same_column e (shape_in c m) (shape_in c v) (u.columns (slot (level + 2) m)) minima tests.same three.column))
  goes (grow at x v (by.Divisor d) m limit majority) level s pass within holds =
      let p = pass_parts4 (expr_tests c.types x) (expr_tests c.types v) (expr_tests c.types m) _ pass in
      let tests : Grows (type_of c.types x) (type_of c.types v) (type_of c.types m) (by.Divisor d) limit.value =
      grow_passes at (type_of c.types x) (type_of c.types v) (type_of c.types m) (by.Divisor d) limit majority p.3 in
      let levels = three_levels level (depth_of x) (depth_of v) (depth_of m) (splits_in x) (splits_in v) (splits_in m) within in
      three_arguments level (ExprMeans b e c x) (ExprMeans b e c v) (slot_below code c stands.slots x level (level + 1) (omega arith))
      (ExprMeans b e c m) (slot_below code c stands.slots v (level + 1) (level + 2) (omega arith))
      (λ amounts votes minima. IsGrown e (stand c v) amounts votes (by.Divisor d) majority minima limit.value)
      (goes x level s p.0 levels.0 holds)
      (λ t h. goes v (level + 1) t p.1 levels.1 (known_kept level h holds))
      (λ t u h k. goes m (level + 2) u p.2 levels.2 (known_kept (level + 1) k (known_kept level h holds)))
      (λ u amounts votes minima one two three. grow_all code c.types c.stage c.name level of_stage stands.slots.passing_are (low_level v (level + 1) levels.1)
      (arguments_at c.types level x v (Some m)) e is amounts votes u
      (votes_small v votes two.records p.1 two.result) minima d majority limit.value tests.small
      (shape_in c x) (shape_in c v) tests.shares.can tests.one
      (with_minima code level (shape_in c x) (shape_in c v) (slot level x) (slot (level + 1) v) (slot (level + 2) m)
      (slot_is code c stands.slots x level levels.0) (slot_is code c stands.slots v (level + 1) levels.1) (slot_as code c stands.slots m (shape_in c v) (level + 2) tests.shares.same levels.2))
      (one.column, two.column, same_column e (shape_in c m) (shape_in c v) (u.columns (slot (level + 2) m)) minima tests.shares.same three.column))
  goes (grow at x v by.Hamilton m limit majority) level s pass within holds =
      let p = pass_parts4 (expr_tests c.types x) (expr_tests c.types v) (expr_tests c.types m) _ pass in
      absurd (no_hamilton (type_of c.types x) (type_of c.types v) (type_of c.types m) limit.value
      (grow_passes at (type_of c.types x) (type_of c.types v) (type_of c.types m) by.Hamilton limit majority p.3))

pub exprs_achieve : ExprsAchieve
exprs_achieve code b e c x level s typed is known pass within stands holds =
    (goes code b e c typed is known stands x level s pass within holds).all
