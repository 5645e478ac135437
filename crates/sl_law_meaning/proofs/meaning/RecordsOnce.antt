-- No record of a table comes twice.
use Rattle.std.proofs.Common.{◌≡◌, ℕ, ◌+◌, ◌<◌, ◌≤◌, ◌&&◌, Bool, false, List, [], ◌∷◌, Option, Some, None, length, nat_eq, arith, refl, sym, ap, subst, ◌∙◌, inl, inr}
use Rattle.std.specs.Prelude.{zip, filter_map, slice_get, option_map, unwrap_or, MatchOption}
use Rattle.std.specs.Cmp.{nat_eq_equiv}
use Rattle.std.specs.List.{AllByRecursion as Every, IsDistinct}
use Rattle.std.proofs.lemmas.Bool.{cases_eq, and_left, ne_eqb, leb-true}
use Rattle.std.proofs.lemmas.List.{append-nil, length-append}
use Rattle.std.proofs.lemmas.List.Sorted.{IsPermutation-sym}
use Rattle.std.proofs.lemmas.Map.Keys.{IsDistinct-IsPermutation}
use Rattle.sl_base_quotients.specs.declared.method.Method.{Method}
use Rattle.sl_base_quotients.specs.declared.method.Method.TheVariants as by
use Rattle.sl_law_meaning.specs.declared.book.Majority.{Majority}
use Rattle.sl_base_terms.specs.declared.shape.Shape.{Shape}
use Rattle.sl_base_terms.specs.declared.shape.Shape.TheVariants as shape
use Rattle.sl_law_meaning.specs.declared.book.Seating.{Seating}
use Rattle.sl_law_meaning.specs.declared.book.Seating.TheVariants as seating
use Rattle.sl_law_meaning.specs.declared.fault.FaultKind.TheVariants as fault
use Rattle.sl_law_meaning.specs.declared.fault.LegalFault.{LegalFault}
use Rattle.sl_law_meaning.specs.declared.fault.Scope.{Scope}
use Rattle.sl_law_meaning.specs.declared.fault.Scope.TheVariants as scope
use Rattle.sl_law_meaning.specs.declared.table.SeatStep.{SeatStep}
use Rattle.sl_law_meaning.specs.declared.table.Weight.{Weight}
use Rattle.sl_law_meaning.specs.declared.table.Outcome.{Outcome}
use Rattle.sl_law_meaning.specs.declared.table.Outcome.TheVariants as outcome
use Rattle.sl_law_meaning.specs.meaning.Tables.{SeatTable}
use Rattle.sl_law_meaning.specs.book.Trees.{ExprTree, fact, name, sum, pair, split, without, atleast, grow, StageTree, BookTree}
use Rattle.sl_law_meaning.specs.returns.Election.{Election}
use Rattle.sl_law_meaning.specs.returns.Facts.{lists_of}
use Rattle.sl_base_terms.specs.Tests.{first_failing}
use Rattle.sl_law_meaning.specs.book.Typing.{splits_in, tests_of, stages_tests, expr_tests}
use Rattle.sl_law_meaning.specs.meaning.Scopes.{Group, scopes}
use Rattle.sl_law_meaning.specs.meaning.Records.{Records, no_records, both_records}
use Rattle.sl_law_meaning.specs.meaning.Splits.{Award}
use Rattle.sl_law_meaning.specs.meaning.Results.{ExprResult, Column, Fault, plain, behind, Continues, Then, Stand, fault_at, fault_of, first_over, AreJoined, IsShared}
use Rattle.sl_law_meaning.specs.meaning.Expressions.{IsSplitIn, split_records, IsGrowthIn, growth_records, IsSplit, IsGrown, Context, ExprMeans, IsLeafResult, stand, shape_in}
use Rattle.sl_law_meaning.specs.meaning.Seating.{keep_table, cover_table}
use Rattle.sl_law_meaning.specs.meaning.Means.{Known, nothing_known, StagesResult, Through, Stopped, context_of, with_stage, StagesMean, IsSeated, EndsAs, IsOutcome, SameOutcome}
use Rattle.sl_law_meaning.specs.laws.MeaningLaws.{same_scope, same_seat, same_entry, RecordsComeOnce, RecordsOnce}
use Rattle.sl_law_meaning.proofs.meaning.CoveredWinners.{table_without_faults}
use Rattle.sl_law_meaning.proofs.meaning.DistinctLists.{every_weaker, every_append, distinct_nil, distinct_append}
use Rattle.sl_law_meaning.proofs.meaning.ScopeRecords.{item_flips, scopes_differ, entries_once, AtScope, Once}
use Rattle.sl_law_meaning.proofs.meaning.StageRecords.{split_at, growth_at, OfStage, of_stage, all_apart}
use Rattle.sl_base_terms.proofs.Tests.{no_fault, head_holds, pass_parts}
use Rattle.sl_law_meaning.proofs.meaning.OneOutcome.{goes_through, typed_parts}

-- ---- results whose records come from so many splits and growths of a stage

abbrev pub HasFew : ℕ → ℕ → ExprResult → Type 0
HasFew stage n (Fault f) = Unit {0}
HasFew stage n (Column values records) = (n ≡ 0 → records ≡ no_records) × (n ≤ 1 → OfStage stage records)

nothing_of : (stage : ℕ) → OfStage stage no_records
nothing_of stage = record { steps_at = tt; weights_at = tt; once = record { steps = distinct_nil same_seat; weights = distinct_nil same_entry } }

plain_has : (stage n : ℕ) (values : List ℕ) (r : ExprResult) → r ≡ plain values → HasFew stage n r
plain_has stage n values r is = subst (HasFew stage n) (sym is) (λ h. refl, λ h. nothing_of stage)

nothing_behind : (a : Records) → both_records a no_records ≡ a
nothing_behind a = λ i. record { steps = append-nil a.steps i; weights = append-nil a.weights i }

module _ (stage n m : ℕ) where
  both_few : (xs : List ℕ) (a : Records) (q : ExprResult) → HasFew stage n (Column xs a) → HasFew stage m q → HasFew stage (n + m) (behind a q)
  both_few xs a (Fault f) h k = tt
  both_few xs a (Column ys b) h k = (
    λ none. ap (λ z. both_records z b) (h.0 (omega arith)) ∙ k.0 (omega arith),
    λ one. elim (cases_eq n 0) [
      | inl none ↦ subst (OfStage stage) (sym (ap (λ z. both_records z b) (h.0 none))) (k.1 (omega arith))
      | inr some ↦ subst (OfStage stage) (sym (ap (both_records a) (k.0 (omega arith)) ∙ nothing_behind a)) (h.1 (omega arith))
    ],
  )

  goes_few : (Next : List ℕ → ExprResult → Type 0) (p r : ExprResult) → HasFew stage n p → ((xs : List ℕ) (q : ExprResult) → Next xs q → HasFew stage m q) → Continues Next p r → HasFew stage (n + m) r
  goes_few Next (Fault f) r h next goes = subst (HasFew stage (n + m)) (sym goes) tt
  goes_few Next (Column xs a) r h next goes = subst (HasFew stage (n + m)) (sym goes.2) (both_few xs a goes.0 h (next xs goes.0 goes.1))

  then_few : (First : ExprResult → Type 0) (Next : List ℕ → ExprResult → Type 0) → ((p : ExprResult) → First p → HasFew stage n p) → ((xs : List ℕ) (q : ExprResult) → Next xs q → HasFew stage m q) →
      (k : ℕ) → n + m ≡ k → (r : ExprResult) → Then First Next r → HasFew stage k r
  then_few First Next first next k all r h = subst (λ k. HasFew stage k r) all (goes_few Next h.first r (first h.first h.comes) next h.goes_on)

-- ---- splits and growths

module _ (e : Election) (at : Stand) (amounts : List ℕ) (over : Shape) (records : Group → List ℕ → Records)
    (each : (g : Group) (s : List ℕ) → AtScope at.stage g (records g s)) where
  unwrapped : (f : Option LegalFault) (c : List ℕ) (a : Records) (r : ExprResult) → OfStage at.stage a → r ≡ unwrap_or (option_map (λ f. Fault f) f) (Column c a) → HasFew at.stage 1 r
  unwrapped (Some f) c a r of is = subst (HasFew at.stage 1) (sym is) tt
  unwrapped None c a r of is = subst (HasFew at.stage 1) (sym is) (λ z. absurd (omega arith), λ z. of)

  shared_few : (IsAward : Group → Award → Type 0) (r : ExprResult) → IsShared e at amounts IsAward records (scopes e over at.shape) r → HasFew at.stage 1 r
  shared_few IsAward r h = of (first_over e at amounts (scopes e over at.shape)) h where
    of : (o : Option Group) → MatchOption o (AreJoined e at amounts IsAward records (scopes e over at.shape) r) (λ g. r ≡ Fault (fault_at at.stage g.scope fault.Limit)) → HasFew at.stage 1 r
    of (Some g) is = subst (HasFew at.stage 1) (sym is) tt
    of None j =
        unwrapped (slice_get (filter_map (fault_of at.stage) (zip (scopes e over at.shape) j.awards)) 0) _ _ r
        (of_stage at.stage records each (scopes e over at.shape) j.awards (scopes_differ e over at.shape) (entries_once e over at.shape)) j.is

module _ (e : Election) (at : Stand) (amounts votes : List ℕ) where
  split_few : (over : Shape) (method : Method) (majority : Majority) (minima : Option (List ℕ)) (r : ExprResult) → IsSplit e at amounts votes over method majority minima r → HasFew at.stage 1 r
  split_few over method majority minima r h =
      shared_few e at amounts over (split_records e at amounts votes method majority minima) (split_at e at amounts votes method majority minima)
      (IsSplitIn e at amounts votes method majority minima) r h

  grown_few : (method : Method) (majority : Majority) (minima : List ℕ) (limit : ℕ) (r : ExprResult) → IsGrown e at amounts votes method majority minima limit r → HasFew at.stage 1 r
  grown_few (by.Divisor d) majority minima limit r h =
      shared_few e at amounts shape.One (growth_records e at amounts votes d minima) (growth_at e at amounts votes d minima)
      (IsGrowthIn e at amounts votes d majority minima limit) r h
  grown_few by.Hamilton majority minima limit r h = absurd h

-- ---- expressions

module _ (b : BookTree) (e : Election) (c : Context) where
  leaf_few : (x : ExprTree) (n : ℕ) (r : ExprResult) → IsLeafResult b e c x r → HasFew c.stage n r
  leaf_few x n r h = plain_has c.stage n h.0 r h.2

  few_records : (x : ExprTree) (r : ExprResult) → ExprMeans b e c x r → HasFew c.stage (splits_in x) r
  few_records (fact at told) r h = leaf_few (fact at told) 0 r h
  few_records (name at n) r h = leaf_few (name at n) 0 r h
  few_records (sum at x over) r h = then_few c.stage (splits_in x) 0 _ _ (few_records x) (λ xs q is. plain_has c.stage 0 _ q is) _ (omega arith) r h
  few_records (pair at pairing x y) r h =
      then_few c.stage (splits_in x) (splits_in y) _ _ (few_records x)
      (λ xs. then_few c.stage (splits_in y) 0 _ _ (few_records y) (λ ys q is. plain_has c.stage 0 _ q is) _ (omega arith)) _ (omega arith) r h
  few_records (split at s v method without majority) r h =
      then_few c.stage (splits_in s) (splits_in v + 1) _ _ (few_records s)
      (λ amounts. then_few c.stage (splits_in v) 1 _ _ (few_records v)
      (λ votes. split_few e (stand c v) amounts votes (shape_in c s) method majority None) _ (omega arith)) _ (omega arith) r h
  few_records (split at s v method (atleast m) majority) r h =
      then_few c.stage (splits_in s) (splits_in v + (splits_in m + 1)) _ _ (few_records s)
      (λ amounts. then_few c.stage (splits_in v) (splits_in m + 1) _ _ (few_records v)
      (λ votes. then_few c.stage (splits_in m) 1 _ _ (few_records m)
      (λ minima. split_few e (stand c v) amounts votes (shape_in c s) method majority (Some minima)) _ (omega arith)) _ (omega arith)) _ (omega arith) r h
  few_records (grow at s v method m limit majority) r h =
      then_few c.stage (splits_in s) (splits_in v + (splits_in m + 1)) _ _ (few_records s)
      (λ amounts. then_few c.stage (splits_in v) (splits_in m + 1) _ _ (few_records v)
      (λ votes. then_few c.stage (splits_in m) 1 _ _ (few_records m)
      (λ minima. grown_few e (stand c v) amounts votes method majority minima limit.value) _ (omega arith)) _ (omega arith)) _ (omega arith) r h

-- ---- stages

-- the records of the stages so far
record BeforeStage (stage : ℕ) (r : Records) : Type 0 where
  steps_below : Every (λ s. s.stage < stage) r.steps
  weights_below : Every (λ w. w.stage < stage) r.weights
  once : Once r

other_stage : (stage m n : ℕ) (scope rest : Bool) → m < stage → n ≡ stage → (nat_eq m n && scope) && rest ≡ false
other_stage stage m n scope rest lower same = and_left (nat_eq m n && scope) rest (and_left (nat_eq m n) scope (ne_eqb m n (λ h. omega arith)))

with_stage_of : (stage : ℕ) (a c : Records) → BeforeStage stage a → OfStage stage c → BeforeStage (stage + 1) (both_records a c)
with_stage_of stage a c before this = record {
  steps_below = every_append (λ s. s.stage < stage + 1) a.steps c.steps
      (every_weaker (λ s. s.stage < stage) (λ s. s.stage < stage + 1) (λ s h. omega arith) a.steps before.steps_below) (every_weaker (λ s. s.stage ≡ stage) (λ s. s.stage < stage + 1) (λ s h. omega arith) c.steps this.steps_at);
  weights_below = every_append (λ s. s.stage < stage + 1) a.weights c.weights
      (every_weaker (λ s. s.stage < stage) (λ s. s.stage < stage + 1) (λ s h. omega arith) a.weights before.weights_below) (every_weaker (λ s. s.stage ≡ stage) (λ s. s.stage < stage + 1) (λ s h. omega arith) c.weights this.weights_at);
  once = record {
    steps = distinct_append same_seat a.steps c.steps before.once.steps this.once.steps
        (all_apart same_seat (λ s. s.stage < stage) (λ s. s.stage ≡ stage) (λ x y. other_stage stage x.stage y.stage _ _) a.steps c.steps before.steps_below this.steps_at);
    weights = distinct_append same_entry a.weights c.weights before.once.weights this.once.weights
        (all_apart same_entry (λ s. s.stage < stage) (λ s. s.stage ≡ stage) (λ x y. other_stage stage x.stage y.stage _ _) a.weights c.weights before.weights_below this.weights_at);
  };
}

module _ (b : BookTree) (e : Election) where
  run_before : (k : Known) (ss : List StageTree) (end : Known) → first_failing (stages_tests k.types ss) ≡ None → BeforeStage (length k.columns) k.records → StagesMean b e k ss (Through end) → Once end.records
  run_before k [] end pass before run = let same : end ≡ k = cc in subst (λ j. Once j.records) (sym same) before.once
  run_before k (s ∷ ss) end pass before run =
      let once = head_holds _ _ _ pass in
      let single = head_holds _ _ _ once.1 in
      let parts = pass_parts (expr_tests k.types s.expr) _ single.1 in
      let on = goes_through run.0 (λ values records. StagesMean b e (with_stage k s values records) ss (Through end)) end run.2 in
      let few = subst (HasFew (length k.columns) (splits_in s.expr)) on.2 (few_records b e (context_of k s) s.expr run.0 run.1) in
      let more = with_stage_of (length k.columns) k.records on.1 before (few.1 (leb-true (splits_in s.expr) 1 single.0)) in
      run_before (with_stage k s on.0 on.1) ss end parts.1
      (subst (λ n. BeforeStage n (both_records k.records on.1)) (sym (length-append k.columns (record { name = s.name; values = on.0 } ∷ []))) more) on.3

  -- ---- the table

  -- a table has the records of its stages
  seated_has : (s : Seating) (base : List ℕ) (r : Records) (t : SeatTable) → IsSeated b e s base r (outcome.Table t) → (t.steps ≡ r.steps) × (t.weights ≡ r.weights)
  seated_has seating.Keep base r t is = let same : t ≡ keep_table b e base r = cc in (ap (λ t. t.steps) same, ap (λ t. t.weights) same)
  seated_has seating.Cover base r t is =
      let same = (table_without_faults _ t (cover_table b e base r (zip (lists_of e) is.choices)) is.is).1 in (ap (λ t. t.steps) same, ap (λ t. t.weights) same)

  comes_once : (run : StagesResult) (t : SeatTable) → first_failing (stages_tests [] b.stages) ≡ None → StagesMean b e nothing_known b.stages run → EndsAs b e run (outcome.Table t) → RecordsComeOnce t
  comes_once (Stopped f) t pass stages ends = cc
  comes_once (Through k) t pass stages ends =
      let once = run_before nothing_known b.stages k pass (record { steps_below = tt; weights_below = tt; once = record { steps = distinct_nil same_seat; weights = distinct_nil same_entry } }) stages in
      let has = seated_has b.last.seating ends.base k.records t ends.seated in
      record { steps = subst (IsDistinct same_seat) (sym has.0) once.steps; weights = subst (IsDistinct same_entry) (sym has.1) once.weights }

-- ---- in any order

scope_flips : (x y : Scope) → same_scope x y ≡ same_scope y x
scope_flips scope.All scope.All = refl
scope_flips (scope.Land l) (scope.Land k) = nat_eq_equiv.symm l k
scope_flips (scope.Party p) (scope.Party q) = nat_eq_equiv.symm p q
scope_flips (scope.List l p) (scope.List k q) = cc (nat_eq_equiv.symm l k, nat_eq_equiv.symm p q)
scope_flips _ _ = refl

seat_flips : (x y : SeatStep) → same_seat x y ≡ same_seat y x
seat_flips x y = cc (nat_eq_equiv.symm x.stage y.stage, scope_flips x.scope y.scope, item_flips x.entry y.entry, nat_eq_equiv.symm x.n y.n)

entry_flips : (x y : Weight) → same_entry x y ≡ same_entry y x
entry_flips x y = cc (nat_eq_equiv.symm x.stage y.stage, scope_flips x.scope y.scope, item_flips x.entry y.entry)

pub records_once : RecordsOnce
records_once b e t typed means = ordered means.ordered means.is means.same where
  ordered : (o : Outcome) → IsOutcome b e o → SameOutcome (outcome.Table t) o → RecordsComeOnce t
  ordered (outcome.Fault f) is same = absurd same
  ordered (outcome.Table u) is same =
      let once = comes_once b e is.run u (typed_parts b e (no_fault (tests_of b) typed)).0 is.stages is.ends in
      record {
        steps = IsDistinct-IsPermutation same_seat seat_flips u.steps t.steps (IsPermutation-sym t.steps u.steps same.steps) once.steps;
        weights = IsDistinct-IsPermutation same_entry entry_flips u.weights t.weights (IsPermutation-sym t.weights u.weights same.weights) once.weights;
      }
