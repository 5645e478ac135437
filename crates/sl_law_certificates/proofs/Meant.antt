-- Each outcome that a book means has a certificate.
use Rattle.std.proofs.Common.{◌≡◌, ℕ, ◌≤◌, ◌&&◌, true, false, not, List, [], ◌∷◌, Some, None, length, map, min, sum, nat_eq, inl, inr, arith, sym, ap, ◌∙◌, subst}
use Rattle.std.specs.Prelude.{Option, MatchOption, option_map, option_and_then}
use Rattle.std.specs.Option.{option_or}
use Rattle.std.proofs.lemmas.Bool.{eq-eqb, leb-true, cases_lt, false≢true, and_parts}
use Rattle.sl_base_quotients.specs.declared.method.Divisor.{Divisor}
use Rattle.sl_base_quotients.specs.declared.method.Method.{Method}
use Rattle.sl_base_quotients.specs.declared.method.Method.TheVariants as by
use Rattle.sl_base_terms.specs.declared.shape.Shape.{Shape}
use Rattle.sl_base_terms.specs.declared.shape.Shape.TheVariants as shape
use Rattle.sl_base_terms.specs.Tests.{first_failing}
use Rattle.sl_base_terms.proofs.Tests.{no_fault, head_holds, pass_parts}
use Rattle.sl_law_meaning.specs.declared.book.Majority.{Majority}
use Rattle.sl_law_meaning.specs.declared.book.Seating.{Seating}
use Rattle.sl_law_meaning.specs.declared.book.Seating.TheVariants as seating
use Rattle.sl_law_meaning.specs.declared.fault.FaultKind.TheVariants as fault
use Rattle.sl_law_meaning.specs.declared.table.Outcome.{Outcome}
use Rattle.sl_law_meaning.specs.book.Trees.{ExprTree, fact, name, sum as sum_tree, pair, split, without, atleast, grow, StageTree, BookTree}
use Rattle.sl_law_meaning.specs.book.Typing.{expr_tests, stages_tests, tests_of, splits_in, is_prefer, is_typed}
use Rattle.sl_law_meaning.specs.returns.Election.{Election, IsElection}
use Rattle.sl_law_meaning.specs.returns.Facts.{lists_of, list_cell, is_eligible}
use Rattle.sl_law_meaning.specs.methods.Ties.{Choice}
use Rattle.sl_law_meaning.specs.meaning.Columns.{NamedColumn, IsLeaf, sum_over, pair_of}
use Rattle.sl_law_meaning.specs.meaning.Scopes.{Group, cells, scopes}
use Rattle.sl_law_meaning.specs.meaning.Lots.{seats_lot}
use Rattle.sl_law_meaning.specs.meaning.Records.{Records}
use Rattle.sl_law_meaning.specs.meaning.Splits.{Award}
use Rattle.sl_law_meaning.specs.meaning.Results.{ExprResult, Column, Fault, plain, behind, Continues, Then, Stand, amount_of, first_over, fault_at, fault_of, joined, AreJoined, IsShared}
use Rattle.sl_law_meaning.specs.meaning.Expressions.{minima_at, IsSplitIn, split_records, IsGrowthIn, growth_records, IsSplit, IsGrown, Context, stand, shape_in, IsLeafResult, ExprMeans}
use Rattle.sl_law_meaning.specs.meaning.Seating.{base_of, winners_of, winner_items, IsSeating, tie_of}
use Rattle.sl_law_meaning.specs.meaning.Means.{Known, nothing_known, context_of, with_stage, StagesResult, Through, Stopped, GoesOn, StagesMean, IsSeated, EndsAs, IsOutcome}
use Rattle.sl_law_meaning.specs.laws.Ladders.{IsTop, covering_ladders}
use Rattle.sl_law_meaning.proofs.methods.CoveringProofs.{covering_ladders_law}
use Rattle.sl_law_meaning.proofs.meaning.OneAward.{mentions_distinct}
use Rattle.sl_law_meaning.proofs.meaning.OneOutcome.{typed_parts}
use Rattle.sl_law_meaning.proofs.meaning.MeaningProofs.{at_most_one_outcome}
use Rattle.sl_law_certificates.specs.Cuts.{Told}
use Rattle.sl_law_certificates.specs.Outcomes.{Certificate, each_shown, then_shown, shown_joined, split_in, shown_split_of, growth_in, shown_growth_of, shown_leaf}
use Rattle.sl_law_certificates.specs.Outcomes.{shown_expr, on_shown, shown_stages, shown_seating, covered, shown_seated, shown_end, shown}
use Rattle.sl_law_certificates.specs.Laws.{MeantIsShown, ShownIsOne}
use Rattle.sl_law_certificates.proofs.Tests.{if_true}
use Rattle.sl_law_certificates.proofs.CutLaws.{choice_found, last_cut}
use Rattle.sl_law_certificates.proofs.Splits.{split_found}
use Rattle.sl_law_certificates.proofs.GrowthAwards.{growth_found}
use Rattle.sl_law_certificates.proofs.Scopes.{each_found}
use Rattle.sl_law_certificates.proofs.Outcomes.{same_joined, length_cells, as_long, have_votes, same_covered, shown_is_meant}

-- ---- one thing after another

-- after a result that is shown, what follows is
then_at : (Next : List ℕ → ExprResult → Type 0) (o : Option ExprResult) (next : List ℕ → Option ExprResult) (p : ExprResult) → o ≡ Some p →
    (r : ExprResult) → Continues Next p r → ((c : List ℕ) (q : ExprResult) → Next c q → next c ≡ Some q) → then_shown o next ≡ Some r
then_at Next o next (Fault f) e r goes after = ap (λ (x : Option ExprResult). then_shown x next) e ∙ ap Some (sym goes)
then_at Next o next (Column c records) e r goes after =
    ap (λ (x : Option ExprResult). then_shown x next) e ∙ ap (option_map (behind records)) (after c goes.0 goes.1) ∙ ap Some (sym goes.2)

-- and if the first is shown by whatever is told, something told shows what follows
then_found : (First : ExprResult → Type 0) (Next : List ℕ → ExprResult → Type 0) (o : List Told → Option ExprResult) (next : List Told → List ℕ → Option ExprResult) →
    ((ts : List Told) (p : ExprResult) → First p → o ts ≡ Some p) → ((c : List ℕ) (q : ExprResult) → Next c q → (ts : List Told) × (next ts c ≡ Some q)) →
    (r : ExprResult) → Then First Next r → (ts : List Told) × (then_shown (o ts) (next ts) ≡ Some r)
then_found First Next o next first after r h = by_first h.first h.comes h.goes_on where
  by_first : (p : ExprResult) → First p → Continues Next p r → (ts : List Told) × (then_shown (o ts) (next ts) ≡ Some r)
  by_first (Fault f) comes goes = ([], ap (λ (x : Option ExprResult). then_shown x (next [])) (first [] (Fault f) comes) ∙ ap Some (sym goes))
  by_first (Column c records) comes goes =
      let found = after c goes.0 goes.1 in (
        found.0,
        ap (λ (x : Option ExprResult). then_shown x (next found.0)) (first found.0 (Column c records) comes)
            ∙ ap (option_map (behind records)) found.1 ∙ ap Some (sym goes.2),
      )

-- ---- splits and growths

module _ (e : Election) (at : Stand) (amounts votes : List ℕ) where
  over_found : (stage : ℕ) (o : Option Group) (x : List Told → Option ExprResult) (P : Type 0) (r : ExprResult) →
      MatchOption o P (λ g. r ≡ Fault (fault_at stage g.scope fault.Limit)) →
      (P → (ts : List Told) × (x ts ≡ Some r)) → (ts : List Told) × (option_or (option_map (λ g. Fault (fault_at stage g.scope fault.Limit)) o) (x ts) ≡ Some r)
  over_found stage None x P r h f = f h
  over_found stage (Some g) x P r h f = ([], ap Some (sym h))

  joined_found : (IsAward : Group → Award → Type 0) (award : Group → Told → Option Award) (records : Group → List ℕ → Records) (groups : List Group) →
      ((g : Group) (a : Award) → IsAward g a → (t : Told) × (award g t ≡ Some a)) → (r : ExprResult) → IsShared e at amounts IsAward records groups r →
      (ts : List Told) × (shown_joined e at amounts votes ts award records groups ≡ Some r)
  joined_found IsAward award records groups found r h =
      over_found at.stage (first_over e at amounts groups) (λ ts. option_map (joined e at amounts records groups) (each_shown (fault_of at.stage) award groups ts))
      (AreJoined e at amounts IsAward records groups r) r h (λ j.
      let all = each_found (fault_of at.stage) IsAward award found groups j.awards j.each in (
        all.0,
        ap (option_map (joined e at amounts records groups)) all.2
            ∙ ap Some (same_joined e at amounts votes records groups all.1 j.awards all.3 ∙ sym j.is),
      ))

  split_of_found : (over : Shape) (method : Method) (majority : Majority) (minima : Option (List ℕ)) (r : ExprResult) →
      IsSplit e at amounts votes over method majority minima r → (ts : List Told) × (shown_split_of e at amounts votes ts over method majority minima ≡ Some r)
  split_of_found over method majority minima r h =
      joined_found (IsSplitIn e at amounts votes method majority minima) (split_in e at amounts votes method majority minima)
      (split_records e at amounts votes method majority minima) (scopes e over at.shape)
      (λ g a k.
      split_found method majority g.entries _ (cells e g.entries votes) (minima_at e g votes minima) (amount_of e at amounts g) a
      (mentions_distinct _) (as_long e at amounts votes g minima) k) r h

  growth_of_found : (d : Divisor) (majority : Majority) (minima : List ℕ) (cap : ℕ) (r : ExprResult) → IsGrown e at amounts votes (by.Divisor d) majority minima cap r →
      (ts : List Told) × (shown_growth_of e at amounts votes ts d majority minima cap ≡ Some r)
  growth_of_found d majority minima cap r h =
      joined_found (IsGrowthIn e at amounts votes d majority minima cap) (growth_in e at amounts votes d majority minima cap)
      (growth_records e at amounts votes d minima) (scopes e shape.One at.shape)
      (λ g a k.
      growth_found d majority g.entries _ (cells e g.entries votes) (cells e g.entries minima) (amount_of e at amounts g) cap a
      (mentions_distinct _) (length_cells e at amounts votes g minima ∙ sym (length_cells e at amounts votes g votes)) k.growth k.least k.comes) r h

-- ---- expressions

-- the test of the method fails
by_hamilton : (m : Majority) → (not (is_prefer m) && false) ≡ true → ⊥
by_hamilton m holds = false≢true (and_parts (not (is_prefer m)) false holds).1

module _ (b : BookTree) (e : Election) where
  leaf_found : (stages : List NamedColumn) (x : ExprTree) (values : List ℕ) → IsLeaf b e stages x values → shown_leaf b e stages x ≡ Some values
  leaf_found stages (fact at told) values h = ap Some (sym h)
  leaf_found stages (name at n) values h = h
  leaf_found stages (sum_tree at x over) values h = absurd h
  leaf_found stages (pair at pairing x y) values h = absurd h
  leaf_found stages (split at s v method minima majority) values h = absurd h
  leaf_found stages (grow at s v method m cap majority) values h = absurd h

  module _ (c : Context) where
    leaf_result : (x : ExprTree) (r : ExprResult) → IsLeafResult b e c x r → option_map plain (shown_leaf b e c.columns x) ≡ Some r
    leaf_result x r h = ap (option_map plain) (leaf_found c.columns x h.0 h.1) ∙ ap Some (sym h.2)

    -- an expression without a split is shown by whatever is told
    any_told : (x : ExprTree) → splits_in x ≡ 0 → (ts : List Told) (r : ExprResult) → ExprMeans b e c x r → shown_expr b e c ts x ≡ Some r
    any_told (fact at told) none ts r h = leaf_result (fact at told) r h
    any_told (name at n) none ts r h = leaf_result (name at n) r h
    any_told (sum_tree at x over) none ts r h =
        then_at (λ xs q. q ≡ plain (sum_over e over xs)) (shown_expr b e c ts x) _ h.first (any_told x none ts h.first h.comes) r h.goes_on
        (λ xs q k. ap Some (sym k))
    any_told (pair at pairing x y) none ts r h =
        then_at (λ xs. Then (ExprMeans b e c y) (λ ys q. q ≡ plain (pair_of pairing xs ys))) (shown_expr b e c ts x) _
        h.first (any_told x (omega (arith, none)) ts h.first h.comes) r h.goes_on
        (λ xs q k. then_at (λ ys p. p ≡ plain (pair_of pairing xs ys)) (shown_expr b e c ts y) _
        k.first (any_told y (omega (arith, none)) ts k.first k.comes) q k.goes_on (λ ys p j. ap Some (sym j)))
    any_told (split at s v method without majority) none ts r h = absurd (omega (arith, none))
    any_told (split at s v method (atleast m) majority) none ts r h = absurd (omega (arith, none))
    any_told (grow at s v method m cap majority) none ts r h = absurd (omega (arith, none))

    -- and one with a single split by something
    some_told : (x : ExprTree) → splits_in x ≤ 1 → first_failing (expr_tests c.types x) ≡ None → (r : ExprResult) → ExprMeans b e c x r →
        (ts : List Told) × (shown_expr b e c ts x ≡ Some r)
    some_told (fact at told) few pass r h = ([], leaf_result (fact at told) r h)
    some_told (name at n) few pass r h = ([], leaf_result (name at n) r h)
    some_told (sum_tree at x over) few pass r h =
        let first = some_told x few (pass_parts (expr_tests c.types x) _ pass).0 h.first h.comes in
        (first.0, then_at (λ xs q. q ≡ plain (sum_over e over xs)) (shown_expr b e c first.0 x) _ h.first first.1 r h.goes_on (λ xs q k. ap Some (sym k)))
    some_told (pair at pairing x y) few pass r h =
        let px = pass_parts (expr_tests c.types x) _ pass in
        let py = pass_parts (expr_tests c.types y) _ px.1 in
        let Ys : List ℕ → List ℕ → ExprResult → Type 0 = λ xs ys q. q ≡ plain (pair_of pairing xs ys) in
        elim (cases_lt 0 (splits_in x)) [
          | inl some ↦
              (let first = some_told x (omega (arith, few)) px.0 h.first h.comes in
              let ts = first.0 in (
                ts,
                then_at (λ xs. Then (ExprMeans b e c y) (Ys xs)) (shown_expr b e c ts x) _ h.first first.1 r h.goes_on
                    (λ xs q k. then_at (Ys xs) (shown_expr b e c ts y) _
                    k.first (any_told y (omega (arith, few, some)) ts k.first k.comes) q k.goes_on (λ ys p j. ap Some (sym j))),
              ))
          | inr none ↦ then_found (ExprMeans b e c x) (λ xs. Then (ExprMeans b e c y) (Ys xs)) (λ ts. shown_expr b e c ts x)
              (λ ts xs. then_shown (shown_expr b e c ts y) (λ ys. Some (plain (pair_of pairing xs ys)))) (λ ts p k. any_told x (omega (arith, none)) ts p k)
              (λ xs q k.
              let first = some_told y (omega (arith, few)) py.0 k.first k.comes in
              (first.0, then_at (Ys xs) (shown_expr b e c first.0 y) _ k.first first.1 q k.goes_on (λ ys p j. ap Some (sym j)))) r h
        ]
    some_told (split at s v method without majority) few pass r h =
        let next : List Told → List ℕ → List ℕ → Option ExprResult =
        λ ts amounts votes. shown_split_of e (stand c v) amounts votes ts (shape_in c s) method majority None in
        then_found (ExprMeans b e c s) _ (λ ts. shown_expr b e c ts s) (λ ts amounts. then_shown (shown_expr b e c ts v) (next ts amounts))
        (λ ts p k. any_told s (omega (arith, few)) ts p k)
        (λ amounts. then_found (ExprMeans b e c v) _ (λ ts. shown_expr b e c ts v) (λ ts. next ts amounts) (λ ts p k. any_told v (omega (arith, few)) ts p k)
        (λ votes. split_of_found e (stand c v) amounts votes (shape_in c s) method majority None)) r h
    some_told (split at s v (by.Divisor d) (atleast m) majority) few pass r h =
        let next : List Told → List ℕ → List ℕ → List ℕ → Option ExprResult =
        λ ts amounts votes minima. shown_split_of e (stand c v) amounts votes ts (shape_in c s) (by.Divisor d) majority (Some minima) in
        then_found (ExprMeans b e c s) _ (λ ts. shown_expr b e c ts s)
        (λ ts amounts. then_shown (shown_expr b e c ts v) (λ votes. then_shown (shown_expr b e c ts m) (next ts amounts votes)))
        (λ ts p k. any_told s (omega (arith, few)) ts p k)
        (λ amounts. then_found (ExprMeans b e c v) _ (λ ts. shown_expr b e c ts v) (λ ts votes. then_shown (shown_expr b e c ts m) (next ts amounts votes))
        (λ ts p k. any_told v (omega (arith, few)) ts p k)
        (λ votes. then_found (ExprMeans b e c m) _ (λ ts. shown_expr b e c ts m) (λ ts. next ts amounts votes) (λ ts p k. any_told m (omega (arith, few)) ts p k)
        (λ minima. split_of_found e (stand c v) amounts votes (shape_in c s) (by.Divisor d) majority (Some minima)))) r h
    some_told (grow at s v (by.Divisor d) m cap majority) few pass r h =
        let next : List Told → List ℕ → List ℕ → List ℕ → Option ExprResult =
        λ ts amounts votes minima. shown_growth_of e (stand c v) amounts votes ts d majority minima cap.value in
        then_found (ExprMeans b e c s) _ (λ ts. shown_expr b e c ts s)
        (λ ts amounts. then_shown (shown_expr b e c ts v) (λ votes. then_shown (shown_expr b e c ts m) (next ts amounts votes)))
        (λ ts p k. any_told s (omega (arith, few)) ts p k)
        (λ amounts. then_found (ExprMeans b e c v) _ (λ ts. shown_expr b e c ts v) (λ ts votes. then_shown (shown_expr b e c ts m) (next ts amounts votes))
        (λ ts p k. any_told v (omega (arith, few)) ts p k)
        (λ votes. then_found (ExprMeans b e c m) _ (λ ts. shown_expr b e c ts m) (λ ts. next ts amounts votes) (λ ts p k. any_told m (omega (arith, few)) ts p k)
        (λ minima. growth_of_found e (stand c v) amounts votes d majority minima cap.value))) r h
    some_told (split at s v by.Hamilton (atleast m) majority) few pass r h =
        let ps = pass_parts (expr_tests c.types s) _ pass in
        let pv = pass_parts (expr_tests c.types v) _ ps.1 in
        let pm = pass_parts (expr_tests c.types m) _ pv.1 in
        absurd (by_hamilton majority (head_holds _ _ _ pm.1).0)
    some_told (grow at s v by.Hamilton m cap majority) few pass r h =
        let ps = pass_parts (expr_tests c.types s) _ pass in
        let pv = pass_parts (expr_tests c.types v) _ ps.1 in
        let pm = pass_parts (expr_tests c.types m) _ pv.1 in
        absurd (by_hamilton majority (head_holds _ _ _ pm.1).0)

  -- ---- stages

  on_found : (After : List ℕ → Records → StagesResult → Type 0) (o : Option ExprResult) (next : List (List Told) → List ℕ → Records → Option StagesResult) →
      (p : ExprResult) → o ≡ Some p →
      ((values : List ℕ) (records : Records) (r : StagesResult) → After values records r → (tss : List (List Told)) × (next tss values records ≡ Some r)) →
      (r : StagesResult) → GoesOn p (λ values records. After values records r) r → (tss : List (List Told)) × (on_shown b e o (next tss) ≡ Some r)
  on_found After o next (Fault f) is after r h = ([], ap (λ (x : Option ExprResult). on_shown b e x (next [])) is ∙ ap Some (sym h))
  on_found After o next (Column values records) is after r h =
      let found = after values records r h in
      (found.0, ap (λ (x : Option ExprResult). on_shown b e x (next found.0)) is ∙ found.1)

  stages_found : (k : Known) (ss : List StageTree) → first_failing (stages_tests k.types ss) ≡ None → (r : StagesResult) → StagesMean b e k ss r →
      (tss : List (List Told)) × (shown_stages b e k ss tss ≡ Some r)
  stages_found k [] pass r h = ([], ap Some (sym h))
  stages_found k (s ∷ ss) pass r h =
      let once = head_holds _ _ _ pass in
      let single = head_holds _ _ _ once.1 in
      let parts = pass_parts (expr_tests k.types s.expr) _ single.1 in
      let few : splits_in s.expr ≤ 1 = leb-true (splits_in s.expr) 1 single.0 in
      let first = some_told (context_of k s) s.expr few parts.0 h.0 h.1 in
      let rest = on_found (λ values records. StagesMean b e (with_stage k s values records) ss) (shown_expr b e (context_of k s) first.0 s.expr)
      (λ tss values records. shown_stages b e (with_stage k s values records) ss tss) h.0 first.1
      (λ values records. stages_found (with_stage k s values records) ss parts.1) r h.2 in
      (first.0 ∷ rest.0, rest.1)

  -- ---- the last clause

  seating_found : IsElection e → (base : List ℕ) (l : ℕ × ℕ) (c : Choice) → IsSeating (is_eligible b.eligible e) e base l c →
      (t : Told) × (shown_seating b e base l t ≡ Some c)
  seating_found is base l c h =
      let won = winners_of (is_eligible b.eligible e) e l.0 l.1 in
      let first : List ℕ = map (λ x. x.1.first) won in
      let valid : List ℕ = map (λ x. x.1.valid) won in
      let lot = seats_lot e (winner_items (is_eligible b.eligible e) e l.0 l.1) in
      let seats = min (list_cell e base l.0 l.1) (length won) in
      let tops = covering_ladders_law first valid (have_votes b e is l) in
      let found = choice_found (covering_ladders first valid) tops.falling seats lot c ((tops.choice seats lot c).1 h) in
      let s : List ℕ = found.0 in
      let top : IsTop (covering_ladders first valid) seats s = found.1 in
      let cut = last_cut (covering_ladders first valid) tops.falling s (subst (λ n. IsTop (covering_ladders first valid) n s) (sym top.total) top) in
      (record { seats = s; cut = cut.0 }, if_true (nat_eq (sum s) seats) _ None (Some c) (eq-eqb (sum s) seats top.total) (found.2 cut.0 cut.1))

  seated_found : IsElection e → (s : Seating) (base : List ℕ) (records : Records) (o : Outcome) → IsSeated b e s base records o →
      (ts : List Told) × (shown_seated b e ts s base records ≡ Some o)
  seated_found is seating.Keep base records o h = ([], ap Some (sym h))
  seated_found is seating.Cover base records o h =
      let tie = tie_of (is_eligible b.eligible e) e (length b.stages) in
      let all = each_found tie (IsSeating (is_eligible b.eligible e) e base) (shown_seating b e base) (seating_found is base) (lists_of e) h.choices h.each in (
        all.0,
        ap (option_map (covered b e base records)) all.2 ∙ ap Some (same_covered b e base records all.1 h.choices all.3 ∙ sym h.is),
      )

  end_found : IsElection e → (r : StagesResult) (o : Outcome) → EndsAs b e r o → (ts : List Told) × (shown_end b e ts r ≡ Some o)
  end_found is (Stopped f) o h = ([], ap Some (sym h))
  end_found is (Through k) o h =
      let seated = seated_found is b.last.seating h.base k.records o h.seated in
      let leaf = leaf_found k.columns (base_of b.last) h.base h.is_base in
      (seated.0, ap (option_and_then (λ base. shown_seated b e seated.0 b.last.seating base k.records)) leaf ∙ seated.1)

  outcome_found : is_typed b ≡ true → IsElection e → (o : Outcome) → IsOutcome b e o → (c : Certificate) × (shown b e c ≡ Some o)
  outcome_found typed is o h =
      let stages = stages_found nothing_known b.stages (typed_parts b e (no_fault (tests_of b) typed)).0 h.run h.stages in
      let lists = end_found is h.run o h.ends in
      (record { stages = stages.0; lists = lists.0 }, ap (option_and_then (shown_end b e lists.0)) stages.1 ∙ lists.1)

pub meant_is_shown : MeantIsShown
meant_is_shown b e o typed is means =
    let found = outcome_found b e typed is means.ordered means.is in
    (found.0, means.ordered, found.1, means.same)

pub shown_is_one : ShownIsOne
shown_is_one b e c k o p typed is h j = at_most_one_outcome b e typed is o p (shown_is_meant b e c o is h) (shown_is_meant b e k p is j)
