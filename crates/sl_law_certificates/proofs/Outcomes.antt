-- What a certificate shows is what the book means.
use Rattle.std.proofs.Common.{◌≡◌, ℕ, ◌<◌, ◌≤◌, List, [], ◌∷◌, Some, None, length, map, min, sum, nat_eq, arith, refl, sym, ◌∙◌, subst}
use Rattle.std.specs.Prelude.{Option, MatchOption, option_map, flat_map, slice_index}
use Rattle.std.specs.Option.{option_or}
use Rattle.std.specs.List.{All, zip, enumerate_from}
use Rattle.std.proofs.lemmas.Bool.{eqb-true}
use Rattle.std.proofs.lemmas.List.{length-map}
use Rattle.std.proofs.lemmas.List.Elements.{All-filter, All-get_or, All-map}
use Rattle.std.proofs.lemmas.List.FromFn.{length-enumerate_from, get_or-enumerate_from}
use Rattle.std.proofs.lemmas.Option.{same_Some, none-some, option_and_then_some}
use Rattle.sl_base_quotients.specs.declared.method.Divisor.{Divisor}
use Rattle.sl_base_quotients.specs.declared.method.Method.{Method}
use Rattle.sl_base_quotients.specs.declared.method.Method.TheVariants as by
use Rattle.sl_base_terms.specs.declared.shape.Shape.{Shape}
use Rattle.sl_base_terms.specs.declared.shape.Shape.TheVariants as shape
use Rattle.sl_law_meaning.specs.declared.book.Majority.{Majority}
use Rattle.sl_law_meaning.specs.declared.book.Seating.{Seating}
use Rattle.sl_law_meaning.specs.declared.book.Seating.TheVariants as seating
use Rattle.sl_law_meaning.specs.declared.count.Records.TheVariants.{Dropped}
use Rattle.sl_law_meaning.specs.declared.election.Win.{Win}
use Rattle.sl_law_meaning.specs.declared.fault.FaultKind.TheVariants as fault
use Rattle.sl_law_meaning.specs.declared.table.Outcome.{Outcome}
use Rattle.sl_law_meaning.specs.declared.table.Outcome.TheVariants as outcome
use Rattle.sl_law_meaning.specs.book.Trees.{ExprTree, fact, name, sum as sum_tree, pair, split, without, atleast, grow, StageTree, BookTree}
use Rattle.sl_law_meaning.specs.returns.Election.{Election, IsElection, IsWin}
use Rattle.sl_law_meaning.specs.returns.Facts.{lists_of, list_cell, is_eligible}
use Rattle.sl_law_meaning.specs.methods.Ties.{Choice, IsChoice}
use Rattle.sl_law_meaning.specs.meaning.Columns.{NamedColumn, IsLeaf, sum_over, pair_of}
use Rattle.sl_law_meaning.specs.meaning.Scopes.{Group, cells, place, scopes, pair_column}
use Rattle.sl_law_meaning.specs.meaning.Lots.{seats_lot}
use Rattle.sl_law_meaning.specs.meaning.Records.{Records}
use Rattle.sl_law_meaning.specs.meaning.Splits.{Award, awarded}
use Rattle.sl_law_meaning.specs.meaning.Results.{ExprResult, Column, Fault, plain, behind, Then, Stand, amount_of, first_over, fault_at, fault_of, joined, IsShared}
use Rattle.sl_law_meaning.specs.meaning.Expressions.{minima_at, IsSplitIn, split_records, IsGrowthIn, growth_records, IsSplit, IsGrown, Context, stand, shape_in, IsLeafResult, ExprMeans}
use Rattle.sl_law_meaning.specs.meaning.Seating.{base_of, winners_of, winner_items, IsSeating, tie_of, cover_table}
use Rattle.sl_law_meaning.specs.meaning.Means.{Known, nothing_known, context_of, with_stage, StagesResult, Through, Stopped, GoesOn, StagesMean, IsSeated, EndsAs, IsOutcome, Means}
use Rattle.sl_law_meaning.specs.meaning.Counts.{IsMeantTable, kept_table}
use Rattle.sl_law_meaning.specs.meaning.Tables.{SeatTable}
use Rattle.sl_law_meaning.specs.laws.Ladders.{IsTop, covering_ladders}
use Rattle.sl_law_meaning.specs.laws.MethodLaws.{AllHaveVotes}
use Rattle.sl_law_meaning.specs.laws.OneLaws.{ExactlyOne, FitsMethod}
use Rattle.sl_law_meaning.proofs.methods.SeatSums.{length_zeros}
use Rattle.sl_law_meaning.proofs.methods.CoveringProofs.{covering_ladders_law}
use Rattle.sl_law_meaning.proofs.meaning.OneAward.{mentions_distinct}
use Rattle.sl_law_meaning.proofs.meaning.OneOutcome.{one_seating}
use Rattle.sl_law_meaning.proofs.meaning.OneResult.{one_split_award, one_growth_award}
use Rattle.sl_law_meaning.proofs.meaning.MeaningProofs.{same_itself}
use Rattle.sl_law_certificates.specs.Cuts.{Told, shown_choice}
use Rattle.sl_law_certificates.specs.Outcomes.{Certificate, each_shown, then_shown, shown_joined, split_in, shown_split_of, growth_in, shown_growth_of, shown_leaf}
use Rattle.sl_law_certificates.specs.Outcomes.{shown_expr, on_shown, shown_stages, shown_seating, covered, shown_seated, shown_end, shown, table_in}
use Rattle.sl_law_certificates.specs.Laws.{ShownIsMeant, AcceptedIsMeant}
use Rattle.sl_law_certificates.proofs.Tests.{if_some, map_some}
use Rattle.sl_law_certificates.proofs.CutLaws.{choice_meant}
use Rattle.sl_law_certificates.proofs.Splits.{split_meant}
use Rattle.sl_law_certificates.proofs.GrowthAwards.{growth_meant}
use Rattle.sl_law_certificates.proofs.Scopes.{EndAlike, same_end, each_meant}

-- ---- one thing after another

then_meant : (First : ExprResult → Type 0) (Next : List ℕ → ExprResult → Type 0) (o : Option ExprResult) (next : List ℕ → Option ExprResult) →
    ((r : ExprResult) → o ≡ Some r → First r) → ((c : List ℕ) (q : ExprResult) → next c ≡ Some q → Next c q) →
    (r : ExprResult) → then_shown o next ≡ Some r → Then First Next r
then_meant First Next None next first after r h = absurd (none-some r h)
then_meant First Next (Some (Fault f)) next first after r h =
    record { first = Fault f; comes = first (Fault f) refl; goes_on = sym (same_Some (Fault f) r h) }
then_meant First Next (Some (Column c records)) next first after r h =
    let found = map_some (behind records) (next c) r h in
    record { first = Column c records; comes = first (Column c records) refl; goes_on = (found.0, after c found.0 found.1, sym found.2) }

-- ---- splits and growths

module _ (e : Election) (at : Stand) (amounts votes : List ℕ) where
  over_meant : (stage : ℕ) (o : Option Group) (x : Option ExprResult) (P : Type 0) (r : ExprResult) → option_or (option_map (λ g. Fault (fault_at stage g.scope fault.Limit)) o) x ≡ Some r → (x ≡ Some r → P) →
      MatchOption o P (λ g. r ≡ Fault (fault_at stage g.scope fault.Limit))
  over_meant stage None x P r h f = f h
  over_meant stage (Some g) x P r h f = sym (same_Some (Fault (fault_at stage g.scope fault.Limit)) r h)

  -- scopes that end alike make the same
  pub same_joined : (records : Group → List ℕ → Records) (groups : List Group) (ys zs : List Award) → EndAlike (fault_of at.stage) groups ys zs →
      joined e at amounts records groups ys ≡ joined e at amounts records groups zs
  same_joined records groups ys zs alike =
      same_end (fault_of at.stage) (λ f. Fault f) (λ awards.
      let given = zip groups awards in
      Column (pair_column e at.shape (flat_map (λ x. zip x.0.entries (awarded x.1)) given))
      (record {
        steps = flat_map (λ x. (records x.0 (awarded x.1)).steps) given;
        weights = flat_map (λ x. (records x.0 (awarded x.1)).weights) given;
      }))
      groups ys zs alike

  joined_meant : (IsAward : Group → Award → Type 0) (award : Group → Told → Option Award) (records : Group → List ℕ → Records) (groups : List Group) (ts : List Told) →
      ((g : Group) (t : Told) (a : Award) → award g t ≡ Some a → IsAward g a) → ((g : Group) → ExactlyOne (IsAward g)) →
      (r : ExprResult) → shown_joined e at amounts votes ts award records groups ≡ Some r → IsShared e at amounts IsAward records groups r
  joined_meant IsAward award records groups ts meant some r h =
      over_meant at.stage (first_over e at amounts groups) (option_map (joined e at amounts records groups) (each_shown (fault_of at.stage) award groups ts)) _ r h
      (λ k.
      let found = map_some (joined e at amounts records groups) (each_shown (fault_of at.stage) award groups ts) r k in
      let all = each_meant (fault_of at.stage) IsAward award meant (λ g. ((some g).one, (some g).is)) groups ts found.0 found.1 in
      record { awards = all.0; each = all.1; is = sym found.2 ∙ same_joined records groups found.0 all.0 all.2 })

  pub length_cells : (g : Group) (column : List ℕ) → length (cells e g.entries column) ≡ length g.entries
  length_cells g column = length-map g.entries (λ i. slice_index column (place e i))

  pub as_long : (g : Group) (minima : Option (List ℕ)) → length (minima_at e g votes minima) ≡ length (cells e g.entries votes)
  as_long g None = length_zeros (length (cells e g.entries votes))
  as_long g (Some m) = length_cells g m ∙ sym (length_cells g votes)

  split_of_meant : (ts : List Told) (over : Shape) (method : Method) (majority : Majority) (minima : Option (List ℕ)) → FitsMethod method minima → (r : ExprResult) →
      shown_split_of e at amounts votes ts over method majority minima ≡ Some r → IsSplit e at amounts votes over method majority minima r
  split_of_meant ts over method majority minima fits r h =
      joined_meant (IsSplitIn e at amounts votes method majority minima) (split_in e at amounts votes method majority minima)
      (split_records e at amounts votes method majority minima) (scopes e over at.shape) ts
      (λ g t a k.
      split_meant method majority g.entries _ (cells e g.entries votes) (minima_at e g votes minima) (amount_of e at amounts g) a
      (mentions_distinct _) (as_long g minima) t k)
      (one_split_award e at amounts votes method majority minima fits) r h

  growth_of_meant : (ts : List Told) (d : Divisor) (majority : Majority) (minima : List ℕ) (cap : ℕ) (r : ExprResult) →
      shown_growth_of e at amounts votes ts d majority minima cap ≡ Some r → IsGrown e at amounts votes (by.Divisor d) majority minima cap r
  growth_of_meant ts d majority minima cap r h =
      joined_meant (IsGrowthIn e at amounts votes d majority minima cap) (growth_in e at amounts votes d majority minima cap)
      (growth_records e at amounts votes d minima) (scopes e shape.One at.shape) ts
      (λ g t a k.
      growth_meant d majority g.entries _ (cells e g.entries votes) (cells e g.entries minima) (amount_of e at amounts g) cap a
      (mentions_distinct _) (length_cells g minima ∙ sym (length_cells g votes)) t k)
      (one_growth_award e at amounts votes d majority minima cap) r h

-- ---- expressions and stages

module _ (b : BookTree) (e : Election) where
  leaf_meant : (stages : List NamedColumn) (x : ExprTree) (values : List ℕ) → shown_leaf b e stages x ≡ Some values → IsLeaf b e stages x values
  leaf_meant stages (fact at told) values h = sym (same_Some _ values h)
  leaf_meant stages (name at n) values h = h
  leaf_meant stages (sum_tree at x over) values h = absurd (none-some values h)
  leaf_meant stages (pair at pairing x y) values h = absurd (none-some values h)
  leaf_meant stages (split at s v method minima majority) values h = absurd (none-some values h)
  leaf_meant stages (grow at s v method m cap majority) values h = absurd (none-some values h)

  module _ (c : Context) (ts : List Told) where
    leaf_result : (x : ExprTree) (r : ExprResult) → option_map plain (shown_leaf b e c.columns x) ≡ Some r → IsLeafResult b e c x r
    leaf_result x r h = let found = map_some plain (shown_leaf b e c.columns x) r h in (found.0, leaf_meant c.columns x found.0 found.1, sym found.2)

    expr_meant : (x : ExprTree) (r : ExprResult) → shown_expr b e c ts x ≡ Some r → ExprMeans b e c x r
    expr_meant (fact at told) r h = leaf_result (fact at told) r h
    expr_meant (name at n) r h = leaf_result (name at n) r h
    expr_meant (sum_tree at x over) r h =
        then_meant (ExprMeans b e c x) _ (shown_expr b e c ts x) _ (expr_meant x) (λ xs q k. sym (same_Some (plain (sum_over e over xs)) q k)) r h
    expr_meant (pair at pairing x y) r h =
        then_meant (ExprMeans b e c x) _ (shown_expr b e c ts x) _ (expr_meant x)
        (λ xs. then_meant (ExprMeans b e c y) _ (shown_expr b e c ts y) _ (expr_meant y) (λ ys q k. sym (same_Some (plain (pair_of pairing xs ys)) q k))) r h
    expr_meant (split at s v method without majority) r h =
        then_meant (ExprMeans b e c s) _ (shown_expr b e c ts s) _ (expr_meant s)
        (λ amounts. then_meant (ExprMeans b e c v) _ (shown_expr b e c ts v) _ (expr_meant v)
        (λ votes. split_of_meant e (stand c v) amounts votes ts (shape_in c s) method majority None tt)) r h
    expr_meant (split at s v (by.Divisor d) (atleast m) majority) r h =
        then_meant (ExprMeans b e c s) _ (shown_expr b e c ts s) _ (expr_meant s)
        (λ amounts. then_meant (ExprMeans b e c v) _ (shown_expr b e c ts v) _ (expr_meant v)
        (λ votes. then_meant (ExprMeans b e c m) _ (shown_expr b e c ts m) _ (expr_meant m)
        (λ minima. split_of_meant e (stand c v) amounts votes ts (shape_in c s) (by.Divisor d) majority (Some minima) tt))) r h
    expr_meant (split at s v by.Hamilton (atleast m) majority) r h = absurd (none-some r h)
    expr_meant (grow at s v (by.Divisor d) m cap majority) r h =
        then_meant (ExprMeans b e c s) _ (shown_expr b e c ts s) _ (expr_meant s)
        (λ amounts. then_meant (ExprMeans b e c v) _ (shown_expr b e c ts v) _ (expr_meant v)
        (λ votes. then_meant (ExprMeans b e c m) _ (shown_expr b e c ts m) _ (expr_meant m)
        (λ minima. growth_of_meant e (stand c v) amounts votes ts d majority minima cap.value))) r h
    expr_meant (grow at s v by.Hamilton m cap majority) r h = absurd (none-some r h)

  on_meant : (Means : ExprResult → Type 0) (After : List ℕ → Records → StagesResult → Type 0) (o : Option ExprResult) (next : List ℕ → Records → Option StagesResult) →
      ((p : ExprResult) → o ≡ Some p → Means p) →
      ((values : List ℕ) (records : Records) (r : StagesResult) → next values records ≡ Some r → After values records r) →
      (r : StagesResult) → on_shown b e o next ≡ Some r → (p : ExprResult) × Means p × GoesOn p (λ values records. After values records r) r
  on_meant Means After None next first after r h = absurd (none-some r h)
  on_meant Means After (Some (Fault f)) next first after r h = (Fault f, first (Fault f) refl, sym (same_Some (Stopped f) r h))
  on_meant Means After (Some (Column values records)) next first after r h = (Column values records, first (Column values records) refl, after values records r h)

  stages_meant : (k : Known) (ss : List StageTree) (tss : List (List Told)) (r : StagesResult) → shown_stages b e k ss tss ≡ Some r → StagesMean b e k ss r
  stages_meant k [] tss r h = sym (same_Some (Through k) r h)
  stages_meant k (s ∷ ss) [] r h = absurd (none-some r h)
  stages_meant k (s ∷ ss) (ts ∷ tss) r h =
      on_meant (ExprMeans b e (context_of k s) s.expr) (λ values records. StagesMean b e (with_stage k s values records) ss)
      (shown_expr b e (context_of k s) ts s.expr) _ (expr_meant (context_of k s) ts s.expr)
      (λ values records. stages_meant (with_stage k s values records) ss tss) r h

  -- ---- the last clause

  votes_numbered : (n lands parties : ℕ) (wins : List Win) → All (IsWin lands parties) wins → All (λ x. 1 ≤ x.1.first) (enumerate_from n wins)
  votes_numbered n lands parties wins each k d less =
      let within : k < length wins = omega (arith, less, length-enumerate_from n wins) in
      rw (get_or-enumerate_from n wins k d within) (each k d.1 within).least

  pub have_votes : IsElection e → (l : ℕ × ℕ) → AllHaveVotes (map (λ x. x.1.first) (winners_of (is_eligible b.eligible e) e l.0 l.1))
  have_votes is l i within =
      let won = winners_of (is_eligible b.eligible e) e l.0 l.1 in
      All-get_or (λ n. 1 ≤ n) (map (λ x. x.1.first) won) i 0 within
      (All-map (λ n. 1 ≤ n) (λ x. x.1.first) won
      (All-filter _ (λ x. 1 ≤ x.1.first) (enumerate_from 0 e.wins) (votes_numbered 0 (length e.land_names) (length e.party_names) e.wins is.places)))

  seating_meant : IsElection e → (base : List ℕ) (l : ℕ × ℕ) (t : Told) (c : Choice) → shown_seating b e base l t ≡ Some c → IsSeating (is_eligible b.eligible e) e base l c
  seating_meant is base l t c h =
      let won = winners_of (is_eligible b.eligible e) e l.0 l.1 in
      let first : List ℕ = map (λ x. x.1.first) won in
      let valid : List ℕ = map (λ x. x.1.valid) won in
      let lot = seats_lot e (winner_items (is_eligible b.eligible e) e l.0 l.1) in
      let seats = min (list_cell e base l.0 l.1) (length won) in
      let parts = if_some (nat_eq (sum t.seats) seats) (shown_choice (covering_ladders first valid) t lot) c h in
      let total : sum t.seats ≡ seats = eqb-true (sum t.seats) seats parts.0 in
      let tops = covering_ladders_law first valid (have_votes is l) in
      let chosen = choice_meant (covering_ladders first valid) tops.falling lot (mentions_distinct _) t c parts.1 in
      (tops.choice seats lot c).0 (subst (λ n. IsChoice (IsTop (covering_ladders first valid) n) lot c) total chosen)

  -- lists that end alike make the same
  pub same_covered : (base : List ℕ) (records : Records) (ys zs : List Choice) → EndAlike (tie_of (is_eligible b.eligible e) e (length b.stages)) (lists_of e) ys zs →
      covered b e base records ys ≡ covered b e base records zs
  same_covered base records ys zs alike =
      same_end (tie_of (is_eligible b.eligible e) e (length b.stages)) (λ f. outcome.Fault f)
      (λ choices. outcome.Table (cover_table b e base records (zip (lists_of e) choices))) (lists_of e) ys zs alike

  seated_meant : IsElection e → (ts : List Told) (s : Seating) (base : List ℕ) (records : Records) (o : Outcome) → shown_seated b e ts s base records ≡ Some o → IsSeated b e s base records o
  seated_meant is ts seating.Keep base records o h = sym (same_Some _ o h)
  seated_meant is ts seating.Cover base records o h =
      let eligible = is_eligible b.eligible e in
      let tie = tie_of eligible e (length b.stages) in
      let found = map_some (covered b e base records) (each_shown tie (shown_seating b e base) (lists_of e) ts) o h in
      let one = one_seating eligible e is base in
      let all = each_meant tie (IsSeating eligible e base) (shown_seating b e base) (seating_meant is base) (λ l. ((one l).one, (one l).is)) (lists_of e) ts found.0 found.1 in
      record { choices = all.0; each = all.1; is = sym found.2 ∙ same_covered base records found.0 all.0 all.2 }

  end_meant : IsElection e → (ts : List Told) (r : StagesResult) (o : Outcome) → shown_end b e ts r ≡ Some o → EndsAs b e r o
  end_meant is ts (Stopped f) o h = sym (same_Some (outcome.Fault f) o h)
  end_meant is ts (Through k) o h =
      option_and_then_some (λ base. shown_seated b e ts b.last.seating base k.records) (shown_leaf b e k.columns (base_of b.last)) o h
      (λ base leaf seated. record {
        base = base;
        is_base = leaf_meant k.columns (base_of b.last) base leaf;
        seated = seated_meant is ts b.last.seating base k.records o seated;
      })

  outcome_meant : IsElection e → (c : Certificate) (o : Outcome) → shown b e c ≡ Some o → IsOutcome b e o
  outcome_meant is c o h =
      option_and_then_some (shown_end b e c.lists) (shown_stages b e nothing_known b.stages c.stages) o h
      (λ r run ends. record {
        run = r;
        stages = stages_meant nothing_known b.stages c.stages r run;
        ends = end_meant is c.lists r o ends;
      })

pub shown_is_meant : ShownIsMeant
shown_is_meant b e c o is h = record { ordered = o; is = outcome_meant b e is c o h; same = same_itself o }

table_meant : (b : BookTree) (e : Election) (o : Outcome) (t : SeatTable) → Means b e o → table_in o ≡ Some t → IsMeantTable Dropped b e t
table_meant b e (outcome.Fault f) t means h = absurd (none-some t h)
table_meant b e (outcome.Table u) t means h = (u, means, sym (same_Some (kept_table Dropped u) t h))

pub accepted_is_meant : AcceptedIsMeant
accepted_is_meant b e c t is h =
    option_and_then_some table_in (shown b e c) t h (λ o k table. table_meant b e o t (shown_is_meant b e c o is k) table)
