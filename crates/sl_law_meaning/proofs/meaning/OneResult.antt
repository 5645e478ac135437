-- An expression of a typed book yields exactly one result, and its stages exactly one run.
use Rattle.std.proofs.Common.{◌≡◌, ℕ, ◌&&◌, ◌||◌, true, false, not, List, [], ◌∷◌, Option, Some, None, length, refl, sym, ap, subst, ◌∙◌}
use Rattle.std.specs.Prelude.{find, slice_index, option_map}
use Rattle.std.specs.List.{AllZip, list_any}
use Rattle.std.specs.Str.{bytes_eq}
use Rattle.std.proofs.lemmas.Bool.{cond_both, false≢true, not-true, and_parts}
use Rattle.std.proofs.lemmas.List.{length-map}
use Rattle.std.proofs.lemmas.Option.{same_Some}
use Rattle.sl_base_quotients.specs.declared.method.Divisor.{Divisor}
use Rattle.sl_base_quotients.specs.declared.method.Method.{Method}
use Rattle.sl_base_quotients.specs.declared.method.Method.TheVariants as by
use Rattle.sl_law_meaning.specs.declared.book.Majority.{Majority}
use Rattle.sl_base_terms.specs.declared.shape.Shape.{Shape}
use Rattle.sl_base_terms.specs.declared.shape.Shape.TheVariants as shape
use Rattle.sl_law_meaning.specs.declared.fault.FaultKind.TheVariants as fault
use Rattle.sl_law_meaning.specs.book.Trees.{ExprTree, fact, name, sum as sum_tree, pair, split, without, atleast, grow, StageTree, BookTree}
use Rattle.sl_law_meaning.specs.returns.Election.{Election}
use Rattle.sl_base_terms.specs.Tests.{first_failing}
use Rattle.sl_law_meaning.specs.book.Typing.{Column as TypedColumn, expr_tests, stages_tests, is_named, is_hamilton, is_prefer, stage_column}
use Rattle.sl_base_terms.proofs.Tests.{head_holds, pass_parts}
use Rattle.sl_law_meaning.specs.meaning.Columns.{NamedColumn, is_column_of, sum_over, pair_of}
use Rattle.sl_law_meaning.specs.meaning.Scopes.{Group, cells, place, scopes}
use Rattle.sl_law_meaning.specs.meaning.Records.{Records}
use Rattle.sl_law_meaning.specs.meaning.Splits.{Award}
use Rattle.sl_law_meaning.specs.meaning.Results.{ExprResult, Column, Fault, plain, Stand, amount_of, first_over, fault_at, joined, AreJoined, IsShared}
use Rattle.sl_law_meaning.specs.meaning.Expressions.{minima_at, IsSplitIn, split_records, IsGrowthIn, growth_records, IsSplit, IsGrown, Context, ExprMeans, stand, shape_in}
use Rattle.sl_law_meaning.specs.meaning.Means.{Known, StagesResult, Through, Stopped, context_of, with_stage, GoesOn, StagesMean}
use Rattle.sl_law_meaning.specs.laws.OneLaws.{ExactlyOne, FitsMethod, OneSplitAward, OneGrowthAward}
use Rattle.sl_law_meaning.proofs.methods.SeatSums.{length_zeros, sum_zeros}
use Rattle.sl_law_meaning.proofs.meaning.ExactlyOne.{one_equal, one_image, one_matched, one_zip, one_then}
use Rattle.sl_law_meaning.proofs.meaning.Members.{all_and_one}
use Rattle.sl_law_meaning.proofs.meaning.OneAward.{mentions_distinct, TakesMinima, one_split, one_growth}

-- ---- scopes

module _ (e : Election) (at : Stand) (amounts : List ℕ) (IsAward : Group → Award → Type 0) (records : Group → List ℕ → Records) (groups : List Group) where
  one_joined : ((g : Group) → ExactlyOne (IsAward g)) → ExactlyOne (AreJoined e at amounts IsAward records groups)
  one_joined each =
      let all = one_zip IsAward groups each in
      record {
        one = joined e at amounts records groups all.one;
        is = record { awards = all.one; each = all.is; is = refl };
        only = λ r h. h.is ∙ ap (joined e at amounts records groups) (all.only h.awards h.each);
      }

  one_shared : ((g : Group) → ExactlyOne (IsAward g)) → ExactlyOne (IsShared e at amounts IsAward records groups)
  one_shared each =
      one_matched (first_over e at amounts groups) (AreJoined e at amounts IsAward records groups) (λ g r. r ≡ Fault (fault_at at.stage g.scope fault.Limit))
      (λ none. one_joined each) (λ g. one_equal (Fault (fault_at at.stage g.scope fault.Limit)))

module _ (e : Election) (at : Stand) (amounts votes : List ℕ) where
  length_cells : (g : Group) (column : List ℕ) → length (cells e g.entries column) ≡ length g.entries
  length_cells g column = length-map g.entries (λ i. slice_index column (place e i))

  as_long : (g : Group) (minima : Option (List ℕ)) → length (minima_at e g votes minima) ≡ length (cells e g.entries votes)
  as_long g None = length_zeros (length (cells e g.entries votes))
  as_long g (Some m) = length_cells g m ∙ sym (length_cells g votes)

  takes : (g : Group) (method : Method) (minima : Option (List ℕ)) → FitsMethod method minima → TakesMinima method (minima_at e g votes minima)
  takes g (by.Divisor d) minima fits = tt
  takes g by.Hamilton None fits = sum_zeros (length (cells e g.entries votes))
  takes g by.Hamilton (Some m) fits = absurd fits

  one_in_scope : (method : Method) (majority : Majority) (minima : Option (List ℕ)) → FitsMethod method minima → (g : Group) → ExactlyOne (IsSplitIn e at amounts votes method majority minima g)
  one_in_scope method majority minima fits g =
      one_split method majority g.entries _ (cells e g.entries votes) (minima_at e g votes minima) (amount_of e at amounts g)
      (mentions_distinct _) (as_long g minima) (takes g method minima fits)

  one_growth_in_scope : (d : Divisor) (majority : Majority) (minima : List ℕ) (cap : ℕ) (g : Group) → ExactlyOne (IsGrowthIn e at amounts votes d majority minima cap g)
  one_growth_in_scope d majority minima cap g =
      one_growth d majority g.entries _ (cells e g.entries votes) (cells e g.entries minima) (amount_of e at amounts g) cap
      (mentions_distinct _) (length_cells g minima ∙ sym (length_cells g votes))

  pub one_split_result : (over : Shape) (method : Method) (majority : Majority) (minima : Option (List ℕ)) → FitsMethod method minima → ExactlyOne (IsSplit e at amounts votes over method majority minima)
  one_split_result over method majority minima fits =
      one_shared e at amounts (IsSplitIn e at amounts votes method majority minima) (split_records e at amounts votes method majority minima) (scopes e over at.shape)
      (one_in_scope method majority minima fits)

  pub one_grown : (method : Method) (majority : Majority) (minima : List ℕ) (cap : ℕ) → is_hamilton method ≡ false → ExactlyOne (IsGrown e at amounts votes method majority minima cap)
  one_grown (by.Divisor d) majority minima cap divisor =
      one_shared e at amounts (IsGrowthIn e at amounts votes d majority minima cap) (growth_records e at amounts votes d minima) (scopes e shape.One at.shape)
      (one_growth_in_scope d majority minima cap)
  one_grown by.Hamilton majority minima cap divisor = absurd (false≢true (sym divisor))

-- ---- each scope has one award

pub one_split_award : OneSplitAward
one_split_award e at amounts votes method majority minima fits g = one_in_scope e at amounts votes method majority minima fits g

pub one_growth_award : OneGrowthAward
one_growth_award e at amounts votes d majority minima cap g = one_growth_in_scope e at amounts votes d majority minima cap g

-- ---- names

-- the columns have the names that their types have
abbrev pub SameNames : List TypedColumn → List NamedColumn → Type 0
SameNames types columns = AllZip (λ t c. t.name ≡ c.name) types columns

pub found : (n : List ℕ) (types : List TypedColumn) (columns : List NamedColumn) → SameNames types columns → list_any (is_named n) types ≡ true → (c : NamedColumn) × (find (is_column_of n) columns ≡ Some c)
found n [] [] names some = absurd (false≢true some)
found n [] (d ∷ columns) names some = absurd names
found n (u ∷ types) [] names some = absurd names
found n (u ∷ types) (d ∷ columns) names some =
    cond_both (bytes_eq n d.name) (Some d) (find (is_column_of n) columns) (λ o. (c : NamedColumn) × (o ≡ Some c)) (λ this. (d, refl))
    (λ other. found n types columns names.1 (subst (λ t. t || list_any (is_named n) types ≡ true) (ap (bytes_eq n) names.0 ∙ other) some))

-- ---- methods

no_hamilton : (m : Majority) (method : Method) → (not (is_prefer m) && not (is_hamilton method)) ≡ true → is_hamilton method ≡ false
no_hamilton m method holds = not-true (is_hamilton method) (and_parts (not (is_prefer m)) (not (is_hamilton method)) holds).1

fits_divisor : (method : Method) (minima : List ℕ) → is_hamilton method ≡ false → FitsMethod method (Some minima)
fits_divisor (by.Divisor d) minima divisor = tt
fits_divisor by.Hamilton minima divisor = absurd (false≢true (sym divisor))

-- ---- expressions

-- the column of a stage before
pub one_column : (types : List TypedColumn) (columns : List NamedColumn) → SameNames types columns → (n : List ℕ) → list_any (is_named n) types ≡ true →
    ExactlyOne (λ values. option_map (λ s. s.values) (find (is_column_of n) columns) ≡ Some values)
one_column types columns names n some =
    let it = found n types columns names some in
    let is = ap (option_map (λ (s : NamedColumn). s.values)) it.1 in
    record { one = it.0.values; is = is; only = λ values h. same_Some values it.0.values (sym h ∙ is) }

module _ (b : BookTree) (e : Election) (c : Context) (names : SameNames c.types c.columns) where
  one_leaf : (k : List ℕ) → ExactlyOne (λ r. (values : List ℕ) × (values ≡ k) × (r ≡ plain values))
  one_leaf k = one_image (λ values. values ≡ k) plain (one_equal k)

  pub one_means : (x : ExprTree) → first_failing (expr_tests c.types x) ≡ None → ExactlyOne (ExprMeans b e c x)
  one_means (fact at told) pass = one_leaf _
  one_means (name at n) pass = one_image (λ values. option_map (λ s. s.values) (find (is_column_of n) c.columns) ≡ Some values) plain (one_column c.types c.columns names n (head_holds _ _ _ pass).0)
  one_means (sum_tree at x over) pass = one_then _ _ (one_means x (pass_parts (expr_tests c.types x) _ pass).0) (λ xs. one_equal (plain (sum_over e over xs)))
  one_means (pair at pairing x y) pass =
      let px = pass_parts (expr_tests c.types x) _ pass in
      let py = pass_parts (expr_tests c.types y) _ px.1 in
      one_then _ _ (one_means x px.0) (λ xs. one_then _ _ (one_means y py.0) (λ ys. one_equal (plain (pair_of pairing xs ys))))
  one_means (split at s v method without majority) pass =
      let ps = pass_parts (expr_tests c.types s) _ pass in
      let pv = pass_parts (expr_tests c.types v) _ ps.1 in
      one_then _ _ (one_means s ps.0) (λ amounts. one_then _ _ (one_means v pv.0)
      (λ votes. one_split_result e (stand c v) amounts votes (shape_in c s) method majority None tt))
  one_means (split at s v method (atleast m) majority) pass =
      let ps = pass_parts (expr_tests c.types s) _ pass in
      let pv = pass_parts (expr_tests c.types v) _ ps.1 in
      let pm = pass_parts (expr_tests c.types m) _ pv.1 in
      let divisor = no_hamilton majority method (head_holds _ _ _ pm.1).0 in
      one_then _ _ (one_means s ps.0) (λ amounts. one_then _ _ (one_means v pv.0) (λ votes. one_then _ _ (one_means m pm.0)
      (λ minima. one_split_result e (stand c v) amounts votes (shape_in c s) method majority (Some minima) (fits_divisor method minima divisor))))
  one_means (grow at s v method m limit majority) pass =
      let ps = pass_parts (expr_tests c.types s) _ pass in
      let pv = pass_parts (expr_tests c.types v) _ ps.1 in
      let pm = pass_parts (expr_tests c.types m) _ pv.1 in
      let divisor = no_hamilton majority method (head_holds _ _ _ pm.1).0 in
      one_then _ _ (one_means s ps.0) (λ amounts. one_then _ _ (one_means v pv.0) (λ votes. one_then _ _ (one_means m pm.0)
      (λ minima. one_grown e (stand c v) amounts votes method majority minima limit.value divisor)))

-- ---- stages

goes_once : (p : ExprResult) (Next : List ℕ → Records → StagesResult → Type 0) → ((values : List ℕ) (records : Records) → ExactlyOne (Next values records)) → ExactlyOne (λ r. GoesOn p (λ values records. Next values records r) r)
goes_once (Fault f) Next next = one_equal (Stopped f)
goes_once (Column values records) Next next = next values records

module _ (b : BookTree) (e : Election) where
  pub one_run : (k : Known) (ss : List StageTree) → SameNames k.types k.columns → first_failing (stages_tests k.types ss) ≡ None → ExactlyOne (StagesMean b e k ss)
  one_run k [] names pass = one_equal (Through k)
  one_run k (s ∷ ss) names pass =
      let once = head_holds _ _ _ pass in
      let single = head_holds _ _ _ once.1 in
      let parts = pass_parts (expr_tests k.types s.expr) _ single.1 in
      let first = one_means b e (context_of k s) names s.expr parts.0 in
      let Next : List ℕ → Records → StagesResult → Type 0 = λ values records. StagesMean b e (with_stage k s values records) ss in
      let after = goes_once first.one Next
      (λ values records. one_run (with_stage k s values records) ss (all_and_one (λ t c. t.name ≡ c.name) k.types k.columns (stage_column k.types s) (record { name = s.name; values = values }) refl names) parts.1) in
      record {
        one = after.one;
        is = (first.one, first.is, after.is);
        only = λ r h. after.only r (subst (λ p. GoesOn p (λ values records. Next values records r) r) (first.only h.0 h.1) h.2);
      }
