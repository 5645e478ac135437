-- A well-formed expression is a column of its type, and so are the stages of a well-formed book.
use Rattle.std.proofs.Common.{◌≡◌, ℕ, ◌≤◌, ◌&&◌, Bool, true, false, cond, List, [], ◌∷◌, Option, Some, None, refl, sym, ap, subst, ◌∙◌, arith}
use Rattle.std.specs.Prelude.{find, option_map, nat_le}
use Rattle.std.specs.List.{AllZip}
use Rattle.std.specs.Str.{bytes_eq}
use Rattle.std.proofs.lemmas.Bool.{and_parts, not-true, leb-true}
use Rattle.std.proofs.lemmas.Option.{same_Some}
use Rattle.sl_base_quotients.specs.declared.method.Method.{Method}
use Rattle.sl_base_quotients.specs.declared.method.Method.TheVariants as by
use Rattle.sl_base_quotients.specs.declared.limits.TheConstants.{MAX_SEATS}
use Rattle.sl_law_meaning.specs.declared.book.Majority.{Majority}
use Rattle.sl_base_terms.specs.declared.shape.Shape.{Shape}
use Rattle.sl_base_terms.specs.declared.shape.Shape.TheVariants as shape
use Rattle.sl_law_meaning.specs.declared.book.Unit.TheVariants as unit
use Rattle.sl_law_meaning.specs.declared.book.ColumnType.{ColumnType}
use Rattle.sl_law_meaning.specs.book.Trees.{ExprTree, fact, name, sum, pair, split, without, atleast, grow, StageTree, BookTree}
use Rattle.sl_law_meaning.specs.returns.Election.{Election, IsElection}
use Rattle.sl_base_terms.specs.Tests.{first_failing}
use Rattle.sl_law_meaning.specs.book.Typing.{Column as TypedColumn, type_of, fact_type, type_or_one, column, tests_of, version_tests, expr_tests, stages_tests, is_named, same_unit, can_split, stage_column}
use Rattle.sl_base_terms.specs.Shapes.{same_shape}
use Rattle.sl_law_meaning.specs.meaning.Columns.{NamedColumn, is_column_of, sum_over, pair_of}
use Rattle.sl_law_meaning.specs.meaning.Scopes.{cells}
use Rattle.sl_law_meaning.specs.meaning.Lots.{stage_lot}
use Rattle.sl_law_meaning.specs.meaning.Records.{Records}
use Rattle.sl_law_meaning.specs.meaning.Results.{ExprResult, Column, Fault, plain, behind, Continues, Then, Stand, amount_of}
use Rattle.sl_law_meaning.specs.meaning.Expressions.{minima_at, IsSplitIn, split_records, IsGrowthIn, growth_records, IsSplit, IsGrown, Context, ExprMeans, stand, shape_in}
use Rattle.sl_law_meaning.specs.meaning.Means.{Known, nothing_known, Through, context_of, with_stage, StagesMean}
use Rattle.sl_law_meaning.specs.laws.ColumnLaws.{FitsType, IsTypedAs, TypedExpressions, TypedStages}
use Rattle.sl_law_meaning.proofs.Units.{same_unit_is}
use Rattle.sl_base_terms.proofs.Shapes.{same_shape_is}
use Rattle.sl_base_terms.proofs.Tests.{no_fault, head_holds, pass_parts}
use Rattle.sl_law_meaning.proofs.meaning.OneOutcome.{goes_through, typed_parts}
use Rattle.sl_law_meaning.proofs.meaning.Members.{all_and_one}
use Rattle.sl_law_meaning.proofs.meaning.TypedColumns.{fact_typed, sum_typed, pair_typed}
use Rattle.sl_law_meaning.proofs.meaning.TypedSplits.{split_sum, growth_sum, shared_typed}

-- ---- what comes before a column is a column

continued : (Next : List ℕ → ExprResult → Type 0) (p : ExprResult) (values : List ℕ) (r : Records) → Continues Next p (Column values r) → (xs : List ℕ) × (a : Records) × (p ≡ Column xs a) × (q : Records) × Next xs (Column values q)
continued Next (Fault f) values r h = cc
continued Next (Column xs a) values r h = of h.0 h.1 h.2 where
  of : (q : ExprResult) → Next xs q → Column values r ≡ behind a q → (ys : List ℕ) × (c : Records) × (Column xs a ≡ Column ys c) × (d : Records) × Next ys (Column values d)
  of (Fault f) next is = cc
  of (Column ys d) next is = let same : ys ≡ values = cc in (xs, a, refl, d, subst (λ c. Next xs (Column c d)) same next)

pub then_column : (First : ExprResult → Type 0) (Next : List ℕ → ExprResult → Type 0) (values : List ℕ) (r : Records) → Then First Next (Column values r) →
    (xs : List ℕ) × (a : Records) × First (Column xs a) × (q : Records) × Next xs (Column values q)
then_column First Next values r h = let on = continued Next h.first values r h.goes_on in (on.0, on.1, subst First on.2 h.comes, on.3, on.4)

-- ---- shapes and units

one_type : (t u : ColumnType) → same_shape t.shape u.shape ≡ true → same_unit t.unit u.unit ≡ true → u ≡ t
one_type t u shapes units = λ i. record { shape = sym (same_shape_is t.shape u.shape shapes) i; unit = sym (same_unit_is t.unit u.unit units) i }

no_one : (s v : Shape) → can_split s v ≡ true → same_shape v shape.One ≡ false
no_one shape.One v can = not-true (same_shape v shape.One) can
no_one shape.Party shape.One can = cc
no_one shape.Land shape.One can = cc
no_one shape.List shape.One can = cc
no_one _ _ can = refl

-- ---- names

named_typed : (e : Election) (n : List ℕ) (types : List TypedColumn) (columns : List NamedColumn) → AllZip (IsTypedAs e) types columns → (values : List ℕ) →
    option_map (λ s. s.values) (find (is_column_of n) columns) ≡ Some values → FitsType e (type_or_one (find (is_named n) types)) values
named_typed e n [] [] all values is = cc
named_typed e n [] (d ∷ columns) all values is = absurd all
named_typed e n (t ∷ types) [] all values is = absurd all
named_typed e n (t ∷ types) (d ∷ columns) all values is =
    subst (λ x. FitsType e (type_or_one (cond x (Some t) (find (is_named n) types))) values) (sym (ap (bytes_eq n) all.0.name))
    (by_test (bytes_eq n d.name) (named_typed e n types columns all.1 values) is) where
      by_test : (x : Bool) → (option_map (λ s. s.values) (find (is_column_of n) columns) ≡ Some values → FitsType e (type_or_one (find (is_named n) types)) values) →
          option_map (λ s. s.values) (cond x (Some d) (find (is_column_of n) columns)) ≡ Some values → FitsType e (type_or_one (cond x (Some t) (find (is_named n) types))) values
      by_test true rest is = subst (FitsType e t.type) (same_Some d.values values is) all.0.type
      by_test false rest is = rest is

-- ---- splits and growths

module _ (e : Election) (at : Stand) (amounts votes : List ℕ) (ok : same_shape at.shape shape.One ≡ false) (values : List ℕ) (r : Records) where
  split_typed : (over : Shape) (method : Method) (m : Majority) (minima : Option (List ℕ)) → IsSplit e at amounts votes over method m minima (Column values r) → FitsType e (column at.shape unit.Seats) values
  split_typed over method m minima h =
      shared_typed e at amounts over (IsSplitIn e at amounts votes method m minima) (split_records e at amounts votes method m minima)
      (λ g a few is. let sum = split_sum method m g.entries (stage_lot e at.name at.shape g.entries) (cells e g.entries votes) (minima_at e g votes minima) (amount_of e at amounts g) a is in omega (arith, few, sum)) ok values r h

  grown_typed : (method : Method) (m : Majority) (minima : List ℕ) (limit : ℕ) → limit ≤ MAX_SEATS → IsGrown e at amounts votes method m minima limit (Column values r) → FitsType e (column at.shape unit.Seats) values
  grown_typed (by.Divisor d) m minima limit within h =
      shared_typed e at amounts shape.One (IsGrowthIn e at amounts votes d m minima limit) (growth_records e at amounts votes d minima)
      (λ g a few is. let sum = growth_sum d m g.entries (stage_lot e at.name at.shape g.entries) (cells e g.entries votes) (cells e g.entries minima) (amount_of e at amounts g) limit a is in omega (arith, within, sum)) ok values r h
  grown_typed by.Hamilton m minima limit within h = absurd h

-- ---- expressions

named_values : (c values : List ℕ) (r : Records) → Column values r ≡ plain c → values ≡ c
named_values c values r is = cc

module _ (b : BookTree) (e : Election) (is : IsElection e) (few : b.house.value ≤ MAX_SEATS) (c : Context) (known : AllZip (IsTypedAs e) c.types c.columns) where
  typed_means : (x : ExprTree) → first_failing (expr_tests c.types x) ≡ None → (values : List ℕ) (r : Records) → ExprMeans b e c x (Column values r) → FitsType e (type_of c.types x) values
  typed_means (fact at told) pass values r h = subst (FitsType e (fact_type told)) (sym (named_values h.0 values r h.2 ∙ h.1)) (fact_typed b e is few told)
  typed_means (name at n) pass values r h =
      subst (FitsType e (type_of c.types (name at n))) (sym (named_values h.0 values r h.2)) (named_typed e n c.types c.columns known h.0 h.1)
  typed_means (sum at x over) pass values r h =
      let parts = pass_parts (expr_tests c.types x) _ pass in
      let on = then_column _ _ values r h in
      let can = (head_holds _ _ _ parts.1).0 in
      subst (FitsType e (type_of c.types (sum at x over))) (sym (named_values (sum_over e over on.0) values on.3 on.4))
      (sum_typed e is (type_of c.types x).unit (type_of c.types x).shape over on.0 can (typed_means x parts.0 on.0 on.1 on.2))
  typed_means (pair at pairing x y) pass values r h =
      let px = pass_parts (expr_tests c.types x) _ pass in
      let py = pass_parts (expr_tests c.types y) _ px.1 in
      let shapes = head_holds _ _ _ py.1 in
      let units = head_holds _ _ _ shapes.1 in
      let one = then_column _ _ values r h in
      let two = then_column _ _ values one.3 one.4 in
      let same = one_type (type_of c.types x) (type_of c.types y) shapes.0 units.0 in
      subst (FitsType e (type_of c.types x)) (sym (named_values (pair_of pairing one.0 two.0) values two.3 two.4))
      (pair_typed e (type_of c.types x) pairing one.0 two.0 (typed_means x px.0 one.0 one.1 one.2) (subst (λ t. FitsType e t two.0) same (typed_means y py.0 two.0 two.1 two.2)))
  typed_means (split at s v method without majority) pass values r h =
      let ps = pass_parts (expr_tests c.types s) _ pass in
      let pv = pass_parts (expr_tests c.types v) _ ps.1 in
      let shapes = head_holds _ _ _ (head_holds _ _ _ pv.1).1 in
      let one = then_column _ _ values r h in
      let two = then_column _ _ values one.3 one.4 in
      split_typed e (stand c v) one.0 two.0 (no_one (shape_in c s) (shape_in c v) shapes.0) values two.3 (shape_in c s) method majority None two.4
  typed_means (split at s v method (atleast m) majority) pass values r h =
      let ps = pass_parts (expr_tests c.types s) _ pass in
      let pv = pass_parts (expr_tests c.types v) _ ps.1 in
      let pm = pass_parts (expr_tests c.types m) _ pv.1 in
      let shapes = head_holds _ _ _ (head_holds _ _ _ pm.1).1 in
      let can = and_parts (can_split (shape_in c s) (shape_in c v)) (same_shape (shape_in c m) (shape_in c v)) shapes.0 in
      let one = then_column _ _ values r h in
      let two = then_column _ _ values one.3 one.4 in
      let three = then_column _ _ values two.3 two.4 in
      split_typed e (stand c v) one.0 two.0 (no_one (shape_in c s) (shape_in c v) can.0) values three.3 (shape_in c s) method majority (Some three.0) three.4
  typed_means (grow at s v method m limit majority) pass values r h =
      let ps = pass_parts (expr_tests c.types s) _ pass in
      let pv = pass_parts (expr_tests c.types v) _ ps.1 in
      let pm = pass_parts (expr_tests c.types m) _ pv.1 in
      let caps = head_holds _ _ _ (head_holds _ _ _ pm.1).1 in
      let shapes = head_holds _ _ _ caps.1 in
      let both = and_parts (same_shape (shape_in c s) shape.One && can_split (shape_in c s) (shape_in c v)) (same_shape (shape_in c m) (shape_in c v)) shapes.0 in
      let can = and_parts (same_shape (shape_in c s) shape.One) (can_split (shape_in c s) (shape_in c v)) both.0 in
      let within = leb-true limit.value MAX_SEATS (and_parts (nat_le 1 limit.value) (nat_le limit.value MAX_SEATS) caps.0).1 in
      let one = then_column _ _ values r h in
      let two = then_column _ _ values one.3 one.4 in
      let three = then_column _ _ values two.3 two.4 in
      grown_typed e (stand c v) one.0 two.0 (no_one (shape_in c s) (shape_in c v) can.1) values three.3 method majority three.0 limit.value within three.4

-- ---- stages

house_within : (b : BookTree) → first_failing (tests_of b) ≡ None → b.house.value ≤ MAX_SEATS
house_within b h =
    let house = (pass_parts (version_tests b.version b.last.vacate) _ h).1 in
    leb-true b.house.value MAX_SEATS (and_parts (nat_le 1 b.house.value) (nat_le b.house.value MAX_SEATS) (head_holds _ _ _ house).0).1

module _ (b : BookTree) (e : Election) (is : IsElection e) (few : b.house.value ≤ MAX_SEATS) where
  run_typed : (k : Known) (ss : List StageTree) (end : Known) → first_failing (stages_tests k.types ss) ≡ None → AllZip (IsTypedAs e) k.types k.columns → StagesMean b e k ss (Through end) → AllZip (IsTypedAs e) end.types end.columns
  run_typed k [] end pass known run = let same : end ≡ k = cc in subst (λ j. AllZip (IsTypedAs e) j.types j.columns) (sym same) known
  run_typed k (s ∷ ss) end pass known run =
      let once = head_holds _ _ _ pass in
      let single = head_holds _ _ _ once.1 in
      let parts = pass_parts (expr_tests k.types s.expr) _ single.1 in
      let on = goes_through run.0 (λ values records. StagesMean b e (with_stage k s values records) ss (Through end)) end run.2 in
      let type = typed_means b e is few (context_of k s) known s.expr parts.0 on.0 on.1 (subst (ExprMeans b e (context_of k s) s.expr) on.2 run.1) in
      run_typed (with_stage k s on.0 on.1) ss end parts.1
      (all_and_one (IsTypedAs e) k.types k.columns (stage_column k.types s) (record { name = s.name; values = on.0 }) (record { name = refl; type = type }) known) on.3

pub typed_expressions : TypedExpressions
typed_expressions b e c x values records typed is known pass means = typed_means b e is (house_within b (no_fault (tests_of b) typed)) c known x pass values records means

pub typed_stages : TypedStages
typed_stages b e k typed is run =
    let tests = no_fault (tests_of b) typed in
    run_typed b e is (house_within b tests) nothing_known b.stages k (typed_parts b e tests).0 tt run
