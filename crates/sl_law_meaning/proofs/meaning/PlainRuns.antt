-- Plain expressions and stages yield the columns that they are.
use Rattle.std.proofs.Common.{◌≡◌, ℕ, true, List, [], ◌∷◌, ◌++◌, nat_eq, arith, refl, sym, ap, subst, ◌∙◌}
use Rattle.std.specs.List.{list_all}
use Rattle.std.proofs.lemmas.Bool.{and_parts, eqb-true}
use Rattle.sl_law_meaning.specs.book.Trees.{ExprTree, fact, name, sum, pair, split, without, atleast, grow, StageTree, BookTree}
use Rattle.sl_law_meaning.specs.returns.Election.{Election}
use Rattle.sl_law_meaning.specs.book.Typing.{Column as TypedColumn, splits_in, stage_column}
use Rattle.sl_law_meaning.specs.meaning.Columns.{NamedColumn, sum_over, pair_of}
use Rattle.sl_law_meaning.specs.meaning.PlainBooks.{IsColumn, AreColumns}
use Rattle.sl_law_meaning.specs.meaning.Records.{no_records}
use Rattle.sl_law_meaning.specs.meaning.Results.{ExprResult, Column, Fault, plain, behind, Continues, Then}
use Rattle.sl_law_meaning.specs.meaning.Expressions.{Context, ExprMeans}
use Rattle.sl_law_meaning.specs.meaning.Means.{Known, StagesResult, Through, context_of, with_stage, GoesOn, StagesMean}

behind_nothing : (q : ExprResult) → behind no_records q ≡ q
behind_nothing (Column c records) = refl
behind_nothing (Fault f) = refl

-- after a plain column
after : (First : ExprResult → Type 0) (Next : List ℕ → ExprResult → Type 0) (r : ExprResult) (h : Then First Next r) (xs : List ℕ) → h.first ≡ plain xs → Next xs r
after First Next r h xs same =
    let on = subst (λ p. Continues Next p r) same h.goes_on in
    subst (Next xs) (sym (on.2 ∙ behind_nothing on.0)) on.1

-- and back
pub then_plain : (First : ExprResult → Type 0) (Next : List ℕ → ExprResult → Type 0) (r : ExprResult) (xs : List ℕ) → First (plain xs) → Next xs r → Then First Next r
then_plain First Next r xs first next = record { first = plain xs; comes = first; goes_on = (r, next, sym (behind_nothing r)) }

module _ (b : BookTree) (e : Election) (c : Context) where
  -- a plain column that the expression is
  abbrev Is : ExprTree → ExprResult → Type 0
  Is x r = (values : List ℕ) × IsColumn b e c.columns x values × (r ≡ plain values)

  pub from_means : (x : ExprTree) → splits_in x ≡ 0 → (r : ExprResult) → ExprMeans b e c x r → Is x r
  from_means (fact at told) none r h = h
  from_means (name at n) none r h = h
  from_means (sum at x over) none r h =
      let f = from_means x none h.first h.comes in
      (sum_over e over f.0, (f.0, f.1, refl), after (ExprMeans b e c x) (λ xs r. r ≡ plain (sum_over e over xs)) r h f.0 f.2)
  from_means (pair at pairing x y) none r h =
      let f = from_means x (omega arith) h.first h.comes in
      let second = after (ExprMeans b e c x) (λ xs. Then (ExprMeans b e c y) (λ ys r. r ≡ plain (pair_of pairing xs ys))) r h f.0 f.2 in
      let g = from_means y (omega arith) second.first second.comes in
      (pair_of pairing f.0 g.0, (f.0, g.0, f.1, g.1, refl {a = pair_of pairing f.0 g.0}), after (ExprMeans b e c y) (λ ys r. r ≡ plain (pair_of pairing f.0 ys)) r second g.0 g.2)
  from_means (split at s v method without m) none r h = absurd (omega (arith, none))
  from_means (split at s v method (atleast f) m) none r h = absurd (omega (arith, none))
  from_means (grow at s v method f limit m) none r h = absurd (omega (arith, none))

  pub to_means : (x : ExprTree) → splits_in x ≡ 0 → (values : List ℕ) → IsColumn b e c.columns x values → ExprMeans b e c x (plain values)
  to_means (fact at told) none values is = (values, is, refl)
  to_means (name at n) none values is = (values, is, refl)
  to_means (sum at x over) none values is =
      then_plain (ExprMeans b e c x) (λ xs r. r ≡ plain (sum_over e over xs)) (plain values) is.0 (to_means x none is.0 is.1) (ap plain is.2)
  to_means (pair at pairing x y) none values is =
      then_plain (ExprMeans b e c x) (λ xs. Then (ExprMeans b e c y) (λ ys r. r ≡ plain (pair_of pairing xs ys))) (plain values) is.0 (to_means x (omega arith) is.0 is.2)
      (then_plain (ExprMeans b e c y) (λ ys r. r ≡ plain (pair_of pairing is.0 ys)) (plain values) is.1 (to_means y (omega arith) is.1 is.3) (ap plain is.4))
  to_means (split at s v method minima m) none values is = absurd is
  to_means (grow at s v method f limit m) none values is = absurd is

-- ---- stages

-- columns, and no records
abbrev pub bare : List TypedColumn → List NamedColumn → Known
bare types columns = record { types = types; columns = columns; records = no_records }

abbrev pub AllPlain : List StageTree → Type 0
AllPlain ss = list_all (λ s. nat_eq (splits_in s.expr) 0) ss ≡ true

module _ (b : BookTree) (e : Election) where
  pub from_run : (types : List TypedColumn) (columns : List NamedColumn) (ss : List StageTree) → AllPlain ss → (r : StagesResult) → StagesMean b e (bare types columns) ss r →
      (after : List TypedColumn) × (all : List NamedColumn) × (r ≡ Through (bare after all)) × AreColumns b e columns ss all
  from_run types columns [] plain r h = (types, columns, h, refl)
  from_run types columns (s ∷ ss) each r h =
      let parts = and_parts (nat_eq (splits_in s.expr) 0) (list_all (λ s. nat_eq (splits_in s.expr) 0) ss) each in
      let f = from_means b e (context_of (bare types columns) s) s.expr (eqb-true (splits_in s.expr) 0 parts.0) h.0 h.1 in
      let on = subst (λ p. GoesOn p (λ values records. StagesMean b e (with_stage (bare types columns) s values records) ss r) r) f.2 h.2 in
      let rest = from_run (types ++ stage_column types s ∷ []) (columns ++ record { name = s.name; values = f.0 } ∷ []) ss parts.1 r on in
      (rest.0, rest.1, rest.2, (f.0, f.1, rest.3))

  pub to_run : (types : List TypedColumn) (columns : List NamedColumn) (ss : List StageTree) → AllPlain ss → (all : List NamedColumn) → AreColumns b e columns ss all →
      (after : List TypedColumn) × StagesMean b e (bare types columns) ss (Through (bare after all))
  to_run types columns [] each all are = (types, ap (λ cs. Through (bare types cs)) are)
  to_run types columns (s ∷ ss) each all are =
      let parts = and_parts (nat_eq (splits_in s.expr) 0) (list_all (λ s. nat_eq (splits_in s.expr) 0) ss) each in
      let first = to_means b e (context_of (bare types columns) s) s.expr (eqb-true (splits_in s.expr) 0 parts.0) are.0 are.1 in
      let rest = to_run (types ++ stage_column types s ∷ []) (columns ++ record { name = s.name; values = are.0 } ∷ []) ss parts.1 all are.2 in
      (rest.0, (plain are.0, first, rest.1))
