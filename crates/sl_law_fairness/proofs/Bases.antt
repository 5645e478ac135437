-- The base of a book on returns: there is one, and it is a column of lists; and the table that the book means is that of its end.
use Rattle.std.proofs.Common.{◌≡◌, ℕ, true, List, [], ◌∷◌, None, length, refl, sym, ap, subst, ◌∙◌}
use Rattle.std.specs.Prelude.{sum_by, sum as sum_of}
use Rattle.std.proofs.lemmas.Bool.{and_parts, cond-true}
use Rattle.std.proofs.lemmas.Option.{same_Some}
use Rattle.sl_law_meaning.specs.declared.book.Base.{Base}
use Rattle.sl_law_meaning.specs.declared.book.Base.TheVariants as base
use Rattle.sl_law_meaning.specs.declared.book.LastClause.{LastClause}
use Rattle.sl_base_terms.specs.declared.shape.Shape.TheVariants as shape
use Rattle.sl_law_meaning.specs.declared.book.Unit.TheVariants as unit
use Rattle.sl_law_meaning.specs.declared.table.Outcome.{Outcome}
use Rattle.sl_law_meaning.specs.declared.table.Outcome.TheVariants as outcome
use Rattle.sl_law_meaning.specs.book.Trees.{name, StageTree, BookTree}
use Rattle.sl_base_terms.specs.Tests.{first_failing}
use Rattle.sl_law_meaning.specs.book.Typing.{Column as TypedColumn, type_of, expr_tests, base_tests, columns_of, tests_of, is_typed, same_unit}
use Rattle.sl_base_terms.specs.Shapes.{same_shape}
use Rattle.sl_law_meaning.specs.returns.Election.{Election, IsElection}
use Rattle.sl_law_meaning.specs.returns.Facts.{lists_of}
use Rattle.sl_law_meaning.specs.meaning.Columns.{NamedColumn, IsLeaf}
use Rattle.sl_law_meaning.specs.meaning.Records.{Records, no_records}
use Rattle.sl_law_meaning.specs.meaning.Results.{ExprResult, Column, Fault}
use Rattle.sl_law_meaning.specs.meaning.Expressions.{Context, ExprMeans}
use Rattle.sl_law_meaning.specs.meaning.Seating.{base_of}
use Rattle.sl_law_meaning.specs.meaning.Tables.{SeatTable}
use Rattle.sl_law_meaning.specs.meaning.Means.{Known, Through, Stopped, StagesResult, nothing_known, with_stage, GoesOn, StagesMean, IsSeated, EndsAs, SameOutcome, Means}
use Rattle.sl_law_meaning.specs.laws.ColumnLaws.{size_of, FitsType}
use Rattle.sl_base_terms.proofs.Shapes.{same_shape_is}
use Rattle.sl_base_terms.proofs.Tests.{no_fault, head_holds}
use Rattle.sl_law_meaning.proofs.meaning.ExactlyOne.{same_ones}
use Rattle.sl_law_meaning.proofs.meaning.OneOutcome.{typed_parts, one_stages_result}
use Rattle.sl_law_meaning.proofs.meaning.TypedMeaning.{typed_expressions, typed_stages}
use Rattle.sl_law_fairness.specs.Winners.{IsBase, base_seats}
use Rattle.sl_law_fairness.proofs.ListColumns.{sum_of_lists}

-- ---- the table of the end

-- the end of a book, whose table has the lists and the places of t
pub record HasEnd (b : BookTree) (e : Election) (t : SeatTable) : Type 0 where
  pub base : List ℕ
  pub is_base : IsBase b e base
  pub records : Records
  pub table : SeatTable
  pub seated : IsSeated b e b.last.seating base records (outcome.Table table)
  pub lists : t.lists ≡ table.lists
  pub placed : t.placed ≡ table.placed

pub end_of : (b : BookTree) (e : Election) (t : SeatTable) → Means b e (outcome.Table t) → HasEnd b e t
end_of b e t means = of means.ordered means.same means.is.run means.is.stages means.is.ends where
  of : (o : Outcome) → SameOutcome (outcome.Table t) o → (r : StagesResult) → StagesMean b e nothing_known b.stages r → EndsAs b e r o → HasEnd b e t
  of (outcome.Fault f) same r run ends = absurd same
  of (outcome.Table u) same (Stopped f) run ends = cc
  of (outcome.Table u) same (Through k) run ends = record {
    base = ends.base;
    is_base = record { known = k; through = run; is = ends.is_base };
    records = k.records;
    table = u;
    seated = ends.seated;
    lists = same.lists;
    placed = same.placed;
  }

pub same_table : (t u : SeatTable) → outcome.Table t ≡ outcome.Table u → t ≡ u
same_table t u same = cc

-- ---- one base

same_known : (k j : Known) → Through k ≡ Through j → k ≡ j
same_known k j same = cc

one_leaf : (b : BookTree) (e : Election) (columns : List NamedColumn) (last : LastClause) (x : Base) (c d : List ℕ) →
    IsLeaf b e columns (base_of (record last { base = x })) c → IsLeaf b e columns (base_of (record last { base = x })) d → c ≡ d
one_leaf b e columns last base.Winners c d h k = h ∙ sym k
one_leaf b e columns last (base.Stage n) c d h k = same_Some c d (sym h ∙ k)

pub one_base : (b : BookTree) (e : Election) → is_typed b ≡ true → (c d : List ℕ) → IsBase b e c → IsBase b e d → c ≡ d
one_base b e typed c d h k =
    let same = same_known h.known k.known (same_ones (StagesMean b e nothing_known b.stages) (one_stages_result b e typed) (Through h.known) (Through k.known) h.through k.through) in
    one_leaf b e k.known.columns b.last b.last.base c d (subst (λ n. IsLeaf b e n.columns (base_of b.last) c) same h.is) k.is

-- ---- the base is a column of lists

module _ (b : BookTree) (e : Election) where
  -- as in the proof that a book has one outcome (private there)
  goes : (k : Known) (s : StageTree) (ss : List StageTree) (end : Known) (p : ExprResult) →
      ((values : List ℕ) (records : Records) → StagesMean b e (with_stage k s values records) ss (Through end) → end.types ≡ columns_of k.types (s ∷ ss)) →
      GoesOn p (λ values records. StagesMean b e (with_stage k s values records) ss (Through end)) (Through end) → end.types ≡ columns_of k.types (s ∷ ss)
  goes k s ss end (Fault f) on stops = cc
  goes k s ss end (Column values records) on run = on values records run

  through : (k : Known) (ss : List StageTree) (end : Known) → StagesMean b e k ss (Through end) → end.types ≡ columns_of k.types ss
  through k [] end run = ap (λ j. j.types) (same_known end k run)
  through k (s ∷ ss) end run = goes k s ss end run.0 (λ values records. through (with_stage k s values records) ss end) run.2

  leaf_means : (c : Context) (last : LastClause) (x : Base) (values : List ℕ) → IsLeaf b e c.columns (base_of (record last { base = x })) values →
      ExprMeans b e c (base_of (record last { base = x })) (Column values no_records)
  leaf_means c last base.Winners values is = (values, is, refl)
  leaf_means c last (base.Stage n) values is = (values, is, refl)

leaf_passes : (cs : List TypedColumn) (last : LastClause) (x : Base) → first_failing (base_tests cs last.at x) ≡ None →
    (first_failing (expr_tests cs (base_of (record last { base = x }))) ≡ None) × ((type_of cs (base_of (record last { base = x }))).shape ≡ shape.List)
leaf_passes cs last base.Winners pass = (refl, refl)
leaf_passes cs last (base.Stage n) pass =
    let known = head_holds _ _ _ pass in
    let fits = head_holds _ _ _ known.1 in (
      cond-true _ None _ known.0,
      same_shape_is (type_of cs (name last.at n)).shape shape.List (and_parts (same_shape (type_of cs (name last.at n)).shape shape.List) (same_unit (type_of cs (name last.at n)).unit unit.Seats) fits.0).0,
    )

-- so it sums to what its lists have
pub sum_of_base : (b : BookTree) (e : Election) (base : List ℕ) → is_typed b ≡ true → IsElection e → IsBase b e base → sum_by (base_seats e base) (lists_of e) ≡ sum_of base
sum_of_base b e base typed is h =
    let k = h.known in
    let types = through b e nothing_known b.stages k h.through in
    let passes = leaf_passes k.types b.last b.last.base (subst (λ ts. first_failing (base_tests ts b.last.at b.last.base) ≡ None) (sym types) (typed_parts b e (no_fault (tests_of b) typed)).1) in
    let c : Context = record { stage = 0; name = []; types = k.types; columns = k.columns } in
    let fits : FitsType e (type_of k.types (base_of b.last)) base =
    typed_expressions b e c (base_of b.last) base no_records typed is (typed_stages b e k typed is h.through) passes.0 (leaf_means b e c b.last b.last.base base h.is) in
    sum_of_lists e base (subst (λ s. length base ≡ size_of e s) passes.1 fits.size) (fits.lists_alone passes.1)
