-- The stages before a stage of a count: their columns have their types, and the stage's expression is well formed after them.
use Rattle.std.proofs.Common.{◌≡◌, ℕ, zero, suc, ◌≤◌, true, List, [], ◌∷◌, ◌++◌, Some, None, length, map, take, arith, refl, sym, ap, subst, ◌∙◌, append_assoc}
use Rattle.std.specs.Prelude.{option_map, slice_get}
use Rattle.std.specs.List.{AllZip}
use Rattle.std.proofs.lemmas.Bool.{leb-true}
use Rattle.std.proofs.lemmas.Option.{same_Some, slice_get-map}
use Rattle.std.proofs.lemmas.List.{append-nil, length-map, length-take-le, take-map}
use Rattle.std.proofs.lemmas.Simd.{map-map}
use Rattle.sl_law_meaning.specs.meaning.Counts.{HoldsStages}
use Rattle.sl_law_meaning.specs.declared.count.Column.{Column}
use Rattle.sl_report_results.specs.Values.{HaveTypes, named_columns, types_before}
use Rattle.sl_law_meaning.specs.book.Books.{book_of}
use Rattle.sl_law_meaning.specs.book.Trees.{BookTree, StageTree, stage_of}
use Rattle.sl_law_meaning.specs.book.Typing.{Column as TypedColumn, columns_of, expr_tests, is_typed, splits_in, stage_column, stages_tests, tests_of}
use Rattle.sl_law_meaning.specs.declared.book.Book.{Book}
use Rattle.sl_law_meaning.specs.declared.book.Stage.{Stage}
use Rattle.sl_law_meaning.specs.laws.ColumnLaws.{FitsType, IsTypedAs}
use Rattle.sl_law_meaning.specs.meaning.Columns.{NamedColumn}
use Rattle.sl_law_meaning.specs.meaning.Means.{Known, StagesMean, Through, nothing_known, with_stage}
use Rattle.sl_law_meaning.specs.returns.Election.{Election, IsElection}
use Rattle.sl_law_meaning.proofs.meaning.OneOutcome.{goes_through, typed_parts}
use Rattle.sl_law_meaning.proofs.meaning.TypedMeaning.{typed_stages}
use Rattle.sl_base_terms.proofs.Tests.{head_holds, no_fault, pass_parts}
use Rattle.sl_base_terms.specs.Tests.{first_failing}

-- ---- lists

all_take : {X Y : Type 0} (R : X → Y → Type 0) (n : ℕ) (xs : List X) (ys : List Y) → AllZip R xs ys → AllZip R (take n xs) (take n ys)
all_take R zero [] [] all = tt
all_take R zero [] (y ∷ ys) all = absurd all
all_take R zero (x ∷ xs) [] all = absurd all
all_take R zero (x ∷ xs) (y ∷ ys) all = tt
all_take R (suc n) [] [] all = tt
all_take R (suc n) [] (y ∷ ys) all = absurd all
all_take R (suc n) (x ∷ xs) [] all = absurd all
all_take R (suc n) (x ∷ xs) (y ∷ ys) all = (all.0, all_take R n xs ys all.1)

take_named : (n : ℕ) (stages : List Stage) (columns : List Column) → take n (named_columns stages columns) ≡ named_columns stages (take n columns)
take_named zero [] [] = refl
take_named zero [] (c ∷ cs) = refl
take_named zero (s ∷ ss) [] = refl
take_named zero (s ∷ ss) (c ∷ cs) = refl
take_named (suc n) [] [] = refl
take_named (suc n) [] (c ∷ cs) = refl
take_named (suc n) (s ∷ ss) [] = refl
take_named (suc n) (s ∷ ss) (c ∷ cs) = ap (λ ys. record { name = s.name; values = c.cells.items } ∷ ys) (take_named n ss cs)

-- ---- types

-- the types of stages after others
abbrev types_after : List TypedColumn → List StageTree → List TypedColumn
types_after cs [] = []
types_after cs (s ∷ ss) = stage_column cs s ∷ types_after (cs ++ stage_column cs s ∷ []) ss

all_types : (cs : List TypedColumn) (ss : List StageTree) → columns_of cs ss ≡ cs ++ types_after cs ss
all_types cs [] = sym (append-nil cs)
all_types cs (s ∷ ss) = all_types (cs ++ stage_column cs s ∷ []) ss ∙ append_assoc cs (stage_column cs s ∷ []) (types_after (cs ++ stage_column cs s ∷ []) ss)

first_types : (n : ℕ) (cs : List TypedColumn) (ss : List StageTree) → types_after cs (take n ss) ≡ take n (types_after cs ss)
first_types zero cs [] = refl
first_types zero cs (s ∷ ss) = refl
first_types (suc n) cs [] = refl
first_types (suc n) cs (s ∷ ss) = ap (λ ts. stage_column cs s ∷ ts) (first_types n (cs ++ stage_column cs s ∷ []) ss)

type_names : (cs : List TypedColumn) (ss : List StageTree) → map (λ t. t.name) (types_after cs ss) ≡ map (λ s. s.name) ss
type_names cs [] = refl
type_names cs (s ∷ ss) = ap (λ ns. s.name ∷ ns) (type_names (cs ++ stage_column cs s ∷ []) ss)

types_long : (cs : List TypedColumn) (ss : List StageTree) → length (types_after cs ss) ≡ length ss
types_long cs [] = refl
types_long cs (s ∷ ss) = ap suc (types_long (cs ++ stage_column cs s ∷ []) ss)

before_is : (b : BookTree) (n : ℕ) → types_before b n ≡ take n (columns_of [] b.stages)
before_is b n = all_types [] (take n b.stages) ∙ first_types n [] b.stages ∙ ap (take n) (sym (all_types [] b.stages))

-- ---- a run

run_types : (b : BookTree) (e : Election) (k : Known) (ss : List StageTree) (end : Known) → StagesMean b e k ss (Through end) → end.types ≡ columns_of k.types ss
run_types b e k [] end run = let same : end ≡ k = cc in ap (λ j. j.types) same
run_types b e k (s ∷ ss) end run =
    let on = goes_through run.0 (λ values records. StagesMean b e (with_stage k s values records) ss (Through end)) end run.2 in
    run_types b e (with_stage k s on.0 on.1) ss end on.3

named_typed : (e : Election) (types : List TypedColumn) (known : List NamedColumn) (stages : List Stage) (columns : List Column) → AllZip (IsTypedAs e) types known →
    map (λ t. t.name) types ≡ map (λ s. s.name) stages → map (λ c. c.cells.items) columns ≡ map (λ c. c.values) known →
    AllZip (IsTypedAs e) types (named_columns stages columns)
named_typed e [] [] [] [] all names cells = tt
named_typed e [] [] [] (c ∷ cs) all names cells = cc
named_typed e [] [] (s ∷ ss) columns all names cells = cc
named_typed e [] (k ∷ ks) stages columns all names cells = absurd all
named_typed e (t ∷ ts) [] stages columns all names cells = absurd all
named_typed e (t ∷ ts) (k ∷ ks) [] columns all names cells = cc
named_typed e (t ∷ ts) (k ∷ ks) (s ∷ ss) [] all names cells = cc
named_typed e (t ∷ ts) (k ∷ ks) (s ∷ ss) (c ∷ cs) all names cells =
    let name : t.name ≡ s.name = cc in
    let values : k.values ≡ c.cells.items = cc in
    let rest : map (λ t. t.name) ts ≡ map (λ s. s.name) ss = cc in
    let others : map (λ c. c.cells.items) cs ≡ map (λ c. c.values) ks = cc in
    (record { name = name; type = subst (FitsType e t.type) values all.0.type }, named_typed e ts ks ss cs all.1 rest others)

-- ---- tests

passes : (n : ℕ) (cs : List TypedColumn) (ss : List StageTree) (s : StageTree) → first_failing (stages_tests cs ss) ≡ None → slice_get ss n ≡ Some s →
    (splits_in s.expr ≤ 1) × (first_failing (expr_tests (columns_of cs (take n ss)) s.expr) ≡ None)
passes n cs [] s pass there = cc
passes zero cs (t ∷ ss) s pass there =
    let once = head_holds _ _ _ pass in
    let single = head_holds _ _ _ once.1 in
    let parts = pass_parts (expr_tests cs t.expr) _ single.1 in
    let same = same_Some t s there in
    (subst (λ x. splits_in x.expr ≤ 1) same (leb-true (splits_in t.expr) 1 single.0), subst (λ x. first_failing (expr_tests cs x.expr) ≡ None) same parts.0)
passes (suc n) cs (t ∷ ss) s pass there =
    let once = head_holds _ _ _ pass in
    let single = head_holds _ _ _ once.1 in
    let parts = pass_parts (expr_tests cs t.expr) _ single.1 in
    passes n (cs ++ stage_column cs t ∷ []) ss s parts.1 there

-- ---- the stages of a book

module _ (book : Book) (e : Election) (columns : List Column) (typed : is_typed (book_of book) ≡ true) where
  abbrev b : BookTree
  b = book_of book

  abbrev stages : List Stage
  stages = book.stages.items

  pub well_formed : (n : ℕ) (s : Stage) → slice_get stages n ≡ Some s →
      (splits_in (stage_of s).expr ≤ 1) × (first_failing (expr_tests (types_before b n) (stage_of s).expr) ≡ None)
  well_formed n s there =
      passes n [] b.stages (stage_of s) (typed_parts b e (no_fault (tests_of b) typed)).0 (slice_get-map stage_of stages n ∙ ap (option_map stage_of) there)

  module _ (holds : HoldsStages b e columns) where
    pub columns_long : length columns ≡ length stages
    columns_long =
        let types = ap length (all_types [] b.stages) ∙ types_long [] b.stages ∙ length-map stages stage_of in
        sym (length-map columns (λ c. c.shape)) ∙ ap length holds.shapes ∙ length-map (columns_of [] b.stages) (λ t. t.type.shape) ∙ types

    all_typed : IsElection e → AllZip (IsTypedAs e) (columns_of [] b.stages) (named_columns stages columns)
    all_typed is =
        let names = ap (map (λ t. t.name)) (all_types [] b.stages) ∙ type_names [] b.stages ∙ map-map (λ s. s.name) stage_of stages in
        named_typed e (columns_of [] b.stages) holds.known.columns stages columns
        (subst (λ ts. AllZip (IsTypedAs e) ts holds.known.columns) (run_types b e nothing_known b.stages holds.known holds.means) (typed_stages b e holds.known typed is holds.means))
        names holds.cells

    pub have_types : IsElection e → (n : ℕ) → n ≤ length stages → HaveTypes b e stages (take n columns)
    have_types is n within =
        let long : n ≡ length (take n columns) = sym (length-take-le n columns (omega (arith, within, columns_long))) in
        let all = all_take (IsTypedAs e) n (columns_of [] b.stages) (named_columns stages columns) (all_typed is) in
        let typed_all : AllZip (IsTypedAs e) (types_before b n) (named_columns stages (take n columns)) =
        subst (λ ts. AllZip (IsTypedAs e) ts (named_columns stages (take n columns))) (sym (before_is b n))
        (subst (AllZip (IsTypedAs e) (take n (columns_of [] b.stages))) (take_named n stages columns) all) in
        let shaped : map (λ c. c.shape) (take n columns) ≡ map (λ t. t.type.shape) (types_before b n) =
        sym (take-map (λ c. c.shape) n columns) ∙ ap (take n) holds.shapes ∙ take-map (λ t. t.type.shape) n (columns_of [] b.stages) ∙ ap (map (λ t. t.type.shape)) (sym (before_is b n)) in
        record {
          typed = subst (λ m. AllZip (IsTypedAs e) (types_before b m) (named_columns stages (take n columns))) long typed_all;
          shapes = subst (λ m. map (λ c. c.shape) (take n columns) ≡ map (λ t. t.type.shape) (types_before b m)) long shaped;
        }
