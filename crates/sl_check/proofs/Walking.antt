-- The walk over the stages: what is known before each.
use Rattle.std.proofs.Common.{◌≡◌, ℕ, zero, suc, ◌<◌, ◌≤◌, List, [], ◌∷◌, ◌++◌, Some, None, length, map, take, drop, get_or, arith, refl, ◌∙◌, sym, ap}
use Rattle.std.proofs.Math.ListN.{set}
use Rattle.std.proofs.Math.Seq.{drop-cons}
use Rattle.std.specs.Option.{option_or}
use Rattle.sl_law_meaning.specs.declared.check_fault.CheckFault.{CheckFault}
use Rattle.sl_law_meaning.specs.declared.book.Stage.{Stage}
use Rattle.sl_law_meaning.specs.declared.book.ColumnType.{ColumnType}
use Rattle.sl_law_meaning.specs.book.Trees.{tree_of, stage_of}
use Rattle.sl_base_terms.specs.Tests.{first_failing}
use Rattle.sl_law_meaning.specs.book.Typing.{Column, stage_column, columns_of, type_of, stage_tests, stages_tests}
use Rattle.sl_check.specs.inner.Known.{columns}
use Rattle.sl_base_terms.proofs.Tests.{fails_in_row}

-- the first i stages pass, and have the columns of the first i types
pub record Passed (ss : List Stage) (ts : List ColumnType) (i : ℕ) : Type 0 where
  pub tests : first_failing (stages_tests [] (map stage_of ss)) ≡ first_failing (stages_tests (columns (take i ss) ts) (map stage_of (drop i ss)))
  pub names : columns_of [] (map stage_of ss) ≡ columns_of (columns (take i ss) ts) (map stage_of (drop i ss))

-- one more stage
columns_next : (ss : List Stage) (ts : List ColumnType) (i : ℕ) (s : Stage) (t : ColumnType)
    → i < length ss → length ss ≤ length ts → s ≡ get_or ss i s
    → columns (take (suc i) ss) (set ts i t) ≡ columns (take i ss) ts ++ record { name = s.name; type = t } ∷ []
columns_next [] ts i s t lt room here = absurd (omega arith)
columns_next (x ∷ ss) [] i s t lt room here = absurd (omega arith)
columns_next (x ∷ ss) (y ∷ ts) zero s t lt room here = rw here refl
columns_next (x ∷ ss) (y ∷ ts) (suc i) s t lt room here = ap (λ cs. record { name = x.name; type = y } ∷ cs) (columns_next ss ts i s t (omega arith) (omega arith) here)

drop_here : (ss : List Stage) (i : ℕ) (s : Stage) → i < length ss → s ≡ get_or ss i s → drop i ss ≡ s ∷ drop (suc i) ss
drop_here ss i s lt here = rw (← here) at (drop-cons ss i s lt)

-- the tests of the rest are those of the stage that comes next, and of those after it
stages_here : (cs : List Column) (ss : List Stage) (i : ℕ) (s : Stage) → i < length ss → s ≡ get_or ss i s
    → first_failing (stages_tests cs (map stage_of (drop i ss)))
    ≡ option_or (first_failing (stage_tests cs (stage_of s))) (first_failing (stages_tests (cs ++ stage_column cs (stage_of s) ∷ []) (map stage_of (drop (suc i) ss))))
stages_here cs ss i s lt here =
    ap (λ rest. first_failing (stages_tests cs (map stage_of rest))) (drop_here ss i s lt here)
    ∙ fails_in_row (stage_tests cs (stage_of s)) (stages_tests (cs ++ stage_column cs (stage_of s) ∷ []) (map stage_of (drop (suc i) ss)))

-- a stage that fails a test is the first to fail one
pub stage_fails : (ss : List Stage) (ts : List ColumnType) (i : ℕ) (s : Stage) (f : CheckFault)
    → Passed ss ts i → i < length ss → s ≡ get_or ss i s
    → first_failing (stage_tests (columns (take i ss) ts) (stage_of s)) ≡ Some f
    → first_failing (stages_tests [] (map stage_of ss)) ≡ Some f
stage_fails ss ts i s f passed lt here fails = passed.tests ∙ stages_here (columns (take i ss) ts) ss i s lt here ∙ rw fails refl

-- a stage leaves its column to the next
pub columns_more : (ss : List Stage) (ts : List ColumnType) (i : ℕ) (s : Stage) (t : ColumnType)
    → columns_of [] (map stage_of ss) ≡ columns_of (columns (take i ss) ts) (map stage_of (drop i ss)) → i < length ss → length ss ≤ length ts → s ≡ get_or ss i s
    → t ≡ type_of (columns (take i ss) ts) (tree_of s.expr)
    → columns_of [] (map stage_of ss) ≡ columns_of (columns (take (suc i) ss) (set ts i t)) (map stage_of (drop (suc i) ss))
columns_more ss ts i s t so_far lt room here is =
    let cs = columns (take i ss) ts in
    let next : columns (take (suc i) ss) (set ts i t) ≡ cs ++ stage_column cs (stage_of s) ∷ [] =
    columns_next ss ts i s t lt room here ∙ ap (λ u. cs ++ record { name = s.name; type = u } ∷ []) is in
    so_far ∙ ap (λ ds. columns_of cs (map stage_of ds)) (drop_here ss i s lt here) ∙ ap (λ ds. columns_of ds (map stage_of (drop (suc i) ss))) (sym next)

-- so does one that passes its tests
pub stage_passes : (ss : List Stage) (ts : List ColumnType) (i : ℕ) (s : Stage) (t : ColumnType)
    → Passed ss ts i → i < length ss → length ss ≤ length ts → s ≡ get_or ss i s
    → first_failing (stage_tests (columns (take i ss) ts) (stage_of s)) ≡ None
    → t ≡ type_of (columns (take i ss) ts) (tree_of s.expr)
    → Passed ss (set ts i t) (suc i)
stage_passes ss ts i s t passed lt room here passes is =
    let cs = columns (take i ss) ts in
    let rest = map stage_of (drop (suc i) ss) in
    let next : columns (take (suc i) ss) (set ts i t) ≡ cs ++ stage_column cs (stage_of s) ∷ [] =
    columns_next ss ts i s t lt room here ∙ ap (λ u. cs ++ record { name = s.name; type = u } ∷ []) is in
    record {
      tests = passed.tests ∙ stages_here cs ss i s lt here ∙ ap (λ r. option_or r (first_failing (stages_tests (cs ++ stage_column cs (stage_of s) ∷ []) rest))) passes
          ∙ ap (λ ds. first_failing (stages_tests ds rest)) (sym next);
      names = columns_more ss ts i s t passed.names lt room here is;
    }
