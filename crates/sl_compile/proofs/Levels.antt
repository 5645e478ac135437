-- What is asked of an expression is so of its arguments.
use Rattle.std.proofs.Common.{◌≡◌, ℕ, ◌+◌, ◌≤◌, List, None, max}
use Rattle.sl_base_quotients.specs.declared.method.Method.{Method}
use Rattle.sl_law_meaning.specs.declared.book.Pairing.{Pairing}
use Rattle.sl_law_meaning.specs.declared.book.Axis.{Axis}
use Rattle.sl_law_meaning.specs.declared.book.Majority.{Majority}
use Rattle.sl_law_meaning.specs.declared.book.Number.{Number}
use Rattle.sl_law_meaning.specs.declared.limits.TheConstants.{MAX_DEPTH}
use Rattle.sl_law_meaning.specs.book.Trees.{ExprTree, sum, pair, split, without, atleast, grow}
use Rattle.sl_base_terms.specs.Tests.{first_failing}
use Rattle.sl_law_meaning.specs.book.Limits.{depth_of}
use Rattle.sl_law_meaning.specs.book.Typing.{Column, type_of, expr_tests, splits_in, sum_tests, alike_tests, split_tests, split_from_tests, grow_tests}
use Rattle.sl_base_terms.proofs.Tests.{pass_parts}
use Rattle.sl_law_meaning.proofs.typing.TestLists.{pass_parts3, pass_parts4}
use Rattle.sl_compile_pieces.specs.declared.slots.TheConstants.{LEVELS}
use Rattle.sl_compile_pieces.proofs.exprs.Levels.{low_level, one_level, two_levels, split_levels, three_levels, pair_passes, split_passes, split_from_passes, grow_passes}
use Rattle.sl_compile.specs.inner.Earlier.{Fits, FitsSplit, FitsMinima, FitsGrowth}

pub low : {types : List Column} {level : ℕ} {x : ExprTree} → Fits types level x → level ≤ MAX_DEPTH
low {types} {level} {x} h = low_level x level h.levels

module _ (types : List Column) (level at : ℕ) where
  pub sum_fits : (x : ExprTree) (over : Axis) → Fits types level (sum at x over) → Fits types level x
  sum_fits x over h = record {
    typed = (pass_parts (expr_tests types x) (sum_tests at (type_of types x) over) h.typed).0;
    levels = one_level level (depth_of x) (splits_in x) h.levels;
  }

  both : (l r : ExprTree) → first_failing (expr_tests types l) ≡ None → first_failing (expr_tests types r) ≡ None →
      level + (1 + max (depth_of l) (depth_of r)) + (splits_in l + splits_in r) ≤ LEVELS → Fits types level l × Fits types (level + 1) r
  both l r first second levels =
      let h = two_levels level (depth_of l) (depth_of r) (splits_in l) (splits_in r) levels in
      (record { typed = first; levels = h.0 }, record { typed = second; levels = h.1 })

  pub pair_fits : (pairing : Pairing) (l r : ExprTree) → Fits types level (pair at pairing l r) → Fits types level l × Fits types (level + 1) r
  pair_fits pairing l r h =
      let p = pass_parts3 (expr_tests types l) (expr_tests types r) (alike_tests types at l r) h.typed in
      both l r p.0 p.1 h.levels

  pub pair_same : (pairing : Pairing) (l r : ExprTree) → Fits types level (pair at pairing l r) → (type_of types r).shape ≡ (type_of types l).shape
  pair_same pairing l r h =
      pair_passes at (type_of types l) (type_of types r) (pass_parts3 (expr_tests types l) (expr_tests types r) (alike_tests types at l r) h.typed).2

  pub split_fits : (s v : ExprTree) (method : Method) (m : Majority) → Fits types level (split at s v method without m) → FitsSplit types level s v
  split_fits s v method m h =
      let p = pass_parts3 (expr_tests types s) (expr_tests types v) (split_tests at (type_of types s) (type_of types v) method m) h.typed in
      let q = split_levels level (depth_of s) (depth_of v) (splits_in s) (splits_in v) h.levels in
      record {
        seats = record { typed = p.0; levels = q.0 };
        votes = record { typed = p.1; levels = q.1 };
        can = split_passes at (type_of types s) (type_of types v) method m p.2;
      }

  pub split_from_fits : (s v f : ExprTree) (method : Method) (m : Majority) → Fits types level (split at s v method (atleast f) m) → FitsMinima types level s v f method
  split_from_fits s v f method m h =
      let p = pass_parts4 (expr_tests types s) (expr_tests types v) (expr_tests types f)
      (split_from_tests at (type_of types s) (type_of types v) (type_of types f) method m) h.typed in
      let q = three_levels level (depth_of s) (depth_of v) (depth_of f) (splits_in s) (splits_in v) (splits_in f) h.levels in
      let shares = split_from_passes at (type_of types s) (type_of types v) (type_of types f) method m p.3 in
      record {
        split = record { seats = record { typed = p.0; levels = q.0 }; votes = record { typed = p.1; levels = q.1 }; can = shares.can };
        minima = record { typed = p.2; levels = q.2 };
        same = shares.same;
        divisor = shares.divisor;
        by_it = shares.by_it;
      }

  pub grow_fits : (s v f : ExprTree) (method : Method) (cap : Number) (m : Majority) → Fits types level (grow at s v method f cap m) →
      FitsGrowth types level s v f method cap.value
  grow_fits s v f method cap m h =
      let p = pass_parts4 (expr_tests types s) (expr_tests types v) (expr_tests types f)
      (grow_tests at (type_of types s) (type_of types v) (type_of types f) method cap m) h.typed in
      let q = three_levels level (depth_of s) (depth_of v) (depth_of f) (splits_in s) (splits_in v) (splits_in f) h.levels in
      let grows = grow_passes at (type_of types s) (type_of types v) (type_of types f) method cap m p.3 in
      record {
        split = record {
          split = record { seats = record { typed = p.0; levels = q.0 }; votes = record { typed = p.1; levels = q.1 }; can = grows.shares.can };
          minima = record { typed = p.2; levels = q.2 };
          same = grows.shares.same;
          divisor = grows.shares.divisor;
          by_it = grows.shares.by_it;
        };
        one = grows.one;
        few = grows.small;
      }
