use Rattle.std.proofs.Common.{◌∙◌, refl}
use Rattle.std.proofs.lemmas.Result.{err_from_is_err_and}
use Rattle.sl_law_meaning.specs.book.Trees.{tree_of}
use Rattle.sl_base_terms.proofs.Tests.{fails_first}
use Rattle.sl_law_meaning.specs.declared.book.Unit.TheVariants as unit
use Rattle.sl_law_meaning.specs.book.Typing.{column, expr_tests, type_of, sum_tests, pair_tests, split_tests, split_from_tests, grow_tests}
use Rattle.sl_check.specs.inner.Known.{columns}
use Rattle.sl_check.proofs.Failing.{fails_behind, fails_two, judges_two, fails_three, judges_three}
use Rattle.sl_check.proofs.columns.Columns.+expr.Goals as goal

pub expr_type-returns-in_err-of-in-Some : goal.expr_type-returns-in_err-of-in-Some
expr_type-returns-in_err-of-in-Some t c =
    let cs = columns c.args.self.now.stages.now c.args.self.now.types.now in
    let s = c.in-Split in
    let seats = tree_of c.deref-in-Some.result.now in
    let votes = tree_of c.deref-in-Some-2.result.now in
    let minima = tree_of c.deref-in-Some-3.result.now in
    let failed = err_from_is_err_and c.from_residual-in_err-of-in-Some.result c.from_residual-in_err-of-in-Some.ensures.1 in
    rw (failed.1, failed.2, s.is, c.in-Some.is, ← c.deref-in-Some.ensures, ← c.deref-in-Some-2.ensures, ← c.deref-in-Some-3.ensures)
    (fails_three cs seats votes minima (split_from_tests s.at (type_of cs seats) (type_of cs votes) (type_of cs minima) s.method s.majority)
    c.in_err-of-in-Some.field-0.0 c.in_err-of-in-Some.ensures)

pub expr_type-returns-in_err-of-in-Grow : goal.expr_type-returns-in_err-of-in-Grow
expr_type-returns-in_err-of-in-Grow t c =
    let cs = columns c.args.self.now.stages.now c.args.self.now.types.now in
    let g = c.in-Grow in
    let seats = tree_of c.deref-in-Grow.result.now in
    let votes = tree_of c.deref-in-Grow-2.result.now in
    let minima = tree_of c.deref-in-Grow-3.result.now in
    let failed = err_from_is_err_and c.from_residual-in_err-of-in-Grow.result c.from_residual-in_err-of-in-Grow.ensures.1 in
    rw (failed.1, failed.2, g.is, ← c.deref-in-Grow.ensures, ← c.deref-in-Grow-2.ensures, ← c.deref-in-Grow-3.ensures)
    (fails_three cs seats votes minima (grow_tests g.at (type_of cs seats) (type_of cs votes) (type_of cs minima) g.method g.cap g.majority)
    c.in_err-of-in-Grow.field-0.0 c.in_err-of-in-Grow.ensures)

pub expr_type-returns-in_ok-of-in-Some : goal.expr_type-returns-in_ok-of-in-Some
expr_type-returns-in_ok-of-in-Some t c =
    let s = c.in-Split in
    let of = c.in_ok-of-in-Some in
    rw (s.is, c.in-Some.is, ← c.deref-in-Some.ensures, ← c.deref-in-Some-2.ensures, ← c.deref-in-Some-3.ensures)
    (judges_three (columns c.args.self.now.stages.now c.args.self.now.types.now) (tree_of c.deref-in-Some.result.now) (tree_of c.deref-in-Some-2.result.now) (tree_of c.deref-in-Some-3.result.now)
    (λ x y z. split_from_tests s.at x y z s.method s.majority) c.split_from_type.result of.of of.by of.minima of.ensures.0 of.ensures.1 c.split_from_type.ensures)

pub expr_type-returns-in_ok-of-in-Grow : goal.expr_type-returns-in_ok-of-in-Grow
expr_type-returns-in_ok-of-in-Grow t c =
    let g = c.in-Grow in
    let of = c.in_ok-of-in-Grow in
    rw (g.is, ← c.deref-in-Grow.ensures, ← c.deref-in-Grow-2.ensures, ← c.deref-in-Grow-3.ensures)
    (judges_three (columns c.args.self.now.stages.now c.args.self.now.types.now) (tree_of c.deref-in-Grow.result.now) (tree_of c.deref-in-Grow-2.result.now) (tree_of c.deref-in-Grow-3.result.now)
    (λ x y z. grow_tests g.at x y z g.method g.cap g.majority) c.grow_type.result of.of of.by of.minima of.ensures.0 of.ensures.1 c.grow_type.ensures)

-- ---- the other expressions

pub expr_type-returns-in_err-expr_type-in-Sum : goal.expr_type-returns-in_err-expr_type-in-Sum
expr_type-returns-in_err-expr_type-in-Sum t c =
    let s = c.in-Sum in
    let cs = columns c.args.self.now.stages.now c.args.self.now.types.now in
    let of = tree_of c.deref.result.now in
    let failed = err_from_is_err_and c.from_residual.result c.from_residual.ensures.1 in
    rw (failed.1, failed.2, s.is, ← c.deref.ensures) (fails_first (expr_tests cs of) (sum_tests s.at (type_of cs of) s.over) c.in_err-expr_type-in-Sum.field-0.0 c.in_err-expr_type-in-Sum.ensures)

pub expr_type-returns-in_err-left-in-Pair : goal.expr_type-returns-in_err-left-in-Pair
expr_type-returns-in_err-left-in-Pair t c =
    let p = c.in-Pair in
    let cs = columns c.args.self.now.stages.now c.args.self.now.types.now in
    let left = tree_of c.deref-in-Pair.result.now in
    let right = tree_of c.deref-in-Pair-2.result.now in
    let failed = err_from_is_err_and c.from_residual-in_err-left-in-Pair.result c.from_residual-in_err-left-in-Pair.ensures.1 in
    rw (failed.1, failed.2, p.is, ← c.deref-in-Pair.ensures, ← c.deref-in-Pair-2.ensures)
    (fails_two cs left right (pair_tests p.at (type_of cs left) (type_of cs right)) c.in_err-left-in-Pair.field-0.0 c.in_err-left-in-Pair.ensures)

pub expr_type-returns-in_ok-left-in-Pair : goal.expr_type-returns-in_ok-left-in-Pair
expr_type-returns-in_ok-left-in-Pair t c =
    let p = c.in-Pair in
    let of = c.in_ok-left-in-Pair in
    rw (p.is, ← c.deref-in-Pair.ensures, ← c.deref-in-Pair-2.ensures)
    (judges_two (columns c.args.self.now.stages.now c.args.self.now.types.now) (tree_of c.deref-in-Pair.result.now) (tree_of c.deref-in-Pair-2.result.now)
    (λ x y. pair_tests p.at x y) (λ x y. x) c.pair_type.result of.left of.right of.ensures.0 of.ensures.1 c.pair_type.ensures)

pub expr_type-returns-in_err-of-in-None : goal.expr_type-returns-in_err-of-in-None
expr_type-returns-in_err-of-in-None t c =
    let s = c.in-Split in
    let cs = columns c.args.self.now.stages.now c.args.self.now.types.now in
    let seats = tree_of c.deref-in-None.result.now in
    let votes = tree_of c.deref-in-None-2.result.now in
    let failed = err_from_is_err_and c.from_residual-in_err-of-in-None.result c.from_residual-in_err-of-in-None.ensures.1 in
    rw (failed.1, failed.2, s.is, c.in-None.is, ← c.deref-in-None.ensures, ← c.deref-in-None-2.ensures)
    (fails_two cs seats votes (split_tests s.at (type_of cs seats) (type_of cs votes) s.method s.majority) c.in_err-of-in-None.field-0.0 c.in_err-of-in-None.ensures)

pub expr_type-returns-in_ok-of-in-None : goal.expr_type-returns-in_ok-of-in-None
expr_type-returns-in_ok-of-in-None t c =
    let s = c.in-Split in
    let of = c.in_ok-of-in-None in
    rw (s.is, c.in-None.is, ← c.deref-in-None.ensures, ← c.deref-in-None-2.ensures)
    (judges_two (columns c.args.self.now.stages.now c.args.self.now.types.now) (tree_of c.deref-in-None.result.now) (tree_of c.deref-in-None-2.result.now)
    (λ x y. split_tests s.at x y s.method s.majority) (λ x y. column y.shape unit.Seats) c.split_type.result of.of of.by of.ensures.0 of.ensures.1 c.split_type.ensures)

-- ---- three in a row

pub three-returns-in_err-expr_type : goal.three-returns-in_err-expr_type
three-returns-in_err-expr_type t c =
    let tests = expr_tests (columns c.args.self.now.stages.now c.args.self.now.types.now) in
    let failed = err_from_is_err_and c.from_residual-in_err-expr_type.result c.from_residual-in_err-expr_type.ensures.1 in
    rw (failed.1, failed.2)
    (fails_behind (tests (tree_of c.args.first.now)) (tests (tree_of c.args.second.now)) (tests (tree_of c.args.third.now)) ∙ rw (c.in_ok-first.ensures.0, c.in_err-expr_type.ensures) refl)
