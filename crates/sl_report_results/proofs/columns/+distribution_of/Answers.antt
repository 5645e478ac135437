use Rattle.std.proofs.Common.{◌+◌, ◌≤◌, arith, length, refl, sym, ap, subst}
use Rattle.sl_report_results.proofs.Divided.{of_growth, of_split}
use Rattle.sl_report_results.specs.Values.{types_before, IsWellFormed, HasNoSplit}
use Rattle.sl_law_meaning.specs.book.Books.{book_of}
use Rattle.sl_law_meaning.specs.book.Limits.{depth_of}
use Rattle.sl_law_meaning.specs.book.Trees.{pair, sum, tree_of}
use Rattle.sl_law_meaning.specs.book.Typing.{expr_tests, splits_in}
use Rattle.sl_base_terms.proofs.Tests.{pass_parts}
use Rattle.sl_report_results.proofs.columns.+distribution_of.Goals as goal

pub distribution_of-requires : goal.distribution_of-requires
distribution_of-requires t c =
    let types = types_before (book_of c.args.setting.now.book.now) (length c.args.earlier.now) in
    let y = tree_of c.in-Sum.of.value in
    let formed : IsWellFormed types (sum c.in-Sum.at y c.in-Sum.over) = subst (λ x. IsWellFormed types (tree_of x)) c.in-Sum.is c.requires.formed in
    let one : splits_in y ≤ 1 = subst (λ x. splits_in (tree_of x) ≤ 1) c.in-Sum.is c.requires.one in (
      omega (arith, c.decreases, ap (λ x. depth_of (tree_of x)) c.in-Sum.is, ap (λ x. depth_of (tree_of x)) c.deref.ensures),
      (c.requires.before, (subst (λ x. IsWellFormed types (tree_of x)) (sym c.deref.ensures) (pass_parts (expr_tests types y) _ formed).0, subst (λ x. splits_in (tree_of x) ≤ 1) (sym c.deref.ensures) one)),
    )

pub distribution_of-requires-in-Pair : goal.distribution_of-requires-in-Pair
distribution_of-requires-in-Pair t c =
    let types = types_before (book_of c.args.setting.now.book.now) (length c.args.earlier.now) in
    let l = tree_of c.in-Pair.left.value in
    let r = tree_of c.in-Pair.right.value in
    let formed : IsWellFormed types (pair c.in-Pair.at c.in-Pair.pairing l r) = subst (λ x. IsWellFormed types (tree_of x)) c.in-Pair.is c.requires.formed in
    let both : splits_in l + splits_in r ≤ 1 = subst (λ x. splits_in (tree_of x) ≤ 1) c.in-Pair.is c.requires.one in
    let one : splits_in l ≤ 1 = omega (arith, both) in (
      omega (arith, c.decreases, ap (λ x. depth_of (tree_of x)) c.in-Pair.is, ap (λ x. depth_of (tree_of x)) c.deref-in-Pair.ensures),
      (c.requires.before, (subst (λ x. IsWellFormed types (tree_of x)) (sym c.deref-in-Pair.ensures) (pass_parts (expr_tests types l) _ formed).0, subst (λ x. splits_in (tree_of x) ≤ 1) (sym c.deref-in-Pair.ensures) one)),
    )

pub distribution_of-requires-in-None : goal.distribution_of-requires-in-None
distribution_of-requires-in-None t c =
    let types = types_before (book_of c.args.setting.now.book.now) (length c.args.earlier.now) in
    let l = tree_of c.in-Pair.left.value in
    let r = tree_of c.in-Pair.right.value in
    let formed : IsWellFormed types (pair c.in-Pair.at c.in-Pair.pairing l r) = subst (λ x. IsWellFormed types (tree_of x)) c.in-Pair.is c.requires.formed in
    let both : splits_in l + splits_in r ≤ 1 = subst (λ x. splits_in (tree_of x) ≤ 1) c.in-Pair.is c.requires.one in
    let one : splits_in r ≤ 1 = omega (arith, both) in (
      omega (arith, c.decreases, ap (λ x. depth_of (tree_of x)) c.in-Pair.is, ap (λ x. depth_of (tree_of x)) c.deref-in-None.ensures),
      (c.requires.before, (subst (λ x. IsWellFormed types (tree_of x)) (sym c.deref-in-None.ensures) (pass_parts (expr_tests types r) _ (pass_parts (expr_tests types l) _ formed).1).0, subst (λ x. splits_in (tree_of x) ≤ 1) (sym c.deref-in-None.ensures) one)),
    )

pub plain_of-requires-clause-seats_formed : goal.plain_of-requires-clause-seats_formed
plain_of-requires-clause-seats_formed t c =
    let types = types_before (book_of c.args.setting.now.book.now) (length c.args.earlier.now) in
    let are = of_split types c.in-Split.at c.in-Split.seats c.in-Split.votes c.in-Split.method c.in-Split.majority c.in-Split.minima c.args.expr.now c.in-Split.is c.requires.formed c.requires.one in
    subst (λ x. IsWellFormed types (tree_of x)) (sym c.deref-in-Split.ensures) are.seats.formed

pub plain_of-requires-clause-votes_formed : goal.plain_of-requires-clause-votes_formed
plain_of-requires-clause-votes_formed t c =
    let types = types_before (book_of c.args.setting.now.book.now) (length c.args.earlier.now) in
    let are = of_split types c.in-Split.at c.in-Split.seats c.in-Split.votes c.in-Split.method c.in-Split.majority c.in-Split.minima c.args.expr.now c.in-Split.is c.requires.formed c.requires.one in
    subst (λ x. IsWellFormed types (tree_of x)) (sym c.deref-in-Split-2.ensures) are.votes.formed

pub with_minima-requires-clause-formed : goal.with_minima-requires-clause-formed
with_minima-requires-clause-formed t c =
    let types = types_before (book_of c.args.setting.now.book.now) (length c.args.earlier.now) in
    let are = of_split types c.in-Split.at c.in-Split.seats c.in-Split.votes c.in-Split.method c.in-Split.majority c.in-Split.minima c.args.expr.now c.in-Split.is c.requires.formed c.requires.one in
    subst (λ x. IsWellFormed types (tree_of x)) (sym c.deref-in-Some-minima.ensures) (are.minima c.in-Some-minima.least c.in-Some-minima.is).formed

pub plain_of-requires-in-Grow-clause-seats_formed : goal.plain_of-requires-in-Grow-clause-seats_formed
plain_of-requires-in-Grow-clause-seats_formed t c =
    let types = types_before (book_of c.args.setting.now.book.now) (length c.args.earlier.now) in
    let are = of_growth types c.in-Grow.at c.in-Grow.seats c.in-Grow.votes c.in-Grow.method c.in-Grow.majority c.in-Grow.minima c.in-Grow.cap c.args.expr.now c.in-Grow.is c.requires.formed c.requires.one in
    subst (λ x. IsWellFormed types (tree_of x)) (sym c.deref-in-Grow.ensures) are.seats.formed

pub plain_of-requires-in-Grow-clause-votes_formed : goal.plain_of-requires-in-Grow-clause-votes_formed
plain_of-requires-in-Grow-clause-votes_formed t c =
    let types = types_before (book_of c.args.setting.now.book.now) (length c.args.earlier.now) in
    let are = of_growth types c.in-Grow.at c.in-Grow.seats c.in-Grow.votes c.in-Grow.method c.in-Grow.majority c.in-Grow.minima c.in-Grow.cap c.args.expr.now c.in-Grow.is c.requires.formed c.requires.one in
    subst (λ x. IsWellFormed types (tree_of x)) (sym c.deref-in-Grow-2.ensures) are.votes.formed

pub with_minima-requires-in-Grow-clause-formed : goal.with_minima-requires-in-Grow-clause-formed
with_minima-requires-in-Grow-clause-formed t c =
    let types = types_before (book_of c.args.setting.now.book.now) (length c.args.earlier.now) in
    let are = of_growth types c.in-Grow.at c.in-Grow.seats c.in-Grow.votes c.in-Grow.method c.in-Grow.majority c.in-Grow.minima c.in-Grow.cap c.args.expr.now c.in-Grow.is c.requires.formed c.requires.one in
    subst (λ x. IsWellFormed types (tree_of x)) (sym c.deref-in-Grow-3.ensures) (are.minima c.in-Grow.minima refl).formed

pub plain_of-requires-clause-seats_simple : goal.plain_of-requires-clause-seats_simple
plain_of-requires-clause-seats_simple t c =
    let types = types_before (book_of c.args.setting.now.book.now) (length c.args.earlier.now) in
    let are = of_split types c.in-Split.at c.in-Split.seats c.in-Split.votes c.in-Split.method c.in-Split.majority c.in-Split.minima c.args.expr.now c.in-Split.is c.requires.formed c.requires.one in
    subst (λ x. HasNoSplit (tree_of x)) (sym c.deref-in-Split.ensures) are.seats.simple

pub plain_of-requires-clause-votes_simple : goal.plain_of-requires-clause-votes_simple
plain_of-requires-clause-votes_simple t c =
    let types = types_before (book_of c.args.setting.now.book.now) (length c.args.earlier.now) in
    let are = of_split types c.in-Split.at c.in-Split.seats c.in-Split.votes c.in-Split.method c.in-Split.majority c.in-Split.minima c.args.expr.now c.in-Split.is c.requires.formed c.requires.one in
    subst (λ x. HasNoSplit (tree_of x)) (sym c.deref-in-Split-2.ensures) are.votes.simple

pub with_minima-requires-clause-simple : goal.with_minima-requires-clause-simple
with_minima-requires-clause-simple t c =
    let types = types_before (book_of c.args.setting.now.book.now) (length c.args.earlier.now) in
    let are = of_split types c.in-Split.at c.in-Split.seats c.in-Split.votes c.in-Split.method c.in-Split.majority c.in-Split.minima c.args.expr.now c.in-Split.is c.requires.formed c.requires.one in
    subst (λ x. HasNoSplit (tree_of x)) (sym c.deref-in-Some-minima.ensures) (are.minima c.in-Some-minima.least c.in-Some-minima.is).simple

pub plain_of-requires-in-Grow-clause-seats_simple : goal.plain_of-requires-in-Grow-clause-seats_simple
plain_of-requires-in-Grow-clause-seats_simple t c =
    let types = types_before (book_of c.args.setting.now.book.now) (length c.args.earlier.now) in
    let are = of_growth types c.in-Grow.at c.in-Grow.seats c.in-Grow.votes c.in-Grow.method c.in-Grow.majority c.in-Grow.minima c.in-Grow.cap c.args.expr.now c.in-Grow.is c.requires.formed c.requires.one in
    subst (λ x. HasNoSplit (tree_of x)) (sym c.deref-in-Grow.ensures) are.seats.simple

pub plain_of-requires-in-Grow-clause-votes_simple : goal.plain_of-requires-in-Grow-clause-votes_simple
plain_of-requires-in-Grow-clause-votes_simple t c =
    let types = types_before (book_of c.args.setting.now.book.now) (length c.args.earlier.now) in
    let are = of_growth types c.in-Grow.at c.in-Grow.seats c.in-Grow.votes c.in-Grow.method c.in-Grow.majority c.in-Grow.minima c.in-Grow.cap c.args.expr.now c.in-Grow.is c.requires.formed c.requires.one in
    subst (λ x. HasNoSplit (tree_of x)) (sym c.deref-in-Grow-2.ensures) are.votes.simple

pub with_minima-requires-in-Grow-clause-simple : goal.with_minima-requires-in-Grow-clause-simple
with_minima-requires-in-Grow-clause-simple t c =
    let types = types_before (book_of c.args.setting.now.book.now) (length c.args.earlier.now) in
    let are = of_growth types c.in-Grow.at c.in-Grow.seats c.in-Grow.votes c.in-Grow.method c.in-Grow.majority c.in-Grow.minima c.in-Grow.cap c.args.expr.now c.in-Grow.is c.requires.formed c.requires.one in
    subst (λ x. HasNoSplit (tree_of x)) (sym c.deref-in-Grow-3.ensures) (are.minima c.in-Grow.minima refl).simple
