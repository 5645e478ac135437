use Rattle.std.proofs.Common.{IfOk, arith, length, refl, sym, ap, subst, ◌∙◌}
use Rattle.sl_report_results.proofs.Typed.{column_of, few, not_capped, fits, ok_both}
use Rattle.sl_report_results.proofs.ValueSteps.{sum_value, pair_value}
use Rattle.sl_report_results.specs.Values.{named_columns, types_before, IsColumnOf, IsValue, IsWellFormed, HasNoSplit}
use Rattle.sl_law_meaning.specs.book.Books.{book_of}
use Rattle.sl_law_meaning.specs.book.Limits.{depth_of}
use Rattle.sl_law_meaning.specs.laws.ColumnLaws.{most_of}
use Rattle.sl_law_meaning.specs.book.Trees.{fact, name, pair, sum, tree_of}
use Rattle.sl_law_meaning.specs.book.Typing.{expr_tests, sum_tests, type_of}
use Rattle.std.specs.Prelude.{find, option_map}
use Rattle.sl_law_meaning.specs.meaning.Columns.{is_column_of, sum_over}
use Rattle.sl_base_terms.proofs.Tests.{pass_parts}
use Rattle.sl_report_results.proofs.columns.+value_of.Goals as goal

pub value_of-requires : goal.value_of-requires
value_of-requires t c =
    let types = types_before (book_of c.args.setting.now.book.now) (length c.args.earlier.now) in
    let formed : IsWellFormed types (sum c.in-Sum.at (tree_of c.in-Sum.of.value) c.in-Sum.over) = subst (λ x. IsWellFormed types (tree_of x)) c.in-Sum.is c.requires.formed in
    let simple : HasNoSplit (tree_of c.in-Sum.of.value) = subst (λ x. HasNoSplit (tree_of x)) c.in-Sum.is c.requires.simple in
    let parts = pass_parts (expr_tests types (tree_of c.in-Sum.of.value)) (sum_tests c.in-Sum.at (type_of types (tree_of c.in-Sum.of.value)) c.in-Sum.over) formed in
    (omega (arith, c.decreases, ap (λ x. depth_of (tree_of x)) c.in-Sum.is, ap (λ x. depth_of (tree_of x)) c.deref.ensures), (c.requires.before, (subst (λ x. IsWellFormed types (tree_of x)) (sym c.deref.ensures) parts.0, subst (λ x. HasNoSplit (tree_of x)) (sym c.deref.ensures) simple)))

pub value_of-requires-in-Pair : goal.value_of-requires-in-Pair
value_of-requires-in-Pair t c =
    let types = types_before (book_of c.args.setting.now.book.now) (length c.args.earlier.now) in
    let l = tree_of c.in-Pair.left.value in
    let r = tree_of c.in-Pair.right.value in
    let formed : IsWellFormed types (pair c.in-Pair.at c.in-Pair.pairing l r) = subst (λ x. IsWellFormed types (tree_of x)) c.in-Pair.is c.requires.formed in
    let simple : HasNoSplit (pair c.in-Pair.at c.in-Pair.pairing l r) = subst (λ x. HasNoSplit (tree_of x)) c.in-Pair.is c.requires.simple in
    let parts = pass_parts (expr_tests types l) _ formed in
    let none : HasNoSplit l = omega (arith, simple) in
    (omega (arith, c.decreases, ap (λ x. depth_of (tree_of x)) c.in-Pair.is, ap (λ x. depth_of (tree_of x)) c.deref-in-Pair.ensures), (c.requires.before, (subst (λ x. IsWellFormed types (tree_of x)) (sym c.deref-in-Pair.ensures) parts.0, subst (λ x. HasNoSplit (tree_of x)) (sym c.deref-in-Pair.ensures) none)))

pub value_of-requires-in-Pair-2 : goal.value_of-requires-in-Pair-2
value_of-requires-in-Pair-2 t c =
    let types = types_before (book_of c.args.setting.now.book.now) (length c.args.earlier.now) in
    let l = tree_of c.in-Pair.left.value in
    let r = tree_of c.in-Pair.right.value in
    let formed : IsWellFormed types (pair c.in-Pair.at c.in-Pair.pairing l r) = subst (λ x. IsWellFormed types (tree_of x)) c.in-Pair.is c.requires.formed in
    let simple : HasNoSplit (pair c.in-Pair.at c.in-Pair.pairing l r) = subst (λ x. HasNoSplit (tree_of x)) c.in-Pair.is c.requires.simple in
    let parts = pass_parts (expr_tests types r) _ (pass_parts (expr_tests types l) _ formed).1 in
    let none : HasNoSplit r = omega (arith, simple) in
    (omega (arith, c.decreases, ap (λ x. depth_of (tree_of x)) c.in-Pair.is, ap (λ x. depth_of (tree_of x)) c.deref-in-Pair-2.ensures), (c.requires.before, (subst (λ x. IsWellFormed types (tree_of x)) (sym c.deref-in-Pair-2.ensures) parts.0, subst (λ x. HasNoSplit (tree_of x)) (sym c.deref-in-Pair-2.ensures) none)))

pub returns-in-Fact : goal.returns-in-Fact
returns-in-Fact t c =
    let s = c.args.setting.now in
    let b = book_of s.book.now in
    let types = types_before b (length c.args.earlier.now) in
    let columns = named_columns s.book.now.stages.items c.args.earlier.now in
    let x = fact c.in-Fact.at c.in-Fact.fact in
    let formed : IsWellFormed types x = subst (λ x. IsWellFormed types (tree_of x)) c.in-Fact.is c.requires.formed in
    subst (λ y. IfOk c.fact.result (IsColumnOf b s.returns.now types columns (tree_of y))) (sym c.in-Fact.is)
    (ok_both c.fact.result (λ o same is. column_of b s.returns.now s.typed s.kept types columns c.requires.before.typed x o formed (λ ctx known. (o.cells.items, is, refl)) same) c.fact.ensures.shape c.fact.ensures.cells)

pub returns-in-Name : goal.returns-in-Name
returns-in-Name t c =
    let s = c.args.setting.now in
    let b = book_of s.book.now in
    let types = types_before b (length c.args.earlier.now) in
    let columns = named_columns s.book.now.stages.items c.args.earlier.now in
    let x = name c.in-Name.at c.in-Name.name in
    let formed : IsWellFormed types x = subst (λ x. IsWellFormed types (tree_of x)) c.in-Name.is c.requires.formed in
    subst (λ y. IfOk c.named.result (IsColumnOf b s.returns.now types columns (tree_of y))) (sym c.in-Name.is)
    (ok_both c.named.result (λ o same is. column_of b s.returns.now s.typed s.kept types columns c.requires.before.typed x o formed (λ ctx known. (o.cells.items, ap (λ cs. option_map (λ z. z.values) (find (is_column_of c.in-Name.name) cs)) known ∙ is, refl)) same) c.named.ensures.shape c.named.ensures.values)

pub returns-in_ok-of-in-Sum : goal.returns-in_ok-of-in-Sum
returns-in_ok-of-in-Sum t c =
    let s = c.args.setting.now in
    let e = s.returns.now in
    let b = book_of s.book.now in
    let types = types_before b (length c.args.earlier.now) in
    let columns = named_columns s.book.now.stages.items c.args.earlier.now in
    let y = tree_of c.in-Sum.of.value in
    let x = sum c.in-Sum.at y c.in-Sum.over in
    let xs = c.in_ok-of-in-Sum.of.cells.items in
    let formed : IsWellFormed types x = subst (λ x. IsWellFormed types (tree_of x)) c.in-Sum.is c.requires.formed in
    let of : IsColumnOf b e types columns y c.in_ok-of-in-Sum.of = subst (λ z. IsColumnOf b e types columns (tree_of z) c.in_ok-of-in-Sum.of) c.deref.ensures c.in_ok-of-in-Sum.ensures in
    let means : IsValue b e columns x (sum_over e c.in-Sum.over xs) = sum_value b e columns c.in-Sum.at y c.in-Sum.over xs _ of.means refl in
    let within = (fits b e s.typed s.kept types columns c.requires.before.typed x formed (sum_over e c.in-Sum.over xs) means).most in
    subst (λ z. IfOk c.summed.result (IsColumnOf b e types columns (tree_of z))) (sym c.in-Sum.is)
    (ok_both c.summed.result (λ o same is.
    column_of b e s.typed s.kept types columns c.requires.before.typed x o formed
    (subst (IsValue b e columns x) (sym (is ∙ not_capped (most_of (type_of types x)) (few (type_of types x)) (sum_over e c.in-Sum.over xs) within)) means) same)
    c.summed.ensures.shape c.summed.ensures.cells)

pub returns-in_ok-right-in-Pair : goal.returns-in_ok-right-in-Pair
returns-in_ok-right-in-Pair t c =
    let s = c.args.setting.now in
    let e = s.returns.now in
    let b = book_of s.book.now in
    let types = types_before b (length c.args.earlier.now) in
    let columns = named_columns s.book.now.stages.items c.args.earlier.now in
    let l = tree_of c.in-Pair.left.value in
    let r = tree_of c.in-Pair.right.value in
    let x = pair c.in-Pair.at c.in-Pair.pairing l r in
    let formed : IsWellFormed types x = subst (λ x. IsWellFormed types (tree_of x)) c.in-Pair.is c.requires.formed in
    let first : IsColumnOf b e types columns l c.in_ok-left-in-Pair.left = subst (λ z. IsColumnOf b e types columns (tree_of z) c.in_ok-left-in-Pair.left) c.deref-in-Pair.ensures c.in_ok-left-in-Pair.ensures in
    let second : IsColumnOf b e types columns r c.in_ok-right-in-Pair.right = subst (λ z. IsColumnOf b e types columns (tree_of z) c.in_ok-right-in-Pair.right) c.deref-in-Pair-2.ensures c.in_ok-right-in-Pair.ensures in
    subst (λ z. IfOk c.paired.result (IsColumnOf b e types columns (tree_of z))) (sym c.in-Pair.is)
    (ok_both c.paired.result (λ o same is.
    column_of b e s.typed s.kept types columns c.requires.before.typed x o formed
    (pair_value b e columns c.in-Pair.at c.in-Pair.pairing l r c.in_ok-left-in-Pair.left.cells.items c.in_ok-right-in-Pair.right.cells.items o.cells.items first.means second.means is)
    (same ∙ first.of_shape))
    c.paired.ensures.shape c.paired.ensures.cells)
