use Rattle.std.proofs.Common.{◌≡◌, Some, arith, inr, length, take, sym, ap, subst, ◌∙◌}
use Rattle.std.specs.Prelude.{MatchOption}
use Rattle.std.proofs.lemmas.List.{get_or_default, length-take-le}
use Rattle.std.proofs.lemmas.Option.{slice_get-get_or}
use Rattle.sl_report_results.proofs.Before.{columns_long, have_types, well_formed}
use Rattle.sl_report_results.proofs.Typed.{ok_weaker}
use Rattle.sl_report_results.specs.StageScopes.{AreStageScopes, name_of}
use Rattle.sl_report_results.specs.Scopes.{AreScopes}
use Rattle.sl_report_results.specs.Values.{HasNoSplit, HaveTypes, IsDistributed, IsWellFormed, named_columns, types_before}
use Rattle.sl_law_meaning.specs.book.Books.{book_of}
use Rattle.sl_law_meaning.specs.book.Trees.{tree_of}
use Rattle.sl_report_results.proofs.distributed.stage_scopes.Goals as goal

pub slice_bounds-earlier-end : goal.slice_bounds-earlier-end
slice_bounds-earlier-end c =
    let s = c.args.setting.now in
    let long = columns_long s.book.now s.returns.now c.args.counted.now.columns.items s.typed c.requires.counted in
    sym (length-take-le c.args.stage c.as_slice.result.now (omega (arith, c.requires.stage, long, ap length c.as_slice.ensures.value)))

pub distribution_of-requires-clause-before : goal.distribution_of-requires-clause-before
distribution_of-requires-clause-before c =
    let s = c.args.setting.now in
    subst (λ cs. HaveTypes (book_of s.book.now) s.returns.now s.book.now.stages.items (take c.args.stage cs)) (sym c.as_slice.ensures.value)
    (have_types s.book.now s.returns.now c.args.counted.now.columns.items s.typed c.requires.counted s.kept c.args.stage (omega (arith, c.requires.stage)))

pub distribution_of-requires-clause-formed : goal.distribution_of-requires-clause-formed
distribution_of-requires-clause-formed c =
    let s = c.args.setting.now in
    let there = slice_get-get_or s.book.now.stages.items c.args.stage c.index.result.now c.requires.stage ∙ ap Some (sym c.index.ensures) in
    let long = columns_long s.book.now s.returns.now c.args.counted.now.columns.items s.typed c.requires.counted in
    let few : c.args.stage ≡ length (take c.args.stage c.as_slice.result.now) =
    sym (length-take-le c.args.stage c.as_slice.result.now (omega (arith, c.requires.stage, long, ap length c.as_slice.ensures.value))) in
    subst (λ n. IsWellFormed (types_before (book_of s.book.now) n) (tree_of c.index.result.now.expr)) few
    (well_formed s.book.now s.returns.now c.args.counted.now.columns.items s.typed c.args.stage c.index.result.now there).1

pub distribution_of-requires-clause-one : goal.distribution_of-requires-clause-one
distribution_of-requires-clause-one c =
    let s = c.args.setting.now in
    let there = slice_get-get_or s.book.now.stages.items c.args.stage c.index.result.now c.requires.stage ∙ ap Some (sym c.index.ensures) in
    (well_formed s.book.now s.returns.now c.args.counted.now.columns.items s.typed c.args.stage c.index.result.now there).0

pub returns-in-Some : goal.returns-in-Some
returns-in-Some c =
    let s = c.args.setting.now in
    let b = book_of s.book.now in
    let e = s.returns.now in
    let stages = s.book.now.stages.items in
    let n = c.args.stage in
    let columns = c.args.counted.now.columns.items in
    let what = c.in-Some.what in
    let long = columns_long s.book.now e columns s.typed c.requires.counted in
    let few : length (take n c.as_slice.result.now) ≡ n = length-take-le n c.as_slice.result.now (omega (arith, c.requires.stage, long, ap length c.as_slice.ensures.value)) in
    let told : IsDistributed b e (types_before b (length (take n c.as_slice.result.now))) (named_columns stages (take n c.as_slice.result.now)) (tree_of c.index.result.now.expr) what =
    subst (λ o. MatchOption o (HasNoSplit (tree_of c.index.result.now.expr))
    (IsDistributed b e (types_before b (length (take n c.as_slice.result.now))) (named_columns stages (take n c.as_slice.result.now)) (tree_of c.index.result.now.expr))) c.in-Some.is c.in_ok-what.ensures in
    let here : IsDistributed b e (types_before b n) (named_columns stages (take n columns)) (tree_of c.index.result.now.expr) what =
    subst (λ cs. IsDistributed b e (types_before b n) (named_columns stages (take n cs)) (tree_of c.index.result.now.expr) what) c.as_slice.ensures.value
    (subst (λ m. IsDistributed b e (types_before b m) (named_columns stages (take n c.as_slice.result.now)) (tree_of c.index.result.now.expr) what) few told) in
    ok_weaker c.scopes_of.result
    (λ found are d.
    subst (λ x. AreStageScopes b e stages columns c.args.counted.now.table.steps n (tree_of x.expr) found.items)
    (c.index.ensures ∙ get_or_default stages n c.index.result.now d c.requires.stage)
    (inr (what, here, subst (λ steps. AreScopes e (name_of stages n) n what steps found.items) c.steps.ensures are)))
    c.scopes_of.ensures
