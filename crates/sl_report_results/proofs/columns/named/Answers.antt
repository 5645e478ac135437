use Rattle.std.proofs.Common.{◌≡◌, ◌<◌, ℕ, false, Some, get_or, length, true, sym, ap, subst, ◌∙◌}
use Rattle.std.specs.Str.{bytes_eq}
use Rattle.sl_law_meaning.specs.declared.book.Stage.{Stage}
use Rattle.sl_law_meaning.specs.book.Books.{book_of}
use Rattle.sl_report_results.specs.Values.{types_before}
use Rattle.sl_report_results.proofs.Named.{found}
use Rattle.sl_report_results.proofs.Typed.{not_known, shape_of, ok_weaker}
use Rattle.sl_report_results.proofs.columns.named.Goals as goal

pub unreachable-requires : goal.unreachable-requires
unreachable-requires c =
    let n = c.args.name.now in
    let stages = c.args.setting.now.book.now.stages.items in
    let b = book_of c.args.setting.now.book.now in
    let none : (k : ℕ) (d : Stage) → k < length stages → k < length c.args.earlier.now → bytes_eq n (get_or stages k d).name ≡ false =
    subst (λ ss. (k : ℕ) (d : Stage) → k < length ss → k < length c.args.earlier.now → bytes_eq n (get_or ss k d).name ≡ false) c.as_slice.ensures.value c.in-None.ensures.first in
    let never = not_known c.args.setting.now.returns.now n (types_before b (length c.args.earlier.now)) stages c.args.earlier.now c.requires.before.typed none in
    let known = c.requires.known in
    cc

pub returns-clause-values : goal.returns-clause-values
returns-clause-values c =
    ok_weaker c.copy_of.result (λ o is.
    found c.args.name.now c.args.setting.now.book.now.stages.items c.args.earlier.now c.in-Some.number c.index-earlier-number.result _ c.as_slice.ensures.value
    c.in-Some.ensures.within.0 c.in-Some.ensures.within.1 c.in-Some.ensures.first c.index-earlier-number.is
    ∙ ap Some (sym is)) c.copy_of.ensures.cells

pub returns-clause-shape : goal.returns-clause-shape
returns-clause-shape c =
    let n = c.args.name.now in
    let stages = c.args.setting.now.book.now.stages.items in
    let earlier = c.args.earlier.now in
    let b = book_of c.args.setting.now.book.now in
    let k = c.in-Some.number in
    let in_stages : k < length stages = subst (λ ss. k < length ss) c.as_slice.ensures.value c.in-Some.ensures.within.0 in
    let first = subst (λ ss. (d : Stage) → (bytes_eq n (get_or ss k d).name ≡ true) × ((j : ℕ) → j < k → bytes_eq n (get_or ss j d).name ≡ false)) c.as_slice.ensures.value c.in-Some.ensures.first in
    ok_weaker c.copy_of.result (λ o is.
    is ∙ ap (λ x. x.shape) c.index-earlier-number.is
    ∙ shape_of c.args.setting.now.returns.now n (types_before b (length earlier)) stages earlier c.requires.before.typed c.requires.before.shapes k c.index-earlier-number.result in_stages c.in-Some.ensures.within.1 first)
    c.copy_of.ensures.shape
