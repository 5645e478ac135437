use Rattle.std.proofs.Common.{length, sym, subst}
use Rattle.std.specs.List.{All}
use Rattle.sl_code_semantics.specs.Fits.{HasScope}
use Rattle.sl_count_texts.specs.declared.bounds.ScopeBounds.{ScopeBounds}
use Rattle.sl_count_texts.proofs.FoundBounds.{found_fit}
use Rattle.sl_count_texts.proofs.bounds_form.bounds_lines.Goals as goal

pub bounds_line-requires-clause-fits : goal.bounds_line-requires-clause-fits
bounds_line-requires-clause-fits c =
    let e = c.args.returns.now in
    let all = subst (All (λ b. HasScope e b.scope)) (sym c.deref-bounds-items.ensures.value) (found_fit (length c.args.code.now.stages) e c.args.table.now c.in_ok-found.found.items c.requires.fits c.in_ok-found.ensures) in
    subst (λ (b : ScopeBounds). HasScope e b.scope) (sym c.bounds-item.is) (all c.loop-bounds.bounds-index c.bounds-item.result c.loop-bounds-test.true)
