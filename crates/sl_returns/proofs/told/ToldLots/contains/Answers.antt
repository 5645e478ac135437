-- The lots are those that the keys stand for.
use Rattle.std.proofs.Common.{List, ap, sym, ◌∙◌}
use Rattle.sl_law_meaning.specs.declared.election.Lot.{Lot}
use Rattle.sl_returns.specs.Tests.{has_lot}
use Rattle.sl_returns.specs.inner.Lots.{lot_told}
use Rattle.sl_returns.proofs.ToldLots.{found}
use Rattle.sl_returns.proofs.told.ToldLots.contains.Goals as goal

pub returns : goal.returns
returns c =
    let lot = lot_told c.args.lot.now in
    c.contains.ensures ∙ sym (found c.self.inside.keys.keys lot) ∙ ap (λ (lots : List Lot). has_lot lots lot) c.self.view_is
