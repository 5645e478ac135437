-- The key goes last.
use Rattle.std.proofs.Common.{◌≡◌, false, List, [], ◌∷◌, ◌++◌, map, refl, ap, sym, subst, ◌∙◌}
use Rattle.sl_law_meaning.specs.declared.election.Lot.{Lot}
use Rattle.sl_returns.specs.declared.told.LotKey.{LotKey}
use Rattle.sl_returns.specs.Tests.{has_lot}
use Rattle.sl_returns.specs.inner.Lots.{lot_told}
use Rattle.sl_returns.specs.inner.LotKeys.{lot_kept}
use Rattle.sl_returns.proofs.ToldLots.{inserted}
use Rattle.sl_returns.proofs.told.ToldLots.add.Goals as goal

pub returns : goal.returns
returns c =
    let told = c.args.lot.now in
    let key : LotKey = record { land = told.land; party = told.party; stage = c.in_ok-from_slice.field-0; win = told.win } in
    let is : lot_kept key ≡ lot_told told = rw c.in_ok-from_slice.ensures.items refl in
    let new = subst (λ (lots : List Lot). has_lot lots (lot_told told) ≡ false) (sym c.self.view_is) c.requires.new in
    let last = inserted c.self.inside.keys.keys key (lot_told told) is new ∙ ap (λ (lots : List Lot). lots ++ lot_told told ∷ []) c.self.view_is in
    record { added = ap (map lot_kept) c.in_ok-insert.ensures.keys ∙ last }
