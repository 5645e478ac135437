use Rattle.std.proofs.Common.{filter, map, ◌∙◌}
use Rattle.sl_report_parties.proofs.Steps.{at_end}
use Rattle.sl_report_results.proofs.OwnPlaces.{entry_told}
use Rattle.sl_report_results.proofs.Pushed.{kept_next}
use Rattle.sl_report_results.specs.Scopes.{entry_of, is_shown}
use Rattle.sl_report_results.proofs.scopes.shown_entries.Goals as goal

pub loop-number-preserved : goal.loop-number-preserved
loop-number-preserved c = λ stage steps lot told.
    let items = c.args.items.now in
    kept_next items (entry_of c.args.returns.now stage c.args.what.now steps lot items) is_shown c.loop-number.number _ _ _ _
    c.loop-number-test.true (c.loop-number.invariant stage steps lot told) c.in_ok-push_shown.ensures
    (c.entry_of.ensures ∙ entry_told c.args.returns.now c.args.what.now stage steps lot c.args.won.now.cells.items c.args.places.now items told c.loop-number.number _ _ c.loop-number-test.true c.place_at-place.ensures)

pub returns : goal.returns
returns c = λ stage steps lot told.
    at_end (λ items. filter is_shown (map (entry_of c.args.returns.now stage c.args.what.now steps lot c.args.items.now) items)) c.args.items.now c.loop-number.number _
    c.loop-number-test.false (c.loop-number.invariant stage steps lot told)
