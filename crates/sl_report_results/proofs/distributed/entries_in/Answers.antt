use Rattle.std.proofs.Common.{◌≡◌, IfOk, length, subst, ◌∙◌}
use Rattle.sl_report_results.proofs.OwnPlaces.{told}
use Rattle.sl_report_results.specs.Places.{items_in}
use Rattle.sl_report_results.specs.Scopes.{shown_entries}
use Rattle.sl_report_results.specs.StageScopes.{name_of}
use Rattle.sl_report_results.specs.inner.Tables.{ArePlaces, AreTold}
use Rattle.sl_law_meaning.specs.meaning.Lots.{stage_lot}
use Rattle.sl_report_results.proofs.distributed.entries_in.Goals as goal

pub returns : goal.returns
returns c = λ steps won.
    let e = c.args.setting.now.returns.now in
    let what = c.args.what.now in
    let votes = what.votes.shape in
    let n = c.args.stage in
    let stages = c.args.setting.now.book.now.stages.items in
    let cells = c.args.won.now.cells.items in
    let items = items_in e votes c.args.scope in
    let lot = stage_lot e (name_of stages n) votes items in
    let drawn : ArePlaces lot (length items) c.in_ok-places.places.items = rw (← c.requires.given, ← c.in_ok-items.ensures, ← c.as_slice.ensures.value) c.in_ok-places.ensures in
    let all : AreTold e n steps lot cells c.as_slice-2.result.now items = rw c.as_slice-2.ensures.value (told e votes c.args.scope n steps lot cells c.in_ok-places.places.items c.requires.scope won drawn) in
    let same : c.as_slice-3.result.now ≡ items = c.as_slice-3.ensures.value ∙ c.in_ok-items.ensures in
    subst (λ is. AreTold e n steps lot cells c.as_slice-2.result.now is → IfOk c.shown_entries.result (λ entries. entries.items ≡ shown_entries e n what steps lot is)) same (c.shown_entries.ensures n steps lot) all
