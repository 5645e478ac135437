-- The test that fails is the first.
use Rattle.std.proofs.Common.{◌≡◌, ap, sym, ◌∙◌}
use Rattle.std.proofs.lemmas.Result.{on_ok_weaker}
use Rattle.csv.specs.Records.{fields_of}
use Rattle.sl_law_meaning.specs.returns.Election.{with_lot}
use Rattle.sl_returns.specs.inner.Joining.{with_lot_of}
use Rattle.std.proofs.lemmas.Bool.{not-true}
use Rattle.sl_returns.specs.declared.index.Index.{Index}
use Rattle.sl_returns.specs.inner.Lots.{lot_told}
use Rattle.sl_returns.specs.Tests.{has_lot}
use Rattle.sl_returns.proofs.TestLemmas.{after, both, here, exit, left_wanting, taken, wanting}
use Rattle.sl_returns.proofs.join.join_lot.Goals as goal

pub returns-in_err-lot-clause-refused : goal.returns-in_err-lot-clause-refused
returns-in_err-lot-clause-refused c = exit c.from_residual.result c.from_residual.ensures.1 (here _ (c.in_err-lot.ensures.failed c.args.returns.now c.requires.index))

pub returns-in_err-ensure-clause-refused : goal.returns-in_err-ensure-clause-refused
returns-in_err-ensure-clause-refused c =
    let e = c.args.returns.now in
    let cells = c.in_ok-lot.ensures.passed e c.requires.index in
    let among = c.contains.ensures ∙ ap (λ (i : Index). has_lot i.lots (lot_told c.in_ok-lot.lot)) c.requires.index ∙ ap (has_lot e.lots) (c.in_ok-lot.ensures.told e c.requires.index) in
    let new = rw among at c.in_err-ensure.ensures.failed in
    exit c.from_residual-in_err-ensure.result c.from_residual-in_err-ensure.ensures.1 (after cells (here _ new))

pub returns-in_err-ensure-2-clause-refused : goal.returns-in_err-ensure-2-clause-refused
returns-in_err-ensure-2-clause-refused c =
    let e = c.args.returns.now in
    let among = c.contains.ensures ∙ ap (λ (i : Index). has_lot i.lots (lot_told c.in_ok-lot.lot)) c.requires.index ∙ ap (has_lot e.lots) (c.in_ok-lot.ensures.told e c.requires.index) in
    let new = rw among at c.in_ok-ensure.ensures.passed in
    let room = rw c.lots.ensures.lots at c.in_err-ensure-2.ensures.failed in
    exit c.from_residual-in_err-ensure-2.result c.from_residual-in_err-ensure-2.ensures.1 (after (c.in_ok-lot.ensures.passed e c.requires.index) (after new room))

pub add-requires : goal.add-requires
add-requires c = record { new = sym c.contains.ensures ∙ not-true _ c.in_ok-ensure.ensures.held }

pub returns-in_err-kept-clause-refused : goal.returns-in_err-kept-clause-refused
returns-in_err-kept-clause-refused c =
    let e = c.args.returns.now in
    let among = c.contains.ensures ∙ ap (λ (i : Index). has_lot i.lots (lot_told c.in_ok-lot.lot)) c.requires.index ∙ ap (has_lot e.lots) (c.in_ok-lot.ensures.told e c.requires.index) in
    let new = rw among at c.in_ok-ensure.ensures.passed in
    let room = rw c.lots.ensures.lots at c.in_ok-ensure-2.ensures.passed in
    left_wanting c.from_residual-in_err-kept.result c.from_residual-in_err-kept.ensures.1 (both (c.in_ok-lot.ensures.passed e c.requires.index) (both new room)) c.in_err-kept.ensures.err

pub returns-clause-refused : goal.returns-clause-refused
returns-clause-refused c =
    let e = c.args.returns.now in
    let among = c.contains.ensures ∙ ap (λ (i : Index). has_lot i.lots (lot_told c.in_ok-lot.lot)) c.requires.index ∙ ap (has_lot e.lots) (c.in_ok-lot.ensures.told e c.requires.index) in
    let new = rw among at c.in_ok-ensure.ensures.passed in
    let room = rw c.lots.ensures.lots at c.in_ok-ensure-2.ensures.passed in
    wanting c.kept-2.result (both (c.in_ok-lot.ensures.passed e c.requires.index) (both new room)) c.kept-2.ensures.err

pub returns-clause-joined : goal.returns-clause-joined
returns-clause-joined c =
    let e = c.args.returns.now in
    let among = c.contains.ensures ∙ ap (λ (i : Index). has_lot i.lots (lot_told c.in_ok-lot.lot)) c.requires.index ∙ ap (has_lot e.lots) (c.in_ok-lot.ensures.told e c.requires.index) in
    let new = rw among at c.in_ok-ensure.ensures.passed in
    let room = rw c.lots.ensures.lots at c.in_ok-ensure-2.ensures.passed in
    let lot = ap (with_lot e) (c.in_ok-lot.ensures.told e c.requires.index) in
    taken (c.add_lot.new.self ≡ with_lot_of e (fields_of c.args.fields.now)) c.kept-2.result c.add_lot.result c.in_ok-kept.ensures.ok (both (c.in_ok-lot.ensures.passed e c.requires.index) (both new room)) (on_ok_weaker c.add_lot.result (λ added. added ∙ lot) c.add_lot.ensures.added)
