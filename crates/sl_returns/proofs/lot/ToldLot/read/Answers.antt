-- The test that fails is the first.
use Rattle.std.proofs.Common.{◌∙◌, refl}
use Rattle.csv.specs.Records.{fields_of}
use Rattle.sl_returns.specs.Records.{lot_of}
use Rattle.sl_returns.proofs.NameTests.{found_or_none}
use Rattle.sl_returns.proofs.TestLemmas.{after, both, here, nothing, refusing}
use Rattle.sl_returns.proofs.lot.ToldLot.read.Goals as goal

pub returns-in_err-ensure_filled-clause-failed : goal.returns-in_err-ensure_filled-clause-failed
returns-in_err-ensure_filled-clause-failed c e is =
    let filled = c.in_err-ensure_filled.ensures.failed in
    refusing c.from_residual.result c.from_residual.ensures.1 (here _ filled)

pub returns-in_err-land-clause-failed : goal.returns-in_err-land-clause-failed
returns-in_err-land-clause-failed c e is =
    let filled = c.in_ok-ensure_filled.ensures.passed in
    let land = rw (c.find.ensures.number, is, c.cell-land_name.ensures) at c.in_err-land.ensures.failed in
    refusing c.from_residual-in_err-land.result c.from_residual-in_err-land.ensures.1 (after filled (here _ land))

pub returns-in_err-party-clause-failed : goal.returns-in_err-party-clause-failed
returns-in_err-party-clause-failed c e is =
    let filled = c.in_ok-ensure_filled.ensures.passed in
    let land = rw (c.find.ensures.number, is, c.cell-land_name.ensures) at c.in_ok-land.ensures.passed in
    let party = rw (c.find-2.ensures.number, is, c.cell-party_name.ensures) at c.in_err-party.ensures.failed in
    refusing c.from_residual-in_err-party.result c.from_residual-in_err-party.ensures.1 (after filled (after land (here _ party)))

pub returns-in_err-name-clause-failed : goal.returns-in_err-name-clause-failed
returns-in_err-name-clause-failed c e is =
    let filled = c.in_ok-ensure_filled.ensures.passed in
    let land = rw (c.find.ensures.number, is, c.cell-land_name.ensures) at c.in_ok-land.ensures.passed in
    let party = rw (c.find-2.ensures.number, is, c.cell-party_name.ensures) at c.in_ok-party.ensures.passed in
    let stage = rw c.cell-stage.ensures at c.in_err-name.ensures.failed in
    refusing c.from_residual-in_err-name.result c.from_residual-in_err-name.ensures.1 (after filled (after land (after party (here _ stage))))

pub returns-in_err-win-clause-failed : goal.returns-in_err-win-clause-failed
returns-in_err-win-clause-failed c e is =
    let filled = c.in_ok-ensure_filled.ensures.passed in
    let land = rw (c.find.ensures.number, is, c.cell-land_name.ensures) at c.in_ok-land.ensures.passed in
    let party = rw (c.find-2.ensures.number, is, c.cell-party_name.ensures) at c.in_ok-party.ensures.passed in
    let stage = rw c.cell-stage.ensures at c.in_ok-name.ensures.passed in
    let win = rw (is, c.cell-win_name.ensures) at c.in_err-win.ensures.failed in
    refusing c.from_residual-in_err-win.result c.from_residual-in_err-win.ensures.1 (after filled (after land (after party (after stage (here _ win)))))

pub returns-clause-passed : goal.returns-clause-passed
returns-clause-passed c e is =
    let filled = c.in_ok-ensure_filled.ensures.passed in
    let land = rw (c.find.ensures.number, is, c.cell-land_name.ensures) at c.in_ok-land.ensures.passed in
    let party = rw (c.find-2.ensures.number, is, c.cell-party_name.ensures) at c.in_ok-party.ensures.passed in
    let stage = rw c.cell-stage.ensures at c.in_ok-name.ensures.passed in
    let win = rw (is, c.cell-win_name.ensures) at c.in_ok-win.ensures.passed in
    both filled (both land (both party (both stage (both win nothing))))

pub returns-clause-told : goal.returns-clause-told
returns-clause-told c e is =
    let land_known = rw (c.find.ensures.number, is) at c.in_ok-land.ensures.passed in
    let land_number = rw (c.find.ensures.number, is) at c.in_ok-land.ensures.number in
    let party_known = rw (c.find-2.ensures.number, is) at c.in_ok-party.ensures.passed in
    let party_number = rw (c.find-2.ensures.number, is) at c.in_ok-party.ensures.number in
    let land = land_number ∙ found_or_none _ e.land_names c.cell-land_name.result.now land_known in
    let party = party_number ∙ found_or_none _ e.party_names c.cell-party_name.result.now party_known in
    let win_known = rw is at c.in_ok-win.ensures.passed in
    let win_number = rw is at c.in_ok-win.ensures.number in
    let win = win_number ∙ found_or_none _ e.win_names c.cell-win_name.result.now win_known in
    rw (land, party, win, c.cell-land_name.ensures, c.cell-party_name.ensures, c.cell-stage.ensures, c.cell-win_name.ensures) (refl {a = lot_of e.land_names e.party_names e.win_names (fields_of c.args.fields.now)})
