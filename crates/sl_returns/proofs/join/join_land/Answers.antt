-- The test that fails is the first.
use Rattle.std.proofs.Common.{◌<◌, length}
use Rattle.std.proofs.lemmas.Bool.{ltb-true}
use Rattle.sl_base_quotients.specs.declared.limits.TheConstants.{MAX_LANDS}
use Rattle.sl_returns.proofs.NameTests.{may_join}
use Rattle.sl_returns.proofs.TestLemmas.{after, both, here, nothing, exit, wanting}
use Rattle.sl_returns.proofs.join.join_land.Goals as goal

pub returns-in_err-blanks-clause-refused : goal.returns-in_err-blanks-clause-refused
returns-in_err-blanks-clause-refused c =
    let blank = c.in_err-blanks.ensures.failed in
    exit c.from_residual.result c.from_residual.ensures.1 (here _ blank)

pub returns-in_err-new_name-clause-refused : goal.returns-in_err-new_name-clause-refused
returns-in_err-new_name-clause-refused c =
    let blank = c.in_ok-blanks.ensures.passed in
    let name = rw (c.find.ensures.number, c.requires.index, c.cell-name.ensures) at c.in_err-new_name.ensures.failed in
    exit c.from_residual-in_err-new_name.result c.from_residual-in_err-new_name.ensures.1 (after blank (here _ (here _ name)))

pub returns-in_err-population-clause-refused : goal.returns-in_err-population-clause-refused
returns-in_err-population-clause-refused c =
    let blank = c.in_ok-blanks.ensures.passed in
    let name = rw (c.find.ensures.number, c.requires.index, c.cell-name.ensures) at c.in_ok-new_name.ensures.passed in
    let people = rw c.cell.ensures at c.in_err-population.ensures.failed in
    exit c.from_residual-in_err-population.result c.from_residual-in_err-population.ensures.1 (after blank (here _ (after name (here _ people))))

pub returns-in_err-ensure-clause-refused : goal.returns-in_err-ensure-clause-refused
returns-in_err-ensure-clause-refused c =
    let blank = c.in_ok-blanks.ensures.passed in
    let name = rw (c.find.ensures.number, c.requires.index, c.cell-name.ensures) at c.in_ok-new_name.ensures.passed in
    let people = rw c.cell.ensures at c.in_ok-population.ensures.passed.0 in
    let room = rw c.lands.ensures.number at c.in_err-ensure.ensures.failed in
    exit c.from_residual-in_err-ensure.result c.from_residual-in_err-ensure.ensures.1 (after blank (after (both name (both people nothing)) room))

pub returns-clause-refused : goal.returns-clause-refused
returns-clause-refused c =
    let blank = c.in_ok-blanks.ensures.passed in
    let name = rw (c.find.ensures.number, c.requires.index, c.cell-name.ensures) at c.in_ok-new_name.ensures.passed in
    let people = rw c.cell.ensures at c.in_ok-population.ensures.passed.0 in
    let room = rw c.lands.ensures.number at c.in_ok-ensure.ensures.passed in
    wanting c.kept-2.result (both blank (both (both name (both people nothing)) room)) c.kept-2.ensures.err

pub add_land-requires-clause-name : goal.add_land-requires-clause-name
add_land-requires-clause-name c =
    let name = rw (c.find.ensures.number, c.requires.index) at c.in_ok-new_name.ensures.passed in
    let free : length c.args.returns.now.land_names < MAX_LANDS = ltb-true _ _ (rw c.lands.ensures.number at c.in_ok-ensure.ensures.held) in
    may_join _ c.args.returns.now.land_names MAX_LANDS c.cell-name.result.now name free

pub add_name-requires : goal.add_name-requires
add_name-requires c =
    let name = rw (c.find.ensures.number, c.requires.index) at c.in_ok-new_name.ensures.passed in
    let free : length c.args.returns.now.land_names < MAX_LANDS = ltb-true _ _ (rw c.lands.ensures.number at c.in_ok-ensure.ensures.held) in
    rw c.requires.index (may_join _ c.args.returns.now.land_names MAX_LANDS c.cell-name.result.now name free)
