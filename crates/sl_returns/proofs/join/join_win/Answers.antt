-- The test that fails is the first.
use Rattle.std.proofs.Common.{◌≡◌, ◌<◌, ◌∙◌, refl, length, arith}
use Rattle.std.proofs.lemmas.Result.{on_ok_weaker}
use Rattle.csv.specs.Records.{fields_of}
use Rattle.sl_law_meaning.specs.returns.Election.{with_win}
use Rattle.sl_returns.specs.inner.Joining.{with_win_of}
use Rattle.sl_returns.proofs.join.join_win.Goals.{After-kept-2}
use Rattle.std.proofs.lemmas.Bool.{ltb-true}
use Rattle.sl_law_meaning.specs.declared.limits.TheConstants.{MAX_WINS}
use Rattle.sl_returns.proofs.NameTests.{found_or_none, found_place, may_join}
use Rattle.sl_returns.proofs.TestLemmas.{after, both, here, nothing, exit, left_wanting, taken, wanting}
use Rattle.sl_returns.proofs.join.join_win.Goals as goal

pub returns-in_err-land-clause-refused : goal.returns-in_err-land-clause-refused
returns-in_err-land-clause-refused c =
    let land = rw (c.find.ensures.number, c.requires.index, c.cell-land_name.ensures) at c.in_err-land.ensures.failed in
    exit c.from_residual.result c.from_residual.ensures.1 (here _ (here _ land))

pub returns-in_err-party-clause-refused : goal.returns-in_err-party-clause-refused
returns-in_err-party-clause-refused c =
    let land = rw (c.find.ensures.number, c.requires.index, c.cell-land_name.ensures) at c.in_ok-land.ensures.passed in
    let party = rw (c.find-2.ensures.number, c.requires.index, c.cell-party_name.ensures) at c.in_err-party.ensures.failed in
    exit c.from_residual-in_err-party.result c.from_residual-in_err-party.ensures.1 (here _ (after land (here _ party)))

pub returns-in_err-new_name-clause-refused : goal.returns-in_err-new_name-clause-refused
returns-in_err-new_name-clause-refused c =
    let land = rw (c.find.ensures.number, c.requires.index, c.cell-land_name.ensures) at c.in_ok-land.ensures.passed in
    let party = rw (c.find-2.ensures.number, c.requires.index, c.cell-party_name.ensures) at c.in_ok-party.ensures.passed in
    let name = rw (c.find-3.ensures.number, c.requires.index, c.cell-name.ensures) at c.in_err-new_name.ensures.failed in
    exit c.from_residual-in_err-new_name.result c.from_residual-in_err-new_name.ensures.1 (here _ (after land (after party (here _ name))))

pub returns-in_err-first-clause-refused : goal.returns-in_err-first-clause-refused
returns-in_err-first-clause-refused c =
    let land = rw (c.find.ensures.number, c.requires.index, c.cell-land_name.ensures) at c.in_ok-land.ensures.passed in
    let party = rw (c.find-2.ensures.number, c.requires.index, c.cell-party_name.ensures) at c.in_ok-party.ensures.passed in
    let name = rw (c.find-3.ensures.number, c.requires.index, c.cell-name.ensures) at c.in_ok-new_name.ensures.passed in
    let first = rw c.cell.ensures at c.in_err-first.ensures.failed in
    exit c.from_residual-in_err-first.result c.from_residual-in_err-first.ensures.1 (here _ (after land (after party (after name (here _ first)))))

pub returns-in_err-valid-clause-refused : goal.returns-in_err-valid-clause-refused
returns-in_err-valid-clause-refused c =
    let land = rw (c.find.ensures.number, c.requires.index, c.cell-land_name.ensures) at c.in_ok-land.ensures.passed in
    let party = rw (c.find-2.ensures.number, c.requires.index, c.cell-party_name.ensures) at c.in_ok-party.ensures.passed in
    let name = rw (c.find-3.ensures.number, c.requires.index, c.cell-name.ensures) at c.in_ok-new_name.ensures.passed in
    let first = rw c.cell.ensures at c.in_ok-first.ensures.passed.0 in
    let valid = rw c.cell-2.ensures at c.in_err-valid.ensures.failed in
    exit c.from_residual-in_err-valid.result c.from_residual-in_err-valid.ensures.1 (here _ (after land (after party (after name (after first (here _ valid))))))

pub returns-in_err-ensure-clause-refused : goal.returns-in_err-ensure-clause-refused
returns-in_err-ensure-clause-refused c =
    let land = rw (c.find.ensures.number, c.requires.index, c.cell-land_name.ensures) at c.in_ok-land.ensures.passed in
    let party = rw (c.find-2.ensures.number, c.requires.index, c.cell-party_name.ensures) at c.in_ok-party.ensures.passed in
    let name = rw (c.find-3.ensures.number, c.requires.index, c.cell-name.ensures) at c.in_ok-new_name.ensures.passed in
    let first = rw c.cell.ensures at c.in_ok-first.ensures.passed.0 in
    let valid = rw c.cell-2.ensures at c.in_ok-valid.ensures.passed.0 in
    let within = rw (c.in_ok-first.ensures.passed.1, c.in_ok-valid.ensures.passed.1, c.cell-2.ensures, c.cell.ensures) at c.in_err-ensure.ensures.failed in
    exit c.from_residual-in_err-ensure.result c.from_residual-in_err-ensure.ensures.1 (after (both land (both party (both name (both first (both valid nothing))))) (here _ within))

pub returns-in_err-ensure-2-clause-refused : goal.returns-in_err-ensure-2-clause-refused
returns-in_err-ensure-2-clause-refused c =
    let land = rw (c.find.ensures.number, c.requires.index, c.cell-land_name.ensures) at c.in_ok-land.ensures.passed in
    let party = rw (c.find-2.ensures.number, c.requires.index, c.cell-party_name.ensures) at c.in_ok-party.ensures.passed in
    let name = rw (c.find-3.ensures.number, c.requires.index, c.cell-name.ensures) at c.in_ok-new_name.ensures.passed in
    let first = rw c.cell.ensures at c.in_ok-first.ensures.passed.0 in
    let valid = rw c.cell-2.ensures at c.in_ok-valid.ensures.passed.0 in
    let within = rw (c.in_ok-first.ensures.passed.1, c.in_ok-valid.ensures.passed.1, c.cell-2.ensures, c.cell.ensures) at c.in_ok-ensure.ensures.passed in
    let room = rw c.wins.ensures.number at c.in_err-ensure-2.ensures.failed in
    exit c.from_residual-in_err-ensure-2.result c.from_residual-in_err-ensure-2.ensures.1 (after (both land (both party (both name (both first (both valid nothing))))) (after within room))

pub returns-in_err-kept-clause-refused : goal.returns-in_err-kept-clause-refused
returns-in_err-kept-clause-refused c =
    let land = rw (c.find.ensures.number, c.requires.index, c.cell-land_name.ensures) at c.in_ok-land.ensures.passed in
    let party = rw (c.find-2.ensures.number, c.requires.index, c.cell-party_name.ensures) at c.in_ok-party.ensures.passed in
    let name = rw (c.find-3.ensures.number, c.requires.index, c.cell-name.ensures) at c.in_ok-new_name.ensures.passed in
    let first = rw c.cell.ensures at c.in_ok-first.ensures.passed.0 in
    let valid = rw c.cell-2.ensures at c.in_ok-valid.ensures.passed.0 in
    let within = rw (c.in_ok-first.ensures.passed.1, c.in_ok-valid.ensures.passed.1, c.cell-2.ensures, c.cell.ensures) at c.in_ok-ensure.ensures.passed in
    let room = rw c.wins.ensures.number at c.in_ok-ensure-2.ensures.passed in
    left_wanting c.from_residual-in_err-kept.result c.from_residual-in_err-kept.ensures.1 (both (both land (both party (both name (both first (both valid nothing))))) (both within room)) c.in_err-kept.ensures.err

pub returns-clause-refused : goal.returns-clause-refused
returns-clause-refused c =
    let land = rw (c.find.ensures.number, c.requires.index, c.cell-land_name.ensures) at c.in_ok-land.ensures.passed in
    let party = rw (c.find-2.ensures.number, c.requires.index, c.cell-party_name.ensures) at c.in_ok-party.ensures.passed in
    let name = rw (c.find-3.ensures.number, c.requires.index, c.cell-name.ensures) at c.in_ok-new_name.ensures.passed in
    let first = rw c.cell.ensures at c.in_ok-first.ensures.passed.0 in
    let valid = rw c.cell-2.ensures at c.in_ok-valid.ensures.passed.0 in
    let within = rw (c.in_ok-first.ensures.passed.1, c.in_ok-valid.ensures.passed.1, c.cell-2.ensures, c.cell.ensures) at c.in_ok-ensure.ensures.passed in
    let room = rw c.wins.ensures.number at c.in_ok-ensure-2.ensures.passed in
    wanting c.kept-2.result (both (both land (both party (both name (both first (both valid nothing))))) (both within room)) c.kept-2.ensures.err

pub add_win-requires-clause-name : goal.add_win-requires-clause-name
add_win-requires-clause-name c =
    let name = rw (c.find-3.ensures.number, c.requires.index) at c.in_ok-new_name.ensures.passed in
    let few = ltb-true _ _ (rw c.wins.ensures.number at c.in_ok-ensure-2.ensures.held) in
    let free : length c.args.returns.now.win_names < MAX_WINS = omega (arith, few, c.wins.ensures.kept.wins) in
    may_join _ c.args.returns.now.win_names MAX_WINS c.cell-name.result.now name free

-- what the record says of the winner
pub joined : (c : After-kept-2) → with_win c.args.returns.now c.cell-name.result.now (record { land = c.in_ok-land.land; party = c.in_ok-party.party; first = c.in_ok-first.first; valid = c.in_ok-valid.valid }) ≡ with_win_of c.args.returns.now (fields_of c.args.fields.now)
joined c =
    let e = c.args.returns.now in
    let land = found_place e.land_names c.cell-land_name.result.now c.in_ok-land.land (rw (c.find.ensures.number, c.requires.index) at c.in_ok-land.ensures.number) in
    let known = rw (c.find-2.ensures.number, c.requires.index) at c.in_ok-party.ensures.passed in
    let number = rw (c.find-2.ensures.number, c.requires.index) at c.in_ok-party.ensures.number in
    let party = number ∙ found_or_none _ e.party_names c.cell-party_name.result.now known in
    rw (land, party, c.in_ok-first.ensures.passed.1, c.in_ok-valid.ensures.passed.1, c.cell-land_name.ensures, c.cell-party_name.ensures, c.cell-name.ensures, c.cell.ensures, c.cell-2.ensures) (refl {a = with_win_of e (fields_of c.args.fields.now)})

pub returns-clause-joined : goal.returns-clause-joined
returns-clause-joined c =
    let land = rw (c.find.ensures.number, c.requires.index, c.cell-land_name.ensures) at c.in_ok-land.ensures.passed in
    let party = rw (c.find-2.ensures.number, c.requires.index, c.cell-party_name.ensures) at c.in_ok-party.ensures.passed in
    let name = rw (c.find-3.ensures.number, c.requires.index, c.cell-name.ensures) at c.in_ok-new_name.ensures.passed in
    let first = rw c.cell.ensures at c.in_ok-first.ensures.passed.0 in
    let valid = rw c.cell-2.ensures at c.in_ok-valid.ensures.passed.0 in
    let within = rw (c.in_ok-first.ensures.passed.1, c.in_ok-valid.ensures.passed.1, c.cell-2.ensures, c.cell.ensures) at c.in_ok-ensure.ensures.passed in
    let room = rw c.wins.ensures.number at c.in_ok-ensure-2.ensures.passed in
    taken (c.add_win.new.self ≡ with_win_of c.args.returns.now (fields_of c.args.fields.now)) c.kept-2.result c.add_win.result c.in_ok-kept.ensures.ok (both (both land (both party (both name (both first (both valid nothing))))) (both within room)) (on_ok_weaker c.add_win.result (λ e. e ∙ joined c) c.add_win.ensures.added)

pub add_name-requires : goal.add_name-requires
add_name-requires c =
    let name = rw (c.find-3.ensures.number, c.requires.index) at c.in_ok-new_name.ensures.passed in
    let few = ltb-true _ _ (rw c.wins.ensures.number at c.in_ok-ensure-2.ensures.held) in
    let free : length c.args.returns.now.win_names < MAX_WINS = omega (arith, few, c.wins.ensures.kept.wins) in
    rw c.requires.index (may_join _ c.args.returns.now.win_names MAX_WINS c.cell-name.result.now name free)
