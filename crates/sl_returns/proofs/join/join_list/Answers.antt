-- The test that fails is the first.
use Rattle.std.proofs.Common.{◌≡◌, refl, sym, ◌∙◌}
use Rattle.std.proofs.lemmas.Bool.{leb-true, not-true}
use Rattle.std.proofs.lemmas.Result.{on_ok_weaker}
use Rattle.csv.specs.Records.{fields_of}
use Rattle.sl_law_meaning.specs.returns.Election.{with_list}
use Rattle.sl_returns.specs.Tests.{Pass, list_tests}
use Rattle.sl_returns.specs.inner.Joining.{with_list_of}
use Rattle.sl_returns.proofs.NameTests.{found_place}
use Rattle.sl_returns.proofs.TestLemmas.{after, both, here, nothing, exit, wanting}
use Rattle.sl_returns.proofs.join.join_list.Goals as goal

pub returns-in_err-ensure_cell-clause-refused : goal.returns-in_err-ensure_cell-clause-refused
returns-in_err-ensure_cell-clause-refused c =
    let blank = rw c.fills_list.ensures at c.in_err-ensure_cell.ensures.failed in
    exit c.from_residual.result c.from_residual.ensures.1 (here _ blank)

pub returns-in_err-land-clause-refused : goal.returns-in_err-land-clause-refused
returns-in_err-land-clause-refused c =
    let blank = rw c.fills_list.ensures at c.in_ok-ensure_cell.ensures.passed in
    let land = rw (c.requires.index, c.cell-land_name.ensures) at c.in_err-land.ensures.failed in
    exit c.from_residual-in_err-land.result c.from_residual-in_err-land.ensures.1 (after blank (here _ (here _ land)))

pub returns-in_err-party-clause-refused : goal.returns-in_err-party-clause-refused
returns-in_err-party-clause-refused c =
    let blank = rw c.fills_list.ensures at c.in_ok-ensure_cell.ensures.passed in
    let land = rw (c.requires.index, c.cell-land_name.ensures) at c.in_ok-land.ensures.passed in
    let party = rw (c.requires.index, c.cell-party_name.ensures) at c.in_err-party.ensures.failed in
    exit c.from_residual-in_err-party.result c.from_residual-in_err-party.ensures.1 (after blank (here _ (after land (here _ party))))

pub returns-in_err-valid-clause-refused : goal.returns-in_err-valid-clause-refused
returns-in_err-valid-clause-refused c =
    let blank = rw c.fills_list.ensures at c.in_ok-ensure_cell.ensures.passed in
    let land = rw (c.requires.index, c.cell-land_name.ensures) at c.in_ok-land.ensures.passed in
    let party = rw (c.requires.index, c.cell-party_name.ensures) at c.in_ok-party.ensures.passed in
    let valid = rw c.cell.ensures at c.in_err-valid.ensures.failed in
    exit c.from_residual-in_err-valid.result c.from_residual-in_err-valid.ensures.1 (after blank (here _ (after land (after party (here _ valid)))))

pub returns-in_err-counted-clause-refused : goal.returns-in_err-counted-clause-refused
returns-in_err-counted-clause-refused c =
    let blank = rw c.fills_list.ensures at c.in_ok-ensure_cell.ensures.passed in
    let land = rw (c.requires.index, c.cell-land_name.ensures) at c.in_ok-land.ensures.passed in
    let party = rw (c.requires.index, c.cell-party_name.ensures) at c.in_ok-party.ensures.passed in
    let valid = rw c.cell.ensures at c.in_ok-valid.ensures.passed.0 in
    let counted = rw c.cell-2.ensures at c.in_err-counted.ensures.failed in
    exit c.from_residual-in_err-counted.result c.from_residual-in_err-counted.ensures.1 (after blank (here _ (after land (after party (after valid (here _ counted))))))

pub returns-in_err-slate-clause-refused : goal.returns-in_err-slate-clause-refused
returns-in_err-slate-clause-refused c =
    let blank = rw c.fills_list.ensures at c.in_ok-ensure_cell.ensures.passed in
    let land = rw (c.requires.index, c.cell-land_name.ensures) at c.in_ok-land.ensures.passed in
    let party = rw (c.requires.index, c.cell-party_name.ensures) at c.in_ok-party.ensures.passed in
    let valid = rw c.cell.ensures at c.in_ok-valid.ensures.passed.0 in
    let counted = rw c.cell-2.ensures at c.in_ok-counted.ensures.passed.0 in
    let slate = rw c.cell-3.ensures at c.in_err-slate.ensures.failed in
    exit c.from_residual-in_err-slate.result c.from_residual-in_err-slate.ensures.1 (after blank (here _ (after land (after party (after valid (after counted (here _ slate)))))))

pub returns-in_err-ensure-clause-refused : goal.returns-in_err-ensure-clause-refused
returns-in_err-ensure-clause-refused c =
    let blank = rw c.fills_list.ensures at c.in_ok-ensure_cell.ensures.passed in
    let land = rw (c.requires.index, c.cell-land_name.ensures) at c.in_ok-land.ensures.passed in
    let party = rw (c.requires.index, c.cell-party_name.ensures) at c.in_ok-party.ensures.passed in
    let valid = rw c.cell.ensures at c.in_ok-valid.ensures.passed.0 in
    let counted = rw c.cell-2.ensures at c.in_ok-counted.ensures.passed.0 in
    let slate = rw c.cell-3.ensures at c.in_ok-slate.ensures.passed in
    let within = rw (c.in_ok-counted.ensures.passed.1, c.in_ok-valid.ensures.passed.1, c.cell-2.ensures, c.cell.ensures) at c.in_err-ensure.ensures.failed in
    exit c.from_residual-in_err-ensure.result c.from_residual-in_err-ensure.ensures.1 (after blank (after (both land (both party (both valid (both counted (both slate nothing))))) (here _ within)))

pub returns-in_err-ensure-2-clause-refused : goal.returns-in_err-ensure-2-clause-refused
returns-in_err-ensure-2-clause-refused c =
    let blank = rw c.fills_list.ensures at c.in_ok-ensure_cell.ensures.passed in
    let land = rw (c.requires.index, c.cell-land_name.ensures) at c.in_ok-land.ensures.passed in
    let party = rw (c.requires.index, c.cell-party_name.ensures) at c.in_ok-party.ensures.passed in
    let valid = rw c.cell.ensures at c.in_ok-valid.ensures.passed.0 in
    let counted = rw c.cell-2.ensures at c.in_ok-counted.ensures.passed.0 in
    let slate = rw c.cell-3.ensures at c.in_ok-slate.ensures.passed in
    let within = rw (c.in_ok-counted.ensures.passed.1, c.in_ok-valid.ensures.passed.1, c.cell-2.ensures, c.cell.ensures) at c.in_ok-ensure.ensures.passed in
    let land_place = rw c.cell-land_name.ensures at (found_place c.args.returns.now.land_names c.cell-land_name.result.now c.in_ok-land.land (rw c.requires.index at c.in_ok-land.ensures.number)) in
    let party_place = rw c.cell-party_name.ensures at (found_place c.args.returns.now.party_names c.cell-party_name.result.now c.in_ok-party.party (rw c.requires.index at c.in_ok-party.ensures.number)) in
    let new = rw (c.is_list.ensures, land_place, party_place) at c.in_err-ensure-2.ensures.failed in
    exit c.from_residual-in_err-ensure-2.result c.from_residual-in_err-ensure-2.ensures.1 (after blank (after (both land (both party (both valid (both counted (both slate nothing))))) (after within new)))

pub returns-clause-refused : goal.returns-clause-refused
returns-clause-refused c =
    let blank = rw c.fills_list.ensures at c.in_ok-ensure_cell.ensures.passed in
    let land = rw (c.requires.index, c.cell-land_name.ensures) at c.in_ok-land.ensures.passed in
    let party = rw (c.requires.index, c.cell-party_name.ensures) at c.in_ok-party.ensures.passed in
    let valid = rw c.cell.ensures at c.in_ok-valid.ensures.passed.0 in
    let counted = rw c.cell-2.ensures at c.in_ok-counted.ensures.passed.0 in
    let slate = rw c.cell-3.ensures at c.in_ok-slate.ensures.passed in
    let within = rw (c.in_ok-counted.ensures.passed.1, c.in_ok-valid.ensures.passed.1, c.cell-2.ensures, c.cell.ensures) at c.in_ok-ensure.ensures.passed in
    let land_place = rw c.cell-land_name.ensures at (found_place c.args.returns.now.land_names c.cell-land_name.result.now c.in_ok-land.land (rw c.requires.index at c.in_ok-land.ensures.number)) in
    let party_place = rw c.cell-party_name.ensures at (found_place c.args.returns.now.party_names c.cell-party_name.result.now c.in_ok-party.party (rw c.requires.index at c.in_ok-party.ensures.number)) in
    let new = rw (c.is_list.ensures, land_place, party_place) at c.in_ok-ensure-2.ensures.passed in
    wanting c.keep_list.result (both blank (both (both land (both party (both valid (both counted (both slate nothing))))) (both within new))) c.keep_list.ensures.wants

pub returns-clause-joined : goal.returns-clause-joined
returns-clause-joined c =
    let blank = rw c.fills_list.ensures at c.in_ok-ensure_cell.ensures.passed in
    let land = rw (c.requires.index, c.cell-land_name.ensures) at c.in_ok-land.ensures.passed in
    let party = rw (c.requires.index, c.cell-party_name.ensures) at c.in_ok-party.ensures.passed in
    let valid = rw c.cell.ensures at c.in_ok-valid.ensures.passed.0 in
    let counted = rw c.cell-2.ensures at c.in_ok-counted.ensures.passed.0 in
    let slate = rw c.cell-3.ensures at c.in_ok-slate.ensures.passed in
    let within = rw (c.in_ok-counted.ensures.passed.1, c.in_ok-valid.ensures.passed.1, c.cell-2.ensures, c.cell.ensures) at c.in_ok-ensure.ensures.passed in
    let land_place = rw c.cell-land_name.ensures at (found_place c.args.returns.now.land_names c.cell-land_name.result.now c.in_ok-land.land (rw c.requires.index at c.in_ok-land.ensures.number)) in
    let party_place = rw c.cell-party_name.ensures at (found_place c.args.returns.now.party_names c.cell-party_name.result.now c.in_ok-party.party (rw c.requires.index at c.in_ok-party.ensures.number)) in
    let new = rw (c.is_list.ensures, land_place, party_place) at c.in_ok-ensure-2.ensures.passed in
    let e = c.args.returns.now in
    let joined : with_list e c.in_ok-land.land c.in_ok-party.party (record { valid = c.in_ok-valid.valid; counted = c.in_ok-counted.counted; slate = c.in_ok-slate.slate }) ≡ with_list_of e (fields_of c.args.fields.now) =
    rw (land_place, party_place, c.in_ok-valid.ensures.passed.1, c.in_ok-counted.ensures.passed.1, c.in_ok-slate.ensures.number, c.cell.ensures, c.cell-2.ensures, c.cell-3.ensures) (refl {a = with_list_of e (fields_of c.args.fields.now)}) in
    let passed : Pass (list_tests c.args.version e (fields_of c.args.fields.now)) = both blank (both (both land (both party (both valid (both counted (both slate nothing))))) (both within new)) in
    on_ok_weaker c.keep_list.result (λ same. (passed, same ∙ joined)) c.keep_list.ensures.kept

pub is_list-requires : goal.is_list-requires
is_list-requires c = record {
  land = rw c.requires.index at c.in_ok-land.ensures.within;
  party = rw c.requires.index at c.in_ok-party.ensures.within;
}

pub keep_list-requires : goal.keep_list-requires
keep_list-requires c = record {
  land = rw c.requires.index at c.in_ok-land.ensures.within;
  party = rw c.requires.index at c.in_ok-party.ensures.within;
  new = sym c.is_list.ensures ∙ not-true _ c.in_ok-ensure-2.ensures.held;
  votes = record {
    counted = leb-true _ _ c.in_ok-ensure.ensures.held;
    valid = c.in_ok-valid.ensures.passed.3;
    slate = c.in_ok-slate.ensures.within;
  };
}
