-- The tests of a record, by its kind.
use Rattle.std.proofs.Common.{Some, inl}
use Rattle.csv.specs.Records.{fields_of}
use Rattle.sl_returns.specs.declared.schema.Kind.TheVariants as kind
use Rattle.sl_returns.proofs.TestLemmas.{here, exit}
use Rattle.sl_returns.proofs.Joins.{joined_by, refused_by, no_kind}
use Rattle.sl_returns.proofs.join.join.Goals as goal

pub returns-in_err-ensure-clause-refused : goal.returns-in_err-ensure-clause-refused
returns-in_err-ensure-clause-refused c =
    let sized = rw c.len.ensures at c.in_err-ensure.ensures.failed in
    exit c.from_residual.result c.from_residual.ensures.1 (here _ sized)

pub returns-in-None-clause-refused : goal.returns-in-None-clause-refused
returns-in-None-clause-refused c =
    let sized = rw c.len.ensures at c.in_ok-ensure.ensures.passed in
    let named = rw c.cell.ensures at c.in-None.ensures in
    rw c.of_cell.ensures (inl (no_kind c.args.version c.args.returns.now (fields_of c.args.fields.now) named sized))

pub returns-in-Some-House-clause-joined : goal.returns-in-Some-House-clause-joined
returns-in-Some-House-clause-joined c =
    let sized = rw c.len.ensures at c.in_ok-ensure.ensures.passed in
    let named = rw (c.in-Some-House.field-0-is, c.cell.ensures) at c.in-Some-House.ensures in
    joined_by c.args.version c.args.returns.now c.join_house.new.returns (fields_of c.args.fields.now) (Some kind.House) named sized c.join_house.result c.join_house.ensures.joined

pub returns-in-Some-House-clause-refused : goal.returns-in-Some-House-clause-refused
returns-in-Some-House-clause-refused c =
    let sized = rw c.len.ensures at c.in_ok-ensure.ensures.passed in
    let named = rw (c.in-Some-House.field-0-is, c.cell.ensures) at c.in-Some-House.ensures in
    refused_by c.args.version c.args.returns.now c.join_house.new.returns (fields_of c.args.fields.now) (Some kind.House) named sized c.join_house.result c.join_house.ensures.refused

pub returns-in-Some-Land-clause-joined : goal.returns-in-Some-Land-clause-joined
returns-in-Some-Land-clause-joined c =
    let sized = rw c.len.ensures at c.in_ok-ensure.ensures.passed in
    let named = rw (c.in-Some-Land.field-0-is, c.cell.ensures) at c.in-Some-Land.ensures in
    joined_by c.args.version c.args.returns.now c.join_land.new.returns (fields_of c.args.fields.now) (Some kind.Land) named sized c.join_land.result c.join_land.ensures.joined

pub returns-in-Some-Land-clause-refused : goal.returns-in-Some-Land-clause-refused
returns-in-Some-Land-clause-refused c =
    let sized = rw c.len.ensures at c.in_ok-ensure.ensures.passed in
    let named = rw (c.in-Some-Land.field-0-is, c.cell.ensures) at c.in-Some-Land.ensures in
    refused_by c.args.version c.args.returns.now c.join_land.new.returns (fields_of c.args.fields.now) (Some kind.Land) named sized c.join_land.result c.join_land.ensures.refused

pub returns-in-Some-Party-clause-joined : goal.returns-in-Some-Party-clause-joined
returns-in-Some-Party-clause-joined c =
    let sized = rw c.len.ensures at c.in_ok-ensure.ensures.passed in
    let named = rw (c.in-Some-Party.field-0-is, c.cell.ensures) at c.in-Some-Party.ensures in
    joined_by c.args.version c.args.returns.now c.join_party.new.returns (fields_of c.args.fields.now) (Some kind.Party) named sized c.join_party.result c.join_party.ensures.joined

pub returns-in-Some-Party-clause-refused : goal.returns-in-Some-Party-clause-refused
returns-in-Some-Party-clause-refused c =
    let sized = rw c.len.ensures at c.in_ok-ensure.ensures.passed in
    let named = rw (c.in-Some-Party.field-0-is, c.cell.ensures) at c.in-Some-Party.ensures in
    refused_by c.args.version c.args.returns.now c.join_party.new.returns (fields_of c.args.fields.now) (Some kind.Party) named sized c.join_party.result c.join_party.ensures.refused

pub returns-in-Some-List-clause-joined : goal.returns-in-Some-List-clause-joined
returns-in-Some-List-clause-joined c =
    let sized = rw c.len.ensures at c.in_ok-ensure.ensures.passed in
    let named = rw (c.in-Some-List.field-0-is, c.cell.ensures) at c.in-Some-List.ensures in
    joined_by c.args.version c.args.returns.now c.join_list.new.returns (fields_of c.args.fields.now) (Some kind.List) named sized c.join_list.result c.join_list.ensures.joined

pub returns-in-Some-List-clause-refused : goal.returns-in-Some-List-clause-refused
returns-in-Some-List-clause-refused c =
    let sized = rw c.len.ensures at c.in_ok-ensure.ensures.passed in
    let named = rw (c.in-Some-List.field-0-is, c.cell.ensures) at c.in-Some-List.ensures in
    refused_by c.args.version c.args.returns.now c.join_list.new.returns (fields_of c.args.fields.now) (Some kind.List) named sized c.join_list.result c.join_list.ensures.refused

pub returns-in-Some-Win-clause-joined : goal.returns-in-Some-Win-clause-joined
returns-in-Some-Win-clause-joined c =
    let sized = rw c.len.ensures at c.in_ok-ensure.ensures.passed in
    let named = rw (c.in-Some-Win.field-0-is, c.cell.ensures) at c.in-Some-Win.ensures in
    joined_by c.args.version c.args.returns.now c.join_win.new.returns (fields_of c.args.fields.now) (Some kind.Win) named sized c.join_win.result c.join_win.ensures.joined

pub returns-in-Some-Win-clause-refused : goal.returns-in-Some-Win-clause-refused
returns-in-Some-Win-clause-refused c =
    let sized = rw c.len.ensures at c.in_ok-ensure.ensures.passed in
    let named = rw (c.in-Some-Win.field-0-is, c.cell.ensures) at c.in-Some-Win.ensures in
    refused_by c.args.version c.args.returns.now c.join_win.new.returns (fields_of c.args.fields.now) (Some kind.Win) named sized c.join_win.result c.join_win.ensures.refused

pub returns-in-Some-Lot-clause-joined : goal.returns-in-Some-Lot-clause-joined
returns-in-Some-Lot-clause-joined c =
    let sized = rw c.len.ensures at c.in_ok-ensure.ensures.passed in
    let named = rw (c.in-Some-Lot.field-0-is, c.cell.ensures) at c.in-Some-Lot.ensures in
    joined_by c.args.version c.args.returns.now c.join_lot.new.returns (fields_of c.args.fields.now) (Some kind.Lot) named sized c.join_lot.result c.join_lot.ensures.joined

pub returns-in-Some-Lot-clause-refused : goal.returns-in-Some-Lot-clause-refused
returns-in-Some-Lot-clause-refused c =
    let sized = rw c.len.ensures at c.in_ok-ensure.ensures.passed in
    let named = rw (c.in-Some-Lot.field-0-is, c.cell.ensures) at c.in-Some-Lot.ensures in
    refused_by c.args.version c.args.returns.now c.join_lot.new.returns (fields_of c.args.fields.now) (Some kind.Lot) named sized c.join_lot.result c.join_lot.ensures.refused
