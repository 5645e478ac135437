use Rattle.std.proofs.Common.{option_map, ◌∙◌}
use Rattle.sl_report_parties.specs.Seats.{party_seats}
use Rattle.sl_report_tables.proofs.MoreTables.{option_twice}
use Rattle.sl_report_tables.proofs.SeatedBooks.{seats_found}
use Rattle.sl_report_tables.proofs.parties.party_seats.Goals as goal

pub returns : goal.returns
returns c =
    let e = c.args.returns.now in
    c.copied.ensures
    ∙ seats_found e (option_map (λ t. t.now) c.args.table) c.args.seats.now c.args.party c.get.result c.requires.seats c.requires.party c.get.ensures.lookup.0 c.get.ensures.lookup.1
    ∙ option_twice (λ t. t.now) (λ t. party_seats t e c.args.party) c.args.table
