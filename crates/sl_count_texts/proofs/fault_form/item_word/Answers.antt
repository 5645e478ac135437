-- The words of a list are the names of its Land and its party.
use Rattle.std.proofs.Common.{[]}
use Rattle.std.proofs.lemmas.Option.{get_or_from_slice_get}
use Rattle.sl_count_texts.proofs.fault_form.item_word.Goals as goal

pub returns-in-List : goal.returns-in-List
returns-in-List c =
    let e = c.args.returns.now in
    let land = get_or_from_slice_get e.land_names c.in-List.land _ [] c.land_name-in-List.ensures in
    let party = get_or_from_slice_get e.party_names c.in-List.party _ [] c.party_name-in-List.ensures in
    rw (c.in-List.is, land, party) c.pair.ensures.added
