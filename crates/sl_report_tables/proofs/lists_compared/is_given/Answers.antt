use Rattle.std.proofs.Common.{ap, rules, sym, ◌&&◌, ◌∙◌}
use Rattle.std.proofs.lemmas.Iterator.{YieldsList-from_slice}
use Rattle.std.proofs.lemmas.Iterator.Search.{any_from_yields_List}
use Rattle.std.specs.List.{list_any}
use Rattle.sl_report_tables.proofs.LocalSeats.{any_seen}
use Rattle.sl_report_tables.specs.Compare.{gives_seats}
use Rattle.sl_report_tables.proofs.lists_compared.is_given.Goals as goal

pub returns-then-is_list : goal.returns-then-is_list
returns-then-is_list c =
    let books = c.args.books.now in
    let locals = c.args.locals.now in
    any_from_yields_List (λ x. gives_seats x.land c.args.party x.judged.now) _ _ _ c.any.ensures.ran (YieldsList-from_slice locals c.iter.ensures.rest) (λ x b q k. search rules)
    ∙ any_seen (λ x. gives_seats x.0 c.args.party x.1) c.args.land locals books c.requires.locals
    ∙ ap (λ b. b && list_any (gives_seats c.args.land c.args.party) books) (sym c.if-is_list.true ∙ c.is_list.ensures)
