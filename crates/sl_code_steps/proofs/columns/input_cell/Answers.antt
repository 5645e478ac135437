-- A cell of lists is that of the list of its place.
use Rattle.std.proofs.Common.{false, sym, ap, ◌∙◌}
use Rattle.std.proofs.lemmas.Option.{get_or_from_slice_get}
use Rattle.sl_law_meaning.specs.returns.Election.{list_at}
use Rattle.sl_law_meaning.specs.returns.Votes.{valid_in, counted_in}
use Rattle.sl_code_semantics.specs.Effects.{names_or_most, one_if}
use Rattle.sl_code_steps.proofs.stores.Inputs.{list_there}
use Rattle.sl_code_steps.proofs.columns.input_cell.Goals as goal

pub returns-in-Valid : goal.returns-in-Valid
returns-in-Valid c =
    rw c.in-Valid.is (c.from.ensures ∙ c.valid.ensures ∙ sym (list_there c.args.returns.now valid_in c.args.place c.args.list (rw c.in-Valid.is at c.requires.place) c.requires.list))

pub returns-in-Counted : goal.returns-in-Counted
returns-in-Counted c =
    rw c.in-Counted.is (c.from-in-Counted.ensures ∙ c.counted.ensures ∙ sym (list_there c.args.returns.now counted_in c.args.place c.args.list (rw c.in-Counted.is at c.requires.place) c.requires.list))

pub returns-in-Minority : goal.returns-in-Minority
returns-in-Minority c =
    rw c.in-Minority.is (c.from-in-Minority.ensures ∙ ap one_if (sym (get_or_from_slice_get c.args.returns.now.minorities c.args.place c.minority.result false c.minority.ensures)))

pub returns-in-Names : goal.returns-in-Names
returns-in-Names c =
    rw c.in-Names.is (c.names_or_most.ensures (list_at c.args.returns.now c.args.list.land c.args.list.party) c.slate.ensures ∙ sym (list_there c.args.returns.now names_or_most c.args.place c.args.list (rw c.in-Names.is at c.requires.place) c.requires.list))
