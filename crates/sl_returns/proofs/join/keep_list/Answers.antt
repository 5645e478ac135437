-- The list with its names.
use Rattle.std.proofs.Common.{ℕ, Option, is_some, ap, sym, ◌∙◌}
use Rattle.sl_law_meaning.specs.returns.Election.{list_at, with_list, with_slate}
use Rattle.sl_law_meaning.proofs.Elections.{slate_told}
use Rattle.sl_returns.proofs.join.keep_list.Goals as goal

pub set_slate-requires-clause-list : goal.set_slate-requires-clause-list
set_slate-requires-clause-list c = ap is_some c.add_list.ensures.listed

pub returns-in-Some-clause-kept : goal.returns-in-Some-clause-kept
returns-in-Some-clause-kept c =
    let e = c.args.returns.now in
    let votes = c.args.votes in
    let added = c.add_list.ensures.added in
    let told = ap (λ e. list_at e c.args.land c.args.party) (sym added) ∙ c.add_list.ensures.listed in
    c.set_slate.ensures
    ∙ ap (λ e. with_slate e c.args.land c.args.party c.in-Some.names) added
    ∙ slate_told e c.args.land c.args.party c.in-Some.names _ told
    ∙ ap (λ (names : Option ℕ). with_list e c.args.land c.args.party (record { valid = votes.valid; counted = votes.counted; slate = names })) (sym c.in-Some.is)
