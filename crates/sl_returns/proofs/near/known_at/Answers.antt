-- The name that stands at the place is known, and its place is the number.
use Rattle.std.proofs.Common.{Some, sym, ap, ◌∙◌}
use Rattle.std.proofs.lemmas.Slice.Eq.{bytes_eq-Decides}
use Rattle.sl_returns.proofs.NearNames.{number_there, known_there}
use Rattle.sl_returns.proofs.near.known_at.Goals as goal

pub returns-then-eq-clause-passed : goal.returns-then-eq-clause-passed
returns-then-eq-clause-passed c =
    known_there c.args.names.now c.len.ensures.kept c.args.name.now c.args.place (c.name.ensures.name ∙ ap Some ((bytes_eq-Decides c.name.result.now c.args.name.now).0 (sym c.eq.ensures ∙ c.if-eq.true))) c.args.column

pub returns-then-eq-clause-number : goal.returns-then-eq-clause-number
returns-then-eq-clause-number c =
    number_there c.args.names.now c.len.ensures.kept c.args.name.now c.args.place (c.name.ensures.name ∙ ap Some ((bytes_eq-Decides c.name.result.now c.args.name.now).0 (sym c.eq.ensures ∙ c.if-eq.true)))
