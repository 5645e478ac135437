-- What the builder stands for after the record.
use Rattle.std.proofs.Common.{sym, subst}
use Rattle.csv.specs.Records.{fields_of}
use Rattle.sl_returns.specs.inner.Building.{Building, StandsFor}
use Rattle.sl_returns.proofs.Feeding.{taken, refused, has_row}
use Rattle.sl_returns.proofs.builder.ReturnsBuilder.feed.Goals as goal

pub returns-in-Ok-clause-taken : goal.returns-in-Ok-clause-taken
returns-in-Ok-clause-taken c rs s =
    let stands = subst (λ (b : Building). StandsFor b rs) (sym c.self.view_is) s in
    rw c.saturating_add-row.ensures (taken _ rs (fields_of c.args.fields.now) c.in-Ok.version c.take.new.returns stands c.in-Ok.ensures.taken)

pub returns-in-Err-clause-refused : goal.returns-in-Err-clause-refused
returns-in-Err-clause-refused c rs s =
    let stands = subst (λ (b : Building). StandsFor b rs) (sym c.self.view_is) s in
    rw (c.at-fault.ensures, c.saturating_add-row.ensures) (refused _ rs (fields_of c.args.fields.now) c.in-Err.why stands c.in-Err.ensures.refused)

pub returns-in-Err-clause-row : goal.returns-in-Err-clause-row
returns-in-Err-clause-row c rs s =
    let stands = subst (λ (b : Building). StandsFor b rs) (sym c.self.view_is) s in
    rw (c.at-fault.ensures, c.saturating_add-row.ensures) (has_row _ rs c.in-Err.why stands)
