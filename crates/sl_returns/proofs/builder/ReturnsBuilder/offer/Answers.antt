-- What the builder has sifted after the record.
use Rattle.std.proofs.Common.{◌≢◌, sym, subst}
use Rattle.std.proofs.lemmas.Bool.{false≢true}
use Rattle.csv.specs.Records.{fields_of}
use Rattle.sl_returns.specs.declared.fault.FaultKind.TheVariants as fault
use Rattle.sl_returns.specs.inner.Building.{Building}
use Rattle.sl_returns.specs.inner.Sifting.{HasSifted}
use Rattle.sl_returns.proofs.Sifting.{sifts_taken, sifts_refused}
use Rattle.sl_returns.proofs.builder.ReturnsBuilder.offer.Goals as goal

pub returns-in-Ok : goal.returns-in-Ok
returns-in-Ok c rs s =
    let sifted = subst (λ (b : Building). HasSifted b rs) (sym c.self.view_is) s in
    rw c.saturating_add-row.ensures (sifts_taken _ rs (fields_of c.args.fields.now) c.in-Ok.version c.take.new.returns sifted c.in-Ok.ensures.taken)

pub returns-in-Err-2 : goal.returns-in-Err-2
returns-in-Err-2 c rs s =
    let sifted = subst (λ (b : Building). HasSifted b rs) (sym c.self.view_is) s in
    let own : c.in-Err.why.kind ≢ fault.NoMemory = λ wants. false≢true (rw wants at c.if-eq.ensures) in
    let same = c.in-Err.ensures.unchanged own in
    rw (c.at-in-Err-2.ensures, c.saturating_add-row.ensures, same.0) (sifts_refused _ rs (fields_of c.args.fields.now) c.in-Err.why sifted c.in-Err.ensures.refused own)
