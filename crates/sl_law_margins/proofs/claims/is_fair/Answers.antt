use Rattle.std.proofs.Common.{Bool, sym, ap, subst, ◌∙◌}
use Rattle.std.specs.Prelude.{◌↔◌, IsTrue}
use Rattle.std.specs.Ordering.{is_le}
use Rattle.sl_law_margins.specs.inner.Claims.{IsFair}
use Rattle.sl_law_margins.proofs.Claimants.{fair_iff}
use Rattle.sl_law_margins.proofs.claims.is_fair.Goals as goal

pub returns : goal.returns
returns c =
    subst (λ (b : Bool). IsTrue b ↔ IsFair c.args.method c.args.weights.now c.args.seats.now) (sym (c.is_le.ensures ∙ ap is_le c.cmp.ensures))
    (fair_iff c.args.method c.args.weights.now c.args.seats.now c.in-Some.last c.in-Some-greatest_next.next c.in-Some.ensures c.in-Some-greatest_next.ensures)
