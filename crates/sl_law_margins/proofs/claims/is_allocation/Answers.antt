use Rattle.std.proofs.Common.{sym, ◌∙◌}
use Rattle.std.proofs.lemmas.Bool.{true≢false}
use Rattle.sl_law_margins.proofs.Claimants.{allocation_iff, inside_of}
use Rattle.sl_law_margins.proofs.claims.is_allocation.Goals as goal

pub returns-then-is_in_field : goal.returns-then-is_in_field
returns-then-is_in_field c =
    let inside = c.is_in_field.ensures.0 c.if-is_in_field.true in
    let iff = allocation_iff c.args.method c.args.weights.now c.args.seats.now c.requires.same_length inside in
    ((λ h. iff.0 (c.is_fair.ensures.0 h)), (λ a. c.is_fair.ensures.1 (iff.1 a)))

pub returns-else-is_in_field : goal.returns-else-is_in_field
returns-else-is_in_field c = (
  (λ h. absurd (true≢false (sym h ∙ c.if-is_in_field.false))),
  (λ a. c.is_in_field.ensures.1 (inside_of c.args.method c.args.weights.now c.args.seats.now a)),
)
