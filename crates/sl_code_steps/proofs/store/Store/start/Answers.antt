-- Everything is 0 or unset, and there is a cell for each place.
use Rattle.std.proofs.Common.{◌≡◌, ℕ, List, [], length, map, get_or, replicate, ap, ◌∙◌}
use Rattle.std.proofs.lemmas.List.{length-replicate}
use Rattle.sl_law_meaning.specs.declared.table.Mark.TheVariants as mark
use Rattle.sl_law_meaning.specs.declared.table.Placed.{Placed}
use Rattle.sl_law_meaning.specs.declared.table.Placed.TheVariants as placed
use Rattle.sl_code_semantics.specs.declared.known.TheConstants.{REGISTERS}
use Rattle.sl_code_steps.specs.inner.Lots.{LotTable}
use Rattle.sl_code_steps.specs.inner.Positions.{Position}
use Rattle.sl_code_steps.proofs.stores.Starting.{same_at, blank, blank_at, blank_widths, started}
use Rattle.sl_code_steps.proofs.store.Store.start.Goals as goal

pub returns-clause-state : goal.returns-clause-state
returns-clause-state c =
    let e = c.args.returns.now in
    let slots = c.args.code.now.slots in
    let columns = c.in_ok-columns.columns.items in
    let blanks : columns ≡ map (blank e) slots = c.in_ok-columns.ensures ∙ ap (map (blank e)) c.slots.ensures.slots in
    let nobody : c.in_ok-placed.placed.items ≡ replicate c.wins.result placed.Unseated = c.in_ok-placed.ensures in
    rw (c.unset.ensures, c.unset-2.ensures)
    (started (replicate {A = ℕ} REGISTERS 0) columns c.off.result.on (mark.Quotient c.new.result) c.new-2.result.items c.new-3.result.items c.in_ok-placed.placed.items
    (same_at REGISTERS 0)
    (λ k p. ap (λ (css : List (List ℕ)). get_or (get_or css k []) p 0) blanks ∙ blank_at e slots k p)
    (ap (λ (t : LotTable). t.on) c.off.ensures) (ap mark.Quotient c.new.ensures.value) c.new-2.ensures.items c.new-3.ensures.items
    (λ w. ap (λ (ps : List Placed). get_or ps w placed.Unseated) nobody ∙ same_at c.wins.result placed.Unseated w))

pub returns-clause-fits : goal.returns-clause-fits
returns-clause-fits c =
    let e = c.args.returns.now in
    let slots = c.args.code.now.slots in
    let columns = c.in_ok-columns.columns.items in
    let blanks : columns ≡ map (blank e) slots = c.in_ok-columns.ensures ∙ ap (map (blank e)) c.slots.ensures.slots in
    let nobody : c.in_ok-placed.placed.items ≡ replicate c.wins.result placed.Unseated = c.in_ok-placed.ensures in
    let widths = ap (map length) blanks ∙ blank_widths e slots in
    let winners = ap length nobody ∙ length-replicate {A = Placed} c.wins.result placed.Unseated ∙ c.wins.ensures.number in
    let lots = ap (λ (t : LotTable). t.lots) c.off.ensures ∙ c.in_ok-lots.ensures in
    let parties = ap (λ (p : Position). p.parties) c.unset.ensures ∙ c.parties.ensures.number in
    λ i. record { columns = widths i; parties = parties i; winners = winners i; lots = lots i }
