-- What each byte does to the scan.
use Rattle.std.proofs.Common.{◌+◌, ap, sym, ◌∙◌, if◌then◌else◌}
use Rattle.sl_returns_places.proofs.Scans.{scanned_copy, scanned_skip, scanned_cell, scanned_record, found_last}
use Rattle.sl_returns_places.proofs.places.Scan.turn.Goals as goal

pub returns-in-Copy : goal.returns-in-Copy
returns-in-Copy c text row is within here =
    rw c.goes_on.ensures (scanned_copy text row c.args.column c.args.self c.args.at is within c.args.byte here c.step-state.result.0 (c.step-state.ensures.state, rw c.in-Copy.is at c.step-state.ensures.action))

pub returns-in-Skip : goal.returns-in-Skip
returns-in-Skip c text row is within here =
    rw c.goes_on-in-Skip.ensures
    (scanned_skip text row c.args.column c.args.self c.args.at is within c.args.byte here c.step-state.result.0 c.args.self.start (c.step-state.ensures.state, rw c.in-Skip.is at c.step-state.ensures.action)
    (ap (λ b. if b then c.args.self.start else c.args.at + 1) (sym c.is_in_record.ensures ∙ c.if-is_in_record.true)))

pub returns-in-Skip-2 : goal.returns-in-Skip-2
returns-in-Skip-2 c text row is within here =
    rw c.goes_on-in-Skip-2.ensures
    (scanned_skip text row c.args.column c.args.self c.args.at is within c.args.byte here c.step-state.result.0 (c.args.at + 1) (c.step-state.ensures.state, rw c.in-Skip-2.is at c.step-state.ensures.action)
    (ap (λ b. if b then c.args.self.start else c.args.at + 1) (sym c.is_in_record.ensures ∙ c.if-is_in_record.false)))

pub returns-in-EndField : goal.returns-in-EndField
returns-in-EndField c text row is within here =
    rw c.with_cell.ensures (scanned_cell text row c.args.column c.args.self c.args.at is within c.args.byte here c.step-state.result.0 c.requires (c.step-state.ensures.state, rw c.in-EndField.is at c.step-state.ensures.action))

pub returns-in-EndRecord : goal.returns-in-EndRecord
returns-in-EndRecord c text row is within here =
    c.found_with.ensures
    ∙ found_last text row c.args.column c.args.self c.args.at is within c.args.byte here c.step-state.result.0 c.if-self-eq0.true (c.step-state.ensures.state, rw c.in-EndRecord.is at c.step-state.ensures.action)

pub returns-in-EndRecord-2 : goal.returns-in-EndRecord-2
returns-in-EndRecord-2 c text row is within here =
    rw c.begin.ensures (scanned_record text row c.args.column c.args.self c.args.at is within c.args.byte here c.step-state.result.0 c.if-self-eq0.false (c.step-state.ensures.state, rw c.in-EndRecord-2.is at c.step-state.ensures.action))
