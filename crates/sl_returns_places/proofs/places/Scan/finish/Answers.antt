-- The end of the text.
use Rattle.std.proofs.Common.{ap, sym, ◌∙◌}
use Rattle.sl_returns_places.specs.inner.Scanning.{found_with}
use Rattle.sl_returns_places.proofs.Scans.{found_at_end, none_at_end, none_between}
use Rattle.sl_returns_places.proofs.places.Scan.finish.Goals.{else-self-eq0-via-then-self-eq0+else-is_in_record, else-self-eq0-via-else-self-eq0}
use Rattle.sl_returns_places.proofs.places.Scan.finish.Goals as goal

pub returns-then-is_in_record : goal.returns-then-is_in_record
returns-then-is_in_record c text row is past =
    c.found_with.ensures
    ∙ ap (found_with c.args.self c.args.column c.args.end) c.is_quoted.ensures
    ∙ found_at_end text row c.args.column c.args.self c.args.end is past c.if-self-eq0.true (sym c.is_in_record.ensures ∙ c.if-is_in_record.true)

pub returns-else-self-eq0 : goal.returns-else-self-eq0
returns-else-self-eq0 c text row is past =
    elim c.else-self-eq0.branch [
      | else-self-eq0-via-then-self-eq0+else-is_in_record w ↦ none_between text row c.args.column c.args.self c.args.end is past (sym w.is_in_record.ensures ∙ w.if-is_in_record.false)
      | else-self-eq0-via-else-self-eq0 w ↦ none_at_end text row c.args.column c.args.self c.args.end is past w.if-self-eq0.false
    ]
