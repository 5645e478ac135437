use Rattle.std.proofs.Common.{IfOk, false, subst, true, sym, ◌∙◌, ◌≡◌}
use Rattle.std.proofs.lemmas.Option.{slice_get-get_or}
use Rattle.sl_report_warnings.proofs.Pieces.{at_place}
use Rattle.sl_report_warnings.proofs.sentences.line_at.Goals as goal

pub returns-then-not-is_first : goal.returns-then-not-is_first
returns-then-not-is_first c =
    c.new.ensures.items
    ∙ sym (at_place c.args.language c.args.returns.now c.args.warnings.now c.args.number _ false (slice_get-get_or c.args.warnings.now c.args.number _ c.requires) (sym c.is_first.ensures ∙ c.if-not-is_first.true))

pub returns : goal.returns
returns c =
    subst (λ line. IfOk c.line_of.result (λ text. text.items ≡ line))
    (sym (at_place c.args.language c.args.returns.now c.args.warnings.now c.args.number _ true (slice_get-get_or c.args.warnings.now c.args.number _ c.requires) (sym c.is_first.ensures ∙ c.if-not-is_first.false)))
    (rw (c.saturating_sub-others.ensures, c.of_kind.ensures) at c.line_of.ensures)
