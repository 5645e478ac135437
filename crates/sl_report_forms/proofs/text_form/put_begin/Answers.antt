use Rattle.std.proofs.Common.{◌∙◌, ap, unwrap_or}
use Rattle.sl_report_forms.proofs.TextLaws.{begin_ends, begin_more, begin_none, begin_stops}
use Rattle.sl_report_forms.proofs.text_form.put_begin.Goals as goal

pub loop-character-init : goal.loop-character-init
loop-character-init c = begin_none c.args.most c.args.text.now _ _ c.utf8.text (ap (λ s. s.rest.now) c.into_iter-character-iterator.ensures.into_iter_gives ∙ c.chars-character-items.ensures.rest)

pub returns-then-width-left : goal.returns-then-width-left
returns-then-width-left c =
    begin_stops c.args.most c.loop-character.left c.in-Some.character _ _ _ _ _ _ c.loop-character.invariant c.in-Some.ensures.steps.0
    (c.unwrap_or-width.ensures ∙ ap (λ o. unwrap_or o 0) c.width.ensures.value) c.if-width-left.true

pub loop-character-preserved : goal.loop-character-preserved
loop-character-preserved c =
    begin_more c.args.most c.loop-character.left c.in-Some.character _ _ _ _ _ _ _ c.loop-character.invariant c.in-Some.ensures.steps.0
    (c.unwrap_or-width.ensures ∙ ap (λ o. unwrap_or o 0) c.width.ensures.value) c.if-width-left.false c.push.ensures

pub returns : goal.returns
returns c = begin_ends c.args.most c.loop-character.left _ _ _ _ c.loop-character.invariant c.in-None.ensures.steps.0.0
