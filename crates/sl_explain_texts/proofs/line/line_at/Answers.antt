use Rattle.std.proofs.Common.{◌≡◌, ◌∙◌, ◌≤◌, ap, arith, drop, length, length-drop, length-take, rules, sym, take}
use Rattle.sl_explain_texts.proofs.Lines.{counted_elsewhere, counted_there, column_is, started_elsewhere, started_there}
use Rattle.sl_explain_texts.proofs.line.line_at.Goals as goal
use Rattle.sl_explain_texts.proofs.line.line_at.Goals.{else-ends_line, then-ends_line}
use Rattle.sl_explain_texts.specs.Lines.{ends_line, line_start}

pub loop-place-preserved : goal.loop-place-preserved
loop-place-preserved c = elim c.if-ends_line.branch [
  | then-ends_line w ↦
      let ends = ends_line c.args.text.now in
      let is = sym c.ends_line.ensures ∙ w.if-ends_line.true in
      let more = counted_there ends c.loop-place.place is in
      record {
        number = omega (arith, more, c.loop-place.invariant.number, w.number-is);
        few = omega (arith, c.loop-place.invariant.few, w.number-is);
        start = w.start-is ∙ sym (started_there ends c.loop-place.place is);
      }
  | else-ends_line w ↦
      let ends = ends_line c.args.text.now in
      let is = sym c.ends_line.ensures ∙ w.if-ends_line.false in
      let more = counted_elsewhere ends c.loop-place.place is in
      record {
        number = omega (arith, more, c.loop-place.invariant.number, w.number-is);
        few = omega (arith, c.loop-place.invariant.few, w.number-is);
        start = w.start-is ∙ c.loop-place.invariant.start ∙ sym (started_elsewhere ends c.loop-place.place is);
      }
]

pub returns-clause-column : goal.returns-clause-column
returns-clause-column c =
    let rest : c.from-rest.result.now ≡ drop c.loop-place.start c.args.text.now = c.from-rest.ensures in
    let before : c.until-before.result.now ≡ take c.saturating_sub.result c.from-rest.result.now = c.until-before.ensures in
    let few : length c.until-before.result.now ≤ length c.args.text.now =
    omega (arith, ap length before, ap length rest, length-take c.saturating_sub.result c.from-rest.result.now, length-drop c.loop-place.start c.args.text.now) in
    let start : c.loop-place.start ≡ line_start c.args.text.now c.args.at = search rules in
    column_is _ _ _ _ _ _ _ _ _ start rest c.first_line-line.ensures c.saturating_sub.ensures before c.shown_count.ensures.count (omega (arith, few, c.shown_count.ensures.most))
