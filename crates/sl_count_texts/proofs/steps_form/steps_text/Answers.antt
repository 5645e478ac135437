use Rattle.std.proofs.Common.{◌≡◌, length, map, flat_map, sym, ap, subst, ◌∙◌, append_assoc}
use Rattle.std.specs.List.{All}
use Rattle.sl_code_semantics.specs.Fits.{FitsStep}
use Rattle.sl_count_texts.specs.Lines.{with_lines}
use Rattle.sl_count_texts.specs.Orders.{step_key, in_order}
use Rattle.sl_count_texts.specs.Short.{short_text}
use Rattle.sl_count_texts.specs.Steps.{step_line}
use Rattle.sl_count_texts.proofs.KeyOrder.{All-in_order}
use Rattle.sl_count_texts.proofs.steps_form.steps_text.Goals as goal

pub step_lines-requires-clause-fits : goal.step_lines-requires-clause-fits
step_lines-requires-clause-fits c =
    let fits = FitsStep (length c.args.code.now.stages) c.args.returns.now in
    let steps = c.args.table.now.steps in
    let these : map (λ s. s.now) c.deref.result.now ≡ in_order step_key steps = ap (map (λ s. s.now)) c.deref.ensures.value ∙ c.in_ok-steps.ensures in
    subst (All fits) (sym these) (All-in_order step_key fits steps c.requires.records.steps)

pub returns : goal.returns
returns c =
    let e = c.args.returns.now in
    let t = c.args.table.now in
    let line_of = step_line (map (λ s. s.name) c.args.code.now.stages) e in
    let these : map (λ s. s.now) c.deref.result.now ≡ in_order step_key t.steps = ap (map (λ s. s.now)) c.deref.ensures.value ∙ c.in_ok-steps.ensures in
    let bounds = c.in_ok-bounds_lines.ensures in (
      bounds.0,
      bounds.1,
      c.into_bytes.ensures
          ∙ ap (λ d. d.bytes) (c.in_ok-short_lines.ensures
          ∙ ap (λ d. with_lines d (short_text t e)) (bounds.2
          ∙ ap (λ d. with_lines d bounds.0) (c.in_ok-step_lines.ensures
          ∙ ap (λ xs. with_lines c.new-text.result (flat_map line_of xs)) these
          ∙ ap (λ d. with_lines d (flat_map line_of (in_order step_key t.steps))) c.new-text.ensures)))
          ∙ append_assoc (flat_map line_of (in_order step_key t.steps)) bounds.0 (short_text t e),
    )
