use Rattle.std.proofs.Common.{◌≡◌, flat_map, map, take}
use Rattle.sl_count_texts.specs.Lines.{with_lines}
use Rattle.sl_count_texts.specs.Steps.{step_line}
use Rattle.sl_count_texts.proofs.steps_form.step_lines.Given as goal

abbrev pub invariant-loop-step : goal.invariant-loop-step
invariant-loop-step l =
    l.text ≡ with_lines l.initial.text (flat_map (step_line (map (λ s. s.name) l.code.stages) l.returns) (take l.step-index (map (λ s. s.now) l.steps)))
