use Rattle.sl_explain_texts.specs.Explainers.{Keeps}
use Rattle.sl_explain_faults.proofs.lots.help_stages.Given as goal

-- what is said of the fault stays
abbrev pub invariant-loop-place : goal.invariant-loop-place
invariant-loop-place l = Keeps l.initial.explainer l.explainer
