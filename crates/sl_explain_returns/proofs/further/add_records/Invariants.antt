-- The lines of the further records leave what is said of the first one.
use Rattle.sl_explain_texts.specs.Explainers.{Keeps}
use Rattle.sl_explain_returns.proofs.further.add_records.Given as goal

abbrev pub invariant-loop-record : goal.invariant-loop-record
invariant-loop-record l = Keeps l.initial.explainer l.explainer
