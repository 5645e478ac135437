-- The lines leave the code, the place and the sentence.
use Rattle.sl_explain_texts.specs.Explainers.{Keeps}
use Rattle.sl_explain_books.proofs.further.Further.write.Given as goal

abbrev pub invariant-loop-line : goal.invariant-loop-line
invariant-loop-line l = Keeps l.initial.explainer l.explainer
