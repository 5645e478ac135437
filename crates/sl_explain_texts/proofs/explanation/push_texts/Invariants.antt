-- The texts up to a place are lent.
use Rattle.std.proofs.Common.{◌≡◌, ◌++◌, map, take}
use Rattle.sl_explain_texts.specs.Pages.{texts_in}
use Rattle.sl_explain_texts.proofs.explanation.push_texts.Given as goal

abbrev pub invariant-loop-text : goal.invariant-loop-text
invariant-loop-text l = map (λ x. x.now) l.lent.items ≡ map (λ x. x.now) l.initial.lent.items ++ texts_in (take l.text-index l.texts)
