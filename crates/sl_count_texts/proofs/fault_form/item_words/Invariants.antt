use Rattle.std.proofs.Common.{◌≡◌, map, take}
use Rattle.sl_count_texts.specs.Faults.{item_word}
use Rattle.sl_count_texts.specs.Lines.{with_words}
use Rattle.sl_count_texts.proofs.fault_form.item_words.Given as goal

abbrev pub invariant-loop-item : goal.invariant-loop-item
invariant-loop-item l =
    l.text ≡ with_words l.initial.text (map (item_word l.returns) (take l.item-index l.items))
