use Rattle.std.proofs.lemmas.List.{get_or_default}
use Rattle.sl_count_texts.specs.Faults.{item_word}
use Rattle.sl_count_texts.proofs.Words.{words_more}
use Rattle.sl_count_texts.proofs.fault_form.item_words.Goals as goal

pub loop-item-preserved : goal.loop-item-preserved
loop-item-preserved c =
    let items = c.args.items.now in
    let i = c.loop-item.item-index in
    words_more (item_word c.args.returns.now) c.args.text.now items i _ c.loop-item.text _ c.loop-item-test.true (get_or_default items i _ _ c.loop-item-test.true) c.loop-item.invariant c.in_ok-item_word.ensures
