use Rattle.sl_count_texts.proofs.Lists.{is_of}
use Rattle.sl_count_texts.proofs.short_form.list_lines.Goals as goal

pub list_line-requires-clause-land : goal.list_line-requires-clause-land
list_line-requires-clause-land c = (is_of _ _ c.requires.fits _ c.lists-list-items.ensures _ _ c.loop-list-test.true).0

pub list_line-requires-clause-party : goal.list_line-requires-clause-party
list_line-requires-clause-party c = (is_of _ _ c.requires.fits _ c.lists-list-items.ensures _ _ c.loop-list-test.true).1
