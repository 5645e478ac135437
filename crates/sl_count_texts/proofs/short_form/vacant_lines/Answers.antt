use Rattle.sl_count_texts.proofs.Lists.{is_of}
use Rattle.sl_count_texts.proofs.short_form.vacant_lines.Goals as goal

pub vacant_line-requires-clause-land : goal.vacant_line-requires-clause-land
vacant_line-requires-clause-land c = (is_of _ _ c.requires.fits _ c.lists-list-items.ensures _ _ c.loop-list-test.true).0

pub vacant_line-requires-clause-party : goal.vacant_line-requires-clause-party
vacant_line-requires-clause-party c = (is_of _ _ c.requires.fits _ c.lists-list-items.ensures _ _ c.loop-list-test.true).1
