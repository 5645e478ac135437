use Rattle.sl_lex.proofs.FrontFacts.{word_front, long_word}
use Rattle.sl_lex.proofs.scan.word.Goals as goal

pub returns-then-len-gt-MAX_NAME_BYTES-clause-err : goal.returns-then-len-gt-MAX_NAME_BYTES-clause-err
returns-then-len-gt-MAX_NAME_BYTES-clause-err c = long_word _ _ _ c.requires c.word_len-len.ensures c.if-len-gt-MAX_NAME_BYTES.true

pub returns-in-Some-clause-ok : goal.returns-in-Some-clause-ok
returns-in-Some-clause-ok c = word_front _ _ _ c.requires c.word_len-len.ensures c.if-len-gt-MAX_NAME_BYTES.false c.in-Some.ensures

pub returns-in-None-clause-ok : goal.returns-in-None-clause-ok
returns-in-None-clause-ok c = word_front _ _ _ c.requires c.word_len-len.ensures c.if-len-gt-MAX_NAME_BYTES.false c.in-None.ensures
