use Rattle.sl_lex.proofs.FrontFacts.{digits_pass, number_front, big_number}
use Rattle.sl_lex.proofs.scan.number.Goals as goal

pub number_of-requires : goal.number_of-requires
number_of-requires c = digits_pass _ _ c.digits_len-len.ensures

pub returns-in_default-clause-err : goal.returns-in_default-clause-err
returns-in_default-clause-err c = big_number _ _ _ c.requires c.digits_len-len.ensures c.in_default.ensures.above

pub returns-clause-ok : goal.returns-clause-ok
returns-clause-ok c = number_front _ _ _ c.requires c.digits_len-len.ensures c.in-Some.ensures.within.0 c.in-Some.ensures.within.1
