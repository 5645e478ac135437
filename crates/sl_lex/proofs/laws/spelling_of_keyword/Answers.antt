use Rattle.sl_lex.proofs.Words.{spelling_from_keyword}
use Rattle.sl_lex.proofs.laws.spelling_of_keyword.Goals as goal

pub returns : goal.returns
returns c = spelling_from_keyword
