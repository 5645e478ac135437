use Rattle.sl_lex.proofs.Words.{keyword_of-spelling}
use Rattle.sl_lex.proofs.laws.keyword_of_spelling.Goals as goal

pub returns : goal.returns
returns c = keyword_of-spelling
