use Rattle.sl_lex.proofs.SpanFacts.{spans}
use Rattle.sl_lex.proofs.laws.tokens_are_spans.Goals as goal

pub returns : goal.returns
returns c = spans
