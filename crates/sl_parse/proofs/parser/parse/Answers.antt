use Rattle.sl_parse.proofs.SpanFacts.{spans_of}
use Rattle.sl_parse.proofs.parser.parse.Goals as goal

pub parse_spans-requires : goal.parse_spans-requires
parse_spans-requires c = spans_of 0 c.args.text.now c.args.tokens.now (c.tokens_are_spans.ensures c.args.text.now c.args.tokens.now c.requires)
