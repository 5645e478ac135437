use Rattle.std.proofs.Common.{None, ap, arith, ◌∙◌}
use Rattle.std.proofs.lemmas.Str.Pattern.{strip_prefix_char}
use Rattle.std.specs.Option.{option_map}
use Rattle.sl_count_inputs.specs.Books.{text}
use Rattle.sl_terminal_outside.proofs.Names.{path_named}
use Rattle.sl_terminal_outside.proofs.inputs.open_book.Goals as goal

pub returns-in-Ok-clause-book : goal.returns-in-Ok-clause-book
returns-in-Ok-clause-book g c =
    let path = path_named (g.O.Outside.bytes c.args.outside.now) c.args.word.now (strip_prefix_char 64 c.args.word.now None c.in-None.ensures.cases (omega arith)) in
    ap (option_map text) c.in-Ok.ensures.file ∙ path
