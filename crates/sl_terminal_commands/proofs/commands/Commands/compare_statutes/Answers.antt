use Rattle.std.proofs.Common.{ap, map, string_bytes, ◌∙◌}
use Rattle.std.proofs.lemmas.Result.{IfOk-weaker}
use Rattle.sl_terminal_commands.proofs.LibraryWords.{statutes_on}
use Rattle.sl_terminal_commands.proofs.commands.Commands.compare_statutes.Goals as goal

pub returns-in-Ok-statutes_of : goal.returns-in-Ok-statutes_of
returns-in-Ok-statutes_of g c =
    let read = c.in-Ok-statutes_of in
    let called = read.ensures.words ∙ ap (map string_bytes) c.as_slice.ensures.value ∙ c.in-Ok.ensures in
    let on = statutes_on (g.O.Outside.bytes c.args.self.now.outside.now) read.books.items called read.ensures.judged in
    IfOk-weaker c.compare_read.result _ _ (λ a h. (read.books.items, (called, on), h)) c.compare_read.ensures
