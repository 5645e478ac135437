use Rattle.std.proofs.Common.{ap, sym, ◌∙◌, []}
use Rattle.std.proofs.lemmas.Str.{is_utf8-from_IsUtf8}
use Rattle.std.specs.Prelude.{if◌then◌else◌}
use Rattle.std.specs.Result.{is_ok}
use Rattle.sl_explain_texts.proofs.Characters.{tested}
use Rattle.sl_report_tables.proofs.naming.text_of.Goals as goal

pub returns-in-Ok : goal.returns-in-Ok
returns-in-Ok c =
    let bytes = c.args.bytes.now in
    c.in-Ok.ensures.cases.0 ∙ ap (λ is. if is then bytes else []) (sym (is_utf8-from_IsUtf8 bytes c.in-Ok.ensures.cases.1))

pub returns-in-Err : goal.returns-in-Err
returns-in-Err c =
    let bytes = c.args.bytes.now in
    ap (λ is. if is then bytes else []) (sym (ap is_ok c.in-Err.is) ∙ tested _ _ bytes c.from_utf8.result c.from_utf8.ensures.cases)
