use Rattle.std.proofs.Common.{◌≡◌, option_map, arith}
use Rattle.std.proofs.lemmas.Grind.{common_steps}
use Rattle.sl_explain_texts.specs.Codes.{code_word}
use Rattle.sl_report_forms.proofs.JsonDepths.{of_text}
use Rattle.sl_report_forms.proofs.json_heading.told_value.Goals as goal

pub returns : goal.returns
returns c =
    let code : option_map (λ t. t.now) c.map.result ≡ option_map code_word c.args.told.explanation.now.code = grind (arith, common_steps, c.map.ensures.cases, c.code.ensures) in
    let text = of_text (option_map code_word c.args.told.explanation.now.code) in
    grind (arith, common_steps, code, text)
