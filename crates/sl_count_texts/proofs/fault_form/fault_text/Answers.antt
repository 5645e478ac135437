use Rattle.std.proofs.Common.{map, codes, ap, ◌∙◌}
use Rattle.sl_count_texts.specs.Faults.{stage_word, scope_words, kind_words}
use Rattle.sl_count_texts.proofs.Words.{one_line}
use Rattle.sl_count_texts.proofs.fault_form.fault_text.Goals as goal

pub returns : goal.returns
returns c =
    let names = map (λ s. s.name) c.args.code.now.stages in
    let e = c.args.returns.now in
    let f = c.args.fault.now in
    c.into_bytes.ensures
    ∙ ap (λ d. d.bytes) (one_line (codes "fault") (stage_word names f.stage) (scope_words e f.scope) (kind_words e f.kind) c.new-text.result _ _ _ _ _
    c.new-text.ensures c.in_ok-word.ensures.added c.in_ok-stage_word.ensures c.in_ok-scope_words.ensures c.in_ok-kind_words.ensures c.in_ok-end_line.ensures.ended)
