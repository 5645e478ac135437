use Rattle.std.proofs.Common.{map, codes, ap, sym, ◌∷◌, ◌++◌, ◌∙◌}
use Rattle.std.specs.Fmt.{decimal}
use Rattle.std.proofs.lemmas.Result.{IfOk-equal}
use Rattle.sl_count_texts.specs.Faults.{stage_word, scope_words, item_word}
use Rattle.sl_count_texts.specs.Lines.{with_word, with_words, with_end}
use Rattle.sl_count_texts.specs.Steps.{mark_words}
use Rattle.sl_count_texts.proofs.Words.{words_append, line_behind}
use Rattle.sl_count_texts.proofs.steps_form.step_line.Goals as goal

pub returns : goal.returns
returns c =
    let e = c.args.returns.now in
    let x = c.args.step.now in
    let d = c.args.text.now in
    let stage = stage_word (map (λ s. s.name) c.args.code.now.stages) x.stage in
    let scope = scope_words e x.scope in
    let entry = item_word e x.entry in
    let marked = mark_words x.mark in
    IfOk-equal c.end_line.result _ _ _ c.end_line.ensures.ended
    (ap with_end (c.in_ok-mark_words.ensures
    ∙ ap (λ t. with_words t marked) (c.in_ok-number-2.ensures.added
    ∙ ap (λ t. with_word t (decimal x.step)) (c.in_ok-number.ensures.added
    ∙ ap (λ t. with_word t (decimal x.n)) (c.in_ok-item_word.ensures
    ∙ ap (λ t. with_word t entry) (c.in_ok-scope_words.ensures
    ∙ ap (λ t. with_words t scope) (c.in_ok-stage_word.ensures
    ∙ ap (λ t. with_word t stage) c.in_ok-word.ensures.added)))))
    ∙ sym (words_append (with_word (with_word d (codes "seat")) stage) scope (entry ∷ decimal x.n ∷ decimal x.step ∷ marked)))
    ∙ line_behind d (codes "seat") (stage ∷ scope ++ (entry ∷ decimal x.n ∷ decimal x.step ∷ marked)) c.requires.begun)
