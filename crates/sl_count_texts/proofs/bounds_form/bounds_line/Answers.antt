use Rattle.std.proofs.Common.{map, codes, ap, sym, [], ◌∷◌, ◌++◌, ◌∙◌, if◌then◌else◌}
use Rattle.std.proofs.lemmas.Result.{IfOk-equal}
use Rattle.sl_count_texts.specs.Bounds.{is_lot}
use Rattle.sl_count_texts.specs.Faults.{stage_word, scope_words}
use Rattle.sl_count_texts.specs.Lines.{ratio_word, with_word, with_words, with_end}
use Rattle.sl_count_texts.proofs.Words.{words_append, line_behind}
use Rattle.sl_count_texts.proofs.bounds_form.bounds_line.Goals as goal

pub returns : goal.returns
returns c =
    let e = c.args.returns.now in
    let b = c.args.bounds.now in
    let d = c.args.text.now in
    let stage = stage_word (map (λ s. s.name) c.args.code.now.stages) b.stage in
    let scope = scope_words e b.scope in
    let last = ratio_word b.last in
    let next = ratio_word b.next in
    let lot = if is_lot b then codes "lot" ∷ [] else [] in
    IfOk-equal c.end_line.result _ _ _ c.end_line.ensures.ended
    (ap with_end (c.in_ok-lot_word.ensures
    ∙ ap (λ is. with_words c.ratio-2.new.self (if is then codes "lot" ∷ [] else [])) c.is_lot.ensures
    ∙ ap (λ t. with_words t lot) (c.in_ok-ratio-2.ensures.added
    ∙ ap (λ t. with_word t next) (c.in_ok-ratio.ensures.added
    ∙ ap (λ t. with_word t last) (c.in_ok-scope_words.ensures
    ∙ ap (λ t. with_words t scope) (c.in_ok-stage_word.ensures
    ∙ ap (λ t. with_word t stage) c.in_ok-word.ensures.added))))
    ∙ sym (words_append (with_word (with_word d (codes "bounds")) stage) scope (last ∷ next ∷ lot)))
    ∙ line_behind d (codes "bounds") (stage ∷ scope ++ (last ∷ next ∷ lot)) c.requires.begun)
