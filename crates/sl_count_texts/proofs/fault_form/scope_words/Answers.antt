-- The words of a list are added one after the other.
use Rattle.std.proofs.Common.{[], ap, ◌∙◌}
use Rattle.std.proofs.lemmas.Option.{get_or_from_slice_get}
use Rattle.std.proofs.lemmas.Result.{on_ok_weaker}
use Rattle.sl_count_texts.specs.Lines.{with_word}
use Rattle.sl_count_texts.proofs.fault_form.scope_words.Goals as goal

pub returns-in_ok-word-in-List-2 : goal.returns-in_ok-word-in-List-2
returns-in_ok-word-in-List-2 c =
    let e = c.args.returns.now in
    let land = get_or_from_slice_get e.land_names c.in-List.land _ [] c.land_name-in-List.ensures in
    let party = get_or_from_slice_get e.party_names c.in-List.party _ [] c.party_name-in-List.ensures in
    let before = c.in_ok-word-in-List-2.ensures.added ∙ ap (λ t. with_word t c.land_name-in-List.result.now) c.in_ok-word-in-List.ensures.added in
    rw (c.in-List.is, land, party) (on_ok_weaker c.word-in-List-3.result (λ added. added ∙ ap (λ t. with_word t c.party_name-in-List.result.now) before) c.word-in-List-3.ensures.added)
