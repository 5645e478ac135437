use Rattle.std.proofs.Common.{[], ap, filter, sym, ◌++◌, ◌∙◌, ◌∷◌}
use Rattle.std.proofs.lemmas.List.Elements.{filter-append}
use Rattle.std.specs.List.{range_with_len}
use Rattle.std.specs.Prelude.{if◌then◌else◌}
use Rattle.sl_law_meaning.specs.returns.Facts.{is_eligible}
use Rattle.sl_report_parties.proofs.Steps.{range_more}
use Rattle.sl_report_warnings.proofs.takers.taking_part.Goals as goal

pub loop-party-preserved : goal.loop-party-preserved
loop-party-preserved c =
    let test = is_eligible c.args.book.now.eligible.items c.args.returns.now in
    let n = c.loop-party.party in
    c.in_ok-push_if.ensures
    ∙ ap (λ xs. xs ++ (if c.takes_part.result then n ∷ [] else [])) c.loop-party.invariant
    ∙ ap (λ b. filter test (range_with_len 0 n) ++ (if b then n ∷ [] else [])) c.takes_part.ensures
    ∙ sym (ap (filter test) (range_more n) ∙ filter-append test (range_with_len 0 n) (n ∷ []))
