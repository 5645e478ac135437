use Rattle.std.proofs.Common.{◌≡◌, map, ℕ, arith, ap, sym, ◌∙◌}
use Rattle.std.specs.Prelude.{sum_by}
use Rattle.std.specs.List.{range_with_len}
use Rattle.std.proofs.lemmas.Simd.{map-map}
use Rattle.sl_law_meaning.specs.returns.Facts.{lands, parties, list_cell}
use Rattle.sl_law_meaning.specs.returns.Election.{parties_of}
use Rattle.sl_report_parties.specs.Sums.{capped}
use Rattle.sl_report_parties.proofs.Steps.{mapped_more}
use Rattle.sl_report_results.proofs.columns.party_sums.Goals as goal

pub loop-party-preserved : goal.loop-party-preserved
loop-party-preserved c =
    let e = c.args.returns.now in
    mapped_more (λ party. capped (sum_by (λ land. list_cell e c.args.column.now.cells.items land party) (lands e))) c.loop-party.party _ _ _ c.loop-party.invariant c.in_ok-push.ensures.items c.party_sum.ensures

pub returns : goal.returns
returns c =
    let e = c.args.returns.now in
    let whole : ℕ → ℕ = λ party. sum_by (λ land. list_cell e c.args.column.now.cells.items land party) (lands e) in
    let all : c.loop-party.party ≡ parties_of e = omega (arith, c.loop-party-test.false, c.loop-party.auto.party-end, c.parties-party-end.ensures.number) in
    c.loop-party.invariant ∙ ap (λ n. map (λ k. capped (whole k)) (range_with_len 0 n)) all ∙ sym (map-map capped whole (parties e))
