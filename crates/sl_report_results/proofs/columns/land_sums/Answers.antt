use Rattle.std.proofs.Common.{◌≡◌, map, ℕ, arith, ap, sym, ◌∙◌}
use Rattle.std.specs.Prelude.{sum_by}
use Rattle.std.specs.List.{range_with_len}
use Rattle.std.proofs.lemmas.Simd.{map-map}
use Rattle.sl_law_meaning.specs.returns.Facts.{lands, parties, list_cell}
use Rattle.sl_law_meaning.specs.returns.Election.{lands_of}
use Rattle.sl_report_parties.specs.Sums.{capped}
use Rattle.sl_report_parties.proofs.Steps.{mapped_more}
use Rattle.sl_report_results.proofs.columns.land_sums.Goals as goal

pub loop-land-preserved : goal.loop-land-preserved
loop-land-preserved c =
    let e = c.args.returns.now in
    mapped_more (λ land. capped (sum_by (λ party. list_cell e c.args.column.now.cells.items land party) (parties e))) c.loop-land.land _ _ _ c.loop-land.invariant c.in_ok-push.ensures.items c.land_sum.ensures

pub returns : goal.returns
returns c =
    let e = c.args.returns.now in
    let whole : ℕ → ℕ = λ land. sum_by (λ party. list_cell e c.args.column.now.cells.items land party) (parties e) in
    let all : c.loop-land.land ≡ lands_of e = omega (arith, c.loop-land-test.false, c.loop-land.auto.land-end, c.lands-land-end.ensures.number) in
    c.loop-land.invariant ∙ ap (λ n. map (λ k. capped (whole k)) (range_with_len 0 n)) all ∙ sym (map-map capped whole (lands e))
