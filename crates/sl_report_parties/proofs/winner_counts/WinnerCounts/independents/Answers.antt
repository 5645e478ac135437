use Rattle.std.proofs.Common.{ap, arith, count_by, get_or, length, ◌∙◌}
use Rattle.std.proofs.lemmas.List.FromFn.{get_or-map-range_with_len, length-map-range_with_len}
use Rattle.sl_law_meaning.specs.returns.Election.{lands_of}
use Rattle.sl_report_parties.specs.Sums.{is_alone_in}
use Rattle.sl_report_parties.proofs.winner_counts.WinnerCounts.independents.Goals as goal

pub index-requires : goal.index-requires
index-requires c =
    let s = c.args.self.now in
    omega (arith, c.requires, ap length s.are_alone ∙ length-map-range_with_len (λ n. count_by (is_alone_in n) s.returns.now.wins) 0 (lands_of s.returns.now), s.alone.ok.0)

pub returns : goal.returns
returns c =
    let s = c.args.self.now in
    c.index.ensures ∙ ap (λ xs. get_or xs c.args.land c.index.result.now) s.are_alone
    ∙ get_or-map-range_with_len (λ n. count_by (is_alone_in n) s.returns.now.wins) 0 (lands_of s.returns.now) c.args.land c.args.land c.index.result.now c.requires (omega arith)
