use Rattle.std.proofs.Common.{ap, arith, count_by, get_or, length, ◌∙◌}
use Rattle.std.proofs.lemmas.List.FromFn.{get_or-map-range_with_len, length-map-range_with_len}
use Rattle.sl_law_meaning.specs.returns.Election.{parties_of}
use Rattle.sl_law_meaning.specs.returns.Facts.{is_of}
use Rattle.sl_report_parties.proofs.winner_counts.WinnerCounts.of.Goals as goal

pub index-requires : goal.index-requires
index-requires c =
    let s = c.args.self.now in
    omega (arith, c.requires, ap length s.are_of_parties ∙ length-map-range_with_len (λ n. count_by (is_of n) s.returns.now.wins) 0 (parties_of s.returns.now), s.of_parties.ok.0)

pub returns : goal.returns
returns c =
    let s = c.args.self.now in
    c.index.ensures ∙ ap (λ xs. get_or xs c.args.party c.index.result.now) s.are_of_parties
    ∙ get_or-map-range_with_len (λ n. count_by (is_of n) s.returns.now.wins) 0 (parties_of s.returns.now) c.args.party c.args.party c.index.result.now c.requires (omega arith)
