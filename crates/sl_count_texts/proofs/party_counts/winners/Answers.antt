use Rattle.std.proofs.Common.{◌≤◌, cond, length, map, count_by, sym, ap, ◌∙◌, arith}
use Rattle.std.specs.List.{zip, range_with_len}
use Rattle.std.proofs.lemmas.Slice.Zip.{length-zip}
use Rattle.sl_law_meaning.specs.returns.Election.{parties_of}
use Rattle.sl_count_texts.proofs.Counting.{sums_none, counts_all}
use Rattle.sl_count_texts.proofs.PartyWinners.{counts_for, party_within, of_counted, count_within, party_more, party_same}
use Rattle.sl_count_texts.proofs.party_counts.winners.Goals as goal
use Rattle.sl_count_texts.proofs.party_counts.winners.Goals.{in-Some, in_default-party}

pub overflow_add-index_mut : goal.overflow_add-index_mut
overflow_add-index_mut c =
    let e = c.args.returns.now in
    let i = c.loop-win.win in
    let of = party_within e c.parties.ensures.kept i c.win.result c.win.ensures c.in-Some.party (of_counted c.args.counted c.win.result _ c.in-Some.party (sym c.in-Some.is ∙ c.party.ensures)) in
    let most = count_within c.args.counted e.wins c.placed-place-items.result.now (parties_of e) i c.loop-win.column.items c.loop-win.invariant c.win.result c.win.ensures c.loop-win-test.true c.in-Some.party _ of c.index_mut.ensures.value in
    omega (arith, most)

pub loop-win-init : goal.loop-win-init
loop-win-init c =
    let e = c.args.returns.now in
    sums_none (λ k x. cond (counts_for c.args.counted k x) 1 0) (zip e.wins c.placed-place-items.result.now) _ c.in-Ok.column.items _ (c.in-Ok.ensures.items_if_clones_equal (λ y same. same)) c.parties.ensures.number

pub loop-win-preserved : goal.loop-win-preserved
loop-win-preserved c =
    let e = c.args.returns.now in
    let places = c.placed-place-items.result.now in
    let i = c.loop-win.win in
    let column = c.loop-win.column.items in
    elim c.match-party.branch [
      | in-Some w ↦
          let is = sym w.in-Some.is ∙ c.party.ensures in
          let of = party_within e c.parties.ensures.kept i c.win.result c.win.ensures w.in-Some.party (of_counted c.args.counted c.win.result _ w.in-Some.party is) in
          party_more c.args.counted e.wins places (parties_of e) i column c.loop-win.invariant c.win.result _ c.win.ensures c.loop-win-test.true w.in-Some.party _ _ is of w.index_mut.ensures.value (ap (λ v. v.items) w.column-is)
      | in_default-party w ↦
          party_same c.args.counted e.wins places (parties_of e) i column c.loop-win.invariant c.win.result _ c.win.ensures c.loop-win-test.true _ (sym w.in_default-party.is ∙ c.party.ensures) (ap (λ v. v.items) w.column-is)
    ]

pub returns : goal.returns
returns c =
    let e = c.args.returns.now in
    let places = c.placed-place-items.result.now in
    let past : length (zip e.wins places) ≤ c.loop-win.win = omega (arith, length-zip e.wins places, c.loop-win-test.false) in
    counts_all (counts_for c.args.counted) (zip e.wins places) (parties_of e) c.loop-win.win c.loop-win.column.items past c.loop-win.invariant
    ∙ ap (λ ps. map (λ k. count_by (counts_for c.args.counted k) (zip e.wins ps)) (range_with_len 0 (parties_of e))) c.placed-place-items.ensures

pub index_mut-requires : goal.index_mut-requires
index_mut-requires c =
    let of = party_within c.args.returns.now c.parties.ensures.kept c.loop-win.win c.win.result c.win.ensures c.in-Some.party (of_counted c.args.counted c.win.result _ c.in-Some.party (sym c.in-Some.is ∙ c.party.ensures)) in
    omega (arith, of, c.loop-win.invariant.size, c.loop-win.column.ok.0)
