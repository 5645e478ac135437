use Rattle.std.proofs.Common.{◌≡◌, ◌≤◌, ◌*◌, cond, length, refl, ap, sym, ◌∙◌, eq-eqb, arith}
use Rattle.std.specs.List.{zip}
use Rattle.std.proofs.lemmas.Bool.{ne_eqb}
use Rattle.std.proofs.lemmas.Option.{slice_get_within}
use Rattle.std.proofs.lemmas.Slice.Zip.{length-zip}
use Rattle.sl_law_meaning.specs.declared.election.Win.{Win}
use Rattle.sl_law_meaning.specs.declared.table.Placed.{Placed}
use Rattle.sl_law_meaning.specs.returns.Election.{lands_of, parties_of}
use Rattle.sl_count_texts.proofs.Counting.{sums_none, counts_one, counts_no, counts_all, count_le}
use Rattle.sl_count_texts.proofs.Winners.{in_zip, pair_here}
use Rattle.sl_count_texts.proofs.PartyWinners.{is_at}
use Rattle.sl_table.proofs.SeatedWinners.{counts_at, seated_winners_as}
use Rattle.sl_table.proofs.tables.seated_winners.Goals as goal
use Rattle.sl_table.proofs.tables.seated_winners.Goals.{in-Some, in_default-list_place}

pub overflow_add-index_mut : goal.overflow_add-index_mut
overflow_add-index_mut c =
    let e = c.args.returns.now in
    let held = c.args.memory.now.placed in
    let i = c.loop-number.number in
    let within = in_zip e.wins held i c.win.result c.win.ensures (slice_get_within held i c.placed.result c.placed.ensures) in
    omega (arith, count_le (counts_at e) (zip e.wins held) (lands_of e * parties_of e) i c.loop-number.column.items c.loop-number.invariant c.in-Some.place _ c.in-Some.ensures.within (omega (arith, within)) c.index_mut.ensures.value)

pub loop-number-preserved : goal.loop-number-preserved
loop-number-preserved c =
    let e = c.args.returns.now in
    let held = c.args.memory.now.placed in
    let i = c.loop-number.number in
    let x : Win × Placed = (c.win.result, c.placed.result) in
    let column = c.loop-number.column.items in
    let within = in_zip e.wins held i c.win.result c.win.ensures (slice_get_within held i c.placed.result c.placed.ensures) in
    let here = pair_here e.wins held i c.win.result c.placed.result c.win.ensures c.placed.ensures in
    elim c.match-list_place.branch [
      | in-Some w ↦
          counts_one (counts_at e) (zip e.wins held) (lands_of e * parties_of e) i column c.loop-number.invariant x within here w.in-Some.place _ _ w.in-Some.ensures.within w.index_mut.ensures.value (ap (λ v. v.items) w.column-is)
          (ap (is_at w.in-Some.place) (sym w.in-Some.ensures.place) ∙ eq-eqb w.in-Some.place w.in-Some.place refl)
          (λ k h. ap (is_at k) (sym w.in-Some.ensures.place) ∙ ne_eqb w.in-Some.place k (λ same. h (sym same)))
      | in_default-list_place w ↦
          counts_no (counts_at e) (zip e.wins held) (lands_of e * parties_of e) i column c.loop-number.invariant x within here _ (ap (λ v. v.items) w.column-is)
          (λ k. ap (is_at k) (sym c.list_place.ensures.place ∙ w.in_default-list_place.is))
    ]

pub returns : goal.returns
returns c =
    let e = c.args.returns.now in
    let held = c.args.memory.now.placed in
    let past : length (zip e.wins held) ≤ c.loop-number.number = omega (arith, length-zip e.wins held, c.wins-number-end.ensures.number, c.loop-number-test.false) in
    counts_all (counts_at e) (zip e.wins held) (lands_of e * parties_of e) c.loop-number.number c.loop-number.column.items past c.loop-number.invariant
    ∙ sym (seated_winners_as e c.lands-lands.ensures.kept held)

pub loop-number-init : goal.loop-number-init
loop-number-init c =
    let e = c.args.returns.now in
    let size : c.lands-lands.result * c.parties-parties.result ≡ lands_of e * parties_of e = ap (λ n. n * c.parties-parties.result) c.lands-lands.ensures.number ∙ ap (λ n. lands_of e * n) c.parties-parties.ensures.number in
    sums_none (λ k x. cond (counts_at e k x) 1 0) (zip e.wins c.args.memory.now.placed) _ c.in-Ok.column.items _ (c.in-Ok.ensures.items_if_clones_equal (λ y same. same)) size
