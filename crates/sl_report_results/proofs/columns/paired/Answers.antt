use Rattle.std.proofs.Common.{◌<◌, length, map, get_or, arith, ap, refl, ◌∙◌}
use Rattle.std.specs.List.{zip}
use Rattle.std.proofs.lemmas.List.{take_all}
use Rattle.std.proofs.lemmas.Option.{slice_get-get_or}
use Rattle.std.proofs.lemmas.Slice.Zip.{length-zip}
use Rattle.sl_law_meaning.specs.meaning.Columns.{paired, pair_of}
use Rattle.sl_report_parties.proofs.Steps.{zip_at, map_next}
use Rattle.sl_report_results.proofs.columns.paired.Goals as goal

pub loop-number-preserved : goal.loop-number-preserved
loop-number-preserved c =
    let firsts = c.as_slice-firsts.result.now in
    let seconds = c.as_slice-seconds.result.now in
    let n = c.loop-number.number in
    let in_first : n < length firsts = omega (arith, c.loop-number-test.true, c.min-number-end.ensures) in
    let in_second : n < length seconds = omega (arith, c.loop-number-test.true, c.min-number-end.ensures) in
    map_next (λ x. paired c.args.pairing x.0 x.1) (zip firsts seconds) n (get_or firsts n 0, get_or seconds n 0) _ _ _
    (zip_at firsts seconds n (get_or firsts n 0) (get_or seconds n 0) (slice_get-get_or firsts n 0 in_first) (slice_get-get_or seconds n 0 in_second))
    c.loop-number.invariant c.in_ok-push.ensures.items c.paired_number.ensures

pub returns : goal.returns
returns c =
    let firsts = c.as_slice-firsts.result.now in
    let seconds = c.as_slice-seconds.result.now in
    record {
      cells =
          c.loop-number.invariant
          ∙ ap (map (λ x. paired c.args.pairing x.0 x.1)) (take_all c.loop-number.number (zip firsts seconds) (omega (arith, c.loop-number-test.false, c.min-number-end.ensures, length-zip firsts seconds)))
          ∙ ap (λ xs. pair_of c.args.pairing xs seconds) c.as_slice-firsts.ensures.value
          ∙ ap (λ ys. pair_of c.args.pairing c.args.left.now.cells.items ys) c.as_slice-seconds.ensures.value;
      shape = refl;
    }
