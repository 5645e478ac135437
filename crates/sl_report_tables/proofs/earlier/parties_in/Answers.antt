use Rattle.std.proofs.Common.{Bor, List, [], ap, filter_map, get_or, ◌∙◌, ℕ}
use Rattle.std.proofs.lemmas.List.{take_all}
use Rattle.std.proofs.lemmas.Option.{slice_get-get_or}
use Rattle.sl_report_tables.specs.Earlier.{told_party, words}
use Rattle.sl_report_tables.proofs.EarlierSteps.{parties_more}
use Rattle.sl_report_tables.proofs.earlier.parties_in.Goals as goal

pub loop-line-preserved : goal.loop-line-preserved
loop-line-preserved c =
    let lines = c.args.lines.now in
    let n = c.loop-line.line-index in
    let none : Bor (List ℕ) = record { ref_ptr = (0, 0); now = [] } in
    parties_more lines n (get_or lines n none) _ _ (slice_get-get_or lines n none c.loop-line-test.true) c.loop-line.invariant c.in_ok-push_party.ensures

pub returns : goal.returns
returns c =
    c.loop-line.invariant
    ∙ ap (filter_map (λ (l : Bor (List ℕ)). told_party (words l.now))) (take_all c.loop-line.line-index c.args.lines.now c.loop-line-test.false)
