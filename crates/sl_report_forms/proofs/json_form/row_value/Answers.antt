use Rattle.std.proofs.Common.{ℕ, ◌+◌, List, [], Some, arith, map, subst, sym, take, zip}
use Rattle.std.proofs.lemmas.Grind.{common_steps}
use Rattle.std.proofs.lemmas.List.{take_all}
use Rattle.std.proofs.lemmas.Result.{IfOk-weaker}
use Rattle.serde_json.specs.Data.{Data}
use Rattle.serde_json.specs.View.{view}
use Rattle.sl_report_forms.specs.Heads.{head_key}
use Rattle.sl_report_forms.specs.JsonForm.{Puts, cell_value}
use Rattle.sl_report_forms.specs.declared.cell.Cell.{Cell}
use Rattle.sl_report_forms.specs.declared.names.Names.{Names}
use Rattle.sl_report_forms.specs.declared.sheet.Head.{Head}
use Rattle.sl_report_forms.proofs.JsonFilling.{object-made}
use Rattle.sl_report_forms.proofs.Zips.{zip_next, zip_past}
use Rattle.sl_report_forms.proofs.json_form.row_value.Goals.{in-Some, in_default}
use Rattle.sl_report_forms.proofs.json_form.row_value.Goals as goal

abbrev members_of : Names → List (Head × Cell) → List (List ℕ × Data)
members_of names cells = map (λ p. (head_key p.0, cell_value names p.1)) cells

pub loop-place-preserved : goal.loop-place-preserved
loop-place-preserved c =
    let names = c.args.names.now in
    let heads = c.args.heads.now in
    let row = c.args.row.now in
    let i = c.loop-place.place in
    elim c.match-get.branch [
      | in-Some w ↦
          let one_more = zip_next heads row i w.in-Some.head.now c.index-row-place.result w.in-Some.ensures.lookup.3.0 c.loop-place-test.true w.in-Some.ensures.lookup.1 c.index-row-place.is in
          grind (arith, common_steps, one_more)
      | in_default w ↦
          subst (λ o. Puts (Some []) o (members_of names (zip heads (take (i + 1) row)))) (sym w.members-is)
          (subst (λ cells. Puts (Some []) c.loop-place.members (members_of names cells)) (sym (zip_past heads row i w.in_default.ensures.lookup.3)) c.loop-place.invariant)
    ]

pub returns : goal.returns
returns c =
    let names = c.args.names.now in
    let heads = c.args.heads.now in
    let row = c.args.row.now in
    let whole = subst (λ cells. Puts (Some []) c.loop-place.members (members_of names (zip heads cells))) (take_all c.loop-place.place row c.loop-place-test.false) c.loop-place.invariant in
    IfOk-weaker c.finished.result _ _ (λ v h. object-made c.loop-place.members (members_of names (zip heads row)) (view v) whole h) c.finished.ensures.ok
