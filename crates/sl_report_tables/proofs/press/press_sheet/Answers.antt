use Rattle.std.proofs.Common.{Bor, ◌++◌, List, ap, append_assoc, map, ◌≡◌, ◌∙◌, ◌∷◌, []}
use Rattle.std.specs.Prelude.{codes, option_map}
use Rattle.sl_report_forms.specs.Tables.{blank_table, table_of, with_rows}
use Rattle.sl_report_parties.proofs.Steps.{at_end}
use Rattle.sl_report_parties.specs.declared.earlier.EarlierParty.{EarlierParty}
use Rattle.sl_report_tables.specs.Columns.{listed}
use Rattle.sl_report_tables.specs.declared.press.TheConstants.{PRESS}
use Rattle.sl_report_tables.specs.Press.{gone_rows, named_columns, others_rows, press_row, sum_row}
use Rattle.sl_report_tables.proofs.press.press_sheet.Goals as goal

pub returns : goal.returns
returns c =
    let e = c.args.setting.now.returns.now in
    let earlier = option_map (λ (all : Bor (List EarlierParty)). all.now) c.args.earlier in
    let blank = blank_table (codes "press") (named_columns c.args.are_full ++ listed PRESS) in
    let rows = map (press_row e) c.in_ok-found.found.items in
    let gone = gone_rows e earlier in
    let others = others_rows e c.args.table.now earlier in
    let sum = sum_row e c.args.table.now earlier ∷ [] in
    let pressed : table_of c.loop-pressed.sheet ≡ with_rows blank rows =
    rw c.as_slice-pressed-items.ensures.value at (
    at_end (λ xs. with_rows blank (map (press_row e) xs)) c.as_slice-pressed-items.result.now c.loop-pressed.pressed-index _
    c.loop-pressed-test.false c.loop-pressed.invariant) in (
      c.in_ok-found.found.items,
      c.in_ok-found.ensures,
      (rw c.in_ok-sum_row.ensures at c.in_ok-push-2.ensures)
          ∙ ap (λ b. with_rows b sum) (c.in_ok-push_others.ensures ∙ ap (λ b. with_rows b others) (c.in_ok-push_gone.ensures ∙ ap (λ b. with_rows b gone) pressed))
          ∙ ap (with_rows blank) (append_assoc (rows ++ gone) others sum ∙ append_assoc rows gone (others ++ sum)),
    )
