use Rattle.std.proofs.Common.{◌+◌, ◌*◌, get_or, sym, ap, ◌∙◌}
use Rattle.sl_law_meaning.specs.returns.Election.{has_list}
use Rattle.sl_count_texts.specs.Faults.{list_word}
use Rattle.sl_count_texts.specs.Lines.{with_lines}
use Rattle.sl_table.specs.Stages.{entry_line, list_entry}
use Rattle.sl_table.proofs.EntryLines.{passing_more, passing_same}
use Rattle.sl_table.proofs.stage_form.land_lists.Goals as goal
use Rattle.sl_table.proofs.stage_form.land_lists.Goals.{then-is_list+in_ok-list_line, else-is_list}

pub loop-party-preserved : goal.loop-party-preserved
loop-party-preserved c =
    let e = c.args.returns.now in
    let column = c.args.column.now in
    let land = c.args.land in
    let party = c.loop-party.party in
    elim c.if-is_list.branch [
      | then-is_list+in_ok-list_line w ↦
          passing_more (list_entry e column land) (has_list e land) c.args.text.now party c.loop-party.text _ c.loop-party.invariant (sym c.is_list.ensures ∙ w.if-is_list.true)
          (w.text-is ∙ w.in_ok-list_line.ensures
          ∙ ap (λ n. with_lines c.loop-party.text (entry_line (list_word e land party) (get_or column (land * n + party) 0))) c.parties-parties.ensures.number)
      | else-is_list w ↦
          passing_same (list_entry e column land) (has_list e land) c.args.text.now party c.loop-party.text _ c.loop-party.invariant (sym c.is_list.ensures ∙ w.if-is_list.false) w.text-is
    ]
