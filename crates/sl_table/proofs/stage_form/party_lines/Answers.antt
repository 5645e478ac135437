use Rattle.std.proofs.Common.{◌<◌, [], get_or, sym, ap, ◌∙◌, arith}
use Rattle.std.proofs.lemmas.Option.{get_or_from_slice_get}
use Rattle.sl_law_meaning.specs.returns.Election.{parties_of}
use Rattle.sl_count_texts.specs.Lines.{with_lines}
use Rattle.sl_table.specs.Stages.{entry_line, party_entry}
use Rattle.sl_table.proofs.EntryLines.{numbers_more, numbers_all}
use Rattle.sl_table.proofs.stage_form.party_lines.Goals as goal

pub loop-party-preserved : goal.loop-party-preserved
loop-party-preserved c =
    let e = c.args.returns.now in
    let column = c.args.column.now in
    let party = c.loop-party.party in
    let within : party < parties_of e = omega (arith, c.requires.cells) in
    numbers_more (party_entry e column) c.args.text.now (parties_of e) party c.loop-party.text _ within c.loop-party.invariant
    (c.in_ok-entry_line.ensures
    ∙ ap (λ name. with_lines c.loop-party.text (entry_line name (get_or column party 0))) (sym (get_or_from_slice_get e.party_names party c.party_name.result.now [] c.party_name.ensures)))

pub returns : goal.returns
returns c =
    let e = c.args.returns.now in
    numbers_all (party_entry e c.args.column.now) c.args.text.now (parties_of e) c.loop-party.party _ (omega (arith, c.requires.cells)) c.loop-party.invariant
