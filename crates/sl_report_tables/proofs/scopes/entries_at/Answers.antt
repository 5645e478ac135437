use Rattle.std.proofs.Common.{ap, sym, ◌∙◌, ◌++◌, []}
use Rattle.std.proofs.lemmas.List.{append-nil}
use Rattle.std.proofs.lemmas.Option.{slice_get-get_or}
use Rattle.std.specs.List.{cons_option}
use Rattle.std.specs.Prelude.{option_map, slice_get}
use Rattle.sl_report_parties.proofs.Steps.{at_end}
use Rattle.sl_report_tables.specs.Scopes.{entries_at}
use Rattle.sl_report_tables.proofs.MoreNames.{found_more}
use Rattle.sl_report_tables.proofs.scopes.entries_at.Goals as goal
use Rattle.sl_report_tables.proofs.scopes.entries_at.Goals.{in-Some+in_ok-push, in_default}

pub loop-number-preserved : goal.loop-number-preserved
loop-number-preserved c =
    let numbers = c.args.numbers.now in
    let i = c.loop-number.number-index in
    let before = c.loop-number.found.items in
    found_more (λ number. option_map (λ x. x.item) (slice_get c.args.scoped.now.entries.items number)) numbers i _ c.entry_at.result before _
    (slice_get-get_or numbers i _ c.loop-number-test.true) c.entry_at.ensures c.loop-number.invariant
    (elim c.match-entry_at.branch [
      | in-Some+in_ok-push w ↦ ap (λ v. v.items) w.found-is ∙ w.in_ok-push.ensures.items ∙ ap (λ o. before ++ cons_option o []) (sym w.in-Some.is)
      | in_default w ↦ ap (λ v. v.items) w.found-is ∙ sym (append-nil before) ∙ ap (λ o. before ++ cons_option o []) (sym w.in_default.is)
    ])

pub returns : goal.returns
returns c = at_end (entries_at c.args.scoped.now) c.args.numbers.now c.loop-number.number-index _ c.loop-number-test.false c.loop-number.invariant
