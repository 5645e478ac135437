use Rattle.std.proofs.Common.{◌++◌, ◌∷◌, [], take, ap, sym, ◌∙◌}
use Rattle.std.proofs.lemmas.List.{take_more}
use Rattle.std.proofs.lemmas.Option.{slice_get_within, get_or_from_slice_get}
use Rattle.sl_table.proofs.tables.places.Goals as goal

pub loop-win-preserved : goal.loop-win-preserved
loop-win-preserved c =
    let held = c.args.memory.now.placed in
    let win = c.loop-win.win in
    let place = c.placed.result in
    c.in-Ok-push.ensures.items ∙ ap (λ xs. xs ++ place ∷ []) c.loop-win.invariant
    ∙ ap (λ x. take win held ++ x ∷ []) (sym (get_or_from_slice_get held win place place c.placed.ensures))
    ∙ sym (take_more held win place (slice_get_within held win place c.placed.ensures))
