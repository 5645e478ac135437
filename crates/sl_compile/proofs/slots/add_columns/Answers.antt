use Rattle.std.proofs.Common.{sym, ap, ◌++◌, append_assoc}
use Rattle.std.proofs.lemmas.List.{map_more}
use Rattle.sl_law_meaning.specs.declared.book.ColumnType.{ColumnType}
use Rattle.sl_compile.proofs.slots.add_columns.Goals as goal

pub loop-column-preserved : goal.loop-column-preserved
loop-column-preserved c =
    rw (c.in_ok-push.ensures.items, c.loop-column.invariant, append_assoc)
    (ap (λ xs. c.args.slots.now.items ++ xs) (sym (map_more (λ (t : ColumnType). t.shape) c.args.types.now c.loop-column.column-index _ c.loop-column-test.true)))
