use Rattle.std.proofs.Common.{subst}
use Rattle.sl_terminal_commands.proofs.Columns.{column_next, column_none}
use Rattle.sl_terminal_commands.proofs.comparing.columns_of.Goals as goal
use Rattle.sl_terminal_commands.specs.inner.Comparing.{IsColumnOf}

pub loop-named-preserved-in-Continue-branch-3 : goal.loop-named-preserved-in-Continue-branch-3
loop-named-preserved-in-Continue-branch-3 c =
    let n = c.in-Some.named in
    record {
      columns =
          column_next c.loop-named.yielded n c.loop-named.columns.items _ c.in-Some-2.column (subst (IsColumnOf n) c.in-Some-2.is c.in_ok-column.ensures) c.in_ok-push.ensures.items
          c.loop-named.invariant.columns;
    }

pub loop-named-preserved : goal.loop-named-preserved
loop-named-preserved c =
    let n = c.in-Some.named in
    record { columns = column_none c.loop-named.yielded n c.loop-named.columns.items (subst (IsColumnOf n) c.in_default.is c.in_ok-column.ensures) }
