use Rattle.sl_table.proofs.HeldTables.{held_lists_fit}
use Rattle.sl_table.proofs.tables.into_table.Goals as goal

pub returns-clause-fits : goal.returns-clause-fits
returns-clause-fits c =
    rw (c.new.ensures, c.in_ok-lists.ensures, c.in_ok-placed.ensures) (record { lists = held_lists_fit c.args.returns.now c.args.memory; placed = c.requires.placed })
