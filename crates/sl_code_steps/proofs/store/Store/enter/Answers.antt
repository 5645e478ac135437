-- The entry's number is small.
use Rattle.std.proofs.Common.{rules, ◌^◌, ◌<◌}
use Rattle.sl_code_steps.proofs.stores.Bounds.{entries_fit}
use Rattle.sl_code_steps.proofs.store.Store.enter.Goals as goal

pub overflow_cast-index : goal.overflow_cast-index
overflow_cast-index c =
    let small : c.entry_index-index.result < 2 ^ 32 = entries_fit c.args.returns.now c.requires.election c.unwrap-entries.result c.entry_index-index.result c.entry_index-index.ensures.within in
    search rules
