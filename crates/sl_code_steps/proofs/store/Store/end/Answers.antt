-- A fault is the same on all returns.
use Rattle.sl_code_steps.proofs.store.Store.end.Goals as goal

pub returns-in-Fault-clause-follows : goal.returns-in-Fault-clause-follows
returns-in-Fault-clause-follows c = rw c.in-Fault.is (c.end_with_fault.ensures c.args.returns.now)
