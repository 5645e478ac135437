use Rattle.std.proofs.Common.{inl, inr}
use Rattle.sl_report_results.proofs.Typed.{ok_both}
use Rattle.sl_report_results.specs.Scopes.{IsScoped}
use Rattle.sl_report_results.proofs.distributed.divided.Goals as goal

pub with_found-requires-clause-allocated : goal.with_found-requires-clause-allocated
with_found-requires-clause-allocated c = (rw c.in-Some.is at c.in_ok-found.ensures).0

pub returns-in-Some : goal.returns-in-Some
returns-in-Some c = ok_both {R = IsScoped c.args.stage c.args.what.now c.args.scope c.args.entries.now} _ (λ s head margins. record { head = head; follows = rw c.requires (inl margins) }) c.with_found.ensures.head c.with_found.ensures.margins

pub returns-in-None : goal.returns-in-None
returns-in-None c = ok_both {R = IsScoped c.args.stage c.args.what.now c.args.scope c.args.entries.now} _ (λ s head none. record { head = head; follows = rw c.requires (inr (rw c.in-None.is at c.in_ok-found.ensures, none)) }) c.plain.ensures.head c.plain.ensures.none
