-- What is kept, with one more.
use Rattle.std.proofs.Common.{arith, refl}
use Rattle.sl_returns.proofs.Kept.{keeps_further, keeps_more}
use Rattle.sl_returns.proofs.sieve.Refusals.add.Goals as goal

pub returns-in_ok-push : goal.returns-in_ok-push
returns-in_ok-push c all k = keeps_further c.args.self.now _ all c.args.refused c.if-is_none.ensures refl refl c.in_ok-push.ensures.items (omega (arith, c.len.ensures)) k

pub returns-in_ok-self : goal.returns-in_ok-self
returns-in_ok-self c all k =
    let more = rw c.in_ok-self.ensures.ok_part at c.checked_add.ensures in
    keeps_more c.args.self.now _ all c.args.refused c.if-is_none.ensures refl more.1 refl (omega (arith, c.len.ensures)) k
