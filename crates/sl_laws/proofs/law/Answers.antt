use Rattle.std.proofs.Common.{refl}
use Rattle.sl_laws.proofs.Statutes.{text_of_law}
use Rattle.sl_laws.proofs.law.Goals as goal

pub loop-statute-init : goal.loop-statute-init
loop-statute-init c = text_of_law c.args.name.now _ refl
