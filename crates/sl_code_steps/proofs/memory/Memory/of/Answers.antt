use Rattle.std.proofs.Common.{rules}
use Rattle.std.proofs.lemmas.List.{length-map}
use Rattle.sl_code_steps.proofs.memory.Memory.of.Goals as goal

pub invariant_of-result : goal.invariant_of-result
invariant_of-result c = record { base = rw length-map at c.requires.base; vacant = search rules }
