-- The stages so far are named, by words.
use Rattle.std.proofs.Common.{◌≡◌, ◌++◌, All, map, drop}
use Rattle.sl_law_meaning.specs.book.Trees.{stage_of}
use Rattle.sl_code_instructions.specs.Proper.{IsStage}
use Rattle.sl_compile.specs.Codes.{code_stages}
use Rattle.sl_compile.proofs.naming.code_stages.Given as goal

abbrev pub invariant-loop-i : goal.invariant-loop-i
invariant-loop-i l = (l.named.items ++ code_stages l.i (map stage_of (drop l.i l.stages)) ≡ code_stages 0 (map stage_of l.stages)) × All IsStage l.named.items
