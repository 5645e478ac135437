-- The stages so far are laid out, and the types before this place are those of their columns.
use Rattle.sl_compile.proofs.Walks.{LaidFirst}
use Rattle.sl_compile.proofs.stages.lay_stages.Given as goal

abbrev pub invariant-loop-i : goal.invariant-loop-i
invariant-loop-i l = LaidFirst l.stages l.types l.i l.initial.code.items l.code.items
