-- The stages so far are left, or their names are lost.
use Rattle.std.proofs.Common.{◌≡◌, [], ◌++◌, drop, map}
use Rattle.sl_law_meaning.specs.book.Trees.{stage_of}
use Rattle.sl_explain_books.specs.Further.{names_lost, stages_left}
use Rattle.sl_explain_books.proofs.left_out.Stages.without.Given as goal

abbrev pub invariant-loop-stage : goal.invariant-loop-stage
invariant-loop-stage l = record {
  left : map stage_of l.all.left.items ++ stages_left l.clause l.all.lost.items (map stage_of (drop l.stage-index l.stages)) ≡ stages_left l.clause [] (map stage_of l.stages);
  lost : names_lost l.clause l.all.lost.items (map stage_of (drop l.stage-index l.stages)) ≡ names_lost l.clause [] (map stage_of l.stages);
}
