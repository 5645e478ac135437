use Rattle.std.proofs.Common.{[], ap, sym, ◌∙◌, ◌∷◌}
use Rattle.sl_check.specs.Names.{names_one_of}
use Rattle.sl_law_meaning.specs.book.Trees.{tree_of}
use Rattle.sl_report_warnings.proofs.Pieces.{stage_passes}
use Rattle.sl_report_warnings.proofs.book.is_used.Goals as goal

pub returns-then-names_one_of : goal.returns-then-names_one_of
returns-then-names_one_of c =
    sym (stage_passes (λ s. names_one_of (c.args.name.now ∷ []) s.expr) c.args.stages.now c.loop-stage.stage-index c.stage-item.result c.loop-stage-test.true c.stage-item.is
    (ap (λ names. names_one_of names (tree_of c.stage-item.result.expr)) (sym c.from_ref.ensures.value) ∙ sym c.names_one_of.ensures ∙ c.if-names_one_of.true))
