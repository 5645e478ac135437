use Rattle.std.proofs.Common.{arith, ap, sym, subst, length, length-append, List, ◌++◌, ◌∷◌, [], ◌≡◌}
use Rattle.std.proofs.lemmas.Result.{err_from_is_err_and}
use Rattle.std.specs.List.{All}
use Rattle.std.proofs.lemmas.List.Elements.{All-push}
use Rattle.sl_code_instructions.specs.declared.code.CodeStage.{CodeStage}
use Rattle.sl_code.specs.Spelling.{stage_bytes}
use Rattle.sl_code_instructions.specs.Proper.{IsStage}
use Rattle.sl_code.specs.Faults.{FailsStage}
use Rattle.sl_code.proofs.Pieces.{refuse_element, element_stands}
use Rattle.sl_code.proofs.reader.Reader.stage_list.Goals as goal

pub returns-in_err-stage-clause-err : goal.returns-in_err-stage-clause-err
returns-in_err-stage-clause-err c =
    let p = err_from_is_err_and c.from_residual.result c.from_residual.ensures.1 in
    rw (p.1, p.2) (refuse_element stage_bytes IsStage FailsStage c.args.count c.args.self.now _ _ _ c.loop-at.invariant.0 (omega arith) c.loop-at.invariant.2 c.in_err-stage.ensures.err)

pub loop-at-preserved : goal.loop-at-preserved
loop-at-preserved c =
    let grown : c.push.new.self.items ≡ c.loop-at.stages.items ++ c.in_ok-stage.stage ∷ [] = c.in_ok-push.ensures.items in
    let are : All IsStage (c.loop-at.stages.items ++ c.in_ok-stage.stage ∷ []) = All-push IsStage c.loop-at.stages.items c.in_ok-stage.stage c.loop-at.invariant.2 c.in_ok-stage.ensures.ok.1 in (
      element_stands stage_bytes _ _ _ _ _ c.in_ok-stage.stage c.loop-at.invariant.0 c.in_ok-stage.ensures.ok.0 grown,
      omega (arith, simp length-append at (ap length grown)),
      subst (λ (xs : List CodeStage). All IsStage xs) (sym grown) are,
    )
