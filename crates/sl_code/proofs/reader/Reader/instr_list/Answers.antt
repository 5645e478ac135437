use Rattle.std.proofs.Common.{◌≡◌, List, [], ◌∷◌, ◌++◌, length, length-append, sym, ap, subst, arith}
use Rattle.std.specs.List.{All}
use Rattle.std.proofs.lemmas.List.Elements.{All-push}
use Rattle.sl_code_instructions.specs.declared.instr.Instr.{Instr}
use Rattle.std.proofs.lemmas.Result.{err_from_is_err_and}
use Rattle.sl_code.specs.Spelling.{instr_bytes}
use Rattle.sl_code.specs.Faults.{IsAny, FailsInstr}
use Rattle.sl_code_instructions.specs.Proper.{IsInRange}
use Rattle.sl_code.proofs.Pieces.{element_stands, element_stops, all_any}
use Rattle.sl_code.proofs.reader.Reader.instr_list.Goals as goal

pub returns-in_err-instr-clause-err : goal.returns-in_err-instr-clause-err
returns-in_err-instr-clause-err c =
    let p = err_from_is_err_and c.from_residual.result c.from_residual.ensures.1 in
    rw (p.1, p.2) (element_stops instr_bytes IsAny FailsInstr c.args.count c.args.self.now c.loop-at.self c.loop-at.instrs.items _ c.loop-at.invariant.0 (omega arith) (all_any c.loop-at.instrs.items) c.in_err-instr.ensures.err)

pub loop-at-preserved : goal.loop-at-preserved
loop-at-preserved c =
    let grown : c.push.new.self.items ≡ c.loop-at.instrs.items ++ c.in_ok-instr.instr ∷ [] = c.in_ok-push.ensures.items in
    let are : All IsInRange (c.loop-at.instrs.items ++ c.in_ok-instr.instr ∷ []) = All-push IsInRange c.loop-at.instrs.items c.in_ok-instr.instr c.loop-at.invariant.2 c.in_ok-instr.ensures.in_range in (
      element_stands instr_bytes _ _ _ _ _ c.in_ok-instr.instr c.loop-at.invariant.0 c.in_ok-instr.ensures.ok grown,
      omega (arith, simp length-append at (ap length grown)),
      subst (λ (xs : List Instr). All IsInRange xs) (sym grown) are,
    )
