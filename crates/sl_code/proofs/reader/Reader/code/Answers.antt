use Rattle.std.proofs.Common.{[], ap, sym, ◌∙◌, arith, rules}
use Rattle.std.proofs.lemmas.Result.{err_from_is_err_and}
use Rattle.sl_code_instructions.specs.Codes.{CountingCode}
use Rattle.sl_code.specs.Spelling.{spelling_of}
use Rattle.sl_code.proofs.FileFacts.{parts_whole}
use Rattle.sl_code.proofs.Pieces.{file_in_stages, file_in_slots, file_in_instrs, file_behind}
use Rattle.sl_code.proofs.reader.Reader.code.Goals as goal

pub returns-in_err-stages-clause-err : goal.returns-in_err-stages-clause-err
returns-in_err-stages-clause-err c = search (rules, file_in_stages)

pub returns-in_err-slots-clause-err : goal.returns-in_err-slots-clause-err
returns-in_err-slots-clause-err c =
    let p = err_from_is_err_and c.from_residual-in_err-slots.result c.from_residual-in_err-slots.ensures.1 in
    rw (p.1, p.2) (file_in_slots _ _ _ [] _ [] _ c.in_ok-opening.ensures.ok c.in_ok-stages.ensures.ok.0 c.in_ok-stages.ensures.ok.1 c.in_ok-stages.ensures.ok.2 c.in_err-slots.ensures.err)

pub returns-in_err-instrs-clause-err : goal.returns-in_err-instrs-clause-err
returns-in_err-instrs-clause-err c =
    let p = err_from_is_err_and c.from_residual-in_err-instrs.result c.from_residual-in_err-instrs.ensures.1 in
    rw (p.1, p.2) (file_in_instrs _ _ _ _ _ _ _ c.in_ok-opening.ensures.ok c.in_ok-stages.ensures.ok.0 c.in_ok-stages.ensures.ok.1 c.in_ok-stages.ensures.ok.2 c.in_ok-slots.ensures.ok.0 c.in_ok-slots.ensures.ok.1 c.in_err-instrs.ensures.err)

pub returns-then-left-gt0-clause-err : goal.returns-then-left-gt0-clause-err
returns-then-left-gt0-clause-err c =
    file_behind _ _ _ _ _ _ _ _ _ c.in_ok-opening.ensures.ok c.in_ok-stages.ensures.ok.0 c.in_ok-stages.ensures.ok.1 c.in_ok-stages.ensures.ok.2 c.in_ok-slots.ensures.ok.0 c.in_ok-slots.ensures.ok.1 c.in_ok-instrs.ensures.ok.0 c.in_ok-instrs.ensures.ok.1 (omega arith) c.stop.ensures

pub new-requires : goal.new-requires
new-requires c = record {
  limits = record { instrs = c.in_ok-instrs.ensures.ok.1; stages = c.in_ok-stages.ensures.ok.1; slots = c.in_ok-slots.ensures.ok.1 };
  words = c.in_ok-stages.ensures.ok.2;
  in_range = c.in_ok-instrs.ensures.ok.2;
}

pub returns-clause-ok : goal.returns-clause-ok
returns-clause-ok c =
    let code : CountingCode = record { instrs = c.in_ok-instrs.instrs.items; stages = c.in_ok-stages.stages.items; slots = c.in_ok-slots.slots.items } in
    parts_whole code _ _ _ _ c.instrs.new.self c.in_ok-opening.ensures.ok c.in_ok-stages.ensures.ok.0 c.in_ok-slots.ensures.ok.0 c.in_ok-instrs.ensures.ok.0 (omega arith) ∙ ap spelling_of (sym c.new.ensures)
