use Rattle.std.proofs.Common.{◌∙◌, ap, sym}
use Rattle.sl_compile_pieces.specs.exprs.Slots.{stage_slot}
use Rattle.sl_compile.proofs.Walks.{found_slot, lost_slot}
use Rattle.sl_compile.proofs.Found.{found_type, lost_type}
use Rattle.sl_compile.proofs.earlier.Earlier.column.Goals as goal

pub returns-in-Some-clause-slot : goal.returns-in-Some-clause-slot
returns-in-Some-clause-slot c =
    c.stage_slot.ensures ∙ ap stage_slot (found_slot c.args.name.now c.args.self.now.stages.now c.args.self.now.types.now c.in-Some.i c.args.self.now.paired (sym c.find.ensures ∙ c.in-Some.is))

pub returns-in-Some-clause-has : goal.returns-in-Some-clause-has
returns-in-Some-clause-has c =
    found_type c.args.name.now c.args.self.now.stages.now c.args.self.now.types.now c.in-Some.i _ c.args.self.now.paired (sym c.find.ensures ∙ c.in-Some.is)

pub returns-in-None-clause-slot : goal.returns-in-None-clause-slot
returns-in-None-clause-slot c =
    c.stage_slot-in-None.ensures ∙ ap stage_slot (lost_slot c.args.name.now c.args.self.now.stages.now c.args.self.now.types.now c.args.self.now.paired (sym c.find.ensures ∙ c.in-None.is))

pub returns-in-None-clause-has : goal.returns-in-None-clause-has
returns-in-None-clause-has c =
    c.seats.ensures ∙ lost_type c.args.name.now c.args.self.now.stages.now c.args.self.now.types.now c.args.self.now.paired (sym c.find.ensures ∙ c.in-None.is)
