-- An instruction that does nothing: the run goes on in the state.
use Rattle.std.proofs.Common.{◌≡◌, ◌≢◌, true, refl}
use Rattle.sl_law_meaning.specs.declared.table.Mark.TheVariants as mark
use Rattle.sl_law_meaning.specs.returns.Election.{Election}
use Rattle.sl_code_instructions.specs.Codes.{CountingCode}
use Rattle.sl_code_instructions.specs.declared.instr.Instr.{Instr}
use Rattle.sl_code_instructions.specs.declared.instr.Instr.TheVariants as instr
use Rattle.sl_code_semantics.specs.Effects.{Goes, NoCase, effect}
use Rattle.sl_code_semantics.specs.State.{State}
use Rattle.sl_code_steps.specs.declared.step.Records.{Records}
use Rattle.sl_code_steps.specs.declared.step.Records.TheVariants as records
use Rattle.sl_code_steps.specs.inner.Recording.{state_by, left_by}
use Rattle.sl_code_steps.proofs.Dropping.{recorded, weighed}
use Rattle.sl_machine.specs.inner.Ways.{is_idle}

pub idle_goes : (c : CountingCode) (e : Election) (s : State) (k : Records) (i : Instr) → is_idle k i ≡ true → state_by k s ≡ s → effect c e i s ≢ NoCase →
    Goes s ≡ left_by k i (effect c e i s)
idle_goes c e s k (instr.At known) idle none case = refl
idle_goes c e s records.Dropped (instr.Emit n kind number step) idle none case = recorded c e s none n kind (s.registers number) (s.registers step) s.mark case
idle_goes c e s records.Dropped (instr.Given n kind number) idle none case = recorded c e s none n kind (s.registers number) 0 mark.Given case
idle_goes c e s records.Dropped (instr.Weigh n kind by r) idle none case = weighed c e s none n kind by (s.registers r) case
idle_goes c e s records.Kept i idle none case = cc
idle_goes c e s records.Dropped i idle none case = cc
