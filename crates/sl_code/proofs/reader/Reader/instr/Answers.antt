use Rattle.std.proofs.Common.{[], ◌∷◌, inl, inr, refl, arith, rules, None, false}
use Rattle.sl_base_quotients.specs.declared.method.Divisor.TheVariants as divisors
use Rattle.sl_code_instructions.specs.declared.instr.Instr.TheVariants.{Set, Mov, Add, Sub, Mul, Div, Rem, Max, Jmp, Jz, Jlt, Jnl, Get, Store, Zero, Input, House, Wparty, Fparty, Nparty, Fland, Nland, Fwin, Nwin, Table, Prio, Rest, Peers, Lot, Takelot, Emit, Given, Fault, Tie, Halt, At, Haltv, Weigh}
use Rattle.sl_code_instructions.specs.declared.operand.EndFault.TheVariants as faults
use Rattle.sl_code_instructions.specs.declared.operand.Entries.TheVariants as entries
use Rattle.sl_code_instructions.specs.declared.operand.Input.TheVariants as inputs
use Rattle.sl_code_instructions.specs.declared.operand.Ranking.TheVariants as rankings
use Rattle.sl_code_instructions.specs.declared.operand.Rounding.TheVariants as roundings
use Rattle.sl_code_instructions.specs.declared.operand.ScopeKind.TheVariants as scopes
use Rattle.sl_code.proofs.Operations.{one_fails, between_fails, unknown_fails}
use Rattle.sl_code.proofs.reader.Reader.instr.Goals as goal

pub returns-in-1-clause-err : goal.returns-in-1-clause-err
returns-in-1-clause-err c = one_fails (Set 0 0) [] _ c.in_ok-op.op c.args.self.now _ c.set.result refl c.in-1.is c.in_ok-op.ensures.ok c.set.ensures.err

pub returns-in-2-to-8-clause-err : goal.returns-in-2-to-8-clause-err
returns-in-2-to-8-clause-err c = between_fails 2 (Mov 0 0 ∷ Add 0 0 ∷ Sub 0 0 ∷ Mul 0 0 ∷ Div 0 0 ∷ Rem 0 0 ∷ Max 0 0 ∷ []) _ c.in_ok-op.op c.args.self.now _ c.binary.result refl refl (omega arith) (omega arith) c.in_ok-op.ensures.ok c.binary.ensures.err

pub returns-in-9-clause-err : goal.returns-in-9-clause-err
returns-in-9-clause-err c = one_fails (Jmp 0) (Jnl 0 ∷ Wparty 0 ∷ []) _ c.in_ok-op.op c.args.self.now _ c.jump.result refl c.in-9.is c.in_ok-op.ensures.ok c.jump.ensures.err

pub returns-in-10-clause-err : goal.returns-in-10-clause-err
returns-in-10-clause-err c = one_fails (Jz 0 0) (Peers 0 0 ∷ Lot 0 0 ∷ []) _ c.in_ok-op.op c.args.self.now _ c.branch-self.result refl c.in-10.is c.in_ok-op.ensures.ok c.branch-self.ensures.err

pub returns-in-11-clause-err : goal.returns-in-11-clause-err
returns-in-11-clause-err c = one_fails (Jlt 0 0 0) [] _ c.in_ok-op.op c.args.self.now _ c.less.result refl c.in-11.is c.in_ok-op.ensures.ok c.less.ensures.err

pub returns-in-13-clause-err : goal.returns-in-13-clause-err
returns-in-13-clause-err c = one_fails (Get 0 0) (Store 0 0 ∷ Haltv 0 0 ∷ []) _ c.in_ok-op.op c.args.self.now _ c.column.result refl (first_of (search rules, grind arith)) c.in_ok-op.ensures.ok c.column.ensures.err

pub returns-in-15-clause-err : goal.returns-in-15-clause-err
returns-in-15-clause-err c = one_fails (Zero 0) (House 0 ∷ Rest 0 ∷ Takelot 0 ∷ Halt 0 ∷ []) _ c.in_ok-op.op c.args.self.now _ c.unary.result refl c.in-15.is c.in_ok-op.ensures.ok c.unary.ensures.err

pub returns-in-16-clause-err : goal.returns-in-16-clause-err
returns-in-16-clause-err c = one_fails (Input 0 inputs.Valid) [] _ c.in_ok-op.op c.args.self.now _ c.input_column.result refl c.in-16.is c.in_ok-op.ensures.ok c.input_column.ensures.err

pub returns-in-20-to-25-clause-err : goal.returns-in-20-to-25-clause-err
returns-in-20-to-25-clause-err c = between_fails 20 (Fparty 0 ∷ Nparty 0 ∷ Fland 0 ∷ Nland 0 ∷ Fwin 0 ∷ Nwin 0 ∷ []) _ c.in_ok-op.op c.args.self.now _ c.jump-in-20-to-25.result refl refl (first_of (search rules, grind arith)) (first_of (search rules, grind arith)) c.in_ok-op.ensures.ok c.jump-in-20-to-25.ensures.err

pub returns-in-26-clause-err : goal.returns-in-26-clause-err
returns-in-26-clause-err c = one_fails (Table entries.Party rankings.Quotients) [] _ c.in_ok-op.op c.args.self.now _ c.new_table.result refl c.in-26.is c.in_ok-op.ensures.ok c.new_table.ensures.err

pub returns-in-27-clause-err : goal.returns-in-27-clause-err
returns-in-27-clause-err c = one_fails (Prio divisors.Adams 0 0) [] _ c.in_ok-op.op c.args.self.now _ c.priority.result refl c.in-27.is c.in_ok-op.ensures.ok c.priority.ensures.err

pub returns-in-35-clause-err : goal.returns-in-35-clause-err
returns-in-35-clause-err c = one_fails (Emit 0 scopes.All 0 0) [] _ c.in_ok-op.op c.args.self.now _ c.emit.result refl c.in-35.is c.in_ok-op.ensures.ok c.emit.ensures.err

pub returns-in-36-clause-err : goal.returns-in-36-clause-err
returns-in-36-clause-err c = one_fails (Given 0 scopes.All 0) (Tie 0 scopes.All 0 ∷ []) _ c.in_ok-op.op c.args.self.now _ c.scoped.result refl c.in-36.is c.in_ok-op.ensures.ok c.scoped.ensures.err

pub returns-in-37-clause-err : goal.returns-in-37-clause-err
returns-in-37-clause-err c = one_fails (Fault 0 scopes.All faults.Limit) [] _ c.in_ok-op.op c.args.self.now _ c.legal_fault.result refl c.in-37.is c.in_ok-op.ensures.ok c.legal_fault.ensures.err

pub returns-in-42-clause-err : goal.returns-in-42-clause-err
returns-in-42-clause-err c = one_fails (At (record { positive = record { mask = 0 }; cursors = record { party = false; land = false; win = false }; table = None })) [] _ c.in_ok-op.op c.args.self.now _ c.kinds.result refl c.in-42.is c.in_ok-op.ensures.ok c.kinds.ensures.err

pub returns-in-44-clause-err : goal.returns-in-44-clause-err
returns-in-44-clause-err c = one_fails (Weigh 0 scopes.All roundings.Adams 0) [] _ c.in_ok-op.op c.args.self.now _ c.weigh.result refl c.in-44.is c.in_ok-op.ensures.ok c.weigh.ensures.err

pub returns-in_default-clause-err : goal.returns-in_default-clause-err
returns-in_default-clause-err c = unknown_fails c.in_ok-op.op c.args.self.now _ _ (inl (omega arith)) c.in_ok-op.ensures.ok c.stop-wrong.ensures

pub returns-in_default-2-clause-err : goal.returns-in_default-2-clause-err
returns-in_default-2-clause-err c = unknown_fails c.in_ok-op.op c.args.self.now _ _ (inr (first_of (search rules, grind arith))) c.in_ok-op.ensures.ok c.stop-wrong.ensures
