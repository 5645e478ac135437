-- The instructions that are given to the plans of a block.
use Rattle.std.specs.Prelude.{ℕ, List, [], ◌∷◌, Option, None, Some, unwrap_or}
use Rattle.sl_base_quotients.specs.declared.method.Divisor.{Divisor}
use Rattle.sl_base_quotients.specs.declared.method.Divisor.TheVariants as divisor
use Rattle.sl_base_quotients.specs.declared.method.Method.{Method}
use Rattle.sl_base_quotients.specs.declared.method.Method.TheVariants as by
use Rattle.sl_code_instructions.specs.declared.instr.Instr.{Instr}
use Rattle.sl_code_instructions.specs.declared.instr.Instr.TheVariants.{Set, Get, Store, Zero, Table, Prio, Emit, Given, Fault, Tie, Takelot, Weigh}
use Rattle.sl_code_instructions.specs.declared.operand.EndFault.TheVariants as end
use Rattle.sl_code_instructions.specs.declared.operand.Ranking.TheVariants as ranking
use Rattle.sl_code_instructions.specs.declared.operand.Rounding.TheVariants as rounding
use Rattle.sl_code_instructions.specs.Numbers.{rounding_of}
use Rattle.sl_compile_pieces.specs.scopes.Forms.{table_of, kind_of}
use Rattle.sl_compile_pieces.specs.declared.registers.TheConstants as reg
use Rattle.sl_compile_pieces.specs.seats.Trees.{ranking_of}
use Rattle.sl_blocks.specs.declared.blanks.Block.{Block}

-- the minimum of an entry, or 0
abbrev pub minimum_of : Option ℕ → Instr
minimum_of None = Set reg.BASE 0
minimum_of (Some slot) = Get reg.BASE slot

-- a method's divisor. Hamilton's has none, and its plans no instruction that names one
abbrev pub divisor_of : Method → Divisor
divisor_of (by.Divisor d) = d
divisor_of by.Hamilton = divisor.Webster

-- the instructions of the blanks, in order. The weights of a method that does not round are not recorded
abbrev pub given_of : Block → List Instr
given_of b =
    let stage = b.job.stage in
    let kind = kind_of b.form in
    let d = divisor_of b.method in
    Get reg.AMOUNT b.job.amount
    ∷ (Get reg.WEIGHT b.job.weights
    ∷ (minimum_of b.job.minima
    ∷ (Get reg.HELD b.job.result
    ∷ (Store b.job.result reg.BASE
    ∷ (Store b.job.result reg.HELD
    ∷ (Zero b.job.result
    ∷ (Given stage kind reg.NUMBER
    ∷ (Emit stage kind reg.HELD reg.STEP
    ∷ (Fault stage kind end.Limit
    ∷ (Fault stage kind end.Short
    ∷ (Fault stage kind end.NoList
    ∷ (Fault stage kind end.Majority
    ∷ (Fault stage kind end.Cap
    ∷ (Tie stage kind reg.LEFT
    ∷ (Takelot stage
    ∷ (Weigh stage kind (unwrap_or (rounding_of d) rounding.Webster) reg.WEIGHT
    ∷ (Prio d reg.WEIGHT reg.BASE
    ∷ (Prio d reg.WEIGHT reg.HELD
    ∷ (Table (table_of b.form) (ranking_of b.method)
    ∷ (Set reg.FIRST_PASSING (unwrap_or b.cap 0)
    ∷ (Set reg.LEFT (unwrap_or b.cap 0)
    ∷ (Table (table_of b.form) ranking.Quotients ∷ []))))))))))))))))))))))
