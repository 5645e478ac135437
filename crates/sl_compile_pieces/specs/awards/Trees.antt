-- The plans that award seats, whatever a seat is: whole batches of peers first, and then the last seats by the stage's lot
-- (docs/blocks.md, section 2).
use Rattle.std.specs.Prelude.{ℕ, List, [], ◌∷◌}
use Rattle.sl_code_instructions.specs.declared.instr.Instr.{Instr}
use Rattle.sl_code_instructions.specs.declared.instr.Instr.TheVariants.{Set, Mov, Add, Sub, Take, Takelot}
use Rattle.sl_compile_plans.specs.declared.plan.Test.TheVariants as test
use Rattle.sl_compile_plans.specs.declared.plan.Bound.{Bound}
use Rattle.sl_compile_plans.specs.Trees.{Tree, Line, Then, If, Times, ones}
use Rattle.sl_compile_pieces.specs.declared.registers.TheConstants as reg

-- the register is one more
abbrev pub count_up : ℕ → List Instr
count_up r = Set ones 1 ∷ (Add r ones ∷ [])

-- ---- batches

-- In each turn of a loop that awards seats `ones` is 1 from the beginning, and the plans of a turn count by it.

-- one of the peers of a batch gets its seat: `on` does what a seat does, with the cursors on the entry, which has been taken from the table
abbrev pub one_seat : Tree → Tree
one_seat on = If (test.Empty reg.PEERS) (Line []) (Then (Line (Sub reg.IN_BATCH ones ∷ (Take ∷ []))) on)

-- a turn begins a batch, where none is under way, and distributes a seat of it, if one has begun
abbrev pub batch_turn : Tree → Tree → Tree
batch_turn begin on = Then (If (test.Zero reg.IN_BATCH) begin (Line [])) (If (test.Zero reg.IN_BATCH) (Line []) (one_seat on))

-- turns as long as the register is not 0
abbrev pub batches : ℕ → Bound → Tree → Tree → Tree
batches r bound begin on = Then (Line (Set reg.IN_BATCH 0 ∷ [])) (Times r bound (batch_turn begin on))

-- ---- awards

-- the step of the seats of a batch is one more than the seats that were awarded before it
abbrev pub count_step : List Instr
count_step = Mov reg.STEP reg.ALL_LEFT ∷ (Sub reg.STEP reg.LEFT ∷ count_up reg.STEP)

-- that of a batch that begins in a turn: the turns that come after it are one fewer than the seats that are left
abbrev pub begin_step : List Instr
begin_step = Mov reg.STEP reg.ALL_LEFT ∷ (Sub reg.STEP reg.TURNS ∷ [])

-- a batch begins if there are seats for all peers
abbrev pub whole_batch : Tree
whole_batch = If (test.Empty reg.PEERS) (Line []) (If (test.Less reg.LEFT reg.PEERS) (Line []) (Line (Mov reg.IN_BATCH reg.PEERS ∷ begin_step)))

-- a seat of a whole batch
abbrev pub counted_seat : Tree → Tree
counted_seat on = Then (Line (Sub reg.LEFT ones ∷ [])) on

-- the seats that are left go to peers as the lot of the stage draws them; `tie` is for a lot that does not name them all
abbrev pub drawn_seats : ℕ → Bound → Tree → Tree
drawn_seats n bound on = Times reg.LEFT bound (If (test.Empty reg.PEERS) (Line []) (Then (Line (Takelot n ∷ [])) on))

abbrev pub last_batch : ℕ → Bound → Tree → Tree → Tree
last_batch n bound tie on =
    If (test.Zero reg.LEFT) (Line [])
    (Then (If (test.Empty reg.PEERS) (Line []) (If (test.NotCovered n) tie (Line []))) (Then (Line count_step) (drawn_seats n bound on)))

-- all seats that are left: whole batches, and then the last one
abbrev pub awards : ℕ → Bound → Tree → Tree → Tree
awards n bound tie on =
    Then (Line (Mov reg.ALL_LEFT reg.LEFT ∷ (Mov reg.TURNS reg.LEFT ∷ [])))
    (Then (batches reg.TURNS bound whole_batch (counted_seat on)) (last_batch n bound tie on))
