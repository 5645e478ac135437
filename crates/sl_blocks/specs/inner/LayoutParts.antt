-- The plans of blocks in parts, as the program puts them together: what only bodies and proofs cite.
use Rattle.std.specs.Prelude.{ℕ, [], ◌∷◌, Option, None, Some}
use Rattle.sl_code_instructions.specs.declared.instr.Instr.TheVariants.{Set, Mov, Add, Get, Table}
use Rattle.sl_code_instructions.specs.declared.operand.EndFault.TheVariants as end
use Rattle.sl_code_instructions.specs.declared.operand.Ranking.TheVariants as ranking
use Rattle.sl_compile_plans.specs.declared.plan.Test.TheVariants as test
use Rattle.sl_compile_plans.specs.declared.plan.Bound.TheVariants as bound
use Rattle.sl_compile_plans.specs.Trees.{Tree, Line, Then, If, Each}
use Rattle.sl_compile_pieces.specs.declared.form.Form.{Form}
use Rattle.sl_compile_pieces.specs.scopes.Forms.{entries_plan, table_of}
use Rattle.sl_compile_pieces.specs.declared.registers.TheConstants as reg
use Rattle.sl_compile_pieces.specs.awards.Trees.{batches, whole_batch, counted_seat, count_step, drawn_seats, awards}
use Rattle.sl_compile_pieces.specs.seats.Slots.{Slots}
use Rattle.sl_compile_pieces.specs.seats.Trees.{nothing, most_seats, faulty, not_over, add_minimum, sums, refuses_seats, base_of, outside_base, enter_of, enter_quotient}
use Rattle.sl_compile_pieces.specs.seats.Trees.{fill_entry, fill, ranking_of, tied, seat, again_of, refuse}
use Rattle.sl_compile_pieces.specs.nodes.Trees.{shared, search_entry, search_batch, search_seat, take_house}
use Rattle.sl_blocks.specs.declared.blanks.Block.{Block}
use Rattle.sl_blocks.specs.inner.Jobs.{slots_of}
use Rattle.sl_blocks.specs.inner.Given.{divisor_of}

abbrev pub form_in : Block → Form
form_in b = b.form

abbrev pub slots_in : Block → Slots
slots_in b = slots_of b.job

-- ---- what is done at the entries of a scope

-- what is done in each turn, or where a test fails
abbrev pub inside : Tree → Tree
inside (Each over x) = x
inside (If t x y) = y
inside x = x

-- what is done for an entry, from what is done for each party where there is a list
abbrev pub entry_in : Tree → Tree
entry_in x = inside (inside x)

abbrev pub sum_entries : Block → Tree
sum_entries b =
    let x = slots_in b in
    entries_plan (form_in b) (Line (Get reg.WEIGHT x.votes ∷ (Add reg.TOTAL reg.WEIGHT ∷ add_minimum x.minima)))

abbrev pub fill_entries : Block → Tree
fill_entries b =
    let f = form_in b in
    let x = slots_in b in
    entries_plan f (fill_entry f x (base_of b.method x) (enter_of f x b.method b.job.majority))

-- in a growth
abbrev pub fill_outside : Block → Tree
fill_outside b =
    let f = form_in b in
    let x = slots_in b in
    entries_plan f (fill_entry f x (outside_base x.minima) (enter_quotient f x (divisor_of b.method)))

abbrev pub search_entries : Block → Tree
search_entries b = entries_plan (form_in b) (search_entry (form_in b) (slots_in b) (divisor_of b.method))

-- a growth ends where there are no votes
abbrev pub some_votes : Block → Tree
some_votes b = If (test.Zero reg.TOTAL) (faulty (form_in b) (slots_in b) end.NoList) nothing

-- ---- seats

-- before the first batch: the seats to award, which are the turns to make
abbrev pub count_left : Tree
count_left = Line (Mov reg.ALL_LEFT reg.LEFT ∷ (Mov reg.TURNS reg.LEFT ∷ []))

-- what comes in a search after its entries
abbrev pub search_batches : Block → ℕ → Tree
search_batches b cap =
    Then (Line (Set reg.ALL_LEFT 0 ∷ (Set reg.LEFT cap ∷ []))) (batches reg.LEFT (bound.AtMost most_seats) search_batch (search_seat (slots_in b) (divisor_of b.method)))

-- the whole search for a house
abbrev pub search_in : Block → ℕ → Tree
search_in b cap =
    Then (Line (Set reg.NUMBER 0 ∷ (Set reg.TURNS 0 ∷ (Table (table_of (form_in b)) ranking.Quotients ∷ [])))) (Then (search_entries b) (search_batches b cap))

abbrev pub seat_in : Block → Tree
seat_in b = seat (form_in b) (slots_in b) (again_of (slots_in b) b.method)

abbrev pub whole_batches : Block → Tree
whole_batches b = batches reg.TURNS (bound.AtMost most_seats) whole_batch (counted_seat (seat_in b))

abbrev pub drawn_batch : Block → Tree
drawn_batch b = Then (Line count_step) (drawn_seats b.job.stage (bound.AtMost most_seats) (seat_in b))

abbrev pub refuse_in : Block → Tree
refuse_in b = refuse (form_in b) (slots_in b) b.job.majority

-- ---- a scope, in two parts

-- what comes after the first seats, with this as the last batch
abbrev pub rest_with : Block → Tree → Tree
rest_with b last = Then (Then count_left (Then (whole_batches b) last)) (refuse_in b)

abbrev pub rest_in : Block → Tree
rest_in b = Then (awards b.job.stage (bound.AtMost most_seats) (tied (form_in b) (slots_in b)) (seat_in b)) (refuse_in b)

-- a scope with this after its amount and its sums
abbrev pub sums_with : Block → Tree → Tree
sums_with b rest = Then (Line (Get reg.AMOUNT (slots_in b).amounts ∷ [])) (Then (sums (form_in b) (slots_in b)) rest)

-- a scope of a split with this after the first seats
abbrev pub split_with : Block → Tree → Tree
split_with b rest =
    let f = form_in b in
    let x = slots_in b in
    sums_with b (Then (refuses_seats f x) (Then (fill f x (ranking_of b.method) (base_of b.method x) (enter_of f x b.method b.job.majority)) rest))

-- a scope of a growth with this search, and with this after the house that it finds
abbrev pub found_with : Block → ℕ → Tree → Tree → Tree
found_with b cap searched rest =
    let f = form_in b in
    let x = slots_in b in
    sums_with b (Then (some_votes b) (Then (not_over f x reg.NEEDED cap end.Cap) (Then (Then searched (take_house f x cap)) rest)))

-- with the search of a growth
abbrev pub house_with : Block → ℕ → Tree → Tree
house_with b cap rest = found_with b cap (search_in b cap) rest

-- a scope of a growth with this after the first seats
abbrev pub growth_with : Block → ℕ → Tree → Tree
growth_with b cap rest =
    let f = form_in b in
    let x = slots_in b in
    house_with b cap (Then (fill f x (ranking_of b.method) (outside_base x.minima) (enter_quotient f x (divisor_of b.method))) rest)

-- a growth has a cap
abbrev pub scope_with : Block → Option ℕ → Tree → Tree
scope_with b None rest = split_with b rest
scope_with b (Some cap) rest = growth_with b cap rest

-- ---- the plan of a block

-- with these scopes
abbrev pub all_with : Block → Tree → Tree
all_with b scope = shared (form_in b) (slots_in b) scope

abbrev pub split_all : Block → Tree → Tree
split_all b rest = all_with b (split_with b rest)

abbrev pub growth_all : Block → ℕ → Tree → Tree
growth_all b cap rest = all_with b (growth_with b cap rest)

-- the plan of a block with this as the last batch of each scope
abbrev pub block_with : Block → Tree → Tree
block_with b last = all_with b (scope_with b b.cap (rest_with b last))

abbrev pub block_tree : Block → Tree
block_tree b = all_with b (scope_with b b.cap (rest_in b))
