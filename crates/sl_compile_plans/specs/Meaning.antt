-- What a plan does to a state of the machine, and how many steps it may take (docs/plans.md, section 3).
use Rattle.std.specs.Prelude.{ℕ, zero, suc, ◌+◌, ◌*◌, List, [], ◌∷◌, length, Option, Some, None, ◌==◌, if◌then◌else◌}
use Rattle.std.specs.List.{range_with_len}
use Rattle.sl_law_meaning.specs.returns.Election.{Election, lands_of, parties_of, wins_of}
use Rattle.sl_code_instructions.specs.declared.instr.Instr.{Instr}
use Rattle.sl_code_instructions.specs.Codes.{CountingCode}
use Rattle.sl_code_semantics.specs.State.{State, End}
use Rattle.sl_code_semantics.specs.Effects.{Effect, Goes, Jumps, Ends, NoCase, effect, with_party, with_land, with_win}
use Rattle.sl_compile_plans.specs.declared.plan.Cursor.{Cursor}
use Rattle.sl_compile_plans.specs.declared.plan.Cursor.TheVariants as cursor
use Rattle.sl_compile_plans.specs.declared.plan.Bound.{Bound}
use Rattle.sl_compile_plans.specs.declared.plan.Bound.TheVariants as bound
use Rattle.sl_compile_plans.specs.Trees.{Tree, Line, Stop, Then, If, Each, Times, jump_of, count_down}

-- what a plan comes to: it goes on in a state, the run ends, or nothing is said
pub data Course : Type 0 where
  Onward : (state : State) → Course
  Final : (end : End) → Course
  Unsaid : Course

abbrev pub then_do : Course → (State → Course) → Course
then_do (Onward s) next = next s
then_do (Final x) next = Final x
then_do Unsaid next = Unsaid

-- ---- an instruction that goes on, one that ends the run, and one that jumps or goes on

abbrev pub passes : Effect → Course
passes (Goes s) = Onward s
passes (Jumps s) = Unsaid
passes (Ends x) = Unsaid
passes NoCase = Unsaid

abbrev pub stops : Effect → Course
stops (Goes s) = Unsaid
stops (Jumps s) = Unsaid
stops (Ends x) = Final x
stops NoCase = Unsaid

abbrev pub branches : Effect → (State → Course) → (State → Course) → Course
branches (Goes s) arm other = other s
branches (Jumps s) arm other = arm s
branches (Ends x) arm other = Unsaid
branches NoCase arm other = Unsaid

-- ---- loops over parties, Länder and winners

-- how many there are
abbrev pub count_of : Election → Cursor → ℕ
count_of e cursor.Party = parties_of e
count_of e cursor.Land = lands_of e
count_of e cursor.Win = wins_of e

abbrev pub cursor_of : Cursor → State → Option ℕ
cursor_of cursor.Party s = s.party
cursor_of cursor.Land s = s.land
cursor_of cursor.Win s = s.win

abbrev pub set_cursor : Cursor → Option ℕ → State → State
set_cursor cursor.Party = with_party
set_cursor cursor.Land = with_land
set_cursor cursor.Win = with_win

-- nothing is said where a turn leaves its cursor elsewhere than it was
abbrev pub held : Option ℕ → ℕ → State → Course
held None i s = Unsaid
held (Some p) i s = if p == i then Onward s else Unsaid

-- the turn of number i
abbrev pub turn_at : Cursor → (State → Course) → ℕ → State → Course
turn_at over body i s = then_do (body (set_cursor over (Some i) s)) (λ t. held (cursor_of over t) i t)

abbrev pub for_each : List ℕ → (ℕ → State → Course) → State → Course
for_each [] turn s = Onward s
for_each (i ∷ is) turn s = then_do (turn i s) (for_each is turn)

-- the cursor is unset in the end
abbrev pub each_of : ℕ → Cursor → (State → Course) → State → Course
each_of n over body s = then_do (for_each (range_with_len 0 n) (turn_at over body) s) (λ t. Onward (set_cursor over None t))

-- ---- counted loops

-- the most turns
abbrev pub turns_in : Election → Bound → ℕ
turns_in e (bound.AtMost n) = n
turns_in e bound.Lists = lands_of e * parties_of e
turns_in e bound.Wins = wins_of e

-- the first where the number is 0, else the second
abbrev pub at_zero : ℕ → Course → Course → Course
at_zero zero none some = none
at_zero (suc n) none some = some

-- turns while the register is not 0; nothing is said where there are more than so many
abbrev pub turns : ℕ → ℕ → (State → Course) → State → Course
turns r zero turn s = at_zero (s.registers r) (Onward s) Unsaid
turns r (suc n) turn s = at_zero (s.registers r) (Onward s) (then_do (turn s) (turns r n turn))

-- ---- plans

-- with the slots and the stages of a code
module _ (c : CountingCode) (e : Election) where
  abbrev pub in_turn : List Instr → State → Course
  in_turn [] s = Onward s
  in_turn (i ∷ is) s = then_do (passes (effect c e i s)) (in_turn is)

  -- a turn of a counted loop
  abbrev pub counted : ℕ → (State → Course) → State → Course
  counted r body s = then_do (in_turn (count_down r) s) body

  abbrev pub does : Tree → State → Course
  does (Line is) s = in_turn is s
  does (Stop i) s = stops (effect c e i s)
  does (Then a b) s = then_do (does a s) (does b)
  does (If t a b) s = branches (effect c e (jump_of t 0) s) (does a) (does b)
  does (Each over a) s = each_of (count_of e over) over (does a) s
  does (Times r m a) s = turns r (turns_in e m) (counted r (does a)) s

-- how many steps it takes at most
abbrev pub cost : Election → Tree → ℕ
cost e (Line is) = length is
cost e (Stop i) = 1
cost e (Then a b) = cost e a + cost e b
cost e (If t a b) = cost e a + cost e b + 3
cost e (Each over a) = count_of e over * (cost e a + 2) + 2
cost e (Times r m a) = turns_in e m * (cost e a + 5) + 3
