-- Arenas: the ladders of the entries of a scope, and how their next seats wait in the machine's priority table (docs/methods.md,
-- section 7; docs/machine.md, section 2).
use Rattle.std.specs.Prelude.{◌≡◌, ℕ, ◌≤◌, Bool, List, [], ◌∷◌, Some, All, length, map, flat_map, slice_index, if◌then◌else◌}
use Rattle.std.specs.List.{range_with_len}
use Rattle.std.specs.List.Sorted.{IsStrictlyIncreasing}
use Rattle.sl_base_quotients.specs.declared.entry.Entry.{Entry}
use Rattle.sl_base_quotients.specs.declared.limits.TheConstants.{MAX_WEIGHT}
use Rattle.sl_base_quotients.specs.declared.method.Divisor.{Divisor}
use Rattle.sl_base_quotients.specs.Quotient.{FitsRatio}
use Rattle.sl_law_meaning.specs.declared.election.Win.{Win}
use Rattle.sl_law_meaning.specs.declared.table.Mark.{Mark}
use Rattle.sl_law_meaning.specs.declared.table.Mark.TheVariants as mark
use Rattle.sl_law_meaning.specs.methods.Covering.{share}
use Rattle.sl_law_meaning.specs.returns.Election.{Election}
use Rattle.sl_law_meaning.specs.meaning.Records.{quotient_mark, remainder_mark}
use Rattle.sl_law_meaning.specs.laws.Ladders.{Ladders, Has, AreFalling, divisor_ladders, hamilton_ladders, covering_ladders}
use Rattle.sl_code_instructions.specs.declared.operand.Entries.{Entries}
use Rattle.sl_code_instructions.specs.declared.operand.Entries.TheVariants as entries
use Rattle.sl_code_instructions.specs.declared.operand.Ranking.{Ranking}
use Rattle.sl_code_instructions.specs.declared.operand.Ranking.TheVariants as ranking
use Rattle.sl_base_rankings.specs.Ranking.{ranked}
use Rattle.sl_code_semantics.specs.State.{State, PriorityTable}
use Rattle.sl_code_semantics.specs.Places.{at_entry}
use Rattle.sl_code_semantics.specs.Effects.{mark_of}

-- the ladders of a scope's entries; for the table their numbers in it, its kind of entries and its ranking; and the mark of the seat
-- that an entry wins when it holds so many
pub record Arena : Type 0 where
  pub ladders : Ladders
  pub places : List ℕ
  pub entries : Entries
  pub ranking : Ranking
  pub won : ℕ → ℕ → Mark

-- what an arena keeps while no entry holds more than that many seats
pub record IsArena (most : ℕ) (a : Arena) : Type 0 where
  pub falling : AreFalling a.ladders
  pub long : length a.places ≡ length a.ladders.base
  pub increasing : IsStrictlyIncreasing a.places
  pub fits : (i held : ℕ) → Has a.ladders i held → held ≤ most → FitsRatio (a.ladders.rank i held)
  pub marks : (i held : ℕ) → Has a.ladders i held → mark_of a.ranking (a.ladders.rank i held) ≡ a.won i held

-- how the seat that entry i gets when it holds so many stands in the table
abbrev pub seat_of : Arena → ℕ → ℕ → Entry
seat_of a i held = record { ratio = a.ladders.rank i held; index = slice_index a.places i }

-- the next seat of entry i where the entries hold t, if there is one
abbrev pub next_seat : Arena → List ℕ → ℕ → List Entry
next_seat a t i = if a.ladders.has i (slice_index t i) then seat_of a i (slice_index t i) ∷ [] else []

-- the next seats of all entries
abbrev pub waiting : Arena → List ℕ → List Entry
waiting a t = flat_map (next_seat a t) (range_with_len 0 (length a.places))

-- the table where it holds these seats
abbrev pub table_of : Arena → List Entry → PriorityTable
table_of a seats = record { entries = a.entries; ranking = a.ranking; contents = ranked seats }

-- the state's table is on, for such entries by that ranking, and it holds the next seats
abbrev pub HasWaiting : Arena → List ℕ → State → Type 0
HasWaiting a t state = state.table ≡ Some (table_of a (waiting a t))

-- the state after the seat that entry i gets when it holds so many is taken, and these are left
abbrev pub seat_taken : Election → Arena → ℕ → ℕ → List Entry → State → State
seat_taken e a i held others state = at_entry e a.entries (slice_index a.places i) (record state { table = Some (table_of a others); mark = a.won i held })

-- ---- the arenas of the methods, for a table with these numbers of the entries

abbrev pub divisor_arena : Divisor → List ℕ → List ℕ → Entries → List ℕ → Arena
divisor_arena method v m entries places = record {
  ladders = divisor_ladders method v m;
  places = places;
  entries = entries;
  ranking = ranking.Quotients;
  won = quotient_mark method v;
}

abbrev pub hamilton_arena : Bool → List ℕ → ℕ → Entries → List ℕ → Arena
hamilton_arena prefer v seats entries places = record {
  ladders = hamilton_ladders prefer v seats;
  places = places;
  entries = entries;
  ranking = ranking.Remainders;
  won = remainder_mark prefer v seats;
}

-- winners with their numbers
abbrev pub covering_arena : List (ℕ × Win) → Arena
covering_arena winners = record {
  ladders = covering_ladders (map (λ x. x.1.first) winners) (map (λ x. x.1.valid) winners);
  places = map (λ x. x.0) winners;
  entries = entries.Win;
  ranking = ranking.Quotients;
  won = λ i held. mark.Quotient (share (map (λ x. x.1.first) winners) (map (λ x. x.1.valid) winners) i);
}

-- the weights of a scope's entries, and their numbers in the table
pub record AreWeighed (v places : List ℕ) : Type 0 where
  pub weights : All (λ weight. weight ≤ MAX_WEIGHT) v
  pub numbers : length places ≡ length v
  pub increasing : IsStrictlyIncreasing places
