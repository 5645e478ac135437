-- The records of the seats of a scope: what won each of them, at which step, and with them the weights (docs/meaning.md, section 7).
use Rattle.std.specs.Prelude.{ℕ, ◌+◌, Bool, ◌&&◌, List, [], ◌++◌, map, flat_map, filter, nat_lt, slice_index, if◌then◌else◌}
use Rattle.std.specs.List.{zip, range_with_len, enumerate_from}
use Rattle.sl_base_quotients.specs.declared.method.Divisor.{Divisor}
use Rattle.sl_base_quotients.specs.Quotient.{quotient, is_rounding}
use Rattle.sl_law_meaning.specs.declared.fault.Scope.{Scope}
use Rattle.sl_law_meaning.specs.declared.fault.Item.{Item}
use Rattle.sl_law_meaning.specs.declared.table.Mark.{Mark}
use Rattle.sl_law_meaning.specs.declared.table.Mark.TheVariants as mark
use Rattle.sl_law_meaning.specs.declared.table.SeatStep.{SeatStep}
use Rattle.sl_law_meaning.specs.declared.table.Weight.{Weight}
use Rattle.sl_law_meaning.specs.methods.Hamilton.{remainder, is_leading}
use Rattle.sl_law_meaning.specs.methods.Steps.{step_of}
use Rattle.sl_law_meaning.specs.laws.Ladders.{Ladders, divisor_ladders, hamilton_ladders}

pub record Records : Type 0 where
  pub steps : List SeatStep
  pub weights : List Weight

abbrev pub no_records : Records
no_records = record { steps = []; weights = [] }

abbrev pub both_records : Records → Records → Records
both_records a b = record { steps = a.steps ++ b.steps; weights = a.weights ++ b.weights }

-- ---- marks: what won the seat that an entry got when it held a

abbrev pub quotient_mark : Divisor → List ℕ → ℕ → ℕ → Mark
quotient_mark d v i a = mark.Quotient (quotient d (slice_index v i) a)

abbrev pub remainder_mark : Bool → List ℕ → ℕ → ℕ → ℕ → Mark
remainder_mark prefer v seats i a = if prefer && is_leading v seats i then mark.Lead else mark.Rest (remainder v seats i)

-- ---- the scope of a stage, its entries, and their seats s

module _ (stage : ℕ) (scope : Scope) (entries : List Item) where
  module _ (l : Ladders) (won_by : ℕ → ℕ → Mark) (s : List ℕ) where
    -- the seat that entry i got when it held a. Within its base it was given; any other has its mark and its step
    abbrev pub seat_step : ℕ → Item → ℕ → SeatStep
    seat_step i entry a =
        if nat_lt a (slice_index l.base i)
        then record { stage = stage; scope = scope; entry = entry; n = a + 1; step = 0; mark = mark.Given }
        else record { stage = stage; scope = scope; entry = entry; n = a + 1; step = step_of l.rank l.base s i a; mark = won_by i a }

    -- the seats of each entry, from the first on
    abbrev pub seat_steps : List SeatStep
    seat_steps = flat_map (λ x. map (seat_step x.0 x.1) (range_with_len 0 (slice_index s x.0))) (enumerate_from 0 entries)

  -- by a divisor method, where m are the seats that are not awarded; and by Hamilton's
  abbrev pub divisor_steps : Divisor → List ℕ → List ℕ → List ℕ → List SeatStep
  divisor_steps d v m s = seat_steps (divisor_ladders d v m) (quotient_mark d v) s

  abbrev pub hamilton_steps : Bool → List ℕ → ℕ → List ℕ → List SeatStep
  hamilton_steps prefer v seats s = seat_steps (hamilton_ladders prefer v seats) (remainder_mark prefer v seats) s

  -- the weights of the entries in the field
  abbrev pub field_weights : Divisor → List ℕ → List Weight
  field_weights d v =
      map (λ x. record { stage = stage; scope = scope; entry = x.0; divisor = d; weight = x.1 }) (filter (λ x. nat_lt 0 x.1) (zip entries v))

-- the weights of a method are recorded where it rounds them by a divisor
abbrev pub tells_weights : Divisor → Bool
tells_weights = is_rounding
