-- What is shown of a scope of a split or a growth: its award (docs/certificate.md, section 1).
use Rattle.std.specs.Prelude.{ℕ, ◌+◌, Bool, ◌&&◌, ◌||◌, not, List, [], ◌∷◌, Option, Some, None, option_map, max, sum, slice_index, nat_lt, nat_le, nat_eq, if◌then◌else◌}
use Rattle.std.specs.Option.{option_or}
use Rattle.std.specs.List.{list_all, list_any}
use Rattle.sl_base_quotients.specs.declared.method.Divisor.{Divisor}
use Rattle.sl_base_quotients.specs.declared.method.Method.{Method}
use Rattle.sl_base_quotients.specs.declared.method.Method.TheVariants as by
use Rattle.sl_law_meaning.specs.declared.book.Majority.{Majority}
use Rattle.sl_law_meaning.specs.declared.fault.Item.{Item}
use Rattle.sl_law_meaning.specs.declared.fault.FaultKind.TheVariants as fault
use Rattle.sl_law_meaning.specs.book.Typing.{is_prefer}
use Rattle.sl_law_meaning.specs.methods.LeastHouse.{outside_minima, outside_sum}
use Rattle.sl_law_meaning.specs.meaning.Splits.{Award, Refused, award_of, refusal}
use Rattle.sl_law_meaning.specs.laws.Ladders.{Ladders, divisor_ladders, hamilton_ladders}
use Rattle.sl_law_meaning.specs.laws.Awards.{free_ladders}
use Rattle.sl_law_certificates.specs.Cuts.{Told, entries, is_cut, is_won_on, is_clear, shown_choice}

-- the award of so many seats by these ladders: the seats told sum to them, and are chosen
abbrev pub chosen_award : Ladders → List Item → Majority → List ℕ → List ℕ → ℕ → Told → Option Award
chosen_award l items majority lot v seats t =
    if nat_eq (sum t.seats) seats then option_map (award_of items majority v seats) (shown_choice l t lot) else None

-- ---- splits

-- the ladders of a method
abbrev pub ladders_of : Method → Majority → List ℕ → List ℕ → ℕ → Ladders
ladders_of (by.Divisor d) majority v m seats = divisor_ladders d v m
ladders_of by.Hamilton majority v m seats = hamilton_ladders (is_prefer majority) v seats

-- the award of a split that is shown: what refuses the seats, or else what is chosen
abbrev pub shown_split : Method → Majority → List Item → List ℕ → List ℕ → List ℕ → ℕ → Told → Option Award
shown_split method majority items lot v m seats t =
    option_or (option_map (λ kind. Refused kind) (refusal v m seats))
    (chosen_award (ladders_of method majority v m seats) items majority lot v seats t)

-- ---- growths

-- the seats of the field; entries outside it have none of them
abbrev pub field_seats : List ℕ → List ℕ → List ℕ
field_seats (v ∷ vs) (s ∷ ss) = (if nat_eq v 0 then 0 else s) ∷ field_seats vs ss
field_seats vs ss = []

-- what is told of the field
abbrev pub field_told : List ℕ → Told → Told
field_told v t = record { seats = field_seats v t.seats; cut = t.cut }

-- minima in the field, by seats that were awarded without them, with a cut
module _ (d : Divisor) (v m : List ℕ) (f : Told) where
  -- an entry of the field has its minimum, also without a seat on the cut that a tie leaves to the lot
  abbrev pub is_sure : ℕ → Bool
  is_sure i =
      not (nat_lt 0 (slice_index v i))
      || (nat_le (slice_index m i) (slice_index f.seats i)
      && ((is_clear (free_ladders d v) f || not (is_won_on (free_ladders d v) f i)) || nat_lt (slice_index m i) (slice_index f.seats i)))

  abbrev pub all_sure : Bool
  all_sure = list_all is_sure (entries (free_ladders d v))

  -- an entry has just its minimum, by a seat on the cut: in a smaller house it would not be sure of it
  abbrev pub is_last : ℕ → Bool
  is_last i = is_won_on (free_ladders d v) f i && nat_eq (slice_index f.seats i) (slice_index m i)

  abbrev pub some_last : Bool
  some_last = list_any is_last (entries (free_ladders d v))

-- the award of a growth that is shown. The house is the sum of the seats told. If all are sure of their minima, it is the least such house,
-- since it is the first one allowed or since an entry is the last to have its minimum; if not, it is the cap
abbrev pub shown_growth : Divisor → Majority → List Item → List ℕ → List ℕ → List ℕ → ℕ → ℕ → Told → Option Award
shown_growth d majority items lot v m seats cap t =
    let f = field_told v t in
    let first = max seats (outside_sum v m) in
    let house = sum t.seats in
    if nat_eq (sum v) 0 then Some (Refused fault.NoList)
    else if nat_lt cap first then Some (Refused fault.Cap)
    else if not (is_cut (free_ladders d v) f && nat_eq (sum f.seats + outside_sum v m) house) then None
    else if not (all_sure d v m f) then (if nat_eq house cap then Some (Refused fault.Cap) else None)
    else if (nat_le first house && nat_le house cap) && (nat_eq house first || some_last d v m f)
    then chosen_award (divisor_ladders d v (outside_minima v m)) items majority lot v house t
    else None
