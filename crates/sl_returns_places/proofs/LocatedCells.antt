-- The cells of a text, with their places, hold what the `csv` crate reads.
use Rattle.std.proofs.Common.{◌≡◌, ◌≤◌, ◌+◌, ℕ, zero, suc, Bool, true, false, List, [], ◌∷◌, ◌++◌, length, map, Some, None, refl, sym, ap, ◌∙◌, arith, if◌then◌else◌}
use Rattle.std.proofs.lemmas.List.{map_push}
use Rattle.csv.specs.declared.parser.State.{State}
use Rattle.csv.specs.declared.parser.State.TheVariants as st
use Rattle.csv.specs.declared.parser.Action.{Action}
use Rattle.csv.specs.declared.parser.Action.TheVariants as act
use Rattle.csv.specs.Machine.{ends_at_end, field_after, fields_after, is_end, next_record, step}
use Rattle.csv.specs.Reading.{default_config, records_from, records_next, strip_bom}
use Rattle.sl_returns.specs.Cells.{Record}
use Rattle.sl_returns_places.specs.Places.{Cell, cells_after, closed, is_quoted, located, mark_length, start_after}
use Rattle.sl_returns_places.specs.Laws.{CellsHoldRecords}

abbrev held : List Cell → Record
held cells = map (λ c. c.holds) cells

-- an action ends the same cells on both sides
held_after : (a : Action) (cells : List Cell) (c : Cell) → held (cells_after a cells c) ≡ fields_after a (held cells) c.holds
held_after act.EndField cells c = map_push (λ x. x.holds) cells c
held_after act.EndRecord cells c = map_push (λ x. x.holds) cells c
held_after act.Skip cells c = refl
held_after act.Copy cells c = refl

-- no record is left after the end
none_left : (n : ℕ) → records_from default_config n st.StartRecord [] ≡ []
unfolding records_from next_record
none_left zero = refl
none_left (suc n) = refl

abbrev next : State → ℕ → State
next s c = (step default_config s c).0

abbrev does : State → ℕ → Action
does s c = (step default_config s c).1

same_records : (n : ℕ) (s : State) (cells : List Cell) (start : ℕ) (field : List ℕ) (at : ℕ) (xs : List ℕ) → length xs ≤ n
    → map held (located s cells start field at xs) ≡ records_next (records_from default_config n) (next_record default_config s (held cells) field xs)
unfolding located next_record records_from
same_records n s cells start field at [] l = by (ends_at_end s)
  where
    by : (b : Bool) → map held (if b then (cells ++ record { start = start; behind = at; holds = field; is_open = is_quoted s } ∷ []) ∷ [] else [])
        ≡ records_next (records_from default_config n) (if b then Some (held cells ++ (field ∷ []), st.StartRecord, []) else None)
    by true = λ i. map_push (λ x. x.holds) cells (record { start = start; behind = at; holds = field; is_open = is_quoted s }) i ∷ sym (none_left n) i
    by false = refl
same_records zero s cells start field at (c ∷ rest) l = absurd (omega (arith, l))
same_records (suc m) s cells start field at (c ∷ rest) l =
    go (is_end (does s c)) (same_records m (next s c) [] (at + 1) [] (at + 1) rest (omega (arith, l)))
    (same_records (suc m) (next s c) (cells_after (does s c) cells (closed start at field)) (start_after (does s c) (next s c) start at) (field_after (does s c) c field) (at + 1) rest (omega (arith, l)))
  where
    go : (b : Bool) → map held (located (next s c) [] (at + 1) [] (at + 1) rest) ≡ records_next (records_from default_config m) (next_record default_config (next s c) [] [] rest)
        → map held (located (next s c) (cells_after (does s c) cells (closed start at field)) (start_after (does s c) (next s c) start at) (field_after (does s c) c field) (at + 1) rest)
        ≡ records_next (records_from default_config (suc m)) (next_record default_config (next s c) (held (cells_after (does s c) cells (closed start at field))) (field_after (does s c) c field) rest)
        → map held (if b then cells_after (does s c) cells (closed start at field) ∷ located (next s c) [] (at + 1) [] (at + 1) rest
        else located (next s c) (cells_after (does s c) cells (closed start at field)) (start_after (does s c) (next s c) start at) (field_after (does s c) c field) (at + 1) rest)
        ≡ records_next (records_from default_config (suc m)) (if b then Some (fields_after (does s c) (held cells) field, next s c, rest)
        else next_record default_config (next s c) (fields_after (does s c) (held cells) field) (field_after (does s c) c field) rest)
    go true ended more = λ i. held_after (does s c) cells (closed start at field) i ∷ ended i
    go false ended more = more ∙ ap (λ fs. records_next (records_from default_config (suc m)) (next_record default_config (next s c) fs (field_after (does s c) c field) rest)) (held_after (does s c) cells (closed start at field))

pub cells_hold_records : CellsHoldRecords
unfolding records_from
cells_hold_records text =
    let one_more : suc (length (strip_bom text)) ≡ length (strip_bom text) + 1 = omega arith in
    same_records (length (strip_bom text)) st.StartRecord [] (mark_length text) [] (mark_length text) (strip_bom text) (omega arith)
    ∙ ap (λ n. records_from default_config n st.StartRecord (strip_bom text)) one_more
