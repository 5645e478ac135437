-- What the cursors and the table of a state show, in one.
use Rattle.std.specs.Prelude.{ℕ, Option, slice_get}
use Rattle.std.specs.Option.{option_map, option_and_then}
use Rattle.sl_base_quotients.specs.Quotient.{Quotient}
use Rattle.sl_law_meaning.specs.declared.fault.Item.{Item}
use Rattle.sl_law_meaning.specs.returns.Election.{Election}
use Rattle.sl_code_instructions.specs.Codes.{CountingCode}
use Rattle.sl_code_semantics.specs.State.{State}
use Rattle.sl_code_semantics.specs.Places.{cell_at, index_at, item_of}
use Rattle.sl_code_semantics.specs.Effects.{Effect, Goes, given, with_table, with_entry}

-- the place of a slot's column at the cursors
abbrev pub place_at : CountingCode → Election → ℕ → State → Option ℕ
place_at c e slot s = option_and_then (λ shape. cell_at e shape s) (slice_get c.slots slot)

-- the number of the table's entry at the cursors
abbrev pub entry_at : Election → State → Option ℕ
entry_at e s = option_and_then (λ t. index_at e t.entries s) s.table

-- the item of that entry
abbrev pub item_at : Election → State → Option Item
item_at e s = option_and_then (λ t. option_map (item_of e t.entries) (index_at e t.entries s)) s.table

-- enters that entry in the table, whatever its ranking
abbrev pub puts_in : Election → Quotient → State → Effect
puts_in e q s = given s.table (λ t. given (index_at e t.entries s) (λ index.
    Goes (with_table (with_entry (record { ratio = q; index = index }) t) s)))
