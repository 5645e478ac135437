-- What stands in cells that several tables have (docs/report.md).
use Rattle.std.specs.Prelude.{ℕ, List, Option, Some, None, is_some, option_and_then, option_map, slice_get, unwrap_or, if◌then◌else◌}
use Rattle.sl_report_forms.specs.Cells.{Content, a_condition, a_fraction, a_name, a_word, an_entry, known_decimal, nothing}
use Rattle.sl_report_results.specs.Fractions.{decimal_of, percent, percent_half_up}
use Rattle.sl_report_results.specs.declared.fraction.Fraction.{Fraction}
use Rattle.sl_report_tables.specs.Lowest.{lowest_of}
use Rattle.sl_law_meaning.specs.declared.book.Cond.{Cond}
use Rattle.sl_law_meaning.specs.declared.fault.Item.TheVariants as item
use Rattle.sl_law_meaning.specs.declared.fault.Item.{Item}
use Rattle.sl_law_meaning.specs.declared.fault.Scope.TheVariants as scope

-- the name of an entry that a reader sees
abbrev pub full_name : Item → Content
full_name entry = a_name entry scope.All

-- the short name of a party, if there is one
abbrev pub party_cell : Option ℕ → Content
party_cell None = nothing
party_cell (Some party) = an_entry (item.Party party)

-- the name of a party that a reader sees, or a word in its place
abbrev pub party_name_cell : Option ℕ → (english german : List ℕ) → Content
party_name_cell None english german = a_word english german
party_name_cell (Some party) english german = full_name (item.Party party)

-- a fraction in lowest terms
abbrev pub exact_cell : Fraction → Content
exact_cell f = a_fraction (lowest_of f).num (lowest_of f).den

-- so many of so many in percent, in three places, where there are decimals
abbrev pub percent_cell : ℕ → ℕ → Content
percent_cell of_them all = known_decimal (decimal_of (percent of_them all) 3)

-- and exact
abbrev pub percent_exact_cell : ℕ → ℕ → Content
percent_exact_cell of_them all = if is_some (decimal_of (percent of_them all) 3) then exact_cell (percent of_them all) else nothing

-- so many of so many in percent, rounded to one place
abbrev pub rounded_cell : ℕ → ℕ → Content
rounded_cell of_them all = known_decimal (decimal_of (percent_half_up of_them all) 1)

-- a fraction, where there is one, in four places, where there are decimals
abbrev pub fraction_cell : Option Fraction → Content
fraction_cell f = known_decimal (option_and_then (λ f. decimal_of f 4) f)

-- and exact
abbrev pub fraction_exact_cell : Option Fraction → Content
fraction_exact_cell None = nothing
fraction_exact_cell (Some f) = exact_cell f

-- the condition of that number, where there is one
abbrev pub condition_cell : List Cond → Option ℕ → Content
condition_cell conditions met = unwrap_or (option_map a_condition (option_and_then (slice_get conditions) met)) nothing

-- the Land of an entry, if it has one; a winner has none here
abbrev pub land_side : Item → Content
land_side (item.Party party) = nothing
land_side (item.Land land) = an_entry (item.Land land)
land_side (item.List land party) = an_entry (item.Land land)
land_side (item.Win win) = nothing

-- its party, if it has one
abbrev pub party_side : Item → Content
party_side (item.Party party) = an_entry (item.Party party)
party_side (item.Land land) = nothing
party_side (item.List land party) = an_entry (item.Party party)
party_side (item.Win win) = nothing
