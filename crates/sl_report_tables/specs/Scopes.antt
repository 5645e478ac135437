-- The tables of scopes, and of the entries of each (docs/report.md).
use Rattle.std.specs.Bool.{then_some}
use Rattle.std.specs.Prelude.{ℕ, ◌==◌, List, [], ◌∷◌, Option, Some, None, codes, filter_map, is_some, map, option_map, slice_get, if◌then◌else◌}
use Rattle.sl_base_quotients.specs.Quotient.{Quotient}
use Rattle.sl_report_forms.specs.Cells.{Content, a_decimal, a_flag, a_fraction, a_name, a_number, a_scope, a_scope_name, a_stage, a_word, an_entry, claimants, known, known_decimal, known_flag, nothing}
use Rattle.sl_report_forms.specs.Tables.{Table}
use Rattle.sl_report_results.specs.declared.scopes.Entry.{Entry}
use Rattle.sl_report_results.specs.declared.scopes.Scoped.{Scoped}
use Rattle.sl_report_tables.specs.Columns.{listed}
use Rattle.sl_report_tables.specs.Lowest.{lowest_of}
use Rattle.sl_report_tables.specs.Parts.{fraction_cell, fraction_exact_cell, land_side, party_side}
use Rattle.sl_law_meaning.specs.declared.fault.Item.{Item}
use Rattle.sl_lex.specs.Keywords.{spelling}
use Rattle.sl_parse.specs.Words.{method_word}
use Rattle.sl_report_tables.specs.declared.scopes.TheConstants as scopes_columns

-- the entries of these numbers
abbrev pub entries_at : Scoped → List ℕ → List Item
entries_at s numbers = filter_map (λ number. option_map (λ x. x.item) (slice_get s.entries.items number)) numbers

-- their names in one cell, where there are numbers
abbrev pub claimants_cell : Scoped → List ℕ → Content
claimants_cell s [] = nothing
claimants_cell s (number ∷ numbers) = claimants (entries_at s (number ∷ numbers)) s.scope

-- the divisor on a border of equal claims, where there is one: a whole number, or a fraction
abbrev pub border_cell : Option Quotient → Content
border_cell None = nothing
border_cell (Some claim) =
    let f = lowest_of (record { num = claim.num; den = claim.den }) in if f.den == 1 then a_decimal (record { digits = f.num; places = 0 }) else a_fraction f.num f.den

-- the divisor between the claims, where there is one, or else that on the border
abbrev pub divisor_cell : Scoped → Content
divisor_cell s = if is_some s.divisor then known_decimal s.divisor else border_cell s.border

-- the divisor and the quota, who won the last seat and has the next claim, and whether a lot decided
abbrev pub margin_cells : Scoped → List Content
margin_cells s =
    divisor_cell s ∷ fraction_cell s.quota ∷ fraction_exact_cell s.quota
    ∷ claimants_cell s s.last.items ∷ claimants_cell s s.next.items ∷ known_flag s.drawn ∷ []

-- the stage, the scope by its short name and as a reader sees it, the method, and the numbers
abbrev pub scope_row : Scoped → List Content
scope_row s =
    a_stage s.stage ∷ a_scope s.scope ∷ a_scope_name s.scope ∷ a_word (spelling (method_word s.method)) (spelling (method_word s.method))
    ∷ a_flag s.grows ∷ a_flag s.has_minima ∷ a_number s.weight ∷ a_number s.seats ∷ margin_cells s

abbrev pub scopes_table : List Scoped → Table
scopes_table scopes = record {
  key = codes "scopes";
  columns = listed scopes_columns.SCOPES;
  rows = map scope_row scopes;
}

-- the stage, the scope, the names of the entry, its Land and its party, and the numbers
abbrev pub entry_row : Scoped → Entry → List Content
entry_row s x =
    a_stage s.stage ∷ a_scope s.scope ∷ an_entry x.item ∷ a_name x.item s.scope ∷ land_side x.item ∷ party_side x.item
    ∷ a_number x.weight ∷ fraction_cell x.quotient ∷ fraction_exact_cell x.quotient
    ∷ a_number x.seats ∷ known (then_some s.has_minima x.minimum) ∷ known x.missing ∷ known_flag x.lot ∷ known x.place ∷ []

abbrev pub entries_table : Scoped → Table
entries_table s = record {
  key = codes "entries";
  columns = listed scopes_columns.ENTRIES;
  rows = map (entry_row s) s.entries.items;
}

-- a line for each scope, and then the entries of each
abbrev pub scope_tables : List Scoped → List Table
scope_tables scopes = scopes_table scopes ∷ map entries_table scopes
