-- A file of full names that is read beside a count (docs/report.md): in each record a short name and a full one.
use Rattle.std.specs.List.{list_all, position}
use Rattle.std.specs.Prelude.{Bool, List, None, Option, Some, false, is_some, length, nat_eq, nat_lt, not, option_map, suc, true, ◌&&◌, ◌||◌, ℕ}
use Rattle.std.specs.Str.{is_utf8}
use Rattle.sl_count_inputs.specs.declared.input.Bytes.TheVariants.{TooLong, Whole}
use Rattle.sl_count_inputs.specs.declared.input.Bytes.{Bytes}
use Rattle.sl_report_tables.specs.declared.cases.TheConstants.{MAX_NAMES_BYTES}
use Rattle.sl_returns.specs.Cells.{Record}
use Rattle.sl_returns.specs.Returns.{records_in}

-- a cell is there, in UTF-8
abbrev pub is_text : Option (List ℕ) → Bool
is_text None = false
is_text (Some cell) = is_utf8 cell

-- a record is a pair of names: it has two cells, both in UTF-8
abbrev pub is_pair : Record → Bool
is_pair cells = nat_eq (length cells) 2 && list_all is_utf8 cells

-- the number of the first record of a text that is no pair of names, from 1
abbrev pub wrong_record : List ℕ → Option ℕ
wrong_record text = option_map suc (position (λ r. not (is_pair r)) (records_in text))

-- names that are given are refused: too long ones, and those of which a record is no pair
abbrev pub are_refused : Option (List ℕ) → Bool
are_refused None = false
are_refused (Some text) = nat_lt MAX_NAMES_BYTES (length text) || is_some (wrong_record text)

-- the same of names that were read
abbrev pub are_refused_in : Option Bytes → Bool
are_refused_in None = false
are_refused_in (Some TooLong) = true
are_refused_in (Some (Whole text)) = are_refused (Some text.items)
