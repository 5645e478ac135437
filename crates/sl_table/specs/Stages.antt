-- The text of a stage's column (docs/output.md, section 1).
use Rattle.std.specs.Prelude.{ℕ, List, [], ◌∷◌, flat_map, filter, codes, slice_index}
use Rattle.std.specs.Fmt.{decimal}
use Rattle.sl_base_terms.specs.declared.shape.Shape.{Shape}
use Rattle.sl_base_terms.specs.declared.shape.Shape.TheVariants as shape
use Rattle.sl_law_meaning.specs.returns.Election.{Election, has_list}
use Rattle.sl_law_meaning.specs.returns.Facts.{lands, parties, list_cell}
use Rattle.sl_count_texts.specs.Faults.{list_word}
use Rattle.sl_count_texts.specs.Lines.{line}
use Rattle.sl_count_texts.specs.Short.{land_word, party_word}

-- the line of an entry: its word and its value
abbrev pub entry_line : List ℕ → ℕ → List ℕ
entry_line entry value = line (entry ∷ decimal value ∷ [])

module _ (e : Election) (column : List ℕ) where
  abbrev pub party_entry : ℕ → List ℕ
  party_entry party = entry_line (party_word e party) (slice_index column party)

  abbrev pub land_entry : ℕ → List ℕ
  land_entry land = entry_line (land_word e land) (slice_index column land)

  abbrev pub list_entry : ℕ → ℕ → List ℕ
  list_entry land party = entry_line (list_word e land party) (list_cell e column land party)

  -- the lines of a Land's lists
  abbrev pub land_lists : ℕ → List ℕ
  land_lists land = flat_map (list_entry land) (filter (has_list e land) (parties e))

-- a line for each entry of a column of that shape, in order; of the pairs of Land and party, for each list
abbrev pub stage_text : Election → Shape → List ℕ → List ℕ
stage_text e shape.One column = entry_line (codes "all") (slice_index column 0)
stage_text e shape.Party column = flat_map (party_entry e column) (parties e)
stage_text e shape.Land column = flat_map (land_entry e column) (lands e)
stage_text e shape.List column = flat_map (land_lists e column) (lands e)
