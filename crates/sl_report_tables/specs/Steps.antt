-- The tables of seat steps and of the bounds of scopes (docs/report.md; docs/output.md, section 1).
use Rattle.std.specs.Prelude.{ℕ, List, [], ◌∷◌, codes, map}
use Rattle.sl_count_texts.specs.Bounds.{is_lot}
use Rattle.sl_count_texts.specs.Lines.{no_text, ratio_word, with_words}
use Rattle.sl_count_texts.specs.Orders.{in_order, step_key}
use Rattle.sl_count_texts.specs.Steps.{mark_words}
use Rattle.sl_count_texts.specs.declared.bounds.ScopeBounds.{ScopeBounds}
use Rattle.sl_law_meaning.specs.declared.table.SeatStep.{SeatStep}
use Rattle.sl_law_meaning.specs.meaning.Tables.{SeatTable}
use Rattle.sl_report_forms.specs.Cells.{Content, a_flag, a_name, a_number, a_scope, a_scope_name, a_stage, a_text, an_entry}
use Rattle.sl_report_forms.specs.Tables.{Table}
use Rattle.sl_report_tables.specs.Columns.{listed}
use Rattle.sl_report_tables.specs.Naming.{text_of}
use Rattle.sl_report_tables.specs.Parts.{land_side, party_side}
use Rattle.sl_report_tables.specs.declared.steps.TheConstants as steps_columns

-- words as a line has them, with a blank between them
abbrev pub words_text : List (List ℕ) → List ℕ
words_text words = text_of (with_words no_text words).bytes

-- the stage, the scope by its short name and as a reader sees it, the names of the entry, its Land and its party, the seat's number there, its step, and
-- what won it
abbrev pub step_row : SeatStep → List Content
step_row x =
    a_stage x.stage ∷ a_scope x.scope ∷ a_scope_name x.scope ∷ an_entry x.entry ∷ a_name x.entry x.scope ∷ land_side x.entry ∷ party_side x.entry
    ∷ a_number x.n ∷ a_number x.step ∷ a_text (words_text (mark_words x.mark)) ∷ []

-- all seat steps, in the order of `steps`
abbrev pub steps_table : SeatTable → Table
steps_table t = record {
  key = codes "steps";
  columns = listed steps_columns.STEPS;
  rows = map step_row (in_order step_key t.steps);
}

-- the stage, the scope, the least quotient that won a seat and the greatest that won none, and whether a lot decided between them
abbrev pub bounds_row : ScopeBounds → List Content
bounds_row b =
    a_stage b.stage ∷ a_scope b.scope ∷ a_scope_name b.scope
    ∷ a_text (words_text (ratio_word b.last ∷ [])) ∷ a_text (words_text (ratio_word b.next ∷ [])) ∷ a_flag (is_lot b) ∷ []

abbrev pub bounds_table : List ScopeBounds → Table
bounds_table found = record {
  key = codes "bounds";
  columns = listed steps_columns.BOUNDS;
  rows = map bounds_row found;
}
