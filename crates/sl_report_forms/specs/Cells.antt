-- What stands in a cell: nothing, a number (whole, decimal, a fraction, or a change from another), a flag, a word, a condition, a stage, entries or a scope; a
-- text; or prose, whose wording no definition tells.
use Rattle.std.specs.Prelude.{ℕ, Bool, List, Option, Some, None, string_bytes}
use Rattle.sl_law_margins.specs.Decimals.{Number}
use Rattle.sl_law_meaning.specs.declared.book.Cond.{Cond}
use Rattle.sl_law_meaning.specs.declared.fault.Item.{Item}
use Rattle.sl_law_meaning.specs.declared.fault.Scope.{Scope}
use Rattle.sl_report_forms.specs.declared.cell.Cell.TheVariants as cell
use Rattle.sl_report_forms.specs.declared.cell.Cell.{Cell}

pub data Content : Type 0 where
  nothing : Content
  a_text : List ℕ → Content
  prose : Content
  a_number : ℕ → Content
  a_decimal : Number → Content
  a_fraction : (num den : ℕ) → Content
  a_change : (number before : ℕ) → Content
  a_flag : Bool → Content
  a_word : (english german : List ℕ) → Content
  a_condition : Cond → Content
  a_stage : ℕ → Content
  an_entry : Item → Content
  a_name : Item → Scope → Content
  entries : List Item → Content
  claimants : List Item → Scope → Content
  a_scope : Scope → Content
  a_scope_name : Scope → Content

abbrev pub content_of : Cell → Content
content_of cell.Empty = nothing
content_of (cell.Text words) = a_text (string_bytes words)
content_of (cell.Prose words) = prose
content_of (cell.Number n) = a_number n
content_of (cell.Decimal n) = a_decimal n
content_of (cell.Fraction num den) = a_fraction num den
content_of (cell.Change n before) = a_change n before
content_of (cell.Flag is) = a_flag is
content_of (cell.Word word) = a_word word.0.now word.1.now
content_of (cell.Condition cond) = a_condition cond
content_of (cell.Stage stage) = a_stage stage
content_of (cell.Entry entry) = an_entry entry
content_of (cell.EntryName entry scope) = a_name entry scope
content_of (cell.Entries xs) = entries xs.items
content_of (cell.Claimants xs scope) = claimants xs.items scope
content_of (cell.Scope scope) = a_scope scope
content_of (cell.ScopeName scope) = a_scope_name scope

-- a number, and nothing where none is known
abbrev pub known : Option ℕ → Content
known (Some n) = a_number n
known None = nothing

-- the same of a decimal number
abbrev pub known_decimal : Option Number → Content
known_decimal (Some n) = a_decimal n
known_decimal None = nothing

-- and of a flag
abbrev pub known_flag : Option Bool → Content
known_flag (Some is) = a_flag is
known_flag None = nothing
