-- Sheets as JSON: the value that is written, which is what is read again.
use Rattle.std.specs.Prelude.{◌≡◌, ◌≤◌, ◌⊎◌, ℕ, ◌-◌, ◌/◌, ◌%◌, ◌^◌, List, [], ◌∷◌, ◌++◌, map, fold, zip, filter, flat_map, codes, min, slice_index, nat_lt, bytes_eq, string_bytes, String, pos, neg_ℤ, Option, Some, None, option_map, if◌then◌else◌}
use Rattle.std.specs.declared.alloc.Global.{Global}
use Rattle.serde_json.specs.Data.{Num, unsigned, Data, null, boolean, number, string, array, object, Members, no_members, put, depth}
use Rattle.serde_json.specs.Find.{get, of_integer}
use Rattle.serde_json.specs.Read.{read}
use Rattle.serde_json.specs.View.{view, items_of, members_view}
use Rattle.serde_json.specs.declared.value.Value.{Value}
use Rattle.sl_explain_texts.specs.Codes.{code_word}
use Rattle.sl_explain_texts.specs.declared.program.TheConstants.{VERSION}
use Rattle.sl_law_meaning.specs.declared.fault.Scope.TheVariants as scope
use Rattle.sl_report_forms.specs.Heads.{head_key}
use Rattle.sl_report_forms.specs.CellTexts.{key_text}
use Rattle.sl_report_forms.specs.NameTexts.{text_in}
use Rattle.sl_report_forms.specs.declared.cell.Cell.TheVariants as cell
use Rattle.sl_report_forms.specs.declared.cell.Cell.{Cell}
use Rattle.sl_report_forms.specs.declared.heading.DigestedInput.{DigestedInput}
use Rattle.sl_report_forms.specs.declared.heading.Heading.{Heading}
use Rattle.sl_report_forms.specs.declared.heading.Told.{Told}
use Rattle.sl_report_forms.specs.declared.names.Length.TheVariants.{Short}
use Rattle.sl_report_forms.specs.declared.names.Names.{Names}
use Rattle.sl_report_forms.specs.declared.sheet.Head.{Head}
use Rattle.sl_report_forms.specs.declared.sheet.Sheet.{Sheet}

abbrev pub array_of : List Data → Data
array_of ds = array (items_of ds)

-- members go in one after another: of a key that comes twice the last value stays
abbrev pub with_members : Members → List (List ℕ × Data) → Members
with_members ms more = fold (λ all m. put m.0 m.1 all) ms more

abbrev pub object_of : List (List ℕ × Data) → Data
object_of ms = object (with_members no_members ms)

abbrev pub text_or_null : Option (List ℕ) → Data
text_or_null (Some text) = string text
text_or_null None = null

-- by how much a number is another than before; less by more than 63 bits hold is said as less by as much as they hold
abbrev pub change : ℕ → ℕ → Num
change n before = if nat_lt n before then of_integer (neg_ℤ (pos (min (before - n) (2 ^ 63 - 1)))) else unsigned (n - before)

-- what is no number, flag or list is a text
abbrev pub cell_value : Names → Cell → Data
cell_value names cell.Empty = null
cell_value names (cell.Number n) = number (unsigned n)
cell_value names (cell.Change n before) = number (change n before)
cell_value names (cell.Flag is) = boolean is
cell_value names (cell.Claimants entries _) = array_of (map (λ entry. string (text_in names Short scope.All entry)) entries.items)
cell_value names cell = string (key_text names cell)

-- an object with each cell that stands below a head, by the head's key
abbrev pub row_value : Names → List Head → List Cell → Data
row_value names heads row = object_of (map (λ p. (head_key p.0, cell_value names p.1)) (zip heads row))

abbrev pub sheet_rows : Names → Sheet → List Data
sheet_rows names s = map (λ row. row_value names s.heads.items row.items) s.rows.items

-- the rows of all sheets of a key, in their order
abbrev pub table_value : Names → List Sheet → List ℕ → Data
table_value names sheets key = array_of (flat_map (sheet_rows names) (filter (λ s. bytes_eq s.key.now key) sheets))

-- an object with one member for each key of the sheets
abbrev pub tables_value : Names → List Sheet → Data
tables_value names sheets = object_of (map (λ s. (s.key.now, table_value names sheets s.key.now)) sheets)

abbrev pub hex_digit : ℕ → ℕ
hex_digit n = slice_index (codes "0123456789abcdef") n

-- two digits for each byte
abbrev pub hex : List ℕ → List ℕ
hex bytes = flat_map (λ byte. hex_digit (byte / 16) ∷ hex_digit (byte % 16) ∷ []) bytes

-- a member with this key, if there is a text
abbrev pub text_member : List ℕ → Option (String Global) → List (List ℕ × Data)
text_member key None = []
text_member key (Some text) = (key, string (string_bytes text)) ∷ []

abbrev pub input_value : DigestedInput → Data
input_value i = object_of ((codes "input", string i.input.now) ∷ text_member (codes "word") i.word ++ (codes "sha256", string (hex i.digest)) ∷ [])

-- the code of a fault, the kind of the input that it is of, and further members, of which no definition tells what they say
abbrev pub Explains : Told → Data → Type 0
Explains told why =
    (get (codes "code") why ≡ Some (text_or_null (option_map code_word told.explanation.now.code)))
    × (get (codes "input") why ≡ Some (string told.input.now))
    × (depth why ≤ 2)

-- null where there is a table
abbrev pub MaybeExplains : Option Told → Data → Type 0
MaybeExplains None why = why ≡ null
MaybeExplains (Some told) why = Explains told why

-- all but the tables: the versions of the JSON and of the program, the command, its status, the line of its fault, its inputs, and why there is no table
abbrev pub heading_members : Heading → ℕ → Option (List ℕ) → Data → List (List ℕ × Data)
heading_members heading status line why =
    (codes "schema", number (unsigned 2))
    ∷ (codes "program", string VERSION.now)
    ∷ (codes "command", string heading.command.now)
    ∷ (codes "status", number (unsigned status))
    ∷ (codes "fault", text_or_null line)
    ∷ (codes "inputs", array_of (map input_value heading.inputs.now))
    ∷ (codes "explanation", why)
    ∷ []

-- an object that tells of the command, and then of the tables
abbrev pub report_value : List (List ℕ × Data) → Names → List Sheet → Data
report_value heading names sheets = object_of (heading ++ (codes "tables", tables_value names sheets) ∷ [])

-- a text that is read as this value, and the end of its line
abbrev pub IsLineOf : Data → List ℕ → Type 0
IsLineOf d text = (json : List ℕ) × (text ≡ json ++ codes "\n") × (read json ≡ Some d)

-- The text, read again, has exactly the tables of the sheets, the command, its status, the line of its fault, its inputs, and the code of what is explained.
-- The other words of an explanation are told nowhere here.
abbrev pub IsJsonText : Heading → ℕ → Option (List ℕ) → Names → List Sheet → List ℕ → Type 0
IsJsonText heading status line names sheets text =
    (why : Data) × MaybeExplains heading.told why × IsLineOf (report_value (heading_members heading status line why) names sheets) text

-- ---- values that are being filled

-- so many levels of arrays and objects at most
abbrev pub NestsWithin : ℕ → Value → Type 0
NestsWithin n v = depth (view v) ≤ n

abbrev pub Entry : Type 0
Entry = String Global × Value

-- the object has these members more, or memory has run out
abbrev pub Puts : Option (List Entry) → Option (List Entry) → List (List ℕ × Data) → Type 0
Puts before after more = (option_map members_view after ≡ option_map (λ es. with_members (members_view es) more) before) ⊎ (after ≡ None)

-- the list has these values more, or memory has run out
abbrev pub Adds : Option (List Value) → Option (List Value) → List Data → Type 0
Adds before after more = (option_map (map view) after ≡ option_map (λ vs. map view vs ++ more) before) ⊎ (after ≡ None)
