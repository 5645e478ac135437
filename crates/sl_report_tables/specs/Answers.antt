-- The answers of the commands that report: tables, or a refusal; and their texts (docs/report.md).
use Rattle.std.specs.Prelude.{List, Option, None, Some, [], map, ◌≡◌, ◌++◌, ◌∷◌, ℕ}
use Rattle.std.specs.Str.{IsUtf8}
use Rattle.sl_count_inputs.specs.declared.status.Status.TheVariants.{Done, Refused}
use Rattle.sl_count_inputs.specs.Statuses.{status_number}
use Rattle.sl_count_inputs.specs.declared.status.Status.{Status}
use Rattle.sl_explain_texts.specs.declared.language.Language.{Language}
use Rattle.sl_report_forms.specs.CommaForm.{IsCommaText}
use Rattle.sl_report_forms.specs.HtmlForm.{html_page}
use Rattle.sl_report_forms.specs.JsonForm.{IsJsonText}
use Rattle.sl_report_forms.specs.MarkdownForm.{markdown_of}
use Rattle.sl_report_forms.specs.Shown.{View, views_of}
use Rattle.sl_report_forms.specs.TextForm.{aligned_of}
use Rattle.sl_report_forms.specs.Tables.{Table, table_of}
use Rattle.sl_report_forms.specs.declared.heading.Heading.{Heading}
use Rattle.sl_law_meaning.specs.returns.Election.{Election}
use Rattle.sl_report_tables.specs.Naming.{AreNames}
use Rattle.sl_report_tables.specs.declared.answer.Answer.{Answer}
use Rattle.sl_report_forms.specs.declared.shape.Shape.TheVariants as shape
use Rattle.sl_report_forms.specs.declared.shape.Shape.{Shape}

-- the tables of an answer
abbrev pub tables_of : Answer → List Table
tables_of a = map table_of a.sheets.items

-- a command on returns was done: it has such tables, with the names of the returns, and no line
abbrev pub HasTables : Election → (List Table → Type 0) → Answer → Type 0
HasTables e Are a = (a.status ≡ Done) × (a.line.items ≡ []) × AreNames [] e a.names × Are (tables_of a)

-- a refusal has no table
abbrev pub IsRefusal : Answer → Type 0
IsRefusal a = (a.status ≡ Refused) × (a.sheets.items ≡ [])

-- it has this line
abbrev pub IsRefusedBy : List ℕ → Answer → Type 0
IsRefusedBy line a = IsRefusal a × (a.line.items ≡ line)

-- what a person sees of its sheets
abbrev pub views_in : Language → Answer → List View
views_in language a = views_of language a.names a.sheets.items

-- ---- texts

-- a line in UTF-8, without its end; nothing of one that has none, as where there is no line
abbrev pub IsToldLine : List ℕ → Option (List ℕ) → Type 0
IsToldLine line (Some told) = line ≡ told ++ 10 ∷ []
IsToldLine line None = (told : List ℕ) → line ≡ told ++ 10 ∷ [] → ¬ IsUtf8 told

-- what holds of the line of an answer without its end
abbrev pub OfLine : (Option (List ℕ) → Type 0) → Answer → Type 0
OfLine Is a = (line : Option (List ℕ)) × IsToldLine a.line.items line × Is line

-- sheets below the line of a legal fault, if there is one, and an empty line
abbrev pub below_line : List ℕ → List ℕ → List ℕ
below_line [] sheets = sheets
below_line (c ∷ line) sheets = (c ∷ line) ++ 10 ∷ sheets

-- the text of an answer with such a status: in JSON its tables; else of a refusal the line, and of others the sheets, with the line of a legal fault. Nothing
-- is said of the title that HTML has for a command
abbrev pub IsTextOf : Shape → Heading → Status → Answer → List ℕ → Type 0
IsTextOf shape.Json heading status a text = OfLine (λ line. IsJsonText heading (status_number status) line a.names a.sheets.items text) a
IsTextOf shape heading Refused a text = text ≡ a.line.items
IsTextOf shape.Comma heading status a text = IsCommaText a.names a.sheets.items text
IsTextOf shape.Markdown heading status a text = OfLine (λ line. text ≡ markdown_of line (views_in heading.language a)) a
IsTextOf shape.Html heading status a text = OfLine (λ line. (title : List ℕ) × (text ≡ html_page heading.language title line (views_in heading.language a))) a
IsTextOf shape.Text heading status a text = text ≡ below_line a.line.items (aligned_of (views_in heading.language a))

abbrev pub IsAnswerText : Shape → Heading → Answer → List ℕ → Type 0
IsAnswerText shape heading a text = IsTextOf shape heading a.status a text
