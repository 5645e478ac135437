-- The text of a cell: for a program, whatever the language, and for a person.
use Rattle.std.specs.Prelude.{ℕ, List, [], ◌++◌, true, false, codes, nat_lt, string_bytes, if◌then◌else◌}
use Rattle.std.specs.Fmt.{decimal}
use Rattle.std.specs.Int.{abs_diff}
use Rattle.sl_explain_texts.specs.Languages.{chosen, in_language}
use Rattle.sl_explain_texts.specs.declared.language.Language.TheVariants.{English}
use Rattle.sl_explain_texts.specs.declared.language.Language.{Language}
use Rattle.sl_law_margins.specs.Decimals.{number_text}
use Rattle.sl_law_meaning.specs.declared.fault.Item.{Item}
use Rattle.sl_law_meaning.specs.declared.fault.Scope.TheVariants as scopes
use Rattle.sl_law_meaning.specs.declared.fault.Scope.{Scope}
use Rattle.sl_report_forms.specs.NameTexts.{condition_text, list_text, scope_name, scope_text, stage_text, text_in}
use Rattle.sl_report_forms.specs.declared.cell.Cell.TheVariants as cell
use Rattle.sl_report_forms.specs.declared.cell.Cell.{Cell}
use Rattle.sl_report_forms.specs.declared.cell.Reader.TheVariants.{Person, Program}
use Rattle.sl_report_forms.specs.declared.cell.Reader.{Reader}
use Rattle.sl_report_forms.specs.declared.names.Length.TheVariants.{Full, Short}
use Rattle.sl_report_forms.specs.declared.names.Names.{Names}

abbrev pub language_for : Reader → Language
language_for Program = English
language_for (Person language) = language

-- the sign of a number that is more than before
abbrev pub more_sign : Reader → List ℕ
more_sign Program = []
more_sign (Person language) = codes "+"

-- by how much a number is another than before: with `-` where it is less
abbrev pub change_text : Reader → ℕ → ℕ → List ℕ
change_text reader number before =
    (if nat_lt number before then codes "-" else if nat_lt before number then more_sign reader else []) ++ decimal (abs_diff number before)

-- the two numbers of a fraction
abbrev pub fraction_text : ℕ → ℕ → List ℕ
fraction_text num den = decimal num ++ codes "/" ++ decimal den

-- the names of claimants in a scope
abbrev pub claimants_text : Reader → Names → List Item → Scope → List ℕ
claimants_text Program n entries scope = list_text n Short scopes.All (codes " ") entries
claimants_text (Person language) n entries scope = list_text n Full scope (codes ", ") entries

abbrev pub text_for : Reader → Names → Cell → List ℕ
text_for reader n cell.Empty = []
text_for reader n (cell.Text words) = string_bytes words
text_for reader n (cell.Prose words) = string_bytes words
text_for reader n (cell.Number number) = decimal number
text_for reader n (cell.Decimal number) = number_text number
text_for reader n (cell.Fraction num den) = fraction_text num den
text_for reader n (cell.Change number before) = change_text reader number before
text_for reader n (cell.Flag true) = chosen (language_for reader) (codes "yes") (codes "ja")
text_for reader n (cell.Flag false) = chosen (language_for reader) (codes "no") (codes "nein")
text_for reader n (cell.Word word) = in_language (language_for reader) word
text_for reader n (cell.Condition cond) = condition_text (language_for reader) cond
text_for reader n (cell.Stage stage) = stage_text n stage
text_for reader n (cell.Entry entry) = text_in n Short scopes.All entry
text_for reader n (cell.EntryName entry scope) = text_in n Full scope entry
text_for reader n (cell.Entries entries) = list_text n Short scopes.All (codes " ") entries.items
text_for reader n (cell.Claimants entries scope) = claimants_text reader n entries.items scope
text_for reader n (cell.Scope scope) = scope_text n scope
text_for reader n (cell.ScopeName scope) = scope_name (language_for reader) n scope

abbrev pub key_text : Names → Cell → List ℕ
key_text n cell = text_for Program n cell

abbrev pub shown_text : Language → Names → Cell → List ℕ
shown_text language n cell = text_for (Person language) n cell
