-- The names that the cells of tables have: those of the returns and of the stages of a book (docs/report.md).
use Rattle.std.specs.Prelude.{◌≡◌, ℕ, List, [], Option, None, Some, if◌then◌else◌, map, string_bytes}
use Rattle.std.specs.Str.{is_utf8}
use Rattle.sl_law_meaning.specs.declared.book.Book.{Book}
use Rattle.sl_law_meaning.specs.declared.book.Stage.{Stage}
use Rattle.sl_law_meaning.specs.returns.Election.{Election}
use Rattle.sl_report_forms.specs.declared.names.Name.{Name}
use Rattle.sl_report_forms.specs.declared.names.Names.{Names}

-- bytes as text; no text of bytes that are not UTF-8
abbrev pub text_of : List ℕ → List ℕ
text_of bytes = if is_utf8 bytes then bytes else []

abbrev pub short_name : Name → List ℕ
short_name n = string_bytes n.short

abbrev pub stage_name : Stage → List ℕ
stage_name s = text_of s.name

-- the stages of a book, and none without one
abbrev pub stages_in : Option Book → List Stage
stages_in None = []
stages_in (Some b) = b.stages.items

-- the short names are those of the returns, each by its number, and the stages have theirs; of full names nothing is said
pub record AreNames (stages : List Stage) (e : Election) (n : Names) : Type 0 where
  pub lands : map short_name n.lands.items ≡ map text_of e.land_names
  pub parties : map short_name n.parties.items ≡ map text_of e.party_names
  pub winners : map short_name n.winners.items ≡ map text_of e.win_names
  pub stage_names : map string_bytes n.stages.items ≡ map stage_name stages
