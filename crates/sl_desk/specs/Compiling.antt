-- What compiling a rulebook writes, to the file and to the output (docs/output.md).
use Rattle.std.specs.Prelude.{List, ◌≡◌, ℕ, []}
use Rattle.sl_compile.specs.Compiled.{IsCompiled}
use Rattle.sl_code_instructions.specs.Codes.{CountingCode}
use Rattle.sl_code.specs.Listing.{listing_of}
use Rattle.sl_code_instructions.specs.Proper.{IsProper}
use Rattle.sl_code.specs.Spelling.{spelling_of}
use Rattle.sl_count_inputs.specs.Books.{BookInput, IsBookVerdict, book_line}
use Rattle.sl_count_inputs.specs.declared.refusal.BookRefusal.{BookRefusal}
use Rattle.sl_count_inputs.specs.declared.status.Status.TheVariants as status
use Rattle.sl_count_inputs.specs.declared.status.Status.{Status}
use Rattle.sl_count_inputs.specs.declared.verdict.Verdict.TheVariants.{Good, Refused}
use Rattle.sl_count_inputs.specs.declared.verdict.Verdict.{Verdict}
use Rattle.sl_law_meaning.specs.book.Trees.{BookTree}
use Rattle.sl_code_semantics.specs.WellKinded.{IsWellKinded}

-- the bytes of a code file, and the listing of its instructions, of a well-kinded code that counts as the book means
pub record IsCodeOf (tree : BookTree) (file output : List ℕ) : Type 0 where
  pub code : CountingCode
  pub compiled : IsCompiled tree code
  pub proper : IsProper code
  pub kinded : IsWellKinded code
  pub spelled : file ≡ spelling_of code
  pub listed : output ≡ listing_of code

-- a judged book: nothing goes to the file where it is refused
abbrev pub IsCompiling : Verdict BookTree BookRefusal → Status → List ℕ → List ℕ → Type 0
IsCompiling (Refused why) ends file output = (ends ≡ status.Refused) × (file ≡ []) × (output ≡ book_line why)
IsCompiling (Good tree) ends file output = (ends ≡ status.Done) × IsCodeOf tree file output

-- what compiling writes, to the file and to the output: the book is judged
abbrev pub IsCompilingOutput : BookInput → Status → List ℕ → List ℕ → Type 0
IsCompilingOutput input ends file output =
    (verdict : Verdict BookTree BookRefusal) × IsBookVerdict input verdict × IsCompiling verdict ends file output
