-- What checking a rulebook writes (docs/output.md).
use Rattle.std.specs.Fmt.{decimal}
use Rattle.std.specs.Prelude.{List, codes, length, ◌∷◌, ◌≡◌, ℕ, []}
use Rattle.sl_count_inputs.specs.Books.{BookInput, IsBookVerdict, book_line}
use Rattle.sl_count_inputs.specs.declared.refusal.BookRefusal.{BookRefusal}
use Rattle.sl_count_inputs.specs.declared.status.Status.TheVariants as status
use Rattle.sl_count_inputs.specs.declared.status.Status.{Status}
use Rattle.sl_count_inputs.specs.declared.verdict.Verdict.TheVariants.{Good, Refused}
use Rattle.sl_count_inputs.specs.declared.verdict.Verdict.{Verdict}
use Rattle.sl_law_meaning.specs.book.Trees.{BookTree}
use Rattle.sl_count_texts.specs.Lines.{line}

-- the line of a good book: its version, its house, how many stages it has, and the text of its law
abbrev pub check_line : BookTree → List ℕ
check_line b =
    line (codes "book" ∷ decimal b.version.value ∷ codes "house" ∷ decimal b.house.value ∷ codes "stages" ∷ decimal (length b.stages)
    ∷ codes "law" ∷ b.law ∷ [])

-- a judged book
abbrev pub IsCheck : Verdict BookTree BookRefusal → Status → List ℕ → Type 0
IsCheck (Refused why) ends output = (ends ≡ status.Refused) × (output ≡ book_line why)
IsCheck (Good tree) ends output = (ends ≡ status.Done) × (output ≡ check_line tree)

-- what checking writes: the book is judged
abbrev pub IsCheckOutput : BookInput → Status → List ℕ → Type 0
IsCheckOutput input ends output = (verdict : Verdict BookTree BookRefusal) × IsBookVerdict input verdict × IsCheck verdict ends output
