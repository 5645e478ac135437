-- The input for which a call's argument stands, and the verdict for which its answer stands.
use Rattle.sl_law_meaning.specs.declared.checked.CheckedBook.{CheckedBook}
use Rattle.sl_law_meaning.specs.book.Books.{book_of}
use Rattle.sl_law_meaning.specs.book.Trees.{BookTree}
use Rattle.sl_law_meaning.specs.returns.Election.{Election}
use Rattle.sl_count_inputs.specs.Books.{BookInput, library, text}
use Rattle.sl_count_inputs.specs.declared.book.BookText.{BookText}
use Rattle.sl_count_inputs.specs.declared.book.BookText.TheVariants as given
use Rattle.sl_count_inputs.specs.declared.refusal.BookRefusal.TheVariants as book
use Rattle.sl_count_inputs.specs.declared.refusal.BookRefusal.{BookRefusal}
use Rattle.sl_count_inputs.specs.declared.refused_book.RefusedBook.TheVariants as read
use Rattle.sl_count_inputs.specs.declared.refused_book.RefusedBook.{RefusedBook}
use Rattle.sl_count_inputs.specs.declared.refusal.ReturnsRefusal.TheVariants as returns
use Rattle.sl_count_inputs.specs.declared.refusal.ReturnsRefusal.{ReturnsRefusal}
use Rattle.sl_count_inputs.specs.declared.refused_election.RefusedElection.TheVariants as election
use Rattle.sl_count_inputs.specs.declared.refused_election.RefusedElection.{RefusedElection}
use Rattle.sl_count_inputs.specs.declared.verdict.Verdict.{Verdict}
use Rattle.sl_count_inputs.specs.declared.verdict.Verdict.TheVariants.{Good, Refused}

-- a name or the bytes of a text
abbrev pub input_of : BookText → BookInput
input_of (given.Library name) = library name.now
input_of (given.Text bytes) = text bytes.now

-- why a rulebook is refused, without what was read of it
abbrev pub refusal_of : RefusedBook → BookRefusal
refusal_of (read.UnknownStatute name) = book.UnknownLaw name
refusal_of read.TooLong = book.TooLong
refusal_of (read.Tokens fault) = book.Tokens fault
refusal_of (read.Grammar fault tokens) = book.Grammar fault
refusal_of (read.Test fault tree) = book.Test fault

-- a checked book is a good one by its tree
abbrev pub tree_verdict : Verdict CheckedBook RefusedBook → Verdict BookTree BookRefusal
tree_verdict (Good checked) = Good (book_of checked.book)
tree_verdict (Refused refused) = Refused (refusal_of refused)

-- why returns are refused, without what was read of them
abbrev pub returns_refusal_of : RefusedElection → ReturnsRefusal
returns_refusal_of election.TooLong = returns.TooLong
returns_refusal_of (election.Records refused) = returns.Records refused.fault

abbrev pub election_verdict : Verdict Election RefusedElection → Verdict Election ReturnsRefusal
election_verdict (Good e) = Good e
election_verdict (Refused refused) = Refused (returns_refusal_of refused)
