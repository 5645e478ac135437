-- What stands beside a refusal: what was read of the input until then.
use Rattle.std.specs.Prelude.{List, ℕ}
use Rattle.sl_count_inputs.specs.Books.{HasTokens, HasTree}
use Rattle.sl_count_inputs.specs.declared.refused_book.RefusedBook.TheVariants.{Grammar, Test}
use Rattle.sl_count_inputs.specs.declared.refused_book.RefusedBook.{RefusedBook}
use Rattle.sl_count_inputs.specs.declared.refused_election.RefusedElection.TheVariants.{Records, TooLong}
use Rattle.sl_count_inputs.specs.declared.refused_election.RefusedElection.{RefusedElection}
use Rattle.sl_count_inputs.specs.declared.verdict.Verdict.TheVariants.{Good, Refused}
use Rattle.sl_count_inputs.specs.declared.verdict.Verdict.{Verdict}
use Rattle.sl_law_meaning.specs.book.Books.{book_of}
use Rattle.sl_returns.specs.Further.{HasFurther}
use Rattle.sl_returns.specs.Returns.{AreRefused, records_in}

-- where a verdict is a refusal, something is said of it
abbrev pub IfRefused : {T R : Type 0} → Verdict T R → (R → Type 0) → Type 0
IfRefused (Good good) IsSaid = Unit {0}
IfRefused (Refused refused) IsSaid = IsSaid refused

-- a refused rulebook of those bytes has their tokens where these are no tree, and their tree where it fails a test
abbrev pub HoldsBook : List ℕ → RefusedBook → Type 0
HoldsBook bytes (Grammar fault tokens) = HasTokens bytes tokens.items
HoldsBook bytes (Test fault tree) = HasTree bytes (book_of tree)
HoldsBook bytes _ = Unit {0}

-- refused returns of those bytes have the record that is refused, and the further ones
abbrev pub HoldsReturns : List ℕ → RefusedElection → Type 0
HoldsReturns bytes (Records refused) = AreRefused (records_in bytes) refused × HasFurther (records_in bytes) refused
HoldsReturns bytes TooLong = Unit {0}
