-- What a rulebook comes to by its bytes or its name: a good book, or a refusal and its line (docs/output.md, section 2).
use Rattle.std.specs.Prelude.{IsTrue, List, None, Option, Some, codes, length, ◌<◌, ◌∷◌, ◌≡◌, ◌≢◌, ◌≤◌, ℕ, []}
use Rattle.sl_count_inputs.specs.Library.{unknown_law}
use Rattle.sl_count_inputs.specs.Refusals.{numbered, refused_at, too_long}
use Rattle.sl_count_inputs.specs.declared.limits.TheConstants.{MAX_BOOK_BYTES}
use Rattle.sl_count_inputs.specs.declared.refusal.BookRefusal.TheVariants as book
use Rattle.sl_count_inputs.specs.declared.refusal.BookRefusal.{BookRefusal}
use Rattle.sl_count_inputs.specs.declared.refusal.Numbered.{Numbered}
use Rattle.sl_count_inputs.specs.declared.verdict.Verdict.TheVariants.{Good, Refused}
use Rattle.sl_count_inputs.specs.declared.verdict.Verdict.{Verdict}
use Rattle.sl_laws.specs.Books.{law_text}
use Rattle.sl_lex.specs.Tokens as lex
use Rattle.sl_lex.specs.declared.fault.LexFault.TheVariants as lexing
use Rattle.sl_lex.specs.declared.fault.LexFault.{LexFault}
use Rattle.sl_lex.specs.declared.token.Token.{Token}
use Rattle.sl_parse.specs.Grammar.{IsBook}
use Rattle.sl_parse.specs.Parsing.{IsFaultOf}
use Rattle.sl_parse.specs.declared.fault.ParseFault.TheVariants as parse
use Rattle.sl_parse.specs.declared.fault.ParseFault.{ParseFault}
use Rattle.sl_law_meaning.specs.book.Limits.{is_within_limits}
use Rattle.sl_law_meaning.specs.book.Trees.{BookTree}
use Rattle.sl_law_meaning.specs.book.Typing.{check_fault}
use Rattle.sl_law_meaning.specs.declared.check_fault.CheckFault.TheVariants as check
use Rattle.sl_law_meaning.specs.declared.check_fault.CheckFault.{CheckFault}

-- a book of the library, by its name, or the bytes of a text
pub data BookInput : Type 0 where
  library : (name : List ℕ) → BookInput
  text : (bytes : List ℕ) → BookInput

-- a text of no more bytes than the limit, and its tokens
pub record HasTokens (bytes : List ℕ) (tokens : List Token) : Type 0 where
  pub fits : length bytes ≤ MAX_BOOK_BYTES
  pub lexed : lex.AreTokens bytes tokens

-- a text whose tokens are that tree, within the limits of trees
pub record HasTree (bytes : List ℕ) (tree : BookTree) : Type 0 where
  pub tokens : List Token
  pub lexed : HasTokens bytes tokens
  pub parsed : IsBook bytes tree tokens []
  pub within : IsTrue (is_within_limits tree.stages)

-- a text is too long; or has no tokens; or its tokens are no tree; or the tree fails a test; or it is a good book
abbrev pub IsTextVerdict : List ℕ → Verdict BookTree BookRefusal → Type 0
IsTextVerdict bytes (Refused book.TooLong) = MAX_BOOK_BYTES < length bytes
IsTextVerdict bytes (Refused (book.Tokens fault)) = (length bytes ≤ MAX_BOOK_BYTES) × lex.IsFault bytes fault
IsTextVerdict bytes (Refused (book.Grammar fault)) = (tokens : List Token) × HasTokens bytes tokens × IsFaultOf bytes tokens fault × (fault ≢ parse.NoMemory)
IsTextVerdict bytes (Refused (book.Test fault)) = (tree : BookTree) × HasTree bytes tree × (check_fault tree ≡ Some fault)
IsTextVerdict bytes (Refused (book.UnknownLaw name)) = ⊥
IsTextVerdict bytes (Good tree) = HasTree bytes tree × (check_fault tree ≡ None)

-- the text after a name is judged, and a name without one is refused
abbrev pub IsLawVerdict : List ℕ → Option (List ℕ) → Verdict BookTree BookRefusal → Type 0
IsLawVerdict name (Some source) verdict = IsTextVerdict source verdict
IsLawVerdict name None (Refused (book.UnknownLaw unknown)) = unknown.now ≡ name
IsLawVerdict name None _ = ⊥

abbrev pub IsBookVerdict : BookInput → Verdict BookTree BookRefusal → Type 0
IsBookVerdict (library name) verdict = IsLawVerdict name (law_text name) verdict
IsBookVerdict (text bytes) verdict = IsTextVerdict bytes verdict

abbrev pub lex_fault : LexFault → Numbered
lex_fault (lexing.BadByte at) = numbered 1 at
lex_fault (lexing.OpenString at) = numbered 2 at
lex_fault (lexing.BigNumber at) = numbered 3 at
lex_fault (lexing.LongName at) = numbered 4 at
lex_fault lexing.NoMemory = numbered 5 0

abbrev pub parse_fault : ParseFault → Numbered
parse_fault (parse.Expected at) = numbered 1 at
parse_fault (parse.TooDeep at) = numbered 2 at
parse_fault (parse.TooManyStages at) = numbered 3 at
parse_fault (parse.After at) = numbered 4 at
parse_fault parse.NoMemory = numbered 5 0

abbrev pub checked_fault : CheckFault → Numbered
checked_fault (check.Version at) = numbered 1 at
checked_fault (check.HouseRange at) = numbered 2 at
checked_fault (check.PerRange at) = numbered 3 at
checked_fault (check.StageTwice at) = numbered 4 at
checked_fault (check.StageUnknown at) = numbered 5 at
checked_fault (check.Shape at) = numbered 6 at
checked_fault (check.Unit at) = numbered 7 at
checked_fault (check.TwoSplits at) = numbered 8 at
checked_fault (check.MethodOption at) = numbered 9 at
checked_fault (check.CapRange at) = numbered 10 at
checked_fault (check.SeatsShape at) = numbered 11 at

abbrev pub book_line : BookRefusal → List ℕ
book_line (book.UnknownLaw name) = unknown_law name.now
book_line book.TooLong = too_long (codes "book")
book_line (book.Tokens fault) = refused_at (codes "book" ∷ codes "lex" ∷ []) (lex_fault fault)
book_line (book.Grammar fault) = refused_at (codes "book" ∷ codes "parse" ∷ []) (parse_fault fault)
book_line (book.Test fault) = refused_at (codes "book" ∷ codes "check" ∷ []) (checked_fault fault)
