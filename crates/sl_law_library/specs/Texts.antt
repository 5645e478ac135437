-- What trees the texts of the library have (docs/laws.md).
use Rattle.std.specs.List.{All}
use Rattle.std.specs.Prelude.{◌≡◌, ℕ, ◌≤◌, List, [], Some, None, length, map, IsTrue}
use Rattle.sl_lex.specs.declared.token.Token.{Token}
use Rattle.sl_lex.specs.Tokens.{AreTokens}
use Rattle.sl_parse.specs.Grammar.{IsBook}
use Rattle.sl_law_meaning.specs.book.Trees.{BookTree}
use Rattle.sl_law_meaning.specs.book.Limits.{is_within_limits}
use Rattle.sl_law_meaning.specs.book.Typing.{check_fault}
use Rattle.sl_laws.specs.Books.{books, law_text}
use Rattle.sl_law_statutes.specs.Trees.{statutes}

-- the text's tokens are that tree
abbrev pub IsTextOfTree : List ℕ → BookTree → Type 0
IsTextOfTree text b = (tokens : List Token) × AreTokens text tokens × IsBook text b tokens []

-- under that name the library has a text of no more than a thousand bytes. Its tree is that of the statute at some offsets, well-formed and within
-- the limits of the parser, and it has no other
pub record HasStatuteTree (name : List ℕ) (statute : (ℕ → ℕ) → BookTree) : Type 0 where
  pub text : List ℕ
  pub named : law_text name ≡ Some text
  pub short : length text ≤ 1000
  pub at : ℕ → ℕ
  pub is : IsTextOfTree text (statute at)
  pub within : IsTrue (is_within_limits (statute at).stages)
  pub formed : check_fault (statute at) ≡ None
  pub only : (b : BookTree) → IsTextOfTree text b → b ≡ statute at

-- each statute has its tree, and the library has no other names
abbrev pub TextsHaveTheTrees : Type 0
TextsHaveTheTrees =
    All (λ statute. HasStatuteTree statute.0 statute.1) statutes
    × (map (λ book. book.0) books ≡ map (λ statute. statute.0) statutes)
