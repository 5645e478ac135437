-- The tree of a text, and the stages of a book.
use Rattle.std.proofs.Common.{◌≡◌, ℕ, ◌≤◌, List, [], length, map, nat_le, arith}
use Rattle.std.specs.List.{list_all}
use Rattle.std.proofs.lemmas.Bool.{and_parts, leb-true}
use Rattle.std.proofs.lemmas.List.{length-map}
use Rattle.sl_lex.specs.declared.token.Token.{Token}
use Rattle.sl_lex.specs.Tokens.{AreTokens}
use Rattle.sl_parse.specs.Grammar.{IsBook}
use Rattle.sl_law_meaning.specs.declared.book.Book.{Book}
use Rattle.sl_base_terms.specs.declared.limits.TheConstants.{MAX_STAGES}
use Rattle.sl_law_meaning.specs.book.Books.{book_of}
use Rattle.sl_law_meaning.specs.book.Limits.{is_within_stage}
use Rattle.sl_law_meaning.specs.book.Trees.{stage_of}
use Rattle.sl_count_inputs.specs.declared.limits.TheConstants.{MAX_BOOK_BYTES}
use Rattle.sl_count_inputs.specs.Books.{HasTree}

-- the tree that was read
pub has_tree : (text : List ℕ) (tokens : List Token) (b c : Book) → length text ≤ MAX_BOOK_BYTES → AreTokens text tokens
    → IsBook text (book_of b) tokens [] → c ≡ b → HasTree text (book_of c)
has_tree text tokens b c fits lexed parsed same =
    rw same (record { tokens = tokens; lexed = record { fits = fits; lexed = lexed }; parsed = parsed; within = b.within_limits })

-- a book has not too many stages
pub few_stages : (b : Book) → length b.stages.items ≤ MAX_STAGES
few_stages b =
    let trees = map stage_of b.stages.items in
    let few = leb-true (length trees) MAX_STAGES (and_parts (nat_le (length trees) MAX_STAGES) (list_all is_within_stage trees) b.within_limits).0 in
    omega (arith, few, length-map b.stages.items stage_of)
