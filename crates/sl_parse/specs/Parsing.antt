-- What a parse answers (docs/language.md, section 2).
use Rattle.std.specs.Prelude.{◌≡◌, ℕ, List, [], ◌∷◌, length, Result, Ok, Err, IsTrue}
use Rattle.sl_lex.specs.declared.token.Token.{Token}
use Rattle.sl_law_meaning.specs.declared.limits.TheConstants.{MAX_DEPTH, MAX_PARTS}
use Rattle.sl_base_terms.specs.declared.limits.TheConstants.{MAX_STAGES}
use Rattle.sl_law_meaning.specs.declared.book.Book.{Book}
use Rattle.sl_law_meaning.specs.book.Trees.{BookTree}
use Rattle.sl_law_meaning.specs.book.Books.{book_of}
use Rattle.sl_parse.specs.declared.fault.Cause.{Cause}
use Rattle.sl_parse.specs.declared.fault.Cause.TheVariants.{Expected, TooDeep, TooManyStages, After}
use Rattle.sl_parse.specs.declared.fault.ParseFault.{ParseFault}
use Rattle.sl_parse.specs.declared.fault.ParseFault.TheVariants as faults
use Rattle.sl_law_meaning.specs.book.Limits.{is_within_limits}
use Rattle.sl_parse.specs.Grammar.{IsBook}
use Rattle.sl_parse.specs.Faults.{Limits, IsFault}

abbrev pub limits : Limits
limits = record { depth = MAX_DEPTH; parts = MAX_PARTS; stages = MAX_STAGES }

-- the tokens are a book within the limits
abbrev pub HasBook : (text : List ℕ) → List Token → Type 0
HasBook text tokens = (tree : BookTree) × IsBook text tree tokens [] × IsTrue (is_within_limits tree.stages)

-- they have a fault
abbrev pub HasFault : (text : List ℕ) → List Token → Type 0
HasFault text tokens = (cause : Cause) × (rest : List Token) × IsFault text limits tokens cause rest

-- where the next token begins, or the text's length
abbrev pub offset : ℕ → List Token → ℕ
offset len [] = len
offset len (t ∷ rest) = t.start

abbrev pub fault_at : Cause → ℕ → ParseFault
fault_at Expected at = faults.Expected at
fault_at TooDeep at = faults.TooDeep at
fault_at TooManyStages at = faults.TooManyStages at
fault_at After at = faults.After at

-- The fault of the tokens has this cause, and stands at this offset.
abbrev pub FaultIsAt : (text : List ℕ) → List Token → Cause → ℕ → Type 0
FaultIsAt text tokens cause at = (rest : List Token) × IsFault text limits tokens cause rest × (at ≡ offset (length text) rest)

-- out of memory, or the fault of the tokens
abbrev pub IsFaultOf : (text : List ℕ) → List Token → ParseFault → Type 0
IsFaultOf text tokens (faults.Expected at) = FaultIsAt text tokens Expected at
IsFaultOf text tokens (faults.TooDeep at) = FaultIsAt text tokens TooDeep at
IsFaultOf text tokens (faults.TooManyStages at) = FaultIsAt text tokens TooManyStages at
IsFaultOf text tokens (faults.After at) = FaultIsAt text tokens After at
IsFaultOf text tokens faults.NoMemory = Unit {0}

-- the tree is answered, unless memory runs out
abbrev pub Answers : BookTree → Result Book ParseFault → Type 0
Answers tree (Ok b) = book_of b ≡ tree
Answers tree (Err faults.NoMemory) = Unit {0}
Answers tree (Err _) = ⊥
