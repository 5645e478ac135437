-- The grammar of rulebooks: which tokens are which tree (docs/language.md, section 2).
use Rattle.std.specs.Prelude.{◌≡◌, ℕ, ◌+◌, ◌-◌, List, [], ◌∷◌, Option, Some, None, codes, slice_range}
use Rattle.sl_lex.specs.declared.keyword.Keyword.{Keyword}
use Rattle.sl_lex.specs.declared.keyword.Keyword.TheVariants as keywords
use Rattle.sl_lex.specs.declared.token.Mark.TheVariants as marks
use Rattle.sl_lex.specs.declared.token.Kind.{Kind}
use Rattle.sl_lex.specs.declared.token.Kind.TheVariants as kinds
use Rattle.sl_lex.specs.declared.token.Token.{Token}
use Rattle.sl_parse.specs.Spans.{bytes_of}
use Rattle.sl_parse.specs.Words.{axis_word, method_word, seating_word, fact_word, pairing_word}
use Rattle.sl_law_meaning.specs.declared.book.Majority.{Majority}
use Rattle.sl_law_meaning.specs.declared.book.Majority.TheVariants as majorities
use Rattle.sl_law_meaning.specs.declared.book.Number.{Number}
use Rattle.sl_law_meaning.specs.declared.book.Cond.{Cond}
use Rattle.sl_law_meaning.specs.declared.book.Cond.TheVariants as conditions
use Rattle.sl_law_meaning.specs.declared.book.Base.{Base}
use Rattle.sl_law_meaning.specs.declared.book.Base.TheVariants as bases
use Rattle.sl_law_meaning.specs.declared.book.LastClause.{LastClause}
use Rattle.sl_law_meaning.specs.book.Trees.{ExprTree, fact, name, sum, pair, split, without, atleast, grow, StageTree, BookTree}

-- A part of a token list, given by the tokens from its first on and by those after it.
abbrev pub Part : Type 1
Part = List Token → List Token → Type 0

-- one part, and then another
infixr 4 ◌▸◌
abbrev pub ◌▸◌ : Part → Part → Part
◌▸◌ p q here after = (between : List Token) × p here between × q between after

-- no token
abbrev pub empty : Part
empty here after = here ≡ after

-- no tokens are this
abbrev pub none : Part
none here after = ⊥

-- ---- one token

abbrev pub one_token : (Token → Type 0) → Part
one_token P here after = (t : Token) × (here ≡ t ∷ after) × P t

abbrev pub token : Kind → Part
token k = one_token (λ t. t.kind ≡ k)

-- a token that begins at an offset
abbrev pub token_at : Kind → ℕ → Part
token_at k at = one_token (λ t. (t.kind ≡ k) × (t.start ≡ at))

abbrev pub keyword : Keyword → Part
keyword k = token (kinds.Keyword k)

abbrev pub keyword_at : Keyword → ℕ → Part
keyword_at k = token_at (kinds.Keyword k)

abbrev pub semicolon : Part
semicolon = token (kinds.Mark marks.Semicolon)

abbrev pub equals : Part
equals = token (kinds.Mark marks.Equals)

abbrev pub comma : Part
comma = token (kinds.Mark marks.Comma)

abbrev pub open_mark : Part
open_mark = token (kinds.Mark marks.Open)

abbrev pub close_mark : Part
close_mark = token (kinds.Mark marks.Close)

abbrev pub number : Number → Part
number n = token_at (kinds.Number n.value) n.at

-- The text is that of the tokens. A name has these bytes, and begins at an offset.
abbrev pub name_at : (text bytes : List ℕ) → ℕ → Part
name_at text bytes at = one_token (λ t. (t.kind ≡ kinds.Name) × (bytes_of text t ≡ bytes) × (t.start ≡ at))

-- a text token, with these characters between its quotes
abbrev pub quoted : (text chars : List ℕ) → Part
quoted text chars = one_token (λ t. (t.kind ≡ kinds.Text) × (slice_range text (t.start + 1) (t.end - 1) ≡ chars))

-- ---- expressions and stages

-- the majority clause of a split, if there is one
abbrev pub IsMajority : Majority → Part
IsMajority majorities.Free = empty
IsMajority majorities.Prefer = comma ▸ keyword keywords.Majority ▸ keyword keywords.Prefer
IsMajority majorities.Refuse = comma ▸ keyword keywords.Majority ▸ keyword keywords.Refuse

-- that of a growth
abbrev pub IsRefusal : Majority → Part
IsRefusal majorities.Prefer = none
IsRefusal m = IsMajority m

abbrev pub IsExpr : List ℕ → ExprTree → Part
IsExpr text (fact at told) = keyword_at (fact_word told) at
IsExpr text (name at n) = name_at text n at
IsExpr text (sum at e axis) = keyword_at keywords.Sum at ▸ open_mark ▸ IsExpr text e ▸ comma ▸ keyword (axis_word axis) ▸ close_mark
IsExpr text (pair at pairing l r) = keyword_at (pairing_word pairing) at ▸ open_mark ▸ IsExpr text l ▸ comma ▸ IsExpr text r ▸ close_mark
IsExpr text (split at s v m without j) = keyword_at keywords.Split at ▸ open_mark ▸ IsExpr text s ▸ comma ▸ IsExpr text v ▸ comma ▸ keyword (method_word m) ▸ IsMajority j ▸ close_mark
IsExpr text (split at s v m (atleast e) j) = keyword_at keywords.Split at ▸ open_mark ▸ IsExpr text s ▸ comma ▸ IsExpr text v ▸ comma ▸ keyword (method_word m)
    ▸ comma ▸ keyword keywords.Atleast ▸ IsExpr text e ▸ IsMajority j ▸ close_mark
IsExpr text (grow at s v m e cap j) = keyword_at keywords.Grow at ▸ open_mark ▸ IsExpr text s ▸ comma ▸ IsExpr text v ▸ comma ▸ keyword (method_word m)
    ▸ comma ▸ IsExpr text e ▸ comma ▸ number cap ▸ IsRefusal j ▸ close_mark

abbrev pub IsStage : List ℕ → StageTree → Part
IsStage text s = keyword keywords.Stage ▸ name_at text s.name s.at ▸ equals ▸ IsExpr text s.expr ▸ semicolon

abbrev pub AreStages : List ℕ → List StageTree → Part
AreStages text [] = empty
AreStages text (s ∷ ss) = IsStage text s ▸ AreStages text ss

-- ---- books

abbrev pub IsCondition : Cond → Part
IsCondition (conditions.Valid share per) = keyword keywords.Valid ▸ keyword keywords.At ▸ keyword keywords.Least ▸ number share ▸ keyword keywords.Per ▸ token (kinds.Number per)
IsCondition (conditions.Winners least) = keyword keywords.Winners ▸ keyword keywords.At ▸ keyword keywords.Least ▸ token (kinds.Number least)
IsCondition conditions.Minority = keyword keywords.Minority
IsCondition conditions.All = keyword keywords.All

abbrev pub AreMore : List Cond → Part
AreMore [] = empty
AreMore (c ∷ cs) = keyword keywords.Or ▸ IsCondition c ▸ AreMore cs

-- conditions with `or` between them
abbrev pub AreConditions : List Cond → Part
AreConditions [] = none
AreConditions (c ∷ cs) = IsCondition c ▸ AreMore cs

-- what stands before the stages
pub record HeadTree : Type 0 where
  pub version : Number
  pub law : List ℕ
  pub house : Number
  pub eligible : List Cond

abbrev pub IsHead : List ℕ → HeadTree → Part
IsHead text h = keyword keywords.Rulebook ▸ number h.version ▸ semicolon ▸ keyword keywords.Law ▸ quoted text h.law ▸ semicolon
    ▸ keyword keywords.House ▸ number h.house ▸ semicolon ▸ keyword keywords.Eligible ▸ AreConditions h.eligible ▸ semicolon

abbrev pub IsBase : List ℕ → Base → ℕ → Part
IsBase text bases.Winners at = keyword_at keywords.Winners at
IsBase text (bases.Stage n) at = name_at text n at

-- the word vacate, if it is there
abbrev pub IsVacate : List ℕ → Option ℕ → Part
IsVacate text None = empty
IsVacate text (Some at) = name_at text (codes "vacate") at

abbrev pub IsLast : List ℕ → LastClause → Part
IsLast text l = keyword keywords.Seats ▸ IsBase text l.base l.at ▸ keyword (seating_word l.seating) ▸ IsVacate text l.vacate ▸ semicolon

abbrev pub head_of : BookTree → HeadTree
head_of b = record { version = b.version; law = b.law; house = b.house; eligible = b.eligible }

abbrev pub IsBook : List ℕ → BookTree → Part
IsBook text b = IsHead text (head_of b) ▸ AreStages text b.stages ▸ IsLast text b.last
