-- Which fault tokens have, if they are no book within the limits (docs/language.md, section 2).
use Rattle.std.specs.Prelude.{◌≡◌, ℕ, zero, suc, ◌+◌, ◌≤◌, Bool, true, false, List, [], ◌∷◌, ◌++◌, length, is_some, ◌⊎◌, IsTrue}
use Rattle.sl_base_quotients.specs.declared.method.Method.{Method}
use Rattle.sl_lex.specs.declared.keyword.Keyword.TheVariants as keywords
use Rattle.sl_lex.specs.declared.token.Kind.{Kind}
use Rattle.sl_lex.specs.declared.token.Token.{Token}
use Rattle.sl_law_meaning.specs.book.Trees.{ExprTree, StageTree, BookTree}
use Rattle.sl_law_meaning.specs.book.Limits.{parts_of}
use Rattle.sl_parse.specs.declared.fault.Cause.{Cause}
use Rattle.sl_parse.specs.declared.fault.Cause.TheVariants.{Expected, TooDeep, TooManyStages, After}
use Rattle.sl_parse.specs.declared.form.Form.{Form}
use Rattle.sl_parse.specs.declared.form.Form.TheVariants as forms
use Rattle.sl_parse.specs.Words.{method_word, first_kind, form_of}
use Rattle.sl_parse.specs.Grammar.{◌▸◌, Part, token, keyword, name_at, equals, comma, open_mark, IsExpr, AreStages, HeadTree, IsHead, IsBook}

abbrev pub IsWhole : List ℕ → List Token → Type 0
IsWhole text tokens = (b : BookTree) × IsBook text b tokens []

-- Some more tokens, whatever they are, make it a book. The limits play no part.
abbrev pub IsPrefix : List ℕ → List Token → Type 0
IsPrefix text front = (more : List Token) × IsWhole text (front ++ more)

abbrev pub Begins : Part → List Token → Type 0
Begins p here = (after : List Token) × p here after

-- the tokens with which an expression begins
abbrev pub begins_expr : Kind → Bool
begins_expr k = is_some (form_of k)

abbrev pub BeginsExpr : List Token → Type 0
BeginsExpr here = (t : Token) × (rest : List Token) × (here ≡ t ∷ rest) × IsTrue (begins_expr t.kind)

-- the forms in which two arguments stand side by side
abbrev pub has_two : Form → Bool
has_two (forms.Pair pairing) = true
has_two forms.Split = true
has_two forms.Grow = true
has_two _ = false

-- From the first token of an expression up to that of one of its arguments. `before` counts the expression itself, and all
-- that stand in the arguments before this one.
pub data ToArgument (text : List ℕ) (before : ℕ) (here there : List Token) : Type 0 where
  summed : before ≡ 1 → (keyword keywords.Sum ▸ open_mark) here there → ToArgument text before here there
  left : (form : Form) → IsTrue (has_two form) → before ≡ 1 → (token (first_kind form) ▸ open_mark) here there → ToArgument text before here there
  right : (form : Form) (l : ExprTree) → IsTrue (has_two form) → before ≡ 1 + parts_of l → (token (first_kind form) ▸ open_mark ▸ IsExpr text l ▸ comma) here there → ToArgument text before here there
  at_least : (s v : ExprTree) (m : Method) → before ≡ 1 + parts_of s + parts_of v
      → (keyword keywords.Split ▸ open_mark ▸ IsExpr text s ▸ comma ▸ IsExpr text v ▸ comma ▸ keyword (method_word m) ▸ comma ▸ keyword keywords.Atleast) here there → ToArgument text before here there
  grown_from : (s v : ExprTree) (m : Method) → before ≡ 1 + parts_of s + parts_of v
      → (keyword keywords.Grow ▸ open_mark ▸ IsExpr text s ▸ comma ▸ IsExpr text v ▸ comma ▸ keyword (method_word m) ▸ comma) here there → ToArgument text before here there

-- From the first token of an expression up to that of one inside it, so many levels below, with so many begun before it.
abbrev pub ToExpr : List ℕ → (levels before : ℕ) → Part
ToExpr text zero before here there = (before ≡ 0) × (here ≡ there)
ToExpr text (suc levels) before here there = (m : ℕ) × (k : ℕ) × (before ≡ m + k) × (ToArgument text m ▸ ToExpr text levels k) here there

-- from the first token of a book up to that after so many stages
abbrev pub PastStages : List ℕ → ℕ → Part
PastStages text n here there = (h : HeadTree) × (ss : List StageTree) × (length ss ≡ n) × (IsHead text h ▸ AreStages text ss) here there

-- from the first token of a stage up to that of an expression in it
abbrev pub InStage : List ℕ → (levels before : ℕ) → Part
InStage text levels before here there = (name : List ℕ) × (at : ℕ) × (keyword keywords.Stage ▸ name_at text name at ▸ equals ▸ ToExpr text levels before) here there

-- how many levels and expressions a stage may have, and how many stages a book
pub record Limits : Type 0 where
  pub depth : ℕ
  pub parts : ℕ
  pub stages : ℕ

-- The tokens are front and then rest, and the fault stands between the two.
abbrev pub StandsAt : List ℕ → Limits → Cause → List Token → List Token → Type 0
StandsAt text limits Expected front [] = IsPrefix text front × (IsWhole text front → ⊥)
StandsAt text limits Expected front (t ∷ rest) = IsPrefix text front × (IsWhole text front → ⊥) × (IsPrefix text (front ++ t ∷ []) → ⊥)
StandsAt text limits TooDeep front rest = (n : ℕ) × (levels : ℕ) × (before : ℕ) × (PastStages text n ▸ InStage text levels before) (front ++ rest) rest
    × BeginsExpr rest × ((levels ≡ limits.depth) ⊎ (before ≡ limits.parts))
StandsAt text limits TooManyStages front rest = PastStages text limits.stages (front ++ rest) rest × Begins (keyword keywords.Stage) rest
StandsAt text limits After front [] = ⊥
StandsAt text limits After front (t ∷ rest) = IsWhole text front

-- The fault of the tokens: no other stands before it.
pub record IsFault (text : List ℕ) (limits : Limits) (tokens : List Token) (cause : Cause) (rest : List Token) : Type 0 where
  pub front : List Token
  pub parts : tokens ≡ front ++ rest
  pub stands : StandsAt text limits cause front rest
  pub least : (other : Cause) (before behind : List Token) → tokens ≡ before ++ behind → StandsAt text limits other before behind → length front ≤ length before
