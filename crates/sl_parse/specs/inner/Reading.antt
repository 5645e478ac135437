-- Reading from the front, as the parser does: what is read with the tokens after it, or why and where it stops.
use Rattle.std.specs.Prelude.{◌≡◌, ℕ, zero, suc, ◌+◌, ◌-◌, Bool, false, ◌&&◌, List, [], ◌∷◌, length, Option, Some, None, Result, Ok, Err, if◌then◌else◌, drop, slice_range, codes}
use Rattle.std.specs.Str.{bytes_eq}
use Rattle.sl_base_quotients.specs.declared.method.Method.{Method}
use Rattle.sl_lex.specs.declared.keyword.Keyword.{Keyword}
use Rattle.sl_lex.specs.declared.keyword.Keyword.TheVariants as keywords
use Rattle.sl_lex.specs.declared.token.Mark.TheVariants as marks
use Rattle.sl_lex.specs.declared.token.Kind.{Kind}
use Rattle.sl_lex.specs.declared.token.Kind.TheVariants as kinds
use Rattle.sl_lex.specs.declared.token.Token.{Token}
use Rattle.sl_parse.specs.Spans.{bytes_of}
use Rattle.sl_parse.specs.declared.form.Form.{Form}
use Rattle.sl_parse.specs.declared.form.Form.TheVariants as forms
use Rattle.sl_parse.specs.Words.{same_kind, axis_of, method_of, seating_of, form_of}
use Rattle.sl_law_meaning.specs.declared.book.Axis.{Axis}
use Rattle.sl_law_meaning.specs.declared.book.Pairing.{Pairing}
use Rattle.sl_law_meaning.specs.declared.book.Majority.{Majority}
use Rattle.sl_law_meaning.specs.declared.book.Majority.TheVariants as majorities
use Rattle.sl_law_meaning.specs.declared.book.Number.{Number}
use Rattle.sl_law_meaning.specs.declared.book.Cond.{Cond}
use Rattle.sl_law_meaning.specs.declared.book.Cond.TheVariants as conditions
use Rattle.sl_law_meaning.specs.declared.book.Base.{Base}
use Rattle.sl_law_meaning.specs.declared.book.Base.TheVariants as bases
use Rattle.sl_law_meaning.specs.declared.book.Seating.{Seating}
use Rattle.sl_law_meaning.specs.declared.book.LastClause.{LastClause}
use Rattle.sl_law_meaning.specs.book.Trees.{ExprTree, MinimaTree, fact, name, sum, pair, split, without, atleast, grow, StageTree, BookTree}
use Rattle.sl_parse.specs.declared.fault.Cause.{Cause}
use Rattle.sl_parse.specs.declared.fault.Cause.TheVariants.{Expected, TooDeep, TooManyStages, After}
use Rattle.sl_parse.specs.declared.fault.Stop.{Stop}
use Rattle.sl_parse.specs.declared.fault.Stop.TheVariants as stops
use Rattle.sl_parse.specs.Grammar.{HeadTree}
use Rattle.sl_parse.specs.Faults.{Limits, begins_expr}

abbrev pub Read : Type 0 → Type 0
Read A = Result A (Cause × List Token)

infixl 10 ◌>>=◌
abbrev pub ◌>>=◌ : {A B : Type 0} → Read A → (A → Read B) → Read B
(Ok x) >>= f = f x
(Err e) >>= f = Err e

-- What a function over all the tokens returned, seen by view, is what reading gives, unless memory ran out.
abbrev pub Fails : {Y : Type 0} → List Token → Stop → Read Y → Type 0
Fails all stops.NoMemory read = Unit {0}
Fails all (stops.At cause at) read = read ≡ Err (cause, drop at all)

abbrev pub Gives : {X Y : Type 0} → List Token → (X → Y) → Result X Stop → Read Y → Type 0
Gives all view (Ok x) read = read ≡ Ok (view x)
Gives all view (Err e) read = Fails all e read

-- ---- one token

abbrev pub found_or : {A : Type 0} → Option A → Token → List Token → Read (A × List Token)
found_or None t rest = Err (Expected, t ∷ rest)
found_or (Some x) t rest = Ok (x, rest)

-- a token that the test takes, as what the test makes of it
abbrev pub one : {A : Type 0} → (Token → Option A) → List Token → Read (A × List Token)
one test [] = Err (Expected, [])
one test (t ∷ rest) = found_or (test t) t rest

abbrev pub this : Kind → Token → Option (Unit {0})
this k t = if same_kind t.kind k then Some tt else None

abbrev pub number_of : Kind → ℕ → Option Number
number_of (kinds.Number n) at = Some (record { value = n; at = at })
number_of _ at = None

abbrev pub number_in : Token → Option Number
number_in t = number_of t.kind t.start

abbrev pub name_in : List ℕ → Token → Option (List ℕ × ℕ)
name_in text t = if same_kind t.kind kinds.Name then Some (bytes_of text t, t.start) else None

abbrev pub vacate_in : List ℕ → Token → Option ℕ
vacate_in text t = if same_kind t.kind kinds.Name && bytes_eq (bytes_of text t) (codes "vacate") then Some t.start else None

abbrev pub quoted_in : List ℕ → Token → Option (List ℕ)
quoted_in text t = if same_kind t.kind kinds.Text then Some (slice_range text (t.start + 1) (t.end - 1)) else None

abbrev pub axis_in : Token → Option Axis
axis_in t = axis_of t.kind

abbrev pub seating_in : Token → Option Seating
seating_in t = seating_of t.kind

abbrev pub method_in : Token → Option Method
method_in t = method_of t.kind

abbrev pub preference_of : Kind → Option Majority
preference_of (kinds.Keyword keywords.Prefer) = Some majorities.Prefer
preference_of (kinds.Keyword keywords.Refuse) = Some majorities.Refuse
preference_of _ = None

abbrev pub preference_in : Token → Option Majority
preference_in t = preference_of t.kind

abbrev pub base_of : List ℕ → Token → Kind → Option (Base × ℕ)
base_of text t (kinds.Keyword keywords.Winners) = Some (bases.Winners, t.start)
base_of text t kinds.Name = Some (bases.Stage (bytes_of text t), t.start)
base_of text t _ = None

abbrev pub base_in : List ℕ → Token → Option (Base × ℕ)
base_in text t = base_of text t t.kind

unfoldable pub taken : Kind → List Token → Read (List Token)
taken k ts = do
  x ← one (this k) ts
  Ok x.1

abbrev pub is_next : Kind → List Token → Bool
is_next k [] = false
is_next k (t ∷ rest) = same_kind t.kind k

-- a comma, and then that keyword
abbrev pub is_clause : Keyword → List Token → Bool
is_clause k [] = false
is_clause k (t ∷ rest) = same_kind t.kind (kinds.Mark marks.Comma) && is_next (kinds.Keyword k) rest

-- ---- expressions, with the number of expressions that the stage may still have

abbrev pub ReadExpr : Type 0
ReadExpr = Read (ExprTree × ℕ × List Token)

abbrev pub Reader : Type 0
Reader = ℕ → List Token → ReadExpr

unfoldable pub read_sum : Reader → ℕ → ℕ → List Token → ReadExpr
read_sum argument at parts ts = do
  a ← taken (kinds.Mark marks.Open) ts
  e ← argument parts a
  b ← taken (kinds.Mark marks.Comma) e.2
  s ← one axis_in b
  c ← taken (kinds.Mark marks.Close) s.1
  Ok (sum at e.0 s.0, e.1, c)

-- two arguments, up to the end of the second
unfoldable pub read_two : Reader → ℕ → List Token → Read ((ExprTree × ExprTree) × ℕ × List Token)
read_two argument parts ts = do
  a ← taken (kinds.Mark marks.Open) ts
  l ← argument parts a
  b ← taken (kinds.Mark marks.Comma) l.2
  r ← argument l.1 b
  Ok ((l.0, r.0), r.1, r.2)

unfoldable pub read_pair : Reader → Pairing → ℕ → ℕ → List Token → ReadExpr
read_pair argument pairing at parts ts = do
  x ← read_two argument parts ts
  c ← taken (kinds.Mark marks.Close) x.2
  Ok (pair at pairing x.0.0 x.0.1, x.1, c)

-- what is distributed, by which votes and by which method
abbrev pub DivisionTree : Type 0
DivisionTree = ExprTree × ExprTree × Method

unfoldable pub read_division : Reader → ℕ → List Token → Read (DivisionTree × ℕ × List Token)
read_division argument parts ts = do
  x ← read_two argument parts ts
  b ← taken (kinds.Mark marks.Comma) x.2
  m ← one method_in b
  Ok ((x.0.0, x.0.1, m.0), x.1, m.1)

unfoldable pub read_minima : Reader → ℕ → List Token → Read (MinimaTree × ℕ × List Token)
read_minima argument parts ts = if is_clause keywords.Atleast ts then (do
  a ← taken (kinds.Mark marks.Comma) ts
  b ← taken (kinds.Keyword keywords.Atleast) a
  e ← argument parts b
  Ok (atleast e.0, e.1, e.2)) else Ok (without, parts, ts)

unfoldable pub read_majority : List Token → Read (Majority × List Token)
read_majority ts = if is_next (kinds.Mark marks.Comma) ts then (do
  a ← taken (kinds.Mark marks.Comma) ts
  b ← taken (kinds.Keyword keywords.Majority) a
  one preference_in b) else Ok (majorities.Free, ts)

unfoldable pub read_refusal : List Token → Read (Majority × List Token)
read_refusal ts = if is_next (kinds.Mark marks.Comma) ts then (do
  a ← taken (kinds.Mark marks.Comma) ts
  b ← taken (kinds.Keyword keywords.Majority) a
  c ← taken (kinds.Keyword keywords.Refuse) b
  Ok (majorities.Refuse, c)) else Ok (majorities.Free, ts)

unfoldable pub read_split : Reader → ℕ → ℕ → List Token → ReadExpr
read_split argument at parts ts = do
  d ← read_division argument parts ts
  m ← read_minima argument d.1 d.2
  j ← read_majority m.2
  c ← taken (kinds.Mark marks.Close) j.1
  Ok (split at d.0.0 d.0.1 d.0.2 m.0 j.0, m.1, c)

unfoldable pub read_grow : Reader → ℕ → ℕ → List Token → ReadExpr
read_grow argument at parts ts = do
  d ← read_division argument parts ts
  a ← taken (kinds.Mark marks.Comma) d.2
  e ← argument d.1 a
  b ← taken (kinds.Mark marks.Comma) e.2
  n ← one number_in b
  j ← read_refusal n.1
  c ← taken (kinds.Mark marks.Close) j.1
  Ok (grow at d.0.0 d.0.1 d.0.2 e.0 n.0 j.0, e.1, c)

-- an expression of that form, after its first token
unfoldable pub read_form : List ℕ → Reader → ℕ → Option Form → Token → List Token → ReadExpr
read_form text argument parts (Some (forms.Fact told)) t rest = Ok (fact t.start told, parts, rest)
read_form text argument parts (Some forms.Name) t rest = Ok (name t.start (bytes_of text t), parts, rest)
read_form text argument parts (Some forms.Sum) t rest = read_sum argument t.start parts rest
read_form text argument parts (Some (forms.Pair pairing)) t rest = read_pair argument pairing t.start parts rest
read_form text argument parts (Some forms.Split) t rest = read_split argument t.start parts rest
read_form text argument parts (Some forms.Grow) t rest = read_grow argument t.start parts rest
read_form text argument parts None t rest = Err (Expected, t ∷ rest)

unfoldable pub read_node : List ℕ → Reader → ℕ → List Token → ReadExpr
read_node text argument parts [] = Err (Expected, [])
read_node text argument parts (t ∷ rest) = read_form text argument parts (form_of t.kind) t rest

-- where no expression may begin
unfoldable pub no_room : List Token → ReadExpr
no_room [] = Err (Expected, [])
no_room (t ∷ rest) = if begins_expr t.kind then Err (TooDeep, t ∷ rest) else Err (Expected, t ∷ rest)

unfoldable pub read_expr : List ℕ → (levels parts : ℕ) → List Token → ReadExpr
read_expr text zero parts ts = no_room ts
read_expr text (suc levels) zero ts = no_room ts
read_expr text (suc levels) (suc parts) ts = read_node text (read_expr text levels) parts ts

-- ---- stages

unfoldable pub read_stage : List ℕ → Limits → List Token → Read (StageTree × List Token)
read_stage text limits ts = do
  a ← taken (kinds.Keyword keywords.Stage) ts
  n ← one (name_in text) a
  b ← taken (kinds.Mark marks.Equals) n.1
  e ← read_expr text limits.depth limits.parts b
  c ← taken (kinds.Mark marks.Semicolon) e.2
  Ok (record { name = n.0.0; at = n.0.1; expr = e.0 }, c)

-- so many stages at most
unfoldable pub read_stages : List ℕ → Limits → ℕ → List Token → Read (List StageTree × List Token)
read_stages text limits zero ts = if is_next (kinds.Keyword keywords.Stage) ts then Err (TooManyStages, ts) else Ok ([], ts)
read_stages text limits (suc n) ts = if is_next (kinds.Keyword keywords.Stage) ts then (do
  s ← read_stage text limits ts
  ss ← read_stages text limits n s.1
  Ok (s.0 ∷ ss.0, ss.1)) else Ok ([], ts)

-- ---- what stands before the stages, and after them

unfoldable pub read_valid : List Token → Read (Cond × List Token)
read_valid ts = do
  a ← taken (kinds.Keyword keywords.At) ts
  b ← taken (kinds.Keyword keywords.Least) a
  n ← one number_in b
  c ← taken (kinds.Keyword keywords.Per) n.1
  d ← one number_in c
  Ok (conditions.Valid n.0 d.0.value, d.1)

unfoldable pub read_winners : List Token → Read (Cond × List Token)
read_winners ts = do
  a ← taken (kinds.Keyword keywords.At) ts
  b ← taken (kinds.Keyword keywords.Least) a
  n ← one number_in b
  Ok (conditions.Winners n.0.value, n.1)

unfoldable pub read_condition_at : Kind → Token → List Token → Read (Cond × List Token)
read_condition_at (kinds.Keyword keywords.Valid) t rest = read_valid rest
read_condition_at (kinds.Keyword keywords.Winners) t rest = read_winners rest
read_condition_at (kinds.Keyword keywords.Minority) t rest = Ok (conditions.Minority, rest)
read_condition_at (kinds.Keyword keywords.All) t rest = Ok (conditions.All, rest)
read_condition_at _ t rest = Err (Expected, t ∷ rest)

unfoldable pub read_condition : List Token → Read (Cond × List Token)
read_condition [] = Err (Expected, [])
read_condition (t ∷ rest) = read_condition_at t.kind t rest

-- so many further conditions at most
unfoldable pub read_more : ℕ → List Token → Read (List Cond × List Token)
read_more zero ts = Ok ([], ts)
read_more (suc n) ts = if is_next (kinds.Keyword keywords.Or) ts then (do
  a ← taken (kinds.Keyword keywords.Or) ts
  c ← read_condition a
  cs ← read_more n c.1
  Ok (c.0 ∷ cs.0, cs.1)) else Ok ([], ts)

unfoldable pub read_conditions : List Token → Read (List Cond × List Token)
read_conditions ts = do
  c ← read_condition ts
  cs ← read_more (length c.1) c.1
  Ok (c.0 ∷ cs.0, cs.1)

unfoldable pub read_head : List ℕ → List Token → Read (HeadTree × List Token)
read_head text ts = do
  a ← taken (kinds.Keyword keywords.Rulebook) ts
  v ← one number_in a
  b ← taken (kinds.Mark marks.Semicolon) v.1
  c ← taken (kinds.Keyword keywords.Law) b
  l ← one (quoted_in text) c
  d ← taken (kinds.Mark marks.Semicolon) l.1
  e ← taken (kinds.Keyword keywords.House) d
  h ← one number_in e
  f ← taken (kinds.Mark marks.Semicolon) h.1
  g ← taken (kinds.Keyword keywords.Eligible) f
  cs ← read_conditions g
  i ← taken (kinds.Mark marks.Semicolon) cs.1
  Ok (record { version = v.0; law = l.0; house = h.0; eligible = cs.0 }, i)

abbrev pub vacate_or : Option ℕ → Token → List Token → Read (Option ℕ × List Token)
vacate_or None t rest = Ok (None, t ∷ rest)
vacate_or (Some at) t rest = Ok (Some at, rest)

unfoldable pub read_vacate : List ℕ → List Token → Read (Option ℕ × List Token)
read_vacate text [] = Ok (None, [])
read_vacate text (t ∷ rest) = vacate_or (vacate_in text t) t rest

unfoldable pub read_last : List ℕ → List Token → Read (LastClause × List Token)
read_last text ts = do
  a ← taken (kinds.Keyword keywords.Seats) ts
  b ← one (base_in text) a
  s ← one seating_in b.1
  v ← read_vacate text s.1
  c ← taken (kinds.Mark marks.Semicolon) v.1
  Ok (record { base = b.0.0; at = b.0.1; seating = s.0; vacate = v.0 }, c)

abbrev pub nothing_after : BookTree → List Token → Read BookTree
nothing_after b [] = Ok b
nothing_after b (t ∷ rest) = Err (After, t ∷ rest)

abbrev pub book_from : HeadTree → List StageTree → LastClause → BookTree
book_from h ss l = record { version = h.version; law = h.law; house = h.house; eligible = h.eligible; stages = ss; last = l }

unfoldable pub read_front : List ℕ → Limits → List Token → Read (BookTree × List Token)
read_front text limits ts = do
  h ← read_head text ts
  ss ← read_stages text limits limits.stages h.1
  l ← read_last text ss.1
  Ok (book_from h.0 ss.0 l.0, l.1)

unfoldable pub read_book : List ℕ → Limits → List Token → Read BookTree
read_book text limits ts = do
  b ← read_front text limits ts
  nothing_after b.0 b.1
