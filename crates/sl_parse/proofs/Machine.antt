-- A machine that reads a token at a time, and holds what is still to come and how many expressions the stage has room for.
-- It knows nothing of trees.
use Rattle.std.proofs.Common.{◌≡◌, ℕ, zero, suc, Bool, true, cond, List, [], ◌∷◌, ◌++◌, Option, Some, None, Ok, Err, refl}
use Rattle.std.specs.Prelude.{is_some}
use Rattle.sl_lex.specs.declared.keyword.Keyword.TheVariants as keywords
use Rattle.sl_lex.specs.declared.token.Mark.TheVariants as marks
use Rattle.sl_lex.specs.declared.token.Kind.{Kind}
use Rattle.sl_lex.specs.declared.token.Kind.TheVariants as kinds
use Rattle.sl_lex.specs.declared.token.Token.{Token}
use Rattle.sl_parse.specs.declared.fault.Cause.{Cause}
use Rattle.sl_parse.specs.declared.fault.Cause.TheVariants.{Expected, TooDeep, TooManyStages, After}
use Rattle.sl_parse.specs.Faults.{Limits, begins_expr}
use Rattle.sl_parse.specs.declared.form.Form.{Form}
use Rattle.sl_parse.specs.declared.form.Form.TheVariants as forms
use Rattle.sl_parse.specs.Words.{same_kind, form_of}
use Rattle.sl_parse.specs.inner.Reading.{Read, this, number_in, name_in, vacate_in, quoted_in, axis_in, method_in, preference_in, base_in, seating_in}

-- what is to come: a token that a test takes (and one that it does take), or a part whose form its first token tells
pub data Sym : Type 0 where
  one_of : (test : Token → Bool) → (t : Token) → test t ≡ true → Sym
  expr : ℕ → Sym
  condition : Sym
  or_more : Sym
  after_method : ℕ → Sym
  clause : ℕ → Sym
  majority : Sym
  refusal : Sym
  vacate : Sym
  stages : ℕ → Sym

-- a token of a kind
abbrev pub made : Kind → Token
made k = record { kind = k; start = 0; end = 0 }

abbrev pub tok : (k : Kind) → is_some (this k (made k)) ≡ true → Sym
tok k e = one_of (λ t. is_some (this k t)) (made k) e

abbrev pub some_of : {A : Type 0} (test : Token → Option A) (k : Kind) → is_some (test (made k)) ≡ true → Sym
some_of test k e = one_of (λ t. is_some (test t)) (made k) e

abbrev pub semicolon_sym : Sym
semicolon_sym = tok (kinds.Mark marks.Semicolon) refl

abbrev pub comma_sym : Sym
comma_sym = tok (kinds.Mark marks.Comma) refl

abbrev pub open_sym : Sym
open_sym = tok (kinds.Mark marks.Open) refl

abbrev pub close_sym : Sym
close_sym = tok (kinds.Mark marks.Close) refl

abbrev pub equals_sym : Sym
equals_sym = tok (kinds.Mark marks.Equals) refl

abbrev pub name_sym : List ℕ → Sym
name_sym text = some_of (name_in text) kinds.Name refl

abbrev pub number_sym : Sym
number_sym = some_of number_in (kinds.Number 0) refl

abbrev pub quoted_sym : List ℕ → Sym
quoted_sym text = some_of (quoted_in text) kinds.Text refl

abbrev pub axis_sym : Sym
axis_sym = some_of axis_in (kinds.Keyword keywords.Party) refl

abbrev pub method_sym : Sym
method_sym = some_of method_in (kinds.Keyword keywords.Adams) refl

abbrev pub preference_sym : Sym
preference_sym = some_of preference_in (kinds.Keyword keywords.Refuse) refl

abbrev pub seating_sym : Sym
seating_sym = some_of seating_in (kinds.Keyword keywords.Keep) refl

-- what takes the place of a part, with the room that is left then
pub data Move : Type 0 where
  goes : List Sym → ℕ → Move
  refused : Move
  over : Cause → Move

abbrev pub expr_parts : ℕ → ℕ → Option Form → Move
expr_parts d p (Some (forms.Fact told)) = goes [] p
expr_parts d p (Some forms.Name) = goes [] p
expr_parts d p (Some forms.Sum) = goes (open_sym ∷ expr d ∷ comma_sym ∷ axis_sym ∷ close_sym ∷ []) p
expr_parts d p (Some (forms.Pair pairing)) = goes (open_sym ∷ expr d ∷ comma_sym ∷ expr d ∷ close_sym ∷ []) p
expr_parts d p (Some forms.Split) = goes (open_sym ∷ expr d ∷ comma_sym ∷ expr d ∷ comma_sym ∷ method_sym ∷ after_method d ∷ []) p
expr_parts d p (Some forms.Grow) = goes (open_sym ∷ expr d ∷ comma_sym ∷ expr d ∷ comma_sym ∷ method_sym ∷ comma_sym ∷ expr d ∷ comma_sym ∷ number_sym ∷ refusal ∷ []) p
expr_parts d p None = refused

abbrev pub condition_parts : ℕ → Kind → Move
condition_parts p (kinds.Keyword keywords.Valid) = goes (tok (kinds.Keyword keywords.At) refl ∷ tok (kinds.Keyword keywords.Least) refl ∷ number_sym ∷ tok (kinds.Keyword keywords.Per) refl ∷ number_sym ∷ []) p
condition_parts p (kinds.Keyword keywords.Winners) = goes (tok (kinds.Keyword keywords.At) refl ∷ tok (kinds.Keyword keywords.Least) refl ∷ number_sym ∷ []) p
condition_parts p (kinds.Keyword keywords.Minority) = goes [] p
condition_parts p (kinds.Keyword keywords.All) = goes [] p
condition_parts p _ = refused

-- where no expression may begin
abbrev pub full : Token → Move
full t = cond (begins_expr t.kind) (over TooDeep) refused

-- a token with which the part ends, or it doesn't go on
abbrev pub ends_by : Kind → ℕ → Token → Move
ends_by k p t = cond (is_some (this k t)) (goes [] p) refused

-- what is to come, and the room
abbrev pub Pending : Type 0
Pending = List Sym × ℕ

abbrev pub scan_move : Move → (List Sym → ℕ → Read (Unit {0})) → List Token → Read (Unit {0})
scan_move (goes ss p) f here = f ss p
scan_move refused f here = Err (Expected, here)
scan_move (over c) f here = Err (c, here)

abbrev pub run_move : Move → (List Sym → ℕ → Option Pending) → Option Pending
run_move (goes ss p) f = f ss p
run_move refused f = None
run_move (over c) f = None

module _ (text : List ℕ) (l : Limits) where
  -- what takes the place of a part, once its first token is seen
  abbrev pub next : Sym → ℕ → Token → Move
  next (one_of test k e) p t = cond (test t) (goes [] p) refused
  next (expr zero) p t = full t
  next (expr (suc d)) zero t = full t
  next (expr (suc d)) (suc p) t = expr_parts d p (form_of t.kind)
  next condition p t = condition_parts p t.kind
  next or_more p t = cond (same_kind t.kind (kinds.Keyword keywords.Or)) (goes (condition ∷ or_more ∷ []) p) (ends_by (kinds.Mark marks.Semicolon) p t)
  next (after_method d) p t = cond (same_kind t.kind (kinds.Mark marks.Comma)) (goes (clause d ∷ []) p) (ends_by (kinds.Mark marks.Close) p t)
  next (clause d) p t = cond (same_kind t.kind (kinds.Keyword keywords.Atleast)) (goes (expr d ∷ majority ∷ []) p)
      (cond (is_some (this (kinds.Keyword keywords.Majority) t)) (goes (preference_sym ∷ close_sym ∷ []) p) refused)
  next majority p t = cond (same_kind t.kind (kinds.Mark marks.Comma)) (goes (tok (kinds.Keyword keywords.Majority) refl ∷ preference_sym ∷ close_sym ∷ []) p) (ends_by (kinds.Mark marks.Close) p t)
  next refusal p t = cond (same_kind t.kind (kinds.Mark marks.Comma)) (goes (tok (kinds.Keyword keywords.Majority) refl ∷ tok (kinds.Keyword keywords.Refuse) refl ∷ close_sym ∷ []) p)
      (ends_by (kinds.Mark marks.Close) p t)
  next vacate p t = cond (is_some (vacate_in text t)) (goes (semicolon_sym ∷ []) p) (ends_by (kinds.Mark marks.Semicolon) p t)
  next (stages zero) p t = cond (same_kind t.kind (kinds.Keyword keywords.Stage)) (over TooManyStages) (ends_by (kinds.Keyword keywords.Seats) l.parts t)
  next (stages (suc n)) p t = cond (same_kind t.kind (kinds.Keyword keywords.Stage)) (goes (name_sym text ∷ equals_sym ∷ expr l.depth ∷ semicolon_sym ∷ stages n ∷ []) l.parts)
      (ends_by (kinds.Keyword keywords.Seats) l.parts t)

  abbrev pub base_sym : Sym
  base_sym = some_of (base_in text) (kinds.Keyword keywords.Winners) refl

  abbrev pub head_syms : List Sym
  head_syms = tok (kinds.Keyword keywords.Rulebook) refl ∷ number_sym ∷ semicolon_sym ∷ tok (kinds.Keyword keywords.Law) refl ∷ quoted_sym text ∷ semicolon_sym
      ∷ tok (kinds.Keyword keywords.House) refl ∷ number_sym ∷ semicolon_sym ∷ tok (kinds.Keyword keywords.Eligible) refl ∷ condition ∷ or_more ∷ []

  abbrev pub last_syms : List Sym
  last_syms = base_sym ∷ seating_sym ∷ vacate ∷ []

  abbrev pub start : List Sym
  start = head_syms ++ stages l.stages ∷ last_syms

  -- where the machine stops, and why
  unfoldable pub scan : List Sym → ℕ → List Token → Read (Unit {0})
  scan [] p [] = Ok tt
  scan [] p (t ∷ rest) = Err (After, t ∷ rest)
  scan (s ∷ ss) p [] = Err (Expected, [])
  scan (s ∷ ss) p (t ∷ rest) = scan_move (next s p t) (λ parts q. scan (parts ++ ss) q rest) (t ∷ rest)

  -- what is to come after all of these tokens
  unfoldable pub run : List Sym → ℕ → List Token → Option Pending
  run ss p [] = Some (ss, p)
  run [] p (t ∷ rest) = None
  run (s ∷ ss) p (t ∷ rest) = run_move (next s p t) (λ parts q. run (parts ++ ss) q rest)
