-- Two outputs of the same inputs are one, by the laws of the layers below.
use Rattle.std.proofs.Common.{◌≡◌, ◌≢◌, ℕ, List, [], length, ◌⊎◌, inl, inr, Option, Some, None, Ok, Err, Result, true, is_none, IsTrue, refl, sym, ◌∙◌, ap, subst, arith}
use Rattle.sl_laws.specs.Books.{law_text}
use Rattle.sl_lex.specs.declared.fault.LexFault.{LexFault}
use Rattle.sl_lex.specs.declared.token.Token.{Token}
use Rattle.sl_lex.specs.Tokens as lex
use Rattle.sl_parse.specs.declared.fault.ParseFault.{ParseFault}
use Rattle.sl_parse.specs.declared.fault.ParseFault.TheVariants as parse
use Rattle.sl_parse.specs.declared.fault.Cause.{Cause}
use Rattle.sl_parse.specs.declared.fault.Cause.TheVariants.{Expected, TooDeep, TooManyStages, After}
use Rattle.sl_parse.specs.Grammar.{IsBook}
use Rattle.sl_parse.specs.Faults.{IsFault}
use Rattle.sl_parse.specs.Parsing.{limits, offset, fault_at, IsFaultOf}
use Rattle.sl_returns.specs.declared.fault.ReturnsFault.{ReturnsFault}
use Rattle.sl_returns.specs.Returns.{records_in}
use Rattle.sl_law_meaning.specs.declared.check_fault.CheckFault.{CheckFault}
use Rattle.sl_law_meaning.specs.book.Trees.{BookTree}
use Rattle.sl_law_meaning.specs.book.Limits.{is_within_limits}
use Rattle.sl_law_meaning.specs.book.Typing.{check_fault, is_typed}
use Rattle.sl_law_meaning.specs.returns.Election.{Election}
use Rattle.sl_count_inputs.specs.declared.refusal.BookRefusal.{BookRefusal}
use Rattle.sl_count_inputs.specs.declared.refusal.BookRefusal.TheVariants.{UnknownLaw, TooLong, Tokens, Grammar, Test}
use Rattle.sl_count_inputs.specs.declared.refusal.ReturnsRefusal.{ReturnsRefusal}
use Rattle.sl_count_inputs.specs.declared.refusal.ReturnsRefusal.TheVariants as returns
use Rattle.sl_count_calls.specs.declared.report.Report.{Report}
use Rattle.sl_count_calls.specs.declared.report.Report.TheVariants.{Stage}
use Rattle.sl_count_inputs.specs.declared.status.Status.{Status}
use Rattle.sl_count_inputs.specs.declared.verdict.Verdict.{Verdict}
use Rattle.sl_count_inputs.specs.declared.verdict.Verdict.TheVariants.{Good, Refused}
use Rattle.sl_count_inputs.specs.Books.{BookInput, HasTokens, HasTree, library, text, IsTextVerdict, IsLawVerdict, IsBookVerdict, book_line}
use Rattle.sl_count_inputs.specs.Library.{unknown_law}
use Rattle.sl_count_inputs.specs.Returns.{IsReturnsVerdict}
use Rattle.sl_desk.specs.Checking.{IsCheck}
use Rattle.sl_count_calls.specs.Counting.{IsTreeOutput, IsCount}
use Rattle.sl_count_calls.specs.Showing.{IsNumbered, IsStage}
use Rattle.sl_count_inputs.specs.StageNames.{stage_number}
use Rattle.sl_desk.specs.Laws.{HasOneOutput, HasOneStage, HasOneCheck}
use Rattle.sl_returns.proofs.ReadElections.{read_is}
use Rattle.sl_count_calls.proofs.OneMeaning.{one_good_output}
use Rattle.sl_count_calls.specs.Reports.{IsReported}

-- what the layers below say
pub record LowerLaws : Type 0 where
  pub one_list : (source : List ℕ) (a b : List Token) → lex.AreTokens source a → lex.AreTokens source b → a ≡ b
  pub one_lex_fault : (source : List ℕ) (a b : LexFault) → lex.IsFault source a → lex.IsFault source b → a ≡ b
  pub no_fault_of_tokens : (source : List ℕ) (tokens : List Token) (fault : LexFault) → lex.AreTokens source tokens → lex.IsFault source fault → ⊥
  pub one_tree : (source : List ℕ) (tokens : List Token) (a b : BookTree) → IsBook source a tokens [] → IsBook source b tokens [] → a ≡ b
  pub one_parse_fault : (source : List ℕ) (tokens : List Token) (a b : Cause) (x y : List Token) → IsFault source limits tokens a x → IsFault source limits tokens b y → (a ≡ b) × (x ≡ y)
  pub tree_or_fault : (source : List ℕ) (tokens : List Token) (tree : BookTree) (cause : Cause) (rest : List Token)
      → IsBook source tree tokens [] → IsTrue (is_within_limits tree.stages) → IsFault source limits tokens cause rest → ⊥

-- a fault of the parser by its cause
record ByCause (source : List ℕ) (tokens : List Token) (fault : ParseFault) : Type 0 where
  cause : Cause
  rest : List Token
  is : IsFault source limits tokens cause rest
  same : fault ≡ fault_at cause (offset (length source) rest)

by_cause : (source : List ℕ) (tokens : List Token) (fault : ParseFault) → IsFaultOf source tokens fault → fault ≢ parse.NoMemory → ByCause source tokens fault
by_cause source tokens (parse.Expected at) h told = record { cause = Expected; rest = h.0; is = h.1; same = ap (λ n. parse.Expected n) h.2 }
by_cause source tokens (parse.TooDeep at) h told = record { cause = TooDeep; rest = h.0; is = h.1; same = ap (λ n. parse.TooDeep n) h.2 }
by_cause source tokens (parse.TooManyStages at) h told = record { cause = TooManyStages; rest = h.0; is = h.1; same = ap (λ n. parse.TooManyStages n) h.2 }
by_cause source tokens (parse.After at) h told = record { cause = After; rest = h.0; is = h.1; same = ap (λ n. parse.After n) h.2 }
by_cause source tokens parse.NoMemory h told = absurd (told refl)

some_or_none : {X : Type 0} (o : Option X) (x : X) → o ≡ None → o ≡ Some x → ⊥
some_or_none o x a b = cc

same_err : {X Y : Type 0} (r : Result X Y) (a b : Y) → r ≡ Err a → r ≡ Err b → a ≡ b
same_err r a b h k = cc

same_ok : {X Y : Type 0} (r : Result X Y) (a b : X) → r ≡ Ok a → r ≡ Ok b → a ≡ b
same_ok r a b h k = cc

ok_or_err : {X Y : Type 0} (r : Result X Y) (a : X) (b : Y) → r ≡ Ok a → r ≡ Err b → ⊥
ok_or_err r a b h k = cc

-- ---- a name of the library

no_law : (name : List ℕ) (v : Verdict BookTree BookRefusal) → IsLawVerdict name None v → (why : BookRefusal) × (v ≡ Refused why) × (book_line why ≡ unknown_law name)
no_law name (Refused (UnknownLaw unknown)) h = (UnknownLaw unknown, refl, ap unknown_law h)
no_law name (Refused TooLong) h = absurd h
no_law name (Refused (Tokens f)) h = absurd h
no_law name (Refused (Grammar f)) h = absurd h
no_law name (Refused (Test f)) h = absurd h
no_law name (Good tree) h = absurd h

-- two verdicts are one, or two refusals of one line
AreAlike : (v w : Verdict BookTree BookRefusal) → Type 0
AreAlike v w = (v ≡ w) ⊎ ((why : BookRefusal) × (reason : BookRefusal) × (v ≡ Refused why) × (w ≡ Refused reason) × (book_line why ≡ book_line reason))

-- ---- one output of a verdict

pub one_returns_verdict : (bytes : List ℕ) (a b : Verdict Election ReturnsRefusal) → IsReturnsVerdict bytes a → IsReturnsVerdict bytes b → a ≡ b
one_returns_verdict bytes (Refused returns.TooLong) (Refused returns.TooLong) h k = refl
one_returns_verdict bytes (Refused returns.TooLong) (Refused (returns.Records g)) h k = let fits = k.0 in absurd (omega arith)
one_returns_verdict bytes (Refused returns.TooLong) (Good e) h k = let fits = k.0 in absurd (omega arith)
one_returns_verdict bytes (Refused (returns.Records f)) (Refused returns.TooLong) h k = let fits = h.0 in absurd (omega arith)
one_returns_verdict bytes (Refused (returns.Records f)) (Refused (returns.Records g)) h k = ap (λ (x : ReturnsFault). Refused (returns.Records x)) (same_err _ f g h.1 k.1)
one_returns_verdict bytes (Refused (returns.Records f)) (Good e) h k = absurd (ok_or_err _ e f k.1 h.1)
one_returns_verdict bytes (Good d) (Refused returns.TooLong) h k = let fits = h.0 in absurd (omega arith)
one_returns_verdict bytes (Good d) (Refused (returns.Records g)) h k = absurd (ok_or_err _ d g h.1 k.1)
one_returns_verdict bytes (Good d) (Good e) h k = ap (λ (x : Election). Good x) (same_ok _ d e h.1 k.1)

-- a book that passes its tests is well formed
pub typed_tree : (tree : BookTree) → check_fault tree ≡ None → is_typed tree ≡ true
typed_tree tree h = ap is_none h

one_tree_output : (report : Report) (tree : BookTree) (bytes : List ℕ) (v : Verdict Election ReturnsRefusal) (a b : Status) (s t : List ℕ) → is_typed tree ≡ true → IsReturnsVerdict bytes v
    → IsTreeOutput (IsReported report) tree v a s → IsTreeOutput (IsReported report) tree v b t → (a ≡ b) × (s ≡ t)
one_tree_output report tree bytes (Refused why) a b s t typed is h k = (h.0 ∙ sym k.0, h.1 ∙ sym k.1)
one_tree_output report tree bytes (Good e) a b s t typed is h k = one_good_output report tree e typed (read_is (records_in bytes) e is.1) a b s t h k

-- a verdict of a book that is good is one of a well-formed tree
abbrev IsTypedVerdict : Verdict BookTree BookRefusal → Type 0
IsTypedVerdict (Refused why) = Unit {0}
IsTypedVerdict (Good tree) = is_typed tree ≡ true

typed_text : (source : List ℕ) (v : Verdict BookTree BookRefusal) → IsTextVerdict source v → IsTypedVerdict v
typed_text source (Refused why) h = tt
typed_text source (Good tree) h = typed_tree tree h.1

typed_law : (name : List ℕ) (o : Option (List ℕ)) (v : Verdict BookTree BookRefusal) → IsLawVerdict name o v → IsTypedVerdict v
typed_law name (Some source) v h = typed_text source v h
typed_law name None v h = subst IsTypedVerdict (sym (no_law name v h).1) tt

typed_book : (input : BookInput) (v : Verdict BookTree BookRefusal) → IsBookVerdict input v → IsTypedVerdict v
typed_book (text source) v h = typed_text source v h
typed_book (library name) v h = typed_law name (law_text name) v h

one_count : (report : Report) (v : Verdict BookTree BookRefusal) (bytes : List ℕ) (a b : Status) (s t : List ℕ) → IsTypedVerdict v → IsCount (IsReported report) v bytes a s → IsCount (IsReported report) v bytes b t → (a ≡ b) × (s ≡ t)
one_count report (Refused why) bytes a b s t typed h k = (h.0 ∙ sym k.0, h.1 ∙ sym k.1)
one_count report (Good tree) bytes a b s t typed h k =
    let same = one_returns_verdict bytes h.0 k.0 h.1 k.1 in
    one_tree_output report tree bytes h.0 a b s t typed h.1 h.2 (subst (λ (v : Verdict Election ReturnsRefusal). IsTreeOutput (IsReported report) tree v b t) (sym same) k.2)

one_numbered : (name : List ℕ) (tree : BookTree) (o : Option ℕ) (bytes : List ℕ) (a b : Status) (s t : List ℕ) → is_typed tree ≡ true
    → IsNumbered name tree o bytes a s → IsNumbered name tree o bytes b t → (a ≡ b) × (s ≡ t)
one_numbered name tree None bytes a b s t typed h k = (h.0 ∙ sym k.0, h.1 ∙ sym k.1)
one_numbered name tree (Some n) bytes a b s t typed h k = one_count (Stage n) (Good tree) bytes a b s t typed h k

one_shown : (name : List ℕ) (v : Verdict BookTree BookRefusal) (bytes : List ℕ) (a b : Status) (s t : List ℕ) → IsTypedVerdict v → IsStage name v bytes a s → IsStage name v bytes b t → (a ≡ b) × (s ≡ t)
one_shown name (Refused why) bytes a b s t typed h k = (h.0 ∙ sym k.0, h.1 ∙ sym k.1)
one_shown name (Good tree) bytes a b s t typed h k = one_numbered name tree (stage_number name tree) bytes a b s t typed h k

one_checked : (v : Verdict BookTree BookRefusal) (a b : Status) (s t : List ℕ) → IsCheck v a s → IsCheck v b t → (a ≡ b) × (s ≡ t)
one_checked (Refused why) a b s t h k = (h.0 ∙ sym k.0, h.1 ∙ sym k.1)
one_checked (Good tree) a b s t h k = (h.0 ∙ sym k.0, h.1 ∙ sym k.1)

-- two verdicts that are alike count alike, and check alike

counts_alike : (report : Report) (v w : Verdict BookTree BookRefusal) (bytes : List ℕ) (a b : Status) (s t : List ℕ) → IsTypedVerdict v → AreAlike v w → IsCount (IsReported report) v bytes a s → IsCount (IsReported report) w bytes b t
    → (a ≡ b) × (s ≡ t)
unfolding AreAlike
counts_alike report v w bytes a b s t typed (inl same) h k =
    one_count report v bytes a b s t typed h (subst (λ (x : Verdict BookTree BookRefusal). IsCount (IsReported report) x bytes b t) (sym same) k)
counts_alike report v w bytes a b s t typed (inr (why, reason, first, second, line)) h k =
    let c : IsCount (IsReported report) (Refused why) bytes a s = subst (λ (x : Verdict BookTree BookRefusal). IsCount (IsReported report) x bytes a s) first h in
    let d : IsCount (IsReported report) (Refused reason) bytes b t = subst (λ (x : Verdict BookTree BookRefusal). IsCount (IsReported report) x bytes b t) second k in
    (c.0 ∙ sym d.0, c.1 ∙ line ∙ sym d.1)

shows_alike : (name : List ℕ) (v w : Verdict BookTree BookRefusal) (bytes : List ℕ) (a b : Status) (s t : List ℕ) → IsTypedVerdict v → AreAlike v w → IsStage name v bytes a s → IsStage name w bytes b t
    → (a ≡ b) × (s ≡ t)
unfolding AreAlike
shows_alike name v w bytes a b s t typed (inl same) h k =
    one_shown name v bytes a b s t typed h (subst (λ (x : Verdict BookTree BookRefusal). IsStage name x bytes b t) (sym same) k)
shows_alike name v w bytes a b s t typed (inr (why, reason, first, second, line)) h k =
    let c : IsStage name (Refused why) bytes a s = subst (λ (x : Verdict BookTree BookRefusal). IsStage name x bytes a s) first h in
    let d : IsStage name (Refused reason) bytes b t = subst (λ (x : Verdict BookTree BookRefusal). IsStage name x bytes b t) second k in
    (c.0 ∙ sym d.0, c.1 ∙ line ∙ sym d.1)

checks_alike : (v w : Verdict BookTree BookRefusal) (a b : Status) (s t : List ℕ) → AreAlike v w → IsCheck v a s → IsCheck w b t → (a ≡ b) × (s ≡ t)
unfolding AreAlike
checks_alike v w a b s t (inl same) h k = one_checked v a b s t h (subst (λ (x : Verdict BookTree BookRefusal). IsCheck x b t) (sym same) k)
checks_alike v w a b s t (inr (why, reason, first, second, line)) h k =
    let c : IsCheck (Refused why) a s = subst (λ (x : Verdict BookTree BookRefusal). IsCheck x a s) first h in
    let d : IsCheck (Refused reason) b t = subst (λ (x : Verdict BookTree BookRefusal). IsCheck x b t) second k in
    (c.0 ∙ sym d.0, c.1 ∙ line ∙ sym d.1)

module _ (laws : LowerLaws) where
  -- ---- one verdict of a text

  one_tree : (source : List ℕ) (a b : BookTree) → HasTree source a → HasTree source b → a ≡ b
  one_tree source a b h k =
      laws.one_tree source h.tokens a b h.parsed (subst (λ (ts : List Token). IsBook source b ts []) (laws.one_list source k.tokens h.tokens k.lexed.lexed h.lexed.lexed) k.parsed)

  no_fault : (source : List ℕ) (tree : BookTree) (tokens : List Token) (f : ParseFault) → HasTree source tree → HasTokens source tokens
      → IsFaultOf source tokens f → f ≢ parse.NoMemory → ⊥
  no_fault source tree tokens f h lexed k told =
      let here : IsBook source tree tokens [] = subst (λ (ts : List Token). IsBook source tree ts []) (laws.one_list source h.tokens tokens h.lexed.lexed lexed.lexed) h.parsed in
      let c = by_cause source tokens f k told in
      laws.tree_or_fault source tokens tree c.cause c.rest here h.within c.is

  one_fault : (source : List ℕ) (x y : List Token) (f g : ParseFault) → HasTokens source x → HasTokens source y → IsFaultOf source x f → IsFaultOf source y g
      → f ≢ parse.NoMemory → g ≢ parse.NoMemory → f ≡ g
  one_fault source x y f g lexed also h k told untold =
      let same = laws.one_list source y x also.lexed lexed.lexed in
      let c = by_cause source x f h told in
      let d = by_cause source x g (subst (λ (ts : List Token). IsFaultOf source ts g) same k) untold in
      let both = laws.one_parse_fault source x c.cause d.cause c.rest d.rest c.is d.is in
      let e : fault_at c.cause (offset (length source) c.rest) ≡ fault_at d.cause (offset (length source) d.rest) = rw (both.0, both.1) refl in
      c.same ∙ e ∙ sym d.same

  one_test : (source : List ℕ) (t u : BookTree) (f g : CheckFault) → HasTree source t → HasTree source u → check_fault t ≡ Some f → check_fault u ≡ Some g → f ≡ g
  one_test source t u f g h k x y = let same = ap check_fault (one_tree source t u h k) in cc

  no_test : (source : List ℕ) (t u : BookTree) (f : CheckFault) → HasTree source t → HasTree source u → check_fault t ≡ None → check_fault u ≡ Some f → ⊥
  no_test source t u f h k x y = some_or_none (check_fault u) f (sym (ap check_fault (one_tree source t u h k)) ∙ x) y

  pub one_text_verdict : (source : List ℕ) (a b : Verdict BookTree BookRefusal) → IsTextVerdict source a → IsTextVerdict source b → a ≡ b
  one_text_verdict source (Refused (UnknownLaw u)) b h k = absurd h
  one_text_verdict source a (Refused (UnknownLaw u)) h k = absurd k
  one_text_verdict source (Refused TooLong) (Refused TooLong) h k = refl
  one_text_verdict source (Refused TooLong) (Refused (Tokens g)) h k = let fits = k.0 in absurd (omega arith)
  one_text_verdict source (Refused TooLong) (Refused (Grammar g)) h k = let fits = k.1.fits in absurd (omega arith)
  one_text_verdict source (Refused TooLong) (Refused (Test g)) h k = let fits = k.1.lexed.fits in absurd (omega arith)
  one_text_verdict source (Refused TooLong) (Good u) h k = let fits = k.0.lexed.fits in absurd (omega arith)
  one_text_verdict source (Refused (Tokens f)) (Refused TooLong) h k = let fits = h.0 in absurd (omega arith)
  one_text_verdict source (Refused (Tokens f)) (Refused (Tokens g)) h k = ap (λ (x : LexFault). Refused (Tokens x)) (laws.one_lex_fault source f g h.1 k.1)
  one_text_verdict source (Refused (Tokens f)) (Refused (Grammar g)) h k = absurd (laws.no_fault_of_tokens source k.0 f k.1.lexed h.1)
  one_text_verdict source (Refused (Tokens f)) (Refused (Test g)) h k = absurd (laws.no_fault_of_tokens source k.1.tokens f k.1.lexed.lexed h.1)
  one_text_verdict source (Refused (Tokens f)) (Good u) h k = absurd (laws.no_fault_of_tokens source k.0.tokens f k.0.lexed.lexed h.1)
  one_text_verdict source (Refused (Grammar f)) (Refused TooLong) h k = let fits = h.1.fits in absurd (omega arith)
  one_text_verdict source (Refused (Grammar f)) (Refused (Tokens g)) h k = absurd (laws.no_fault_of_tokens source h.0 g h.1.lexed k.1)
  one_text_verdict source (Refused (Grammar f)) (Refused (Grammar g)) h k = ap (λ (x : ParseFault). Refused (Grammar x)) (one_fault source h.0 k.0 f g h.1 k.1 h.2 k.2 h.3 k.3)
  one_text_verdict source (Refused (Grammar f)) (Refused (Test g)) h k = absurd (no_fault source k.0 h.0 f k.1 h.1 h.2 h.3)
  one_text_verdict source (Refused (Grammar f)) (Good u) h k = absurd (no_fault source u h.0 f k.0 h.1 h.2 h.3)
  one_text_verdict source (Refused (Test f)) (Refused TooLong) h k = let fits = h.1.lexed.fits in absurd (omega arith)
  one_text_verdict source (Refused (Test f)) (Refused (Tokens g)) h k = absurd (laws.no_fault_of_tokens source h.1.tokens g h.1.lexed.lexed k.1)
  one_text_verdict source (Refused (Test f)) (Refused (Grammar g)) h k = absurd (no_fault source h.0 k.0 g h.1 k.1 k.2 k.3)
  one_text_verdict source (Refused (Test f)) (Refused (Test g)) h k = ap (λ (x : CheckFault). Refused (Test x)) (one_test source h.0 k.0 f g h.1 k.1 h.2 k.2)
  one_text_verdict source (Refused (Test f)) (Good u) h k = absurd (no_test source u h.0 f k.0 h.1 k.1 h.2)
  one_text_verdict source (Good t) (Refused TooLong) h k = let fits = h.0.lexed.fits in absurd (omega arith)
  one_text_verdict source (Good t) (Refused (Tokens g)) h k = absurd (laws.no_fault_of_tokens source h.0.tokens g h.0.lexed.lexed k.1)
  one_text_verdict source (Good t) (Refused (Grammar g)) h k = absurd (no_fault source t k.0 g h.0 k.1 k.2 k.3)
  one_text_verdict source (Good t) (Refused (Test g)) h k = absurd (no_test source t k.0 g h.0 k.1 h.1 k.2)
  one_text_verdict source (Good t) (Good u) h k = ap (λ (x : BookTree). Good x) (one_tree source t u h.0 k.0)

  -- ---- one output

  alike_laws : (name : List ℕ) (o : Option (List ℕ)) (v w : Verdict BookTree BookRefusal) → IsLawVerdict name o v → IsLawVerdict name o w → AreAlike v w
  unfolding AreAlike
  alike_laws name (Some source) v w h k = inl (one_text_verdict source v w h k)
  alike_laws name None v w h k = let x = no_law name v h in let y = no_law name w k in inr (x.0, y.0, x.1, y.1, x.2 ∙ sym y.2)

  alike_books : (input : BookInput) (v w : Verdict BookTree BookRefusal) → IsBookVerdict input v → IsBookVerdict input w → AreAlike v w
  unfolding AreAlike
  alike_books (text source) v w h k = inl (one_text_verdict source v w h k)
  alike_books (library name) v w h k = alike_laws name (law_text name) v w h k

  pub one_output : HasOneOutput
  one_output report input bytes a b s t h k = counts_alike report h.0 k.0 bytes a b s t (typed_book input h.0 h.1) (alike_books input h.0 k.0 h.1 k.1) h.2 k.2

  pub one_stage : HasOneStage
  one_stage name input bytes a b s t h k = shows_alike name h.0 k.0 bytes a b s t (typed_book input h.0 h.1) (alike_books input h.0 k.0 h.1 k.1) h.2 k.2

  pub one_check : HasOneCheck
  one_check input a b s t h k = checks_alike h.0 k.0 a b s t (alike_books input h.0 k.0 h.1 k.1) h.2 k.2
