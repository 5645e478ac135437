-- The numbers of a tree are those of its tokens.
use Rattle.std.proofs.Common.{◌≡◌, ℕ, Bool, true, List, [], ◌∷◌, ◌++◌, Ok, refl}
use Rattle.std.proofs.Math.Bool.{Bool-set}
use Rattle.std.proofs.Math.Logic.{∥∥₁_elim}
use Rattle.std.proofs.lemmas.Bool.{and_from, and_parts, le-leb}
use Rattle.std.proofs.lemmas.List.Folds.{list_all-append}
use Rattle.std.specs.Prelude.{IsTrue, nat_le, flat_map}
use Rattle.std.specs.List.{list_all}
use Rattle.sl_lex.specs.declared.token.Kind.{Kind}
use Rattle.sl_lex.specs.declared.token.Kind.TheVariants as kinds
use Rattle.sl_lex.specs.declared.token.Token.{Token}
use Rattle.sl_base_quotients.specs.declared.limits.TheConstants.{MAX_NUMBER}
use Rattle.sl_base_terms.specs.declared.limits.TheConstants.{MAX_STAGES}
use Rattle.sl_law_meaning.specs.declared.book.Number.{Number}
use Rattle.sl_law_meaning.specs.declared.book.Cond.{Cond}
use Rattle.sl_law_meaning.specs.declared.book.Cond.TheVariants as conditions
use Rattle.sl_law_meaning.specs.declared.book.LastClause.{LastClause}
use Rattle.sl_law_meaning.specs.declared.book.Majority.{Majority}
use Rattle.sl_law_meaning.specs.declared.book.Majority.TheVariants as majorities
use Rattle.sl_law_meaning.specs.book.Trees.{ExprTree, fact, name, sum, pair, split, without, atleast, grow, StageTree}
use Rattle.sl_law_meaning.specs.book.Limits.{numbers_of, condition_numbers, book_numbers, are_small}
use Rattle.sl_parse.specs.Spans.{bytes_of, FitsKind, AreSpans}
use Rattle.sl_parse.specs.Grammar.{◌▸◌, Part, empty, one_token, token, number, IsMajority, IsRefusal, IsExpr, AreStages, IsCondition, AreMore, AreConditions, HeadTree, IsHead}
use Rattle.sl_parse.specs.Parsing.{limits}
use Rattle.sl_parse.specs.inner.Reading.{book_from, read_head, read_stages}
use Rattle.sl_parse.proofs.ReadsBook.{StagesRead, reads_head, reads_stages}

-- whether a test takes the number of a token of that kind, if it has one
abbrev takes : (ℕ → Bool) → Kind → Bool
takes test (kinds.Number n) = test n
takes test _ = true

abbrev takes_all : (ℕ → Bool) → List Token → Bool
takes_all test tokens = list_all (λ t. takes test t.kind) tokens

module _ (test : ℕ → Bool) where
  -- If the test takes the numbers of all tokens from the part's first on, it takes these numbers, and those of the tokens after it.
  record Takes (numbers : List ℕ) (part : Part) : Type 0 where
    told : (here after : List Token) → part here after → takes_all test here ≡ true → (list_all test numbers ≡ true) × (takes_all test after ≡ true)

  first : (here after : List Token) (t : Token) → here ≡ t ∷ after → takes_all test here ≡ true → (takes test t.kind ≡ true) × (takes_all test after ≡ true)
  first here after t is all = and_parts (takes test t.kind) (takes_all test after) (rw is at all)

  -- one token, whatever it is
  one : {P : Token → Type 0} → Takes [] (one_token P)
  one = record { told = λ here after h all. (refl, (first here after h.0 h.1 all).1) }

  nothing : Takes [] empty
  nothing = record { told = λ here after h all. (refl, rw h at all) }

  -- a number, and one with its offset
  a_number : (n : ℕ) → Takes (n ∷ []) (token (kinds.Number n))
  a_number n = record {
    told = λ here after h all.
        let k = first here after h.0 h.1 all in
        let taken : test n ≡ true = rw h.2 at k.0 in
        (and_from (test n) true taken refl, k.1);
  }

  number_at : (n : Number) → Takes (n.value ∷ []) (number n)
  number_at n = record {
    told = λ here after h all.
        let k = first here after h.0 h.1 all in
        let taken : test n.value ≡ true = rw h.2.0 at k.0 in
        (and_from (test n.value) true taken refl, k.1);
  }

  -- ---- one part after another

  -- two parts with numbers
  two : {ns ms : List ℕ} {p q : Part} → Takes ns p → Takes ms q → Takes (ns ++ ms) (p ▸ q)
  two {ns} {ms} {p} {q} h k = record {
    told = λ here after parts all.
        let x = h.told here parts.0 parts.1 all in
        let y = k.told parts.0 after parts.2 x.1 in
        (rw (list_all-append test ns ms) (and_from _ _ x.0 y.0), y.1);
  }

  -- a part without numbers, and then another
  skip : {ns : List ℕ} {p q : Part} → Takes [] p → Takes ns q → Takes ns (p ▸ q)
  skip {ns} {p} {q} h k = two {ns = []} {ms = ns} {p = p} {q = q} h k

  -- a part, and then another without numbers
  last : {ns : List ℕ} {p q : Part} → Takes ns p → Takes [] q → Takes ns (p ▸ q)
  last {ns} {p} {q} h k = record {
    told = λ here after parts all.
        let x = h.told here parts.0 parts.1 all in
        (x.0, (k.told parts.0 after parts.2 x.1).1);
  }

  -- ---- expressions and stages

  majority : (j : Majority) → Takes [] (IsMajority j)
  majority majorities.Free = nothing
  majority majorities.Prefer = skip one (skip one one)
  majority majorities.Refuse = skip one (skip one one)

  refusal : (j : Majority) → Takes [] (IsRefusal j)
  refusal majorities.Free = nothing
  refusal majorities.Prefer = record { told = λ here after h all. absurd h }
  refusal majorities.Refuse = skip one (skip one one)

  module _ (text : List ℕ) where
    an_expr : (e : ExprTree) → Takes (numbers_of e) (IsExpr text e)
    an_expr (fact at told) = one
    an_expr (name at n) = one
    an_expr (sum at e axis) = skip one (skip one (last (an_expr e) (skip one (skip one one))))
    an_expr (pair at pairing l r) = skip one (skip one (two (an_expr l) (skip one (last (an_expr r) one))))
    an_expr (split at s v m without j) = skip one (skip one (two (an_expr s) (skip one (last (an_expr v) (skip one (skip one (skip (majority j) one)))))))
    an_expr (split at s v m (atleast e) j) =
        skip one (skip one (two (an_expr s) (skip one (two (an_expr v) (skip one (skip one (skip one (skip one (last (an_expr e) (skip (majority j) one))))))))))
    an_expr (grow at s v m e cap j) =
        skip one (skip one (two (an_expr s) (skip one (two (an_expr v) (skip one (skip one (skip one (two (an_expr e) (skip one (last (number_at cap) (skip (refusal j) one)))))))))))

    stages : (ss : List StageTree) → Takes (flat_map (λ s. numbers_of s.expr) ss) (AreStages text ss)
    stages [] = nothing
    stages (s ∷ ss) = two (skip one (skip one (skip one (last (an_expr s.expr) one)))) (stages ss)

  -- ---- what stands before the stages

  condition : (c : Cond) → Takes (condition_numbers c) (IsCondition c)
  condition (conditions.Valid share per) = skip one (skip one (skip one (two (number_at share) (skip one (a_number per)))))
  condition (conditions.Winners least) = skip one (skip one (skip one (a_number least)))
  condition conditions.Minority = one
  condition conditions.All = one

  more_conditions : (cs : List Cond) → Takes (flat_map condition_numbers cs) (AreMore cs)
  more_conditions [] = nothing
  more_conditions (c ∷ cs) = skip one (two (condition c) (more_conditions cs))

  all_conditions : (cs : List Cond) → Takes (flat_map condition_numbers cs) (AreConditions cs)
  all_conditions [] = record { told = λ here after h all. absurd h }
  all_conditions (c ∷ cs) = two (condition c) (more_conditions cs)

  head : (text : List ℕ) (h : HeadTree) → Takes (h.version.value ∷ h.house.value ∷ flat_map condition_numbers h.eligible) (IsHead text h)
  head text h =
      skip one (two (number_at h.version) (skip one (skip one (skip one (skip one (skip one (two (number_at h.house) (skip one (skip one (last (all_conditions h.eligible) one))))))))))

-- ---- the tokens of a text

abbrev small : ℕ → Bool
small n = nat_le n MAX_NUMBER

small_tokens : (text : List ℕ) (tokens : List Token) → AreSpans text tokens → takes_all small tokens ≡ true
small_tokens text [] spans = refl
small_tokens text (t ∷ tokens) spans = and_from (takes small t.kind) (takes_all small tokens) (of_kind t.kind (bytes_of text t) spans.0.fits) (small_tokens text tokens spans.1)
  where
    of_kind : (k : Kind) (bytes : List ℕ) → FitsKind k bytes → takes small k ≡ true
    of_kind (kinds.Number n) bytes h = le-leb n MAX_NUMBER h
    of_kind _ bytes h = refl

-- no number of a book that is read from the tokens of a text is too great
pub small_book : (text : List ℕ) (tokens between after : List Token) (h : HeadTree) (ss : List StageTree) (l : LastClause) → ∥ AreSpans text tokens ∥₁
    → read_head text tokens ≡ Ok (h, between) → read_stages text limits MAX_STAGES between ≡ Ok (ss, after) → IsTrue (are_small (book_numbers (book_from h ss l)))
small_book text tokens between after h ss l spans reads_h reads_ss = ∥∥₁_elim spans (Bool-set _ _) (λ all.
    let told_h = (reads_head text limits (λ cause there. Unit {0}) 0 tokens).told in
    let is_head : IsHead text h tokens between = rw reads_h at told_h in
    let told_ss = (reads_stages text limits MAX_STAGES 0 between).told in
    let are_stages : StagesRead text limits MAX_STAGES between (ss, after) = rw reads_ss at told_ss in
    ((two small (head small text h) (stages small text ss)).told tokens after (between, is_head, are_stages.is) (small_tokens text tokens all)).0)
