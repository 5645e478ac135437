-- What is in the grammar is read, up to the limits: conditions, stages and books.
use Rattle.std.proofs.Common.{◌≡◌, ℕ, zero, suc, ◌-◌, ◌≤◌, ◌<◌, true, false, List, [], ◌∷◌, length, Option, Some, None, Ok, Err, refl, ap, arith}
use Rattle.sl_lex.specs.declared.keyword.Keyword.TheVariants as keywords
use Rattle.sl_lex.specs.declared.token.Kind.{Kind}
use Rattle.sl_lex.specs.declared.token.Kind.TheVariants as kinds
use Rattle.sl_lex.specs.declared.token.Token.{Token}
use Rattle.sl_law_meaning.specs.declared.book.Base.{Base}
use Rattle.sl_law_meaning.specs.declared.book.Base.TheVariants as bases
use Rattle.sl_law_meaning.specs.declared.book.Cond.{Cond}
use Rattle.sl_law_meaning.specs.declared.book.Cond.TheVariants as conditions
use Rattle.sl_law_meaning.specs.declared.book.LastClause.{LastClause}
use Rattle.sl_law_meaning.specs.declared.book.Number.{Number}
use Rattle.sl_law_meaning.specs.book.Trees.{StageTree, BookTree}
use Rattle.sl_law_meaning.specs.book.Limits.{parts_of}
use Rattle.sl_parse.specs.Words.{same_kind}
use Rattle.sl_parse.specs.declared.fault.Cause.TheVariants.{TooManyStages}
use Rattle.sl_parse.specs.Grammar.{token, one_token, keyword, semicolon, IsStage, AreStages, IsCondition, AreMore, AreConditions, HeadTree, IsHead, IsBase, IsVacate, IsLast, IsBook}
use Rattle.sl_parse.specs.Faults.{Limits}
use Rattle.sl_parse.specs.inner.Reading.{◌>>=◌, one, number_in, name_in, quoted_in, base_in, seating_in, is_next, taken, read_stage, read_stages, read_valid, read_winners, read_condition_at, read_condition, read_more, read_conditions, read_head, read_vacate, read_last, read_front, read_book}
use Rattle.sl_parse.proofs.TokenTests.{IsBaseToken, tests_number, tests_name, tests_vacate, tests_quoted, tests_base, tests_seating}
use Rattle.sl_parse.proofs.ReadsBook.{condition-shorter, AreWithin}
use Rattle.sl_parse.proofs.Agrees.{Agrees, then_agrees, agreed, Any, one_agrees, taken_agrees}
use Rattle.sl_parse.proofs.AgreesExpr.{Fits, agrees_expr}

-- after a loop stands a token with which it doesn't go on
abbrev pub Stops : Kind → List Token → Type 0
Stops k here = (t : Token) × (rest : List Token) × (here ≡ t ∷ rest) × (same_kind t.kind k ≡ false)

-- ---- conditions and the rest of what stands before the stages

condition_at : (k : Kind) (c : Cond) (here mid after : List Token) (t : Token) → here ≡ t ∷ mid → t.kind ≡ k → Agrees mid after (read_condition_at k t mid) (c, after) Any → Agrees here after (read_condition here) (c, after) Any
unfolding read_condition
condition_at k c here mid after t is kind h =
    let reads : read_condition here ≡ read_condition_at k t mid = rw (is, kind) refl in
    let short : length after ≤ length mid = h.shorter in
    record { shorter = rw is (omega arith); finds = rw reads h.finds }

number_agrees : (n : ℕ) (here after : List Token) → token (kinds.Number n) here after → (m : Number) × (m.value ≡ n) × Agrees here after (one number_in here) (m, after) Any
number_agrees n here after (t, is, kind) = (record { value = n; at = t.start }, refl, one_agrees number_in tests_number (record { value = n; at = t.start }) here after (t, is, (kind, refl)))

condition_agrees : (c : Cond) (here after : List Token) → IsCondition c here after → Agrees here after (read_condition here) (c, after) Any
unfolding read_condition_at read_valid read_winners
condition_agrees (conditions.Valid share per) here after (mid, (t, is, kind), (a, ha, (b, hb, (c, hc, (d, hd, he))))) =
    let n = number_agrees per d after he in
    condition_at _ (conditions.Valid share per) here mid after t is kind (
    then_agrees _ _ a (taken_agrees _ mid a ha) (λ fits. tt) (
    then_agrees _ _ b (taken_agrees _ a b hb) (λ fits. tt) (
    then_agrees _ _ (share, c) (one_agrees number_in tests_number share b c hc) (λ fits. tt) (
    then_agrees _ _ d (taken_agrees _ c d hd) (λ fits. tt) (
    then_agrees _ _ (n.0, after) n.2 (λ fits. tt) (
    agreed after _ _ (rw n.1 refl)))))))
condition_agrees (conditions.Winners least) here after (mid, (t, is, kind), (a, ha, (b, hb, hc))) =
    let n = number_agrees least b after hc in
    condition_at _ (conditions.Winners least) here mid after t is kind (
    then_agrees _ _ a (taken_agrees _ mid a ha) (λ fits. tt) (
    then_agrees _ _ b (taken_agrees _ a b hb) (λ fits. tt) (
    then_agrees _ _ (n.0, after) n.2 (λ fits. tt) (
    agreed after _ _ (rw n.1 refl)))))
condition_agrees conditions.Minority here after (t, is, kind) = condition_at _ conditions.Minority here after after t is kind (agreed after _ _ refl)
condition_agrees conditions.All here after (t, is, kind) = condition_at _ conditions.All here after after t is kind (agreed after _ _ refl)

more_agree : (n : ℕ) (cs : List Cond) (here after : List Token) → AreMore cs here after → Stops (kinds.Keyword keywords.Or) after → length here ≤ n → Agrees here after (read_more n here) (cs, after) Any
unfolding read_more
more_agree zero [] here after h (t, rest, is, other) le = absurd (omega (arith, ap length h, ap length is))
more_agree (suc n) [] here after h (t, rest, is, other) le =
    let found : read_more (suc n) here ≡ Ok ([], after) = rw (h, is, other) refl in
    record { shorter = rw h (omega arith); finds = rw found refl }
more_agree zero (c ∷ cs) here after (a, (t, is, kind), (b, hc, hcs)) stops le = absurd (omega (arith, ap length is))
more_agree (suc n) (c ∷ cs) here after (a, ha, (b, hc, hcs)) stops le =
    let first : length here ≡ suc (length a) = ap length ha.1 in
    let second : length b < length a = condition-shorter c a b hc in
    let all : Agrees here after (taken (kinds.Keyword keywords.Or) here >>= λ a. read_condition a >>= λ c. read_more n c.1 >>= λ cs. Ok (c.0 ∷ cs.0, cs.1)) (c ∷ cs, after) Any =
    then_agrees _ _ a (taken_agrees _ here a ha) (λ fits. tt) (
    then_agrees _ _ (c, b) (condition_agrees c a b hc) (λ fits. tt) (
    then_agrees _ _ (cs, after) (more_agree n cs b after hcs stops (omega arith)) (λ fits. tt) (
    agreed after _ _ refl))) in
    let next : is_next (kinds.Keyword keywords.Or) here ≡ true = rw (ha.1, ha.2) refl in
    record { shorter = all.shorter; finds = rw next all.finds }

conditions_agree : (cs : List Cond) (here after : List Token) → AreConditions cs here after → Stops (kinds.Keyword keywords.Or) after → Agrees here after (read_conditions here) (cs, after) Any
unfolding read_conditions
conditions_agree [] here after h stops = absurd h
conditions_agree (c ∷ cs) here after (b, hc, hcs) stops =
    then_agrees _ _ (c, b) (condition_agrees c here b hc) (λ fits. tt) (
    then_agrees _ _ (cs, after) (more_agree (length b) cs b after hcs stops (omega arith)) (λ fits. tt) (
    agreed after _ _ refl))

at_semicolon : (here after : List Token) → semicolon here after → Stops (kinds.Keyword keywords.Or) here
at_semicolon here after (t, is, kind) = (t, after, is, rw kind refl)

module _ (text : List ℕ) where
  pub head_agrees : (h : HeadTree) (here after : List Token) → IsHead text h here after → Agrees here after (read_head text here) (h, after) Any
  unfolding read_head
  head_agrees h here after (a, ha, (v, hv, (b, hb, (c, hc, (n, hn, (d, hd, (e, he, (k, hk, (f, hf, (g, hg, (s, hs, hi))))))))))) =
      then_agrees _ _ a (taken_agrees _ here a ha) (λ fits. tt) (
      then_agrees _ _ (h.version, v) (one_agrees number_in tests_number h.version a v hv) (λ fits. tt) (
      then_agrees _ _ b (taken_agrees _ v b hb) (λ fits. tt) (
      then_agrees _ _ c (taken_agrees _ b c hc) (λ fits. tt) (
      then_agrees _ _ (h.law, n) (one_agrees (quoted_in text) (tests_quoted text) h.law c n hn) (λ fits. tt) (
      then_agrees _ _ d (taken_agrees _ n d hd) (λ fits. tt) (
      then_agrees _ _ e (taken_agrees _ d e he) (λ fits. tt) (
      then_agrees _ _ (h.house, k) (one_agrees number_in tests_number h.house e k hk) (λ fits. tt) (
      then_agrees _ _ f (taken_agrees _ k f hf) (λ fits. tt) (
      then_agrees _ _ g (taken_agrees _ f g hg) (λ fits. tt) (
      then_agrees _ _ (h.eligible, s) (conditions_agree h.eligible g s hs (at_semicolon s after hi)) (λ fits. tt) (
      then_agrees _ _ after (taken_agrees _ s after hi) (λ fits. tt) (
      agreed after _ _ refl))))))))))))

  -- ---- the last clause

  base_token : (base : Base) (at : ℕ) (here after : List Token) → IsBase text base at here after → one_token (IsBaseToken text (base, at)) here after
  base_token bases.Winners at here after h = h
  base_token (bases.Stage n) at here after h = h

  vacate_agrees : (v : Option ℕ) (here between after : List Token) → IsVacate text v here between → semicolon between after → Agrees here between (read_vacate text here) (v, between) Any
  unfolding read_vacate
  vacate_agrees None here between after same (t, is, kind) =
      let e : here ≡ t ∷ after = rw same is in
      let found : read_vacate text here ≡ Ok (None, here) = rw (e, kind) refl in
      rw (← same) (record { shorter = omega arith; finds = rw found refl })
  vacate_agrees (Some at) here between after (t, is, h) semi =
      let found : read_vacate text here ≡ Ok (Some at, between) = rw (is, (tests_vacate text).takes t at h) refl in
      record { shorter = rw is (omega arith); finds = rw found refl }

  last_agrees : (c : LastClause) (here after : List Token) → IsLast text c here after → Agrees here after (read_last text here) (c, after) Any
  unfolding read_last
  last_agrees c here after (a, ha, (b, hb, (s, hs, (v, hv, hc)))) =
      then_agrees _ _ a (taken_agrees _ here a ha) (λ fits. tt) (
      then_agrees _ _ ((c.base, c.at), b) (one_agrees (base_in text) (tests_base text) (c.base, c.at) a b (base_token c.base c.at a b hb)) (λ fits. tt) (
      then_agrees _ _ (c.seating, s) (one_agrees seating_in tests_seating c.seating b s hs) (λ fits. tt) (
      then_agrees _ _ (c.vacate, v) (vacate_agrees c.vacate s v after hv hc) (λ fits. tt) (
      then_agrees _ _ after (taken_agrees _ v after hc) (λ fits. tt) (
      agreed after _ _ refl)))))

  -- ---- stages

  module _ (l : Limits) where
    pub stage_agrees : (s : StageTree) (here after : List Token) → IsStage text s here after → Agrees here after (read_stage text l here) (s, after) (Fits l.depth l.parts s.expr)
    unfolding read_stage
    stage_agrees s here after (a, ha, (n, hn, (b, hb, (c, hc, hg)))) =
        then_agrees _ _ a (taken_agrees _ here a ha) (λ fits. tt) (
        then_agrees _ _ ((s.name, s.at), n) (one_agrees (name_in text) (tests_name text) (s.name, s.at) a n hn) (λ fits. tt) (
        then_agrees _ _ b (taken_agrees _ n b hb) (λ fits. tt) (
        then_agrees _ _ (s.expr, l.parts - parts_of s.expr, c) (agrees_expr text l.depth l.parts s.expr b c hc) (λ fits. fits) (
        then_agrees _ _ after (taken_agrees _ c after hg) (λ fits. tt) (
        agreed after _ _ refl)))))

    pub stage-shorter : (s : StageTree) (here after : List Token) → IsStage text s here after → length after < length here
    stage-shorter s here after (a, ha, (n, hn, (b, hb, (c, hc, hg)))) =
        omega (arith, ap length ha.1, ap length hn.1, ap length hb.1, (agrees_expr text 0 0 s.expr b c hc).shorter, ap length hg.1)

    stages_agree : (n : ℕ) (ss : List StageTree) (here after : List Token) → AreStages text ss here after → Stops (kinds.Keyword keywords.Stage) after → Agrees here after (read_stages text l n here) (ss, after) (AreWithin l n ss)
    unfolding read_stages
    stages_agree zero [] here after h (t, rest, is, other) =
        let found : read_stages text l zero here ≡ Ok ([], after) = rw (h, is, other) refl in
        record { shorter = rw h (omega arith); finds = rw found refl }
    stages_agree (suc n) [] here after h (t, rest, is, other) =
        let found : read_stages text l (suc n) here ≡ Ok ([], after) = rw (h, is, other) refl in
        record { shorter = rw h (omega arith); finds = rw found refl }
    stages_agree zero (s ∷ ss) here after (b, hs, hss) after_is =
        let stops : read_stages text l zero here ≡ Err (TooManyStages, here) = rw (hs.1.1, hs.1.2) refl in
        let first : length b < length here = stage-shorter s here b hs in
        let more : length after ≤ length b = (stages_agree zero ss b after hss after_is).shorter in
        record { shorter = omega arith; finds = rw stops (tt, omega arith, λ f. f) }
    stages_agree (suc n) (s ∷ ss) here after (b, hs, hss) after_is =
        let both : Agrees here after (read_stage text l here >>= λ x. read_stages text l n x.1 >>= λ y. Ok (x.0 ∷ y.0, y.1)) (s ∷ ss, after) (AreWithin l (suc n) (s ∷ ss)) =
        then_agrees _ _ (s, b) (stage_agrees s here b hs) (λ fits. (fits.0, fits.1)) (
        then_agrees _ _ (ss, after) (stages_agree n ss b after hss after_is) (λ fits. fits.2) (
        agreed after _ _ refl)) in
        let next : is_next (kinds.Keyword keywords.Stage) here ≡ true = rw (hs.1.1, hs.1.2) refl in
        record { shorter = both.shorter; finds = rw next both.finds }

    at_seats : (here after : List Token) → keyword keywords.Seats here after → Stops (kinds.Keyword keywords.Stage) here
    at_seats here after (t, is, kind) = (t, after, is, rw kind refl)

    pub front_agrees : (b : BookTree) (here after : List Token) → IsBook text b here after → Agrees here after (read_front text l here) (b, after) (AreWithin l l.stages b.stages)
    unfolding read_front
    front_agrees b here after (a, ha, (c, hc, hd)) =
        then_agrees _ _ (_, a) (head_agrees _ here a ha) (λ fits. tt) (
        then_agrees _ _ (b.stages, c) (stages_agree l.stages b.stages a c hc (at_seats c hd.0 hd.1)) (λ fits. fits) (
        then_agrees _ _ (b.last, after) (last_agrees b.last c after hd) (λ fits. tt) (
        agreed after _ _ refl)))

    pub book_agrees : (b : BookTree) (ts : List Token) → IsBook text b ts [] → Agrees ts [] (read_book text l ts) b (AreWithin l l.stages b.stages)
    unfolding read_book
    book_agrees b ts h = then_agrees _ _ (b, []) (front_agrees b ts [] h) (λ fits. fits) (agreed [] _ _ refl)
