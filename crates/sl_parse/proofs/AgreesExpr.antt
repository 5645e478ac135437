-- What is in the grammar is read, up to the limits: expressions.
use Rattle.std.proofs.Common.{◌≡◌, ℕ, zero, suc, ◌+◌, ◌-◌, ◌≤◌, true, false, List, ◌∷◌, length, Some, Ok, Err, refl, arith}
use Rattle.sl_base_quotients.specs.declared.method.Method.{Method}
use Rattle.sl_lex.specs.declared.keyword.Keyword.TheVariants as keywords
use Rattle.sl_lex.specs.declared.token.Mark.TheVariants as marks
use Rattle.sl_lex.specs.declared.token.Kind.TheVariants as kinds
use Rattle.sl_lex.specs.declared.token.Token.{Token}
use Rattle.sl_law_meaning.specs.declared.book.Majority.{Majority}
use Rattle.sl_law_meaning.specs.declared.book.Majority.TheVariants as majorities
use Rattle.sl_law_meaning.specs.book.Trees.{ExprTree, fact, name, sum, pair, split, without, atleast, grow}
use Rattle.sl_law_meaning.specs.book.Limits.{depth_of, parts_of}
use Rattle.sl_parse.specs.declared.fault.Cause.TheVariants.{TooDeep}
use Rattle.sl_parse.specs.declared.form.Form.{Form}
use Rattle.sl_parse.specs.declared.form.Form.TheVariants as forms
use Rattle.sl_parse.specs.Words.{method_word, first_kind}
use Rattle.sl_parse.specs.Grammar.{◌▸◌, keyword, comma, open_mark, close_mark, IsMajority, IsRefusal, IsExpr}
use Rattle.sl_parse.specs.inner.Reading.{ReadExpr, is_next, is_clause, axis_in, method_in, number_in, preference_in, read_sum, read_two, read_pair, read_division, read_minima, read_majority, read_refusal, read_split, read_grow, read_form, read_node, no_room, read_expr}
use Rattle.sl_parse.proofs.TokenTests.{form-taken, tests_axis, tests_method, tests_number, tests_preference}
use Rattle.sl_parse.proofs.Agrees.{Agrees, then_agrees, agreed, Any, one_agrees, taken_agrees}

pub depth-pos : (e : ExprTree) → 1 ≤ depth_of e
depth-pos (split at s v m without j) = omega arith
depth-pos (split at s v m (atleast e) j) = omega arith
depth-pos _ = omega arith

pub parts-pos : (e : ExprTree) → 1 ≤ parts_of e
parts-pos (split at s v m without j) = omega arith
parts-pos (split at s v m (atleast e) j) = omega arith
parts-pos _ = omega arith

-- an expression has room
abbrev pub Fits : ℕ → ℕ → ExprTree → Type 0
Fits d p e = (depth_of e ≤ d) × (parts_of e ≤ p)

module _ (text : List ℕ) where
  abbrev pub AgreesExpr : List Token → List Token → ReadExpr → ExprTree → ℕ → ℕ → Type 0
  AgreesExpr here after r e d p = Agrees here after r (e, p - parts_of e, after) (Fits d p e)

  -- the first token tells the form, and where there is no room it is too deep
  level : (d p : ℕ) (form : Form) (here mid after : List Token) (t : Token) (e : ExprTree) → here ≡ t ∷ mid → t.kind ≡ first_kind form
      → ((d' p' : ℕ) → AgreesExpr mid after (read_form text (read_expr text d') p' (Some form) t mid) e (suc d') (suc p')) → AgreesExpr here after (read_expr text d p here) e d p
  unfolding read_expr read_node no_room
  level zero p form here mid after t e is kind h =
      let stops : read_expr text zero p here ≡ Err (TooDeep, t ∷ mid) = rw (is, kind, form-taken form) refl in
      let short : length after ≤ length mid = (h 0 0).shorter in
      record { shorter = rw is (omega arith); finds = rw stops (tt, omega arith, λ no. omega (arith, no.0, depth-pos e)) }
  level (suc d) zero form here mid after t e is kind h =
      let stops : read_expr text (suc d) zero here ≡ Err (TooDeep, t ∷ mid) = rw (is, kind, form-taken form) refl in
      let short : length after ≤ length mid = (h 0 0).shorter in
      record { shorter = rw is (omega arith); finds = rw stops (tt, omega arith, λ no. omega (arith, no.1, parts-pos e)) }
  level (suc d) (suc p) form here mid after t e is kind h =
      let reads : read_expr text (suc d) (suc p) here ≡ read_form text (read_expr text d) p (Some form) t mid = rw (is, kind, form-taken form) refl in
      let short : length after ≤ length mid = (h d p).shorter in
      record { shorter = rw is (omega arith); finds = rw reads (h d p).finds }

  abbrev node : ExprTree → ℕ → List Token → ExprTree × ℕ × List Token
  node e q after = (e, q, after)

  node_is : (make : ℕ → ExprTree) (start at q q' : ℕ) (after : List Token) → start ≡ at → q ≡ q' → node (make start) q after ≡ node (make at) q' after
  node_is make start at q q' after e h = rw (e, h) refl

  leaf : {F : Type 0} (make : ℕ → ExprTree) (start at p : ℕ) (after : List Token) → start ≡ at → parts_of (make at) ≡ 1 → Agrees after after (Ok (node (make start) p after)) (node (make at) (suc p - parts_of (make at)) after) F
  leaf make start at p after e single = agreed after _ _ (node_is make start at p (suc p - parts_of (make at)) after e (omega (arith, single)))

  -- ---- clauses that may be left out

  no_clause : (j : Majority) (here after : List Token) → (IsMajority j ▸ close_mark) here after → is_clause keywords.Atleast here ≡ false
  no_clause majorities.Free here after (b, same, (t, is, kind)) = rw (same, is, kind) refl
  no_clause majorities.Prefer here after (b, ((a, (t, is, kind), (c, (u, at, word), more))), close) = rw (is, kind, at, word) refl
  no_clause majorities.Refuse here after (b, ((a, (t, is, kind), (c, (u, at, word), more))), close) = rw (is, kind, at, word) refl

  no_comma : (here after : List Token) → close_mark here after → is_next (kinds.Mark marks.Comma) here ≡ false
  no_comma here after (t, is, kind) = rw (is, kind) refl

  a_comma : (here after : List Token) → comma here after → is_next (kinds.Mark marks.Comma) here ≡ true
  a_comma here after (t, is, kind) = rw (is, kind) refl

  majority_agrees : (j : Majority) (here between after : List Token) → IsMajority j here between → close_mark between after → Agrees here between (read_majority here) (j, between) Any
  unfolding read_majority
  majority_agrees majorities.Free here between after same close = rw same (rw (no_comma between after close) (agreed between _ _ refl))
  majority_agrees majorities.Prefer here between after (a, ha, (b, hb, hc)) close =
      rw (a_comma here a ha) (
      then_agrees _ _ a (taken_agrees _ here a ha) (λ fits. tt) (
      then_agrees _ _ b (taken_agrees _ a b hb) (λ fits. tt) (
      one_agrees preference_in tests_preference majorities.Prefer b between hc)))
  majority_agrees majorities.Refuse here between after (a, ha, (b, hb, hc)) close =
      rw (a_comma here a ha) (
      then_agrees _ _ a (taken_agrees _ here a ha) (λ fits. tt) (
      then_agrees _ _ b (taken_agrees _ a b hb) (λ fits. tt) (
      one_agrees preference_in tests_preference majorities.Refuse b between hc)))

  refusal_agrees : (j : Majority) (here between after : List Token) → IsRefusal j here between → close_mark between after → Agrees here between (read_refusal here) (j, between) Any
  unfolding read_refusal
  refusal_agrees majorities.Free here between after same close = rw same (rw (no_comma between after close) (agreed between _ _ refl))
  refusal_agrees majorities.Prefer here between after h close = absurd h
  refusal_agrees majorities.Refuse here between after (a, ha, (b, hb, hc)) close =
      rw (a_comma here a ha) (
      then_agrees _ _ a (taken_agrees _ here a ha) (λ fits. tt) (
      then_agrees _ _ b (taken_agrees _ a b hb) (λ fits. tt) (
      then_agrees _ _ between (taken_agrees _ b between hc) (λ fits. tt) (
      agreed between _ _ refl))))

  -- ---- arguments

  -- the expression is read wherever it stands
  abbrev pub Agreeing : ExprTree → Type 0
  Agreeing e = (d p : ℕ) (here after : List Token) → IsExpr text e here after → AgreesExpr here after (read_expr text d p here) e d p

  -- two expressions have room, one after the other
  abbrev pub FitTwo : ℕ → ℕ → ExprTree → ExprTree → Type 0
  FitTwo d p l r = (depth_of l ≤ d) × (depth_of r ≤ d) × (parts_of l + parts_of r ≤ p)

  pub two_agree : (d p : ℕ) (l r : ExprTree) (here after : List Token) → Agreeing l → Agreeing r → (open_mark ▸ IsExpr text l ▸ comma ▸ IsExpr text r) here after
      → Agrees here after (read_two (read_expr text d) p here) ((l, r), p - parts_of l - parts_of r, after) (FitTwo d p l r)
  unfolding read_two
  two_agree d p l r here after agrees_l agrees_r (a, ha, (b, hl, (c, hc, hr))) =
      then_agrees _ _ a (taken_agrees _ here a ha) (λ fits. tt) (
      then_agrees _ _ (l, p - parts_of l, b) (agrees_l d p a b hl) (λ fits. (fits.0, omega (arith, fits.2))) (
      then_agrees _ _ c (taken_agrees _ b c hc) (λ fits. tt) (
      then_agrees _ _ (r, p - parts_of l - parts_of r, after) (agrees_r d (p - parts_of l) c after hr) (λ fits. (fits.1, omega (arith, fits.2))) (
      agreed after _ _ refl))))

  pub division_agrees : (d p : ℕ) (s v : ExprTree) (m : Method) (here after : List Token) → Agreeing s → Agreeing v → (open_mark ▸ IsExpr text s ▸ comma ▸ IsExpr text v ▸ comma ▸ keyword (method_word m)) here after
      → Agrees here after (read_division (read_expr text d) p here) ((s, v, m), p - parts_of s - parts_of v, after) (FitTwo d p s v)
  unfolding read_division
  division_agrees d p s v m here after agrees_s agrees_v (a, ha, (b, hs, (c, hc, (e, hv, (f, hf, hm))))) =
      then_agrees _ _ ((s, v), p - parts_of s - parts_of v, e) (two_agree d p s v here e agrees_s agrees_v (a, ha, (b, hs, (c, hc, hv)))) (λ fits. fits) (
      then_agrees _ _ f (taken_agrees _ e f hf) (λ fits. tt) (
      then_agrees _ _ (m, after) (one_agrees method_in tests_method m f after hm) (λ fits. tt) (
      agreed after _ _ refl)))

  no_minima_agree : (d p : ℕ) (j : Majority) (here after : List Token) → (IsMajority j ▸ close_mark) here after → Agrees here here (read_minima (read_expr text d) p here) (without, p, here) Any
  unfolding read_minima
  no_minima_agree d p j here after h = rw (no_clause j here after h) (agreed here _ _ refl)

  minima_agree : (d p : ℕ) (e : ExprTree) (here a b after : List Token) → Agreeing e → comma here a → keyword keywords.Atleast a b → IsExpr text e b after
      → Agrees here after (read_minima (read_expr text d) p here) (atleast e, p - parts_of e, after) (Fits d p e)
  unfolding read_minima
  minima_agree d p e here a b after agrees_e ha hb he =
      let next : is_clause keywords.Atleast here ≡ true = rw (ha.1, ha.2, hb.1, hb.2) refl in
      rw next (
      then_agrees _ _ a (taken_agrees _ here a ha) (λ fits. tt) (
      then_agrees _ _ b (taken_agrees _ a b hb) (λ fits. tt) (
      then_agrees _ _ (e, p - parts_of e, after) (agrees_e d p b after he) (λ fits. fits) (
      agreed after _ _ refl))))

  -- ---- forms with arguments

  pub agrees_expr : (d p : ℕ) (e : ExprTree) (here after : List Token) → IsExpr text e here after → AgreesExpr here after (read_expr text d p here) e d p
  unfolding read_form read_sum read_pair read_split read_grow
  agrees_expr d p (fact at told) here after (t, is, (kind, start)) = level d p (forms.Fact told) here after after t (fact at told) is kind (λ d' p'. leaf (λ n. fact n told) _ at p' after start refl)
  agrees_expr d p (name at m) here after (t, is, (kind, bytes, start)) = level d p forms.Name here after after t (name at m) is kind (λ d' p'. rw bytes (leaf (λ n. name n m) _ at p' after start refl))
  agrees_expr d p (sum at e s) here after (mid, (t, is, (kind, start)), (a, ha, (b, he, (c, hc, (g, hs, hg))))) =
      level d p forms.Sum here mid after t (sum at e s) is kind (λ d' p'.
      then_agrees _ _ a (taken_agrees _ mid a ha) (λ fits. tt) (
      then_agrees _ _ (e, p' - parts_of e, b) (agrees_expr d' p' e a b he) (λ fits. (omega (arith, fits.0), omega (arith, fits.1))) (
      then_agrees _ _ c (taken_agrees _ b c hc) (λ fits. tt) (
      then_agrees _ _ (s, g) (one_agrees axis_in tests_axis s c g hs) (λ fits. tt) (
      then_agrees _ _ after (taken_agrees _ g after hg) (λ fits. tt) (
      agreed after _ _ (node_is (λ n. sum n e s) _ at _ _ after start (omega arith))))))))
  agrees_expr d p (pair at pairing l r) here after (mid, (t, is, (kind, start)), (a, ha, (b, hl, (c, hc, (g, hr, hg))))) =
      level d p (forms.Pair pairing) here mid after t (pair at pairing l r) is kind (λ d' p'.
      then_agrees _ _ ((l, r), p' - parts_of l - parts_of r, g)
      (two_agree d' p' l r mid g (λ d p here after h. agrees_expr d p l here after h) (λ d p here after h. agrees_expr d p r here after h) (a, ha, (b, hl, (c, hc, hr))))
      (λ fits. (omega (arith, fits.0), omega (arith, fits.0), omega (arith, fits.1))) (
      then_agrees _ _ after (taken_agrees _ g after hg) (λ fits. tt) (
      agreed after _ _ (node_is (λ n. pair n pairing l r) _ at _ _ after start (omega arith)))))
  agrees_expr d p (split at s v m without j) here after (mid, (t, is, (kind, start)), (a, ha, (b, hs, (c, hc, (e, hv, (f, hf, (g, hm, (k, hj, hk)))))))) =
      level d p forms.Split here mid after t (split at s v m without j) is kind (λ d' p'.
      then_agrees _ _ ((s, v, m), p' - parts_of s - parts_of v, g)
      (division_agrees d' p' s v m mid g (λ d p here after h. agrees_expr d p s here after h) (λ d p here after h. agrees_expr d p v here after h) (a, ha, (b, hs, (c, hc, (e, hv, (f, hf, hm))))))
      (λ fits. (omega (arith, fits.0), omega (arith, fits.0), omega (arith, fits.1))) (
      then_agrees _ _ (without, p' - parts_of s - parts_of v, g) (no_minima_agree d' (p' - parts_of s - parts_of v) j g after (k, hj, hk)) (λ fits. tt) (
      then_agrees _ _ (j, k) (majority_agrees j g k after hj hk) (λ fits. tt) (
      then_agrees _ _ after (taken_agrees _ k after hk) (λ fits. tt) (
      agreed after _ _ (node_is (λ n. split n s v m without j) _ at _ _ after start (omega arith)))))))
  agrees_expr d p (split at s v m (atleast x) j) here after (mid, (t, is, (kind, start)), (a, ha, (b, hs, (c, hc, (e, hv, (f, hf, (g, hm, (i, hi, (u, hu, (w, hx, (k, hj, hk))))))))))) =
      level d p forms.Split here mid after t (split at s v m (atleast x) j) is kind (λ d' p'.
      then_agrees _ _ ((s, v, m), p' - parts_of s - parts_of v, g)
      (division_agrees d' p' s v m mid g (λ d p here after h. agrees_expr d p s here after h) (λ d p here after h. agrees_expr d p v here after h) (a, ha, (b, hs, (c, hc, (e, hv, (f, hf, hm))))))
      (λ fits. (omega (arith, fits.0), omega (arith, fits.0), omega (arith, fits.1))) (
      then_agrees _ _ (atleast x, p' - parts_of s - parts_of v - parts_of x, w)
      (minima_agree d' (p' - parts_of s - parts_of v) x g i u w (λ d p here after h. agrees_expr d p x here after h) hi hu hx)
      (λ fits. (omega (arith, fits.0), omega (arith, fits.1))) (
      then_agrees _ _ (j, k) (majority_agrees j w k after hj hk) (λ fits. tt) (
      then_agrees _ _ after (taken_agrees _ k after hk) (λ fits. tt) (
      agreed after _ _ (node_is (λ n. split n s v m (atleast x) j) _ at _ _ after start (omega arith)))))))
  agrees_expr d p (grow at s v m x cap j) here after (mid, (t, is, (kind, start)), (a, ha, (b, hs, (c, hc, (e, hv, (f, hf, (g, hm, (i, hi, (w, hx, (u, hu, (y, hy, (k, hj, hk)))))))))))) =
      level d p forms.Grow here mid after t (grow at s v m x cap j) is kind (λ d' p'.
      then_agrees _ _ ((s, v, m), p' - parts_of s - parts_of v, g)
      (division_agrees d' p' s v m mid g (λ d p here after h. agrees_expr d p s here after h) (λ d p here after h. agrees_expr d p v here after h) (a, ha, (b, hs, (c, hc, (e, hv, (f, hf, hm))))))
      (λ fits. (omega (arith, fits.0), omega (arith, fits.0), omega (arith, fits.1))) (
      then_agrees _ _ i (taken_agrees _ g i hi) (λ fits. tt) (
      then_agrees _ _ (x, p' - parts_of s - parts_of v - parts_of x, w) (agrees_expr d' (p' - parts_of s - parts_of v) x i w hx) (λ fits. (omega (arith, fits.0), omega (arith, fits.1))) (
      then_agrees _ _ u (taken_agrees _ w u hu) (λ fits. tt) (
      then_agrees _ _ (cap, y) (one_agrees number_in tests_number cap u y hy) (λ fits. tt) (
      then_agrees _ _ (j, k) (refusal_agrees j y k after hj hk) (λ fits. tt) (
      then_agrees _ _ after (taken_agrees _ k after hk) (λ fits. tt) (
      agreed after _ _ (node_is (λ n. grow n s v m x cap j) _ at _ _ after start (omega arith))))))))))
