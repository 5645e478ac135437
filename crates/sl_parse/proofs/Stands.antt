-- Where the reader stops stands the fault, and no other fault stands.
use Rattle.std.proofs.Common.{◌≡◌, ℕ, zero, suc, ◌+◌, ◌≤◌, ◌<◌, Bool, true, false, cond, List, [], ◌∷◌, ◌++◌, map, length, Option, Some, None, Ok, Err, refl, sym, ap, ◌∙◌, arith, ◌⊎◌, inl, inr, append_assoc}
use Rattle.std.specs.Prelude.{is_some}
use Rattle.std.proofs.lemmas.Bool.{cases_lt}
use Rattle.std.proofs.lemmas.List.{append-nil, length-append}
use Rattle.sl_lex.specs.declared.keyword.Keyword.TheVariants as keywords
use Rattle.sl_lex.specs.declared.token.Mark.TheVariants as marks
use Rattle.sl_lex.specs.declared.token.Kind.{Kind}
use Rattle.sl_lex.specs.declared.token.Kind.TheVariants as kinds
use Rattle.sl_lex.specs.declared.token.Token.{Token}
use Rattle.sl_law_meaning.specs.book.Trees.{BookTree}
use Rattle.sl_parse.specs.declared.fault.Cause.{Cause}
use Rattle.sl_parse.specs.declared.fault.Cause.TheVariants.{Expected, TooDeep, TooManyStages, After}
use Rattle.sl_parse.specs.Grammar.{IsBook}
use Rattle.sl_parse.specs.Faults.{Limits, IsWhole, IsPrefix, begins_expr, StandsAt, IsFault}
use Rattle.sl_parse.specs.declared.form.Form.{Form}
use Rattle.sl_parse.specs.declared.form.Form.TheVariants as forms
use Rattle.sl_parse.specs.Words.{same_kind, form_of}
use Rattle.sl_parse.specs.inner.Reading.{Read, ◌>>=◌, this, vacate_in, read_book}
use Rattle.sl_parse.proofs.Machine.{Sym, one_of, expr, condition, or_more, after_method, clause, majority, refusal, vacate, stages, Move, goes, refused, over, Pending, expr_parts, condition_parts, full, ends_by, next, start, scan, run}
use Rattle.sl_parse.proofs.Runs.{wider, raise, MovesOn, Raised, raised, StopsAt, stopped, scan-run, run-whole, halves, run-append, run_one, run-raise, can_end}
use Rattle.sl_parse.proofs.Rules.{IsLimit}
use Rattle.sl_parse.proofs.ReadsBook.{InBook, BookRead, ReadsBook, reads_book, AreWithin}
use Rattle.sl_parse.proofs.AgreesBook.{book_agrees}
use Rattle.sl_parse.proofs.Late.{Late, late_too_deep, late_too_many}
use Rattle.sl_parse.proofs.OneTree.{finds_book}

abbrev and_ends : BookTree → Read (Unit {0})
and_ends b = Ok tt

read_err : (r : Read BookTree) (c : Cause) (rest : List Token) → (r >>= and_ends) ≡ Err (c, rest) → r ≡ Err (c, rest)
read_err (Ok b) c rest e = absurd cc
read_err (Err f) c rest e = let h : f ≡ (c, rest) = cc in ap (λ (x : Cause × List Token). Err x) h

read_ok : (r : Read BookTree) → (r >>= and_ends) ≡ Ok tt → (b : BookTree) × (r ≡ Ok b)
read_ok (Ok b) e = (b, refl)
read_ok (Err f) e = absurd cc

-- ---- moves over a limit

LimitMove : Move → Type 0
LimitMove (over c) = IsLimit c
LimitMove _ = Unit {0}

limit-cond : (b : Bool) (m n : Move) → LimitMove m → LimitMove n → LimitMove (cond b m n)
limit-cond true m n h k = h
limit-cond false m n h k = k

limit-parts : (d p : ℕ) (o : Option Form) → LimitMove (expr_parts d p o)
unfolding LimitMove
limit-parts d p None = tt
limit-parts d p (Some forms.Name) = tt
limit-parts d p (Some _) = tt

limit-condition : (p : ℕ) (kind : Kind) → LimitMove (condition_parts p kind)
unfolding LimitMove
limit-condition p (kinds.Keyword keywords.Valid) = tt
limit-condition p (kinds.Keyword keywords.Winners) = tt
limit-condition p (kinds.Keyword keywords.All) = tt
limit-condition p _ = tt

limit-full : (t : Token) → LimitMove (full t)
unfolding LimitMove
limit-full t = limit-cond (begins_expr t.kind) _ _ tt tt

limit-ends : (k : Kind) (p : ℕ) (t : Token) → LimitMove (ends_by k p t)
unfolding LimitMove
limit-ends k p t = limit-cond (is_some (this k t)) _ _ tt tt

-- the longer of two fronts goes on with a token that stands after the shorter
pub record Longer (front before behind : List Token) : Type 0 where
  pub t : Token
  pub mid : List Token
  pub rest : List Token
  pub front_is : front ≡ before ++ t ∷ mid
  pub behind_is : behind ≡ t ∷ rest

longer : (before front behind rest : List Token) → length before < length front → front ++ rest ≡ before ++ behind → Longer front before behind
longer [] [] behind rest lt e = absurd (omega arith)
longer [] (t ∷ front) behind rest lt e = record { t = t; mid = front; rest = front ++ rest; front_is = refl; behind_is = sym e }
longer (b ∷ before) [] behind rest lt e = absurd (omega arith)
longer (b ∷ before) (t ∷ front) behind rest lt e =
    let same : t ≡ b = cc in
    let tails : front ++ rest ≡ before ++ behind = cc in
    let lt' : length before < length front = omega arith in
    let r = longer before front behind rest lt' tails in
    record { t = r.t; mid = r.mid; rest = r.rest; front_is = rw same (ap (λ (x : List Token). b ∷ x) r.front_is); behind_is = r.behind_is }

-- two fronts of one length are one
same_split : (a b x y : List Token) → length a ≡ length b → a ++ x ≡ b ++ y → (a ≡ b) × (x ≡ y)
same_split [] [] x y len e = (refl, e)
same_split [] (t ∷ b) x y len e = absurd (omega arith)
same_split (s ∷ a) [] x y len e = absurd (omega arith)
same_split (s ∷ a) (t ∷ b) x y len e =
    let same : s ≡ t = cc in
    let tails : a ++ x ≡ b ++ y = cc in
    let r = same_split a b x y (omega arith) tails in
    (rw (same, r.0) refl, r.1)

module _ (text : List ℕ) (l : Limits) where
  limits : (s : Sym) (p : ℕ) (t : Token) → LimitMove (next text l s p t)
  unfolding LimitMove
  limits (one_of test k e) p t = limit-cond (test t) _ _ tt tt
  limits (expr zero) p t = limit-full t
  limits (expr (suc d)) zero t = limit-full t
  limits (expr (suc d)) (suc p) t = limit-parts d p (form_of t.kind)
  limits condition p t = limit-condition p t.kind
  limits or_more p t = limit-cond (same_kind t.kind (kinds.Keyword keywords.Or)) _ _ tt (limit-ends (kinds.Mark marks.Semicolon) p t)
  limits (after_method d) p t = limit-cond (same_kind t.kind (kinds.Mark marks.Comma)) _ _ tt (limit-ends (kinds.Mark marks.Close) p t)
  limits (clause d) p t = limit-cond (same_kind t.kind (kinds.Keyword keywords.Atleast)) _ _ tt (limit-cond (is_some (this (kinds.Keyword keywords.Majority) t)) _ _ tt tt)
  limits majority p t = limit-cond (same_kind t.kind (kinds.Mark marks.Comma)) _ _ tt (limit-ends (kinds.Mark marks.Close) p t)
  limits refusal p t = limit-cond (same_kind t.kind (kinds.Mark marks.Comma)) _ _ tt (limit-ends (kinds.Mark marks.Close) p t)
  limits vacate p t = limit-cond (is_some (vacate_in text t)) _ _ tt (limit-ends (kinds.Mark marks.Semicolon) p t)
  limits (stages zero) p t = limit-cond (same_kind t.kind (kinds.Keyword keywords.Stage)) _ _ tt (limit-ends (kinds.Keyword keywords.Seats) l.parts t)
  limits (stages (suc n)) p t = limit-cond (same_kind t.kind (kinds.Keyword keywords.Stage)) _ _ tt (limit-ends (kinds.Keyword keywords.Seats) l.parts t)

  over_is : (s : Sym) (p : ℕ) (t : Token) (c : Cause) → next text l s p t ≡ over c → IsLimit c
  unfolding LimitMove
  over_is s p t c e = let h : LimitMove (next text l s p t) = limits s p t in rw e at h

  -- ---- whole books and prefixes

  scan_ok : (p : ℕ) (ts : List Token) → scan text l (start text l) p ts ≡ Ok tt → IsWhole text ts
  scan_ok p ts e = go (read_book text l ts) (reads_book text l p ts)
    where
      go : (r : Read BookTree) → ReadsBook text l p ts r → IsWhole text ts
      go r h = let b = read_ok r (sym h.same ∙ e) in let told = rw b.1 at h.told in (b.0, told.is)

  whole_stops : (p : ℕ) (ts : List Token) (c : Cause) (rest : List Token) → IsWhole text ts → scan text l (start text l) p ts ≡ Err (c, rest) → IsLimit c
  whole_stops p ts c rest (b, h) e =
      let stops = read_err (read_book text l ts) c rest (sym (reads_book text l p ts).same ∙ e) in
      let finds = (book_agrees text l b ts h).finds in
      (rw stops at finds).0

  run_whole : (p q : ℕ) (front : List Token) → run text l (start text l) p front ≡ Some ([], q) → IsWhole text front
  unfolding scan
  run_whole p q front e =
      let s : scan text l (start text l) p (front ++ []) ≡ Ok tt = scan-run text l (start text l) p ([], q) front [] e in
      scan_ok p front (rw append-nil at s)

  not_whole : (p q : ℕ) (s : Sym) (left : List Sym) (front : List Token) → run text l (start text l) p front ≡ Some (s ∷ left, q) → IsWhole text front → ⊥
  unfolding scan
  not_whole p q s left front e whole =
      let h : scan text l (start text l) p (front ++ []) ≡ Err (Expected, []) = scan-run text l (start text l) p (s ∷ left, q) front [] e in
      whole_stops p front Expected [] whole (rw append-nil at h)

  not_prefix : (p q : ℕ) (s : Sym) (left : List Sym) (front : List Token) (t : Token) → run text l (start text l) p front ≡ Some (s ∷ left, q) → next text l s q t ≡ refused → IsPrefix text (front ++ t ∷ []) → ⊥
  unfolding scan
  not_prefix p q s left front t e no_move (more, whole) =
      let h : scan text l (start text l) p (front ++ t ∷ more) ≡ Err (Expected, t ∷ more) = scan-run text l (start text l) p (s ∷ left, q) front (t ∷ more) e ∙ rw no_move refl in
      let whole' : IsWhole text (front ++ t ∷ more) = rw append_assoc at whole in
      whole_stops p (front ++ t ∷ more) Expected (t ∷ more) whole' h

run_prefix : (text : List ℕ) (l : Limits) (p : ℕ) (x : Pending) (front : List Token) → run text l (start text l) p front ≡ Some x → IsPrefix text front
run_prefix text l p x front e =
    let m = can_end text l p x front e in
    (m.more, run_whole text m.limits m.room m.free (front ++ m.more) m.runs)

-- at a limit the tokens go on to be a prefix
over_prefix : (text : List ℕ) (l : Limits) (p q : ℕ) (s : Sym) (left : List Sym) (front : List Token) (t : Token) (c : Cause) → run text l (start text l) p front ≡ Some (s ∷ left, q) → next text l s q t ≡ over c → IsPrefix text (front ++ t ∷ [])
over_prefix text l p q s left front t c e moves =
    let w = wider l in
    let up : Raised (next text l s q t) (next text w (raise s) (suc q) t) = raised text l s q t in
    let on : MovesOn (next text w (raise s) (suc q) t) = rw moves at up in
    goes_on on.0 on.1 on.2
  where
    goes_on : (parts : List Sym) (r : ℕ) → next text (wider l) (raise s) (suc q) t ≡ goes parts r → IsPrefix text (front ++ t ∷ [])
    goes_on parts r is =
        let w = wider l in
        run_prefix text w (suc p) (parts ++ map raise left, r) (front ++ t ∷ []) (run-append text w (start text w) (suc p) (map raise (s ∷ left), suc q) (parts ++ map raise left, r) front (t ∷ [])
        (run-raise text l (start text l) p (s ∷ left, q) front e) (run_one text w (raise s) (map raise left) (suc q) t parts r is))

module _ (text : List ℕ) (l : Limits) where
  -- ---- where the reader stops

  -- a limit that the reader met is the fault's
  limit_stands : (c : Cause) (tokens front rest : List Token) → tokens ≡ front ++ rest → IsLimit c → (IsLimit c → InBook text l tokens c rest) → StandsAt text l c front rest
  limit_stands TooDeep tokens front rest e is told =
      let h = told is in
      let b = h.3.3 in
      rw (← e) (length h.3.0, b.levels, b.before, (h.3.1, (h.0, h.3.0, refl, (h.1, h.2, h.3.2)), b.to), b.begins, b.breaks)
  limit_stands TooManyStages tokens front rest e is told =
      let h = told is in
      rw (← e) ((h.0, h.3.0, h.3.1, (h.1, h.2, h.3.2)), h.3.3)
  limit_stands Expected tokens front rest e is told = absurd is
  limit_stands After tokens front rest e is told = absurd is

  stands : (p q : ℕ) (c : Cause) (tokens front rest : List Token) (left : List Sym) → tokens ≡ front ++ rest → run text l (start text l) p front ≡ Some (left, q) → StopsAt text l left q c rest
      → (IsLimit c → InBook text l tokens c rest) → StandsAt text l c front rest
  stands p q c tokens front [] [] e runs stops told = absurd stops
  stands p q c tokens front (t ∷ rest) [] e runs stops told = rw stops (run_whole text l p q front runs)
  stands p q c tokens front [] (s ∷ left) e runs stops told = rw stops (run_prefix text l p (s ∷ left, q) front runs, not_whole text l p q s left front runs)
  stands p q c tokens front (t ∷ rest) (s ∷ left) e runs (inl (no_move, is)) told =
      rw is (run_prefix text l p (s ∷ left, q) front runs, not_whole text l p q s left front runs, not_prefix text l p q s left front t runs no_move)
  stands p q c tokens front (t ∷ rest) (s ∷ left) e runs (inr moves) told = limit_stands c tokens front (t ∷ rest) e (over_is text l s q t c moves) told

  earlier_prefix : (before front mid : List Token) (t : Token) → front ≡ before ++ t ∷ mid → IsPrefix text front → IsPrefix text (before ++ t ∷ [])
  earlier_prefix before front mid t e (more, whole) =
      let parts : front ++ more ≡ (before ++ t ∷ []) ++ (mid ++ more) = rw e (append_assoc before (t ∷ mid) more ∙ sym (append_assoc before (t ∷ []) (mid ++ more))) in
      (mid ++ more, rw parts at whole)

  not_earlier : (p : ℕ) (x : Pending) (before front behind : List Token) → run text l (start text l) p front ≡ Some x → Longer front before behind → (IsWhole text before → ⊥)
  unfolding run
  not_earlier p x before front behind runs h whole =
      let two = halves text l (start text l) p x before (h.t ∷ h.mid) (rw h.front_is at runs) in
      go two.between two.first two.second
    where
      go : (between : Pending) → run text l (start text l) p before ≡ Some between → run text l between.0 between.1 (h.t ∷ h.mid) ≡ Some x → ⊥
      go ([], q) first second = cc
      go (s ∷ ss, q) first second = not_whole text l p q s ss before first whole

  -- what the reader found out about tokens that are no book within the limits
  record Found (tokens : List Token) (c : Cause) (rest : List Token) : Type 0 where
    front : List Token
    left : Pending
    parts : tokens ≡ front ++ rest
    runs : run text l (start text l) 0 front ≡ Some left
    stops : StopsAt text l left.0 left.1 c rest
    read : read_book text l tokens ≡ Err (c, rest)

  found : (tokens : List Token) (c : Cause) (rest : List Token) → read_book text l tokens ≡ Err (c, rest) → Found tokens c rest
  found tokens c rest e =
      let r = reads_book text l 0 tokens in
      let s = stopped text l (start text l) 0 tokens c rest (r.same ∙ ap (λ (x : Read BookTree). x >>= and_ends) e) in
      record { front = s.front; left = (s.left, s.room); parts = s.parts; runs = s.runs; stops = s.stops; read = e }

  least_of_all : (c : Cause) (tokens rest : List Token) (f : Found tokens c rest)
      → (other : Cause) (before behind : List Token) → tokens ≡ before ++ behind → StandsAt text l other before behind → length f.front ≤ length before
  least_of_all c tokens rest f other before behind e stands' =
      elim (cases_lt (length before) (length f.front)) [ inr le ↦ le | inl lt ↦ go other behind (longer before f.front behind rest lt (sym f.parts ∙ e)) e stands' ]
    where
      by_length : (d : Cause) (behind' : List Token) → tokens ≡ before ++ behind' → Late d tokens behind' (read_book text l tokens) → length f.front ≤ length before
      by_length d behind' is h =
          let s = h.stops in
          let short = rw f.read at s in
          let total : length f.front + length rest ≡ length before + length behind' = sym (length-append f.front rest) ∙ ap length (sym f.parts ∙ is) ∙ length-append before behind' in
          omega (arith, short.0)

      go : (other' : Cause) (behind' : List Token) → Longer f.front before behind' → tokens ≡ before ++ behind' → StandsAt text l other' before behind' → length f.front ≤ length before
      go Expected [] h is s = absurd cc h.behind_is
      go Expected (t ∷ more) h is s =
          let same : h.t ≡ t = cc h.behind_is in
          let p : IsPrefix text (before ++ h.t ∷ []) = earlier_prefix before f.front h.mid h.t h.front_is (run_prefix text l 0 f.left f.front f.runs) in
          absurd (s.2 (rw same at p))
      go After [] h is s = absurd s
      go After (t ∷ more) h is s = absurd (not_earlier 0 f.left before f.front (t ∷ more) f.runs h s)
      go TooDeep behind' h is s = by_length TooDeep behind' is (late_too_deep text l s.0 s.1 s.2 tokens behind' (rw is s.3) s.4 s.5)
      go TooManyStages behind' h is s = by_length TooManyStages behind' is (late_too_many text l tokens behind' (rw is s.0) s.1)

  stands_there : (tokens : List Token) (c : Cause) (rest : List Token) (f : Found tokens c rest) → StandsAt text l c f.front rest
  stands_there tokens c rest f =
      let told = (reads_book text l 0 tokens).told in
      let read = f.read in
      stands 0 f.left.1 c tokens f.front rest f.left.0 f.parts f.runs f.stops (rw read at told)

  pub is_fault : (tokens : List Token) (c : Cause) (rest : List Token) → read_book text l tokens ≡ Err (c, rest) → IsFault text l tokens c rest
  is_fault tokens c rest e =
      let f = found tokens c rest e in
      record { front = f.front; parts = f.parts; stands = stands_there tokens c rest f; least = least_of_all c tokens rest f }

  pub is_read : (tokens : List Token) (b : BookTree) → read_book text l tokens ≡ Ok b → BookRead text l tokens b
  is_read tokens b e = let told = (reads_book text l 0 tokens).told in rw e at told

  -- ---- one fault

  cause_at : (c d : Cause) (tokens front rest : List Token) (left : Pending) → tokens ≡ front ++ rest → run text l (start text l) 0 front ≡ Some left → StopsAt text l left.0 left.1 d rest
      → read_book text l tokens ≡ Err (d, rest) → StandsAt text l c front rest → c ≡ d
  cause_at Expected d tokens front [] ([], q) parts runs stops read s = absurd stops
  cause_at Expected d tokens front [] (x ∷ left, q) parts runs stops read s = sym stops
  cause_at Expected d tokens front (t ∷ rest) ([], q) parts runs stops read s = absurd (s.1 (run_whole text l 0 q front runs))
  cause_at Expected d tokens front (t ∷ rest) (x ∷ left, q) parts runs (inl (no_move, is)) read s = sym is
  cause_at Expected d tokens front (t ∷ rest) (x ∷ left, q) parts runs (inr moves) read s = absurd (s.2 (over_prefix text l 0 q x left front t d runs moves))
  cause_at After d tokens front [] left parts runs stops read s = absurd s
  cause_at After d tokens front (t ∷ rest) ([], q) parts runs stops read s = sym stops
  cause_at After d tokens front (t ∷ rest) (x ∷ left, q) parts runs stops read s = absurd (not_whole text l 0 q x left front runs s)
  cause_at TooDeep d tokens front rest left parts runs stops read s =
      let late = (late_too_deep text l s.0 s.1 s.2 tokens rest (rw parts s.3) s.4 s.5).stops in
      let there = rw read at late in
      sym (there.1 (omega arith))
  cause_at TooManyStages d tokens front rest left parts runs stops read s =
      let late = (late_too_many text l tokens rest (rw parts s.0) s.1).stops in
      let there = rw read at late in
      sym (there.1 (omega arith))

  the_fault : (tokens : List Token) (c d : Cause) (x y : List Token) → IsFault text l tokens c x → Found tokens d y → (c ≡ d) × (x ≡ y)
  the_fault tokens c d x y h f =
      let le : length h.front ≤ length f.front = h.least d f.front y f.parts (stands_there tokens d y f) in
      let ge : length f.front ≤ length h.front = least_of_all d tokens y f c h.front x h.parts h.stands in
      let same : (h.front ≡ f.front) × (x ≡ y) = same_split h.front f.front x y (omega arith) (sym h.parts ∙ f.parts) in
      let s = h.stands in
      (cause_at c d tokens f.front y f.left f.parts f.runs f.stops f.read (rw (same.0, same.1) at s), same.1)

  not_over : (front : List Token) → IsWhole text front → (q : ℕ) (t : Token) (more : List Token) (between : Pending) → run text l (start text l) 0 front ≡ Some between → run text l between.0 between.1 (t ∷ more) ≡ Some ([], q) → ⊥
  unfolding run
  not_over front whole q t more ([], p) first second = cc
  not_over front whole q t more (s ∷ left, p) first second = not_whole text l 0 p s left front first whole

  -- tokens that are a book within the limits have no fault
  pub no_fault : (tokens : List Token) (b : BookTree) (c : Cause) (rest : List Token) → IsBook text b tokens [] → AreWithin l l.stages b.stages → IsFault text l tokens c rest → ⊥
  no_fault tokens b c rest h fits fault = go c rest fault.front fault.parts fault.stands
    where
      read : read_book text l tokens ≡ Ok b
      read = finds_book text l b tokens h fits

      scanned : scan text l (start text l) 0 tokens ≡ Ok tt
      scanned = (reads_book text l 0 tokens).same ∙ ap (λ (x : Read BookTree). x >>= and_ends) read

      go : (c' : Cause) (rest' front : List Token) → tokens ≡ front ++ rest' → StandsAt text l c' front rest' → ⊥
      go Expected [] front parts s = let e : tokens ≡ front = parts ∙ append-nil front in s.1 (rw (← e) (b, h))
      go Expected (t ∷ more) front parts s =
          let e : tokens ≡ (front ++ t ∷ []) ++ more = parts ∙ sym (append_assoc front (t ∷ []) more) in
          s.2 (more, rw (← e) (b, h))
      go After [] front parts s = s
      go After (t ∷ more) front parts s =
          let all : scan text l (start text l) 0 (front ++ t ∷ more) ≡ Ok tt = rw parts at scanned in
          let whole = run-whole text l (start text l) 0 (front ++ t ∷ more) all in
          let two = halves text l (start text l) 0 ([], whole.0) front (t ∷ more) whole.1 in
          not_over front s whole.0 t more two.between two.first two.second
      go TooDeep rest' front parts s =
          let late = (late_too_deep text l s.0 s.1 s.2 tokens rest' (rw parts s.3) s.4 s.5).stops in
          rw read at late
      go TooManyStages rest' front parts s =
          let late = (late_too_many text l tokens rest' (rw parts s.0) s.1).stops in
          rw read at late

  pub one_fault : (tokens : List Token) (c d : Cause) (x y : List Token) → IsFault text l tokens c x → IsFault text l tokens d y → (c ≡ d) × (x ≡ y)
  one_fault tokens c d x y h k = go (read_book text l tokens) refl
    where
      go : (r : Read BookTree) → read_book text l tokens ≡ r → (c ≡ d) × (x ≡ y)
      go (Ok b) e = let told = is_read tokens b e in absurd (no_fault tokens b c x told.is told.within h)
      go (Err (f, z)) e =
          let there = found tokens f z e in
          let one = the_fault tokens c f x z h there in
          let two = the_fault tokens d f y z k there in
          (one.0 ∙ sym two.0, one.1 ∙ sym two.1)

-- tokens are a book within the limits, or have a fault
pub book_or_fault : (text : List ℕ) (l : Limits) (tokens : List Token) → ((b : BookTree) × BookRead text l tokens b) ⊎ ((c : Cause) × (rest : List Token) × IsFault text l tokens c rest)
book_or_fault text l tokens = go (read_book text l tokens) refl
  where
    go : (r : Read BookTree) → read_book text l tokens ≡ r → ((b : BookTree) × BookRead text l tokens b) ⊎ ((c : Cause) × (rest : List Token) × IsFault text l tokens c rest)
    go (Ok b) e = inl (b, is_read text l tokens b e)
    go (Err (c, rest)) e = inr (c, rest, is_fault text l tokens c rest e)
