-- The machine alone: where it stops, its run over two fronts, and that what it holds can be ended.
use Rattle.std.proofs.Common.{◌≡◌, ℕ, zero, suc, ◌≤◌, Bool, true, false, cond, List, [], ◌∷◌, ◌++◌, map, length, Option, Some, None, Ok, Err, refl, sym, ap, ◌∙◌, ◌⊎◌, inl, inr, arith}
use Rattle.std.specs.Prelude.{is_some}
use Rattle.std.proofs.lemmas.List.{map-append, length-map}
use Rattle.sl_lex.specs.declared.keyword.Keyword.TheVariants as keywords
use Rattle.sl_lex.specs.declared.token.Mark.TheVariants as marks
use Rattle.sl_lex.specs.declared.token.Kind.{Kind}
use Rattle.sl_lex.specs.declared.token.Kind.TheVariants as kinds
use Rattle.sl_lex.specs.declared.token.Token.{Token}
use Rattle.sl_parse.specs.declared.form.Form.{Form}
use Rattle.sl_parse.specs.declared.form.Form.TheVariants as forms
use Rattle.sl_parse.specs.Words.{same_kind, form_of}
use Rattle.sl_parse.specs.declared.fault.Cause.{Cause}
use Rattle.sl_parse.specs.declared.fault.Cause.TheVariants.{Expected, TooDeep, After}
use Rattle.sl_parse.specs.Faults.{Limits, begins_expr}
use Rattle.sl_parse.specs.inner.Reading.{Read, this, vacate_in}
use Rattle.sl_parse.proofs.Machine.{Sym, one_of, expr, condition, or_more, after_method, clause, majority, refusal, vacate, stages, made, Move, goes, refused, over, expr_parts, condition_parts, full, ends_by, next, start, Pending, scan_move, scan, run_move, run}

abbrev failed : Cause → List Token → Read (Unit {0})
failed c rest = Err (c, rest)

cause_is : (c d : Cause) (x y : List Token) → failed c x ≡ failed d y → c ≡ d
cause_is c d x y e = let h : (c, x) ≡ (d, y) = cc in ap (λ (p : Cause × List Token). p.0) h

rest_is : (c d : Cause) (x y : List Token) → failed c x ≡ failed d y → x ≡ y
rest_is c d x y e = let h : (c, x) ≡ (d, y) = cc in ap (λ (p : Cause × List Token). p.1) h

-- the limits, one more of each
abbrev pub wider : Limits → Limits
wider l = record { depth = suc l.depth; parts = suc l.parts; stages = suc l.stages }

-- a part under wider limits
abbrev pub raise : Sym → Sym
raise (expr d) = expr (suc d)
raise (after_method d) = after_method (suc d)
raise (clause d) = clause (suc d)
raise (stages n) = stages (suc n)
raise s = s

abbrev pub MovesOn : Move → Type 0
MovesOn m = (ss : List Sym) × (p : ℕ) × (m ≡ goes ss p)

abbrev pub Raised : Move → Move → Type 0
Raised (goes ss p) m = m ≡ goes (map raise ss) (suc p)
Raised refused m = Unit {0}
Raised (over c) m = MovesOn m

raised-cond : (b : Bool) (m n m' n' : Move) → Raised m m' → Raised n n' → Raised (cond b m n) (cond b m' n')
raised-cond true m n m' n' h k = h
raised-cond false m n m' n' h k = k

raised-parts : (d p : ℕ) (o : Option Form) → Raised (expr_parts d p o) (expr_parts (suc d) (suc p) o)
raised-parts d p None = tt
raised-parts d p (Some forms.Name) = refl
raised-parts d p (Some _) = refl

begins-moves : (d p : ℕ) (o : Option Form) → is_some o ≡ true → MovesOn (expr_parts d p o)
begins-moves d p None e = absurd cc
begins-moves d p (Some forms.Name) e = (_, _, refl)
begins-moves d p (Some _) e = (_, _, refl)

raised-full : (d p : ℕ) (t : Token) → Raised (full t) (expr_parts d p (form_of t.kind))
raised-full d p t = go (begins_expr t.kind) refl
  where
    go : (b : Bool) → begins_expr t.kind ≡ b → Raised (cond b (over TooDeep) refused) (expr_parts d p (form_of t.kind))
    go true is = begins-moves d p (form_of t.kind) is
    go false is = tt

raised-condition : (p : ℕ) (kind : Kind) → Raised (condition_parts p kind) (condition_parts (suc p) kind)
raised-condition p (kinds.Keyword keywords.Valid) = refl
raised-condition p (kinds.Keyword keywords.Winners) = refl
raised-condition p (kinds.Keyword keywords.Minority) = refl
raised-condition p (kinds.Keyword keywords.All) = refl
raised-condition p _ = tt

raised-ends : (k : Kind) (p : ℕ) (t : Token) → Raised (ends_by k p t) (ends_by k (suc p) t)
raised-ends k p t = raised-cond (is_some (this k t)) _ _ _ _ refl tt

-- tokens with which a part ends
abbrev shut : Sym → List Token
shut (one_of test t e) = t ∷ []
shut (expr d) = made (kinds.Keyword keywords.House) ∷ []
shut condition = made (kinds.Keyword keywords.All) ∷ []
shut or_more = made (kinds.Mark marks.Semicolon) ∷ []
shut (clause d) = made (kinds.Keyword keywords.Majority) ∷ made (kinds.Keyword keywords.Refuse) ∷ made (kinds.Mark marks.Close) ∷ []
shut vacate = made (kinds.Mark marks.Semicolon) ∷ []
shut (stages n) = made (kinds.Keyword keywords.Seats) ∷ []
shut s = made (kinds.Mark marks.Close) ∷ []

abbrev shut_all : List Sym → List Token
shut_all [] = []
shut_all (s ∷ ss) = shut s ++ shut_all ss

module _ (text : List ℕ) (l : Limits) where
  pub raised : (s : Sym) (p : ℕ) (t : Token) → Raised (next text l s p t) (next text (wider l) (raise s) (suc p) t)
  raised (one_of test k e) p t = raised-cond (test t) _ _ _ _ refl tt
  raised (expr zero) p t = raised-full 0 p t
  raised (expr (suc d)) zero t = raised-full (suc d) 0 t
  raised (expr (suc d)) (suc p) t = raised-parts d p (form_of t.kind)
  raised condition p t = raised-condition p t.kind
  raised or_more p t = raised-cond (same_kind t.kind (kinds.Keyword keywords.Or)) _ _ _ _ refl (raised-ends (kinds.Mark marks.Semicolon) p t)
  raised (after_method d) p t = raised-cond (same_kind t.kind (kinds.Mark marks.Comma)) _ _ _ _ refl (raised-ends (kinds.Mark marks.Close) p t)
  raised (clause d) p t = raised-cond (same_kind t.kind (kinds.Keyword keywords.Atleast)) _ _ _ _ refl (raised-cond (is_some (this (kinds.Keyword keywords.Majority) t)) _ _ _ _ refl tt)
  raised majority p t = raised-cond (same_kind t.kind (kinds.Mark marks.Comma)) _ _ _ _ refl (raised-ends (kinds.Mark marks.Close) p t)
  raised refusal p t = raised-cond (same_kind t.kind (kinds.Mark marks.Comma)) _ _ _ _ refl (raised-ends (kinds.Mark marks.Close) p t)
  raised vacate p t = raised-cond (is_some (vacate_in text t)) _ _ _ _ refl (raised-ends (kinds.Mark marks.Semicolon) p t)
  raised (stages zero) p t = raised-cond (same_kind t.kind (kinds.Keyword keywords.Stage)) _ _ _ _ (_, _, refl) (raised-ends (kinds.Keyword keywords.Seats) l.parts t)
  raised (stages (suc n)) p t = raised-cond (same_kind t.kind (kinds.Keyword keywords.Stage)) _ _ _ _ refl (raised-ends (kinds.Keyword keywords.Seats) l.parts t)

  -- the room that is left when a part has ended so
  record Shuts (n : ℕ) (s : Sym) (p : ℕ) : Type 0 where
    left : ℕ
    enough : n ≤ left
    ends : (ss : List Sym) (ts : List Token) → run text (wider l) (raise s ∷ ss) (suc p) (shut s ++ ts) ≡ run text (wider l) ss (suc left) ts

  shuts : (n : ℕ) (s : Sym) (p : ℕ) → suc n ≤ p → n ≤ l.parts → Shuts n s p
  unfolding run
  shuts n (one_of test k e) p h m = record { left = p; enough = omega arith; ends = λ ss ts. rw e refl }
  shuts n (expr d) zero h m = absurd (omega arith)
  shuts n (expr d) (suc p) h m = record { left = p; enough = omega arith; ends = λ ss ts. refl }
  shuts n (stages k) p h m = record { left = l.parts; enough = m; ends = λ ss ts. refl }
  shuts n s p h m = record { left = p; enough = omega arith; ends = λ ss ts. refl }

  -- ---- where the machine stops

  abbrev pub StopsAt : List Sym → ℕ → Cause → List Token → Type 0
  StopsAt [] p c [] = ⊥
  StopsAt [] p c (t ∷ rest) = c ≡ After
  StopsAt (s ∷ ss) p c [] = c ≡ Expected
  StopsAt (s ∷ ss) p c (t ∷ rest) = ((next text l s p t ≡ refused) × (c ≡ Expected)) ⊎ (next text l s p t ≡ over c)

  pub record Stopped (ss : List Sym) (p : ℕ) (ts : List Token) (c : Cause) (rest : List Token) : Type 0 where
    pub front : List Token
    pub left : List Sym
    pub room : ℕ
    pub parts : ts ≡ front ++ rest
    pub runs : run text l ss p front ≡ Some (left, room)
    pub stops : StopsAt left room c rest

  pub stopped : (ss : List Sym) (p : ℕ) (ts : List Token) (c : Cause) (rest : List Token) → scan text l ss p ts ≡ Err (c, rest) → Stopped ss p ts c rest
  unfolding scan run
  stopped [] p [] c rest e = absurd cc
  stopped [] p (t ∷ ts) c rest e =
      rw (← (rest_is After c (t ∷ ts) rest e)) (record { front = []; left = []; room = p; parts = refl; runs = refl; stops = sym (cause_is After c (t ∷ ts) rest e) })
  stopped (s ∷ ss) p [] c rest e =
      rw (← (rest_is Expected c [] rest e)) (record { front = []; left = s ∷ ss; room = p; parts = refl; runs = refl; stops = sym (cause_is Expected c [] rest e) })
  stopped (s ∷ ss) p (t ∷ ts) c rest e = go (λ parts q. stopped (parts ++ ss) q ts c rest) (next text l s p t) refl e
    where
      go : ((parts : List Sym) (q : ℕ) → scan text l (parts ++ ss) q ts ≡ Err (c, rest) → Stopped (parts ++ ss) q ts c rest) → (m : Move) → next text l s p t ≡ m
          → scan_move m (λ parts q. scan text l (parts ++ ss) q ts) (t ∷ ts) ≡ Err (c, rest) → Stopped (s ∷ ss) p (t ∷ ts) c rest
      go again (goes parts q) is h =
          let r = again parts q h in
          record { front = t ∷ r.front; left = r.left; room = r.room; parts = ap (λ (x : List Token). t ∷ x) r.parts; runs = rw is r.runs; stops = r.stops }
      go again refused is h =
          rw (← (rest_is Expected c (t ∷ ts) rest h)) (record { front = []; left = s ∷ ss; room = p; parts = refl; runs = refl; stops = inl (is, sym (cause_is Expected c (t ∷ ts) rest h)) })
      go again (over d) is h =
          rw (← (rest_is d c (t ∷ ts) rest h)) (record { front = []; left = s ∷ ss; room = p; parts = refl; runs = refl; stops = inr (is ∙ ap (λ (x : Cause). over x) (cause_is d c (t ∷ ts) rest h)) })

  -- the step that a run over tokens begins with
  record Moved (s : Sym) (ss : List Sym) (p : ℕ) (t : Token) (rest : List Token) (x : Pending) : Type 0 where
    parts : List Sym
    room : ℕ
    is : next text l s p t ≡ goes parts room
    runs : run text l (parts ++ ss) room rest ≡ Some x

  moved : (s : Sym) (ss : List Sym) (p : ℕ) (t : Token) (rest : List Token) (x : Pending) → run text l (s ∷ ss) p (t ∷ rest) ≡ Some x → Moved s ss p t rest x
  unfolding run
  moved s ss p t rest x e = go (next text l s p t) refl e
    where
      go : (m : Move) → next text l s p t ≡ m → run_move m (λ parts q. run text l (parts ++ ss) q rest) ≡ Some x → Moved s ss p t rest x
      go (goes parts q) is h = record { parts = parts; room = q; is = is; runs = h }
      go _ is h = absurd cc

  pub scan-run : (ss : List Sym) (p : ℕ) (x : Pending) (front rest : List Token) → run text l ss p front ≡ Some x → scan text l ss p (front ++ rest) ≡ scan text l x.0 x.1 rest
  unfolding scan run
  scan-run ss p x [] rest e = ap (λ (o : Option (Pending)). elim o [ None ↦ scan text l x.0 x.1 rest | Some y ↦ scan text l y.0 y.1 rest ]) e
  scan-run [] p x (t ∷ front) rest e = absurd cc
  scan-run (s ∷ ss) p x (t ∷ front) rest e = let m = moved s ss p t front x e in rw m.is (scan-run (m.parts ++ ss) m.room x front rest m.runs)

  -- what the machine reads to its end it runs over
  pub run-whole : (ss : List Sym) (p : ℕ) (ts : List Token) → scan text l ss p ts ≡ Ok tt → (q : ℕ) × (run text l ss p ts ≡ Some ([], q))
  unfolding scan run
  run-whole [] p [] e = (p, refl)
  run-whole [] p (t ∷ ts) e = absurd cc
  run-whole (s ∷ ss) p [] e = absurd cc
  run-whole (s ∷ ss) p (t ∷ ts) e = go (λ parts q. run-whole (parts ++ ss) q ts) (next text l s p t) e
    where
      go : ((parts : List Sym) (q : ℕ) → scan text l (parts ++ ss) q ts ≡ Ok tt → (r : ℕ) × (run text l (parts ++ ss) q ts ≡ Some ([], r))) → (m : Move)
          → scan_move m (λ parts q. scan text l (parts ++ ss) q ts) (t ∷ ts) ≡ Ok tt → (r : ℕ) × (run_move m (λ parts q. run text l (parts ++ ss) q ts) ≡ Some ([], r))
      go again (goes parts q) h = again parts q h
      go again refused h = absurd cc
      go again (over c) h = absurd cc

  -- a run over two fronts is two runs
  pub record Halves (ss : List Sym) (p : ℕ) (x : Pending) (a b : List Token) : Type 0 where
    pub between : Pending
    pub first : run text l ss p a ≡ Some between
    pub second : run text l between.0 between.1 b ≡ Some x

  pub halves : (ss : List Sym) (p : ℕ) (x : Pending) (a b : List Token) → run text l ss p (a ++ b) ≡ Some x → Halves ss p x a b
  unfolding run
  halves ss p x [] b e = record { between = (ss, p); first = refl; second = e }
  halves [] p x (t ∷ a) b e = absurd cc
  halves (s ∷ ss) p x (t ∷ a) b e =
      let m = moved s ss p t (a ++ b) x e in
      let r = halves (m.parts ++ ss) m.room x a b m.runs in
      record { between = r.between; first = rw m.is r.first; second = r.second }

  pub run-append : (ss : List Sym) (p : ℕ) (x y : Pending) (a b : List Token) → run text l ss p a ≡ Some x → run text l x.0 x.1 b ≡ Some y → run text l ss p (a ++ b) ≡ Some y
  unfolding run
  run-append ss p x y [] b e h = ap (λ (o : Option (Pending)). elim o [ None ↦ None | Some z ↦ run text l z.0 z.1 b ]) e ∙ h
  run-append [] p x y (t ∷ a) b e h = absurd cc
  run-append (s ∷ ss) p x y (t ∷ a) b e h = let m = moved s ss p t a x e in rw m.is (run-append (m.parts ++ ss) m.room x y a b m.runs h)

  pub run_one : (s : Sym) (ss : List Sym) (p : ℕ) (t : Token) (parts : List Sym) (q : ℕ) → next text l s p t ≡ goes parts q → run text l (s ∷ ss) p (t ∷ []) ≡ Some (parts ++ ss, q)
  unfolding run
  run_one s ss p t parts q e = rw e refl

  -- ---- under wider limits

  abbrev raised_pending : Option (Pending) → Option (Pending)
  raised_pending None = None
  raised_pending (Some x) = Some (map raise x.0, suc x.1)

  pub run-raise : (ss : List Sym) (p : ℕ) (x : Pending) (front : List Token) → run text l ss p front ≡ Some x → run text (wider l) (map raise ss) (suc p) front ≡ Some (map raise x.0, suc x.1)
  unfolding run
  run-raise ss p x [] e = ap raised_pending e
  run-raise [] p x (t ∷ front) e = absurd cc
  run-raise (s ∷ ss) p x (t ∷ front) e =
      let m = moved s ss p t front x e in
      let up : Raised (goes m.parts m.room) (next text (wider l) (raise s) (suc p) t) = rw m.is at (raised s p t) in
      rw up (ap (λ (z : List Sym). run text (wider l) z (suc m.room) front) (sym (map-append raise m.parts ss)) ∙ run-raise (m.parts ++ ss) m.room x front m.runs)

  finish : (ss : List Sym) (p : ℕ) → length ss ≤ p → length ss ≤ l.parts → (q : ℕ) × (run text (wider l) (map raise ss) (suc p) (shut_all ss) ≡ Some ([], q))
  unfolding run
  finish [] p h m = (suc p, refl)
  finish (s ∷ ss) p h m =
      let few : length ss ≤ l.parts = omega arith in
      let r = shuts (length ss) s p (omega arith) few in
      let more = finish ss r.left r.enough few in
      (more.0, r.ends (map raise ss) (shut_all ss) ∙ more.1)

-- the same front under some limits, with so much room left at least
record Roomy (text : List ℕ) (n k : ℕ) (front : List Token) : Type 0 where
  limits : Limits
  room : ℕ
  left : List Sym
  free : ℕ
  runs : run text limits (start text limits) room front ≡ Some (left, free)
  few : length left ≡ n
  enough : k ≤ free
  wide : k ≤ limits.parts

roomy : (text : List ℕ) (k : ℕ) (l : Limits) (p : ℕ) (x : Pending) (front : List Token) → run text l (start text l) p front ≡ Some x → Roomy text (length x.0) k front
roomy text zero l p x front e = record { limits = l; room = p; left = x.0; free = x.1; runs = e; few = refl; enough = omega arith; wide = omega arith }
roomy text (suc k) l p x front e =
    let r = roomy text k l p x front e in
    record {
      limits = wider r.limits;
      room = suc r.room;
      left = map raise r.left;
      free = suc r.free;
      runs = run-raise text r.limits (start text r.limits) r.room (r.left, r.free) front r.runs;
      few = length-map r.left raise ∙ r.few;
      enough = omega (arith, r.enough);
      wide = omega (arith, r.wide);
    }

-- under wider limits, what ran can be ended
pub record Ended (text : List ℕ) (front : List Token) : Type 0 where
  pub limits : Limits
  pub room : ℕ
  pub more : List Token
  pub free : ℕ
  pub runs : run text limits (start text limits) room (front ++ more) ≡ Some ([], free)

pub can_end : (text : List ℕ) (l : Limits) (p : ℕ) (x : Pending) (front : List Token) → run text l (start text l) p front ≡ Some x → Ended text front
can_end text l p x front e =
    let r = roomy text (length x.0) l p x front e in
    let f = finish text r.limits r.left r.free (omega (arith, r.few, r.enough)) (omega (arith, r.few, r.wide)) in
    let w = wider r.limits in
    record {
      limits = w;
      room = suc r.room;
      more = shut_all r.left;
      free = f.0;
      runs = run-append text w (start text w) (suc r.room) (map raise r.left, suc r.free) ([], f.0) front (shut_all r.left) (run-raise text r.limits (start text r.limits) r.room (r.left, r.free) front r.runs) f.1;
    }
