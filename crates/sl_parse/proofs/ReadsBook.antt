-- Conditions, stages and books: what is read is in the grammar and within the limits, and the machine goes along.
use Rattle.std.proofs.Common.{◌≡◌, ℕ, zero, suc, ◌-◌, ◌≤◌, ◌<◌, Bool, true, false, cond, List, [], ◌∷◌, ◌++◌, length, Option, Some, None, Ok, Err, refl, ap, ◌⊎◌, arith}
use Rattle.sl_lex.specs.declared.keyword.Keyword.TheVariants as keywords
use Rattle.sl_lex.specs.declared.token.Kind.{Kind}
use Rattle.sl_lex.specs.declared.token.Kind.TheVariants as kinds
use Rattle.sl_lex.specs.declared.token.Token.{Token}
use Rattle.sl_law_meaning.specs.declared.book.Base.{Base}
use Rattle.sl_law_meaning.specs.declared.book.Base.TheVariants as bases
use Rattle.sl_law_meaning.specs.declared.book.Cond.{Cond}
use Rattle.sl_law_meaning.specs.declared.book.Cond.TheVariants as conditions
use Rattle.sl_law_meaning.specs.declared.book.Number.{Number}
use Rattle.sl_law_meaning.specs.book.Trees.{StageTree, BookTree}
use Rattle.sl_law_meaning.specs.book.Limits.{depth_of, parts_of}
use Rattle.sl_parse.specs.Words.{same_kind}
use Rattle.sl_parse.specs.declared.fault.Cause.{Cause}
use Rattle.sl_parse.specs.declared.fault.Cause.TheVariants.{Expected, TooDeep, TooManyStages, After}
use Rattle.sl_parse.specs.Grammar.{keyword, token, number, one_token, IsStage, AreStages, IsCondition, AreMore, AreConditions, HeadTree, IsHead, IsBase, IsVacate, IsLast, IsBook}
use Rattle.sl_parse.specs.Faults.{Limits, Begins, BeginsExpr, InStage}
use Rattle.sl_parse.specs.inner.Reading.{Read, ◌>>=◌, one, this, taken, number_in, name_in, quoted_in, vacate_in, seating_in, base_in, read_stage, read_stages, read_valid, read_winners, read_condition_at, read_condition, read_more, read_conditions, read_head, vacate_or, read_vacate, read_last, book_from, nothing_after, read_front, read_book}
use Rattle.sl_parse.proofs.SameKind.{same-kind, kind-same}
use Rattle.sl_parse.proofs.Machine.{Sym, made, expr, condition, or_more, vacate, stages, tok, semicolon_sym, equals_sym, name_sym, number_sym, head_syms, last_syms, start, scan}
use Rattle.sl_parse.proofs.Rules.{State, Reads, Told, then_reads, then_reads_front, ends, deeper, reads_one, reads_taken}
use Rattle.sl_parse.proofs.TokenTests.{IsBaseToken, tests_kind, tests_number, tests_name, tests_vacate, tests_quoted, tests_base, tests_seating}
use Rattle.sl_parse.proofs.ReadsExpr.{reads_expr}

abbrev Deep : Type 1
Deep = Cause → List Token → Type 0

-- ---- conditions

pub condition-shorter : (c : Cond) (here after : List Token) → IsCondition c here after → length after < length here
condition-shorter (conditions.Valid share per) here after (a, ha, (b, hb, (c, hc, (d, hd, (e, he, hf))))) = omega (arith, ap length ha.1, ap length hb.1, ap length hc.1, ap length hd.1, ap length he.1, ap length hf.1)
condition-shorter (conditions.Winners least) here after (a, ha, (b, hb, (c, hc, hd))) = omega (arith, ap length ha.1, ap length hb.1, ap length hc.1, ap length hd.1)
condition-shorter conditions.Minority here after (t, is, kind) = rw is (omega arith)
condition-shorter conditions.All here after (t, is, kind) = rw is (omega arith)

module _ (text : List ℕ) (l : Limits) (deep : Deep) (p : ℕ) where
  number-told : (n : Number) (here after : List Token) → number n here after → token (kinds.Number n.value) here after
  number-told n here after (t, is, h) = (t, is, h.0)

  ReadsCondition : List Sym → List Token → List Token → Read (Cond × List Token) → Type 0
  ReadsCondition ss whole here r = Reads text l ss [] (p, here) r (λ x. (p, x.1)) (λ x. IsCondition x.0 whole x.1) deep

  reads_valid : (t : Token) (ts : List Token) → t.kind ≡ kinds.Keyword keywords.Valid
      → ReadsCondition (tok (kinds.Keyword keywords.At) refl ∷ tok (kinds.Keyword keywords.Least) refl ∷ number_sym ∷ tok (kinds.Keyword keywords.Per) refl ∷ number_sym ∷ []) (t ∷ ts) ts (read_valid ts)
  unfolding read_valid ReadsCondition
  reads_valid t ts is =
      then_reads text l _ _ (reads_taken text l _ refl ts) (λ a ha.
      then_reads text l _ _ (reads_taken text l _ refl a) (λ b hb.
      then_reads text l _ _ (reads_one text l number_in _ refl tests_number b) (λ n hn.
      then_reads text l _ _ (reads_taken text l _ refl n.1) (λ c hc.
      then_reads text l _ _ (reads_one text l number_in _ refl tests_number c) (λ m hm.
      ends text l (λ x. (p, x.1)) (conditions.Valid n.0 m.0.value, m.1) (ts, (t, refl, is), (a, ha, (b, hb, (n.1, hn, (c, hc, number-told m.0 c m.1 hm))))))))))

  reads_winners : (t : Token) (ts : List Token) → t.kind ≡ kinds.Keyword keywords.Winners
      → ReadsCondition (tok (kinds.Keyword keywords.At) refl ∷ tok (kinds.Keyword keywords.Least) refl ∷ number_sym ∷ []) (t ∷ ts) ts (read_winners ts)
  unfolding read_winners ReadsCondition
  reads_winners t ts is =
      then_reads text l _ _ (reads_taken text l _ refl ts) (λ a ha.
      then_reads text l _ _ (reads_taken text l _ refl a) (λ b hb.
      then_reads text l _ _ (reads_one text l number_in _ refl tests_number b) (λ n hn.
      ends text l (λ x. (p, x.1)) (conditions.Winners n.0.value, n.1) (ts, (t, refl, is), (a, ha, (b, hb, number-told n.0 b n.1 hn))))))

  reads_condition_at : (k : Kind) (t : Token) (ts : List Token) → t.kind ≡ k → ReadsCondition (condition ∷ []) (t ∷ ts) (t ∷ ts) (read_condition_at k t ts)
  unfolding read_condition_at scan ReadsCondition
  reads_condition_at (kinds.Keyword keywords.Valid) t ts is = let r = reads_valid t ts is in record { same = λ more. rw is (r.same more); told = r.told }
  reads_condition_at (kinds.Keyword keywords.Winners) t ts is = let r = reads_winners t ts is in record { same = λ more. rw is (r.same more); told = r.told }
  reads_condition_at (kinds.Keyword keywords.Minority) t ts is = record { same = λ more. rw is refl; told = (t, refl, is) }
  reads_condition_at (kinds.Keyword keywords.All) t ts is = record { same = λ more. rw is refl; told = (t, refl, is) }
  reads_condition_at _ t ts is = record { same = λ more. rw is refl; told = λ h. absurd h }

  reads_condition : (ts : List Token) → Reads text l (condition ∷ []) [] (p, ts) (read_condition ts) (λ x. (p, x.1)) (λ x. IsCondition x.0 ts x.1) deep
  unfolding read_condition scan ReadsCondition
  reads_condition [] = record { same = λ more. refl; told = λ is. absurd is }
  reads_condition (t ∷ ts) = reads_condition_at t.kind t ts refl

  ReadsMore : List Sym → List Token → Read (List Cond × List Token) → Type 0
  ReadsMore ss ts r = Reads text l ss (semicolon_sym ∷ []) (p, ts) r (λ x. (p, x.1)) (λ x. AreMore x.0 ts x.1) deep

  reads_more : (n : ℕ) (ts : List Token) → length ts ≤ n → ReadsMore (or_more ∷ []) ts (read_more n ts)
  unfolding read_more scan ReadsMore
  reads_more zero [] le = record { same = λ more. refl; told = refl }
  reads_more zero (t ∷ ts) le = absurd (omega arith)
  reads_more (suc n) [] le = record { same = λ more. refl; told = refl }
  reads_more (suc n) (t ∷ ts) le = go (same_kind t.kind (kinds.Keyword keywords.Or)) refl (reads_more n)
    where
      go : (b : Bool) → same_kind t.kind (kinds.Keyword keywords.Or) ≡ b → ((ts' : List Token) → length ts' ≤ n → ReadsMore (or_more ∷ []) ts' (read_more n ts'))
          → ReadsMore (or_more ∷ []) (t ∷ ts) (cond b (taken (kinds.Keyword keywords.Or) (t ∷ ts) >>= λ a. read_condition a >>= λ c. read_more n c.1 >>= λ cs. Ok (c.0 ∷ cs.0, cs.1)) (Ok ([], t ∷ ts)))
      go true is again =
          let r : ReadsMore (tok (kinds.Keyword keywords.Or) refl ∷ condition ∷ or_more ∷ []) (t ∷ ts) (taken (kinds.Keyword keywords.Or) (t ∷ ts) >>= λ a. read_condition a >>= λ c. read_more n c.1 >>= λ cs. Ok (c.0 ∷ cs.0, cs.1)) =
          then_reads text l _ _ (reads_taken text l _ refl (t ∷ ts)) (λ a ha.
          then_reads text l _ _ (reads_condition a) (λ c hc.
          let shorter : length c.1 ≤ n = omega (arith, condition-shorter c.0 a c.1 hc, ap length ha.1, le) in
          then_reads text l _ _ (again c.1 shorter) (λ cs hcs.
          ends text l (λ x. (p, x.1)) (c.0 ∷ cs.0, cs.1) (a, ha, (c.1, hc, hcs))))) in
          record { same = λ more. rw is (rw is at (r.same more)); told = r.told }
      go false is again = record { same = λ more. rw is refl; told = refl }

  reads_conditions : (ts : List Token) → Reads text l (condition ∷ or_more ∷ []) (semicolon_sym ∷ []) (p, ts) (read_conditions ts) (λ x. (p, x.1)) (λ x. AreConditions x.0 ts x.1) deep
  unfolding read_conditions ReadsMore
  reads_conditions ts =
      then_reads text l _ _ (reads_condition ts) (λ c hc.
      then_reads text l _ _ (reads_more (length c.1) c.1 (omega arith)) (λ cs hcs.
      ends text l (λ x. (p, x.1)) (c.0 ∷ cs.0, cs.1) (c.1, hc, hcs)))

  pub reads_head : (ts : List Token) → Reads text l (head_syms text l) [] (p, ts) (read_head text ts) (λ x. (p, x.1)) (λ x. IsHead text x.0 ts x.1) deep
  unfolding read_head
  reads_head ts =
      then_reads text l _ _ (reads_taken text l _ refl ts) (λ a ha.
      then_reads text l _ _ (reads_one text l number_in _ refl tests_number a) (λ v hv.
      then_reads text l _ _ (reads_taken text l _ refl v.1) (λ b hb.
      then_reads text l _ _ (reads_taken text l _ refl b) (λ c hc.
      then_reads text l _ _ (reads_one text l (quoted_in text) _ refl (tests_quoted text) c) (λ n hn.
      then_reads text l _ _ (reads_taken text l _ refl n.1) (λ d hd.
      then_reads text l _ _ (reads_taken text l _ refl d) (λ e he.
      then_reads text l _ _ (reads_one text l number_in _ refl tests_number e) (λ h hh.
      then_reads text l _ _ (reads_taken text l _ refl h.1) (λ f hf.
      then_reads text l _ _ (reads_taken text l _ refl f) (λ g hg.
      then_reads_front text l (condition ∷ or_more ∷ []) [] _ _ (reads_conditions g) (λ cs hcs.
      then_reads text l _ _ (reads_taken text l _ refl cs.1) (λ i hi.
      ends text l (λ x. (p, x.1)) (record { version = v.0; law = n.0; house = h.0; eligible = cs.0 }, i)
      (a, ha, (v.1, hv, (b, hb, (c, hc, (n.1, hn, (d, hd, (e, he, (h.1, hh, (f, hf, (g, hg, (cs.1, hcs, hi)))))))))))))))))))))))

  base-told : (x : Base × ℕ) (here after : List Token) → one_token (IsBaseToken text x) here after → IsBase text x.0 x.1 here after
  base-told (bases.Winners, at) here after h = h
  base-told (bases.Stage name, at) here after h = h

  reads_vacate : (ts : List Token) → Reads text l (vacate ∷ []) (semicolon_sym ∷ []) (p, ts) (read_vacate text ts) (λ x. (p, x.1)) (λ x. IsVacate text x.0 ts x.1) deep
  unfolding read_vacate scan
  reads_vacate [] = record { same = λ more. refl; told = refl }
  reads_vacate (t ∷ ts) = go (vacate_in text t) refl
    where
      go : (o : Option ℕ) → vacate_in text t ≡ o → Reads text l {A = Option ℕ × List Token} (vacate ∷ []) (semicolon_sym ∷ []) (p, t ∷ ts) (vacate_or o t ts) (λ x. (p, x.1)) (λ x. IsVacate text x.0 (t ∷ ts) x.1) deep
      go None is = record { same = λ more. rw is refl; told = refl }
      go (Some at) is = record { same = λ more. rw is refl; told = (t, refl, (tests_vacate text).is t at is) }

  reads_last : (ts : List Token) → Reads text l (tok (kinds.Keyword keywords.Seats) refl ∷ last_syms text l) [] (p, ts) (read_last text ts) (λ x. (p, x.1)) (λ x. IsLast text x.0 ts x.1) deep
  unfolding read_last
  reads_last ts =
      then_reads text l _ _ (reads_taken text l _ refl ts) (λ a ha.
      then_reads text l _ _ (reads_one text l (base_in text) _ refl (tests_base text) a) (λ b hb.
      then_reads text l _ _ (reads_one text l seating_in _ refl tests_seating b.1) (λ s hs.
      then_reads text l _ _ (reads_vacate s.1) (λ v hv.
      then_reads text l _ _ (reads_taken text l _ refl v.1) (λ c hc.
      ends text l (λ x. (p, x.1)) (record { base = b.0.0; at = b.0.1; seating = s.0; vacate = v.0 }, c)
      (a, ha, (b.1, base-told b.0 a b.1 hb, (s.1, hs, (v.1, hv, hc)))))))))

-- what was read is shorter

abbrev nowhere : Limits
nowhere = record { depth = 0; parts = 0; stages = 0 }

pub taken-shorter : (k : Kind) (ts a : List Token) → taken k ts ≡ Ok a → length a < length ts
unfolding taken
taken-shorter k ts a e = go (one (this k) ts) (reads_one [] nowhere {deep = λ _ _. Unit {0}} {parts = 0} (this k) (made k) (rw (kind-same k) refl) (tests_kind k) ts).told e
  where
    go : (r : Read (Unit {0} × List Token)) → Told r (λ x. one_token (λ t. t.kind ≡ k) ts x.1) (λ _ _. Unit {0}) → (r >>= λ x. Ok x.1) ≡ Ok a → length a < length ts
    go (Ok x) told is = let same : x.1 ≡ a = cc in rw (← same) (omega (arith, ap length told.1))
    go (Err f) told is = absurd cc

pub read_condition-shorter : (ts : List Token) (c : Cond) (after : List Token) → read_condition ts ≡ Ok (c, after) → length after < length ts
read_condition-shorter ts c after e =
    let told = (reads_condition [] nowhere (λ _ _. Unit {0}) 0 ts).told in
    condition-shorter c ts after (rw e at told)

-- ---- stages

-- each stage is within the limits, and there are so many at most
abbrev pub AreWithin : Limits → ℕ → List StageTree → Type 0
AreWithin l n [] = Unit {0}
AreWithin l zero (s ∷ ss) = ⊥
AreWithin l (suc n) (s ∷ ss) = (depth_of s.expr ≤ l.depth) × (parts_of s.expr ≤ l.parts) × AreWithin l n ss

module _ (text : List ℕ) (l : Limits) where
  -- from the first token of a stage to that of an expression in it that breaks a limit
  pub record Breaks (here there : List Token) : Type 0 where
    pub levels : ℕ
    pub before : ℕ
    pub to : InStage text levels before here there
    pub begins : BeginsExpr there
    pub breaks : (levels ≡ l.depth) ⊎ (before ≡ l.parts)

  abbrev stage_syms : List Sym
  stage_syms = tok (kinds.Keyword keywords.Stage) refl ∷ name_sym text ∷ equals_sym ∷ expr l.depth ∷ semicolon_sym ∷ []

  pub record StageRead (here : List Token) (x : StageTree × List Token) : Type 0 where
    pub is : IsStage text x.0 here x.1
    pub depth : depth_of x.0.expr ≤ l.depth
    pub parts : parts_of x.0.expr ≤ l.parts

  -- what is left when a stage is read
  abbrev after_stage : StageTree × List Token → State
  after_stage x = (l.parts - parts_of x.0.expr, x.1)

  reads_stage : (ts : List Token) → Reads text l stage_syms [] (l.parts, ts) (read_stage text l ts) after_stage (StageRead ts) (λ c there. (c ≡ TooDeep) × Breaks ts there)
  unfolding read_stage
  reads_stage ts =
      then_reads text l _ _ (reads_taken text l _ refl ts) (λ a ha.
      then_reads text l _ _ (reads_one text l (name_in text) _ refl (tests_name text) a) (λ n hn.
      then_reads text l _ _ (reads_taken text l _ refl n.1) (λ b hb.
      then_reads text l _ _ (deeper text l _ (reads_expr text l l.depth l.parts b)
      (λ c there d. (d.0, record { levels = d.1.levels; before = d.1.before; to = (n.0.0, n.0.1, (a, ha, (n.1, hn, (b, hb, d.1.to)))); begins = d.1.begins; breaks = d.1.breaks }))) (λ e he.
      then_reads text l _ _ (reads_taken text l _ refl e.2) (λ c hc.
      let left : e.1 ≡ l.parts - parts_of e.0 = omega (arith, he.parts) in
      rw left (ends text l after_stage (record { name = n.0.0; at = n.0.1; expr = e.0 }, c) (record {
        is = (a, ha, (n.1, hn, (b, hb, (e.2, he.is, hc))));
        depth = he.depth;
        parts = omega (arith, he.parts);
      })))))))

  -- where the stages stop at a limit
  abbrev pub InStages : ℕ → List Token → Cause → List Token → Type 0
  InStages n here TooDeep there = (ss : List StageTree) × (b : List Token) × AreStages text ss here b × Breaks b there
  InStages n here TooManyStages there = (ss : List StageTree) × (length ss ≡ n) × AreStages text ss here there × Begins (keyword keywords.Stage) there
  InStages n here Expected there = ⊥
  InStages n here After there = ⊥

  pub record StagesRead (n : ℕ) (here : List Token) (x : List StageTree × List Token) : Type 0 where
    pub is : AreStages text x.0 here x.1
    pub within : AreWithin l n x.0

  later : (n : ℕ) (s : StageTree) (here b : List Token) → IsStage text s here b → (c : Cause) (there : List Token) → InStages n b c there → InStages (suc n) here c there
  later n s here b hs TooDeep there h = (s ∷ h.0, h.1, (b, hs, h.2), h.3)
  later n s here b hs TooManyStages there h = (s ∷ h.0, ap suc h.1, (b, hs, h.2), h.3)
  later n s here b hs Expected there h = h
  later n s here b hs After there h = h

  deep_first : (n : ℕ) (here : List Token) (c : Cause) (there : List Token) → (c ≡ TooDeep) × Breaks here there → InStages n here c there
  deep_first n here c there (is, b) = rw is ([], here, refl, b)

  abbrev pub ReadsStages : ℕ → List Sym → ℕ → List Token → Read (List StageTree × List Token) → Type 0
  ReadsStages n ss p ts r = Reads text l ss (tok (kinds.Keyword keywords.Seats) refl ∷ []) (p, ts) r (λ x. (l.parts, x.1)) (StagesRead n ts) (InStages n ts)

  pub reads_stages : (n p : ℕ) (ts : List Token) → ReadsStages n (stages n ∷ []) p ts (read_stages text l n ts)
  unfolding read_stages scan
  reads_stages zero p [] = record { same = λ more. refl; told = record { is = refl; within = tt } }
  reads_stages zero p (t ∷ ts) = go (same_kind t.kind (kinds.Keyword keywords.Stage)) refl
    where
      go : (b : Bool) → same_kind t.kind (kinds.Keyword keywords.Stage) ≡ b → ReadsStages zero (stages zero ∷ []) p (t ∷ ts) (cond b (Err (TooManyStages, t ∷ ts)) (Ok ([], t ∷ ts)))
      go true is = record { same = λ more. rw is refl; told = λ h. ([], refl, refl, (ts, (t, refl, same-kind _ _ is))) }
      go false is = record { same = λ more. rw is refl; told = record { is = refl; within = tt } }
  reads_stages (suc n) p [] = record { same = λ more. refl; told = record { is = refl; within = tt } }
  reads_stages (suc n) p (t ∷ ts) = go (same_kind t.kind (kinds.Keyword keywords.Stage)) refl (reads_stages n)
    where
      go : (b : Bool) → same_kind t.kind (kinds.Keyword keywords.Stage) ≡ b → ((q : ℕ) (ts' : List Token) → ReadsStages n (stages n ∷ []) q ts' (read_stages text l n ts'))
          → ReadsStages (suc n) (stages (suc n) ∷ []) p (t ∷ ts) (cond b (read_stage text l (t ∷ ts) >>= λ s. read_stages text l n s.1 >>= λ ss. Ok (s.0 ∷ ss.0, ss.1)) (Ok ([], t ∷ ts)))
      go true is again =
          let r : ReadsStages (suc n) (stage_syms ++ stages n ∷ []) l.parts (t ∷ ts) (read_stage text l (t ∷ ts) >>= λ s. read_stages text l n s.1 >>= λ ss. Ok (s.0 ∷ ss.0, ss.1)) =
          then_reads_front text l stage_syms (stages n ∷ []) _ _ (deeper text l _ (reads_stage (t ∷ ts)) (deep_first (suc n) (t ∷ ts))) (λ s hs.
          then_reads text l _ _ (deeper text l _ (again _ s.1) (later n s.0 (t ∷ ts) s.1 hs.is)) (λ ss hss.
          ends text l (λ x. (l.parts, x.1)) (s.0 ∷ ss.0, ss.1) (record { is = (s.1, hs.is, hss.is); within = (hs.depth, hs.parts, hss.within) }))) in
          record { same = λ more. rw is (rw is at (r.same more)); told = r.told }
      go false is again = record { same = λ more. rw is refl; told = record { is = refl; within = tt } }

  -- where a book stops at a limit
  abbrev pub InBook : List Token → Cause → List Token → Type 0
  InBook here c there = (h : HeadTree) × (b : List Token) × IsHead text h here b × InStages l.stages b c there

  -- a book and nothing after it
  pub record BookRead (ts : List Token) (b : BookTree) : Type 0 where
    pub is : IsBook text b ts []
    pub within : AreWithin l l.stages b.stages

  pub record ReadsBook (p : ℕ) (ts : List Token) (r : Read BookTree) : Type 0 where
    pub same : scan text l (start text l) p ts ≡ (r >>= λ b. Ok tt)
    pub told : Told r (BookRead ts) (InBook ts)

  reads_front : (p : ℕ) (ts : List Token) → Reads text l (start text l) [] (p, ts) (read_front text l ts) (λ x. (l.parts, x.1)) (λ x. IsBook text x.0 ts x.1 × AreWithin l l.stages x.0.stages) (InBook ts)
  unfolding read_front
  reads_front p ts =
      then_reads_front text l (head_syms text l) (stages l.stages ∷ last_syms text l) _ _ (reads_head text l (InBook ts) p ts) (λ h hh.
      then_reads text l _ _ (deeper text l _ (reads_stages l.stages p h.1) (λ c there d. (h.0, h.1, hh, d))) (λ ss hss.
      then_reads_front text l (tok (kinds.Keyword keywords.Seats) refl ∷ last_syms text l) [] _ _ (reads_last text l (InBook ts) l.parts ss.1) (λ c hc.
      ends text l (λ x. (l.parts, x.1)) (book_from h.0 ss.0 c.0, c.1) ((h.1, hh, (ss.1, hss.is, hc)), hss.within))))

  pub reads_book : (p : ℕ) (ts : List Token) → ReadsBook p ts (read_book text l ts)
  unfolding read_book scan
  reads_book p ts = go (read_front text l ts) (reads_front p ts)
    where
      go : (r : Read (BookTree × List Token)) → Reads text l (start text l) [] (p, ts) r (λ x. (l.parts, x.1)) (λ x. IsBook text x.0 ts x.1 × AreWithin l l.stages x.0.stages) (InBook ts)
          → ReadsBook p ts (r >>= λ b. nothing_after b.0 b.1)
      go (Ok (b, [])) h = record { same = h.same []; told = record { is = h.told.0; within = h.told.1 } }
      go (Ok (b, t ∷ rest)) h = record { same = h.same []; told = λ is. absurd is }
      go (Err e) h = record { same = h.same []; told = h.told }
