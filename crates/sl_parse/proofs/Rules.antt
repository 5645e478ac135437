-- What reading and the machine have in common: one token, and one part after another.
use Rattle.std.proofs.Common.{◌≡◌, ℕ, true, List, [], ◌∷◌, ◌++◌, Option, Some, None, Ok, Err, refl, sym, ap, ◌∙◌, append_assoc}
use Rattle.std.specs.Prelude.{is_some}
use Rattle.sl_lex.specs.declared.token.Kind.{Kind}
use Rattle.sl_lex.specs.declared.token.Token.{Token}
use Rattle.sl_parse.specs.declared.fault.Cause.{Cause}
use Rattle.sl_parse.specs.declared.fault.Cause.TheVariants.{Expected, TooDeep, TooManyStages, After}
use Rattle.sl_parse.specs.Grammar.{one_token, token}
use Rattle.sl_parse.specs.Faults.{Limits}
use Rattle.sl_parse.specs.inner.Reading.{Read, ◌>>=◌, one, found_or, this, taken}
use Rattle.sl_parse.proofs.Machine.{Sym, one_of, tok, made, scan}
use Rattle.sl_parse.proofs.TokenTests.{Tests, tests_kind}

-- the causes that are no want of a token
abbrev pub IsLimit : Cause → Type 0
IsLimit Expected = ⊥
IsLimit TooDeep = Unit {0}
IsLimit TooManyStages = Unit {0}
IsLimit After = ⊥

abbrev pub State : Type 0
State = ℕ × List Token

abbrev pub Told : {A : Type 0} → Read A → (A → Type 0) → (Cause → List Token → Type 0) → Type 0
Told (Ok x) P deep = P x
Told (Err e) P deep = IsLimit e.0 → deep e.0 e.1

module _ (text : List ℕ) (l : Limits) where
  pub record Reads {A : Type 0} (ss pend : List Sym) (st : State) (r : Read A) (p : A → State) (P : A → Type 0) (deep : Cause → List Token → Type 0) : Type 0 where
    pub same : (more : List Sym) → scan text l (ss ++ more) st.0 st.1 ≡ (r >>= λ x. scan text l (pend ++ more) (p x).0 (p x).1)
    pub told : Told r P deep

  pub then_reads : {A B : Type 0} {s : Sym} {ss pend pend' : List Sym} {st : State} {p : A → State} {P : A → Type 0} {deep : Cause → List Token → Type 0} {q : B → State} {Q : B → Type 0}
      (r : Read A) (f : A → Read B) → Reads (s ∷ []) pend st r p P deep → ((x : A) → P x → Reads (pend ++ ss) pend' (p x) (f x) q Q deep) → Reads (s ∷ ss) pend' st (r >>= f) q Q deep
  then_reads {ss = ss} {pend = pend} {p = p} (Ok x) f h k =
      record { same = λ more. h.same (ss ++ more) ∙ ap (λ (z : List Sym). scan text l z (p x).0 (p x).1) (sym (append_assoc pend ss more)) ∙ (k x h.told).same more; told = (k x h.told).told }
  then_reads {ss = ss} (Err e) f h k = record { same = λ more. h.same (ss ++ more); told = h.told }

  -- the same with several parts in front
  pub then_reads_front : {A B : Type 0} (front ss : List Sym) {pend pend' : List Sym} {st : State} {p : A → State} {P : A → Type 0} {deep : Cause → List Token → Type 0} {q : B → State} {Q : B → Type 0}
      (r : Read A) (f : A → Read B) → Reads front pend st r p P deep → ((x : A) → P x → Reads (pend ++ ss) pend' (p x) (f x) q Q deep) → Reads (front ++ ss) pend' st (r >>= f) q Q deep
  then_reads_front front ss {pend = pend} {st = st} {p = p} (Ok x) f h k = record {
    same = λ more. ap (λ (z : List Sym). scan text l z st.0 st.1) (append_assoc front ss more) ∙ h.same (ss ++ more) ∙ ap (λ (z : List Sym). scan text l z (p x).0 (p x).1) (sym (append_assoc pend ss more)) ∙ (k x h.told).same more;
    told = (k x h.told).told;
  }
  then_reads_front front ss {st = st} (Err e) f h k =
      record { same = λ more. ap (λ (z : List Sym). scan text l z st.0 st.1) (append_assoc front ss more) ∙ h.same (ss ++ more); told = h.told }

  pub ends : {A : Type 0} {pend : List Sym} {P : A → Type 0} {deep : Cause → List Token → Type 0} (p : A → State) (x : A) → P x → Reads pend pend (p x) (Ok x) p P deep
  ends p x h = record { same = λ more. refl; told = h }

  pub deeper : {A : Type 0} {ss pend : List Sym} {st : State} {p : A → State} {P : A → Type 0} {deep deep' : Cause → List Token → Type 0} (r : Read A)
      → Reads ss pend st r p P deep → ((c : Cause) (there : List Token) → deep c there → deep' c there) → Reads ss pend st r p P deep'
  deeper (Ok x) h f = record { same = h.same; told = h.told }
  deeper (Err e) h f = record { same = h.same; told = λ is. f e.0 e.1 (h.told is) }

  -- ---- one token

  pub reads_one : {A : Type 0} {P : A → Token → Type 0} {deep : Cause → List Token → Type 0} {parts : ℕ} (test : Token → Option A) (t : Token) (e : is_some (test t) ≡ true) → Tests test P → (ts : List Token)
      → Reads (one_of (λ t. is_some (test t)) t e ∷ []) [] (parts, ts) (one test ts) (λ x. (parts, x.1)) (λ x. one_token (P x.0) ts x.1) deep
  unfolding scan
  reads_one test t e tests [] = record { same = λ more. refl; told = λ is. absurd is }
  reads_one {A} {P} {deep} {parts} test t e tests (u ∷ ts) = go (test u) refl
    where
      go : (o : Option A) → test u ≡ o → Reads (one_of (λ t. is_some (test t)) t e ∷ []) [] (parts, u ∷ ts) (found_or o u ts) (λ x. (parts, x.1)) (λ x. one_token (P x.0) (u ∷ ts) x.1) deep
      go None is = record { same = λ more. rw is refl; told = λ h. absurd h }
      go (Some x) is = record { same = λ more. rw is refl; told = (u, refl, tests.is u x is) }

  pub reads_taken : {deep : Cause → List Token → Type 0} {parts : ℕ} (k : Kind) (e : is_some (this k (made k)) ≡ true) (ts : List Token)
      → Reads (tok k e ∷ []) [] (parts, ts) (taken k ts) (λ a. (parts, a)) (λ a. token k ts a) deep
  unfolding taken
  reads_taken {deep} {parts} k e ts = go (one (this k) ts) (reads_one (this k) (made k) e (tests_kind k) ts)
    where
      go : (r : Read (Unit {0} × List Token)) → Reads (tok k e ∷ []) [] (parts, ts) r (λ x. (parts, x.1)) (λ x. one_token (λ t. t.kind ≡ k) ts x.1) deep
          → Reads (tok k e ∷ []) [] (parts, ts) (r >>= λ x. Ok x.1) (λ a. (parts, a)) (λ a. token k ts a) deep
      go (Ok x) h = record { same = h.same; told = h.told }
      go (Err e) h = record { same = h.same; told = h.told }
