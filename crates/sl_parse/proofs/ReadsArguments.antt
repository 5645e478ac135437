-- What is read inside an expression is in the grammar and within the limits, and the machine goes along.
use Rattle.std.proofs.Common.{◌≡◌, ℕ, suc, ◌+◌, ◌≤◌, Bool, true, false, cond, List, [], ◌∷◌, ◌++◌, Ok, Err, refl, ◌⊎◌, inl, inr, arith}
use Rattle.std.specs.Prelude.{IsTrue, is_some, ◌&&◌}
use Rattle.sl_lex.specs.declared.keyword.Keyword.TheVariants as keywords
use Rattle.sl_lex.specs.declared.token.Mark.TheVariants as marks
use Rattle.sl_lex.specs.declared.token.Kind.TheVariants as kinds
use Rattle.sl_lex.specs.declared.token.Token.{Token}
use Rattle.sl_law_meaning.specs.declared.book.Pairing.{Pairing}
use Rattle.sl_law_meaning.specs.declared.book.Majority.{Majority}
use Rattle.sl_law_meaning.specs.declared.book.Majority.TheVariants as majorities
use Rattle.sl_law_meaning.specs.book.Trees.{ExprTree, MinimaTree, sum, pair, split, without, atleast, grow}
use Rattle.sl_law_meaning.specs.book.Limits.{depth_of, parts_of}
use Rattle.sl_parse.specs.declared.form.Form.{Form}
use Rattle.sl_parse.specs.declared.form.Form.TheVariants as forms
use Rattle.sl_parse.specs.Words.{same_kind, method_word, first_kind}
use Rattle.sl_parse.specs.declared.fault.Cause.{Cause}
use Rattle.sl_parse.specs.declared.fault.Cause.TheVariants.{TooDeep}
use Rattle.sl_parse.specs.Grammar.{Part, ◌▸◌, empty, one_token, keyword, comma, open_mark, close_mark, IsMajority, IsRefusal, IsExpr}
use Rattle.sl_parse.specs.Faults.{Limits, BeginsExpr, has_two, ToArgument, summed, left, right, at_least, grown_from, ToExpr}
use Rattle.sl_parse.specs.inner.Reading.{Read, ◌>>=◌, ReadExpr, DivisionTree, this, one, taken, axis_in, method_in, number_in, preference_in, read_sum, read_two, read_pair, read_division, read_minima, read_majority, read_refusal, read_split, read_grow, read_expr}
use Rattle.sl_parse.proofs.Machine.{Sym, goes, refused, scan_move, expr, after_method, majority, refusal, tok, open_sym, comma_sym, close_sym, axis_sym, method_sym, number_sym, preference_sym, scan}
use Rattle.sl_parse.proofs.TokenTests.{IsPreference, tests_axis, tests_method, tests_number, tests_preference}
use Rattle.sl_parse.proofs.Rules.{State, Reads, then_reads, then_reads_front, ends, deeper, reads_one, reads_taken}

module _ (text : List ℕ) (l : Limits) where
  -- an expression that is read, with the parts that are left of so many
  pub record IsRead (d p : ℕ) (ts : List Token) (x : ExprTree × ℕ × List Token) : Type 0 where
    pub is : IsExpr text x.0 ts x.2
    pub parts : parts_of x.0 + x.1 ≡ p
    pub depth : depth_of x.0 ≤ d

  -- from the first token of an expression to one in it that breaks a limit
  pub record InExpr (d p : ℕ) (here there : List Token) : Type 0 where
    pub levels : ℕ
    pub before : ℕ
    pub to : ToExpr text levels before here there
    pub begins : BeginsExpr there
    pub breaks : (levels ≡ d) ⊎ (before ≡ p)

  abbrev pub Deep : ℕ → ℕ → List Token → Cause → List Token → Type 0
  Deep d p here c there = (c ≡ TooDeep) × InExpr d p here there

  abbrev pub left_of : {A : Type 0} → A × ℕ × List Token → State
  left_of x = (x.1, x.2)

  abbrev pub Expr : ℕ → ℕ → List Sym → List Token → State → ReadExpr → Type 0
  Expr d p ss here st r = Reads text l ss [] st r left_of (IsRead d p here) (Deep d p here)

  abbrev pub ExprsRead : ℕ → Type 0
  ExprsRead d = (p : ℕ) (ts : List Token) → Expr d p (expr d ∷ []) ts (p, ts) (read_expr text d p ts)

  -- what breaks a limit in an argument breaks it in the whole
  pub within : {d p q : ℕ} (m : ℕ) {here mid : List Token} → ToArgument text m here mid → m + q ≡ suc p → (c : Cause) (there : List Token) → Deep d q mid c there → Deep (suc d) (suc p) here c there
  within {d} {p} {q} m {mid = mid} a all c there (is, x) = (
    is,
    record {
      levels = suc x.levels;
      before = m + x.before;
      to = (m, x.before, refl, (mid, a, x.to));
      begins = x.begins;
      breaks = go x.breaks;
    },
  )
    where
      go : (x.levels ≡ d) ⊎ (x.before ≡ q) → (suc x.levels ≡ suc d) ⊎ (m + x.before ≡ suc p)
      go (inl e) = inl (omega arith)
      go (inr e) = inr (omega arith)

  pub record TwoRead (d p : ℕ) (here : List Token) (x : (ExprTree × ExprTree) × ℕ × List Token) : Type 0 where
    pub is : (open_mark ▸ IsExpr text x.0.0 ▸ comma ▸ IsExpr text x.0.1) here x.2
    pub parts : parts_of x.0.0 + parts_of x.0.1 + x.1 ≡ p
    pub first : depth_of x.0.0 ≤ d
    pub second : depth_of x.0.1 ≤ d

  pub record DivisionRead (d p : ℕ) (here : List Token) (x : DivisionTree × ℕ × List Token) : Type 0 where
    pub is : (open_mark ▸ IsExpr text x.0.0 ▸ comma ▸ IsExpr text x.0.1 ▸ comma ▸ keyword (method_word x.0.2)) here x.2
    pub parts : parts_of x.0.0 + parts_of x.0.1 + x.1 ≡ p
    pub first : depth_of x.0.0 ≤ d
    pub second : depth_of x.0.1 ≤ d

  abbrev pub IsMinima : MinimaTree → Part
  IsMinima without = empty
  IsMinima (atleast e) = comma ▸ keyword keywords.Atleast ▸ IsExpr text e

  abbrev parts_in : MinimaTree → ℕ
  parts_in without = 0
  parts_in (atleast e) = parts_of e

  abbrev depth_in : MinimaTree → ℕ
  depth_in without = 0
  depth_in (atleast e) = depth_of e

  record MinimaRead (d q : ℕ) (here : List Token) (x : MinimaTree × ℕ × List Token) : Type 0 where
    is : IsMinima x.0 here x.2
    parts : parts_in x.0 + x.1 ≡ q
    depth : depth_in x.0 ≤ d

  -- ---- majority clauses

  preference-told : (here a b : List Token) (x : Majority × List Token) → comma here a → keyword keywords.Majority a b → one_token (λ t. IsPreference x.0 t.kind) b x.1 → IsMajority x.0 here x.1
  preference-told here a b (majorities.Free, after) ha hb h = absurd h.2
  preference-told here a b (majorities.Prefer, after) ha hb h = (a, ha, (b, hb, h))
  preference-told here a b (majorities.Refuse, after) ha hb h = (a, ha, (b, hb, h))

  abbrev MajorityRead : (Majority → Part) → (Cause → List Token → Type 0) → ℕ → List Sym → List Sym → List Token → Read (Majority × List Token) → Type 0
  MajorityRead P deep p ss pend ts r = Reads text l ss pend (p, ts) r (λ x. (p, x.1)) (λ x. P x.0 ts x.1) deep

  reads_majority : (deep : Cause → List Token → Type 0) (p : ℕ) (ts : List Token) → MajorityRead IsMajority deep p (majority ∷ []) (close_sym ∷ []) ts (read_majority ts)
  unfolding read_majority scan
  reads_majority deep p [] = record { same = λ more. refl; told = refl }
  reads_majority deep p (t ∷ ts) = go (same_kind t.kind (kinds.Mark marks.Comma)) refl
    where
      go : (b : Bool) → same_kind t.kind (kinds.Mark marks.Comma) ≡ b → MajorityRead IsMajority deep p (majority ∷ []) (close_sym ∷ []) (t ∷ ts)
          (cond b (taken (kinds.Mark marks.Comma) (t ∷ ts) >>= λ a. taken (kinds.Keyword keywords.Majority) a >>= λ c. one preference_in c) (Ok (majorities.Free, t ∷ ts)))
      go true is =
          let r : MajorityRead IsMajority deep p (comma_sym ∷ tok (kinds.Keyword keywords.Majority) refl ∷ preference_sym ∷ []) [] (t ∷ ts) (taken (kinds.Mark marks.Comma) (t ∷ ts) >>= λ a. taken (kinds.Keyword keywords.Majority) a >>= λ c. one preference_in c) =
          then_reads text l _ _ (reads_taken text l _ refl (t ∷ ts)) (λ a ha.
          then_reads text l _ _ (reads_taken text l _ refl a) (λ b hb.
          preferred a b ha hb (one preference_in b) (reads_one text l preference_in _ refl tests_preference b))) in
          record { same = λ more. rw is (rw is at (r.same (close_sym ∷ more))); told = r.told }
        where
          preferred : (a b : List Token) → comma (t ∷ ts) a → keyword keywords.Majority a b → (r : Read (Majority × List Token)) → Reads text l (preference_sym ∷ []) [] (p, b) r (λ x. (p, x.1)) (λ x. one_token (λ u. IsPreference x.0 u.kind) b x.1) deep
              → Reads text l (preference_sym ∷ []) [] (p, b) r (λ x. (p, x.1)) (λ x. IsMajority x.0 (t ∷ ts) x.1) deep
          preferred a b ha hb (Ok x) h = record { same = h.same; told = preference-told (t ∷ ts) a b x ha hb h.told }
          preferred a b ha hb (Err e) h = record { same = h.same; told = h.told }
      go false is = record { same = λ more. rw is refl; told = refl }

  reads_refusal : (deep : Cause → List Token → Type 0) (p : ℕ) (ts : List Token) → MajorityRead IsRefusal deep p (refusal ∷ []) (close_sym ∷ []) ts (read_refusal ts)
  unfolding read_refusal scan
  reads_refusal deep p [] = record { same = λ more. refl; told = refl }
  reads_refusal deep p (t ∷ ts) = go (same_kind t.kind (kinds.Mark marks.Comma)) refl
    where
      go : (b : Bool) → same_kind t.kind (kinds.Mark marks.Comma) ≡ b → MajorityRead IsRefusal deep p (refusal ∷ []) (close_sym ∷ []) (t ∷ ts)
          (cond b (taken (kinds.Mark marks.Comma) (t ∷ ts) >>= λ a. taken (kinds.Keyword keywords.Majority) a >>= λ c. taken (kinds.Keyword keywords.Refuse) c >>= λ e. Ok (majorities.Refuse, e)) (Ok (majorities.Free, t ∷ ts)))
      go true is =
          let r : MajorityRead IsRefusal deep p (comma_sym ∷ tok (kinds.Keyword keywords.Majority) refl ∷ tok (kinds.Keyword keywords.Refuse) refl ∷ []) [] (t ∷ ts) (taken (kinds.Mark marks.Comma) (t ∷ ts) >>= λ a. taken (kinds.Keyword keywords.Majority) a >>= λ c. taken (kinds.Keyword keywords.Refuse) c >>= λ e. Ok (majorities.Refuse, e)) =
          then_reads text l _ _ (reads_taken text l _ refl (t ∷ ts)) (λ a ha.
          then_reads text l _ _ (reads_taken text l _ refl a) (λ b hb.
          then_reads text l _ _ (reads_taken text l _ refl b) (λ c hc.
          ends text l (λ x. (p, x.1)) (majorities.Refuse, c) (a, ha, (b, hb, hc))))) in
          record { same = λ more. rw is (rw is at (r.same (close_sym ∷ more))); told = r.told }
      go false is = record { same = λ more. rw is refl; told = refl }

  -- ---- forms with arguments

  module _ (d : ℕ) (argument : ExprsRead d) (p : ℕ) where
    pub reads_sum : (t : Token) (ts : List Token) → t.kind ≡ kinds.Keyword keywords.Sum
        → Expr (suc d) (suc p) (open_sym ∷ expr d ∷ comma_sym ∷ axis_sym ∷ close_sym ∷ []) (t ∷ ts) (p, ts) (read_sum (read_expr text d) t.start p ts)
    unfolding read_sum
    reads_sum t ts is =
        then_reads text l _ _ (reads_taken text l _ refl ts) (λ a ha.
        then_reads text l _ _ (deeper text l _ (argument p a) (within 1 (summed refl (ts, (t, refl, is), ha)) (omega arith))) (λ e he.
        then_reads text l _ _ (reads_taken text l _ refl e.2) (λ b hb.
        then_reads text l _ _ (reads_one text l axis_in _ refl tests_axis b) (λ s hs.
        then_reads text l _ _ (reads_taken text l _ refl s.1) (λ c hc.
        ends text l left_of (sum t.start e.0 s.0, e.1, c) (record {
          is = (ts, (t, refl, (is, refl)), (a, ha, (e.2, he.is, (b, hb, (s.1, hs, hc)))));
          parts = omega (arith, he.parts);
          depth = omega (arith, he.depth);
        }))))))

    abbrev two_syms : List Sym
    two_syms = open_sym ∷ expr d ∷ comma_sym ∷ expr d ∷ []

    reads_two : (form : Form) → IsTrue (has_two form) → (t : Token) (ts : List Token) → t.kind ≡ first_kind form → Reads text l two_syms [] (p, ts) (read_two (read_expr text d) p ts) left_of (TwoRead d p ts) (Deep (suc d) (suc p) (t ∷ ts))
    unfolding read_two
    reads_two form two t ts is =
        then_reads text l _ _ (reads_taken text l _ refl ts) (λ a ha.
        then_reads text l _ _ (deeper text l _ (argument p a) (within 1 (left form two refl (ts, (t, refl, is), ha)) (omega arith))) (λ f hf.
        then_reads text l _ _ (reads_taken text l _ refl f.2) (λ b hb.
        then_reads text l _ _ (deeper text l _ (argument f.1 b) (within (1 + parts_of f.0) (right form f.0 two refl (ts, (t, refl, is), (a, ha, (f.2, hf.is, hb)))) (omega (arith, hf.parts)))) (λ r hr.
        ends text l left_of ((f.0, r.0), r.1, r.2) (record {
          is = (a, ha, (f.2, hf.is, (b, hb, hr.is)));
          parts = omega (arith, hf.parts, hr.parts);
          first = hf.depth;
          second = hr.depth;
        })))))

    pub reads_pair : (pairing : Pairing) (t : Token) (ts : List Token) → t.kind ≡ first_kind (forms.Pair pairing)
        → Expr (suc d) (suc p) (open_sym ∷ expr d ∷ comma_sym ∷ expr d ∷ close_sym ∷ []) (t ∷ ts) (p, ts) (read_pair (read_expr text d) pairing t.start p ts)
    unfolding read_pair
    reads_pair pairing t ts is =
        then_reads_front text l two_syms (close_sym ∷ []) _ _ (reads_two (forms.Pair pairing) refl t ts is) (λ x hx.
        then_reads text l _ _ (reads_taken text l _ refl x.2) (λ c hc.
        let h = hx.is in
        ends text l left_of (pair t.start pairing x.0.0 x.0.1, x.1, c) (record {
          is = (ts, (t, refl, (is, refl)), (h.0, h.1, (h.2.0, h.2.1, (h.2.2.0, h.2.2.1, (x.2, h.2.2.2, hc)))));
          parts = omega (arith, hx.parts);
          depth = omega (arith, hx.first, hx.second);
        })))

    abbrev division_syms : List Sym
    division_syms = open_sym ∷ expr d ∷ comma_sym ∷ expr d ∷ comma_sym ∷ method_sym ∷ []

    reads_division : (form : Form) → IsTrue (has_two form) → (t : Token) (ts : List Token) → t.kind ≡ first_kind form → Reads text l division_syms [] (p, ts) (read_division (read_expr text d) p ts) left_of (DivisionRead d p ts) (Deep (suc d) (suc p) (t ∷ ts))
    unfolding read_division
    reads_division form two t ts is =
        then_reads_front text l two_syms (comma_sym ∷ method_sym ∷ []) _ _ (reads_two form two t ts is) (λ x hx.
        then_reads text l _ _ (reads_taken text l _ refl x.2) (λ b hb.
        then_reads text l _ _ (reads_one text l method_in _ refl tests_method b) (λ m hm.
        let h = hx.is in
        ends text l left_of ((x.0.0, x.0.1, m.0), x.1, m.1) (record {
          is = (h.0, h.1, (h.2.0, h.2.1, (h.2.2.0, h.2.2.1, (x.2, h.2.2.2, (b, hb, hm)))));
          parts = hx.parts;
          first = hx.first;
          second = hx.second;
        }))))

    abbrev ReadsMinima : ℕ → List Token → List Sym → List Sym → List Token → Read (MinimaTree × ℕ × List Token) → Type 0
    ReadsMinima q whole ss pend here r = Reads text l ss pend (q, here) r left_of (MinimaRead d q here) (Deep (suc d) (suc p) whole)

    -- with the first token known to be a comma or not, and the second to be the word or not
    abbrev Minima : ℕ → List Token → Token → List Token → Bool → Type 0
    Minima q whole t us b = ReadsMinima q whole (after_method d ∷ []) (majority ∷ []) (t ∷ us)
        (cond b (taken (kinds.Mark marks.Comma) (t ∷ us) >>= λ a. taken (kinds.Keyword keywords.Atleast) a >>= λ c. read_expr text d q c >>= λ e. Ok (atleast e.0, e.1, e.2)) (Ok (without, q, t ∷ us)))

    no_minima : (q : ℕ) (here : List Token) → MinimaRead d q here (without, q, here)
    no_minima q here = record { is = refl; parts = omega arith; depth = omega arith }

    minima_behind : (m q : ℕ) (whole : List Token) (t u : Token) (us : List Token) → m + q ≡ suc p → ((a b : List Token) → comma (t ∷ u ∷ us) a → keyword keywords.Atleast a b → ToArgument text m whole b) → same_kind t.kind (kinds.Mark marks.Comma) ≡ true
        → (b : Bool) → same_kind u.kind (kinds.Keyword keywords.Atleast) ≡ b → Minima q whole t (u ∷ us) b
    unfolding scan
    minima_behind m q whole t u us all to is true next =
        let r : ReadsMinima q whole (comma_sym ∷ tok (kinds.Keyword keywords.Atleast) refl ∷ expr d ∷ []) [] (t ∷ u ∷ us)
        (taken (kinds.Mark marks.Comma) (t ∷ u ∷ us) >>= λ a. taken (kinds.Keyword keywords.Atleast) a >>= λ b. read_expr text d q b >>= λ e. Ok (atleast e.0, e.1, e.2)) =
        then_reads text l _ _ (reads_taken text l _ refl (t ∷ u ∷ us)) (λ a ha.
        then_reads text l _ _ (reads_taken text l _ refl a) (λ b hb.
        then_reads text l _ _ (deeper text l _ (argument q b) (within m (to a b ha hb) all)) (λ x hx.
        ends text l left_of (atleast x.0, x.1, x.2) (record { is = (a, ha, (b, hb, hx.is)); parts = hx.parts; depth = hx.depth })))) in
        record { same = λ more. rw is (rw next (rw next at (rw is at (r.same (majority ∷ more))))); told = r.told }
    minima_behind m q whole t u us all to is false next = record { same = λ more. rw is (rw next (last more (is_some (this (kinds.Keyword keywords.Majority) u)))); told = no_minima q (t ∷ u ∷ us) }
      where
        last : (more : List Sym) (b : Bool) → scan_move (cond b (goes (preference_sym ∷ close_sym ∷ []) q) refused) (λ parts r. scan text l (parts ++ more) r us) (u ∷ us)
            ≡ scan_move (cond b (goes [] q) refused) (λ parts r. scan text l (parts ++ preference_sym ∷ close_sym ∷ more) r us) (u ∷ us)
        last more true = refl
        last more false = refl

    reads_minima : (m q : ℕ) (whole here : List Token) → m + q ≡ suc p → ((a b : List Token) → comma here a → keyword keywords.Atleast a b → ToArgument text m whole b) → ReadsMinima q whole (after_method d ∷ []) (majority ∷ []) here (read_minima (read_expr text d) q here)
    unfolding read_minima scan
    reads_minima m q whole [] all to = record { same = λ more. refl; told = no_minima q [] }
    reads_minima m q whole (t ∷ []) all to = go (same_kind t.kind (kinds.Mark marks.Comma)) refl
      where
        go : (b : Bool) → same_kind t.kind (kinds.Mark marks.Comma) ≡ b → Minima q whole t [] (b && false)
        go true is = record { same = λ more. rw is refl; told = no_minima q (t ∷ []) }
        go false is = record { same = λ more. rw is refl; told = no_minima q (t ∷ []) }
    reads_minima m q whole (t ∷ u ∷ us) all to = go (same_kind t.kind (kinds.Mark marks.Comma)) refl
      where
        go : (b : Bool) → same_kind t.kind (kinds.Mark marks.Comma) ≡ b → Minima q whole t (u ∷ us) (b && same_kind u.kind (kinds.Keyword keywords.Atleast))
        go true is = minima_behind m q whole t u us all to is (same_kind u.kind (kinds.Keyword keywords.Atleast)) refl
        go false is = record { same = λ more. rw is refl; told = no_minima q (t ∷ u ∷ us) }

    split_is : (t : Token) (ts : List Token) (x : DivisionTree × ℕ × List Token) (m : MinimaTree × ℕ × List Token) (j : Majority × List Token) (c : List Token) → t.kind ≡ kinds.Keyword keywords.Split
        → DivisionRead d p ts x → MinimaRead d x.1 x.2 m → IsMajority j.0 m.2 j.1 → close_mark j.1 c → IsRead (suc d) (suc p) (t ∷ ts) (split t.start x.0.0 x.0.1 x.0.2 m.0 j.0, m.1, c)
    split_is t ts x (without, q, here) j c is hx hm hj hc =
        let h = hx.is in
        let same : x.2 ≡ here = hm.is in
        record {
          is = (ts, (t, refl, (is, refl)), (h.0, h.1, (h.2.0, h.2.1, (h.2.2.0, h.2.2.1, (h.2.2.2.0, h.2.2.2.1, (h.2.2.2.2.0, h.2.2.2.2.1, (x.2, h.2.2.2.2.2, (j.1, rw same hj, hc))))))));
          parts = omega (arith, hx.parts, hm.parts);
          depth = omega (arith, hx.first, hx.second);
        }
    split_is t ts x (atleast e, q, here) j c is hx hm hj hc =
        let h = hx.is in
        let k = hm.is in
        record {
          is = (ts, (t, refl, (is, refl)), (h.0, h.1, (h.2.0, h.2.1, (h.2.2.0, h.2.2.1, (h.2.2.2.0, h.2.2.2.1, (h.2.2.2.2.0, h.2.2.2.2.1, (x.2, h.2.2.2.2.2, (k.0, k.1, (k.2.0, k.2.1, (here, k.2.2, (j.1, hj, hc)))))))))));
          parts = omega (arith, hx.parts, hm.parts);
          depth = omega (arith, hx.first, hx.second, hm.depth);
        }

    pub reads_split : (t : Token) (ts : List Token) → t.kind ≡ kinds.Keyword keywords.Split
        → Expr (suc d) (suc p) (open_sym ∷ expr d ∷ comma_sym ∷ expr d ∷ comma_sym ∷ method_sym ∷ after_method d ∷ []) (t ∷ ts) (p, ts) (read_split (read_expr text d) t.start p ts)
    unfolding read_split
    reads_split t ts is =
        then_reads_front text l division_syms (after_method d ∷ []) _ _ (reads_division forms.Split refl t ts is) (λ x hx.
        let h = hx.is in
        then_reads text l _ _ (reads_minima (1 + parts_of x.0.0 + parts_of x.0.1) x.1 (t ∷ ts) x.2 (omega (arith, hx.parts)) (λ a b ha hb.
        at_least x.0.0 x.0.1 x.0.2 refl (ts, (t, refl, is), (h.0, h.1, (h.2.0, h.2.1, (h.2.2.0, h.2.2.1, (h.2.2.2.0, h.2.2.2.1, (h.2.2.2.2.0, h.2.2.2.2.1, (x.2, h.2.2.2.2.2, (a, ha, hb)))))))))) (λ m hm.
        then_reads text l _ _ (reads_majority (Deep (suc d) (suc p) (t ∷ ts)) m.1 m.2) (λ j hj.
        then_reads text l _ _ (reads_taken text l _ refl j.1) (λ c hc.
        ends text l left_of (split t.start x.0.0 x.0.1 x.0.2 m.0 j.0, m.1, c) (split_is t ts x m j c is hx hm hj hc)))))

    pub reads_grow : (t : Token) (ts : List Token) → t.kind ≡ kinds.Keyword keywords.Grow
        → Expr (suc d) (suc p) (open_sym ∷ expr d ∷ comma_sym ∷ expr d ∷ comma_sym ∷ method_sym ∷ comma_sym ∷ expr d ∷ comma_sym ∷ number_sym ∷ refusal ∷ []) (t ∷ ts) (p, ts) (read_grow (read_expr text d) t.start p ts)
    unfolding read_grow
    reads_grow t ts is =
        then_reads_front text l division_syms (comma_sym ∷ expr d ∷ comma_sym ∷ number_sym ∷ refusal ∷ []) _ _ (reads_division forms.Grow refl t ts is) (λ x hx.
        let h = hx.is in
        then_reads text l _ _ (reads_taken text l _ refl x.2) (λ a ha.
        then_reads text l _ _ (deeper text l _ (argument x.1 a) (within (1 + parts_of x.0.0 + parts_of x.0.1)
        (grown_from x.0.0 x.0.1 x.0.2 refl (ts, (t, refl, is), (h.0, h.1, (h.2.0, h.2.1, (h.2.2.0, h.2.2.1, (h.2.2.2.0, h.2.2.2.1, (h.2.2.2.2.0, h.2.2.2.2.1, (x.2, h.2.2.2.2.2, ha)))))))) (omega (arith, hx.parts)))) (λ e he.
        then_reads text l _ _ (reads_taken text l _ refl e.2) (λ b hb.
        then_reads text l _ _ (reads_one text l number_in _ refl tests_number b) (λ n hn.
        then_reads text l _ _ (reads_refusal (Deep (suc d) (suc p) (t ∷ ts)) e.1 n.1) (λ j hj.
        then_reads text l _ _ (reads_taken text l _ refl j.1) (λ c hc.
        ends text l left_of (grow t.start x.0.0 x.0.1 x.0.2 e.0 n.0 j.0, e.1, c) (record {
          is = (ts, (t, refl, (is, refl)), (h.0, h.1, (h.2.0, h.2.1, (h.2.2.0, h.2.2.1, (h.2.2.2.0, h.2.2.2.1, (h.2.2.2.2.0, h.2.2.2.2.1, (x.2, h.2.2.2.2.2, (a, ha, (e.2, he.is, (b, hb, (n.1, hn, (j.1, hj, hc))))))))))));
          parts = omega (arith, hx.parts, he.parts);
          depth = omega (arith, hx.first, hx.second, he.depth);
        }))))))))
