-- Reading doesn't go past a place beyond a limit, and where it stops there the cause is that of the place.
use Rattle.std.proofs.Common.{◌≡◌, true, ℕ, zero, suc, ◌+◌, ◌-◌, ◌≤◌, ◌<◌, List, [], ◌∷◌, length, Some, Ok, Err, refl, sym, ap, subst, arith, ◌⊎◌, inl, inr}
use Rattle.std.specs.Prelude.{IsTrue}
use Rattle.sl_lex.specs.declared.keyword.Keyword.TheVariants as keywords
use Rattle.sl_lex.specs.declared.token.Kind.{Kind}
use Rattle.sl_lex.specs.declared.token.Kind.TheVariants as kinds
use Rattle.sl_lex.specs.declared.token.Token.{Token}
use Rattle.sl_law_meaning.specs.book.Trees.{ExprTree, StageTree}
use Rattle.sl_law_meaning.specs.book.Limits.{parts_of}
use Rattle.sl_parse.specs.declared.fault.Cause.{Cause}
use Rattle.sl_parse.specs.declared.fault.Cause.TheVariants.{TooDeep, TooManyStages}
use Rattle.sl_parse.specs.declared.form.Form.{Form}
use Rattle.sl_parse.specs.declared.form.Form.TheVariants as forms
use Rattle.sl_parse.specs.Words.{first_kind}
use Rattle.sl_parse.specs.Grammar.{◌▸◌, token, keyword, comma, IsStage, AreStages, HeadTree, IsHead}
use Rattle.sl_parse.specs.Faults.{Limits, Begins, BeginsExpr, has_two, ToArgument, summed, left, right, at_least, grown_from, ToExpr, InStage, PastStages}
use Rattle.sl_parse.specs.inner.Reading.{Read, ◌>>=◌, name_in, is_next, is_clause, no_room, read_sum, read_two, read_pair, read_division, read_minima, read_split, read_grow, read_form, read_node, read_expr, read_stage, read_stages, read_front, read_book}
use Rattle.sl_parse.proofs.SameKind.{kind-same}
use Rattle.sl_parse.proofs.TokenTests.{form-taken, tests_name}
use Rattle.sl_parse.proofs.ReadsBook.{Breaks}
use Rattle.sl_parse.proofs.Agrees.{Agrees, taken_agrees, one_agrees}
use Rattle.sl_parse.proofs.AgreesExpr.{Agreeing, division_agrees, agrees_expr}
use Rattle.sl_parse.proofs.AgreesBook.{head_agrees, stage_agrees, stage-shorter}

abbrev pub StopsBy : {A : Type 0} → Cause → Read A → List Token → Type 0
StopsBy c (Ok x) there = ⊥
StopsBy c (Err e) there = (length there ≤ length e.1) × (length e.1 ≤ length there → e.0 ≡ c)

pub record Late {A : Type 0} (c : Cause) (here there : List Token) (r : Read A) : Type 0 where
  pub shorter : length there ≤ length here
  pub stops : StopsBy c r there

late_first : {A B : Type 0} {c : Cause} {here there : List Token} (r : Read A) (f : A → Read B) → Late c here there r → Late c here there (r >>= f)
late_first (Ok x) f h = absurd h.stops
late_first (Err e) f h = record { shorter = h.shorter; stops = h.stops }

late_then : {A B : Type 0} {c : Cause} {here between there : List Token} {F : Type 0} (r : Read A) (f : A → Read B) (x : A) → Agrees here between r x F → Late c between there (f x) → Late c here there (r >>= f)
late_then {c = c} {there = there} (Ok z) f x h k = record { shorter = omega (arith, h.shorter, k.shorter); stops = let P : _ → Type 0 = λ w. StopsBy c (f w) there in subst P (sym h.finds) k.stops }
late_then (Err e) f x h k = record { shorter = omega (arith, h.shorter, k.shorter); stops = (omega (arith, h.finds.1, k.shorter), λ le. absurd (omega (arith, h.finds.1, k.shorter))) }

-- reading stops at once
late_here : {A : Type 0} (c : Cause) (here there : List Token) (r : Read A) → r ≡ Err (c, here) → length there ≤ length here → Late c here there r
late_here c here there r e short = record { shorter = short; stops = rw e (short, λ le. refl) }

-- reading stops before the place
late_before : {A : Type 0} (c d : Cause) (here there : List Token) (r : Read A) → r ≡ Err (d, here) → length there < length here → Late c here there r
late_before c d here there r e short = record { shorter = omega arith; stops = rw e (omega arith, λ le. absurd (omega arith)) }

no_room_here : (here : List Token) → BeginsExpr here → no_room here ≡ Err (TooDeep, here)
unfolding no_room
no_room_here here (t, rest, is, begins) = rw (is, begins) refl

module _ (text : List ℕ) where
  begins_with : (form : Form) (here mid : List Token) (t : Token) → here ≡ t ∷ mid → t.kind ≡ first_kind form → BeginsExpr here
  begins_with form here mid t is kind = (t, mid, is, rw (kind, form-taken form) refl)

  argument_begins : (m : ℕ) (here mid : List Token) → ToArgument text m here mid → BeginsExpr here
  argument_begins m here mid (summed e (a, (t, is, kind), h)) = begins_with forms.Sum here a t is kind
  argument_begins m here mid (left form two e (a, (t, is, kind), h)) = begins_with form here a t is kind
  argument_begins m here mid (right form x two e (a, (t, is, kind), h)) = begins_with form here a t is kind
  argument_begins m here mid (at_least s v x e (a, (t, is, kind), h)) = begins_with forms.Split here a t is kind
  argument_begins m here mid (grown_from s v x e (a, (t, is, kind), h)) = begins_with forms.Grow here a t is kind

  agreeing : (e : ExprTree) → Agreeing text e
  agreeing e d p here after h = agrees_expr text d p e here after h

  argument-shorter : (m : ℕ) (here mid : List Token) → ToArgument text m here mid → length mid ≤ length here
  argument-shorter m here mid (summed e (a, ha, hb)) = omega (arith, ap length ha.1, ap length hb.1)
  argument-shorter m here mid (left form two e (a, ha, hb)) = omega (arith, ap length ha.1, ap length hb.1)
  argument-shorter m here mid (right form x two e (a, ha, (b, hb, (c, hl, hc)))) = omega (arith, ap length ha.1, ap length hb.1, (agrees_expr text 0 0 x b c hl).shorter, ap length hc.1)
  argument-shorter m here mid (at_least s v x e (a, ha, (b, hb, (c, hs, (f, hf, (g, hv, (i, hi, (k, hk, (n, hn, ho))))))))) =
      omega (arith, ap length ha.1, (division_agrees text 0 0 s v x a k (agreeing s) (agreeing v) (b, hb, (c, hs, (f, hf, (g, hv, (i, hi, hk)))))).shorter, ap length hn.1, ap length ho.1)
  argument-shorter m here mid (grown_from s v x e (a, ha, (b, hb, (c, hs, (f, hf, (g, hv, (i, hi, (k, hk, hn)))))))) =
      omega (arith, ap length ha.1, (division_agrees text 0 0 s v x a k (agreeing s) (agreeing v) (b, hb, (c, hs, (f, hf, (g, hv, (i, hi, hk)))))).shorter, ap length hn.1)

  expr-shorter : (levels before : ℕ) (here there : List Token) → ToExpr text levels before here there → length there ≤ length here
  expr-shorter zero before here there (none, same) = rw same (omega arith)
  expr-shorter (suc levels) before here there (m, k, all, (mid, a, to)) = omega (arith, argument-shorter m here mid a, expr-shorter levels k mid there to)

  late_no_room : (d p levels before : ℕ) (here there : List Token) → read_expr text d p here ≡ no_room here → ToExpr text levels before here there → BeginsExpr here → Late TooDeep here there (read_expr text d p here)
  late_no_room d p levels before here there e to begins =
      let stops : read_expr text d p here ≡ Err (TooDeep, here) = rw e (no_room_here here begins) in
      late_here TooDeep here there (read_expr text d p here) stops (expr-shorter levels before here there to)

  late_node : (d p : ℕ) (form : Form) (here there mid : List Token) (t : Token) → here ≡ t ∷ mid → t.kind ≡ first_kind form → Late TooDeep mid there (read_form text (read_expr text d) p (Some form) t mid) → Late TooDeep here there (read_expr text (suc d) (suc p) here)
  unfolding read_expr read_node
  late_node d p form here there mid t is kind h =
      let reads : read_expr text (suc d) (suc p) here ≡ read_form text (read_expr text d) p (Some form) t mid = rw (is, kind, form-taken form) refl in
      let short : length there ≤ length mid = h.shorter in
      record { shorter = rw is (omega arith); stops = rw reads h.stops }

  below : {levels d before p : ℕ} (m k q : ℕ) → before ≡ m + k → q ≡ suc p - m → (suc levels ≡ suc d) ⊎ (before ≡ suc p) → (levels ≡ d) ⊎ (k ≡ q)
  below m k q e rest (inl h) = inl (omega arith)
  below m k q e rest (inr h) = inr (omega arith)

  -- the two arguments are the first that is read after such a first token
  late_two : (d p : ℕ) (form : Form) (t : Token) (mid there : List Token) → IsTrue (has_two form) → Late TooDeep mid there (read_two (read_expr text d) p mid) → Late TooDeep mid there (read_form text (read_expr text d) p (Some form) t mid)
  unfolding read_form read_pair read_division read_split read_grow
  late_two d p (forms.Pair pairing) t mid there two h = late_first _ _ h
  late_two d p forms.Split t mid there two h = late_first _ _ (late_first _ _ h)
  late_two d p forms.Grow t mid there two h = late_first _ _ (late_first _ _ h)
  late_two d p _ t mid there two h = absurd cc

  late_minima : (d p : ℕ) (here a b there : List Token) → comma here a → keyword keywords.Atleast a b → Late TooDeep b there (read_expr text d p b) → Late TooDeep here there (read_minima (read_expr text d) p here)
  unfolding read_minima
  late_minima d p here a b there ha hb h =
      let next : is_clause keywords.Atleast here ≡ true = rw (ha.1, ha.2, hb.1, hb.2) refl in
      rw next (late_then _ _ a (taken_agrees _ here a ha) (late_then _ _ b (taken_agrees _ a b hb) (late_first _ _ h)))

  pub late_expr : (levels before d p : ℕ) (here there : List Token) → ToExpr text levels before here there → BeginsExpr there → (levels ≡ d) ⊎ (before ≡ p) → Late TooDeep here there (read_expr text d p here)
  unfolding read_expr read_form read_sum read_two read_division read_minima read_split read_grow
  late_expr zero before zero p here there to begins breaks = late_no_room zero p zero before here there refl to (rw to.1 begins)
  late_expr zero before (suc d) zero here there to begins breaks = late_no_room (suc d) zero zero before here there refl to (rw to.1 begins)
  late_expr zero before (suc d) (suc p) here there to begins (inl h) = absurd cc
  late_expr zero before (suc d) (suc p) here there to begins (inr h) = absurd (omega (arith, to.0))
  late_expr (suc levels) before zero p here there to begins breaks = late_no_room zero p (suc levels) before here there refl to (argument_begins to.0 here to.3.0 to.3.1)
  late_expr (suc levels) before (suc d) zero here there to begins breaks = late_no_room (suc d) zero (suc levels) before here there refl to (argument_begins to.0 here to.3.0 to.3.1)
  late_expr (suc levels) before (suc d) (suc p) here there (m, k, all, (mid, summed e (a, (t, is, kind), ha), to)) begins breaks =
      late_node d p forms.Sum here there a t is kind (
      late_then _ _ mid (taken_agrees _ a mid ha) (late_first _ _ (late_expr levels k d p mid there to begins (below m k p all (omega arith) breaks))))
  late_expr (suc levels) before (suc d) (suc p) here there (m, k, all, (mid, left form two e (a, (t, is, kind), ha), to)) begins breaks =
      late_node d p form here there a t is kind (late_two d p form t a there two (
      late_then _ _ mid (taken_agrees _ a mid ha) (late_first _ _ (late_expr levels k d p mid there to begins (below m k p all (omega arith) breaks)))))
  late_expr (suc levels) before (suc d) (suc p) here there (m, k, all, (mid, right form x two e (a, (t, is, kind), (b, hb, (c, hx, hc))), to)) begins breaks =
      late_node d p form here there a t is kind (late_two d p form t a there two (
      late_then _ _ b (taken_agrees _ a b hb) (
      late_then _ _ (x, p - parts_of x, c) (agrees_expr text d p x b c hx) (
      late_then _ _ mid (taken_agrees _ c mid hc) (late_first _ _ (late_expr levels k d (p - parts_of x) mid there to begins (below m k (p - parts_of x) all (omega arith) breaks)))))))
  late_expr (suc levels) before (suc d) (suc p) here there (m, k, all, (mid, at_least s v x e (a, (t, is, kind), (b, hb, (c, hs, (f, hf, (g, hv, (i, hi, (n, hk, (o, hn, ho)))))))), to)) begins breaks =
      let q : ℕ = p - parts_of s - parts_of v in
      late_node d p forms.Split here there a t is kind (
      late_then _ _ ((s, v, x), q, n) (division_agrees text d p s v x a n (agreeing s) (agreeing v) (b, hb, (c, hs, (f, hf, (g, hv, (i, hi, hk)))))) (
      late_first _ _ (late_minima d q n o mid there hn ho (late_expr levels k d q mid there to begins (below m k q all (omega arith) breaks)))))
  late_expr (suc levels) before (suc d) (suc p) here there (m, k, all, (mid, grown_from s v x e (a, (t, is, kind), (b, hb, (c, hs, (f, hf, (g, hv, (i, hi, (n, hk, hn))))))), to)) begins breaks =
      let q : ℕ = p - parts_of s - parts_of v in
      late_node d p forms.Grow here there a t is kind (
      late_then _ _ ((s, v, x), q, n) (division_agrees text d p s v x a n (agreeing s) (agreeing v) (b, hb, (c, hs, (f, hf, (g, hv, (i, hi, hk)))))) (
      late_then _ _ mid (taken_agrees _ n mid hn) (late_first _ _ (late_expr levels k d q mid there to begins (below m k q all (omega arith) breaks)))))

  is-next : (k : Kind) (here after : List Token) → token k here after → is_next k here ≡ true
  is-next k here after (t, is, kind) = rw (is, kind, kind-same k) refl

  module _ (l : Limits) where
    late_stage : (here there : List Token) → Breaks text l here there → Late TooDeep here there (read_stage text l here)
    unfolding read_stage
    late_stage here there h = go h.to
      where
        go : InStage text h.levels h.before here there → Late TooDeep here there (read_stage text l here)
        go (name, at, (a, ha, (n, hn, (b, hb, to)))) =
            late_then _ _ a (taken_agrees _ here a ha) (
            late_then _ _ ((name, at), n) (one_agrees (name_in text) (tests_name text) (name, at) a n hn) (
            late_then _ _ b (taken_agrees _ n b hb) (late_first _ _ (late_expr h.levels h.before l.depth l.parts b there to h.begins h.breaks))))

    breaks_next : (here there : List Token) → Breaks text l here there → is_next (kinds.Keyword keywords.Stage) here ≡ true
    breaks_next here there h = let to = h.to in is-next _ here to.2.0 to.2.1

    stage_next : (s : StageTree) (here after : List Token) → IsStage text s here after → is_next (kinds.Keyword keywords.Stage) here ≡ true
    stage_next s here after (a, ha, more) = is-next _ here a ha

    breaks-shorter : (here there : List Token) → Breaks text l here there → length there < length here
    breaks-shorter here there h = go h.to
      where
        go : InStage text h.levels h.before here there → length there < length here
        go (name, at, (a, ha, (n, hn, (b, hb, to)))) = omega (arith, ap length ha.1, ap length hn.1, ap length hb.1, expr-shorter h.levels h.before b there to)

    stages-shorter : (ss : List StageTree) (here after : List Token) → AreStages text ss here after → length after ≤ length here
    stages-shorter [] here after h = omega (arith, ap length h)
    stages-shorter (s ∷ ss) here after (b, hs, hss) = omega (arith, stage-shorter text l s here b hs, stages-shorter ss b after hss)

    late_deep : (n : ℕ) (ss : List StageTree) (here b there : List Token) → AreStages text ss here b → Breaks text l b there → Late TooDeep here there (read_stages text l n here)
    unfolding read_stages
    late_deep zero [] here b there h deep = rw h (late_before TooDeep TooManyStages b there _ (rw (breaks_next b there deep) refl) (breaks-shorter b there deep))
    late_deep (suc n) [] here b there h deep = rw h (rw (breaks_next b there deep) (late_first _ _ (late_stage b there deep)))
    late_deep zero (s ∷ ss) here b there (e, hs, hss) deep =
        late_before TooDeep TooManyStages here there _ (rw (stage_next s here e hs) refl) (omega (arith, breaks-shorter b there deep, stages-shorter ss e b hss, stage-shorter text l s here e hs))
    late_deep (suc n) (s ∷ ss) here b there (e, hs, hss) deep =
        rw (stage_next s here e hs) (late_then _ _ (s, e) (stage_agrees text l s here e hs) (late_first _ _ (late_deep n ss e b there hss deep)))

    late_many : (n : ℕ) (ss : List StageTree) (here there : List Token) → length ss ≡ n → AreStages text ss here there → Begins (keyword keywords.Stage) there → Late TooManyStages here there (read_stages text l n here)
    unfolding read_stages
    late_many zero [] here there len h next =
        let stops : read_stages text l zero there ≡ Err (TooManyStages, there) = rw (is-next _ there next.0 next.1) refl in
        rw h (late_here TooManyStages there there _ stops (omega arith))
    late_many (suc n) (s ∷ ss) here there len (e, hs, hss) next =
        rw (stage_next s here e hs) (late_then _ _ (s, e) (stage_agrees text l s here e hs) (late_first _ _ (late_many n ss e there (omega arith) hss next)))
    late_many zero (s ∷ ss) here there len h next = absurd cc
    late_many (suc n) [] here there len h next = absurd cc

    late_book : (c : Cause) (h : HeadTree) (here b there : List Token) → IsHead text h here b → Late c b there (read_stages text l l.stages b) → Late c here there (read_book text l here)
    unfolding read_book read_front
    late_book c h here b there hh late = late_first _ _ (late_then _ _ (h, b) (head_agrees text h here b hh) (late_first _ _ late))

    pub late_too_deep : (k levels before : ℕ) (here there : List Token) → (PastStages text k ▸ InStage text levels before) here there → BeginsExpr there → (levels ≡ l.depth) ⊎ (before ≡ l.parts) → Late TooDeep here there (read_book text l here)
    late_too_deep k levels before here there (b, (h, ss, len, (r, hr, hss)), to) begins breaks =
        late_book TooDeep h here r there hr (late_deep l.stages ss r b there hss (record { levels = levels; before = before; to = to; begins = begins; breaks = breaks }))

    pub late_too_many : (here there : List Token) → PastStages text l.stages here there → Begins (keyword keywords.Stage) there → Late TooManyStages here there (read_book text l here)
    late_too_many here there (h, ss, len, (r, hr, hss)) next = late_book TooManyStages h here r there hr (late_many l.stages ss r there len hss next)
