-- The way of a run through a code, from place to place.
use Rattle.std.proofs.Common.{◌≡◌, ◌<◌, ◌≤◌, ◌+◌, ◌-◌, ℕ, zero, suc, Bool, true, false, List, [], ◌∷◌, ◌++◌, length, drop, take, get_or, Some, slice_get, if◌then◌else◌, refl, sym, ap, subst, ◌∙◌, arith}
use Rattle.std.proofs.lemmas.List.{length-append, length-take-le, take-append-drop, drop-drop}
use Rattle.std.proofs.Math.Seq.{drop-append_seam, take-suc}
use Rattle.sl_law_meaning.specs.returns.Election.{Election}
use Rattle.sl_code_instructions.specs.Codes.{CountingCode}
use Rattle.sl_code_instructions.specs.declared.instr.Instr.{Instr}
use Rattle.sl_code_semantics.specs.Agrees.{IsSafe}
use Rattle.sl_code_semantics.specs.State.{State}
use Rattle.sl_code_steps.specs.declared.step.Records.{Records}
use Rattle.sl_machine.specs.declared.way.Standing.{Standing}
use Rattle.sl_machine.specs.inner.Leading.{LeadsTo}
use Rattle.sl_code_steps.specs.inner.Recording.{state_by}
use Rattle.sl_machine.specs.inner.Ways.{is_idle, standing_from, standing_before}
use Rattle.sl_machine.proofs.runs.Leading.{idle_leads, stays, leads_after}

-- ---- those of two pieces

one_more : (b : Bool) (x : Standing) (xs ys zs : List Standing) → xs ≡ ys ++ zs → (if b then xs else (x ∷ xs)) ≡ (if b then ys else (x ∷ ys)) ++ zs
one_more true x xs ys zs same = same
one_more false x xs ys zs same = ap (λ (rest : List Standing). x ∷ rest) same

-- what stands first from a place on stands at the place
first_from : {A : Type 0} (xs : List A) (p : ℕ) → slice_get (drop p xs) 0 ≡ slice_get xs p
first_from xs zero = refl
first_from [] (suc p) = refl
first_from (x ∷ xs) (suc p) = first_from xs p

-- with one more of them, all numbers are as they should be
pub numbers_on : (f : ℕ → ℕ) (xs : List ℕ) (x : ℕ) → ((i : ℕ) → i < length xs → get_or xs i 0 ≡ f i) → x ≡ f (length xs) →
    (i : ℕ) → i < suc (length xs) → get_or (xs ++ (x ∷ [])) i 0 ≡ f i
numbers_on f [] x all one zero within = one
numbers_on f [] x all one (suc i) within = absurd (omega (arith, within))
numbers_on f (y ∷ ys) x all one zero within = all 0 (omega arith)
numbers_on f (y ∷ ys) x all one (suc i) within = numbers_on (λ n. f (suc n)) ys x (λ n there. all (suc n) (omega (arith, there))) one i (omega (arith, within))

module _ (k : Records) where
  standing_append : (q : ℕ) (xs ys : List Instr) → standing_from k q (xs ++ ys) ≡ standing_from k q xs ++ standing_from k (q + length xs) ys
  standing_append q [] ys = let none : q ≡ q + 0 = omega arith in ap (λ (p : ℕ). standing_from k p ys) none
  standing_append q (x ∷ xs) ys =
      let there : q + 1 + length xs ≡ q + suc (length xs) = omega arith in
      let rest = standing_append (q + 1) xs ys ∙ ap (λ (p : ℕ). standing_from k (q + 1) xs ++ standing_from k p ys) there in
      one_more (is_idle k x) (record { instr = x; place = q }) _ _ _ rest

  -- the one after the first ones
  pub standing_next : (xs : List Instr) (i : ℕ) (d : Instr) → i < length xs →
      standing_from k 0 (take (suc i) xs) ≡ standing_from k 0 (take i xs) ++ standing_from k i (get_or xs i d ∷ [])
  standing_next xs i d within =
      let place : 0 + length (take i xs) ≡ i = omega (arith, length-take-le i xs (omega (arith, within))) in
      ap (standing_from k 0) (take-suc xs i d within) ∙ standing_append 0 (take i xs) (get_or xs i d ∷ [])
      ∙ ap (λ (p : ℕ). standing_from k 0 (take i xs) ++ standing_from k p (get_or xs i d ∷ [])) place

  module _ (c : CountingCode) (p : ℕ) (within : p ≤ length c.instrs) where
    two_parts : standing_from k 0 c.instrs ≡ standing_from k 0 (take p c.instrs) ++ standing_from k p (drop p c.instrs)
    two_parts =
        let place : 0 + length (take p c.instrs) ≡ p = omega (arith, length-take-le p c.instrs within) in
        ap (standing_from k 0) (sym (take-append-drop p c.instrs)) ∙ standing_append 0 (take p c.instrs) (drop p c.instrs)
        ∙ ap (λ (q : ℕ). standing_from k 0 (take p c.instrs) ++ standing_from k q (drop p c.instrs)) place

    pub from_place : drop (standing_before k c p) (standing_from k 0 c.instrs) ≡ standing_from k p (drop p c.instrs)
    from_place = ap (drop (standing_before k c p)) two_parts ∙ drop-append_seam (standing_from k 0 (take p c.instrs)) _

    pub before_within : standing_before k c p ≤ length (standing_from k 0 c.instrs)
    before_within = omega (arith, ap length two_parts, length-append (standing_from k 0 (take p c.instrs)) (standing_from k p (drop p c.instrs)))

-- ---- the next one from a place on

-- from place p and state s the run comes straight to a place, to state t, where this one stands; after it stand the others
pub record ComesTo (k : Records) (c : CountingCode) (e : Election) (p : ℕ) (s : State) (here : Standing) (others : List Standing) (t : State) : Type 0 where
  pub stands : slice_get c.instrs here.place ≡ Some here.instr
  pub behind : others ≡ standing_from k (here.place + 1) (drop (here.place + 1) c.instrs)
  pub from : p ≤ here.place
  pub leads : LeadsTo k c e p s (here.place - p) here.place t

-- to the first of those ahead
abbrev pub ComesOn : Records → CountingCode → Election → ℕ → State → List Standing → State → Type 0
ComesOn k c e p s [] t = ⊥
ComesOn k c e p s (here ∷ others) t = ComesTo k c e p s here others t

module _ (k : Records) (c : CountingCode) (e : Election) where
  next_drop : (p : ℕ) (i : Instr) (is : List Instr) → drop p c.instrs ≡ i ∷ is → drop (p + 1) c.instrs ≡ is
  next_drop p i is from = sym (drop-drop 1 p c.instrs) ∙ ap (drop 1) from

  -- one piece after another
  comes_after : (p q : ℕ) (s t u : State) (ahead : List Standing) → p ≤ q → LeadsTo k c e p s (q - p) q t → ComesOn k c e q t ahead u → ComesOn k c e p s ahead u
  comes_after p q s t u [] on first next = elim next [ ]
  comes_after p q s t u (here ∷ others) on first next =
      let place = here.place in
      let steps : q - p + (place - q) ≡ place - p = omega (arith, on, next.from) in
      record {
        stands = next.stands;
        behind = next.behind;
        from = omega (arith, on, next.from);
        leads = subst (λ (n : ℕ). LeadsTo k c e p s n place u) steps (leads_after k p s (q - p) q t (place - q) place u first next.leads);
      }

  comes_here : (p : ℕ) (s : State) (i : Instr) (is : List Instr) → IsSafe c e p s → state_by k s ≡ s → drop p c.instrs ≡ i ∷ is → slice_get c.instrs p ≡ Some i →
      ComesTo k c e p s (record { instr = i; place = p }) (standing_from k (p + 1) is) s
  comes_here p s i is safe none from at =
      let steps : 0 ≡ p - p = omega arith in
      record {
        stands = at;
        behind = ap (standing_from k (p + 1)) (sym (next_drop p i is from));
        from = omega arith;
        leads = subst (λ (n : ℕ). LeadsTo k c e p s n p s) steps (stays safe k none);
      }

  by_idle : (b : Bool) (i : Instr) (is : List Instr) (p : ℕ) (s : State) →
      (IsSafe c e (p + 1) s → state_by k s ≡ s → drop (p + 1) c.instrs ≡ is → ComesOn k c e (p + 1) s (standing_from k (p + 1) is) s) →
      is_idle k i ≡ b → IsSafe c e p s → state_by k s ≡ s → drop p c.instrs ≡ i ∷ is → slice_get c.instrs p ≡ Some i →
      ComesOn k c e p s (if b then standing_from k (p + 1) is else (record { instr = i; place = p } ∷ standing_from k (p + 1) is)) s
  by_idle true i is p s next idle safe none from at =
      let one = idle_leads safe at k none idle in
      let steps : 1 ≡ p + 1 - p = omega arith in
      let on : p ≤ p + 1 = omega arith in
      comes_after p (p + 1) s s s (standing_from k (p + 1) is) on (subst (λ (n : ℕ). LeadsTo k c e p s n (p + 1) s) steps one) (next one.0 one.1 (next_drop p i is from))
  by_idle false i is p s next idle safe none from at = comes_here p s i is safe none from at

  comes : (xs : List Instr) (p : ℕ) (s : State) → IsSafe c e p s → state_by k s ≡ s → drop p c.instrs ≡ xs → ComesOn k c e p s (standing_from k p xs) s
  comes [] p s safe none from =
      let at : slice_get (drop p c.instrs) 0 ≡ Some safe.instr = first_from c.instrs p ∙ safe.stands in
      let nothing : slice_get {X = Instr} [] 0 ≡ Some safe.instr = sym (ap (λ (ys : List Instr). slice_get ys 0) from) ∙ at in
      cc
  comes (i ∷ is) p s safe none from =
      let at = sym (first_from c.instrs p) ∙ ap (λ (ys : List Instr). slice_get ys 0) from in
      by_idle (is_idle k i) i is p s (comes is (p + 1) s) refl safe none from at

  pub comes_on : (p : ℕ) (s : State) → IsSafe c e p s → state_by k s ≡ s → (ahead : List Standing) → ahead ≡ standing_from k p (drop p c.instrs) → ComesOn k c e p s ahead s
  comes_on p s safe none ahead are = subst (λ (xs : List Standing). ComesOn k c e p s xs s) (sym are) (comes (drop p c.instrs) p s safe none refl)
