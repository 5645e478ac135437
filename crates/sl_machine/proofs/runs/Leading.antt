-- What a step from a safe place comes to, by a run that keeps what it records or drops it.
use Rattle.std.proofs.Common.{◌≡◌, ℕ, zero, suc, ◌+◌, ◌-◌, true, Option, Some, IfSome, IsTrue, slice_get, refl, sym, ap, subst, ◌∙◌, arith}
use Rattle.std.proofs.lemmas.Option.{same_Some}
use Rattle.sl_law_meaning.specs.returns.Election.{Election}
use Rattle.sl_code_instructions.specs.Codes.{CountingCode}
use Rattle.sl_code_instructions.specs.declared.instr.Instr.{Instr}
use Rattle.sl_code_instructions.specs.declared.instr.Instr.TheVariants as op
use Rattle.sl_code_semantics.specs.Needs.{has_columns}
use Rattle.sl_code_semantics.specs.WellKinded.{context_of}
use Rattle.sl_code_instructions.specs.Rows.{target_of}
use Rattle.sl_code_steps.specs.declared.step.End.{End}
use Rattle.sl_code_steps.specs.declared.step.Records.{Records}
use Rattle.sl_code_steps.specs.declared.step.Records.TheVariants as records
use Rattle.sl_code_semantics.specs.Agrees.{IsSafe}
use Rattle.sl_code_semantics.specs.Effects.{Effect, Goes, Jumps, Ends, NoCase, effect}
use Rattle.sl_code_semantics.specs.Fits.{FitsEnd}
use Rattle.sl_code_semantics.specs.Laws.{StepsSafely, LandsSafely}
use Rattle.sl_code_semantics.specs.Runs.{Step, follow, to_target, after_step, run}
use Rattle.sl_machine.specs.inner.Leading.{LeadsTo, EndsWith}
use Rattle.sl_code_steps.specs.inner.Ends.{ends_run}
use Rattle.sl_code_steps.specs.inner.Recording.{state_by, effect_by, ending_by, left_by}
use Rattle.sl_code_semantics.specs.Safe.{MayStep}
use Rattle.sl_code_semantics.specs.State.{State}
use Rattle.sl_code_steps.specs.inner.Stores.{end_with}
use Rattle.sl_machine.specs.inner.Ways.{is_idle}
use Rattle.sl_code_semantics.proofs.soundness.Soundness.{safe_steps}
use Rattle.sl_code_semantics.proofs.runs.Stepping.{step_is}
use Rattle.sl_machine.proofs.runs.Idle.{idle_goes}
use Rattle.sl_machine.proofs.runs.Unrecorded.{still_safe, still_fits, left_is, goes_by, ends_by}

-- what ends a run records nothing
no_record : (k : Records) (i : Instr) (x : Effect) → IsTrue (ends_run i) → left_by k i x ≡ x
no_record k (op.Fault n scope f) x ends = refl
no_record k i x ends = cc

module _ {c : CountingCode} {e : Election} where
  -- no step, and one piece after another
  pub stays : {p : ℕ} {s : State} → IsSafe c e p s → (k : Records) → state_by k s ≡ s → LeadsTo k c e p s 0 p s
  stays {p} {s} safe k none = (safe, none, λ left. let same : left ≡ left - 0 = omega arith in ap (λ (n : ℕ). ending_by k (run c e n p s)) same)

  pub leads_after : (k : Records) (p : ℕ) (s : State) (a q : ℕ) (t : State) (b r : ℕ) (u : State) → LeadsTo k c e p s a q t → LeadsTo k c e q t b r u → LeadsTo k c e p s (a + b) r u
  leads_after k p s a q t b r u first next = (
    next.0,
    next.1,
    λ left.
        let same : left - a - b ≡ left - (a + b) = omega arith in
        first.2 left ∙ next.2 (left - a) ∙ ap (λ (n : ℕ). ending_by k (run c e n r u)) same,
  )

module _ {c : CountingCode} {e : Election} {p : ℕ} {s : State} (safe : IsSafe c e p s) {i : Instr} (at : slice_get c.instrs p ≡ Some i) where
  next : StepsSafely c e p s
  next = safe_steps c e p s safe

  same : next.instr ≡ i
  same = same_Some next.instr i (sym next.stands ∙ at)

  pub may_here : MayStep c e i s
  may_here = subst (λ (j : Instr). MayStep c e j s) same next.may

  pub columns_here : IsTrue (has_columns (context_of c) i)
  columns_here = subst (λ (j : Instr). IsTrue (has_columns (context_of c) j)) same next.columns

  at_next : (x : Effect) → effect c e i s ≡ x → effect c e next.instr s ≡ x
  at_next x h = ap (λ (j : Instr). effect c e j s) same ∙ h

  landing : (t : State) → effect c e i s ≡ Jumps t → LandsSafely c e i t
  landing t h = subst (λ (j : Instr). LandsSafely c e j t) same (next.jumps t (at_next (Jumps t) h))

  -- ---- by either kind of run
  -- to go on from an effect is safe, with no records where they are dropped
  abbrev IsGood : Records → Effect → Type 0
  IsGood k (Goes t) = IsSafe c e (p + 1) t × (state_by k t ≡ t)
  IsGood k (Jumps t) = LandsSafely c e i t × (state_by k t ≡ t)
  IsGood k (Ends x) = FitsEnd c e x
  IsGood k NoCase = Unit {0}

  good : (k : Records) (x : Effect) → effect c e i s ≡ x → IsGood k (effect_by k x)
  good records.Kept (Goes t) h = (next.goes t (at_next (Goes t) h), refl)
  good records.Kept (Jumps t) h = (landing t h, refl)
  good records.Kept (Ends x) h = next.ends x (at_next (Ends x) h)
  good records.Kept NoCase h = tt
  good records.Dropped (Goes t) h = (still_safe c e (p + 1) t (next.goes t (at_next (Goes t) h)), refl)
  good records.Dropped (Jumps t) h =
      let there = landing t h in
      (record { place = there.place; target = there.target; safe = still_safe c e there.place t there.safe }, refl)
  good records.Dropped (Ends x) h = still_fits c e x (next.ends x (at_next (Ends x) h))
  good records.Dropped NoCase h = tt

  module _ (k : Records) (none : state_by k s ≡ s) where
    left : (x : Effect) → x ≡ left_by k i (effect c e i s) → x ≡ effect_by k (effect c e i s)
    left x h = h ∙ left_is c e k i s none

    is_good : (x : Effect) → x ≡ left_by k i (effect c e i s) → IsGood k x
    is_good x h = subst (IsGood k) (sym (left x h)) (good k (effect c e i s) refl)

    one_less : (q : ℕ) (t : State) → ((n : ℕ) → ending_by k (run c e (suc n) p s) ≡ ending_by k (run c e n q t)) →
        (left : ℕ) → ending_by k (run c e left p s) ≡ ending_by k (run c e (left - 1) q t)
    one_less q t h zero = refl
    one_less q t h (suc n) = let less : n ≡ suc n - 1 = omega arith in h n ∙ ap (λ (m : ℕ). ending_by k (run c e m q t)) less

    first : (n : ℕ) → ending_by k (run c e (suc n) p s) ≡ ending_by k (after_step (follow p (target_of i) (effect c e i s)) (run c e n))
    first n = ap (λ (y : Step). ending_by k (after_step y (run c e n))) (step_is c e p s i at (effect c e i s) refl)

    runs_on : (x : Effect) → x ≡ left_by k i (effect c e i s) → (n : ℕ) → ending_by k (run c e (suc n) p s) ≡ ending_by k (after_step (follow p (target_of i) x) (run c e n))
    runs_on x h n = first n ∙ goes_by c e k n p (target_of i) (effect c e i s) ∙ ap (λ (y : Effect). ending_by k (after_step (follow p (target_of i) y) (run c e n))) (sym (left x h))

    pub goes_on : {t : State} → Goes t ≡ left_by k i (effect c e i s) → LeadsTo k c e p s 1 (p + 1) t
    goes_on {t} h = let there = is_good (Goes t) h in (there.0, there.1, one_less (p + 1) t (runs_on (Goes t) h))

    pub idle_leads : is_idle k i ≡ true → LeadsTo k c e p s 1 (p + 1) s
    idle_leads idle = goes_on (idle_goes c e s k i idle none may_here.case)

    pub target_is : {t : State} {q : ℕ} → Jumps t ≡ left_by k i (effect c e i s) → IfSome (target_of i) (λ target. q ≡ target) → target_of i ≡ Some q
    target_is {t} {q} h told =
        let target = (is_good (Jumps t) h).0.target in
        target ∙ ap Some (sym (subst (λ (o : Option ℕ). IfSome o (λ target. q ≡ target)) target told))

    pub jumps_to : {t : State} {q : ℕ} → Jumps t ≡ left_by k i (effect c e i s) → target_of i ≡ Some q → LeadsTo k c e p s 1 q t
    jumps_to {t} {q} h target =
        let there = is_good (Jumps t) h in
        let place : there.0.place ≡ q = same_Some there.0.place q (sym there.0.target ∙ target) in
        (subst (λ (r : ℕ). IsSafe c e r t) place there.0.safe, there.1, one_less q t (λ n. runs_on (Jumps t) h n ∙ ap (λ (o : Option ℕ). ending_by k (after_step (to_target o t) (run c e n))) target))

    pub ends_with : (x : End) (t : State) → IsTrue (ends_run i) → Ends (end_with x t) ≡ effect c e i s → EndsWith k c e p s x t
    ends_with x t ends same =
        let h : Ends (end_with x t) ≡ left_by k i (effect c e i s) = same ∙ sym (no_record k i (effect c e i s) ends) in
        (is_good (Ends (end_with x t)) h, λ n. first n ∙ ends_by k p (target_of i) (effect c e i s) (run c e n) (end_with x t) (left (Ends (end_with x t)) h))
