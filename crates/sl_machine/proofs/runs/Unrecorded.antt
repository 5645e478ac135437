-- A run that drops what it records goes as one that keeps it, but for the records.
use Rattle.std.proofs.Common.{◌≡◌, ℕ, zero, suc, ◌+◌, Bool, true, false, ◌||◌, [], length, Option, Some, None, slice_get, if◌then◌else◌, refl, sym, ap, ◌∙◌}
use Rattle.std.proofs.lemmas.List.Elements.{All-nil}
use Rattle.sl_law_meaning.specs.returns.Election.{Election}
use Rattle.sl_code_instructions.specs.declared.instr.Instr.{Instr}
use Rattle.sl_code_instructions.specs.Codes.{CountingCode}
use Rattle.sl_code_instructions.specs.Rows.{target_of}
use Rattle.sl_code_steps.specs.declared.step.Records.{Records}
use Rattle.sl_code_steps.specs.declared.step.Records.TheVariants as records
use Rattle.sl_code_semantics.specs.State.{State, End, Halted, Faulted, start}
use Rattle.sl_code_semantics.specs.Agrees.{IsSafe}
use Rattle.sl_code_semantics.specs.Effects.{Effect, Goes, Jumps, Ends, NoCase, effect}
use Rattle.sl_code_semantics.specs.Fits.{FitsEnd, FitsRecords, FitsStep, FitsWeight}
use Rattle.sl_code_semantics.specs.Runs.{Ending, Ended, Stuck, follow, after_step, step_of, run}
use Rattle.sl_code_semantics.specs.Unrecorded.{unrecorded, unrecorded_end, without_records}
use Rattle.sl_code_semantics.specs.Frames.{records_step, records_weight}
use Rattle.sl_code_steps.specs.inner.Recording.{unrecorded_effect, state_by, effect_by, ending_by, left_by}
use Rattle.sl_code_steps.proofs.Dropping.{drops}

-- ---- states, ends
pub start_by : (k : Records) → state_by k start ≡ start
start_by records.Kept = refl
start_by records.Dropped = refl

twice_end : (x : End) → unrecorded_end x ≡ unrecorded_end (unrecorded_end x)
twice_end (Halted base vacant s) = refl
twice_end (Faulted fault) = refl

no_records : (stages : ℕ) (e : Election) → FitsRecords stages e [] []
no_records stages e = record { steps = All-nil (FitsStep stages e); weights = All-nil (FitsWeight stages e) }

module _ (c : CountingCode) (e : Election) where
  -- what is safe, and what fits, is so without its records
  pub still_safe : (p : ℕ) (s : State) → IsSafe c e p s → IsSafe c e p (unrecorded s)
  still_safe p s h = record {
    code = h.code;
    election = h.election;
    instr = h.instr;
    stands = h.stands;
    agrees = record { positive = h.agrees.positive; cursors = h.agrees.cursors; table = h.agrees.table };
    range = record { party = h.range.party; land = h.range.land; win = h.range.win; table = h.range.table };
    records = no_records (length c.stages) e;
  }

  pub still_fits : (x : End) → FitsEnd c e x → FitsEnd c e (unrecorded_end x)
  still_fits (Halted base vacant s) h = record { base = h.base; vacant = h.vacant; records = no_records (length c.stages) e }
  still_fits (Faulted fault) h = h

  -- ---- one instruction
  either : (b : Bool) (x : Effect) → (if b then x else x) ≡ x
  either true x = refl
  either false x = refl

  -- in a state as the run leaves it, all effects are left alike
  pub left_is : (k : Records) (i : Instr) (s : State) → state_by k s ≡ s → left_by k i (effect c e i s) ≡ effect_by k (effect c e i s)
  left_is records.Kept i s none = either (records_step i || records_weight i) (effect c e i s)
  left_is records.Dropped i s none = ap (λ (t : State). left_by records.Dropped i (effect c e i t)) (sym none) ∙ sym (drops c e s i)

  -- ---- runs
  goes_dropped : (n p : ℕ) (target : Option ℕ) (x : Effect) → ((q : ℕ) (t : State) → without_records (run c e n q t) ≡ without_records (run c e n q (unrecorded t)))
      → without_records (after_step (follow p target x) (run c e n)) ≡ without_records (after_step (follow p target (unrecorded_effect x)) (run c e n))
  goes_dropped n p target (Goes t) on = on (p + 1) t
  goes_dropped n p None (Jumps t) on = refl
  goes_dropped n p (Some q) (Jumps t) on = on q t
  goes_dropped n p target (Ends x) on = ap Ended (twice_end x)
  goes_dropped n p target NoCase on = refl

  step_dropped : (n p : ℕ) (s : State) (o : Option Instr) → ((q : ℕ) (t : State) → without_records (run c e n q t) ≡ without_records (run c e n q (unrecorded t)))
      → without_records (after_step (step_of c e o p s) (run c e n)) ≡ without_records (after_step (step_of c e o p (unrecorded s)) (run c e n))
  step_dropped n p s None on = refl
  step_dropped n p s (Some i) on =
      goes_dropped n p (target_of i) (effect c e i s) on
      ∙ ap (λ (x : Effect). without_records (after_step (follow p (target_of i) x) (run c e n))) (drops c e s i ∙ sym (drops c e (unrecorded s) i))
      ∙ sym (goes_dropped n p (target_of i) (effect c e i (unrecorded s)) on)

  same_run : (n p : ℕ) (s : State) → without_records (run c e n p s) ≡ without_records (run c e n p (unrecorded s))
  same_run zero p s = refl
  same_run (suc n) p s = step_dropped n p s (slice_get c.instrs p) (same_run n)

  -- a run goes on from an effect as from what is left of it
  pub goes_by : (k : Records) (n p : ℕ) (target : Option ℕ) (x : Effect)
      → ending_by k (after_step (follow p target x) (run c e n)) ≡ ending_by k (after_step (follow p target (effect_by k x)) (run c e n))
  goes_by records.Kept n p target x = refl
  goes_by records.Dropped n p target x = goes_dropped n p target x (same_run n)

-- the ending of a run after an effect, where that ends it
abbrev over : Effect → Ending
over (Ends x) = Ended x
over _ = Stuck

pub ends_by : (k : Records) (p : ℕ) (target : Option ℕ) (x : Effect) (rest : ℕ → State → Ending) (y : End) → Ends y ≡ effect_by k x → ending_by k (after_step (follow p target x) rest) ≡ Ended y
ends_by records.Kept p target (Ends x) rest y h = sym (ap over h)
ends_by records.Dropped p target (Ends x) rest y h = sym (ap over h)
ends_by records.Kept p target _ rest y h = cc
ends_by records.Dropped p target _ rest y h = cc
