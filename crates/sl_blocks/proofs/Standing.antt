-- A plan after a declaration is a block, where it is fine, in its time and achieves what it is asked for.
use Rattle.std.proofs.Common.{◌≡◌, ℕ, zero, suc, ◌+◌, ◌<◌, ◌≤◌, true, List, ◌∷◌, ◌++◌, length, Option, None, Some, slice_get, refl, ap, subst, ◌∙◌, inl, inr, arith, length-append}
use Rattle.std.proofs.lemmas.List.Elements.{All-from_recursion}
use Rattle.std.proofs.lemmas.Option.{none-some, same_Some}
use Rattle.sl_law_meaning.specs.returns.Election.{Election, IsElection}
use Rattle.sl_code_instructions.specs.declared.code.TheConstants.{MAX_INSTRS}
use Rattle.sl_code_instructions.specs.declared.instr.Instr.{Instr}
use Rattle.sl_code_instructions.specs.declared.instr.Instr.TheVariants.{At}
use Rattle.sl_code_instructions.specs.declared.kinds.Kinds.{Kinds}
use Rattle.sl_code_instructions.specs.Codes.{CountingCode}
use Rattle.sl_code_instructions.specs.Proper.{IsInRange}
use Rattle.sl_code_instructions.specs.Rows.{target_of}
use Rattle.sl_code_instructions.specs.Standing.{HasAt}
use Rattle.sl_code_semantics.specs.Kinds.{start_kinds}
use Rattle.sl_code_semantics.specs.Pieces.{JumpsWithin}
use Rattle.sl_code_semantics.specs.WellKinded.{context_of}
use Rattle.sl_code_semantics.proofs.kinds.PieceFacts.{nothing_asked}
use Rattle.sl_code_semantics.specs.State.{State, End}
use Rattle.sl_code_semantics.proofs.runs.Coming.{wider, ends_wider}
use Rattle.sl_compile_plans.specs.Trees.{Tree, size_of, flat}
use Rattle.sl_compile_plans.specs.Meaning.{Course, Onward, Final, Unsaid, does, cost}
use Rattle.sl_compile_plans.specs.Achieves.{Meets, Achieves, Reaches}
use Rattle.sl_compile_plans.specs.Laid.{laid}
use Rattle.sl_compile_plans.specs.Fine.{ArePassed, is_fine, judged_by, kinds_along}
use Rattle.sl_compile_plans.proofs.Places.{length-flat}
use Rattle.sl_compile_plans.proofs.LaidPlans.{plan_stands, laid_is_followed}
use Rattle.sl_compile_plans.proofs.Kinded.{fine_plans_pass}
use Rattle.sl_compile_plans.proofs.Targets.{plans_jump_within}
use Rattle.sl_blocks.specs.Blocks.{PassesOn, IsBlock}
use Rattle.sl_blocks.specs.PlanBlocks.{IsSaid, IsPlanBlock}
use Rattle.sl_compile_plans.proofs.ProperTrees.{IsRanged, laid_in_range, plain_is_quiet}

-- with the slots and the stages of the code, where nothing is known
abbrev pub IsFineIn : CountingCode → Tree → Type 0
IsFineIn code tree = is_fine (judged_by (slice_get code.slots) (length code.stages)) start_kinds tree ≡ true

-- what is to be known of a plan
pub record MakesBlock (time : Election → ℕ) (most : ℕ) (Stands : CountingCode → Type 0) (Begins : CountingCode → Election → State → Type 0)
    (Does : CountingCode → Election → State → State → Type 0) (Ends : CountingCode → Election → State → End → Type 0) (tree : Tree) : Type 0 where
  pub short : size_of tree + 1 ≤ most
  pub in_time : (e : Election) → cost e tree + 1 ≤ time e
  pub ranged : IsRanged tree
  pub fine : (code : CountingCode) → Stands code → IsFineIn code tree
  pub achieves : (code : CountingCode) (e : Election) (state : State) → Stands code → IsElection e → Begins code e state →
      Achieves code e tree state (Does code e state) (Ends code e state)

-- the declaration passes whatever reaches it
passes_first : (code : CountingCode) (comes : Option Kinds) (rest : List Instr) (k : Kinds) → ArePassed (context_of code) (Some start_kinds) rest (Some k)
    → PassesOn code comes (At start_kinds ∷ rest)
passes_first code None rest k h = record { passed = h.passed; kinds = k; leaves = h.after }
passes_first code (Some c) rest k h = record { passed = rw (nothing_asked c) h.passed; kinds = k; leaves = h.after }

-- a jump within the plan is one within the block
jumps_one_later : (p : ℕ) (is : List Instr) → JumpsWithin (p + 1) is → JumpsWithin p (At start_kinds ∷ is)
jumps_one_later p is h = record { each = of }
  where
    of : (n t : ℕ) (i : Instr) → slice_get (At start_kinds ∷ is) n ≡ Some i → target_of i ≡ Some t → (p ≤ t) × (t < p + length (At start_kinds ∷ is))
    of zero t i at is_target = absurd (none-some t (ap target_of (same_Some (At start_kinds) i at) ∙ is_target))
    of (suc n) t i at is_target = let there = h.each n t i at is_target in (omega (arith, there.0), omega (arith, there.1))

module _ (time : Election → ℕ) (most : ℕ) (Stands : CountingCode → Type 0) (Begins : CountingCode → Election → State → Type 0)
    (Does : CountingCode → Election → State → State → Type 0) (Ends : CountingCode → Election → State → End → Type 0) (tree : Tree)
    (h : MakesBlock time most Stands Begins Does Ends tree) (p : ℕ) where
  all_pass : (code : CountingCode) → Stands code → HasAt code p (laid p tree) → (comes : Option Kinds) → PassesOn code comes (laid p tree)
  all_pass code stands has comes =
      passes_first code comes (flat start_kinds (p + 1) tree) (kinds_along start_kinds tree)
      (fine_plans_pass code (slice_get code.slots) (length code.stages) start_kinds (p + 1) tree (plan_stands code p tree has) (λ n s there. there) (omega arith) (h.fine code stands))

  runs_through : (code : CountingCode) (e : Election) (state : State) → Stands code → HasAt code p (laid p tree) → IsElection e → Begins code e state →
      Reaches code e (time e) p state (p + (size_of tree + 1)) (Does code e state) (Ends code e state)
  runs_through code e state stands has is begins =
      let next : ℕ = p + (size_of tree + 1) in
      elim (laid_is_followed code e (Does code e state) (Ends code e state) p tree state has (h.achieves code e state stands is begins)) [
        | inl on ↦ inl (on.0, wider code e (cost e tree + 1) (time e) p next state on.0 (h.in_time e) on.1, on.2)
        | inr end ↦ inr (end.0, ends_wider code e (cost e tree + 1) (time e) p state end.0 (h.in_time e) end.1, end.2)
      ]

pub is_block : (time : Election → ℕ) (most : ℕ) (Stands : CountingCode → Type 0) (Begins : CountingCode → Election → State → Type 0)
    (Does : CountingCode → Election → State → State → Type 0) (Ends : CountingCode → Election → State → End → Type 0) (tree : Tree) →
    MakesBlock time most Stands Begins Does Ends tree → (before after : List Instr) →
    after ≡ before ++ laid (length before) tree → IsBlock time most Stands Begins Does Ends before after
is_block time most Stands Begins Does Ends tree h before after is =
    let p : ℕ = length before in
    let rest : List Instr = flat start_kinds (p + 1) tree in
    let long : length rest ≡ size_of tree = length-flat tree start_kinds (p + 1) in
    let ends_at : p + (size_of tree + 1) ≡ length after = omega (arith, long, length-append before (laid p tree), ap length is) in
    record {
      block = laid p tree;
      kept = is;
      begins = (rest, refl);
      short = omega (arith, long, h.short);
      within = jumps_one_later p rest (plans_jump_within start_kinds (p + 1) tree (plain_is_quiet tree h.ranged.plain));
      in_range = λ (few : length after ≤ MAX_INSTRS). All-from_recursion IsInRange (laid p tree) (laid_in_range p tree h.ranged (omega (arith, few, ends_at)));
      passes = λ code stands has comes. all_pass time most Stands Begins Does Ends tree h p code stands has comes;
      runs = λ code e state stands has is_election begins.
          subst (λ (q : ℕ). Reaches code e (time e) p state q (Does code e state) (Ends code e state)) ends_at
          (runs_through time most Stands Begins Does Ends tree h p code e state stands has is_election begins);
    }

-- ---- what the plan says

-- what is to be known of a plan for that
pub record MakesPlan (Stands : CountingCode → Type 0) (tree : Tree) : Type 0 where
  pub ranged : IsRanged tree
  pub fine : (code : CountingCode) → Stands code → IsFineIn code tree

-- a course of which something is said meets itself
meets_itself : (o : Course) → IsSaid o → Meets o (λ t. o ≡ Onward t) (λ x. o ≡ Final x)
meets_itself (Onward t) said = refl
meets_itself (Final x) said = refl
meets_itself Unsaid said = absurd said

pub is_plan_block : (Stands : CountingCode → Type 0) (tree : Tree) → MakesPlan Stands tree → (before after : List Instr) →
    after ≡ before ++ laid (length before) tree → IsPlanBlock Stands tree before after
is_plan_block Stands tree h before after is =
    is_block (λ e. cost e tree + 1) (size_of tree + 1) Stands _ _ _ tree
    (record {
      short = omega arith;
      in_time = λ e. omega arith;
      ranged = h.ranged;
      fine = h.fine;
      achieves = λ code e state stands is_election said. record { meets = meets_itself (does code e tree state) said };
    })
    before after is
