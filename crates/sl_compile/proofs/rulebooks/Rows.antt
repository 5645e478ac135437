-- Blocks one after the other: what they are together, by what each of them is.
use Rattle.std.proofs.Common.{◌≡◌, ℕ, ◌+◌, ◌≤◌, List, [], ◌∷◌, ◌++◌, All, length, Some, refl, sym, ap, subst, ◌∙◌, inl, inr, arith, append_assoc, append-nil, length-append}
use Rattle.std.proofs.lemmas.List.Elements.{All-nil, All-append}
use Rattle.sl_law_meaning.specs.returns.Election.{Election, IsElection}
use Rattle.sl_code_instructions.specs.declared.code.TheConstants.{MAX_INSTRS}
use Rattle.sl_code_instructions.specs.declared.instr.Instr.{Instr}
use Rattle.sl_code_instructions.specs.Codes.{CountingCode}
use Rattle.sl_code_instructions.specs.Proper.{IsInRange}
use Rattle.sl_code_instructions.specs.Standing.{HasAt}
use Rattle.sl_code_semantics.specs.Kinds.{start_kinds}
use Rattle.sl_code_semantics.specs.Pieces.{comes_after, are_passed}
use Rattle.sl_code_semantics.specs.WellKinded.{context_of}
use Rattle.sl_code_semantics.proofs.kinds.Passing.{both_hold}
use Rattle.sl_code_semantics.proofs.kinds.PieceFacts.{comes_in_row, passed_in_row}
use Rattle.sl_code_semantics.specs.State.{State, End}
use Rattle.sl_code_semantics.specs.Comes.{Comes}
use Rattle.sl_code_semantics.proofs.runs.Coming.{stays, after, ends_after, ends_wider}
use Rattle.sl_compile_plans.specs.Trees.{Tree}
use Rattle.sl_compile_plans.specs.Meaning.{Course, Onward, Final, Unsaid, does, cost}
use Rattle.sl_compile_plans.specs.Achieves.{Meets, Reaches}
use Rattle.sl_compile_plans.specs.Laid.{size_all, cost_all, AchievesAll}
use Rattle.sl_blocks.specs.Blocks.{PassesOn}
use Rattle.sl_blocks.specs.PlanBlocks.{IsSaid, IsPlanBlock, InRow, AreBlocks}

-- ---- rows

-- none
pub no_blocks : (Stands : CountingCode → Type 0) (x : List Instr) → AreBlocks Stands [] x x
no_blocks Stands x = record { row = refl }

-- one row after the other
rows : (Stands : CountingCode → Type 0) (a b : List Tree) (x y z : List Instr) → InRow Stands a x y → InRow Stands b y z → InRow Stands (a ++ b) x z
rows Stands [] b x y z first second = subst (λ (w : List Instr). InRow Stands b w z) first second
rows Stands (t ∷ a) b x y z first second = (first.0, first.1, rows Stands a b first.0 y z first.2 second)

pub blocks_then : {Stands : CountingCode → Type 0} {a b : List Tree} {x y z : List Instr} → AreBlocks Stands a x y → AreBlocks Stands b y z → AreBlocks Stands (a ++ b) x z
blocks_then {Stands} {a} {b} {x} {y} {z} first second = record { row = rows Stands a b x y z first.row second.row }

-- a block stands where a code has more than it needs
module _ (S T : CountingCode → Type 0) (more : (code : CountingCode) → T code → S code) where
  block_in : (t : Tree) (x y : List Instr) → IsPlanBlock S t x y → IsPlanBlock T t x y
  block_in t x y h = record {
    block = h.block;
    kept = h.kept;
    begins = h.begins;
    short = h.short;
    within = h.within;
    in_range = h.in_range;
    passes = λ code has. h.passes code (more code has);
    runs = λ code e state has. h.runs code e state (more code has);
  }

  row_in : (ts : List Tree) (x y : List Instr) → InRow S ts x y → InRow T ts x y
  row_in [] x y h = h
  row_in (t ∷ ts) x y h = (h.0, block_in t x h.0 h.1, row_in ts h.0 y h.2)

pub blocks_in : {S T : CountingCode → Type 0} {ts : List Tree} {x y : List Instr} → ((code : CountingCode) → T code → S code) → AreBlocks S ts x y → AreBlocks T ts x y
blocks_in {S} {T} {ts} {x} {y} more h = record { row = row_in S T more ts x y h.row }

-- ---- what they leave as it was, and how long they are

-- the code before stands before them
pub record IsLonger (most : ℕ) (x y : List Instr) : Type 0 where
  pub more : List Instr
  pub is : y ≡ x ++ more
  pub short : length y ≤ length x + most

row_longer : (S : CountingCode → Type 0) (ts : List Tree) (x y : List Instr) → InRow S ts x y → IsLonger (size_all ts) x y
row_longer S [] x y h = record { more = []; is = h ∙ sym (append-nil x); short = omega (arith, ap length h) }
row_longer S (t ∷ ts) x y h =
    let one = h.1 in
    let rest = row_longer S ts h.0 y h.2 in
    record {
      more = one.block ++ rest.more;
      is = rest.is ∙ ap (λ (w : List Instr). w ++ rest.more) one.kept ∙ append_assoc x one.block rest.more;
      short = omega (arith, one.short, rest.short, ap length one.kept, length-append x one.block);
    }

pub blocks_longer : {S : CountingCode → Type 0} {ts : List Tree} {x y : List Instr} → AreBlocks S ts x y → IsLonger (size_all ts) x y
blocks_longer {S} {ts} {x} {y} h = row_longer S ts x y h.row

-- ---- in a code

-- where all of them stand at the beginning of a code, each stands in it
module _ (S : CountingCode → Type 0) (c : CountingCode) (y rest : List Instr) (whole : c.instrs ≡ y ++ rest) where
  block_stands : (t : Tree) (ts : List Tree) (x mid : List Instr) → (one : IsPlanBlock S t x mid) → InRow S ts mid y → HasAt c (length x) one.block
  block_stands t ts x mid one row =
      let far = row_longer S ts mid y row in
      record {
        before = x;
        after = far.more ++ rest;
        placed = refl;
        whole = whole
            ∙ ap (λ (w : List Instr). w ++ rest) (far.is ∙ ap (λ (w : List Instr). w ++ far.more) one.kept)
            ∙ append_assoc (x ++ one.block) far.more rest
            ∙ append_assoc x one.block (far.more ++ rest);
      }

  module _ (has : S c) where
    -- the verifier's tests pass to their end
    row_passes : (ts : List Tree) (x : List Instr) → InRow S ts x y → PassesOn c (Some start_kinds) x → PassesOn c (Some start_kinds) y
    row_passes [] x row before = subst (λ (w : List Instr). PassesOn c (Some start_kinds) w) (sym row) before
    row_passes (t ∷ ts) x row before =
        let one = row.1 in
        let own : PassesOn c (Some before.kinds) one.block = one.passes c has (block_stands t ts x row.0 one row.2) (Some before.kinds) in
        let both : PassesOn c (Some start_kinds) (x ++ one.block) = record {
          passed = passed_in_row (context_of c) (Some start_kinds) x one.block
              ∙ both_hold (are_passed (context_of c) (Some start_kinds) x) (are_passed (context_of c) (comes_after (Some start_kinds) x) one.block) before.passed
              (ap (λ k. are_passed (context_of c) k one.block) before.leaves ∙ own.passed);
          kinds = own.kinds;
          leaves = comes_in_row (Some start_kinds) x one.block ∙ ap (λ k. comes_after k one.block) before.leaves ∙ own.leaves;
        } in
        row_passes ts row.0 row.2 (subst (λ (w : List Instr). PassesOn c (Some start_kinds) w) (sym one.kept) both)

    -- the machine follows what their plans achieve
    module _ (e : Election) (is : IsElection e) where
      said : (o : Course) (Q : State → Type 0) (E : End → Type 0) → Meets o Q E → IsSaid o
      said (Onward t) Q E h = tt
      said (Final x) Q E h = tt
      said Unsaid Q E h = h

      row_runs : (ts : List Tree) (x : List Instr) (s : State) (Q : State → Type 0) (E : End → Type 0) → InRow S ts x y → AchievesAll c e ts s Q E
          → Reaches c e (cost_all e ts) (length x) s (length y) Q E
      row_runs [] x s Q E row h = inl (s, subst (λ (w : List Instr). Comes c e 0 (length x) s (length w) s) (sym row) (stays c e (length x) s), h)
      row_runs (t ∷ ts) x s Q E row h =
          let Next : State → Type 0 = λ u. AchievesAll c e ts u Q E in
          elim (row.1.runs c e s has (block_stands t ts x row.0 row.1 row.2) is (said (does c e t s) Next E h.meets)) [
            | inl on ↦ elim (row_runs ts row.0 on.0 Q E row.2 (subst (λ (o : Course). Meets o Next E) on.2 h.meets)) [
              | inl further ↦ inl (
                further.0,
                after c e (cost e t + 1) (cost_all e ts) (length x) (length row.0) (length y) s on.0 further.0 on.1 further.1,
                further.2,
              )
              | inr end ↦ inr (end.0, ends_after c e (cost e t + 1) (cost_all e ts) (length x) (length row.0) s on.0 end.0 on.1 end.1, end.2)
            ]
            | inr end ↦ inr (
              end.0,
              ends_wider c e (cost e t + 1) (cost e t + 1 + cost_all e ts) (length x) s end.0 (omega arith) end.1,
              subst (λ (o : Course). Meets o Next E) end.2 h.meets,
            )
          ]

-- from the beginning of a code on
module _ {S : CountingCode → Type 0} {ts : List Tree} {y : List Instr} (h : AreBlocks S ts [] y) (c : CountingCode) (rest : List Instr) (whole : c.instrs ≡ y ++ rest) (has : S c) where
  pub blocks_pass : PassesOn c (Some start_kinds) y
  blocks_pass = row_passes S c y rest whole has ts [] h.row (record { passed = refl; kinds = start_kinds; leaves = refl })

  pub blocks_run : (e : Election) → IsElection e → (s : State) (Q : State → Type 0) (E : End → Type 0) → AchievesAll c e ts s Q E → Reaches c e (cost_all e ts) 0 s (length y) Q E
  blocks_run e is s Q E achieves = row_runs S c y rest whole has e is ts [] s Q E h.row achieves

-- ---- operands

row_in_range : (S : CountingCode → Type 0) (ts : List Tree) (x y : List Instr) → InRow S ts x y → length y ≤ MAX_INSTRS → All IsInRange x → All IsInRange y
row_in_range S [] x y row few h = subst (λ (w : List Instr). All IsInRange w) (sym row) h
row_in_range S (t ∷ ts) x y row few h =
    let one = row.1 in
    let rest = row_longer S ts row.0 y row.2 in
    let short : length row.0 ≤ MAX_INSTRS = omega (arith, few, ap length rest.is, length-append row.0 rest.more) in
    row_in_range S ts row.0 y row.2 few (subst (λ (w : List Instr). All IsInRange w) (sym one.kept) (All-append IsInRange x one.block h (one.in_range short)))

pub blocks_in_range : {S : CountingCode → Type 0} {ts : List Tree} {y : List Instr} → AreBlocks S ts [] y → length y ≤ MAX_INSTRS → All IsInRange y
blocks_in_range {S} {ts} {y} h few = row_in_range S ts [] y h.row few (All-nil IsInRange)
