-- The walk over the stages: the columns of their names, and what is laid out before each.
use Rattle.std.proofs.Common.{◌≡◌, ℕ, zero, suc, ◌+◌, ◌<◌, ◌≤◌, List, [], ◌∷◌, ◌++◌, Bool, true, false, cond, not, None, Some, length, map, find, take, drop, get_or, slice_get, arith, refl, sym, ap, ◌∙◌}
use Rattle.std.specs.Prelude.{position, unwrap_or}
use Rattle.std.specs.Str.{bytes_eq}
use Rattle.std.specs.List.{position_or_len, list_all}
use Rattle.std.specs.Cmp.{first_so, second_so}
use Rattle.std.proofs.Math.ListN.{set}
use Rattle.std.proofs.lemmas.List.{length-map}
use Rattle.std.proofs.Math.Seq.{drop-cons}
use Rattle.std.proofs.lemmas.Bool.{leb-true}
use Rattle.sl_law_meaning.specs.declared.book.Stage.{Stage}
use Rattle.sl_base_terms.specs.declared.shape.Shape.TheVariants as shape
use Rattle.sl_law_meaning.specs.declared.book.Unit.TheVariants as unit
use Rattle.sl_law_meaning.specs.declared.book.ColumnType.{ColumnType}
use Rattle.sl_law_meaning.specs.declared.limits.TheConstants.{MAX_DEPTH}
use Rattle.sl_base_terms.specs.declared.limits.TheConstants.{MAX_STAGES}
use Rattle.sl_law_meaning.specs.book.Trees.{StageTree, tree_of, stage_of}
use Rattle.sl_base_terms.specs.Tests.{first_failing}
use Rattle.sl_law_meaning.specs.book.Limits.{is_within_stage, is_within_limits, depth_of}
use Rattle.sl_law_meaning.specs.book.Typing.{Column, column, is_named, type_or_one, type_of, stage_column, columns_of, stage_tests, stages_tests, splits_in}
use Rattle.sl_base_terms.proofs.Tests.{pass_parts, head_holds}
use Rattle.sl_code_instructions.specs.declared.instr.Instr.{Instr}
use Rattle.sl_code_instructions.specs.Codes.{CountingCode}
use Rattle.sl_compile_plans.specs.Trees.{Tree}
use Rattle.sl_compile_pieces.specs.columns.Trees.{copy_tree}
use Rattle.sl_compile_pieces.specs.declared.slots.TheConstants.{LEVELS}
use Rattle.sl_compile_pieces.specs.exprs.Slots.{stage_slot}
use Rattle.sl_compile_pieces.specs.exprs.Pieces.{slot_of, pieces}
use Rattle.sl_compile_pieces.proofs.exprs.Places.{stands_there}
use Rattle.sl_compile_pieces.specs.exprs.Stages.{stage_pieces, stages_pieces}
use Rattle.sl_compile_pieces.proofs.exprs.StageRules.{last_there}
use Rattle.sl_blocks.specs.PlanBlocks.{AreBlocks, HasRoom, HasCopy}
use Rattle.sl_compile.specs.inner.Earlier.{columns, Fits}
use Rattle.sl_compile.specs.Codes.{HasSoFar}
use Rattle.sl_compile.proofs.rulebooks.Rows.{blocks_then, blocks_in}
use Rattle.sl_compile.proofs.rulebooks.Slots.{has_book_slots, has_fewer}
use Rattle.sl_compile.proofs.Places.{room_first, room_rest, room_as}
use Rattle.sl_compile.proofs.Arguments.{slot_on}
use Rattle.std.proofs.Common.{append_assoc, subst, length-take}

-- ---- names

abbrev pub is_stage : List ℕ → Stage → Bool
is_stage n s = bytes_eq n s.name

-- the first column of a name stands where the first stage of that name does
same_place : (n : List ℕ) (ss : List Stage) (ts : List ColumnType) → length ss ≤ length ts →
    position_or_len (is_named n) (columns ss ts) ≡ position_or_len (is_stage n) ss
same_place n [] ts long = refl
same_place n (s ∷ ss) [] long = absurd (omega arith)
same_place n (s ∷ ss) (t ∷ ts) long = ap (λ (k : ℕ). cond (not (bytes_eq n s.name)) (1 + k) 0) (same_place n ss ts (omega arith))

same_length : (ss : List Stage) (ts : List ColumnType) → length ss ≤ length ts → length (columns ss ts) ≡ length ss
same_length [] ts long = refl
same_length (s ∷ ss) [] long = absurd (omega arith)
same_length (s ∷ ss) (t ∷ ts) long = ap suc (same_length ss ts (omega arith))

pub same_position : (n : List ℕ) (ss : List Stage) (ts : List ColumnType) → length ss ≤ length ts →
    position (is_named n) (columns ss ts) ≡ position (is_stage n) ss
same_position n ss ts long = rw (same_place n ss ts long, same_length ss ts long) refl

one_suc : (k : ℕ) → suc k ≡ 1 + k
one_suc k = omega arith

-- what the column of a name has
pub type_here : (n : List ℕ) (ss : List Stage) (ts : List ColumnType) (d : ColumnType) → length ss ≤ length ts → position_or_len (is_stage n) ss < length ss →
    type_or_one (find (is_named n) (columns ss ts)) ≡ get_or ts (position_or_len (is_stage n) ss) d
type_here n [] ts d long within = absurd (omega arith)
type_here n (s ∷ ss) [] d long within = absurd (omega arith)
type_here n (s ∷ ss) (t ∷ ts) d long within =
    elim (bytes_eq n s.name) as (λ b. cond (not b) (1 + position_or_len (is_stage n) ss) 0 < suc (length ss) →
    type_or_one (cond b (Some (record { name = s.name; type = t })) (find (is_named n) (columns ss ts)))
    ≡ get_or (t ∷ ts) (cond (not b) (1 + position_or_len (is_stage n) ss) 0) d) [
      | true ↦ λ h. refl
      | false ↦ λ h. type_here n ss ts d (omega arith) (omega (arith, h)) ∙ ap (λ (k : ℕ). get_or (t ∷ ts) k d) (one_suc (position_or_len (is_stage n) ss))
    ] within

pub type_nowhere : (n : List ℕ) (ss : List Stage) (ts : List ColumnType) → length ss ≤ length ts → length ss ≤ position_or_len (is_stage n) ss →
    type_or_one (find (is_named n) (columns ss ts)) ≡ column shape.One unit.Seats
type_nowhere n [] ts long past = refl
type_nowhere n (s ∷ ss) [] long past = absurd (omega arith)
type_nowhere n (s ∷ ss) (t ∷ ts) long past =
    elim (bytes_eq n s.name) as (λ b. suc (length ss) ≤ cond (not b) (1 + position_or_len (is_stage n) ss) 0 →
    type_or_one (cond b (Some (record { name = s.name; type = t })) (find (is_named n) (columns ss ts))) ≡ column shape.One unit.Seats) [
      | true ↦ λ h. absurd (omega (arith, h))
      | false ↦ λ h. type_nowhere n ss ts (omega arith) (omega (arith, h))
    ] past

-- the slot and the type of a name, by the place of its stage
pub found_slot : (n : List ℕ) (ss : List Stage) (ts : List ColumnType) (k : ℕ) → length ss ≤ length ts → position (is_stage n) ss ≡ Some k →
    k ≡ unwrap_or (position (is_named n) (columns ss ts)) 0
found_slot n ss ts k long is = rw (same_position n ss ts long, is) refl

pub lost_slot : (n : List ℕ) (ss : List Stage) (ts : List ColumnType) → length ss ≤ length ts → position (is_stage n) ss ≡ None →
    0 ≡ unwrap_or (position (is_named n) (columns ss ts)) 0
lost_slot n ss ts long is = rw (same_position n ss ts long, is) refl

-- ---- columns, as they are found

columns_next : (ss : List Stage) (ts : List ColumnType) (i : ℕ) (s : Stage) (t : ColumnType)
    → i < length ss → length ss ≤ length ts → s ≡ get_or ss i s
    → columns (take (suc i) ss) (set ts i t) ≡ columns (take i ss) ts ++ record { name = s.name; type = t } ∷ []
columns_next [] ts i s t lt room here = absurd (omega arith)
columns_next (x ∷ ss) [] i s t lt room here = absurd (omega arith)
columns_next (x ∷ ss) (y ∷ ts) zero s t lt room here = rw here refl
columns_next (x ∷ ss) (y ∷ ts) (suc i) s t lt room here = ap (λ cs. record { name = x.name; type = y } ∷ cs) (columns_next ss ts i s t (omega arith) (omega arith) here)

pub drop_here : (ss : List Stage) (i : ℕ) (s : Stage) → i < length ss → s ≡ get_or ss i s → drop i ss ≡ s ∷ drop (suc i) ss
drop_here ss i s lt here = rw (← here) at (drop-cons ss i s lt)

-- ---- one stage

-- there is room for its expression
pub expr_room : (types : List Column) (k : ℕ) (s : StageTree) (x : List Instr) → HasRoom (stage_pieces types k s) x → HasRoom (pieces types k 0 s.expr) x
expr_room types k s x room =
    room_first (pieces types k 0 s.expr) (copy_tree (type_of types s.expr).shape (slot_of types 0 s.expr) (stage_slot k) ∷ []) x room

-- the copy into the stage's slot, by what the expression has
copy_as : (of t : ColumnType) (k slot from to : ℕ) → of ≡ t → from ≡ slot → to ≡ stage_slot k → copy_tree of.shape from to ∷ [] ≡ copy_tree t.shape slot (stage_slot k) ∷ []
copy_as of t k slot from to is first second =
    ap (λ (n : ℕ). copy_tree of.shape n to ∷ []) first
    ∙ ap (λ (n : ℕ). copy_tree of.shape slot n ∷ []) second
    ∙ ap (λ (u : ColumnType). copy_tree u.shape slot (stage_slot k) ∷ []) is

-- what is there with one stage more is there without it
pub so_far_before : (types : List Column) (c : Column) (k : ℕ) (code : CountingCode) → HasSoFar (types ++ c ∷ []) (k + 1) code → HasSoFar types (k + 1) code
so_far_before types c k code has = record { slots = has_fewer types c code has.slots; stages = has.stages }

module _ (types : List Column) (k : ℕ) (s : StageTree) (of : ColumnType) (from to : ℕ) (x y : List Instr)
    (is : of ≡ type_of types s.expr) (first : from ≡ slot_of types 0 s.expr) (second : to ≡ stage_slot k)
    (blocks : AreBlocks (HasSoFar types (k + 1)) (pieces types k 0 s.expr) x y) where
  abbrev own : List Tree
  own = copy_tree (type_of types s.expr).shape (slot_of types 0 s.expr) (stage_slot k) ∷ []

  same : copy_tree of.shape from to ∷ [] ≡ own
  same = copy_as of (type_of types s.expr) k (slot_of types 0 s.expr) from to is first second

  -- there is room for the copy after it, and then the stage is done
  pub copy_room : HasRoom (stage_pieces types k s) x → HasRoom (copy_tree of.shape from to ∷ []) y
  copy_room room = room_as (copy_tree of.shape from to ∷ []) own y same (room_rest (pieces types k 0 s.expr) own x y room blocks)

  -- both columns of the copy are there
  copy_there : k ≡ length types → (code : CountingCode) → HasSoFar (types ++ stage_column types s ∷ []) (k + 1) code → HasCopy of.shape from to code
  copy_there number code has =
      let slots = has_book_slots (types ++ stage_column types s ∷ []) code has.slots in
      record {
        from_there = stands_there code (types ++ stage_column types s ∷ []) slots 0 of.shape from (omega arith) (slot_on types s.expr is first);
        to_there = ap (slice_get code.slots) second
            ∙ slots.stages_are k (stage_column types s) (last_there types (stage_column types s) k number)
            ∙ ap (λ (t : ColumnType). Some t.shape) (sym is);
      }

  pub stage_blocks : k ≡ length types → (z : List Instr) → AreBlocks (HasCopy of.shape from to) (copy_tree of.shape from to ∷ []) y z →
      AreBlocks (HasSoFar (types ++ stage_column types s ∷ []) (k + 1)) (stage_pieces types k s) x z
  stage_blocks number z copied =
      let Now : CountingCode → Type 0 = HasSoFar (types ++ stage_column types s ∷ []) (k + 1) in
      blocks_then (blocks_in (so_far_before types (stage_column types s) k) blocks)
      (subst (λ (ts : List Tree). AreBlocks Now ts y z) same (blocks_in (copy_there number) copied))

-- ---- the walk

-- a book within the limits has no more stages than these allow
pub few_stages : (ss : List Stage) → is_within_limits (map stage_of ss) ≡ true → length ss ≤ MAX_STAGES
few_stages ss within = rw (← length-map ss stage_of) (leb-true _ _ (first_so _ _ within))

-- the levels are enough for a stage's expression
enough : (depth splits : ℕ) → depth ≤ MAX_DEPTH → splits ≤ 1 → 0 + depth + splits ≤ LEVELS
enough depth splits deep few = omega arith

-- where the blocks of the first i stages stand after a start
pub record LaidFirst (ss : List Stage) (ts : List ColumnType) (i : ℕ) (start code : List Instr) : Type 0 where
  pub within : list_all is_within_stage (map stage_of (drop i ss)) ≡ true
  pub tests : first_failing (stages_tests (columns (take i ss) ts) (map stage_of (drop i ss))) ≡ None
  pub have : columns_of [] (map stage_of ss) ≡ columns_of (columns (take i ss) ts) (map stage_of (drop i ss))
  pub done : List Tree
  pub blocks : AreBlocks (HasSoFar (columns (take i ss) ts) i) done start code
  pub rest : done ++ stages_pieces (columns (take i ss) ts) i (map stage_of (drop i ss)) ≡ stages_pieces [] 0 (map stage_of ss)

module _ (ss : List Stage) (ts : List ColumnType) (i : ℕ) (s : Stage) (start code : List Instr) (h : LaidFirst ss ts i start code)
    (lt : i < length ss) (here : s ≡ get_or ss i s) where
  abbrev known : List Column
  known = columns (take i ss) ts

  abbrev later : List StageTree
  later = map stage_of (drop (suc i) ss)

  split_rest : map stage_of (drop i ss) ≡ stage_of s ∷ later
  split_rest = ap (λ (xs : List Stage). map stage_of xs) (drop_here ss i s lt here)

  tests_here : (first_failing (stage_tests known (stage_of s)) ≡ None) × (first_failing (stages_tests (known ++ stage_column known (stage_of s) ∷ []) later) ≡ None)
  tests_here =
      pass_parts (stage_tests known (stage_of s)) (stages_tests (known ++ stage_column known (stage_of s) ∷ []) later)
      (ap (λ (xs : List StageTree). first_failing (stages_tests known xs)) (sym split_rest) ∙ h.tests)

  within_here : (is_within_stage (stage_of s) ≡ true) × (list_all is_within_stage later ≡ true)
  within_here =
      let both : list_all is_within_stage (stage_of s ∷ later) ≡ true = ap (λ (xs : List StageTree). list_all is_within_stage xs) (sym split_rest) ∙ h.within in
      (first_so _ _ both, second_so _ _ both)

  -- the stage's expression fits
  pub stage_fits : Fits known 0 (tree_of s.expr)
  stage_fits =
      let first = head_holds _ _ _ tests_here.0 in
      let second = head_holds _ _ _ first.1 in
      let few : splits_in (tree_of s.expr) ≤ 1 = leb-true _ _ second.0 in
      let deep : depth_of (tree_of s.expr) ≤ MAX_DEPTH = leb-true _ _ (first_so _ _ within_here.0) in
      record { typed = second.1; levels = enough (depth_of (tree_of s.expr)) (splits_in (tree_of s.expr)) deep few }

  pieces_here : stages_pieces known i (map stage_of (drop i ss))
      ≡ stage_pieces known i (stage_of s) ++ stages_pieces (known ++ stage_column known (stage_of s) ∷ []) (i + 1) later
  pieces_here = ap (λ (xs : List StageTree). stages_pieces known i xs) split_rest

  -- and there is room for it
  pub stage_room : HasRoom (stages_pieces [] 0 (map stage_of ss)) start → HasRoom (stage_pieces known i (stage_of s)) code
  stage_room room =
      let rest : List Tree = stages_pieces (known ++ stage_column known (stage_of s) ∷ []) (i + 1) later in
      let all : h.done ++ (stage_pieces known i (stage_of s) ++ rest) ≡ stages_pieces [] 0 (map stage_of ss) =
      ap (λ (xs : List Tree). h.done ++ xs) (sym pieces_here) ∙ h.rest in
      room_first (stage_pieces known i (stage_of s)) rest code
      (room_rest h.done (stage_pieces known i (stage_of s) ++ rest) start code (subst (λ (xs : List Tree). HasRoom xs start) (sym all) room) h.blocks)

  -- a code with this stage has those before
  before_this : (code : CountingCode) → HasSoFar (known ++ stage_column known (stage_of s) ∷ []) (i + 1) code → HasSoFar known i code
  before_this code has = record { slots = has_fewer known (stage_column known (stage_of s)) code has.slots; stages = let more = has.stages in omega (arith, more) }

  -- one more stage
  pub laid_next : (t : ColumnType) (after : List Instr) → length ss ≤ length ts → t ≡ type_of known (tree_of s.expr) →
      AreBlocks (HasSoFar (known ++ stage_column known (stage_of s) ∷ []) (i + 1)) (stage_pieces known i (stage_of s)) code after → LaidFirst ss (set ts i t) (suc i) start after
  laid_next t after long is blocks =
      let one : i + 1 ≡ suc i = omega arith in
      let next : columns (take (suc i) ss) (set ts i t) ≡ known ++ stage_column known (stage_of s) ∷ [] =
      columns_next ss ts i s t lt long here ∙ ap (λ (u : ColumnType). known ++ record { name = s.name; type = u } ∷ []) is in
      record {
        within = within_here.1;
        tests = ap (λ (cs : List Column). first_failing (stages_tests cs later)) next ∙ tests_here.1;
        have = h.have ∙ ap (λ (xs : List StageTree). columns_of known xs) split_rest ∙ ap (λ (cs : List Column). columns_of cs later) (sym next);
        done = h.done ++ stage_pieces known i (stage_of s);
        blocks = subst (λ (cs : List Column). AreBlocks (HasSoFar cs (suc i)) (h.done ++ stage_pieces known i (stage_of s)) start after) (sym next)
            (subst (λ (n : ℕ). AreBlocks (HasSoFar (known ++ stage_column known (stage_of s) ∷ []) n) (h.done ++ stage_pieces known i (stage_of s)) start after) one
            (blocks_then (blocks_in before_this h.blocks) blocks));
        rest = append_assoc h.done (stage_pieces known i (stage_of s)) (stages_pieces (columns (take (suc i) ss) (set ts i t)) (suc i) later)
            ∙ ap (λ (xs : List Tree). h.done ++ xs)
            (ap (λ (cs : List Column). stage_pieces known i (stage_of s) ++ stages_pieces cs (suc i) later) next
            ∙ ap (λ (n : ℕ). stage_pieces known i (stage_of s) ++ stages_pieces (known ++ stage_column known (stage_of s) ∷ []) n later) (sym one)
            ∙ sym pieces_here)
            ∙ h.rest;
      }

-- the number of a stage is that of the columns before it
pub stage_number : (ss : List Stage) (ts : List ColumnType) (i : ℕ) → i < length ss → length ss ≤ length ts → i ≡ length (columns (take i ss) ts)
stage_number ss ts i lt long =
    let taken : length (take i ss) ≡ i = omega (arith, length-take i ss, lt) in
    sym (same_length (take i ss) ts (omega (arith, taken, lt, long)) ∙ taken)
