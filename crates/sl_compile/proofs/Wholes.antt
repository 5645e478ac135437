-- The code of a book, from its parts.
use Rattle.std.proofs.Common.{◌≡◌, ℕ, ◌<◌, ◌≤◌, ◌^◌, List, [], ◌∷◌, ◌++◌, Bool, true, false, Option, None, Some, length, map, flat_map, take, refl, ap, ◌∙◌, arith, append_assoc}
use Rattle.std.specs.List.{AllByRecursion}
use Rattle.std.proofs.lemmas.List.Elements.{All-from_recursion}
use Rattle.sl_law_meaning.specs.declared.book.Stage.{Stage}
use Rattle.sl_base_terms.specs.declared.shape.Shape.{Shape}
use Rattle.sl_law_meaning.specs.declared.book.ColumnType.{ColumnType}
use Rattle.sl_law_meaning.specs.book.Trees.{BookTree, stage_of}
use Rattle.sl_law_meaning.specs.book.Limits.{condition_numbers}
use Rattle.sl_base_terms.specs.Tests.{first_failing}
use Rattle.sl_law_meaning.specs.book.Typing.{Column, columns_of, version_tests, condition_tests, stages_tests, base_tests, tests_of, is_typed}
use Rattle.sl_base_terms.proofs.Tests.{no_fault, pass_parts, head_holds}
use Rattle.sl_code_instructions.specs.declared.instr.Instr.{Instr}
use Rattle.sl_code_instructions.specs.Codes.{CountingCode}
use Rattle.sl_compile_plans.specs.Trees.{Tree}
use Rattle.sl_compile.specs.Codes.{book_slots, passing_shapes}
use Rattle.sl_blocks.specs.declared.easiest.Share.{Share}
use Rattle.sl_blocks.specs.declared.easiest.Easiest.{Easiest}
use Rattle.sl_blocks.specs.Facts.{fact_shapes, closing_shapes}
use Rattle.sl_blocks.specs.inner.Few.{share_in, winners_in, minority_in, all_in, few_of, AreSmall}
use Rattle.sl_blocks.specs.PlanBlocks.{AreBlocks, HasRoom}
use Rattle.sl_compile.specs.inner.Weakest.{IsFairIn, IsSmallIn}
use Rattle.sl_compile.specs.inner.Slots.{low_shapes}
use Rattle.sl_compile.specs.inner.Earlier.{columns}
use Rattle.sl_compile.proofs.Places.{room_first, room_rest}

abbrev IsSmall : ℕ → Type 0
IsSmall n = n < 2 ^ 32

-- ---- tests

-- the tests of a typed book hold, part by part
pub record Passes (b : BookTree) : Type 0 where
  pub conditions : first_failing (condition_tests b.eligible) ≡ None
  pub stages : first_failing (stages_tests [] b.stages) ≡ None
  pub base : first_failing (base_tests (columns_of [] b.stages) b.last.at b.last.base) ≡ None

pub passes : (b : BookTree) → is_typed b ≡ true → Passes b
passes b typed =
    let all = no_fault (tests_of b) typed in
    let rest = (pass_parts (version_tests b.version b.last.vacate) _ all).1 in
    let behind = (head_holds _ _ _ rest).1 in
    let conditions = pass_parts (condition_tests b.eligible) (stages_tests [] b.stages ++ base_tests (columns_of [] b.stages) b.last.at b.last.base) behind in
    let ends = pass_parts (stages_tests [] b.stages) _ conditions.1 in
    record { conditions = conditions.0; stages = ends.0; base = ends.1 }

-- ---- three lists of plans

-- room for each of them, where all have room at the beginning
module _ (facts stages last : List Tree) (room : HasRoom (facts ++ (stages ++ last)) []) where
  pub facts_room : HasRoom facts []
  facts_room = room_first facts (stages ++ last) [] room

  module _ {F : CountingCode → Type 0} (x : List Instr) (first : AreBlocks F facts [] x) where
    pub stages_room : HasRoom stages x
    stages_room = room_first stages last x (room_rest facts (stages ++ last) [] x room first)

    pub last_room : {S : CountingCode → Type 0} (y : List Instr) → AreBlocks S stages x y → HasRoom last y
    last_room y second = room_rest stages last x y (room_rest facts (stages ++ last) [] x room first) second

-- ---- slots

shapes_of : (ss : List Stage) (ts : List ColumnType) → length ss ≤ length ts → map (λ t. t.shape) (take (length ss) ts) ≡ map (λ c. c.type.shape) (columns ss ts)
shapes_of [] ts long = refl
shapes_of (s ∷ ss) [] long = absurd (omega arith)
shapes_of (s ∷ ss) (t ∷ ts) long = ap (λ (xs : List Shape). t.shape ∷ xs) (shapes_of ss ts (omega arith))

pub slots_are : (ss : List Stage) (ts : List ColumnType) (low all : List Shape) → length ss ≤ length ts → low ≡ low_shapes →
    columns ss ts ≡ columns_of [] (map stage_of ss) → all ≡ low ++ map (λ t. t.shape) (take (length ss) ts) → all ≡ book_slots (columns_of [] (map stage_of ss))
slots_are ss ts low all long low_is have is =
    is
    ∙ ap (λ (xs : List Shape). xs ++ map (λ t. t.shape) (take (length ss) ts)) low_is
    ∙ ap (λ (xs : List Shape). low_shapes ++ xs) (shapes_of ss ts long ∙ ap (λ (cs : List Column). map (λ c. c.type.shape) cs) have)
    ∙ append_assoc fact_shapes (closing_shapes ++ passing_shapes) (map (λ c. c.type.shape) (columns_of [] (map stage_of ss)))
    ∙ ap (λ (xs : List Shape). fact_shapes ++ xs) (append_assoc closing_shapes passing_shapes (map (λ c. c.type.shape) (columns_of [] (map stage_of ss))))

-- ---- the numbers of the few conditions

ends_small : (m a : Bool) → AllByRecursion IsSmall (flat_map condition_numbers (minority_in m ++ all_in a))
ends_small false false = tt
ends_small false true = tt
ends_small true false = tt
ends_small true true = tt

winners_small : (w : Option ℕ) (m a : Bool) → IsSmallIn w → AllByRecursion IsSmall (flat_map condition_numbers (winners_in w ++ (minority_in m ++ all_in a)))
winners_small None m a small = ends_small m a
winners_small (Some n) m a small = (small, ends_small m a)

all_small : (v : Option Share) (w : Option ℕ) (m a : Bool) → IsFairIn v → IsSmallIn w →
    AllByRecursion IsSmall (flat_map condition_numbers (share_in v ++ (winners_in w ++ (minority_in m ++ all_in a))))
all_small None w m a fair small = winners_small w m a small
all_small (Some s) w m a fair small = (omega (arith, fair.1, fair.2), (omega (arith, fair.2), winners_small w m a small))

pub few_small : (few : Easiest) → IsFairIn few.valid → IsSmallIn few.winners → AreSmall (few_of few)
few_small few fair small = All-from_recursion IsSmall (flat_map condition_numbers (few_of few)) (all_small few.valid few.winners few.minority few.all fair small)
