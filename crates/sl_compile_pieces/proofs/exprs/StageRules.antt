-- Rules for plans one after the other, and what stays where columns and stages are added.
use Rattle.std.proofs.Common.{◌≡◌, ℕ, zero, suc, ◌+◌, ◌≤◌, List, [], ◌∷◌, ◌++◌, length, Some, slice_get, refl, subst, arith}
use Rattle.sl_base_terms.specs.declared.limits.TheConstants.{MAX_STAGES}
use Rattle.sl_law_meaning.specs.book.Trees.{StageTree}
use Rattle.sl_law_meaning.specs.book.Typing.{Column, stage_column, columns_of}
use Rattle.sl_law_meaning.specs.returns.Election.{Election}
use Rattle.sl_code_instructions.specs.Codes.{CountingCode}
use Rattle.sl_code_semantics.specs.State.{State, End}
use Rattle.sl_compile_plans.specs.Trees.{Tree}
use Rattle.sl_compile_plans.specs.Laid.{AchievesAll}
use Rattle.sl_compile_plans.proofs.Rules.{achieves_more, achieves_so}
use Rattle.sl_compile_pieces.proofs.scopes.Pieces.{get_left}
use Rattle.sl_compile_pieces.specs.exprs.Slots.{HasBookSlots}
use Rattle.sl_compile_pieces.specs.exprs.Stages.{HasStages}

-- ---- plans one after the other

pub all_more : (c : CountingCode) (e : Election) (Q R : State → Type 0) (E F : End → Type 0) → ((t : State) → Q t → R t) → ((x : End) → E x → F x) →
    (ts : List Tree) (s : State) → AchievesAll c e ts s Q E → AchievesAll c e ts s R F
all_more c e Q R E F on over [] s h = on s h
all_more c e Q R E F on over (t ∷ ts) s h = achieves_more h (all_more c e Q R E F on over ts) over

-- a list in two parts
pub all_then : (c : CountingCode) (e : Election) (Q : State → Type 0) (E : End → Type 0) (ys xs : List Tree) (s : State) →
    AchievesAll c e xs s (λ u. AchievesAll c e ys u Q E) E → AchievesAll c e (xs ++ ys) s Q E
all_then c e Q E ys [] s h = h
all_then c e Q E ys (x ∷ xs) s h = achieves_so h (all_then c e Q E ys xs)

-- ---- lists that grow

module _ {X : Type 0} where
  pub last_there : (xs : List X) (x : X) (n : ℕ) → n ≡ length xs → slice_get (xs ++ x ∷ []) n ≡ Some x
  last_there [] x zero is = refl
  last_there (y ∷ xs) x (suc n) is = last_there xs x n (omega (arith, is))
  last_there _ x _ is = absurd (omega (arith, is))

-- ---- columns

-- ---- the types of the stages before are those of a prefix of all

pub extended : (types : List Column) (ss : List StageTree) (j : ℕ) (t : Column) → slice_get types j ≡ Some t → slice_get (columns_of types ss) j ≡ Some t
extended types [] j t at = at
extended types (s ∷ ss) j t at = extended (types ++ stage_column types s ∷ []) ss j t (get_left types (stage_column types s ∷ []) j t at)

pub slots_before : (c : CountingCode) (types : List Column) (ss : List StageTree) → HasBookSlots c (columns_of types ss) → HasBookSlots c types
slots_before c types ss h = record {
  facts = h.facts;
  pair_numbers_are = h.pair_numbers_are;
  names_left_are = h.names_left_are;
  vacant_seats_are = h.vacant_seats_are;
  passing_are = h.passing_are;
  stages_are = λ k t at. h.stages_are k t (extended types ss k t at);
}

-- ---- the stages after the first

pub rest_staged : (c : CountingCode) (n m : ℕ) (s : StageTree) (ss : List StageTree) → m ≡ n + 1 → HasStages c n (s ∷ ss) → HasStages c m ss
rest_staged c n m s ss is h = record {
  few = let few : n + suc (length ss) ≤ MAX_STAGES = h.few in omega (arith, is, few);
  each = λ j t at.
      let one = h.each (suc j) t at in
      let same : n + suc j ≡ m + j = omega (arith, is) in
      (one.0, subst (λ (i : ℕ). slice_get c.stages i ≡ Some one.0) same one.1, one.2);
}
