-- What these plans achieve: each law is the contract of a function of `laws` (docs/compiler.md, section 2).
use Rattle.std.specs.Prelude.{◌≡◌, ◌≢◌, ℕ, ◌≤◌, List, All, Some, slice_get}
use Rattle.sl_law_meaning.specs.declared.book.Cond.{Cond}
use Rattle.sl_law_meaning.specs.declared.book.Cond.TheVariants as condition
use Rattle.sl_base_terms.specs.declared.shape.Shape.TheVariants as shape
use Rattle.sl_law_meaning.specs.declared.fact.Fact.{Fact}
use Rattle.sl_law_meaning.specs.declared.limits.TheConstants.{MAX_PER}
use Rattle.sl_law_meaning.specs.book.Trees.{BookTree}
use Rattle.sl_law_meaning.specs.book.Typing.{fact_type}
use Rattle.sl_law_meaning.specs.returns.Election.{Election, IsElection}
use Rattle.sl_law_meaning.specs.returns.Facts.{by_party, is_eligible}
use Rattle.sl_law_meaning.specs.meaning.Columns.{fact_column}
use Rattle.sl_code_instructions.specs.Codes.{CountingCode}
use Rattle.sl_code_semantics.specs.State.{State}
use Rattle.sl_code_semantics.specs.Effects.{one_if}
use Rattle.sl_compile_plans.specs.Achieves.{Achieves, Never}
use Rattle.sl_compile_pieces.specs.columns.Columns.{HoldsColumn, GetsColumn}
use Rattle.sl_compile_pieces.specs.facts.Trees.{FactSlots, eligible_tree, fact_tree}

-- the code has these slots, and those to work in, and that of the eligible parties, are no others
pub record HasFactSlots (c : CountingCode) (x : FactSlots) : Type 0 where
  pub eligible : slice_get c.slots x.eligible ≡ Some shape.Party
  pub facts : (told : Fact) → slice_get c.slots (x.of told) ≡ Some (fact_type told).shape
  pub votes : slice_get c.slots x.votes ≡ Some shape.List
  pub numbers : slice_get c.slots x.numbers ≡ Some shape.Party
  pub apart : x.numbers ≢ x.eligible
  pub facts_apart : (told : Fact) → x.of told ≢ x.eligible

-- 1 for each eligible party, and 0 for any other
abbrev pub flags : List Cond → Election → List ℕ
flags conditions e = by_party e (λ party. one_if (is_eligible conditions e party))

-- a share that a register can be multiplied with: so many of at most so many
abbrev pub IsShare : Cond → Type 0
IsShare (condition.Valid share per) = (share.value ≤ MAX_PER) × (per ≤ MAX_PER)
IsShare _ = Unit {0}

-- the column of eligible parties, where two other columns are worked in
pub record GetsFlags (conditions : List Cond) (e : Election) (x : FactSlots) (before after : State) : Type 0 where
  pub holds : HoldsColumn e shape.Party (after.columns x.eligible) (flags conditions e)
  pub columns : (k q : ℕ) → k ≢ x.eligible → k ≢ x.votes → k ≢ x.numbers → after.columns k q ≡ before.columns k q
  pub steps : after.steps ≡ before.steps
  pub weights : after.weights ≡ before.weights
  pub placed : (winner : ℕ) → after.placed winner ≡ before.placed winner

abbrev pub EligibleAreTold : Type 0
EligibleAreTold =
    (c : CountingCode) (e : Election) (x : FactSlots) (conditions : List Cond) (state : State) → IsElection e → HasFactSlots c x → All IsShare conditions →
    Achieves c e (eligible_tree x conditions) state (GetsFlags conditions e x state) Never

-- the column of a fact, from a state that holds the eligible parties
abbrev pub FactsAreTold : Type 0
FactsAreTold =
    (c : CountingCode) (b : BookTree) (e : Election) (x : FactSlots) (told : Fact) (state : State) → IsElection e → HasFactSlots c x →
    HoldsColumn e shape.Party (state.columns x.eligible) (flags b.eligible e) →
    Achieves c e (fact_tree x b.house.value told) state (GetsColumn e (fact_type told).shape (x.of told) (fact_column b e told) state) Never
