-- What yields exactly one thing: the stages of a book, the scopes of a split and of a growth, the lists of covering
-- (docs/meaning.md, section 10). Each law is the contract of a function of `laws::meaning`.
use Rattle.std.specs.Prelude.{◌≡◌, ℕ, Bool, true, List, Option, Some, None}
use Rattle.sl_base_quotients.specs.declared.method.Divisor.{Divisor}
use Rattle.sl_base_quotients.specs.declared.method.Method.{Method}
use Rattle.sl_base_quotients.specs.declared.method.Method.TheVariants as by
use Rattle.sl_law_meaning.specs.declared.book.Majority.{Majority}
use Rattle.sl_law_meaning.specs.book.Trees.{BookTree}
use Rattle.sl_law_meaning.specs.book.Typing.{is_typed}
use Rattle.sl_law_meaning.specs.returns.Election.{Election, IsElection}
use Rattle.sl_law_meaning.specs.meaning.Scopes.{Group}
use Rattle.sl_law_meaning.specs.meaning.Results.{Stand}
use Rattle.sl_law_meaning.specs.meaning.Expressions.{IsSplitIn, IsGrowthIn}
use Rattle.sl_law_meaning.specs.meaning.Seating.{IsSeating}
use Rattle.sl_law_meaning.specs.meaning.Means.{nothing_known, StagesMean}

-- P holds of one thing, and of no other
pub record ExactlyOne {A : Type 0} (P : A → Type 0) : Type 0 where
  pub one : A
  pub is : P one
  pub only : (x : A) → P x → x ≡ one

-- the stages of a typed book yield exactly one result
abbrev pub OneStagesResult : Type 0
OneStagesResult = (b : BookTree) (e : Election) → is_typed b ≡ true → ExactlyOne (StagesMean b e nothing_known b.stages)

-- a split by Hamilton's method has no minima
abbrev pub FitsMethod : Method → Option (List ℕ) → Type 0
FitsMethod method None = Unit {0}
FitsMethod (by.Divisor d) (Some m) = Unit {0}
FitsMethod by.Hamilton (Some m) = ⊥

-- each scope of a split, and each of a growth, yields exactly one award
abbrev pub OneSplitAward : Type 0
OneSplitAward =
    (e : Election) (at : Stand) (amounts votes : List ℕ) (method : Method) (majority : Majority) (minima : Option (List ℕ)) → FitsMethod method minima →
    (g : Group) → ExactlyOne (IsSplitIn e at amounts votes method majority minima g)

abbrev pub OneGrowthAward : Type 0
OneGrowthAward =
    (e : Election) (at : Stand) (amounts votes : List ℕ) (d : Divisor) (majority : Majority) (minima : List ℕ) (cap : ℕ) →
    (g : Group) → ExactlyOne (IsGrowthIn e at amounts votes d majority minima cap g)

-- each list yields exactly one choice between its winners, whoever is eligible
abbrev pub OneSeating : Type 0
OneSeating =
    (eligible : ℕ → Bool) (e : Election) → IsElection e → (base : List ℕ) (list : ℕ × ℕ) → ExactlyOne (IsSeating eligible e base list)
