-- What the expressions of a rulebook come to on returns: arguments from left to right, and the first fault is the result
-- (docs/meaning.md, sections 3 and 6).
use Rattle.std.specs.Prelude.{◌≡◌, ℕ, List, [], Option, Some, None, is_none, ◌&&◌, if◌then◌else◌}
use Rattle.sl_base_quotients.specs.declared.method.Divisor.{Divisor}
use Rattle.sl_base_quotients.specs.declared.method.Method.{Method}
use Rattle.sl_base_quotients.specs.declared.method.Method.TheVariants as by
use Rattle.sl_law_meaning.specs.declared.book.Majority.{Majority}
use Rattle.sl_base_terms.specs.declared.shape.Shape.{Shape}
use Rattle.sl_base_terms.specs.declared.shape.Shape.TheVariants as shape
use Rattle.sl_law_meaning.specs.book.Trees.{ExprTree, fact, name, sum, pair, split, without, atleast, grow, BookTree}
use Rattle.sl_law_meaning.specs.returns.Election.{Election}
use Rattle.sl_law_meaning.specs.book.Typing.{Column as TypedColumn, type_of, is_prefer}
use Rattle.sl_law_meaning.specs.methods.Field.{no_minima}
use Rattle.sl_law_meaning.specs.methods.LeastHouse.{outside_minima}
use Rattle.sl_law_meaning.specs.meaning.Columns.{NamedColumn, IsLeaf, sum_over, pair_of}
use Rattle.sl_law_meaning.specs.meaning.Scopes.{Group, cells, scopes}
use Rattle.sl_law_meaning.specs.meaning.Lots.{stage_lot}
use Rattle.sl_law_meaning.specs.meaning.Records.{Records, divisor_steps, hamilton_steps, field_weights, tells_weights}
use Rattle.sl_law_meaning.specs.meaning.Splits.{Award, IsSplitAward, IsGrowthAward}
use Rattle.sl_law_meaning.specs.meaning.Results.{ExprResult, plain, Then, Stand, amount_of, IsShared}

-- ---- splits and growths

-- the minima of a scope's entries: 0 for each where no minima are written
abbrev pub minima_at : Election → Group → List ℕ → Option (List ℕ) → List ℕ
minima_at e g votes None = no_minima (cells e g.entries votes)
minima_at e g votes (Some m) = cells e g.entries m

module _ (e : Election) (at : Stand) (amounts votes : List ℕ) where
  -- of a split in a scope: its award; its records, with the weights of a method that tells them where no minima are written
  abbrev pub IsSplitIn : Method → Majority → Option (List ℕ) → Group → Award → Type 0
  IsSplitIn method majority minima g =
      IsSplitAward method majority g.entries (stage_lot e at.name at.shape g.entries) (cells e g.entries votes) (minima_at e g votes minima) (amount_of e at amounts g)

  abbrev pub split_records : Method → Majority → Option (List ℕ) → Group → List ℕ → Records
  split_records (by.Divisor d) majority minima g s = record {
    steps = divisor_steps at.stage g.scope g.entries d (cells e g.entries votes) (minima_at e g votes minima) s;
    weights =
        if is_none minima && tells_weights d then field_weights at.stage g.scope g.entries d (cells e g.entries votes) else [];
  }
  split_records by.Hamilton majority minima g s = record {
    steps = hamilton_steps at.stage g.scope g.entries (is_prefer majority) (cells e g.entries votes) (amount_of e at amounts g) s;
    weights = [];
  }

  -- of a growth: only what entries outside the field have was not awarded
  abbrev pub IsGrowthIn : Divisor → Majority → List ℕ → ℕ → Group → Award → Type 0
  IsGrowthIn d majority minima cap g =
      IsGrowthAward d majority g.entries (stage_lot e at.name at.shape g.entries) (cells e g.entries votes) (cells e g.entries minima) (amount_of e at amounts g) cap

  abbrev pub growth_records : Divisor → List ℕ → Group → List ℕ → Records
  growth_records d minima g s = record {
    steps = divisor_steps at.stage g.scope g.entries d (cells e g.entries votes) (outside_minima (cells e g.entries votes) (cells e g.entries minima)) s;
    weights = [];
  }

  -- amounts of one shape are split by votes of another
  abbrev pub IsSplit : Shape → Method → Majority → Option (List ℕ) → ExprResult → Type 0
  IsSplit over method majority minima =
      IsShared e at amounts (IsSplitIn method majority minima) (split_records method majority minima) (scopes e over at.shape)

  -- an amount grows; rulebooks name no method but a divisor method here
  abbrev pub IsGrown : Method → Majority → List ℕ → ℕ → ExprResult → Type 0
  IsGrown (by.Divisor d) majority minima cap =
      IsShared e at amounts (IsGrowthIn d majority minima cap) (growth_records d minima) (scopes e shape.One at.shape)
  IsGrown by.Hamilton majority minima cap = λ r. ⊥

-- ---- expressions

-- where an expression stands: the number and the name of its stage, and the columns of the stages before it, with their types
pub record Context : Type 0 where
  pub stage : ℕ
  pub name : List ℕ
  pub types : List TypedColumn
  pub columns : List NamedColumn

abbrev pub shape_in : Context → ExprTree → Shape
shape_in c x = (type_of c.types x).shape

-- where a split of these votes stands
abbrev pub stand : Context → ExprTree → Stand
stand c votes = record { stage = c.stage; name = c.name; shape = shape_in c votes }

module _ (b : BookTree) (e : Election) (c : Context) where
  -- a leaf yields its column
  abbrev pub IsLeafResult : ExprTree → ExprResult → Type 0
  IsLeafResult x r = (values : List ℕ) × IsLeaf b e c.columns x values × (r ≡ plain values)

  abbrev pub ExprMeans : ExprTree → ExprResult → Type 0
  ExprMeans (fact at told) = IsLeafResult (fact at told)
  ExprMeans (name at n) = IsLeafResult (name at n)
  ExprMeans (sum at x over) = Then (ExprMeans x) (λ xs r. r ≡ plain (sum_over e over xs))
  ExprMeans (pair at pairing x y) = Then (ExprMeans x) (λ xs. Then (ExprMeans y) (λ ys r. r ≡ plain (pair_of pairing xs ys)))
  ExprMeans (split at s v method without majority) =
      Then (ExprMeans s) (λ amounts. Then (ExprMeans v) (λ votes. IsSplit e (stand c v) amounts votes (shape_in c s) method majority None))
  ExprMeans (split at s v method (atleast m) majority) =
      Then (ExprMeans s) (λ amounts. Then (ExprMeans v) (λ votes. Then (ExprMeans m) (λ minima. IsSplit e (stand c v) amounts votes (shape_in c s) method majority (Some minima))))
  ExprMeans (grow at s v method m cap majority) =
      Then (ExprMeans s) (λ amounts. Then (ExprMeans v) (λ votes. Then (ExprMeans m) (λ minima. IsGrown e (stand c v) amounts votes method majority minima cap.value)))
