-- In each scope a split and a growth give an allocation by the method, by the meaning of a rulebook (docs/meaning.md, section 6).
-- Each law is the contract of a function of `laws::books`.
use Rattle.std.specs.Prelude.{◌≡◌, ℕ, true, List, Contains, slice_index}
use Rattle.sl_base_quotients.specs.declared.method.Divisor.{Divisor}
use Rattle.sl_base_quotients.specs.declared.method.Method.{Method}
use Rattle.sl_base_quotients.specs.declared.method.Method.TheVariants as by
use Rattle.sl_law_meaning.specs.declared.book.Majority.{Majority}
use Rattle.sl_law_meaning.specs.declared.book.Number.{Number}
use Rattle.sl_base_terms.specs.declared.shape.Shape.TheVariants as shape
use Rattle.sl_law_meaning.specs.book.Trees.{ExprTree, split, grow, without, atleast, BookTree}
use Rattle.sl_law_meaning.specs.book.Typing.{can_split}
use Rattle.sl_law_meaning.specs.returns.Election.{Election}
use Rattle.sl_law_meaning.specs.methods.Field.{no_minima}
use Rattle.sl_law_meaning.specs.methods.Allocations.{IsDivisorAllocation}
use Rattle.sl_law_meaning.specs.methods.LeastHouse.{GrownTo, IsGrowth, IsGrownAllocation}
use Rattle.sl_law_meaning.specs.meaning.Scopes.{Group, cells, scopes}
use Rattle.sl_law_meaning.specs.meaning.Splits.{IsAllocation}
use Rattle.sl_law_meaning.specs.meaning.Expressions.{Context, shape_in}
use Rattle.sl_law_fairness.specs.Amounts.{ComesToColumn, sum_in}

-- a split without minima gives in each scope an allocation of the scope's amount by the votes of its entries
abbrev pub SplitsAllocate : Type 0
SplitsAllocate =
    (b : BookTree) (e : Election) (c : Context) (at : ℕ) (s v : ExprTree) (method : Method) (m : Majority) (values : List ℕ) →
    can_split (shape_in c s) (shape_in c v) ≡ true → ComesToColumn b e c (split at s v method without m) values →
    (amounts : List ℕ) × ComesToColumn b e c s amounts × (votes : List ℕ) × ComesToColumn b e c v votes
    × ((g : Group) → Contains (scopes e (shape_in c s) (shape_in c v)) g →
    IsAllocation method m (cells e g.entries votes) (no_minima (cells e g.entries votes)) (slice_index amounts g.amount_place) (cells e g.entries values))

-- a split with minima gives in each scope an allocation with the minima of its entries
abbrev pub SplitsMeetTheMinima : Type 0
SplitsMeetTheMinima =
    (b : BookTree) (e : Election) (c : Context) (at : ℕ) (s v : ExprTree) (method : Divisor) (least : ExprTree) (m : Majority) (values : List ℕ) →
    can_split (shape_in c s) (shape_in c v) ≡ true → ComesToColumn b e c (split at s v (by.Divisor method) (atleast least) m) values →
    (amounts : List ℕ) × ComesToColumn b e c s amounts × (votes : List ℕ) × ComesToColumn b e c v votes × (minima : List ℕ) × ComesToColumn b e c least minima
    × ((g : Group) → Contains (scopes e (shape_in c s) (shape_in c v)) g →
    IsDivisorAllocation method (cells e g.entries votes) (cells e g.entries minima) (slice_index amounts g.amount_place) (cells e g.entries values))

-- a growth gives an allocation of the least house that meets the minima
abbrev pub GrowthsAllocate : Type 0
GrowthsAllocate =
    (b : BookTree) (e : Election) (c : Context) (at : ℕ) (s v : ExprTree) (method : Divisor) (least : ExprTree) (cap : Number) (m : Majority) (values : List ℕ) →
    can_split shape.One (shape_in c v) ≡ true → ComesToColumn b e c (grow at s v (by.Divisor method) least cap m) values →
    (amounts : List ℕ) × ComesToColumn b e c s amounts × (votes : List ℕ) × ComesToColumn b e c v votes × (minima : List ℕ) × ComesToColumn b e c least minima
    × ((g : Group) → Contains (scopes e shape.One (shape_in c v)) g →
    IsGrowth method (cells e g.entries votes) (cells e g.entries minima) (slice_index amounts g.amount_place) cap.value (GrownTo (sum_in e g values))
    × IsGrownAllocation method (cells e g.entries votes) (cells e g.entries minima) (sum_in e g values) (cells e g.entries values))
