-- The limits that every rulebook keeps (docs/limits.md).
use Rattle.std.specs.Prelude.{ℕ, ◌+◌, Bool, ◌&&◌, List, [], ◌∷◌, ◌++◌, length, max, nat_le, flat_map}
use Rattle.std.specs.List.{list_all}
use Rattle.sl_base_quotients.specs.declared.limits.TheConstants.{MAX_NUMBER}
use Rattle.sl_law_meaning.specs.declared.limits.TheConstants.{MAX_DEPTH, MAX_PARTS}
use Rattle.sl_base_terms.specs.declared.limits.TheConstants.{MAX_STAGES}
use Rattle.sl_law_meaning.specs.declared.book.Cond.{Cond}
use Rattle.sl_law_meaning.specs.declared.book.Cond.TheVariants as conditions
use Rattle.sl_law_meaning.specs.book.Trees.{ExprTree, fact, name, sum, pair, split, without, atleast, grow, StageTree, BookTree}

-- the levels of an expression, itself the first
abbrev pub depth_of : ExprTree → ℕ
depth_of (fact at told) = 1
depth_of (name at n) = 1
depth_of (sum at e axis) = 1 + depth_of e
depth_of (pair at pairing l r) = 1 + max (depth_of l) (depth_of r)
depth_of (split at s v method without majority) = 1 + max (depth_of s) (depth_of v)
depth_of (split at s v method (atleast m) majority) = 1 + max (max (depth_of s) (depth_of v)) (depth_of m)
depth_of (grow at s v method m cap majority) = 1 + max (max (depth_of s) (depth_of v)) (depth_of m)

-- the parts of an expression: itself and each expression in it
abbrev pub parts_of : ExprTree → ℕ
parts_of (fact at told) = 1
parts_of (name at n) = 1
parts_of (sum at e axis) = 1 + parts_of e
parts_of (pair at pairing l r) = 1 + parts_of l + parts_of r
parts_of (split at s v method without majority) = 1 + parts_of s + parts_of v
parts_of (split at s v method (atleast m) majority) = 1 + parts_of s + parts_of v + parts_of m
parts_of (grow at s v method m cap majority) = 1 + parts_of s + parts_of v + parts_of m

abbrev pub is_within_stage : StageTree → Bool
is_within_stage s = nat_le (depth_of s.expr) MAX_DEPTH && nat_le (parts_of s.expr) MAX_PARTS

abbrev pub is_within_limits : List StageTree → Bool
is_within_limits stages = nat_le (length stages) MAX_STAGES && list_all is_within_stage stages

-- the numbers that stand in an expression
abbrev pub numbers_of : ExprTree → List ℕ
numbers_of (fact at told) = []
numbers_of (name at n) = []
numbers_of (sum at e axis) = numbers_of e
numbers_of (pair at pairing l r) = numbers_of l ++ numbers_of r
numbers_of (split at s v method without majority) = numbers_of s ++ numbers_of v
numbers_of (split at s v method (atleast m) majority) = numbers_of s ++ (numbers_of v ++ numbers_of m)
numbers_of (grow at s v method m cap majority) = numbers_of s ++ (numbers_of v ++ (numbers_of m ++ cap.value ∷ []))

-- those of a condition
abbrev pub condition_numbers : Cond → List ℕ
condition_numbers (conditions.Valid share per) = share.value ∷ per ∷ []
condition_numbers (conditions.Winners least) = least ∷ []
condition_numbers conditions.Minority = []
condition_numbers conditions.All = []

-- those of a book
abbrev pub book_numbers : BookTree → List ℕ
book_numbers b = b.version.value ∷ b.house.value ∷ flat_map condition_numbers b.eligible ++ flat_map (λ s. numbers_of s.expr) b.stages

-- none of them is too great
abbrev pub are_small : List ℕ → Bool
are_small numbers = list_all (λ n. nat_le n MAX_NUMBER) numbers
