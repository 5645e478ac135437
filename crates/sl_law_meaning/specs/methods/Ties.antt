-- Ties in a set of allocations, and the choice that a lot makes (docs/methods.md, section 4).
use Rattle.std.specs.Prelude.{◌↔◌, ◌≡◌, ℕ, ◌+◌, ◌<◌, ◌≤◌, List, [], ◌∷◌, length, slice_index, Contains, filter, nat_eq, take}
use Rattle.std.specs.List.{list_any}
use Rattle.std.specs.List.Sorted.{IsStrictlyIncreasing}

-- no entry stands in the list twice
abbrev pub Distinct : List ℕ → Type 0
Distinct [] = Unit {0}
Distinct (x ∷ xs) = ¬ Contains xs x × Distinct xs

-- the list has exactly the entries of which P holds, in entry order
pub record Lists (P : ℕ → Type 0) (entries : List ℕ) : Type 0 where
  pub in_order : IsStrictlyIncreasing entries
  pub has : (i : ℕ) → P i → Contains entries i
  pub has_only : (i : ℕ) → Contains entries i → P i

-- the member s of X has the greater of the two values that members have at the entry
abbrev pub IsRaised : (List ℕ → Type 0) → List ℕ → ℕ → Type 0
IsRaised X s i = (t : List ℕ) × X t × (slice_index t i < slice_index s i)

-- two members of X differ on the entry
abbrev pub IsTied : (List ℕ → Type 0) → ℕ → Type 0
IsTied X i = (s : List ℕ) × X s × IsRaised X s i

-- the tied entries of X in entry order, and how many of them each member raises
pub record AreTied (X : List ℕ → Type 0) (tied : List ℕ) (k : ℕ) : Type 0 where
  pub entries : Lists (IsTied X) tied
  pub number : (s : List ℕ) → X s → (raised : List ℕ) × Lists (IsRaised X s) raised × (length raised ≡ k)

-- what is chosen: seats for each entry, or nothing, for want of a lot that says which k of the tied entries are raised
pub data Choice : Type 0 where
  Decided : (s : List ℕ) → Choice
  Tied : (k : ℕ) (tied : List ℕ) → Choice

-- the lot names each of these entries
abbrev pub NamesAll : List ℕ → List ℕ → Type 0
NamesAll lot entries = (i : ℕ) → Contains entries i → Contains lot i

-- the first k of these entries in the lot's order
abbrev pub drawn : List ℕ → ℕ → List ℕ → List ℕ
drawn lot k entries = take k (filter (λ i. list_any (λ j. nat_eq j i) entries) lot)

-- by a lot that names all tied entries, the member is chosen whose raised entries are those that the lot draws; by any other lot the
-- tie stands. Where a set has one member it ties no entries, so every lot names them all, and that member is chosen
abbrev pub IsChoice : (List ℕ → Type 0) → List ℕ → Choice → Type 0
IsChoice X lot (Decided s) =
    (tied : List ℕ) × (k : ℕ) × AreTied X tied k × NamesAll lot tied × X s ×
    ((i : ℕ) → IsRaised X s i ↔ Contains (drawn lot k tied) i)
IsChoice X lot (Tied k tied) = AreTied X tied k × ¬ NamesAll lot tied

-- what makes "the allocation" and "a tie of k seats among these entries" well-defined: the set is not empty; any two members are at
-- most one apart on each entry; all members raise equally many tied entries (k), and any k of them are raised by some member; each
-- lot has exactly one choice
pub record IsWellDefined (X : List ℕ → Type 0) : Type 0 where
  pub some : (s : List ℕ) × X s
  pub one_apart : (s t : List ℕ) → X s → X t → (i : ℕ) → slice_index s i ≤ slice_index t i + 1
  pub tied : List ℕ
  pub k : ℕ
  pub are_tied : AreTied X tied k
  pub every_choice : (chosen : List ℕ) → IsStrictlyIncreasing chosen → ((i : ℕ) → Contains chosen i → Contains tied i) →
      length chosen ≡ k → (s : List ℕ) × X s × Lists (IsRaised X s) chosen
  pub one_choice : (lot : List ℕ) → Distinct lot →
      (c : Choice) × IsChoice X lot c × ((d : Choice) → IsChoice X lot d → d ≡ c)
