-- What a party lacks for one of the conditions: the least number of further votes, or of further winners, that is enough.
use Rattle.std.specs.Prelude.{◌≡◌, ◌⊎◌, ℕ, ◌+◌, ◌^◌, ◌<◌, ◌≤◌, List, [], ◌∷◌, Option, Some, None, MatchOption, min}
use Rattle.sl_report_parties.specs.Parts.{IsEnough}
use Rattle.sl_law_meaning.specs.declared.book.Cond.{Cond}
use Rattle.sl_law_meaning.specs.declared.book.Cond.TheVariants as condition

-- with so many further valid votes, which are valid votes of all too, a party meets the condition as one on votes
abbrev pub AreVotesFor : (has all : ℕ) → Cond → ℕ → Type 0
AreVotesFor has all (condition.Valid share per) more = IsEnough share.value per has all more
AreVotesFor has all (condition.Winners least) more = ⊥
AreVotesFor has all condition.Minority more = ⊥
AreVotesFor has all condition.All more = ⊥

-- with so many further winners it meets the condition as one on winners
abbrev pub AreWinnersFor : (has : ℕ) → Cond → ℕ → Type 0
AreWinnersFor has (condition.Valid share per) more = ⊥
AreWinnersFor has (condition.Winners least) more = least ≤ has + more
AreWinnersFor has condition.Minority more = ⊥
AreWinnersFor has condition.All more = ⊥

-- a number serves for one of the conditions
abbrev pub ForOne : (Cond → ℕ → Type 0) → List Cond → ℕ → Type 0
ForOne Serves [] n = ⊥
ForOne Serves (c ∷ cs) n = Serves c n ⊎ ForOne Serves cs n

pub record IsLeastOf (P : ℕ → Type 0) (n : ℕ) : Type 0 where
  pub serves : P n
  pub least : (m : ℕ) → P m → n ≤ m

-- the least number that serves; nothing where none of 64 bits does
abbrev pub IsLeastIfAny : (ℕ → Type 0) → Option ℕ → Type 0
IsLeastIfAny P o = MatchOption o ((n : ℕ) → n < 2 ^ 64 → ¬ P n) (IsLeastOf P)

-- the lesser of two numbers, where there are two
abbrev pub lesser_of : Option ℕ → Option ℕ → Option ℕ
lesser_of None other = other
lesser_of (Some one) None = Some one
lesser_of (Some one) (Some other) = Some (min one other)

-- nothing is lacked by a party that meets a condition
abbrev pub Lacks : (Cond → ℕ → Type 0) → List Cond → Option ℕ → Option ℕ → Type 0
Lacks Serves conditions (Some met) o = o ≡ None
Lacks Serves conditions None o = IsLeastIfAny (ForOne Serves conditions) o
