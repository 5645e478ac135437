-- Which winners of a list are seated when it has fewer seats than winners (docs/methods.md, section 8).
use Rattle.std.specs.Prelude.{◌≡◌, ℕ, ◌<◌, ◌≤◌, List, length, sum, slice_index}
use Rattle.sl_base_quotients.specs.Quotient.{Quotient, AtMost}

-- a winner's share: the first votes over the valid first votes of the constituency
abbrev pub share : List ℕ → List ℕ → ℕ → Quotient
share first valid i = record { num = slice_index first i; den = slice_index valid i }

-- s seats that many of the winners (1, and 0 for the others): who is seated has at least the share of each who is not
pub record IsCovering (first valid : List ℕ) (seats : ℕ) (s : List ℕ) : Type 0 where
  pub same_length : length s ≡ length first
  pub total : sum s ≡ seats
  pub one_place : (i : ℕ) → slice_index s i ≤ 1
  pub largest : (i j : ℕ) → slice_index s i ≡ 1 → j < length first → slice_index s j ≡ 0 →
      AtMost (share first valid j) (share first valid i)
