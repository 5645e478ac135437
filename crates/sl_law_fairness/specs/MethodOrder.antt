-- Which entries a method favours (Balinski and Young, Fair Representation, appendix A). The law is the contract of a function of `laws`.
use Rattle.std.specs.Prelude.{ℕ, ◌<◌, ◌≤◌, List, slice_index}
use Rattle.sl_base_quotients.specs.declared.method.Divisor.{Divisor}
use Rattle.sl_base_quotients.specs.Quotient.{method_number}
use Rattle.sl_law_meaning.specs.methods.Allocations.{IsDivisorAllocation}
use Rattle.sl_law_fairness.specs.Votes.{IsFinite, next_of}

-- in the order Adams, Dean, Hill, Webster, Jefferson a later method is no better for fewer votes: where they have more seats by it than by an
-- earlier one, whatever the seats of the two houses, more votes do not have fewer
abbrev pub FavoursLarger : Type 0
FavoursLarger =
    (method later : Divisor) → method_number method < method_number later → (v m : List ℕ) (seats house : ℕ) (s t : List ℕ) →
    IsDivisorAllocation method v m seats s → IsDivisorAllocation later v m house t → (i j : ℕ) → slice_index v i < slice_index v j →
    IsFinite (next_of method v s i) → slice_index s i < slice_index t i → slice_index s j ≤ slice_index t j
