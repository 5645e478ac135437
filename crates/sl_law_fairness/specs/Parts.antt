-- Parts of divisor allocations: the coherence, or uniformity, of Balinski and Young (Fair Representation, appendix A).
-- Each law is the contract of a function of `laws`.
use Rattle.std.specs.Prelude.{◌≡◌, ℕ, List, length, map, sum, slice_index, Contains}
use Rattle.sl_base_quotients.specs.declared.method.Divisor.{Divisor}
use Rattle.sl_law_meaning.specs.methods.Allocations.{IsDivisorAllocation}
use Rattle.sl_law_meaning.specs.methods.Ties.{Distinct}

-- what some entries have, in the order in which they are named
abbrev pub part : List ℕ → List ℕ → List ℕ
part entries xs = map (λ i. slice_index xs i) entries

-- any entries have among them an allocation of the seats that they have
abbrev pub Coherent : Type 0
Coherent =
    (method : Divisor) (v m : List ℕ) (seats : ℕ) (s : List ℕ) → IsDivisorAllocation method v m seats s →
    (entries : List ℕ) →
    IsDivisorAllocation method (part entries v) (part entries m) (sum (part entries s)) (part entries s)

-- t is s with other seats for these entries
pub record IsPutIn (entries u s t : List ℕ) : Type 0 where
  pub same_length : length t ≡ length s
  pub put : part entries t ≡ u
  pub others : (i : ℕ) → ¬ Contains entries i → slice_index t i ≡ slice_index s i

-- and any allocation of those seats among them may be put in its place
abbrev pub PartsReplaced : Type 0
PartsReplaced =
    (method : Divisor) (v m : List ℕ) (seats : ℕ) (s : List ℕ) → IsDivisorAllocation method v m seats s →
    (entries u t : List ℕ) → Distinct entries →
    IsDivisorAllocation method (part entries v) (part entries m) (sum (part entries s)) u →
    IsPutIn entries u s t → IsDivisorAllocation method v m seats t
