-- Lists of minima that read the same have the same allocations: none written, or 0 for each entry.
use Rattle.std.proofs.Common.{◌≡◌, ℕ, List, [], length, Option, Some, None, get_or, sum, arith, sym, ◌∙◌}
use Rattle.sl_base_quotients.specs.declared.method.Divisor.{Divisor}
use Rattle.sl_law_meaning.specs.methods.Field.{no_minima}
use Rattle.sl_law_meaning.specs.methods.Allocations.{IsDivisorAllocation}
use Rattle.sl_law_meaning.proofs.methods.SeatSums.{none_needed}
use Rattle.sl_law_margins.specs.MissingVotes.{with_further, AreMissingWith, AreMissing}

pub same_minima : (method : Divisor) (v m k : List ℕ) (seats : ℕ) (s : List ℕ) → ((i : ℕ) → get_or m i 0 ≡ get_or k i 0) →
    IsDivisorAllocation method v m seats s → IsDivisorAllocation method v k seats s
same_minima method v m k seats s same h = record {
  same_length = h.same_length;
  total = h.total;
  minima = λ i. let e = same i in let le = h.minima i in omega (arith, e, le);
  outside = λ i z. h.outside i z ∙ same i;
  min_max = λ i j fi fj less. let e = same i in h.min_max i j fi fj (omega (arith, e, less));
}

pub zero_for : (v : List ℕ) (i : ℕ) → get_or (no_minima v) i 0 ≡ get_or {A = ℕ} [] i 0
zero_for v i = let z = none_needed (length v) i in omega (arith, z)

pub missing_without : (method : Divisor) (v s : List ℕ) (i : ℕ) (answer : Option ℕ) → AreMissingWith method v [] s i answer → AreMissing method v s i answer
missing_without method v s i (Some x) h = (
  λ t ht. h.0 t (same_minima method (with_further v i x) (no_minima v) [] (sum s) t (zero_for v) ht),
  λ y less. let o = h.1 y less in (o.0, same_minima method (with_further v i y) [] (no_minima v) (sum s) o.0 (λ k. sym (zero_for v k)) o.1, o.2),
)
missing_without method v s i None h =
    λ y. let o = h y in (o.0, same_minima method (with_further v i y) [] (no_minima v) (sum s) o.0 (λ k. sym (zero_for v k)) o.1, o.2)
