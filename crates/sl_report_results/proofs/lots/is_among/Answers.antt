use Rattle.std.proofs.Common.{◌≡◌, ℕ, ◌<◌, ◌≤◌, List, Ok, Err, Result, length, get_or, arith, refl, ◌∙◌, inl, inr}
use Rattle.std.specs.Prelude.{◌↔◌, Contains, IsTrue, MatchResult, is_ok}
use Rattle.std.specs.List.Sorted.{IsStrictlyIncreasing}
use Rattle.std.proofs.lemmas.Bool.{cases_eq, cases_lt, false≢true}
use Rattle.std.proofs.lemmas.List.{get_or_default}
use Rattle.std.proofs.lemmas.List.Kept.{AllPairs-from_increasing}
use Rattle.std.proofs.lemmas.List.Sorted.{searched}
use Rattle.sl_report_results.proofs.lots.is_among.Goals as goal

rising : (xs : List ℕ) → IsStrictlyIncreasing xs → (i j : ℕ) → i ≤ j → j < length xs → get_or xs i 0 ≤ get_or xs j 0
rising xs up i j most below = elim (cases_eq i j) [
  | inl e ↦ rw e (omega arith)
  | inr differ ↦ let less = AllPairs-from_increasing xs up i j 0 (elim (cases_lt i j) [ inl l ↦ l | inr g ↦ absurd (differ (omega (arith, g, most))) ]) below in omega (arith, less)
]

found : (xs : List ℕ) (x : ℕ) (r : Result ℕ ℕ) → MatchResult r (λ i. (i < length xs) × (get_or xs i 0 ≡ x)) (λ i. (i ≤ length xs) × ((k : ℕ) → k < i → get_or xs k 0 < x) × ((k : ℕ) → i ≤ k → k < length xs → x < get_or xs k 0)) →
    IsTrue (is_ok r) ↔ Contains xs x
found xs x (Ok i) h = ((λ t. (i, h.0, get_or_default xs i x 0 h.0 ∙ h.1)), (λ there. refl))
found xs x (Err i) h = (
  (λ t. absurd (false≢true t)),
  (λ there.
      let same = get_or_default xs there.0 0 x there.1 ∙ there.2 in
      absurd (elim (cases_lt there.0 i) [ inl less ↦ let low = h.1 there.0 less in omega (arith, low, same) | inr past ↦ let high = h.2 there.0 past there.1 in omega (arith, high, same) ])),
)

pub returns : goal.returns
returns c =
    rw c.is_ok.ensures.value (found c.args.numbers.now c.args.number c.binary_search.result (searched c.args.numbers.now c.args.number c.binary_search.result c.binary_search.ensures.position (rising c.args.numbers.now c.requires)))
