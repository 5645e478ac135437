-- Examples of sorts stand in their text, and what a fault of them tells of a beginning.
use Rattle.std.proofs.Common.{◌≡◌, ℕ, List, [], ◌∷◌, ◌++◌, codes, map, length, refl, inl, inr, subst, arith}
use Rattle.sl_lex.specs.declared.token.Token.{Token}
use Rattle.sl_explain_books.specs.declared.beginning.Sort.{Sort}
use Rattle.sl_explain_books.specs.declared.beginning.Sort.TheVariants.{Keyword, Mark, Number, Text, Name, Vacate}
use Rattle.sl_parse.specs.declared.fault.Cause.{Cause}
use Rattle.sl_parse.specs.declared.fault.Cause.TheVariants.{Expected}
use Rattle.sl_explain_books.specs.Beginnings.{examples, example_of, IsBeginning}
use Rattle.sl_parse.specs.Faults.{IsFault}
use Rattle.sl_parse.specs.Parsing.{limits, offset, FaultIsAt}
use Rattle.sl_parse.specs.Spans.{IsSpan, AreSpans}
use Rattle.sl_parse.proofs.OneTree.{within}
use Rattle.sl_parse.proofs.Stands.{no_fault, one_fault}

-- ---- examples

stands_in : (s : Sort) → IsSpan examples (example_of s)
stands_in (Keyword k) = record { start = omega arith; end = omega arith; fits = tt }
stands_in (Mark m) = record { start = omega arith; end = omega arith; fits = tt }
stands_in Number = record { start = omega arith; end = omega arith; fits = omega arith }
stands_in Text = record { start = omega arith; end = omega arith; fits = (codes "vacate", refl, grind arith) }
stands_in Name = record { start = omega arith; end = omega arith; fits = (grind arith, omega arith) }
stands_in Vacate = record { start = omega arith; end = omega arith; fits = (grind arith, omega arith) }

pub stand_in : (sorts : List Sort) → AreSpans examples (map example_of sorts)
stand_in [] = tt
stand_in (s ∷ ss) = (stands_in s, stand_in ss)

-- ---- faults

spans_after : (text : List ℕ) (front rest : List Token) → AreSpans text (front ++ rest) → AreSpans text rest
spans_after text [] rest spans = spans
spans_after text (t ∷ front) rest spans = spans_after text front rest spans.1

-- nothing stands after a fault at the end of the text
nothing_after : (text : List ℕ) (rest : List Token) → AreSpans text rest → length text ≡ offset (length text) rest → rest ≡ []
nothing_after text [] spans e = refl
nothing_after text (t ∷ rest) spans e = absurd (omega (arith, spans.0.start, spans.0.end, e))

module _ (text : List ℕ) (tokens : List Token) where
  pub ends_early : AreSpans text tokens → FaultIsAt text tokens Expected (length text) → IsBeginning text tokens
  ends_early spans (rest, fault, e) =
      let after : AreSpans text rest = spans_after text fault.front rest (subst (AreSpans text) fault.parts spans) in
      let none : rest ≡ [] = nothing_after text rest after e in
      inr (subst (IsFault text limits tokens Expected) none fault)

  -- a beginning has no other fault than that it ends too early
  pub no_other : (cause : Cause) (at : ℕ) → FaultIsAt text tokens cause at → IsBeginning text tokens → (cause ≡ Expected) × (at ≡ length text)
  no_other cause at (rest, fault, e) (inl (tree, is, fits)) = absurd (no_fault text limits tokens tree cause rest is (within tree.stages fits) fault)
  no_other cause at (rest, fault, e) (inr early) =
      let same = one_fault text limits tokens cause Expected rest [] fault early in
      (same.0, rw same.1 at e)
