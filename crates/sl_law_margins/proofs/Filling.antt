-- Seats by claims that are no smaller than one, entry by entry.
use Rattle.std.proofs.Common.{◌≡◌, ◌≢◌, ℕ, ◌+◌, ◌-◌, ◌<◌, ◌≤◌, List, [], ◌∷◌, ◌++◌, length, get_or, sum, inl, inr, arith, refl, sym, ◌∙◌, subst}
use Rattle.std.proofs.lemmas.Bool.{cases_lt, cases_eq}
use Rattle.std.proofs.lemmas.List.{length-append, get_or_past}
use Rattle.std.proofs.lemmas.List.Sums.{sum_by-append}
use Rattle.std.proofs.Math.ListN.{get_or-append}
use Rattle.std.proofs.Math.Seq.{get_or-append_seam}
use Rattle.sl_base_quotients.specs.declared.method.Divisor.{Divisor}
use Rattle.sl_base_quotients.specs.Quotient.{Quotient, AtMost, Below, quotient}
use Rattle.sl_base_quotients.specs.Bounds.{HasWeight}
use Rattle.sl_law_meaning.proofs.methods.SeatSums.{sum-cons}
use Rattle.sl_law_margins.specs.inner.Filled.{Reaches, Fills}
use Rattle.sl_law_margins.proofs.Missing.{below_next}

-- one number more
pub longer : (u : List ℕ) (a : ℕ) → length (u ++ a ∷ []) ≡ length u + 1
longer u a = simp length-append

pub sum_more : (u : List ℕ) (a : ℕ) → sum (u ++ a ∷ []) ≡ sum u + a
sum_more u a = let e : sum (u ++ a ∷ []) ≡ sum u + sum (a ∷ []) = sum_by-append (λ n. n) u (a ∷ []) in let b = sum-cons a [] in omega (arith, e, b)

pub at_end : (u : List ℕ) (a n : ℕ) → length u ≡ n → get_or (u ++ a ∷ []) n 0 ≡ a
at_end u a n e = subst (λ k. get_or (u ++ a ∷ []) k 0 ≡ a) e (get_or-append_seam u a [] 0)

pub at_before : (u : List ℕ) (a n k : ℕ) → length u ≡ n → k < n → get_or (u ++ a ∷ []) k 0 ≡ get_or u k 0
at_before u a n k e l = get_or-append u (a ∷ []) 0 k (omega (arith, e, l))

module _ (method : Divisor) (w : List ℕ) (claim : Quotient) (i : ℕ) where
  pub fills_none : (left : ℕ) → Fills method w claim i 0 left []
  fills_none left = record { same_length = refl; own = refl; reached = λ k l. absurd (omega (arith, l)); all = λ some k l. absurd (omega (arith, l)) }

  module _ (n left : ℕ) (u : List ℕ) (h : Fills method w claim i n left u) (a after : ℕ) (le : after ≤ left) where
    own_more : (n ≡ i → a ≡ 0) → get_or (u ++ a ∷ []) i 0 ≡ 0
    own_more out =
        elim (cases_eq n i) [
          | inl e ↦ subst (λ k. get_or (u ++ a ∷ []) k 0 ≡ 0) e (at_end u a n h.same_length ∙ out e)
          | inr ne ↦ elim (cases_lt i n) [
            | inl l ↦ at_before u a n i h.same_length l ∙ h.own
            | inr g ↦ get_or_past (u ++ a ∷ []) i 0 (let l = longer u a in let e = h.same_length in omega (arith, l, e, g, ne))
          ]
        ]

    pub fills_more : (n ≡ i → a ≡ 0) → (n ≢ i → 0 < a → HasWeight w n × AtMost claim (quotient method (get_or w n 0) (a - 1))) →
        (0 < after → n ≢ i → HasWeight w n → Below (quotient method (get_or w n 0) a) claim) → Fills method w claim i (n + 1) after (u ++ a ∷ [])
    fills_more out last next = record {
      same_length = longer u a ∙ (let e = h.same_length in omega (arith, e));
      own = own_more out;
      reached = λ k l. below_next (λ k. k ≢ i → 0 < get_or (u ++ a ∷ []) k 0 → HasWeight w k × AtMost claim (quotient method (get_or w k 0) (get_or (u ++ a ∷ []) k 0 - 1))) n k l
          (λ less ne some.
          let e = at_before u a n k h.same_length less in
          subst (λ x. HasWeight w k × AtMost claim (quotient method (get_or w k 0) (x - 1))) (sym e) (h.reached k less ne (omega (arith, some, e))))
          (λ ne some.
          let e = at_end u a n h.same_length in
          subst (λ x. HasWeight w n × AtMost claim (quotient method (get_or w n 0) (x - 1))) (sym e) (last ne (omega (arith, some, e))));
      all = λ some k l. below_next (λ k. k ≢ i → HasWeight w k → Below (quotient method (get_or w k 0) (get_or (u ++ a ∷ []) k 0)) claim) n k l
          (λ less ne f. subst (λ x. Below (quotient method (get_or w k 0) x) claim) (sym (at_before u a n k h.same_length less)) (h.all (omega (arith, some, le)) k less ne f))
          (λ ne f. subst (λ x. Below (quotient method (get_or w n 0) x) claim) (sym (at_end u a n h.same_length)) (next some ne f));
    }

  -- an entry that gets none: it is i, or has no votes, or no seat is left
  pub fills_skipped : (n left : ℕ) (u : List ℕ) → Fills method w claim i n left u → (0 < left → n ≢ i → HasWeight w n → ⊥) → Fills method w claim i (n + 1) left (u ++ 0 ∷ [])
  fills_skipped n left u h out = fills_more n left u h 0 left (omega arith) (λ e. refl) (λ ne some. absurd (omega (arith, some))) (λ some ne f. absurd (out some ne f))

  -- one that gets all that it has claims to, as far as seats are left
  pub fills_reached : (n left a : ℕ) (u : List ℕ) → Fills method w claim i n left u → n ≢ i → HasWeight w n → Reaches method (get_or w n 0) claim left a →
      Fills method w claim i (n + 1) (left - a) (u ++ a ∷ [])
  fills_reached n left a u h ne f r =
      fills_more n left u h a (left - a) (omega arith) (λ e. absurd (ne e)) (λ other some. (f, r.last some)) (λ some other has. r.next (omega (arith, some)))
