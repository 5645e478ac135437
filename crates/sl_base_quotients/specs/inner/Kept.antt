-- How a value of `Ratio` keeps a quotient: its numerator as two words, its denominator, and its whole part.
use Rattle.std.proofs.Common.{◌≡◌, ℕ, ◌+◌, ◌*◌, ◌/◌, ◌%◌, ◌<◌, ◌&&◌, Bool, nat_eq, min, if◌then◌else◌, sym, ap, ◌∙◌}
use Rattle.std.proofs.lemmas.Bool.Decides.{Decides-eqb, Decides-and, Decides-like, same_from_decides}
use Rattle.std.proofs.lemmas.Nat.{div-mul-add, mod-mul-add, div-add-mod'}
use Rattle.sl_base_quotients.specs.Quotient.{Quotient, FitsRatio}
use Rattle.sl_base_quotients.specs.declared.ratio.TheConstants.{MAX_WHOLE_PART, WORD}
use Rattle.sl_base_quotients.specs.declared.ratio.Ratio.TheInside.{Inside}

-- the whole part, as far as 32 bits go; an infinite quotient has the greatest
abbrev pub whole_part : Quotient → ℕ
whole_part q = if nat_eq q.den 0 then MAX_WHOLE_PART else min (q.num / q.den) MAX_WHOLE_PART

abbrev pub quotient_in : Inside → Quotient
quotient_in r = record { num = r.high * WORD + r.low; den = r.den }

-- the inverse
abbrev pub kept_as : Quotient → Inside
kept_as q = record { high = q.num / WORD; whole = whole_part q; low = q.num % WORD; den = q.den }

pub record FitsWords (r : Inside) : Type 0 where
  pub low : r.low < WORD
  pub whole : r.whole ≡ whole_part (quotient_in r)
  pub quotient : FitsRatio (quotient_in r)

pub kept_again : (r : Inside) → FitsWords r → kept_as (quotient_in r) ≡ r
kept_again r h =
    let high = div-mul-add r.high WORD r.low h.low in
    let low = mod-mul-add r.high WORD r.low h.low in
    λ i. record { high = high i; whole = sym h.whole i; low = low i; den = r.den }

-- `==` of two ratios
abbrev pub kept_alike : Inside → Inside → Bool
kept_alike r s = nat_eq r.high s.high && (nat_eq r.whole s.whole && (nat_eq r.low s.low && nat_eq r.den s.den))

-- two quotients are kept alike where they have the same parts
pub kept_alike-parts : (x y : Quotient) → kept_alike (kept_as x) (kept_as y) ≡ (nat_eq x.num y.num && nat_eq x.den y.den)
kept_alike-parts x y =
    let r = kept_as x in
    let s = kept_as y in
    let words = Decides-and _ _ (Decides-eqb r.high s.high) (Decides-and _ _ (Decides-eqb r.whole s.whole) (Decides-and _ _ (Decides-eqb r.low s.low) (Decides-eqb r.den s.den))) in
    let same = Decides-like (kept_alike r s)
    (λ h. (sym (div-add-mod' x.num WORD) ∙ (λ i. h.0 i * WORD + h.1.1.0 i) ∙ div-add-mod' y.num WORD, h.1.1.1))
    (λ h. (ap (λ n. n / WORD) h.0, ((λ i. whole_part (record { num = h.0 i; den = h.1 i })), (ap (λ n. n % WORD) h.0, h.1))))
    words in
    same_from_decides _ _ same (Decides-and _ _ (Decides-eqb x.num y.num) (Decides-eqb x.den y.den))
