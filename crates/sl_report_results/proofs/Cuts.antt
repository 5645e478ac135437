-- A fraction in decimals, cut: there is one such number.
use Rattle.std.proofs.Common.{◌≡◌, ◌∙◌, ℕ, ◌*◌, ◌/◌, ◌^◌, ◌<◌, ◌≤◌, ap, arith, subst}
use Rattle.std.proofs.Math.Nat.{div-mul-le_self, le-div_iff_mul-le}
use Rattle.sl_law_margins.specs.Decimals.{IsCut, Number}
use Rattle.sl_report_results.specs.Fractions.{cut_of}

pub is_cut : (num den places : ℕ) (d : Number) → 0 < den → IsCut (record { num = num; den = den }) places d → d ≡ cut_of (record { num = num; den = den }) places
is_cut num den places d some h =
    let cut : ℕ = num * 10 ^ places / den in
    let most : cut ≤ d.digits = h.greatest cut (div-mul-le_self (num * 10 ^ places) den) in
    let least : d.digits ≤ cut = (le-div_iff_mul-le some).1 (subst (λ n. d.digits * den ≤ num * 10 ^ n) h.places_kept h.not_above) in
    let same : d.digits ≡ cut = omega (arith, most, least) in
    ap (λ n. record { digits = n; places = d.places }) same ∙ ap (λ n. record { digits = cut; places = n }) h.places_kept
