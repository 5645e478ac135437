-- The laws of the definitions.
use Rattle.std.proofs.Common.{◌≡◌, ℕ, zero, suc, ◌*◌, ◌<◌, ◌≤◌, false, nat_eq, if◌then◌else◌, refl, sym, ap, ◌∙◌, arith}
use Rattle.std.proofs.lemmas.Bool.Decides.{nat_tests}
use Rattle.std.specs.Cmp.{nat_cmp_is}
use Rattle.std.specs.declared.cmp.Ordering.{Ordering}
use Rattle.std.specs.declared.cmp.Ordering.TheVariants.{Less, Equal, Greater}
use Rattle.std.specs.Ordering.{nat_cmp, ordering_then}
use Rattle.sl_base_quotients.specs.inner.EntryLaws.{quotient_cmp-positive}
use Rattle.sl_ratio.specs.Laws.{FiveMethods, InfiniteQuotients, QuotientsChain, EntryOrder, Limits}
use Rattle.sl_base_quotients.specs.inner.QuotientLaws.{quotient_positive, quotient_fits, quotient_falls, quotient_rises}
use Rattle.sl_base_quotients.proofs.Order.{AtMost-trans}

pub five_methods : FiveMethods
five_methods method = record {
  positive = quotient_positive method;
  fits = quotient_fits method;
  falls = quotient_falls method;
  rises = quotient_rises method;
}

-- n/0 and m/d
at_infinity : (n m d : ℕ) → 1 ≤ n → nat_cmp (n * d) (m * 0) ≡ (if nat_eq d 0 then Equal else Greater)
at_infinity n m zero h = sym (nat_cmp_is (n * 0) (m * 0) Equal (omega arith))
at_infinity zero m (suc d) h = absurd (omega arith)
at_infinity (suc n) m (suc d) h =
    let finite : nat_eq (suc d) 0 ≡ false = grind (arith, nat_tests) in
    let greater : m * 0 < suc n * suc d = omega arith in
    rw finite (sym (nat_cmp_is (suc n * suc d) (m * 0) Greater greater))

pub infinite_quotients : InfiniteQuotients
infinite_quotients x y fits infinite other = rw infinite (at_infinity x.num y.num y.den fits.positive)

pub quotients_chain : QuotientsChain
quotients_chain x y z fits = AtMost-trans x y z fits.positive

nested : (a b c d : Ordering) → ordering_then (ordering_then (ordering_then a b) c) d ≡ ordering_then a (ordering_then b (ordering_then c d))
nested Less b c d = refl
nested Equal Less c d = refl
nested Equal Equal c d = refl
nested Equal Greater c d = refl
nested Greater b c d = refl

pub entry_order : EntryOrder
entry_order x y fx fy =
    let index = nat_cmp y.index x.index in
    let num = nat_cmp x.ratio.num y.ratio.num in
    let den = nat_cmp x.ratio.den y.ratio.den in
    ap (λ (o : Ordering). ordering_then (ordering_then (ordering_then o index) num) den) (quotient_cmp-positive x.ratio y.ratio fx.positive fy.positive) ∙
    nested _ index num den

pub limits : Limits
limits = record { seats = refl; weight = refl; number = refl; name_bytes = refl; numerator = refl; denominator = refl }
