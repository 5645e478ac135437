-- The order of entries is a total order, and it tells apart what `==` does.
use Rattle.std.proofs.Common.{◌≡◌, ℕ, zero, suc, ◌+◌, ◌*◌, ◌<◌, ◌≤◌, ◌&&◌, true, false, nat_eq, if◌then◌else◌, inl, inr, refl, sym, ap, subst, ◌∙◌, arith}
use Rattle.std.proofs.Math.Nat.{mul-le-mul_right}
use Rattle.std.proofs.lemmas.Bool.{cases_lt}
use Rattle.std.proofs.lemmas.Bool.Decides.{nat_tests, Decides-eqb, Decides-and, same_from_decides}
use Rattle.std.specs.Bool.{Decides}
use Rattle.std.specs.Cmp.{IsTotalOrder, nat_cmp_total, nat_cmp_is, ranks, then_total, on_total, back_total, tied_itself, Equal-is}
use Rattle.std.specs.declared.cmp.Ordering.{Ordering}
use Rattle.std.specs.declared.cmp.Ordering.TheVariants.{Less, Equal, Greater}
use Rattle.std.specs.Ordering.{MatchOrdering, nat_cmp, is_eq, ordering_then}
use Rattle.sl_base_quotients.specs.declared.entry.Entry.{Entry}
use Rattle.sl_base_quotients.specs.Quotient.{Quotient, compare}
use Rattle.sl_base_quotients.specs.Entry.{as_ordered, quotient_cmp, entry_cmp}
use Rattle.sl_base_quotients.specs.inner.Kept.{kept_as, kept_alike, kept_alike-parts}

-- what an answer says of the two numbers
said : (a b : ℕ) (r : Ordering) → nat_cmp a b ≡ r → MatchOrdering r (a < b) (a ≡ b) (b < a)
said a b r e = subst (λ (o : Ordering). MatchOrdering o (a < b) (a ≡ b) (b < a)) e (ranks a b)

right_pos : (c b k : ℕ) → k < c * b → 0 < b
right_pos c zero k h = absurd (omega arith)
right_pos c (suc b) k h = omega arith

-- a/b < c/d and c/d < e/f
less_chain : (a b c d e f : ℕ) → a * d < c * b → c * f < e * d → a * f < e * b
less_chain a b c d e f h k =
    elim (cases_lt (a * f) (e * b)) [
      | inl l ↦ l
      | inr g ↦
          let pos : 0 < b = right_pos c b _ h in
          let one : e * b * d ≤ a * f * d = mul-le-mul_right d g in
          let two : a * d * f ≤ c * b * f = mul-le-mul_right f (omega arith) in
          let three : (c * f + 1) * b ≤ e * d * b = mul-le-mul_right b (omega arith) in
          absurd (omega arith)
    ]

scaled : (a b k : ℕ) (r : Ordering) → MatchOrdering r (a < b) (a ≡ b) (b < a) → MatchOrdering r (a * suc k < b * suc k) (a * suc k ≡ b * suc k) (b * suc k < a * suc k)
scaled a b k Less h = let l : (a + 1) * suc k ≤ b * suc k = mul-le-mul_right (suc k) (omega arith) in omega arith
scaled a b k Equal h = ap (λ n. n * suc k) h
scaled a b k Greater h = let l : (b + 1) * suc k ≤ a * suc k = mul-le-mul_right (suc k) (omega arith) in omega arith

scale : (a b k : ℕ) → nat_cmp a b ≡ nat_cmp (a * suc k) (b * suc k)
scale a b k = nat_cmp_is (a * suc k) (b * suc k) (nat_cmp a b) (scaled a b k (nat_cmp a b) (ranks a b))

-- a/b and c/d are equal, so each e/f compares alike to both
equal_alike : (a b c d e f : ℕ) → suc a * d ≡ suc c * b → nat_cmp (suc a * f) (e * b) ≡ nat_cmp (suc c * f) (e * d)
equal_alike a b c d e f h =
    let left : suc a * f * suc c ≡ suc c * f * suc a = omega arith in
    let across : e * (suc a * d) ≡ e * (suc c * b) = ap (λ n. e * n) h in
    let right : e * b * suc c ≡ e * d * suc a = omega arith in
    scale (suc a * f) (e * b) c ∙ (λ i. nat_cmp (left i) (right i)) ∙ sym (scale (suc c * f) (e * d) a)

-- a quotient with a positive numerator is read as it is
pub as_ordered-positive : (q : Quotient) → 0 < q.num → as_ordered q ≡ q
as_ordered-positive q pos =
    let positive : nat_eq q.num 0 ≡ false = grind (arith, nat_tests) in
    λ i. record { num = q.num; den = if positive i then 1 else q.den }

pub quotient_cmp-positive : (x y : Quotient) → 0 < x.num → 0 < y.num → quotient_cmp x y ≡ compare x y
quotient_cmp-positive x y p q = λ i. compare (as_ordered-positive x p i) (as_ordered-positive y q i)

crossed : (x y : Quotient) → compare x y ≡ Equal → x.num * y.den ≡ y.num * x.den
crossed x y h = said (x.num * y.den) (y.num * x.den) Equal h

ordered_alike : (a b c d : ℕ) (z : Quotient) → quotient_cmp (record { num = a; den = b }) (record { num = c; den = d }) ≡ Equal
    → compare (as_ordered (record { num = a; den = b })) z ≡ compare (as_ordered (record { num = c; den = d })) z
ordered_alike zero b zero d z h = refl
ordered_alike zero b (suc c) d z h =
    let e = crossed (as_ordered (record { num = 0; den = b })) (as_ordered (record { num = suc c; den = d })) h in
    absurd (omega (arith, e))
ordered_alike (suc a) b zero d z h =
    let e = crossed (as_ordered (record { num = suc a; den = b })) (as_ordered (record { num = 0; den = d })) h in
    absurd (omega (arith, e))
ordered_alike (suc a) b (suc c) d z h =
    let x : Quotient = record { num = suc a; den = b } in
    let y : Quotient = record { num = suc c; den = d } in
    let px : 0 < suc a = omega arith in
    let py : 0 < suc c = omega arith in
    let e = crossed x y (sym (quotient_cmp-positive x y px py) ∙ h) in
    ap (λ q. compare q z) (as_ordered-positive x px) ∙ equal_alike a b c d z.num z.den e ∙ sym (ap (λ q. compare q z) (as_ordered-positive y py))

pub quotient_total : IsTotalOrder quotient_cmp
quotient_total = record {
  antisymm = λ x y. nat_cmp_total.antisymm ((as_ordered x).num * (as_ordered y).den) ((as_ordered y).num * (as_ordered x).den);
  trans = λ x y z p q.
      let u = as_ordered x in
      let v = as_ordered y in
      let w = as_ordered z in
      let l : u.num * w.den < w.num * u.den = less_chain u.num u.den v.num v.den w.num w.den (said _ _ _ p) (said _ _ _ q) in
      sym (nat_cmp_is _ _ Less l);
  congr = λ x y z p. ordered_alike x.num x.den y.num y.den (as_ordered z) p;
}

pub entry_total : IsTotalOrder entry_cmp
entry_total =
    then_total (then_total (then_total
    (on_total (λ (e : Entry). e.ratio) quotient_total)
    (back_total (on_total (λ (e : Entry). e.index) nat_cmp_total)))
    (on_total (λ (e : Entry). e.ratio.num) nat_cmp_total))
    (on_total (λ (e : Entry). e.ratio.den) nat_cmp_total)

then_is_eq : (o p : Ordering) → is_eq (ordering_then o p) ≡ true → (is_eq o ≡ true) × (is_eq p ≡ true)
then_is_eq Less p h = (h, absurd (cc))
then_is_eq Equal p h = (refl, h)
then_is_eq Greater p h = (h, absurd (cc))

-- the parts of two entries agree
abbrev SameParts : Entry → Entry → Type 0
SameParts x y = ((x.ratio.num ≡ y.ratio.num) × (x.ratio.den ≡ y.ratio.den)) × (x.index ≡ y.index)

same : (a b : ℕ) → is_eq (nat_cmp a b) ≡ true → a ≡ b
same a b h = said a b Equal ((Equal-is (nat_cmp a b)).0 h)

order_decides : (x y : Entry) → Decides (is_eq (entry_cmp x y)) (SameParts x y)
order_decides x y = (
  (λ h.
      let den = then_is_eq _ (nat_cmp x.ratio.den y.ratio.den) h in
      let num = then_is_eq _ (nat_cmp x.ratio.num y.ratio.num) den.0 in
      let index = then_is_eq (quotient_cmp x.ratio y.ratio) (nat_cmp y.index x.index) num.0 in
      ((same _ _ num.1, same _ _ den.1), sym (same _ _ index.1))),
  (λ s.
      let e : x ≡ y = λ i. record { ratio = record { num = s.0.0 i; den = s.0.1 i }; index = s.1 i } in
      ap is_eq (subst (λ (z : Entry). entry_cmp x z ≡ Equal) e (tied_itself entry_total x))),
)

pub entry_ties : (x y : Entry) → (nat_eq x.ratio.num y.ratio.num && nat_eq x.ratio.den y.ratio.den && nat_eq x.index y.index) ≡ is_eq (entry_cmp x y)
entry_ties x y =
    same_from_decides _ _
    (Decides-and _ _ (Decides-and _ _ (Decides-eqb x.ratio.num y.ratio.num) (Decides-eqb x.ratio.den y.ratio.den)) (Decides-eqb x.index y.index))
    (order_decides x y)

-- the same of `==`, which compares ratios as they are kept
pub kept_ties : (x y : Entry) → (kept_alike (kept_as x.ratio) (kept_as y.ratio) && nat_eq x.index y.index) ≡ is_eq (entry_cmp x y)
kept_ties x y = ap (λ same. same && nat_eq x.index y.index) (kept_alike-parts x.ratio y.ratio) ∙ entry_ties x y
