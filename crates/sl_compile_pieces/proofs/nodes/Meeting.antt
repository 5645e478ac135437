-- What the seats that the entries of the field hold lack of their minima, entry by entry and in all.
use Rattle.std.proofs.Common.{◌≡◌, ℕ, zero, suc, ◌+◌, ◌-◌, ◌<◌, ◌≤◌, Bool, List, [], ◌∷◌, length, take, sum, refl, sym, ap, subst, ◌∙◌, inl, inr, arith, eq-eqb, ne_eqb}
use Rattle.std.specs.Prelude.{nat_eq, slice_index, if◌then◌else◌, Contains}
use Rattle.std.proofs.lemmas.Bool.{cases_lt, cases_eq}
use Rattle.sl_law_meaning.specs.methods.Field.{InField}
use Rattle.sl_law_meaning.specs.methods.LeastHouse.{outside_minima, Meets}
use Rattle.sl_law_meaning.specs.laws.Ladders.{RaisesEach}
use Rattle.sl_law_meaning.proofs.methods.SeatSums.{some_less, sum_mono, entry_le_sum}
use Rattle.sl_law_meaning.proofs.methods.RaisedSeats.{Contains-none, Contains-head, sum-raise}
use Rattle.sl_law_meaning.proofs.methods.TieLaw.{raised_is}
use Rattle.sl_law_meaning.proofs.methods.HouseProofs.{outside_at, outside_in}
use Rattle.sl_law_meaning.proofs.methods.DivisorProofs.{in_range}
use Rattle.sl_compile_pieces.proofs.arenas.Pieces.{only_it, not_it}
use Rattle.sl_compile_pieces.proofs.seats.Lists.{sum_of_all}

-- ---- lists of numbers

-- a list that is one more at one place sums to one more
pub sum_one_more : (s t : List ℕ) (i : ℕ) → i < length s → length t ≡ length s → slice_index t i ≡ slice_index s i + 1
    → ((j : ℕ) → ¬ (j ≡ i) → slice_index t j ≡ slice_index s j) → sum t ≡ sum s + 1
sum_one_more s t i within long more others =
    let raised : RaisesEach (i ∷ []) s t = record {
      same_length = long;
      raised = λ j c. subst (λ (n : ℕ). slice_index t n ≡ slice_index s n + 1) (only_it i j c) more;
      others = λ j out. others j (λ same. out (subst (λ (n : ℕ). Contains (i ∷ []) n) (sym same) (Contains-head i [])));
    } in
    let there : (p : ℕ) → Contains (i ∷ []) p → p < length s = λ p c. subst (λ (n : ℕ). n < length s) (only_it i p c) within in
    ap sum (sym (raised_is s t (i ∷ []) (Contains-none i, tt) there raised)) ∙ sum-raise s (i ∷ []) there

-- ---- what is lacking

-- of each entry of the field what its seats lack of its minimum, and 0 outside it
pub lacking : List ℕ → List ℕ → List ℕ → List ℕ
lacking (v ∷ vs) (m ∷ ms) (t ∷ ts) = (if nat_eq v 0 then 0 else m - t) ∷ lacking vs ms ts
lacking vs ms ts = []

pub length-lacking : (v m t : List ℕ) → length m ≡ length v → length t ≡ length v → length (lacking v m t) ≡ length v
unfolding lacking
length-lacking [] m t e h = refl
length-lacking (x ∷ v) (y ∷ m) (z ∷ t) e h = ap (λ n. suc n) (length-lacking v m t (omega arith) (omega arith))
length-lacking _ _ _ e h = absurd (omega arith)

pub lacking_at : (v m t : List ℕ) (i : ℕ) → slice_index v i ≡ 0 → slice_index (lacking v m t) i ≡ 0
unfolding lacking
lacking_at (x ∷ v) (y ∷ m) (w ∷ t) zero z = ap (λ (b : Bool). if b then 0 else y - w) (eq-eqb x 0 z)
lacking_at (x ∷ v) (y ∷ m) (w ∷ t) (suc i) z = lacking_at v m t i z
lacking_at _ _ _ i z = refl

pub lacking_in : (v m t : List ℕ) (i : ℕ) → length m ≡ length v → length t ≡ length v → InField v i → slice_index (lacking v m t) i ≡ slice_index m i - slice_index t i
unfolding lacking
lacking_in (x ∷ v) (y ∷ m) (w ∷ t) zero e h f = ap (λ (b : Bool). if b then 0 else y - w) (ne_eqb x 0 (λ z. omega (arith, f, z)))
lacking_in (x ∷ v) (y ∷ m) (w ∷ t) (suc i) e h f = lacking_in v m t i (omega arith) (omega arith) f
lacking_in _ _ _ i e h f = absurd (omega arith)

-- it is no more than the minimum, and so are the minima outside the field
pub lacking_low : (v m t : List ℕ) → length m ≡ length v → length t ≡ length v → (i : ℕ) → slice_index (lacking v m t) i ≤ slice_index m i
lacking_low v m t e h i =
    elim (cases_lt 0 (slice_index v i)) [
      | inl f ↦ omega (arith, lacking_in v m t i e h f)
      | inr g ↦ let none : slice_index v i ≡ 0 = omega (arith, g) in omega (arith, lacking_at v m t i none)
    ]

pub outside_low : (v m : List ℕ) → length m ≡ length v → (i : ℕ) → slice_index (outside_minima v m) i ≤ slice_index m i
outside_low v m e i =
    elim (cases_lt 0 (slice_index v i)) [
      | inl f ↦ omega (arith, outside_in v m i f)
      | inr g ↦ let none : slice_index v i ≡ 0 = omega (arith, g) in omega (arith, outside_at v m i e none)
    ]

-- ---- what is missing in all

pub missing : List ℕ → List ℕ → List ℕ → ℕ
missing v m t = sum (lacking v m t)

-- the first ones, where they are all
pub first_missing : (v m t : List ℕ) (n : ℕ) → length (lacking v m t) ≡ n → sum (take n (lacking v m t)) ≡ missing v m t
unfolding missing
first_missing v m t n long = sum_of_all (lacking v m t) n long

module _ (v m : List ℕ) (e : length m ≡ length v) where
  -- where nothing is, the minima are met
  pub none_missing : (t : List ℕ) → length t ≡ length v → missing v m t ≡ 0 → Meets v m t
  unfolding missing
  none_missing t h none i f = omega (arith, lacking_in v m t i e h f, entry_le_sum (lacking v m t) i, none)

  -- where something is, an entry of the field has less than its minimum
  pub some_missing : (t : List ℕ) → length t ≡ length v → 0 < missing v m t → (i : ℕ) × InField v i × (slice_index t i < slice_index m i)
  unfolding missing
  some_missing t h some =
      let found : (i : ℕ) × (slice_index [] i < slice_index (lacking v m t) i) = some_less [] (lacking v m t) some in
      elim (cases_lt 0 (slice_index v found.0)) [
        | inl f ↦ (found.0, f, omega (arith, found.1, lacking_in v m t found.0 e h f))
        | inr g ↦ let none : slice_index v found.0 ≡ 0 = omega (arith, g) in absurd (let more = found.1 in omega (arith, more, lacking_at v m t found.0 none))
      ]

  -- ---- one seat more

  module _ (t u : List ℕ) (i : ℕ) (long : length t ≡ length v) (raised : RaisesEach (i ∷ []) t u) (f : InField v i) where
    long_after : length u ≡ length v
    long_after = raised.same_length ∙ long

    raised_there : slice_index u i ≡ slice_index t i + 1
    raised_there = raised.raised i (Contains-head i [])

    same_elsewhere : (j : ℕ) → ¬ (j ≡ i) → slice_index (lacking v m u) j ≡ slice_index (lacking v m t) j
    same_elsewhere j other =
        elim (cases_lt 0 (slice_index v j)) [
          | inl g ↦ omega (arith, lacking_in v m u j e long_after g, lacking_in v m t j e long g, raised.others j (not_it i j other))
          | inr g ↦ let none : slice_index v j ≡ 0 = omega (arith, g) in lacking_at v m u j none ∙ sym (lacking_at v m t j none)
        ]

    pub one_less_missing : slice_index t i < slice_index m i → missing v m t ≡ missing v m u + 1
    unfolding missing
    one_less_missing short =
        let within : i < length (lacking v m u) = omega (arith, in_range v i f, length-lacking v m u e long_after) in
        let less : slice_index (lacking v m t) i ≡ slice_index (lacking v m u) i + 1 =
        omega (arith, lacking_in v m t i e long f, lacking_in v m u i e long_after f, raised_there, short) in
        sum_one_more (lacking v m u) (lacking v m t) i within (length-lacking v m t e long ∙ sym (length-lacking v m u e long_after)) less
        (λ j other. sym (same_elsewhere j other))

    pub as_much_missing : slice_index m i ≤ slice_index t i → missing v m u ≡ missing v m t
    unfolding missing
    as_much_missing met =
        let here : slice_index (lacking v m u) i ≡ slice_index (lacking v m t) i =
        omega (arith, lacking_in v m t i e long f, lacking_in v m u i e long_after f, raised_there, met) in
        let same : (j : ℕ) → slice_index (lacking v m u) j ≡ slice_index (lacking v m t) j =
        λ j. elim (cases_eq j i) [
          | inl at ↦ subst (λ (n : ℕ). slice_index (lacking v m u) n ≡ slice_index (lacking v m t) n) (sym at) here
          | inr other ↦ same_elsewhere j other
        ] in
        omega (arith, sum_mono (lacking v m u) (lacking v m t) (λ j. omega (arith, same j)), sum_mono (lacking v m t) (lacking v m u) (λ j. omega (arith, same j)))
