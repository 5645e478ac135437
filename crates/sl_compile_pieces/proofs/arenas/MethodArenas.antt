-- The arenas of divisor methods, of largest remainders and of covering.
use Rattle.std.proofs.Common.{◌≡◌, ℕ, ◌+◌, ◌-◌, ◌*◌, ◌/◌, ◌<◌, ◌≤◌, ◌&&◌, Bool, true, false, List, [], ◌∷◌, length, map, All, get_or, sum, refl, sym, ap, ◌∙◌, arith}
use Rattle.std.specs.Prelude.{if◌then◌else◌, nat_lt, nat_le}
use Rattle.std.specs.List.{enumerate_from, AllPairs}
use Rattle.std.specs.List.Sorted.{IsStrictlyIncreasing}
use Rattle.std.proofs.Math.Nat.{mul-le-mul_right}
use Rattle.std.proofs.lemmas.Bool.{ltb-true, and_parts}
use Rattle.std.proofs.lemmas.List.{length-map, get_or-map}
use Rattle.std.proofs.lemmas.List.Elements.{All-cons, All-nil, All-head, All-tail, All-weaker, All-map, All-filter, All-get_or}
use Rattle.std.proofs.lemmas.List.FromFn.{length-enumerate_from, get_or-enumerate_from}
use Rattle.std.proofs.lemmas.List.Kept.{AllPairs-filter}
use Rattle.sl_base_quotients.specs.declared.limits.TheConstants.{MAX_WEIGHT, MAX_SEATS, MAX_VOTES}
use Rattle.sl_base_quotients.specs.declared.method.Divisor.{Divisor}
use Rattle.sl_base_quotients.specs.Quotient.{FitsRatio}
use Rattle.sl_base_quotients.specs.inner.QuotientLaws.{quotient_fits}
use Rattle.sl_law_meaning.specs.declared.election.Win.{Win}
use Rattle.sl_law_meaning.specs.declared.table.Mark.TheVariants as mark
use Rattle.sl_law_meaning.specs.returns.Election.{IsWin}
use Rattle.sl_law_meaning.specs.returns.Facts.{has_eligible_list, is_in, is_of}
use Rattle.sl_law_meaning.specs.meaning.Seating.{winners_of}
use Rattle.sl_law_meaning.specs.methods.Field.{InField, no_minima}
use Rattle.sl_law_meaning.specs.methods.Hamilton.{remainder, is_leading, whole}
use Rattle.sl_law_meaning.specs.methods.LeastHouse.{outside_minima}
use Rattle.sl_law_meaning.proofs.methods.CoveringProofs.{covering_ladders_law}
use Rattle.sl_law_meaning.proofs.methods.DivisorProofs.{divisor_ladders_law, in_range, field_of}
use Rattle.sl_law_meaning.proofs.methods.HouseProofs.{growth_batches}
use Rattle.sl_law_meaning.proofs.methods.HamiltonProofs.{hamilton_ladders_law}
use Rattle.sl_law_meaning.proofs.methods.SeatSums.{length_zeros}
use Rattle.sl_code_instructions.specs.declared.operand.Entries.{Entries}
use Rattle.sl_code_instructions.specs.declared.operand.Ranking.TheVariants as ranking
use Rattle.sl_code_semantics.specs.Effects.{mark_of}
use Rattle.sl_compile_pieces.specs.arenas.Arenas.{IsArena, AreWeighed, divisor_arena, covering_arena}
use Rattle.sl_compile_pieces.specs.arenas.Laws.{DivisorArenas, HamiltonArenas, CoveringArenas}

-- ---- divisor methods

module _ (v places : List ℕ) (are : AreWeighed v places) where
  weight_within : (i : ℕ) → InField v i → get_or v i 0 ≤ MAX_WEIGHT
  weight_within i f = All-get_or (λ weight. weight ≤ MAX_WEIGHT) v i 0 (in_range v i f) are.weights

  divisor_one : (method : Divisor) (entries : Entries) (m : List ℕ) → length m ≡ length v → IsArena MAX_SEATS (divisor_arena method v m entries places)
  divisor_one method entries m same = record {
    falling = (divisor_ladders_law method v m same).falling;
    long = are.numbers ∙ sym same;
    increasing = are.increasing;
    fits = λ i held has few. let f = field_of method v m i held has in quotient_fits method (get_or v i 0) held f (weight_within i f) few;
    marks = λ i held has. refl;
  }

pub divisor_arenas : DivisorArenas
divisor_arenas method v entries places are = record {
  with_minima = divisor_one v places are method entries;
  search = divisor_one v places are method entries (no_minima v) (length_zeros (length v));
  grown = λ m same. divisor_one v places are method entries (outside_minima v m) (growth_batches method v m same).one_each;
}

-- ---- largest remainders

-- each remainder fits, and the infinite rank
rank_fits : (b : Bool) (r : ℕ) → r ≤ MAX_SEATS * MAX_WEIGHT → FitsRatio (if b then record { num = 1; den = 0 } else record { num = r + 1; den = 1 })
rank_fits true r h = record { positive = omega arith; num = omega arith; den = omega arith }
rank_fits false r h = record { positive = omega arith; num = omega arith; den = omega arith }

rank_mark : (b : Bool) (r : ℕ) → mark_of ranking.Remainders (if b then record { num = 1; den = 0 } else record { num = r + 1; den = 1 }) ≡ (if b then mark.Lead else mark.Rest r)
rank_mark true r = refl
rank_mark false r = let same : r + 1 - 1 ≡ r = omega arith in ap mark.Rest same

module _ (prefer : Bool) (v : List ℕ) (seats : ℕ) (places : List ℕ) (are : AreWeighed v places) (few : seats ≤ MAX_SEATS) where
  remainder_within : (i : ℕ) → InField v i → remainder v seats i ≤ MAX_SEATS * MAX_WEIGHT
  remainder_within i f =
      omega (arith, weight_within v places are i f, mul-le-mul_right (get_or v i 0) few)

pub hamilton_arenas : HamiltonArenas
hamilton_arenas prefer v seats entries places are few most = record {
  falling = (hamilton_ladders_law prefer v seats).falling;
  long = are.numbers ∙ sym (length-map v (λ x. seats * x / sum v));
  increasing = are.increasing;
  fits = λ i held has low.
      let f : InField v i = ltb-true 0 (get_or v i 0) (and_parts (nat_lt 0 (get_or v i 0)) (nat_le held (whole v seats i)) has).0 in
      rank_fits (prefer && is_leading v seats i) (remainder v seats i) (remainder_within prefer v seats places are few i f);
  marks = λ i held has. rank_mark (prefer && is_leading v seats i) (remainder v seats i);
}

-- ---- covering

numbered_wins : (n lands parties : ℕ) (wins : List Win) → All (IsWin lands parties) wins → All (λ x. IsWin lands parties x.1) (enumerate_from n wins)
numbered_wins n lands parties [] each = All-nil (λ x. IsWin lands parties x.1)
numbered_wins n lands parties (w ∷ wins) each =
    All-cons (λ x. IsWin lands parties x.1) (n, w) (enumerate_from (n + 1) wins) (All-head (IsWin lands parties) w wins each)
    (numbered_wins (n + 1) lands parties wins (All-tail (IsWin lands parties) w wins each))

numbers_rise : (wins : List Win) → AllPairs (λ (x y : ℕ × Win). x.0 < y.0) (enumerate_from 0 wins)
numbers_rise wins i j d less within =
    let long = length-enumerate_from 0 wins in
    let here = ap (λ (x : ℕ × Win). x.0) (get_or-enumerate_from 0 wins i d (omega (arith, long, less, within))) in
    let there = ap (λ (x : ℕ × Win). x.0) (get_or-enumerate_from 0 wins j d (omega (arith, long, within))) in
    omega (arith, here, there, less)

numbers_increase : (xs : List (ℕ × Win)) → AllPairs (λ x y. x.0 < y.0) xs → IsStrictlyIncreasing (map (λ x. x.0) xs)
numbers_increase [] rise k l = absurd (omega arith)
numbers_increase (x ∷ xs) rise k l =
    let long = length-map (x ∷ xs) (λ (y : ℕ × Win). y.0) in
    let here = get_or-map (λ (y : ℕ × Win). y.0) (x ∷ xs) k x 0 (omega (arith, long, l)) in
    let next = get_or-map (λ (y : ℕ × Win). y.0) (x ∷ xs) (k + 1) x 0 (omega (arith, long, l)) in
    omega (arith, here, next, rise k (k + 1) x (omega arith) (omega (arith, long, l)))

module _ (lands parties : ℕ) (won : List (ℕ × Win)) (each : All (λ x. IsWin lands parties x.1) won) where
  firsts : List ℕ
  firsts = map (λ x. x.1.first) won

  valids : List ℕ
  valids = map (λ x. x.1.valid) won

  first_within : (i : ℕ) → i < length firsts → (1 ≤ get_or firsts i 0) × (get_or firsts i 0 ≤ MAX_VOTES)
  unfolding firsts
  first_within i l =
      let P : ℕ → Type 0 = λ n. (1 ≤ n) × (n ≤ MAX_VOTES) in
      All-get_or P (map (λ x. x.1.first) won) i 0 l
      (All-map P (λ x. x.1.first) won (All-weaker (λ x. IsWin lands parties x.1) (λ x. P x.1.first) (λ x is. (is.least, (let a = is.most in let b = is.valid in omega (arith, a, b)))) won each))

  valid_within : (i : ℕ) → i < length valids → get_or valids i 0 ≤ MAX_VOTES
  unfolding valids
  valid_within i l =
      let P : ℕ → Type 0 = λ n. n ≤ MAX_VOTES in
      All-get_or P (map (λ x. x.1.valid) won) i 0 l (All-map P (λ x. x.1.valid) won (All-weaker (λ x. IsWin lands parties x.1) (λ x. P x.1.valid) (λ x is. is.valid) won each))

  winners_arena : AllPairs (λ x y. x.0 < y.0) won → (most : ℕ) → IsArena most (covering_arena won)
  unfolding firsts valids
  winners_arena rise most =
      let fall = (covering_ladders_law firsts valids (λ i l. (first_within i l).0)).falling in
      let long_firsts = length-map won (λ x. x.1.first) in
      let long_valids = length-map won (λ x. x.1.valid) in
      let zeros = length_zeros (length firsts) in
      record {
        falling = fall;
        long = omega (arith, long_firsts, length-map won (λ x. x.0), zeros);
        increasing = numbers_increase won rise;
        fits = λ i held has low.
            let l = fall.within i held has in
            let first = first_within i (omega (arith, l, zeros)) in
            let valid = valid_within i (omega (arith, l, zeros, long_firsts, long_valids)) in
            record { positive = first.0; num = omega arith; den = omega (arith, valid) };
        marks = λ i held has. refl;
      }

pub covering_arenas : CoveringArenas
covering_arenas eligible e is land party most =
    let listed : ℕ × Win → Bool = λ x. has_eligible_list eligible e x.1 && (is_in land x.1 && is_of party x.1) in
    let lands = length e.land_names in
    let parties = length e.party_names in
    winners_arena lands parties (winners_of eligible e land party)
    (All-filter listed (λ x. IsWin lands parties x.1) (enumerate_from 0 e.wins) (numbered_wins 0 lands parties e.wins is.places))
    (AllPairs-filter (λ x y. x.0 < y.0) listed (enumerate_from 0 e.wins) (numbers_rise e.wins)) most
