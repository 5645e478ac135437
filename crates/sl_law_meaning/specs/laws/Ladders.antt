-- Ladders of falling ranks: one theory for divisor methods, largest remainders and covering (docs/methods.md, section 7).
use Rattle.std.specs.Prelude.{◌≡◌, ℕ, ◌+◌, ◌-◌, ◌<◌, ◌≤◌, ◌⊎◌, ◌&&◌, Bool, IsTrue, List, length, sum, slice_index, nat_eq, nat_lt, nat_le, Contains}
use Rattle.sl_base_quotients.specs.declared.method.Divisor.{Divisor}
use Rattle.sl_base_quotients.specs.Quotient.{Quotient, AtMost, Below, quotient}
use Rattle.sl_law_meaning.specs.methods.Field.{no_minima}
use Rattle.sl_law_meaning.specs.methods.Hamilton.{whole, whole_parts, remainder_rank}
use Rattle.sl_law_meaning.specs.methods.Covering.{share}

-- the seats that each entry has before any is awarded (its base), which seats there are for it beyond them, and how each of those
-- ranks: `has i a` and `rank i a` speak of the seat that entry i gets when it holds a
pub record Ladders : Type 0 where
  pub base : List ℕ
  pub has : ℕ → ℕ → Bool
  pub rank : ℕ → ℕ → Quotient

-- there is a next seat for entry i when it holds a
abbrev pub Has : Ladders → ℕ → ℕ → Type 0
Has l i a = IsTrue (l.has i a)

-- what the theory asks: ranks have positive numerators, and from the base on each ladder is without a gap and falls strictly
pub record AreFalling (l : Ladders) : Type 0 where
  pub within : (i a : ℕ) → Has l i a → i < length l.base
  pub positive : (i a : ℕ) → Has l i a → 0 < (l.rank i a).num
  pub no_gap : (i a : ℕ) → slice_index l.base i ≤ a → Has l i (a + 1) → Has l i a
  pub falls : (i a : ℕ) → slice_index l.base i ≤ a → Has l i (a + 1) → Below (l.rank i (a + 1)) (l.rank i a)

-- s has a number for each entry, at least its base, and no seat that does not exist
pub record IsOn (l : Ladders) (s : List ℕ) : Type 0 where
  pub same_length : length s ≡ length l.base
  pub above : (i : ℕ) → slice_index l.base i ≤ slice_index s i
  pub there : (i : ℕ) → slice_index l.base i < slice_index s i → Has l i (slice_index s i - 1)

-- s is a top of the ladders: no next seat ranks higher than the last seat awarded to an entry
pub record IsTop (l : Ladders) (seats : ℕ) (s : List ℕ) : Type 0 where
  pub on : IsOn l s
  pub total : sum s ≡ seats
  pub min_max : (i j : ℕ) → slice_index l.base i < slice_index s i → Has l j (slice_index s j) →
      AtMost (l.rank j (slice_index s j)) (l.rank i (slice_index s i - 1))

-- s is settled: every seat awarded ranks strictly higher than every next one
pub record IsSettled (l : Ladders) (s : List ℕ) : Type 0 where
  pub on : IsOn l s
  pub apart : (i j : ℕ) → slice_index l.base i < slice_index s i → Has l j (slice_index s j) →
      Below (l.rank j (slice_index s j)) (l.rank i (slice_index s i - 1))

-- a peer of s: an entry whose next seat ranks highest
pub record IsPeer (l : Ladders) (s : List ℕ) (i : ℕ) : Type 0 where
  pub next : Has l i (slice_index s i)
  pub greatest : (j : ℕ) → Has l j (slice_index s j) → AtMost (l.rank j (slice_index s j)) (l.rank i (slice_index s i))

-- the ladders have a next seat as long as fewer than so many are given
abbrev pub HasRoom : Ladders → ℕ → Type 0
HasRoom l seats = (s : List ℕ) → IsOn l s → sum s < seats → (i : ℕ) × Has l i (slice_index s i)

-- t is s with one more seat on k of these entries
pub record Raises (entries : List ℕ) (k : ℕ) (s t : List ℕ) : Type 0 where
  pub same_length : length t ≡ length s
  pub each : (i : ℕ) →
      (slice_index t i ≡ slice_index s i) ⊎ (Contains entries i × (slice_index t i ≡ slice_index s i + 1))
  pub total : sum t ≡ sum s + k

-- t is s with one more seat on each of these entries
pub record RaisesEach (entries s t : List ℕ) : Type 0 where
  pub same_length : length t ≡ length s
  pub raised : (i : ℕ) → Contains entries i → slice_index t i ≡ slice_index s i + 1
  pub others : (i : ℕ) → ¬ Contains entries i → slice_index t i ≡ slice_index s i

-- a divisor method: above the minima the entries of the field have all seats, by their quotients
abbrev pub divisor_ladders : Divisor → List ℕ → List ℕ → Ladders
divisor_ladders method v m = record {
  base = m;
  has = λ i a. nat_lt 0 (slice_index v i);
  rank = λ i a. quotient method (slice_index v i) a;
}

-- largest remainders: above its whole part an entry of the field has one seat, by its remainder
abbrev pub hamilton_ladders : Bool → List ℕ → ℕ → Ladders
hamilton_ladders prefer v seats = record {
  base = whole_parts v seats;
  has = λ i a. nat_lt 0 (slice_index v i) && nat_le a (whole v seats i);
  rank = λ i a. remainder_rank prefer v seats i;
}

-- covering: each winner has one place, by the share
abbrev pub covering_ladders : List ℕ → List ℕ → Ladders
covering_ladders first valid = record {
  base = no_minima first;
  has = λ i a. nat_lt i (length first) && nat_eq a 0;
  rank = λ i a. share first valid i;
}
