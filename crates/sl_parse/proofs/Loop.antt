-- Reading stages one after the other, as a loop does, and conditions likewise.
use Rattle.std.proofs.Common.{◌≡◌, ◌≢◌, ℕ, zero, suc, ◌-◌, ◌+◌, ◌≤◌, true, false, List, [], ◌∷◌, ◌++◌, length, drop, Ok, Err, refl, sym, ap, ◌∙◌, append_assoc, arith}
use Rattle.std.proofs.lemmas.List.{append-nil}
use Rattle.sl_lex.specs.declared.keyword.Keyword.TheVariants as keywords
use Rattle.sl_lex.specs.declared.token.Kind.TheVariants as kinds
use Rattle.sl_lex.specs.declared.token.Token.{Token}
use Rattle.sl_law_meaning.specs.book.Trees.{StageTree}
use Rattle.sl_law_meaning.specs.declared.book.Cond.{Cond}
use Rattle.sl_parse.specs.declared.fault.Cause.TheVariants.{TooManyStages}
use Rattle.sl_parse.specs.declared.fault.Stop.{Stop}
use Rattle.sl_parse.specs.declared.fault.Stop.TheVariants as stops
use Rattle.sl_parse.specs.Faults.{Limits}
use Rattle.sl_parse.specs.inner.Reading.{◌>>=◌, Read, Fails, is_next, taken, read_condition, read_more, read_conditions, read_stage, read_stages}
use Rattle.sl_parse.proofs.ReadsBook.{taken-shorter, read_condition-shorter}

-- what was read before, and what is still read
abbrev pub with_front : {A : Type 0} → List A → Read (List A × List Token) → Read (List A × List Token)
with_front front read = read >>= λ x. Ok (front ++ x.0, x.1)

pub regroup : {A : Type 0} (front : List A) (s : A) (read : Read (List A × List Token)) → with_front front (read >>= λ x. Ok (s ∷ x.0, x.1)) ≡ with_front (front ++ s ∷ []) read
regroup front s (Ok x) = ap (λ (ss : List _). Ok (ss, x.1)) (simp append_assoc)
regroup front s (Err f) = refl

module _ (text : List ℕ) (l : Limits) (all : List Token) (limit i : ℕ) (front : List StageTree) (rest : List Token) (total : Read (List StageTree × List Token)) where
  pub goes_on : (s : StageTree) (after : List Token) → i ≤ limit → i ≢ limit → is_next (kinds.Keyword keywords.Stage) rest ≡ true → read_stage text l rest ≡ Ok (s, after)
      → with_front front (read_stages text l (limit - i) rest) ≡ total → with_front (front ++ s ∷ []) (read_stages text l (limit - (i + 1)) after) ≡ total
  unfolding read_stages
  goes_on s after le ne next h so_far =
      let k : limit - i ≡ suc (limit - (i + 1)) = omega arith in
      let one : with_front front (read_stages text l (limit - i) rest) ≡ with_front (front ++ s ∷ []) (read_stages text l (limit - (i + 1)) after) = rw (k, next, h) (regroup front s (read_stages text l (limit - (i + 1)) after)) in
      sym one ∙ so_far

  pub stops_in : (e : Stop) → i ≤ limit → i ≢ limit → is_next (kinds.Keyword keywords.Stage) rest ≡ true → Fails all e (read_stage text l rest)
      → with_front front (read_stages text l (limit - i) rest) ≡ total → Fails all e total
  unfolding read_stages
  stops_in stops.NoMemory le ne next h so_far = tt
  stops_in (stops.At c r) le ne next h so_far =
      let k : limit - i ≡ suc (limit - (i + 1)) = omega arith in
      let one : with_front front (read_stages text l (limit - i) rest) ≡ Err (c, drop r all) = rw (k, next, h) refl in
      sym so_far ∙ one

  pub stops_full : i ≡ limit → is_next (kinds.Keyword keywords.Stage) rest ≡ true
      → with_front front (read_stages text l (limit - i) rest) ≡ total → total ≡ Err (TooManyStages, rest)
  unfolding read_stages
  stops_full e next so_far =
      let k : limit - i ≡ 0 = omega arith in
      let one : with_front front (read_stages text l (limit - i) rest) ≡ Err (TooManyStages, rest) = rw (k, next) refl in
      sym so_far ∙ one

  pub is_done : is_next (kinds.Keyword keywords.Stage) rest ≡ false
      → with_front front (read_stages text l (limit - i) rest) ≡ total → total ≡ Ok (front, rest)
  unfolding read_stages
  is_done next so_far = sym so_far ∙ ended (limit - i)
    where
      ended : (n : ℕ) → with_front front (read_stages text l n rest) ≡ Ok (front, rest)
      ended zero = rw next (ap (λ (ss : List StageTree). Ok (ss, rest)) (append-nil front))
      ended (suc n) = rw next (ap (λ (ss : List StageTree). Ok (ss, rest)) (append-nil front))

-- ---- conditions

-- so many conditions are read, and more may follow
pub record MayGoOn (front : List Cond) (rest : List Token) (total : Read (List Cond × List Token)) : Type 0 where
  pub fuel : ℕ
  pub enough : length rest ≤ fuel
  pub so_far : with_front front (read_more fuel rest) ≡ total

pub first_read : (ts rest : List Token) (c : Cond) → read_condition ts ≡ Ok (c, rest) → MayGoOn (c ∷ []) rest (read_conditions ts)
unfolding read_conditions
first_read ts rest c e = record { fuel = length rest; enough = omega arith; so_far = rw e refl }

pub first_stops : (all : List Token) (e : Stop) (ts : List Token) → Fails all e (read_condition ts) → Fails all e (read_conditions ts)
unfolding read_conditions
first_stops all stops.NoMemory ts h = tt
first_stops all (stops.At c r) ts h = rw h refl

module _ (all : List Token) (front : List Cond) (rest : List Token) (total : Read (List Cond × List Token)) where
  abbrev IsOr : Type 0
  IsOr = is_next (kinds.Keyword keywords.Or) rest ≡ true

  -- one more step of the reader
  record OneMore : Type 0 where
    fuel : ℕ
    enough : length rest ≤ suc fuel
    so_far : with_front front (taken (kinds.Keyword keywords.Or) rest >>= λ a. read_condition a >>= λ c. read_more fuel c.1 >>= λ cs. Ok (c.0 ∷ cs.0, cs.1)) ≡ total

  one_more : IsOr → MayGoOn front rest total → OneMore
  unfolding read_more
  one_more next g = go g.fuel g.enough g.so_far
    where
      none : (ts : List Token) → length ts ≤ 0 → is_next (kinds.Keyword keywords.Or) ts ≡ true → ⊥
      none [] h k = absurd cc
      none (t ∷ ts) h k = absurd (omega arith)

      go : (fuel : ℕ) → length rest ≤ fuel → with_front front (read_more fuel rest) ≡ total → OneMore
      go zero enough so_far = absurd (none rest enough next)
      go (suc fuel) enough so_far = record { fuel = fuel; enough = enough; so_far = rw next at so_far }

  pub or_goes_on : (a after : List Token) (c : Cond) → IsOr → taken (kinds.Keyword keywords.Or) rest ≡ Ok a → read_condition a ≡ Ok (c, after) → MayGoOn front rest total → MayGoOn (front ++ c ∷ []) after total
  or_goes_on a after c next ha hc g =
      let m = one_more next g in
      let so_far = m.so_far in
      record {
        fuel = m.fuel;
        enough = omega (arith, m.enough, taken-shorter _ rest a ha, read_condition-shorter a c after hc);
        so_far = sym (regroup front c (read_more m.fuel after)) ∙ rw (ha, hc) at so_far;
      }

  pub or_stops : (e : Stop) → IsOr → Fails all e (taken (kinds.Keyword keywords.Or) rest) → MayGoOn front rest total → Fails all e total
  or_stops stops.NoMemory next h g = tt
  or_stops (stops.At c r) next h g = let so_far = (one_more next g).so_far in sym (rw h at so_far)

  pub condition_stops : (e : Stop) (a : List Token) → IsOr → taken (kinds.Keyword keywords.Or) rest ≡ Ok a → Fails all e (read_condition a) → MayGoOn front rest total → Fails all e total
  condition_stops stops.NoMemory a next ha h g = tt
  condition_stops (stops.At c r) a next ha h g = let so_far = (one_more next g).so_far in sym (rw (ha, h) at so_far)

  pub or_is_done : is_next (kinds.Keyword keywords.Or) rest ≡ false → MayGoOn front rest total → total ≡ Ok (front, rest)
  unfolding read_more
  or_is_done next g = sym g.so_far ∙ ended g.fuel
    where
      ended : (n : ℕ) → with_front front (read_more n rest) ≡ Ok (front, rest)
      ended zero = ap (λ (cs : List Cond). Ok (cs, rest)) (append-nil front)
      ended (suc n) = rw next (ap (λ (cs : List Cond). Ok (cs, rest)) (append-nil front))
