-- Bytes against tests: they pass, or they fail.
use Rattle.std.proofs.Common.{◌≡◌, ℕ, zero, suc, ◌<◌, Bool, true, false, List, [], ◌∷◌, ◌++◌, length, get_or, replicate, IsTrue, MatchBool, ◌⊎◌, inl, inr, refl, sym, ap, subst, arith}
use Rattle.std.specs.List.{All, list_all}
use Rattle.std.proofs.lemmas.Bool.{and_from, and_parts}
use Rattle.std.proofs.lemmas.List.Elements.{All-head, All-tail}
use Rattle.sl_code.specs.declared.fault.Cause.TheVariants as causes
use Rattle.sl_code.specs.declared.fault.Stop.{Stop}
use Rattle.sl_code.specs.Faults.{FailsFrom, FailsTests, IsAny, stop_at}
use Rattle.sl_code.specs.Laws.{IsByte}
use Rattle.sl_code.proofs.Determined.{passed}
use Rattle.sl_code.proofs.Failing.{pass}

-- there is a byte for each test, which passes it and is as P says
abbrev pub Passes : (ℕ → Type 0) → List (ℕ → Bool) → List ℕ → Type 0
Passes P [] [] = Unit {0}
Passes P [] (b ∷ bytes) = ⊥
Passes P (test ∷ tests) [] = ⊥
Passes P (test ∷ tests) (b ∷ bytes) = IsTrue (test b) × P b × Passes P tests bytes

-- bytes that pass stand in front of the rest
pub record Passed (tests : List (ℕ → Bool)) (here : List ℕ) : Type 0 where
  pub front : List ℕ
  pub rest : List ℕ
  pub stands : here ≡ front ++ rest
  pub passes : Passes IsByte tests front
  pub are_bytes : All IsByte rest

module _ (wrong : List ℕ → Stop) where
  abbrev pub PassOrFail : List (ℕ → Bool) → List ℕ → Type 0
  PassOrFail tests here = Passed tests here ⊎ ((stop : Stop) × FailsTests wrong tests here stop)

  over : (test : ℕ → Bool) (tests : List (ℕ → Bool)) (b : ℕ) (rest : List ℕ) → IsByte b → (passes : Bool) → test b ≡ passes → PassOrFail tests rest → PassOrFail (test ∷ tests) (b ∷ rest)
  over test tests b rest is true e (inl p) =
      inl (record { front = b ∷ p.front; rest = p.rest; stands = ap (λ t. b ∷ t) p.stands; passes = (e, is, p.passes); are_bytes = p.are_bytes })
  over test tests b rest is true e (inr f) = inr (f.0, pass wrong test tests b (b ∷ rest) rest f.0 refl e f.1)
  over test tests b rest is false e later =
      let stop : Stop = wrong (b ∷ rest) in
      inr (stop, record { fails = subst (λ v. MatchBool v (FailsFrom wrong tests rest stop) (stop ≡ stop)) (sym e) refl })

  pub pass_or_fail : (tests : List (ℕ → Bool)) (here : List ℕ) → All IsByte here → PassOrFail tests here
  pass_or_fail [] here are = inl (record { front = []; rest = here; stands = refl; passes = tt; are_bytes = are })
  pass_or_fail (test ∷ tests) [] are = inr (stop_at causes.Short [], record { fails = refl })
  pass_or_fail (test ∷ tests) (b ∷ rest) are =
      over test tests b rest (All-head IsByte b rest are) (test b) refl (pass_or_fail tests rest (All-tail IsByte b rest are))

-- ---- bytes that pass

pub all_passes : (test : ℕ → Bool) (bytes : List ℕ) → IsTrue (list_all test bytes) → Passes IsAny (replicate (length bytes) test) bytes
all_passes test [] passes = tt
all_passes test (b ∷ bytes) passes =
    let both : IsTrue (test b) × IsTrue (list_all test bytes) = and_parts (test b) (list_all test bytes) passes in
    (both.0, tt, all_passes test bytes both.1)

pub joined : (tests more : List (ℕ → Bool)) (front back : List ℕ) → Passes IsAny tests front → Passes IsAny more back → Passes IsAny (tests ++ more) (front ++ back)
joined [] more [] back p q = q
joined [] more (b ∷ front) back p q = absurd p
joined (test ∷ tests) more [] back p q = absurd p
joined (test ∷ tests) more (b ∷ front) back p q = (p.0, p.1, joined tests more front back p.2 q)

-- only what is after them fails
module _ (wrong : List ℕ → Stop) where
  pub fails_over : (tests more : List (ℕ → Bool)) (front rest : List ℕ) (stop : Stop) → Passes IsAny tests front → FailsTests wrong more rest stop → FailsTests wrong (tests ++ more) (front ++ rest) stop
  fails_over [] more [] rest stop p f = f
  fails_over [] more (b ∷ front) rest stop p f = absurd p
  fails_over (test ∷ tests) more [] rest stop p f = absurd p
  fails_over (test ∷ tests) more (b ∷ front) rest stop p f =
      pass wrong test (tests ++ more) b (b ∷ front ++ rest) (front ++ rest) stop refl p.0 (fails_over tests more front rest stop p.2 f)

  pub none_fails : (tests : List (ℕ → Bool)) (front rest : List ℕ) (stop : Stop) → Passes IsAny tests front → FailsTests wrong tests (front ++ rest) stop → ⊥
  none_fails [] front rest stop p f = f.fails
  none_fails (test ∷ tests) [] rest stop p f = absurd p
  none_fails (test ∷ tests) (b ∷ front) rest stop p f = none_fails tests front rest stop p.2 (passed wrong test tests b (front ++ rest) stop p.0 f)

-- the bytes that pass the first tests, and those after them
pub record Parted (tests more : List (ℕ → Bool)) (bytes : List ℕ) : Type 0 where
  pub front : List ℕ
  pub back : List ℕ
  pub whole : bytes ≡ front ++ back
  pub passes : Passes IsByte tests front
  pub later : Passes IsByte more back

pub parted : (tests more : List (ℕ → Bool)) (bytes : List ℕ) → Passes IsByte (tests ++ more) bytes → Parted tests more bytes
parted [] more bytes p = record { front = []; back = bytes; whole = refl; passes = tt; later = p }
parted (test ∷ tests) more [] p = absurd p
parted (test ∷ tests) more (b ∷ bytes) p =
    let q : Parted tests more bytes = parted tests more bytes p.2 in
    record { front = b ∷ q.front; back = q.back; whole = ap (λ t. b ∷ t) q.whole; passes = (p.0, p.1, q.passes); later = q.later }

pub one_passes : (test : ℕ → Bool) (bytes : List ℕ) → Passes IsByte (test ∷ []) bytes → (b : ℕ) × (bytes ≡ b ∷ []) × IsTrue (test b)
one_passes test [] p = absurd p
one_passes test (b ∷ []) p = (b, refl, p.0)
one_passes test (b ∷ c ∷ bytes) p = absurd p.2

pub all_pass : (n : ℕ) (test : ℕ → Bool) (bytes : List ℕ) → Passes IsByte (replicate n test) bytes → (length bytes ≡ n) × IsTrue (list_all test bytes)
all_pass zero test [] p = (refl, refl)
all_pass zero test (b ∷ bytes) p = absurd p
all_pass (suc n) test [] p = absurd p
all_pass (suc n) test (b ∷ bytes) p =
    let q : (length bytes ≡ n) × IsTrue (list_all test bytes) = all_pass n test bytes p.2 in
    (ap suc q.0, and_from (test b) (list_all test bytes) p.0 q.1)

pub as_many : (tests : List (ℕ → Bool)) (bytes : List ℕ) → Passes IsByte tests bytes → length bytes ≡ length tests
as_many [] [] p = refl
as_many [] (b ∷ bytes) p = absurd p
as_many (test ∷ tests) [] p = absurd p
as_many (test ∷ tests) (b ∷ bytes) p = ap suc (as_many tests bytes p.2)

pub each_small : (tests : List (ℕ → Bool)) (bytes : List ℕ) → Passes IsByte tests bytes → (i : ℕ) → get_or bytes i 0 < 256
each_small tests [] p i = omega arith
each_small [] (b ∷ bytes) p i = absurd p
each_small (test ∷ tests) (b ∷ bytes) p zero = p.1
each_small (test ∷ tests) (b ∷ bytes) p (suc i) = each_small tests bytes p.2 i
