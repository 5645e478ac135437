-- Parts of a file that stand or fail in one way alone.
use Rattle.std.proofs.Common.{◌≡◌, ℕ, ◌<◌, ◌≤◌, Bool, true, false, List, [], ◌∷◌, ◌++◌, length, flat_map, IsTrue, MatchBool, ◌⊎◌, inl, inr, refl, sym, subst, ◌∙◌, arith, append_assoc}
use Rattle.std.specs.List.{All}
use Rattle.std.proofs.lemmas.List.Elements.{All-head, All-tail}
use Rattle.sl_code.specs.declared.fault.Stop.{Stop}
use Rattle.sl_code.specs.Faults.{FailsFrom, FailsTests, FailsElement, FailsList, in_count, in_element}

-- a count, and so many elements, in front of the rest
pub record StandsList {X : Type 0} (count_bytes : ℕ → List ℕ) (most : ℕ) (f : X → List ℕ) (Is : X → Type 0) (here rest : List ℕ) : Type 0 where
  pub elements : List X
  pub are : All Is elements
  pub few : length elements ≤ most
  pub stand : here ≡ count_bytes (length elements) ++ (flat_map f elements ++ rest)

-- a part stands or fails in one way alone
pub record OneWay (Stands : List ℕ → List ℕ → Type 0) (Fails : List ℕ → Stop → Type 0) : Type 0 where
  pub same : (here r s : List ℕ) → Stands here r → Stands here s → r ≡ s
  pub none : (here r : List ℕ) (stop : Stop) → Stands here r → Fails here stop → ⊥
  pub one : (here : List ℕ) (a b : Stop) → Fails here a → Fails here b → a ≡ b

-- ---- tests

from_one : (wrong : List ℕ → Stop) (tests : List (ℕ → Bool)) (here : List ℕ) (a b : Stop) → FailsFrom wrong tests here a → FailsFrom wrong tests here b → a ≡ b
from_one wrong [] here a b f g = absurd f
from_one wrong (test ∷ tests) [] a b f g = f ∙ sym g
from_one wrong (test ∷ tests) (x ∷ rest) a b f g =
    elim (test x) as (λ v. MatchBool v (FailsFrom wrong tests rest a) (a ≡ wrong (x ∷ rest)) → MatchBool v (FailsFrom wrong tests rest b) (b ≡ wrong (x ∷ rest)) → a ≡ b) [
      | true ↦ λ p q. from_one wrong tests rest a b p q
      | false ↦ λ p q. p ∙ sym q
    ] f g

pub tests_one : (wrong : List ℕ → Stop) (tests : List (ℕ → Bool)) (here : List ℕ) (a b : Stop) → FailsTests wrong tests here a → FailsTests wrong tests here b → a ≡ b
tests_one wrong tests here a b f g = from_one wrong tests here a b f.fails g.fails

-- what fails after a byte that passes
pub passed : (wrong : List ℕ → Stop) (test : ℕ → Bool) (tests : List (ℕ → Bool)) (x : ℕ) (rest : List ℕ) (stop : Stop) → IsTrue (test x)
    → FailsTests wrong (test ∷ tests) (x ∷ rest) stop → FailsTests wrong tests rest stop
passed wrong test tests x rest stop passes failing =
    let Fails : Bool → Type 0 = λ v. MatchBool v (FailsFrom wrong tests rest stop) (stop ≡ wrong (x ∷ rest)) in
    record { fails = subst Fails passes failing.fails }

-- ---- elements

module _ {X : Type 0} (f : X → List ℕ) (Is : X → Type 0) (Fails : List ℕ → Stop → Type 0)
    (same : (x y : X) (r s : List ℕ) → f x ++ r ≡ f y ++ s → r ≡ s)
    (none : (x : X) (r : List ℕ) (stop : Stop) → Is x → Fails (f x ++ r) stop → ⊥)
    (one : (here : List ℕ) (a b : Stop) → Fails here a → Fails here b → a ≡ b) where
  step : (x : X) (xs : List X) (here rest : List ℕ) → here ≡ flat_map f (x ∷ xs) ++ rest → here ≡ f x ++ (flat_map f xs ++ rest)
  step x xs here rest e = e ∙ append_assoc (f x) (flat_map f xs) rest

  -- of as many elements
  stand_one : (xs ys : List X) (here r s : List ℕ) → length xs ≡ length ys → here ≡ flat_map f xs ++ r → here ≡ flat_map f ys ++ s → r ≡ s
  stand_one [] [] here r s e p q = sym p ∙ q
  stand_one [] (y ∷ ys) here r s e p q = absurd (omega (arith, e))
  stand_one (x ∷ xs) [] here r s e p q = absurd (omega (arith, e))
  stand_one (x ∷ xs) (y ∷ ys) here r s e p q =
      let tails : flat_map f xs ++ r ≡ flat_map f ys ++ s = same x y _ _ (sym (step x xs here r p) ∙ step y ys here s q) in
      stand_one xs ys (flat_map f xs ++ r) r s (omega (arith, e)) refl tails

  fail_none : (n : ℕ) (xs ys : List X) (here r s : List ℕ) (stop : Stop) → length xs < length ys → All Is ys → here ≡ flat_map f xs ++ r → here ≡ flat_map f ys ++ s → Fails r stop → ⊥
  fail_none n xs [] here r s stop fewer are p q failing = absurd (omega (arith, fewer))
  fail_none n [] (y ∷ ys) here r s stop fewer are p q failing =
      none y (flat_map f ys ++ s) stop (All-head Is y ys are) (subst (λ (h : List ℕ). Fails h stop) (sym p ∙ step y ys here s q) failing)
  fail_none n (x ∷ xs) (y ∷ ys) here r s stop fewer are p q failing =
      let tails : flat_map f xs ++ r ≡ flat_map f ys ++ s = same x y _ _ (sym (step x xs here r p) ∙ step y ys here s q) in
      fail_none n xs ys (flat_map f xs ++ r) r s stop (omega (arith, fewer)) (All-tail Is y ys are) refl tails failing

  fail_one : (xs ys : List X) (here r s : List ℕ) (a b : Stop) → All Is xs → All Is ys → here ≡ flat_map f xs ++ r → here ≡ flat_map f ys ++ s → Fails r a → Fails s b → a ≡ b
  fail_one [] [] here r s a b are_x are_y p q first second =
      one r a b first (subst (λ (h : List ℕ). Fails h b) (sym q ∙ p) second)
  fail_one [] (y ∷ ys) here r s a b are_x are_y p q first second =
      absurd (none y (flat_map f ys ++ s) a (All-head Is y ys are_y) (subst (λ (h : List ℕ). Fails h a) (sym p ∙ step y ys here s q) first))
  fail_one (x ∷ xs) [] here r s a b are_x are_y p q first second =
      absurd (none x (flat_map f xs ++ r) b (All-head Is x xs are_x) (subst (λ (h : List ℕ). Fails h b) (sym q ∙ step x xs here r p) second))
  fail_one (x ∷ xs) (y ∷ ys) here r s a b are_x are_y p q first second =
      let tails : flat_map f xs ++ r ≡ flat_map f ys ++ s = same x y _ _ (sym (step x xs here r p) ∙ step y ys here s q) in
      fail_one xs ys (flat_map f xs ++ r) r s a b (All-tail Is x xs are_x) (All-tail Is y ys are_y) refl tails first second

  element_none : (n : ℕ) (ys : List X) (here s : List ℕ) (stop : Stop) → length ys ≡ n → All Is ys → here ≡ flat_map f ys ++ s → FailsElement f Is Fails n here stop → ⊥
  element_none n ys here s stop all are q failing =
      fail_none n failing.before ys here failing.rest s stop (omega (arith, all, failing.fewer)) are failing.stand q failing.fails

  element_one : (n : ℕ) (here : List ℕ) (a b : Stop) → FailsElement f Is Fails n here a → FailsElement f Is Fails n here b → a ≡ b
  element_one n here a b first second =
      fail_one first.before second.before here first.rest second.rest a b first.are second.are first.stand second.stand first.fails second.fails

-- ---- one part after another

abbrev pub Both : (Stands Then : List ℕ → List ℕ → Type 0) → List ℕ → List ℕ → Type 0
Both Stands Then here rest = (mid : List ℕ) × Stands here mid × Then mid rest

-- a part fails, or it stands and what is after it fails
abbrev pub Sequence : (Stands : List ℕ → List ℕ → Type 0) (Fails Behind : List ℕ → Stop → Type 0) → List ℕ → Stop → Type 0
Sequence Stands Fails Behind here stop = Fails here stop ⊎ ((rest : List ℕ) × Stands here rest × Behind rest stop)

module _ {Stands Then : List ℕ → List ℕ → Type 0} {Fails Behind : List ℕ → Stop → Type 0} (first : OneWay Stands Fails) (second : OneWay Then Behind) where
  both_same : (here r s : List ℕ) → Both Stands Then here r → Both Stands Then here s → r ≡ s
  both_same here r s a b = second.same a.0 r s a.2 (subst (λ (h : List ℕ). Then h s) (first.same here b.0 a.0 b.1 a.1) b.2)

  sequence_none : (here r : List ℕ) (stop : Stop) → Both Stands Then here r → Sequence Stands Fails Behind here stop → ⊥
  sequence_none here r stop a (inl failing) = first.none here a.0 stop a.1 failing
  sequence_none here r stop a (inr later) =
      second.none a.0 r stop a.2 (subst (λ (h : List ℕ). Behind h stop) (first.same here later.0 a.0 later.1 a.1) later.2)

  sequence_one : (here : List ℕ) (a b : Stop) → Sequence Stands Fails Behind here a → Sequence Stands Fails Behind here b → a ≡ b
  sequence_one here a b (inl f) (inl g) = first.one here a b f g
  sequence_one here a b (inl f) (inr g) = absurd (first.none here g.0 a g.1 f)
  sequence_one here a b (inr f) (inl g) = absurd (first.none here f.0 b f.1 g)
  sequence_one here a b (inr f) (inr g) = second.one f.0 a b f.2 (subst (λ (h : List ℕ). Behind h b) (first.same here g.0 f.0 g.1 f.1) g.2)

  pub sequence : OneWay (Both Stands Then) (Sequence Stands Fails Behind)
  sequence = record { same = both_same; none = sequence_none; one = sequence_one }

-- ---- a count, and so many elements

module _ {X : Type 0} (count_bytes : ℕ → List ℕ) (FailsCounting : ℕ → List ℕ → Stop → Type 0) (most : ℕ) (f : X → List ℕ) (Is : X → Type 0) (Fails : List ℕ → Stop → Type 0)
    (count_same : (n m : ℕ) (r s : List ℕ) → n ≤ most → m ≤ most → count_bytes n ++ r ≡ count_bytes m ++ s → (n ≡ m) × (r ≡ s))
    (count_none : (n : ℕ) (r : List ℕ) (stop : Stop) → n ≤ most → FailsCounting most (count_bytes n ++ r) stop → ⊥)
    (count_one : (here : List ℕ) (a b : Stop) → FailsCounting most here a → FailsCounting most here b → a ≡ b)
    (same : (x y : X) (r s : List ℕ) → f x ++ r ≡ f y ++ s → r ≡ s)
    (none : (x : X) (r : List ℕ) (stop : Stop) → Is x → Fails (f x ++ r) stop → ⊥)
    (one : (here : List ℕ) (a b : Stop) → Fails here a → Fails here b → a ≡ b) where
  list_same : (here r s : List ℕ) → StandsList count_bytes most f Is here r → StandsList count_bytes most f Is here s → r ≡ s
  list_same here r s a b =
      let both : (length a.elements ≡ length b.elements) × (flat_map f a.elements ++ r ≡ flat_map f b.elements ++ s) = count_same (length a.elements) (length b.elements) _ _ a.few b.few (sym a.stand ∙ b.stand) in
      stand_one f Is Fails same none one a.elements b.elements (flat_map f a.elements ++ r) r s both.0 refl both.1

  list_none : (here r : List ℕ) (stop : Stop) → StandsList count_bytes most f Is here r → FailsList count_bytes FailsCounting most f Is Fails here stop → ⊥
  list_none here r stop a (in_count failing) =
      count_none (length a.elements) _ stop a.few (subst (λ (h : List ℕ). FailsCounting most h stop) a.stand failing)
  list_none here r stop a (in_element n rest stands few failing) =
      let both : (n ≡ length a.elements) × (rest ≡ flat_map f a.elements ++ r) = count_same n (length a.elements) _ _ few a.few (sym stands ∙ a.stand) in
      element_none f Is Fails same none one n a.elements rest r stop (sym both.0) a.are both.1 failing

  list_one : (here : List ℕ) (a b : Stop) → FailsList count_bytes FailsCounting most f Is Fails here a → FailsList count_bytes FailsCounting most f Is Fails here b → a ≡ b
  list_one here a b (in_count x) (in_count y) = count_one here a b x y
  list_one here a b (in_count x) (in_element n rest stands few failing) =
      absurd (count_none n rest a few (subst (λ (h : List ℕ). FailsCounting most h a) stands x))
  list_one here a b (in_element n rest stands few failing) (in_count y) =
      absurd (count_none n rest b few (subst (λ (h : List ℕ). FailsCounting most h b) stands y))
  list_one here a b (in_element n rest stands few x) (in_element m rest' stands' few' y) =
      let both : (m ≡ n) × (rest' ≡ rest) = count_same m n _ _ few' few (sym stands' ∙ stands) in
      let moved : FailsElement f Is Fails n rest' b = subst (λ (k : ℕ). FailsElement f Is Fails k rest' b) both.0 y in
      element_one f Is Fails same none one n rest a b x (subst (λ (h : List ℕ). FailsElement f Is Fails n h b) both.1 moved)

  pub list_way : OneWay (StandsList count_bytes most f Is) (FailsList count_bytes FailsCounting most f Is Fails)
  list_way = record { same = list_same; none = list_none; one = list_one }
