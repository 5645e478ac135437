-- A byte order mark at the start of a text.
use Rattle.std.proofs.Common.{◌≡◌, ◌≤◌, ◌-◌, ◌&&◌, ℕ, Bool, true, false, List, [], ◌∷◌, drop, length, nat_eq, refl, sym, ap, ◌∙◌, arith, if◌then◌else◌}
use Rattle.std.specs.Cmp.{nat_eq_equiv}
use Rattle.std.specs.List.{starts_with}
use Rattle.std.proofs.lemmas.List.{length-drop}
use Rattle.csv.specs.Reading.{is_bom, strip_bom}
use Rattle.sl_returns_places.specs.Places.{mark_length}

three_tests : (a b c : Bool) → (a && (b && (c && true))) ≡ ((a && b) && c)
three_tests false b c = refl
three_tests true false c = refl
three_tests true true false = refl
three_tests true true true = refl

abbrev begins_marked : List ℕ → Bool
begins_marked xs = starts_with nat_eq xs (0xEF ∷ 0xBB ∷ 0xBF ∷ [])

same_test : (a b c : ℕ) (rest : List ℕ) → begins_marked (a ∷ b ∷ c ∷ rest) ≡ is_bom a b c
same_test a b c rest =
    three_tests (nat_eq 0xEF a) (nat_eq 0xBB b) (nat_eq 0xBF c) ∙ (λ i. (nat_eq_equiv.symm 0xEF a i && nat_eq_equiv.symm 0xBB b i) && nat_eq_equiv.symm 0xBF c i)

-- a text without the mark is the text
plain : (xs : List ℕ) → begins_marked xs ≡ false → strip_bom xs ≡ xs
unfolding strip_bom
plain [] h = refl
plain (a ∷ []) h = refl
plain (a ∷ b ∷ []) h = refl
plain (a ∷ b ∷ c ∷ rest) h = ap (λ t. if t then rest else a ∷ b ∷ c ∷ rest) (sym (same_test a b c rest) ∙ h)

marked : (xs : List ℕ) → begins_marked xs ≡ true → 3 ≤ length xs → drop 3 xs ≡ strip_bom xs
unfolding strip_bom
marked [] h l = absurd (omega (arith, l))
marked (a ∷ []) h l = absurd (omega (arith, l))
marked (a ∷ b ∷ []) h l = absurd (omega (arith, l))
marked (a ∷ b ∷ c ∷ rest) h l = sym (ap (λ t. if t then rest else a ∷ b ∷ c ∷ rest) (sym (same_test a b c rest) ∙ h))

pub with_mark : (xs : List ℕ) → begins_marked xs ≡ true → 3 ≤ length xs → (3 ≡ mark_length xs) × (drop 3 xs ≡ strip_bom xs)
with_mark xs h l =
    let rest = marked xs h l in
    let left : length (strip_bom xs) ≡ length xs - 3 = ap length (sym rest) ∙ length-drop 3 xs in
    (omega (arith, left, l), rest)

pub without_mark : (xs : List ℕ) → begins_marked xs ≡ false → (0 ≡ mark_length xs) × (xs ≡ strip_bom xs)
without_mark xs h =
    let rest = plain xs h in
    let left : length (strip_bom xs) ≡ length xs = ap length rest in
    (omega (arith, left), sym rest)
