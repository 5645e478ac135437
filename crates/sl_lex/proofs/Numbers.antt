-- The number that digits spell, digit by digit.
use Rattle.std.proofs.Common.{◌≡◌, ℕ, ◌+◌, ◌*◌, ◌-◌, ◌<◌, ◌≤◌, List, [], ◌∷◌, length, get_or, take, drop, sym, ap, ◌∙◌, arith}
use Rattle.std.specs.List.{fold}
use Rattle.std.proofs.lemmas.List.{take-append-drop}
use Rattle.std.proofs.lemmas.List.Sums.{fold-append, fold_more}
use Rattle.sl_lex.specs.Tokens.{number_of}

-- one more digit
pub number_of_more : (digits : List ℕ) (i : ℕ) → i < length digits → number_of (take (i + 1) digits) ≡ 10 * number_of (take i digits) + (get_or digits i 0 - 48)
number_of_more digits i h = fold_more (λ n b. 10 * n + (b - 48)) 0 digits i 0 h

grows : (a : ℕ) (digits : List ℕ) → a ≤ fold (λ n b. 10 * n + (b - 48)) a digits
grows a [] = omega arith
grows a (b ∷ bytes) = omega (arith, grows (10 * a + (b - 48)) bytes)

-- more digits make no smaller number
pub number_of_front : (digits : List ℕ) (i : ℕ) → number_of (take i digits) ≤ number_of digits
number_of_front digits i =
    let f : ℕ → ℕ → ℕ = λ n b. 10 * n + (b - 48) in
    let whole : fold f (fold f 0 (take i digits)) (drop i digits) ≡ fold f 0 digits = sym (fold-append f 0 (take i digits) (drop i digits)) ∙ ap (fold f 0) (take-append-drop i digits) in
    omega (arith, grows (fold f 0 (take i digits)) (drop i digits), whole)
