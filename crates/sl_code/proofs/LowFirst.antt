-- Numbers in several bytes, least first.
use Rattle.std.proofs.Common.{◌≡◌, ℕ, List, ◌++◌, take, drop, sym, ap, ◌∙◌}
use Rattle.std.proofs.lemmas.List.{take-append-drop}

-- the front that was read, and the rest
pub front_read : (k : ℕ) (xs front rest word : List ℕ) → front ≡ take k xs → rest ≡ drop k xs → front ≡ word → xs ≡ word ++ rest
front_read k xs front rest word is_front is_rest is_word =
    sym (take-append-drop k xs) ∙ ap (λ t. t ++ drop k xs) (sym is_front ∙ is_word) ∙ ap (λ t. word ++ t) (sym is_rest)
