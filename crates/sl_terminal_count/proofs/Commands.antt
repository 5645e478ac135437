-- Words of another command ask for nothing.
use Rattle.std.proofs.Common.{Global, List, None, String, length, map, string_bytes, ℕ, [], ◌∷◌, ◌≡◌, ◌≤◌, ◌<◌, false, arith, rules, codes, ap, ◌∙◌}
use Rattle.std.proofs.lemmas.Slice.Eq.{bytes_eq-Decides}
use Rattle.std.specs.Str.{bytes_eq}
use Rattle.sl_terminal_count.specs.Words.{asked}
use lib.ListN.{get_or}

differ : (xs ys : List ℕ) → (xs ≡ ys → ⊥) → bytes_eq xs ys ≡ false
differ xs ys other = search (rules, bytes_eq-Decides)

pub four_refused : (ws : List (String Global)) (command : String Global) → 4 ≤ length ws → length ws < 5 → command ≡ get_or ws 1 command
    → (string_bytes command ≡ codes "count" → ⊥) → (string_bytes command ≡ codes "steps" → ⊥) → None ≡ asked (map string_bytes ws)
four_refused [] command low high is other another = absurd (omega (arith, low))
four_refused (a ∷ []) command low high is other another = absurd (omega (arith, low))
four_refused (a ∷ b ∷ []) command low high is other another = absurd (omega (arith, low))
four_refused (a ∷ b ∷ c ∷ []) command low high is other another = absurd (omega (arith, low))
four_refused (a ∷ b ∷ c ∷ d ∷ []) command low high is other another =
    let first = differ (string_bytes b) (codes "count") (λ e. other (ap string_bytes is ∙ e)) in
    let second = differ (string_bytes b) (codes "steps") (λ e. another (ap string_bytes is ∙ e)) in
    grind rules
four_refused (a ∷ b ∷ c ∷ d ∷ e ∷ ws) command low high is other another = absurd (omega (arith, high))

pub five_refused : (ws : List (String Global)) (command : String Global) → 5 ≤ length ws → length ws < 6 → command ≡ get_or ws 1 command
    → (string_bytes command ≡ codes "stage" → ⊥) → None ≡ asked (map string_bytes ws)
five_refused [] command low high is other = absurd (omega (arith, low))
five_refused (a ∷ []) command low high is other = absurd (omega (arith, low))
five_refused (a ∷ b ∷ []) command low high is other = absurd (omega (arith, low))
five_refused (a ∷ b ∷ c ∷ []) command low high is other = absurd (omega (arith, low))
five_refused (a ∷ b ∷ c ∷ d ∷ []) command low high is other = absurd (omega (arith, low))
five_refused (a ∷ b ∷ c ∷ d ∷ e ∷ []) command low high is other =
    let first = differ (string_bytes b) (codes "stage") (λ e. other (ap string_bytes is ∙ e)) in
    grind rules
five_refused (a ∷ b ∷ c ∷ d ∷ e ∷ f ∷ ws) command low high is other = absurd (omega (arith, high))
