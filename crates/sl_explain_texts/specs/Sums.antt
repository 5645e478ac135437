-- What a row of sums is called, in returns and in tables from which they are made (docs/returns.md, section 7).
use Rattle.std.specs.List.{list_any}
use Rattle.std.specs.Prelude.{Bool, List, [], codes, ◌∷◌, ℕ}
use Rattle.std.specs.Str.{str_eq_ignore_ascii_case}

abbrev pub sum_words : List (List ℕ)
sum_words =
    codes "total" ∷ codes "totals" ∷ codes "sum" ∷ codes "summe" ∷ codes "summen" ∷ codes "gesamt" ∷ codes "insgesamt"
    ∷ codes "zusammen" ∷ codes "alle" ∷ codes "all" ∷ codes "bund" ∷ codes "bundesgebiet" ∷ codes "deutschland" ∷ []

-- a name, in capital or in small letters, is such a word
abbrev pub is_sum : List ℕ → Bool
is_sum name = list_any (str_eq_ignore_ascii_case name) sum_words
