-- The place in a file, and a line with its number and a mark under it, as they are put together from their parts.
use Rattle.std.proofs.Common.{◌≡◌, ◌∙◌, ◌++◌, [], List, ap, append-nil, append_assoc, codes, drop, length, replicate, take, ℕ}
use Rattle.std.specs.Prelude.{max}
use Rattle.sl_explain_texts.specs.Lines.{shown_count}
use Rattle.sl_explain_texts.specs.Pages.{line_shown, part, place}
use Rattle.sl_explain_texts.specs.Shown.{shown}

in_row : (a b c d e f g h : List ℕ) → a ++ (b ++ (c ++ (d ++ (e ++ (f ++ (g ++ (h ++ []))))))) ≡ a ++ b ++ c ++ d ++ e ++ f ++ g ++ h
in_row a b c d e f g h = simp (append_assoc, append-nil)

pub headed : (path number column digits : List ℕ) → column ≡ digits →
    replicate (length number) 32 ++ (codes "--> " ++ (path ++ (codes ":" ++ (number ++ (codes ":" ++ (column ++ (codes "\n" ++ [])))))))
    ≡ replicate (length number) 32 ++ codes "--> " ++ path ++ codes ":" ++ number ++ codes ":" ++ digits ++ codes "\n"
headed path number column digits is =
    in_row (replicate (length number) 32) (codes "--> ") path (codes ":") number (codes ":") column (codes "\n")
    ∙ ap (λ xs. replicate (length number) 32 ++ codes "--> " ++ path ++ codes ":" ++ number ++ codes ":" ++ xs ++ codes "\n") is

-- the line and the mark, where the part that is shown and the place in it are known
abbrev pub numbered : (number p : List ℕ) → List ℕ
numbered number p = replicate (length number) 32 ++ codes " |\n" ++ number ++ codes " | " ++ shown p ++ codes "\n"

abbrev pub mark : (p : List ℕ) (q bytes : ℕ) → List ℕ
mark p q bytes = replicate (shown_count p (take q p)) 32 ++ replicate (max (shown_count p (take bytes (drop q p))) 1) 94 ++ codes "\n"

abbrev line_of : (number p : List ℕ) (q bytes : ℕ) → List ℕ
line_of number p q bytes =
    numbered number p ++ replicate (length number) 32 ++ codes " | " ++ replicate (shown_count p (take q p)) 32 ++ replicate (max (shown_count p (take bytes (drop q p))) 1) 94 ++ codes "\n"

joined : (old a b c d e f : List ℕ) → ((old ++ a) ++ (b ++ c)) ++ (d ++ e ++ f) ≡ old ++ (a ++ b ++ c ++ d ++ e ++ f)
joined old a b c d e f = simp append_assoc

pub marked_line : (old first second number line p : List ℕ) (at q bytes : ℕ) → p ≡ part line at → q ≡ place line at → first ≡ old ++ numbered number p →
    second ≡ first ++ (replicate (length number) 32 ++ codes " | ") → second ++ mark p q bytes ≡ old ++ line_shown number line at bytes
marked_line old first second number line p at q bytes part_is place_is one two =
    ap (λ t. t ++ mark p q bytes) (two ∙ ap (λ t. t ++ (replicate (length number) 32 ++ codes " | ")) one)
    ∙ joined old (numbered number p) (replicate (length number) 32) (codes " | ") (replicate (shown_count p (take q p)) 32) (replicate (max (shown_count p (take bytes (drop q p))) 1) 94) (codes "\n")
    ∙ ap (λ x. old ++ line_of number x q bytes) part_is
    ∙ ap (λ n. old ++ line_of number (part line at) n bytes) place_is
