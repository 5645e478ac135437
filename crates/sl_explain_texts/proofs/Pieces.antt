-- What is written of a text and what is left of it make the whole, from one piece to the next.
use Rattle.std.proofs.Common.{◌≡◌, ◌∙◌, ◌++◌, [], ◌∷◌, List, ap, append-nil, append_assoc, arith, length, map, sym, ℕ}
use Rattle.std.specs.Char.{encode_utf8}
use Rattle.std.specs.Str.{IsUtf8, chars, encode_utf8_all}
use Rattle.std.proofs.lemmas.Str.{chars-nil, chars_past_char}

pub moved : (whole written more piece left rest : List ℕ) → written ++ left ≡ whole → more ≡ written ++ piece → left ≡ piece ++ rest → more ++ rest ≡ whole
moved whole written more piece left rest so_far step split =
    ap (λ xs. xs ++ rest) step ∙ append_assoc written piece rest ∙ ap (λ xs. written ++ xs) (sym split) ∙ so_far

module _ (f : ℕ → ℕ) where
  -- the characters of a text, each as f gives it
  abbrev pub changed : List ℕ → List ℕ
  changed text = encode_utf8_all (map f (chars text))

  pub changed_next : (text rest : List ℕ) (c : ℕ) → IsUtf8 text → text ≡ encode_utf8 c ++ rest → changed text ≡ encode_utf8 (f c) ++ changed rest
  changed_next text rest c is split = ap (λ cs. encode_utf8_all (map f cs)) (chars_past_char text rest c is split)

  pub changed_none : (whole written text : List ℕ) → length text ≡ 0 → written ++ changed text ≡ whole → written ≡ whole
  changed_none whole written text none so_far = sym (append-nil written) ∙ ap (λ cs. written ++ encode_utf8_all (map f cs)) (sym (nothing text none)) ∙ so_far
    where
      nothing : (text : List ℕ) → length text ≡ 0 → chars text ≡ []
      nothing [] none = chars-nil
      nothing (x ∷ xs) none = absurd (omega (arith, none))
