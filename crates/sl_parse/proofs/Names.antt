-- The bytes of a name are a word.
use Rattle.std.proofs.Common.{◌≡◌, ℕ, zero, suc, ◌≤◌, Bool, true, List, [], ◌∷◌, length, drop, refl, inl, inr}
use Rattle.std.proofs.Math.Bool.{Bool-set}
use Rattle.std.proofs.Math.Logic.{∥∥₁_elim}
use Rattle.std.proofs.lemmas.Bool.{and_from, le-leb, or_left, or_right}
use Rattle.std.proofs.Math.Seq.{drop-nil}
use Rattle.std.specs.Prelude.{IsTrue, ◌||◌, nat_eq}
use Rattle.std.specs.List.{AllByRecursion, list_all}
use Rattle.sl_lex.specs.declared.token.Kind.TheVariants as kinds
use Rattle.sl_lex.specs.declared.token.Token.{Token}
use Rattle.sl_lex.specs.Pieces.{IsLetter, IsWordByte, IsPiece, word}
use Rattle.sl_parse.specs.Spans.{bytes_of, FitsKind, IsSpan, AreSpans}
use Rattle.sl_base_quotients.specs.declared.spelling.TheConstants.{MAX_NAME_BYTES}
use Rattle.sl_base_terms.specs.Words.{is_letter, is_digit, is_word}

letter : (b : ℕ) → IsLetter b → is_letter b ≡ true
letter b (inl (h, k)) = or_left _ _ (and_from _ _ (le-leb 65 b h) (le-leb b 90 k))
letter b (inr (h, k)) = or_right _ _ (and_from _ _ (le-leb 97 b h) (le-leb b 122 k))

abbrev word_byte : ℕ → Bool
word_byte c = is_letter c || is_digit c || nat_eq c 95

is_word_byte : (b : ℕ) → IsWordByte b → word_byte b ≡ true
is_word_byte b (inl h) = or_left _ _ (or_left _ _ (letter b h))
is_word_byte b (inr (inl (h, k))) = or_left _ _ (or_right _ _ (and_from _ _ (le-leb 48 b h) (le-leb b 57 k)))
is_word_byte b (inr (inr e)) = or_right (is_letter b || is_digit b) (nat_eq b 95) (rw e refl)

word_bytes : (bs : List ℕ) → AllByRecursion IsWordByte bs → list_all word_byte bs ≡ true
word_bytes [] h = refl
word_bytes (b ∷ bs) h = and_from _ _ (is_word_byte b h.0) (word_bytes bs h.1)

piece : (bs : List ℕ) → IsPiece word bs → length bs ≤ MAX_NAME_BYTES → is_word bs ≡ true
piece [] h short = absurd h
piece (b ∷ bs) (first, more) short = and_from _ _ (and_from _ _ (letter b first) (word_bytes bs more)) (le-leb (length (b ∷ bs)) MAX_NAME_BYTES short)

pub span_at : (text : List ℕ) (tokens : List Token) (at : ℕ) (t : Token) (rest : List Token) → AreSpans text tokens → drop at tokens ≡ t ∷ rest → IsSpan text t
span_at text [] at t rest spans e = let k = rw (drop-nil at) at e in absurd cc
span_at text (s ∷ tokens) zero t rest spans e = let same : s ≡ t = cc in rw same at spans.0
span_at text (s ∷ tokens) (suc at) t rest spans e = span_at text tokens at t rest spans.1 e

-- a name token in a text stands for a word
pub is_word_at : (text : List ℕ) (tokens : List Token) (at : ℕ) (t : Token) (rest : List Token) → ∥ AreSpans text tokens ∥₁ → drop at tokens ≡ t ∷ rest → t.kind ≡ kinds.Name → IsTrue (is_word (bytes_of text t))
is_word_at text tokens at t rest spans e kind = ∥∥₁_elim spans (Bool-set _ _) (λ all.
    let fits = (span_at text tokens at t rest all e).fits in
    let named : FitsKind kinds.Name (bytes_of text t) = rw kind at fits in
    piece (bytes_of text t) named.0 named.1)
