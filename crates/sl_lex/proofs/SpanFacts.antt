-- The tokens of a text stand in it, one after the other.
use Rattle.std.proofs.Common.{◌≡◌, ℕ, ◌+◌, ◌-◌, ◌<◌, ◌≤◌, List, [], ◌∷◌, ◌++◌, length, take, Option, Some, None, refl, sym, ap, ◌∙◌, subst, append_assoc, length-append, arith}
use Rattle.std.specs.Option.{option_map}
use Rattle.std.specs.List.{slice_range}
use Rattle.std.specs.Str.{bytes_eq}
use Rattle.std.proofs.lemmas.List.{take_at, drop_at}
use Rattle.std.proofs.lemmas.Slice.Eq.{bytes_eq-Decides}
use Rattle.sl_lex.specs.declared.keyword.Keyword.{Keyword}
use Rattle.sl_lex.specs.declared.token.Kind.{Kind}
use Rattle.sl_lex.specs.declared.token.Kind.TheVariants as kinds
use Rattle.sl_lex.specs.declared.token.Mark.{Mark}
use Rattle.sl_lex.specs.declared.token.Mark.TheVariants.{Semicolon, Equals, Comma, Open, Close}
use Rattle.sl_lex.specs.declared.token.Token.{Token}
use Rattle.sl_lex.specs.Keywords.{keyword_of}
use Rattle.sl_lex.specs.Pieces.{Form, blank, comment, word, number, text, mark, IsPiece}
use Rattle.sl_lex.specs.Spans.{IsSpelled, AreSpans}
use Rattle.sl_lex.specs.Tokens.{Piece, IsCut, IsTooMuch, kind_of, word_kind, mark_of, sign, tokens_from, AreTokens, number_of}
use Rattle.sl_lex.proofs.Words.{keyword_of-spelling, spelling_from_keyword, found_passes}
use Rattle.sl_lex.proofs.Cuts.{token_at}

word_spelled : (bytes : List ℕ) (found : Option Keyword) → keyword_of bytes ≡ found → IsPiece word bytes → (IsTooMuch word bytes → ⊥) → IsSpelled (word_kind found) bytes
word_spelled bytes (Some k) e is fits = spelling_from_keyword bytes k e
word_spelled bytes None e is fits = (
  is,
  omega (arith, fits),
  λ k same.
      let found : keyword_of bytes ≡ Some k = ap keyword_of same ∙ keyword_of-spelling k in
      absurd cc,
)

mark_spelled : (bytes : List ℕ) (found : Option Mark) (kind : Kind) → mark_of bytes ≡ found → option_map (λ m. kinds.Mark m) found ≡ Some kind → IsSpelled kind bytes
mark_spelled bytes (Some m) kind e is =
    let same : kinds.Mark m ≡ kind = cc in
    subst (λ (k : Kind). IsSpelled k bytes) same (sym ((bytes_eq-Decides (sign m) bytes).0 (found_passes (λ m. bytes_eq (sign m) bytes) (Semicolon ∷ Equals ∷ Comma ∷ Open ∷ Close ∷ []) m e)))
mark_spelled bytes None kind e is = absurd cc

spelled : (f : Form) (bytes : List ℕ) (kind : Kind) → IsPiece f bytes → (IsTooMuch f bytes → ⊥) → kind_of f bytes ≡ Some kind → IsSpelled kind bytes
spelled blank bytes kind is fits e = absurd cc
spelled comment bytes kind is fits e = absurd cc
spelled word bytes kind is fits e =
    let same : word_kind (keyword_of bytes) ≡ kind = cc in
    subst (λ (k : Kind). IsSpelled k bytes) same (word_spelled bytes (keyword_of bytes) refl is fits)
spelled number bytes kind is fits e =
    let same : kinds.Number (number_of bytes) ≡ kind = cc in
    subst (λ (k : Kind). IsSpelled k bytes) same (is, refl, omega (arith, fits))
spelled text bytes kind is fits e =
    let same : kinds.Text ≡ kind = cc in
    subst (λ (k : Kind). IsSpelled k bytes) same is
spelled mark bytes kind is fits e = mark_spelled bytes (mark_of bytes) kind refl e

not_empty : (f : Form) (bytes : List ℕ) → IsPiece f bytes → 0 < length bytes
not_empty f [] h = absurd h
not_empty f (b ∷ bytes) h = omega arith

later : (a b : ℕ) (source : List ℕ) (ts : List Token) → a ≤ b → AreSpans b source ts → AreSpans a source ts
later a b source [] le h = tt
later a b source (t ∷ ts) le h = (record { behind = omega (arith, h.0.behind); some = h.0.some; inside = h.0.inside; spelled = h.0.spelled }, h.1)

-- the bytes between two offsets
between : (front bytes behind : List ℕ) → slice_range (front ++ (bytes ++ behind)) (length front) (length front + length bytes) ≡ bytes
between front bytes behind =
    let size : length bytes ≡ length front + length bytes - length front = omega arith in
    ap (take (length front + length bytes - length front)) (drop_at front (bytes ++ behind) (length front) refl) ∙ take_at bytes behind (length front + length bytes - length front) size

with_token : (front behind : List ℕ) (p : Piece) (kind : Option Kind) (ts : List Token) → IsPiece p.form p.bytes → (IsTooMuch p.form p.bytes → ⊥) → kind_of p.form p.bytes ≡ kind
    → AreSpans (length front + length p.bytes) (front ++ (p.bytes ++ behind)) ts
    → AreSpans (length front) (front ++ (p.bytes ++ behind)) (token_at (length front) (length front + length p.bytes) kind ++ ts)
with_token front behind p None ts is fits e h = later (length front) (length front + length p.bytes) (front ++ (p.bytes ++ behind)) ts (omega arith) h
with_token front behind p (Some k) ts is fits e h = (
  record {
    behind = omega arith;
    some = omega (arith, not_empty p.form p.bytes is);
    inside = omega (arith, length-append front (p.bytes ++ behind), length-append p.bytes behind);
    spelled = rw (between front p.bytes behind) (spelled p.form p.bytes k is fits e);
  },
  h,
)

spans_from : (ps : List Piece) (front here : List ℕ) → IsCut ps here [] → AreSpans (length front) (front ++ here) (tokens_from (length front) ps)
spans_from [] front here h = tt
spans_from (p ∷ ps) front here h =
    let rest : AreSpans (length (front ++ p.bytes)) ((front ++ p.bytes) ++ h.0) (tokens_from (length (front ++ p.bytes)) ps) = spans_from ps (front ++ p.bytes) h.0 h.4 in
    let moved = rw (length-append front p.bytes, append_assoc front p.bytes h.0) at rest in
    rw h.1 (with_token front h.0 p (kind_of p.form p.bytes) (tokens_from (length front + length p.bytes) ps) h.2.is h.3 refl moved)

pub spans : (source : List ℕ) (tokens : List Token) → AreTokens source tokens → AreSpans 0 source tokens
spans source tokens h = rw h.2 (spans_from h.0 [] source h.1)
