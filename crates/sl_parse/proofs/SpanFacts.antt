-- The tokens of a text are what the parser needs of them.
use Rattle.std.proofs.Common.{ℕ, List, [], ◌∷◌, refl}
use Rattle.sl_lex.specs.declared.token.Token.{Token}
use Rattle.sl_lex.specs.declared.token.Kind.{Kind}
use Rattle.sl_lex.specs.declared.token.Kind.TheVariants as kinds
use Rattle.sl_lex.specs.Pieces.{IsPiece, text as text_form}
use Rattle.sl_lex.specs.Spans as lex
use Rattle.sl_parse.specs.Spans.{IsQuoted, FitsKind, AreSpans}

quoted_of : (bytes : List ℕ) → IsPiece text_form bytes → IsQuoted bytes
quoted_of [] h = absurd h
quoted_of (b ∷ bytes) h = (h.1, rw (h.0, h.2) refl, h.3)

fits_of : (k : Kind) (bytes : List ℕ) → lex.IsSpelled k bytes → FitsKind k bytes
fits_of (kinds.Keyword k) bytes h = tt
fits_of kinds.Name bytes h = (h.0, h.1)
fits_of (kinds.Number n) bytes h = h.2
fits_of kinds.Text bytes h = quoted_of bytes h
fits_of (kinds.Mark m) bytes h = tt

pub spans_of : (at : ℕ) (source : List ℕ) (tokens : List Token) → lex.AreSpans at source tokens → AreSpans source tokens
spans_of at source [] h = tt
spans_of at source (t ∷ ts) h = (record { start = h.0.some; end = h.0.inside; fits = fits_of t.kind _ h.0.spelled }, spans_of t.end source ts h.1)
