-- A text that is cut as far as an offset.
use Rattle.std.proofs.Common.{◌≡◌, ℕ, ◌+◌, ◌≤◌, List, [], ◌∷◌, ◌++◌, length, take, drop, Option, refl, sym, ap, ◌∙◌, append_assoc, length-append, arith}
use Rattle.std.specs.Option.{option_map, option_to_list}
use Rattle.std.proofs.lemmas.List.{append-nil, take-append-drop, length-take-le, length-drop, drop-drop}
use Rattle.sl_lex.specs.declared.token.Kind.{Kind}
use Rattle.sl_lex.specs.declared.token.Token.{Token}
use Rattle.sl_lex.specs.Pieces.{IsLongest}
use Rattle.sl_lex.specs.inner.Scan.{IsFront}
use Rattle.sl_lex.specs.Tokens.{Piece, IsCut, IsTooMuch, kind_of, tokens_from}

-- the text is cut up to the offset, and these are the tokens so far
pub record IsCutTo (source : List ℕ) (at : ℕ) (tokens : List Token) : Type 0 where
  pub pieces : List Piece
  pub within : at ≤ length source
  pub cut : IsCut pieces source (drop at source)
  pub are : tokens ≡ tokens_from 0 pieces

-- the token of that kind, if there is a kind
abbrev pub token_at : ℕ → ℕ → Option Kind → List Token
token_at start end kind = option_to_list (option_map (λ k. record { kind = k; start = start; end = end }) kind)

cut_push : (ps : List Piece) (here rest : List ℕ) (p : Piece) (behind : List ℕ) → IsCut ps here rest → rest ≡ p.bytes ++ behind → IsLongest p.form p.bytes behind → (IsTooMuch p.form p.bytes → ⊥) → IsCut (ps ++ p ∷ []) here behind
cut_push [] here rest p behind h e longest fits = (behind, h ∙ e, longest, fits, refl)
cut_push (q ∷ qs) here rest p behind h e longest fits = (h.0, h.1, h.2, h.3, cut_push qs h.0 rest p behind h.4 e longest fits)

-- start is the offset of what is left after the pieces, the first of which begins at at
tokens_push : (ps : List Piece) (at start : ℕ) (here rest : List ℕ) (p : Piece) → IsCut ps here rest → start + length rest ≡ at + length here
    → tokens_from at (ps ++ p ∷ []) ≡ tokens_from at ps ++ token_at start (start + length p.bytes) (kind_of p.form p.bytes)
tokens_push [] at start here rest p h e =
    let same : at ≡ start = omega (arith, ap length h) in
    rw same (append-nil (token_at start (start + length p.bytes) (kind_of p.form p.bytes)))
tokens_push (q ∷ qs) at start here rest p h e =
    let next : start + length rest ≡ at + length q.bytes + length h.0 = omega (arith, ap length h.1, length-append q.bytes h.0) in
    ap (λ (ts : List Token). token_at at (at + length q.bytes) (kind_of q.form q.bytes) ++ ts) (tokens_push qs (at + length q.bytes) start h.0 rest p h.4 next)
    ∙ sym (append_assoc (token_at at (at + length q.bytes) (kind_of q.form q.bytes)) (tokens_from (at + length q.bytes) qs) (token_at start (start + length p.bytes) (kind_of p.form p.bytes)))

-- one more piece
pub cut_more : (source : List ℕ) (at : ℕ) (tokens : List Token) (here : List ℕ) (kind : Option Kind) (len : ℕ) (more : List Token)
    → IsCutTo source at tokens → here ≡ drop at source → IsFront here kind len → more ≡ tokens ++ token_at at (at + len) kind → IsCutTo source (at + len) more
cut_more source at tokens here kind len more so_far is front e =
    let p : Piece = record { form = front.form; bytes = take len here } in
    let left : drop at source ≡ p.bytes ++ drop len here = sym is ∙ sym (take-append-drop len here) in
    let behind : drop len here ≡ drop (at + len) source = ap (drop len) is ∙ drop-drop len at source in
    let size : length p.bytes ≡ len = length-take-le len here front.within in
    let sizes : at + length (drop at source) ≡ 0 + length source = omega (arith, so_far.within, length-drop at source) in
    record {
      pieces = so_far.pieces ++ p ∷ [];
      within = omega (arith, so_far.within, front.within, ap length is, length-drop at source);
      cut = rw (← behind) (cut_push so_far.pieces source (drop at source) p (drop len here) so_far.cut left front.longest front.fits);
      are = e ∙ ap (λ (ts : List Token). ts ++ token_at at (at + len) kind) so_far.are
          ∙ ap (λ (k : Option Kind). tokens_from 0 so_far.pieces ++ token_at at (at + len) k) front.is
          ∙ ap (λ (n : ℕ). tokens_from 0 so_far.pieces ++ token_at at (at + n) (kind_of p.form p.bytes)) (sym size)
          ∙ sym (tokens_push so_far.pieces 0 at source (drop at source) p so_far.cut sizes);
    }
