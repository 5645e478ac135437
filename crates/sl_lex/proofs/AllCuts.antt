-- Every text is cut to its end, or up to a fault.
use Rattle.std.proofs.Common.{◌≡◌, ℕ, zero, suc, ◌+◌, ◌-◌, ◌<◌, ◌≤◌, ◌⊎◌, inl, inr, List, [], ◌∷◌, ◌++◌, length, get_or, take, drop, Option, Some, None, refl, sym, ap, subst, length-drop, arith}
use Rattle.std.specs.List.{prefix_len, position_or_len}
use Rattle.std.specs.Char.{is_ascii_digit}
use Rattle.std.specs.Option.{option_map}
use Rattle.std.proofs.lemmas.Bool.{cases_eq, cases_lt}
use Rattle.memchr.specs.Find.{is_byte}
use Rattle.sl_base_quotients.specs.declared.limits.TheConstants.{MAX_NUMBER}
use Rattle.sl_base_quotients.specs.declared.spelling.TheConstants.{MAX_NAME_BYTES}
use Rattle.sl_lex.specs.declared.fault.LexFault.{LexFault}
use Rattle.sl_lex.specs.declared.fault.LexFault.TheVariants.{BadByte, OpenString, BigNumber, LongName}
use Rattle.sl_lex.specs.declared.token.Kind.{Kind}
use Rattle.sl_lex.specs.declared.token.Kind.TheVariants as kinds
use Rattle.sl_lex.specs.declared.token.Mark.{Mark}
use Rattle.sl_lex.specs.declared.token.Mark.TheVariants.{Semicolon, Equals, Comma, Open, Close}
use Rattle.sl_lex.specs.declared.token.Token.{Token}
use Rattle.sl_lex.specs.Keywords.{keyword_of}
use Rattle.sl_lex.specs.Pieces.{blank, mark, IsBlank, IsLetter, IsDigit, IsMark}
use Rattle.sl_lex.specs.inner.Scan.{IsFront, is_word_byte, is_text_byte}
use Rattle.sl_lex.specs.Tokens.{ShowsAt, HasTokens, HasFault, IsCut, mark_of, number_of}
use Rattle.sl_lex.proofs.Cuts.{IsCutTo, cut_more, token_at}
use Rattle.sl_lex.proofs.FrontFacts.{word_front, long_word, number_front, big_number, comment_front, text_front, open_text}
use Rattle.sl_lex.proofs.Fronts.{longest_blank, longest_mark, begins_none_other}

-- ---- what a byte is

either : {A B : Type 0} → A ⊎ (A → ⊥) → B ⊎ (B → ⊥) → (A ⊎ B) ⊎ ((A ⊎ B) → ⊥)
either (inl a) y = inl (inl a)
either (inr not_a) (inl b) = inl (inr b)
either (inr not_a) (inr not_b) = inr (λ h. elim h [ inl a ↦ not_a a | inr b ↦ not_b b ])

in_range : (low high b : ℕ) → ((low ≤ b) × (b ≤ high)) ⊎ (((low ≤ b) × (b ≤ high)) → ⊥)
in_range low high b =
    elim (cases_lt b low) [
      | inl below ↦ inr (λ h. let least = h.0 in omega arith)
      | inr least ↦ elim (cases_lt high b) [
        | inl above ↦ inr (λ h. let most = h.1 in omega arith)
        | inr most ↦ inl (least, most)
      ]
    ]

is_blank : (b : ℕ) → IsBlank b ⊎ (IsBlank b → ⊥)
is_blank b = either (cases_eq b 32) (either (cases_eq b 9) (either (cases_eq b 13) (cases_eq b 10)))

is_letter : (b : ℕ) → IsLetter b ⊎ (IsLetter b → ⊥)
is_letter b = either (in_range 65 90 b) (in_range 97 122 b)

is_mark : (b : ℕ) → IsMark b ⊎ (IsMark b → ⊥)
is_mark b = either (cases_eq b 59) (either (cases_eq b 61) (either (cases_eq b 44) (either (cases_eq b 40) (cases_eq b 41))))

-- ---- what stands at the front

-- a piece, or the fault that shows
abbrev Found : ℕ → List ℕ → Type 0
Found at here = ((kind : Option Kind) × (len : ℕ) × IsFront here kind len) ⊎ ((fault : LexFault) × ShowsAt at here fault)

blank_found : (at b : ℕ) (bytes : List ℕ) → IsBlank b → Found at (b ∷ bytes)
blank_found at b bytes h = inl (
  None,
  1,
  record {
    form = blank;
    some = omega arith;
    within = omega arith;
    longest = longest_blank b bytes h;
    fits = λ much. much;
    is = refl;
  },
)

comment_found : (at b : ℕ) (bytes : List ℕ) → b ≡ 35 → Found at (b ∷ bytes)
comment_found at b bytes h = inl (None, position_or_len (is_byte 10) (b ∷ bytes), comment_front (b ∷ bytes) _ h refl)

word_found : (at b : ℕ) (bytes : List ℕ) → IsLetter b → Found at (b ∷ bytes)
word_found at b bytes h =
    let n : ℕ = prefix_len is_word_byte (b ∷ bytes) in
    elim (cases_lt MAX_NAME_BYTES n) [
      | inl many ↦ inr (LongName at, long_word (b ∷ bytes) at n h refl many)
      | inr few ↦ inl (_, n, word_front (b ∷ bytes) n (keyword_of (take n (b ∷ bytes))) h refl few refl)
    ]

number_found : (at b : ℕ) (bytes : List ℕ) → IsDigit b → Found at (b ∷ bytes)
number_found at b bytes h =
    let n : ℕ = prefix_len is_ascii_digit (b ∷ bytes) in
    elim (cases_lt MAX_NUMBER (number_of (take n (b ∷ bytes)))) [
      | inl great ↦ inr (BigNumber at, big_number (b ∷ bytes) at n h refl great)
      | inr few ↦ inl (_, n, number_front (b ∷ bytes) n (number_of (take n (b ∷ bytes))) h refl refl few)
    ]

text_found : (at b : ℕ) (bytes : List ℕ) → b ≡ 34 → Found at (b ∷ bytes)
text_found at b bytes h =
    let n : ℕ = prefix_len is_text_byte bytes in
    elim (cases_lt n (length bytes)) [
      | inl within ↦ elim (cases_eq (get_or bytes n 0) 34) [
        | inl quote ↦ inl (Some kinds.Text, n + 2, text_front (b ∷ bytes) bytes n h refl refl (within, quote))
        | inr other ↦ inr (OpenString at, open_text (b ∷ bytes) bytes at n h refl refl (λ q. other q.1))
      ]
      | inr past ↦ inr (OpenString at, open_text (b ∷ bytes) bytes at n h refl refl (λ q. let within = q.0 in omega arith))
    ]

one_mark : (at b : ℕ) (bytes : List ℕ) (m : Mark) → IsMark b → mark_of (b ∷ []) ≡ Some m → Found at (b ∷ bytes)
one_mark at b bytes m h is = inl (
  Some (kinds.Mark m),
  1,
  record {
    form = mark;
    some = omega arith;
    within = omega arith;
    longest = longest_mark b bytes h;
    fits = λ much. much;
    is = sym (ap (option_map (λ k. kinds.Mark k)) is);
  },
)

mark_found : (at b : ℕ) (bytes : List ℕ) → IsMark b → IsMark b → Found at (b ∷ bytes)
mark_found at b bytes h (inl e) = one_mark at b bytes Semicolon h (ap (λ c. mark_of (c ∷ [])) e)
mark_found at b bytes h (inr (inl e)) = one_mark at b bytes Equals h (ap (λ c. mark_of (c ∷ [])) e)
mark_found at b bytes h (inr (inr (inl e))) = one_mark at b bytes Comma h (ap (λ c. mark_of (c ∷ [])) e)
mark_found at b bytes h (inr (inr (inr (inl e)))) = one_mark at b bytes Open h (ap (λ c. mark_of (c ∷ [])) e)
mark_found at b bytes h (inr (inr (inr (inr e)))) = one_mark at b bytes Close h (ap (λ c. mark_of (c ∷ [])) e)

found : (at : ℕ) (here : List ℕ) → 0 < length here → Found at here
found at [] some = absurd (omega arith)
found at (b ∷ bytes) some =
    elim (is_blank b) [
      | inl h ↦ blank_found at b bytes h
      | inr no_blank ↦ elim (cases_eq b 35) [
        | inl h ↦ comment_found at b bytes h
        | inr no_hash ↦ elim (is_letter b) [
          | inl h ↦ word_found at b bytes h
          | inr no_letter ↦ elim (in_range 48 57 b) [
            | inl h ↦ number_found at b bytes h
            | inr no_digit ↦ elim (cases_eq b 34) [
              | inl h ↦ text_found at b bytes h
              | inr no_quote ↦ elim (is_mark b) [
                | inl h ↦ mark_found at b bytes h h
                | inr no_mark ↦ inr (BadByte at, (refl, begins_none_other b bytes (no_blank, no_hash, no_letter, no_digit, no_quote, no_mark), no_quote))
              ]
            ]
          ]
        ]
      ]
    ]

-- ---- the whole text

-- the end of the text, or a fault; or a cut that goes further
abbrev Goes : List ℕ → ℕ → Type 0
Goes source at = (HasTokens source ⊎ HasFault source) ⊎ ((next : ℕ) × (tokens : List Token) × (at < next) × IsCutTo source next tokens)

nothing_left : (source : List ℕ) (at : ℕ) → length source ≤ at → drop at source ≡ []
nothing_left source at past = empty (drop at source) (omega (arith, length-drop at source))
  where
    empty : (xs : List ℕ) → length xs ≡ 0 → xs ≡ []
    empty [] h = refl
    empty (x ∷ xs) h = absurd (omega arith)

goes : (source : List ℕ) (at : ℕ) (tokens : List Token) → IsCutTo source at tokens → Goes source at
goes source at tokens so_far =
    elim (cases_lt at (length source)) [
      | inr past ↦ inl (inl (tokens, (so_far.pieces, subst (IsCut so_far.pieces source) (nothing_left source at past) so_far.cut, so_far.are)))
      | inl within ↦ elim (found at (drop at source) (omega (arith, length-drop at source))) [
        | inl front ↦
            let kind = front.0 in
            let len = front.1 in
            inr (at + len, tokens ++ token_at at (at + len) kind, omega (arith, front.2.some), cut_more source at tokens (drop at source) kind len _ so_far refl front.2 refl)
        | inr fault ↦
            let here : length source - length (drop at source) ≡ at = omega (arith, length-drop at source) in
            inl (inr (fault.0, (so_far.pieces, drop at source, so_far.cut, subst (λ (n : ℕ). ShowsAt n (drop at source) fault.0) (sym here) fault.1)))
      ]
    ]

-- each cut takes a byte at least
goes_on : (most : ℕ) (source : List ℕ) (at : ℕ) (tokens : List Token) → IsCutTo source at tokens → length source ≤ at + most → HasTokens source ⊎ HasFault source
goes_on zero source at tokens so_far enough =
    elim (goes source at tokens so_far) [
      | inl end ↦ end
      | inr more ↦ let within = more.3.within in let further = more.2 in absurd (omega arith)
    ]
goes_on (suc most) source at tokens so_far enough =
    elim (goes source at tokens so_far) [
      | inl end ↦ end
      | inr more ↦ goes_on most source more.0 more.1 more.3 (let further = more.2 in omega arith)
    ]

pub tokens_or_fault : (source : List ℕ) → HasTokens source ⊎ HasFault source
tokens_or_fault source = goes_on (length source) source 0 [] (record { pieces = []; within = omega arith; cut = refl; are = refl }) (omega arith)
