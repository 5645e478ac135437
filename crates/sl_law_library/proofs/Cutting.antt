-- A function that cuts a text into its tokens, and computes.
use Rattle.std.proofs.Common.{◌≡◌, ℕ, zero, suc, ◌+◌, Bool, true, false, cond, List, [], ◌∷◌, ◌++◌, length, get_or, take, drop, Option, Some, None, refl, sym, ap, ◌∙◌, subst, arith}
use Rattle.std.specs.Prelude.{nat_le, nat_lt, ◌&&◌, ◌||◌, ◌==◌}
use Rattle.std.specs.List.{prefix_len}
use Rattle.std.specs.Char.{is_ascii_digit}
use Rattle.std.specs.Option.{option_map, option_to_list}
use Rattle.std.proofs.lemmas.Bool.{and_parts, leb-true, ltb-true, eqb-true}
use Rattle.std.proofs.lemmas.Bool.Decides.{nat_tests}
use Rattle.std.proofs.lemmas.List.{take-append-drop, length-take-le}
use Rattle.sl_base_quotients.specs.declared.limits.TheConstants.{MAX_NUMBER}
use Rattle.sl_base_quotients.specs.declared.spelling.TheConstants.{MAX_NAME_BYTES}
use Rattle.sl_lex.specs.declared.token.Kind.{Kind}
use Rattle.sl_lex.specs.declared.token.Kind.TheVariants as kinds
use Rattle.sl_lex.specs.declared.token.Token.{Token}
use Rattle.sl_lex.specs.Keywords.{keyword_of}
use Rattle.sl_lex.specs.Pieces.{blank, mark, IsBlank, IsLetter, IsMark}
use Rattle.sl_lex.specs.inner.Scan.{IsFront, is_word_byte, is_text_byte}
use Rattle.sl_lex.specs.Tokens.{Piece, IsCut, AreTokens, kind_of, word_kind, number_of, tokens_from}
use Rattle.sl_lex.proofs.ByteTests.{digit_test}
use Rattle.sl_lex.proofs.FrontFacts.{word_front, number_front, text_front}
use Rattle.sl_lex.proofs.Fronts.{longest_blank, longest_mark}

-- ---- the piece in front, but a comment

abbrev is_blank : ℕ → Bool
is_blank b = b == 32 || (b == 9 || (b == 13 || b == 10))

abbrev is_letter : ℕ → Bool
is_letter b = (nat_le 65 b && nat_le b 90) || (nat_le 97 b && nat_le b 122)

abbrev is_mark : ℕ → Bool
is_mark b = b == 59 || (b == 61 || (b == 44 || (b == 40 || b == 41)))

blank_test : (b : ℕ) → is_blank b ≡ true → IsBlank b
blank_test b e = grind (arith, nat_tests)

letter_test : (b : ℕ) → is_letter b ≡ true → IsLetter b
letter_test b e = grind (arith, nat_tests)

mark_test : (b : ℕ) → is_mark b ≡ true → IsMark b
mark_test b e = grind (arith, nat_tests)

-- its kind and its size
abbrev Front : Type 0
Front = Option (Option Kind × ℕ)

abbrev front_if : Bool → Option Kind → ℕ → Front
front_if test kind n = cond test (Some (kind, n)) None

abbrev or_else : Front → Front → Front
or_else (Some x) y = Some x
or_else None y = y

abbrev blank_front : ℕ → List ℕ → Front
blank_front b bytes = front_if (is_blank b) None 1

abbrev mark_front : ℕ → List ℕ → Front
mark_front b bytes = front_if (is_mark b) (kind_of mark (b ∷ [])) 1

abbrev letters_front : ℕ → List ℕ → ℕ → Front
letters_front b bytes n = front_if (is_letter b && nat_le n MAX_NAME_BYTES) (Some (word_kind (keyword_of (take n (b ∷ bytes))))) n

abbrev digits_front : ℕ → List ℕ → ℕ → Front
digits_front b bytes n = front_if (is_ascii_digit b && nat_le (number_of (take n (b ∷ bytes))) MAX_NUMBER) (Some (kinds.Number (number_of (take n (b ∷ bytes))))) n

abbrev quote_front : ℕ → List ℕ → ℕ → Front
quote_front b bytes n = front_if (b == 34 && (nat_lt n (length bytes) && get_or bytes n 0 == 34)) (Some kinds.Text) (n + 2)

abbrev front : ℕ → List ℕ → Front
front b bytes =
    or_else (blank_front b bytes)
    (or_else (mark_front b bytes)
    (or_else (letters_front b bytes (prefix_len is_word_byte (b ∷ bytes)))
    (or_else (digits_front b bytes (prefix_len is_ascii_digit (b ∷ bytes)))
    (quote_front b bytes (prefix_len is_text_byte bytes)))))

front_parts : (test : Bool) (kind : Option Kind) (n : ℕ) (x : Option Kind × ℕ) → front_if test kind n ≡ Some x → (test ≡ true) × ((kind, n) ≡ x)
front_parts true kind n x e = (refl, cc)
front_parts false kind n x e = absurd cc

abbrev Sound : ℕ → List ℕ → Front → Type 0
Sound b bytes f = (x : Option Kind × ℕ) → f ≡ Some x → IsFront (b ∷ bytes) x.0 x.1

or_sound : (b : ℕ) (bytes : List ℕ) (f g : Front) → Sound b bytes f → Sound b bytes g → Sound b bytes (or_else f g)
or_sound b bytes (Some y) g h k x e = h x e
or_sound b bytes None g h k x e = k x e

if_sound : (b : ℕ) (bytes : List ℕ) (test : Bool) (kind : Option Kind) (n : ℕ) → (test ≡ true → IsFront (b ∷ bytes) kind n) → Sound b bytes (front_if test kind n)
if_sound b bytes test kind n h x e =
    let parts = front_parts test kind n x e in
    subst (λ (y : Option Kind × ℕ). IsFront (b ∷ bytes) y.0 y.1) parts.1 (h parts.0)

blank_is : (b : ℕ) (bytes : List ℕ) → is_blank b ≡ true → IsFront (b ∷ bytes) None 1
blank_is b bytes e = record { form = blank; some = omega arith; within = omega arith; longest = longest_blank b bytes (blank_test b e); fits = λ much. much; is = refl }

mark_is : (b : ℕ) (bytes : List ℕ) → is_mark b ≡ true → IsFront (b ∷ bytes) (kind_of mark (b ∷ [])) 1
mark_is b bytes e = record { form = mark; some = omega arith; within = omega arith; longest = longest_mark b bytes (mark_test b e); fits = λ much. much; is = refl }

letters_are : (b : ℕ) (bytes : List ℕ) (n : ℕ) → n ≡ prefix_len is_word_byte (b ∷ bytes) → is_letter b && nat_le n MAX_NAME_BYTES ≡ true
    → IsFront (b ∷ bytes) (Some (word_kind (keyword_of (take n (b ∷ bytes))))) n
letters_are b bytes n is e =
    let parts = and_parts (is_letter b) (nat_le n MAX_NAME_BYTES) e in
    word_front (b ∷ bytes) n (keyword_of (take n (b ∷ bytes))) (letter_test b parts.0) is (leb-true n MAX_NAME_BYTES parts.1) refl

digits_are : (b : ℕ) (bytes : List ℕ) (n : ℕ) → n ≡ prefix_len is_ascii_digit (b ∷ bytes) → is_ascii_digit b && nat_le (number_of (take n (b ∷ bytes))) MAX_NUMBER ≡ true
    → IsFront (b ∷ bytes) (Some (kinds.Number (number_of (take n (b ∷ bytes))))) n
digits_are b bytes n is e =
    let parts = and_parts (is_ascii_digit b) (nat_le (number_of (take n (b ∷ bytes))) MAX_NUMBER) e in
    number_front (b ∷ bytes) n (number_of (take n (b ∷ bytes))) ((digit_test b).0 parts.0) is refl (leb-true _ MAX_NUMBER parts.1)

quote_is : (b : ℕ) (bytes : List ℕ) (n : ℕ) → n ≡ prefix_len is_text_byte bytes → b == 34 && (nat_lt n (length bytes) && get_or bytes n 0 == 34) ≡ true
    → IsFront (b ∷ bytes) (Some kinds.Text) (n + 2)
quote_is b bytes n is e =
    let parts = and_parts (b == 34) (nat_lt n (length bytes) && get_or bytes n 0 == 34) e in
    let ends = and_parts (nat_lt n (length bytes)) (get_or bytes n 0 == 34) parts.1 in
    text_front (b ∷ bytes) bytes n (eqb-true b 34 parts.0) refl is (ltb-true n (length bytes) ends.0, eqb-true (get_or bytes n 0) 34 ends.1)

sound : (b : ℕ) (bytes : List ℕ) → Sound b bytes (front b bytes)
sound b bytes =
    or_sound b bytes _ _ (if_sound b bytes _ _ _ (blank_is b bytes))
    (or_sound b bytes _ _ (if_sound b bytes _ _ _ (mark_is b bytes))
    (or_sound b bytes _ _ (if_sound b bytes _ _ _ (letters_are b bytes _ refl))
    (or_sound b bytes _ _ (if_sound b bytes _ _ _ (digits_are b bytes _ refl))
    (if_sound b bytes _ _ _ (quote_is b bytes _ refl)))))

-- ---- the whole text

abbrev token_at : ℕ → ℕ → Option Kind → List Token
token_at start end kind = option_to_list (option_map (λ k. record { kind = k; start = start; end = end }) kind)

abbrev step : ℕ → List ℕ → (ℕ → List ℕ → Option (List Token)) → Front → Option (List Token)
step at here again None = None
step at here again (Some x) = option_map (λ ts. token_at at (at + x.1) x.0 ++ ts) (again (at + x.1) (drop x.1 here))

-- its tokens by so many steps at most, from that offset on
abbrev pub tokens_of : ℕ → ℕ → List ℕ → Option (List Token)
tokens_of zero at here = None
tokens_of (suc k) at [] = Some []
tokens_of (suc k) at (b ∷ bytes) = step at (b ∷ bytes) (tokens_of k) (front b bytes)

record Cut (at : ℕ) (here : List ℕ) (ts : List Token) : Type 0 where
  pub pieces : List Piece
  pub cut : IsCut pieces here []
  pub are : ts ≡ tokens_from at pieces

add : (at : ℕ) (here : List ℕ) (kind : Option Kind) (n : ℕ) (us : List Token) → IsFront here kind n → Cut (at + n) (drop n here) us → Cut at here (token_at at (at + n) kind ++ us)
add at here kind n us f rest =
    let size : length (take n here) ≡ n = length-take-le n here f.within in
    record {
      pieces = record { form = f.form; bytes = take n here } ∷ rest.pieces;
      cut = (drop n here, sym (take-append-drop n here), f.longest, f.fits, rest.cut);
      are = ap (λ (ts : List Token). token_at at (at + n) kind ++ ts) rest.are
          ∙ ap (λ (k : Option Kind). token_at at (at + n) k ++ tokens_from (at + n) rest.pieces) f.is
          ∙ ap (λ (m : ℕ). token_at at (at + m) (kind_of f.form (take n here)) ++ tokens_from (at + m) rest.pieces) (sym size);
    }

mapped : {A B : Type 0} (f : A → B) (o : Option A) (y : B) → option_map f o ≡ Some y → (x : A) × (o ≡ Some x) × (f x ≡ y)
mapped f None y e = absurd cc
mapped f (Some x) y e = (x, refl, cc)

cuts : (k at : ℕ) (here : List ℕ) (ts : List Token) → tokens_of k at here ≡ Some ts → Cut at here ts
cuts zero at here ts e = absurd cc
cuts (suc k) at [] ts e = record { pieces = []; cut = refl; are = cc }
cuts (suc k) at (b ∷ bytes) ts e = go (cuts k) (front b bytes) refl e
  where
    go : ((at' : ℕ) (here : List ℕ) (us : List Token) → tokens_of k at' here ≡ Some us → Cut at' here us)
        → (f : Front) → front b bytes ≡ f → step at (b ∷ bytes) (tokens_of k) f ≡ Some ts → Cut at (b ∷ bytes) ts
    go again None is h = absurd cc
    go again (Some x) is h =
        let m = mapped (λ us. token_at at (at + x.1) x.0 ++ us) (tokens_of k (at + x.1) (drop x.1 (b ∷ bytes))) ts h in
        subst (Cut at (b ∷ bytes)) m.2 (add at (b ∷ bytes) x.0 x.1 m.0 (sound b bytes x is) (again (at + x.1) (drop x.1 (b ∷ bytes)) m.0 m.1))

pub are_tokens : (k : ℕ) (text : List ℕ) (ts : List Token) → tokens_of k 0 text ≡ Some ts → AreTokens text ts
are_tokens k text ts e = let c = cuts k 0 text ts e in (c.pieces, c.cut, c.are)
