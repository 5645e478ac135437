-- What the functions that find a piece say of it, from the length that they found.
use Rattle.std.proofs.Common.{◌≡◌, ℕ, ◌+◌, ◌<◌, ◌≤◌, Bool, not, true, false, List, [], ◌∷◌, length, get_or, take, drop, Option, unwrap_or, Some, None, refl, sym, ap, inl, arith}
use Rattle.std.specs.List.{All, prefix_len, position_or_len}
use Rattle.std.proofs.lemmas.List.{take-append-drop, length-take-le}
use Rattle.std.proofs.lemmas.Bool.{false_from_ne_true}
use Rattle.std.proofs.lemmas.List.Elements.{All-from_recursion}
use Rattle.std.proofs.lemmas.List.Sums.{prefix_len-le-length, position_or_len_is}
use Rattle.std.specs.Char.{is_ascii_digit}
use Rattle.memchr.specs.Find.{is_byte, IsFirstByte, Nowhere, Passes}
use Rattle.sl_lex.specs.declared.keyword.Keyword.{Keyword}
use Rattle.sl_base_quotients.specs.declared.limits.TheConstants.{MAX_NUMBER}
use Rattle.sl_base_quotients.specs.declared.spelling.TheConstants.{MAX_NAME_BYTES}
use Rattle.sl_lex.specs.declared.token.Kind.TheVariants as kinds
use Rattle.sl_lex.specs.declared.fault.LexFault.TheVariants.{OpenString, BigNumber, LongName}
use Rattle.sl_lex.specs.Keywords.{keyword_of}
use Rattle.sl_lex.specs.Pieces.{comment, word, number, text, IsLetter, IsDigit, IsWordByte, IsLongest}
use Rattle.sl_lex.specs.inner.Scan.{BeginsWith, IsFront, is_word_byte, is_text_byte}
use Rattle.sl_lex.specs.Tokens.{ShowsAt, word_kind, number_of}
use Rattle.sl_lex.proofs.ByteTests.{word_test, digit_test, line_test}
use Rattle.sl_lex.proofs.Fronts.{QuoteAt, longest_front, longest_quoted, begins_none_open}
use Rattle.sl_lex.proofs.Runs.{run_passes}

longest_word : (b : ℕ) (bytes : List ℕ) → IsLetter b → IsLongest word (take (prefix_len is_word_byte (b ∷ bytes)) (b ∷ bytes)) (drop (prefix_len is_word_byte (b ∷ bytes)) (b ∷ bytes))
longest_word b bytes letter = longest_front is_word_byte IsWordByte word_test word b (λ xs h. (letter, h)) (λ xs h. h.1) bytes ((word_test b).1 (inl letter))

longest_number : (b : ℕ) (bytes : List ℕ) → IsDigit b → IsLongest number (take (prefix_len is_ascii_digit (b ∷ bytes)) (b ∷ bytes)) (drop (prefix_len is_ascii_digit (b ∷ bytes)) (b ∷ bytes))
longest_number b bytes digit = longest_front is_ascii_digit IsDigit digit_test number b (λ xs h. (digit, h)) (λ xs h. h.1) bytes ((digit_test b).1 digit)

longest_comment : (b : ℕ) (bytes : List ℕ) → b ≡ 35 → IsLongest comment (take (position_or_len (is_byte 10) (b ∷ bytes)) (b ∷ bytes)) (drop (position_or_len (is_byte 10) (b ∷ bytes)) (b ∷ bytes))
longest_comment b bytes hash = longest_front (λ c. not (is_byte 10 c)) (λ c. c ≡ 10 → ⊥) line_test comment b (λ xs h. (hash, h)) (λ xs h. h.1) bytes ((line_test b).1 (λ e. omega arith))

-- the size of a run whose first byte passes
run_size : (p : ℕ → Bool) (b : ℕ) (bytes : List ℕ) (n : ℕ) → p b ≡ true → n ≡ prefix_len p (b ∷ bytes) → (0 < n) × (n ≤ length (b ∷ bytes)) × (length (take n (b ∷ bytes)) ≡ n)
run_size p b bytes n passes e =
    let one : prefix_len p (b ∷ bytes) ≡ 1 + prefix_len p bytes = rw passes refl in
    let within : n ≤ length (b ∷ bytes) = omega (arith, prefix_len-le-length p (b ∷ bytes)) in
    (omega arith, within, length-take-le n (b ∷ bytes) within)

pub word_front : (here : List ℕ) (n : ℕ) (found : Option Keyword) → BeginsWith IsLetter here → n ≡ prefix_len is_word_byte here → n ≤ MAX_NAME_BYTES → found ≡ keyword_of (take n here) → IsFront here (Some (word_kind found)) n
word_front [] n found h e few is = absurd h
word_front (b ∷ bytes) n found letter e few is =
    let size = run_size is_word_byte b bytes n ((word_test b).1 (inl letter)) e in
    record {
      form = word;
      some = size.0;
      within = size.1;
      longest = rw e (longest_word b bytes letter);
      fits = λ many. omega (arith, many, size.2, few);
      is = ap (λ k. Some (word_kind k)) is;
    }

pub long_word : (here : List ℕ) (at n : ℕ) → BeginsWith IsLetter here → n ≡ prefix_len is_word_byte here → MAX_NAME_BYTES < n → ShowsAt at here (LongName at)
long_word [] at n h e many = absurd h
long_word (b ∷ bytes) at n letter e many =
    let size = run_size is_word_byte b bytes n ((word_test b).1 (inl letter)) e in
    (refl, (take n (b ∷ bytes), drop n (b ∷ bytes), sym (take-append-drop n (b ∷ bytes)), rw e (longest_word b bytes letter), omega (arith, many, size.2)))

pub digits_pass : (here : List ℕ) (n : ℕ) → n ≡ prefix_len is_ascii_digit here → All IsDigit (take n here)
digits_pass here n e = All-from_recursion IsDigit (take n here) (rw e (run_passes is_ascii_digit IsDigit digit_test here))

pub number_front : (here : List ℕ) (n value : ℕ) → BeginsWith IsDigit here → n ≡ prefix_len is_ascii_digit here → value ≡ number_of (take n here) → value ≤ MAX_NUMBER → IsFront here (Some (kinds.Number value)) n
number_front [] n value h e is few = absurd h
number_front (b ∷ bytes) n value digit e is few =
    let size = run_size is_ascii_digit b bytes n ((digit_test b).1 digit) e in
    record {
      form = number;
      some = size.0;
      within = size.1;
      longest = rw e (longest_number b bytes digit);
      fits = λ great. omega (arith, great, is, few);
      is = ap (λ k. Some (kinds.Number k)) is;
    }

pub big_number : (here : List ℕ) (at n : ℕ) → BeginsWith IsDigit here → n ≡ prefix_len is_ascii_digit here → MAX_NUMBER < number_of (take n here) → ShowsAt at here (BigNumber at)
big_number [] at n h e great = absurd h
big_number (b ∷ bytes) at n digit e great = (refl, (take n (b ∷ bytes), drop n (b ∷ bytes), sym (take-append-drop n (b ∷ bytes)), rw e (longest_number b bytes digit), great))

pub comment_front : (here : List ℕ) (n : ℕ) → BeginsWith (λ b. b ≡ 35) here → n ≡ position_or_len (is_byte 10) here → IsFront here None n
comment_front [] n h e = absurd h
comment_front (b ∷ bytes) n hash e =
    let size = run_size (λ c. not (is_byte 10 c)) b bytes n ((line_test b).1 (λ line. omega arith)) e in
    record {
      form = comment;
      some = size.0;
      within = size.1;
      longest = rw e (longest_comment b bytes hash);
      fits = λ h. h;
      is = refl;
    }

-- at a quote, with the bytes after it
pub text_front : (here behind : List ℕ) (n : ℕ) → BeginsWith (λ b. b ≡ 34) here → behind ≡ drop 1 here → n ≡ prefix_len is_text_byte behind → QuoteAt behind n → IsFront here (Some kinds.Text) (n + 2)
text_front [] behind n h is e at = absurd h
text_front (b ∷ bytes) behind n quote is e at =
    rw (quote, ← is) (record {
      form = text;
      some = omega arith;
      within = omega (arith, at.0);
      longest = longest_quoted behind n e at;
      fits = λ h. h;
      is = refl;
    })

pub open_text : (here behind : List ℕ) (at n : ℕ) → BeginsWith (λ b. b ≡ 34) here → behind ≡ drop 1 here → n ≡ prefix_len is_text_byte behind → ¬ QuoteAt behind n → ShowsAt at here (OpenString at)
open_text [] behind at n h is e unclosed = absurd h
open_text (b ∷ bytes) behind at n quote is e unclosed = (refl, rw (quote, ← is) (begins_none_open behind (rw (← e) unclosed)), quote)

pub begins_from_read : (P : ℕ → Type 0) (here : List ℕ) → 0 < length here → P (get_or here 0 0) → BeginsWith P here
begins_from_read P [] some h = omega arith
begins_from_read P (b ∷ bytes) some h = h

line_free : (here : List ℕ) (n : ℕ) → Nowhere (Passes (is_byte 10) here) 0 n → (k : ℕ) → k < n → is_byte 10 (get_or here k 0) ≡ false
line_free here n none k h = false_from_ne_true (is_byte 10 (get_or here k 0)) (none k (omega arith) h)

pub line_end : (here : List ℕ) (found : Option ℕ) → IsFirstByte (is_byte 10) here found → unwrap_or found (length here) ≡ position_or_len (is_byte 10) here
line_end here None h = sym (position_or_len_is (is_byte 10) here (length here) 0 (omega arith) (line_free here (length here) h) (λ past. absurd (omega arith)))
line_end here (Some n) h = sym (position_or_len_is (is_byte 10) here n 0 (omega (arith, h.0.high)) (line_free here n h.0.before) (λ within. h.1))
