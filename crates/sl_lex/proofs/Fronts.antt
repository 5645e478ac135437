-- Which front of some bytes is their longest piece.
use Rattle.std.proofs.Common.{◌≡◌, ℕ, suc, ◌+◌, ◌<◌, ◌≤◌, Bool, true, List, [], ◌∷◌, ◌++◌, length, get_or, take, drop, refl, sym, ap, ◌∙◌, append_assoc, length-append, arith}
use Rattle.std.specs.Bool.{Decides}
use Rattle.std.specs.List.{AllByRecursion, prefix_len}
use Rattle.std.proofs.lemmas.List.{take-append-drop, length-take-le, drop_more, take_at, drop_at, get_or_at}
use Rattle.std.proofs.lemmas.List.Sums.{prefix_len-le-length}
use Rattle.sl_lex.specs.Pieces.{Form, blank, comment, word, number, text, mark, IsPiece, IsTextByte, IsBlank, IsMark, IsLongest, BeginsNone}
use Rattle.sl_lex.specs.declared.scan.Class.TheVariants as classes
use Rattle.sl_lex.specs.inner.Scan.{IsOfClass, is_text_byte}
use Rattle.sl_lex.proofs.ByteTests.{text_test}
use Rattle.sl_lex.proofs.Forms.{Begins, first_byte, one_form}
use Rattle.sl_lex.proofs.Runs.{run_passes, run_longest, run_stops}

-- no piece of the same form that begins with b is longer than bytes, before rest
abbrev IsUpTo : Form → ℕ → List ℕ → List ℕ → Type 0
IsUpTo f b bytes rest = (longer behind : List ℕ) → IsPiece f (b ∷ longer) → longer ++ behind ≡ bytes ++ rest → length longer ≤ length bytes

other_piece : (f : Form) (b : ℕ) (bytes rest : List ℕ) → IsPiece f (b ∷ bytes) → IsUpTo f b bytes rest
    → (g : Form) (longer behind : List ℕ) → IsPiece g longer → longer ++ behind ≡ (b ∷ bytes) ++ rest → length longer ≤ suc (length bytes)
other_piece f b bytes rest is upto g [] behind h e = absurd h
other_piece f b bytes rest is upto g (c ∷ longer) behind h e =
    let same : c ≡ b = cc in
    let tails : longer ++ behind ≡ bytes ++ rest = cc in
    let begins = rw same at (first_byte g c longer h) in
    let form : g ≡ f = one_form g f b begins (first_byte f b bytes is) in
    let k : IsPiece f (b ∷ longer) = rw (← same, ← form) h in
    omega (arith, upto longer behind k tails)

-- a piece than which none of its form is longer
pub longest : (f : Form) (b : ℕ) (bytes rest : List ℕ) → IsPiece f (b ∷ bytes) → IsUpTo f b bytes rest → IsLongest f (b ∷ bytes) rest
longest f b bytes rest is upto = record { is = is; longest = other_piece f b bytes rest is upto }

pub longest_blank : (b : ℕ) (rest : List ℕ) → IsBlank b → IsLongest blank (b ∷ []) rest
longest_blank b rest h = longest blank b [] rest (h, refl) (λ longer behind k e. omega (arith, ap length k.1))

pub longest_mark : (b : ℕ) (rest : List ℕ) → IsMark b → IsLongest mark (b ∷ []) rest
longest_mark b rest h = longest mark b [] rest (h, refl) (λ longer behind k e. omega (arith, ap length k.1))

-- a form whose pieces are a first byte and bytes that pass a test
module _ (p : ℕ → Bool) (P : ℕ → Type 0) (decides : (b : ℕ) → Decides (p b) (P b)) (f : Form) (b : ℕ)
    (whole : (bytes : List ℕ) → AllByRecursion P bytes → IsPiece f (b ∷ bytes)) (each : (bytes : List ℕ) → IsPiece f (b ∷ bytes) → AllByRecursion P bytes) where
  pub longest_run : (bytes : List ℕ) → IsLongest f (b ∷ take (prefix_len p bytes) bytes) (drop (prefix_len p bytes) bytes)
  longest_run bytes =
      let n : ℕ = prefix_len p bytes in
      longest f b (take n bytes) (drop n bytes) (whole (take n bytes) (run_passes p P decides bytes)) (λ longer behind k e.
      let all : longer ++ behind ≡ bytes = e ∙ take-append-drop n bytes in
      let upto = rw all at (run_longest p P decides longer behind (each longer k)) in
      let size : length (take n bytes) ≡ n = length-take-le n bytes (prefix_len-le-length p bytes) in
      omega (arith, upto, size))

  -- where the first byte passes the test too
  pub longest_front : (bytes : List ℕ) → p b ≡ true → IsLongest f (take (prefix_len p (b ∷ bytes)) (b ∷ bytes)) (drop (prefix_len p (b ∷ bytes)) (b ∷ bytes))
  longest_front bytes passes =
      let one : 1 + prefix_len p bytes ≡ suc (prefix_len p bytes) = omega arith in
      rw (passes, one) (longest_run bytes)

-- where bytes of a text end at a quote
inner_is_run : (inner behind : List ℕ) → AllByRecursion IsTextByte inner → prefix_len is_text_byte (inner ++ 34 ∷ behind) ≡ length inner
inner_is_run inner behind h = run_stops is_text_byte IsTextByte text_test inner 34 behind h (λ t. t.2 refl)

regroup : (bytes inner rest : List ℕ) → bytes ≡ inner ++ 34 ∷ [] → bytes ++ rest ≡ inner ++ 34 ∷ rest
regroup bytes inner rest e = ap (λ (xs : List ℕ). xs ++ rest) e ∙ append_assoc inner (34 ∷ []) rest

-- a quote, bytes of a text, a quote
pub longest_text : (inner rest : List ℕ) → AllByRecursion IsTextByte inner → IsLongest text (34 ∷ (inner ++ 34 ∷ [])) rest
longest_text inner rest h = longest text 34 (inner ++ 34 ∷ []) rest (refl, inner, refl, h) (λ longer behind k e.
    let same : k.1 ++ 34 ∷ behind ≡ inner ++ 34 ∷ rest = sym (regroup longer k.1 behind k.2) ∙ e ∙ append_assoc inner (34 ∷ []) rest in
    let m : length k.1 ≡ length inner = sym (inner_is_run k.1 behind k.3) ∙ ap (prefix_len is_text_byte) same ∙ inner_is_run inner rest h in
    omega (arith, ap length k.2, length-append k.1 (34 ∷ []), length-append inner (34 ∷ [])))

-- a quote stands there
abbrev pub QuoteAt : List ℕ → ℕ → Type 0
QuoteAt bytes n = (n < length bytes) × (get_or bytes n 0 ≡ 34)

-- the bytes after a quote, up to the next quote
pub longest_quoted : (behind : List ℕ) (n : ℕ) → n ≡ prefix_len is_text_byte behind → QuoteAt behind n → IsLongest text (take (n + 2) (34 ∷ behind)) (drop (n + 2) (34 ∷ behind))
longest_quoted behind n e at =
    let inner : List ℕ = take n behind in
    let rest : List ℕ = drop (n + 1) behind in
    let passes : AllByRecursion IsTextByte inner = rw e (run_passes is_text_byte IsTextByte text_test behind) in
    let front : List ℕ = 34 ∷ (inner ++ 34 ∷ []) in
    let cut : behind ≡ inner ++ 34 ∷ rest = sym (take-append-drop n behind) ∙ ap (λ (xs : List ℕ). take n behind ++ xs) (drop_more behind n 0 at.0 ∙ ap (λ (b : ℕ). b ∷ rest) at.1) in
    let all : 34 ∷ behind ≡ front ++ rest = ap (λ (xs : List ℕ). 34 ∷ xs) (cut ∙ sym (append_assoc inner (34 ∷ []) rest)) in
    let size : length front ≡ n + 2 = omega (arith, length-append inner (34 ∷ []), length-take-le n behind) in
    let taken : take (n + 2) (34 ∷ behind) ≡ front = ap (take (n + 2)) all ∙ take_at front rest (n + 2) size in
    let left : drop (n + 2) (34 ∷ behind) ≡ rest = ap (drop (n + 2)) all ∙ drop_at front rest (n + 2) size in
    rw (taken, left) (longest_text inner rest passes)

ends_at : (inner rest : List ℕ) → QuoteAt (inner ++ 34 ∷ rest) (length inner)
ends_at inner rest = (omega (arith, length-append inner (34 ∷ rest)), get_or_at inner 34 rest 0 (length inner) refl)

closed : (behind bytes rest : List ℕ) → IsPiece text (34 ∷ bytes) → behind ≡ bytes ++ rest → QuoteAt behind (prefix_len is_text_byte behind)
closed behind bytes rest h e =
    let cut : behind ≡ h.1 ++ 34 ∷ rest = e ∙ regroup bytes h.1 rest h.2 in
    rw (cut, inner_is_run h.1 rest h.3) (ends_at h.1 rest)

not_open : (behind : List ℕ) → ¬ QuoteAt behind (prefix_len is_text_byte behind) → (f : Form) (piece rest : List ℕ) → IsPiece f piece → 34 ∷ behind ≡ piece ++ rest → ⊥
not_open behind unclosed f [] rest h e = absurd h
not_open behind unclosed f (c ∷ bytes) rest h e =
    let same : c ≡ 34 = cc in
    let form : f ≡ text = one_form f text 34 (rw same at (first_byte f c bytes h)) refl in
    unclosed (closed behind bytes rest (rw (same, form) at h) cc)

-- no piece begins at a quote after which no quote ends the bytes of a text
pub begins_none_open : (behind : List ℕ) → ¬ QuoteAt behind (prefix_len is_text_byte behind) → BeginsNone (34 ∷ behind)
begins_none_open behind unclosed = λ f piece rest h e. not_open behind unclosed f piece rest h e

no_form : (f : Form) (b : ℕ) → IsOfClass classes.Other b → Begins f b → ⊥
no_form blank b other h = other.0 h
no_form comment b other h = other.1 h
no_form word b other h = other.2 h
no_form number b other h = other.3 h
no_form text b other h = other.4 h
no_form mark b other h = other.5 h

not_other : (b : ℕ) (behind : List ℕ) → IsOfClass classes.Other b → (f : Form) (piece rest : List ℕ) → IsPiece f piece → b ∷ behind ≡ piece ++ rest → ⊥
not_other b behind other f [] rest h e = absurd h
not_other b behind other f (c ∷ bytes) rest h e =
    let same : c ≡ b = cc in
    no_form f b other (rw same at (first_byte f c bytes h))

-- no piece begins at a byte of no form
pub begins_none_other : (b : ℕ) (behind : List ℕ) → IsOfClass classes.Other b → BeginsNone (b ∷ behind)
begins_none_other b behind other = λ f piece rest h e. not_other b behind other f piece rest h e
