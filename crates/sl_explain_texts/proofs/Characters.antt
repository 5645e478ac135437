-- Bytes that are tested for UTF-8, and what is shown of them.
use Rattle.std.proofs.Common.{◌≡◌, Bool, true, false, Err, List, Ok, Result, ap, if◌then◌else◌, map, refl, sym, ℕ}
use Rattle.std.specs.Prelude.{IsUtf8, MatchResult}
use Rattle.std.specs.Result.{is_ok}
use Rattle.std.specs.Str.{chars, encode_utf8_all, is_utf8}
use Rattle.std.proofs.lemmas.Str.{IsUtf8-from_is_utf8, is_utf8-from_IsUtf8}
use Rattle.sl_explain_texts.specs.Shown.{character_of, shown, shown_character}

no_text : (bytes : List ℕ) → (IsUtf8 bytes → ⊥) → is_utf8 bytes ≡ false
no_text bytes none = go (is_utf8 bytes) refl
  where
    go : (b : Bool) → is_utf8 bytes ≡ b → is_utf8 bytes ≡ false
    go true is = absurd (none (IsUtf8-from_is_utf8 bytes is))
    go false is = is

pub tested : {A E : Type 0} (P : A → Type 0) (Q : E → Type 0) (bytes : List ℕ) (r : Result A E)
    → MatchResult r (λ s. P s × IsUtf8 bytes) (λ e. (IsUtf8 bytes → ⊥) × Q e) → is_ok r ≡ is_utf8 bytes
tested P Q bytes (Ok s) told = sym (is_utf8-from_IsUtf8 bytes told.1)
tested P Q bytes (Err e) told = sym (no_text bytes told.0)

-- where the test is known
abbrev shown_if : List ℕ → Bool → List ℕ
shown_if bytes b = encode_utf8_all (map shown_character (if b then chars bytes else map character_of bytes))

pub shown_text : (bytes : List ℕ) → IsUtf8 bytes → encode_utf8_all (map shown_character (chars bytes)) ≡ shown bytes
shown_text bytes is = ap (shown_if bytes) (sym (is_utf8-from_IsUtf8 bytes is))

pub shown_bytes : (bytes : List ℕ) → (IsUtf8 bytes → ⊥) → encode_utf8_all (map shown_character (map character_of bytes)) ≡ shown bytes
shown_bytes bytes none = ap (shown_if bytes) (sym (no_text bytes none))
