-- The tests of a byte decide what they are called after.
use Rattle.std.proofs.Common.{◌≡◌, ℕ, not, arith}
use Rattle.std.specs.Bool.{Decides}
use Rattle.std.specs.Char.{is_ascii_digit}
use Rattle.std.proofs.lemmas.Bool.Decides.{nat_tests}
use Rattle.memchr.specs.Find.{is_byte}
use Rattle.sl_lex.specs.Pieces.{IsWordByte, IsDigit, IsTextByte}
use Rattle.sl_lex.specs.inner.Scan.{is_word_byte, is_text_byte}

pub word_test : (b : ℕ) → Decides (is_word_byte b) (IsWordByte b)
word_test b = (λ e. grind (arith, nat_tests), λ h. grind (arith, nat_tests))

pub digit_test : (b : ℕ) → Decides (is_ascii_digit b) (IsDigit b)
digit_test b = (λ e. grind (arith, nat_tests), λ h. grind (arith, nat_tests))

pub text_test : (b : ℕ) → Decides (is_text_byte b) (IsTextByte b)
text_test b = (λ e. grind (arith, nat_tests), λ h. grind (arith, nat_tests))

pub line_test : (b : ℕ) → Decides (not (is_byte 10 b)) (b ≡ 10 → ⊥)
line_test b = (λ e. grind (arith, nat_tests), λ h. grind (arith, nat_tests))
