-- The digests of what was read are those of the inputs that words name.
use Rattle.std.proofs.Common.{All, Bool, IfSome, List, None, Option, Some, [], ap, arith, cond, false, map, option_map, refl, suc, true, ◌++◌, ◌∙◌, ◌∷◌, ◌==◌, ◌≡◌, ℕ}
use Rattle.std.specs.Prelude.{flat_map, option_and_then}
use Rattle.sl_count_inputs.specs.Books.{BookInput, IsBookVerdict, library, text}
use Rattle.sl_count_inputs.specs.Judging.{tree_verdict}
use Rattle.sl_count_inputs.specs.Reading.{ForKnown}
use Rattle.sl_count_inputs.specs.Texts.{IsBookText, bytes_of}
use Rattle.sl_report_commands.proofs.Digested.{judged_book, judged_returns}
use Rattle.sl_report_commands.specs.Digests.{book_digest}
use Rattle.sl_report_commands.specs.inner.Digested.{IsHanded}
use Rattle.sl_terminal_commands.specs.Comparisons.{compared_digests, named_inputs}
use Rattle.sl_terminal_commands.specs.declared.sums.NamedBook.{NamedBook}
use Rattle.sl_terminal_commands.specs.declared.sums.NamedReturns.{NamedReturns}
use Rattle.sl_terminal_commands.specs.inner.Comparing.{AreReadOf, IsReadBook}
use Rattle.sl_terminal_commands.specs.inner.Digested.{called_digests, named_digest, read_digest, word_bytes}
use Rattle.sl_terminal_outside.specs.Inputs.{named_input}

-- the bytes of a word are handed on
pub handed_word : (bytes : List ℕ → Option (List ℕ)) (word read : List ℕ) → IfSome (named_input bytes word) (λ i. IsBookText i read)
    → IfSome (named_input bytes word) (λ i. IsHanded i (word_bytes word read))
handed_word bytes [] read is = go (bytes []) is
  where
    go : (known : Option (List ℕ)) → IfSome (option_map text known) (λ i. IsBookText i read) → IfSome (option_map text known) (λ i. IsHanded i read)
    go None is = tt
    go (Some b) is = is
handed_word bytes (first ∷ rest) read is = go (first == 64) (bytes (first ∷ rest)) is
  where
    go : (at : Bool) (known : Option (List ℕ)) → IfSome (cond at (Some (library rest)) (option_map text known)) (λ i. IsBookText i read)
        → IfSome (cond at (Some (library rest)) (option_map text known)) (λ i. IsHanded i (cond at (bytes_of (library rest)) read))
    go true known is = refl
    go false None is = tt
    go false (Some b) is = is

module _ (bytes : List ℕ → Option (List ℕ)) where
  digest_each : (b : NamedBook) → IsReadBook bytes b → IfSome (named_input bytes b.word.now) (λ i. named_digest b ≡ book_digest i)
  digest_each b read = go (named_input bytes b.word.now) read.verdict (handed_word bytes b.word.now b.read.text.items read.text)
    where
      go : (i : Option BookInput) → IfSome i (λ i. IsBookVerdict i (tree_verdict b.read.verdict)) → IfSome i (λ i. IsHanded i (word_bytes b.word.now b.read.text.items))
          → IfSome i (λ i. named_digest b ≡ book_digest i)
      go None verdict handed = tt
      go (Some i) verdict handed = judged_book i b.read.verdict (word_bytes b.word.now b.read.text.items) verdict handed

  digests_each : (books : List NamedBook) → All (IsReadBook bytes) books
      → IfSome (named_inputs bytes (map (λ (b : NamedBook). b.word.now) books)) (λ inputs. flat_map named_digest books ≡ flat_map book_digest inputs)
  digests_each [] read = refl
  digests_each (b ∷ books) read =
      go (named_input bytes b.word.now) (named_inputs bytes (map (λ (b : NamedBook). b.word.now) books)) (digest_each b (read 0 b (omega arith)))
      (digests_each books (λ k d lt. read (suc k) d (omega (arith, lt))))
    where
      go : (i : Option BookInput) (is : Option (List BookInput)) → IfSome i (λ i. named_digest b ≡ book_digest i)
          → IfSome is (λ inputs. flat_map named_digest books ≡ flat_map book_digest inputs)
          → IfSome (option_and_then (λ input. option_map (λ inputs. input ∷ inputs) is) i) (λ inputs. flat_map named_digest (b ∷ books) ≡ flat_map book_digest inputs)
      go None is one more = tt
      go (Some i) None one more = tt
      go (Some i) (Some is) one more = ap (λ d. d ++ flat_map named_digest books) one ∙ ap (λ d. book_digest i ++ d) more

  pub digests_on : (books : List NamedBook) (r : NamedReturns) (known : Option (List ℕ)) → All (IsReadBook bytes) books → AreReadOf known r
      → ForKnown (named_inputs bytes (map (λ (b : NamedBook). b.word.now) books)) known (λ inputs k. called_digests books r ≡ compared_digests inputs k)
  digests_on books r known read are = go (named_inputs bytes (map (λ (b : NamedBook). b.word.now) books)) known (digests_each books read) are
    where
      go : (is : Option (List BookInput)) (known : Option (List ℕ)) → IfSome is (λ inputs. flat_map named_digest books ≡ flat_map book_digest inputs) → AreReadOf known r
          → ForKnown is known (λ inputs k. called_digests books r ≡ compared_digests inputs k)
      go None known one are = tt
      go (Some is) None one are = tt
      go (Some is) (Some k) one are =
          ap (λ d. d ++ read_digest r) one ∙ ap (λ d. flat_map book_digest is ++ d) (judged_returns k r.read.verdict r.read.text.items are.verdict are.text)
