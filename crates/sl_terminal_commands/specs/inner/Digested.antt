-- The digests of inputs by what was read of them.
use Rattle.std.specs.Prelude.{List, if◌then◌else◌, flat_map, ◌∷◌, ◌++◌, ◌==◌, ℕ, []}
use Rattle.sl_count_calls.specs.declared.reading.Read.{Read}
use Rattle.sl_count_inputs.specs.Books.{library}
use Rattle.sl_count_inputs.specs.Texts.{bytes_of}
use Rattle.sl_report_commands.specs.inner.Digested.{book_digested, count_digested, refusal_of, returns_digested}
use Rattle.sl_terminal_commands.specs.declared.sums.NamedBook.{NamedBook}
use Rattle.sl_terminal_commands.specs.declared.sums.NamedReturns.{NamedReturns}

-- the bytes of the rulebook of a word: those of the library's after `@`, which is 64, and else those that were read
abbrev pub word_bytes : (word read : List ℕ) → List ℕ
word_bytes [] read = read
word_bytes (first ∷ rest) read = if first == 64 then bytes_of (library rest) else read

-- of a count
abbrev pub read_digests : (word : List ℕ) → Read → List (List ℕ)
read_digests word read = count_digested read.judged (word_bytes word read.book.items) read.returns.items

-- of rulebooks and of returns
abbrev pub named_digest : NamedBook → List (List ℕ)
named_digest b = book_digested (refusal_of b.read.verdict) (word_bytes b.word.now b.read.text.items)

abbrev pub read_digest : NamedReturns → List (List ℕ)
read_digest r = returns_digested (refusal_of r.read.verdict) r.read.text.items

abbrev pub called_digests : List NamedBook → NamedReturns → List (List ℕ)
called_digests books returns = flat_map named_digest books ++ read_digest returns
