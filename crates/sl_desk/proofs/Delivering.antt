-- Two texts that are delivered, one after the other.
use Rattle.std.proofs.Common.{◌≡◌, Result, Ok, Err, Option, List, ℕ, IfErr, ap, ◌∙◌, inl, inr}
use Rattle.sl_count_inputs.specs.declared.status.Status.{Status}
use Rattle.sl_count_inputs.specs.declared.status.DeskError.{DeskError}
use Rattle.sl_count_inputs.specs.declared.status.DeskError.TheVariants.{Read, Write, NoMemory}
use Rattle.sl_count_inputs.specs.Failures.{Counts, counts, counts_after, FailsInOne}
use Rattle.sl_count_inputs.specs.Writing.{DeliversBoth}

-- these texts, with that status
abbrev pub Are : Status → List ℕ → List ℕ → Status → List ℕ → List ℕ → Type 0
Are s a b status x y = (status ≡ s) × (x ≡ a) × (y ≡ b)

-- where the two texts that were to be written are of the relation
pub delivers_texts : (AreTexts : Status → List ℕ → List ℕ → Type 0) (s : Status) (a b : List ℕ) (failed failed' : ℕ) (first first' second second' : Option (List ℕ)) (r : Result Status DeskError)
    → AreTexts s a b → DeliversBoth (Are s a b) failed failed' first first' second second' r → DeliversBoth AreTexts failed failed' first first' second second' r
delivers_texts AreTexts s a b failed failed' first first' second second' (Ok status) h d = (d.0, d.1, are status d.0 d.1 h d.2, d.3, d.4)
  where
    are : (status : Status) (x y : List ℕ) → AreTexts s a b → Are s a b status x y → AreTexts status x y
    are status x y h same = rw (same.0, same.1, same.2) h
delivers_texts AreTexts s a b failed failed' first first' second second' (Err Write) h d = (d.0, d.1, d.2, rw (d.3.0, d.3.1, d.3.2) h, d.4)
delivers_texts AreTexts s a b failed failed' first first' second second' (Err (Read input)) h d = d
delivers_texts AreTexts s a b failed failed' first first' second second' (Err NoMemory) h d = d

-- ---- failures of one of two writers

with_book : (book book' out out' : ℕ) (r : Result Status DeskError) → counts book' 0 0 0 ≡ counts book 0 0 0 → IfErr r (λ e. e ≡ Write)
    → counts 0 0 0 out' ≡ counts_after (counts 0 0 0 out) r → counts book' 0 0 out' ≡ counts_after (counts book 0 0 out) r
with_book book book' out out' (Ok status) same is h =
    ap (λ (c : Counts). counts c.book 0 0 out') same ∙ ap (λ (c : Counts). counts book 0 0 c.out) h
with_book book book' out out' (Err Write) same is h =
    ap (λ (c : Counts). counts c.book 0 0 out') same ∙ ap (λ (c : Counts). counts book 0 0 c.out) h
with_book book book' out out' (Err (Read input)) same is h = absurd cc
with_book book book' out out' (Err NoMemory) same is h = absurd cc

-- a book without a failure was read before
pub fails_behind : (book book' first first' second second' : ℕ) (r : Result Status DeskError) → counts book' 0 0 0 ≡ counts book 0 0 0 → IfErr r (λ e. e ≡ Write)
    → FailsInOne 0 0 first first' second second' r → FailsInOne book book' first first' second second' r
fails_behind book book' first first' second second' r same is (inl h) = inl (with_book book book' first first' r same is h.0, h.1)
fails_behind book book' first first' second second' r same is (inr h) = inr (with_book book book' second second' r same is h.0, h.1)
