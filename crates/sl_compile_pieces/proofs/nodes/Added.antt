-- Records that are added: none, or those of one plan after those of another.
use Rattle.std.proofs.Common.{◌≡◌, ℕ, [], ◌++◌, sym, ap, ◌∙◌, append_assoc, append-nil}
use Rattle.std.proofs.lemmas.List.Sorted.{IsPermutation-refl, IsPermutation-append}
use Rattle.sl_law_meaning.specs.meaning.Records.{Records, no_records, both_records}
use Rattle.sl_code_semantics.specs.State.{State}
use Rattle.sl_compile_pieces.specs.nodes.Scopes.{AddsRecords}

pub adds_none : (s t : State) → t.steps ≡ s.steps → t.weights ≡ s.weights → ((winner : ℕ) → t.placed winner ≡ s.placed winner) → AddsRecords no_records s t
adds_none s t steps weights placed = record {
  added = [];
  steps = steps ∙ sym (append-nil s.steps);
  are = IsPermutation-refl [];
  weights = weights ∙ sym (append-nil s.weights);
  placed = placed;
}

pub adds_more : (one two : Records) (s t u : State) → AddsRecords one s t → AddsRecords two t u → AddsRecords (both_records one two) s u
adds_more one two s t u h k = record {
  added = h.added ++ k.added;
  steps = k.steps ∙ ap (λ l. l ++ k.added) h.steps ∙ append_assoc s.steps h.added k.added;
  are = IsPermutation-append h.added one.steps k.added two.steps h.are k.are;
  weights = k.weights ∙ ap (λ l. l ++ two.weights) h.weights ∙ append_assoc s.weights one.weights two.weights;
  placed = λ winner. k.placed winner ∙ h.placed winner;
}
