-- Facts that are stored one after the other, from the start on: what holds after each plan.
use Rattle.std.proofs.Common.{◌≡◌, ℕ, ◌+◌, ◌<◌, List, [], length, map, get_or, refl, sym, ap, subst, ◌∙◌, inl, inr, arith}
use Rattle.std.specs.List.{range_with_len}
use Rattle.std.proofs.lemmas.Bool.{cases_eq}
use Rattle.sl_base_terms.specs.declared.shape.Shape.TheVariants as shape
use Rattle.sl_law_meaning.specs.declared.fact.Fact.{Fact}
use Rattle.sl_law_meaning.specs.declared.fact.Fact.TheVariants as facts
use Rattle.sl_law_meaning.specs.declared.fact.TheConstants.{FACTS}
use Rattle.sl_law_meaning.specs.declared.table.Placed.TheVariants as placed
use Rattle.sl_law_meaning.specs.book.Trees.{BookTree}
use Rattle.sl_law_meaning.specs.book.Typing.{fact_number, fact_type}
use Rattle.sl_law_meaning.specs.returns.Election.{Election}
use Rattle.sl_law_meaning.specs.meaning.Columns.{fact_column}
use Rattle.sl_code_semantics.specs.State.{State}
use Rattle.sl_compile_pieces.specs.columns.Columns.{HoldsColumn, GetsColumn}
use Rattle.sl_compile_pieces.specs.exprs.Slots.{fact_slots}
use Rattle.sl_compile_pieces.specs.facts.Laws.{flags}
use Rattle.sl_compile_pieces.proofs.columns.Cells.{still_holds}

-- nothing is recorded, and nobody is placed
pub record IsBlank (s : State) : Type 0 where
  pub steps : s.steps ≡ []
  pub weights : s.weights ≡ []
  pub nobody : (winner : ℕ) → s.placed winner ≡ placed.Unseated

-- the eligible parties and the facts of the first numbers are in their slots, and nothing else is done
pub record Told (b : BookTree) (e : Election) (n : ℕ) (s : State) : Type 0 where
  pub flags : HoldsColumn e shape.Party (s.columns fact_slots.eligible) (flags b.eligible e)
  pub facts : (told : Fact) → fact_number told < n → HoldsColumn e (fact_type told).shape (s.columns (fact_slots.of told)) (fact_column b e told)
  pub blank : IsBlank s

-- facts in the order of their numbers, the first of them of that number
abbrev pub AreNumbered : ℕ → List Fact → Type 0
AreNumbered n fs = map fact_number fs ≡ range_with_len n (length fs)

at_number : (told : Fact) → get_or FACTS (fact_number told) facts.House ≡ told
at_number facts.House = refl
at_number told = refl

-- no two facts have one number
same_fact : (told other : Fact) → fact_number told ≡ fact_number other → told ≡ other
same_fact told other same = sym (at_number told) ∙ ap (λ n. get_or FACTS n facts.House) same ∙ at_number other

-- one fact more
pub one_told : (b : BookTree) (e : Election) (f : Fact) (s t : State) → Told b e (fact_number f) s
    → GetsColumn e (fact_type f).shape (fact_slots.of f) (fact_column b e f) s t → Told b e (fact_number f + 1) t
one_told b e f s t h g = record {
  flags = still_holds e shape.Party (s.columns fact_slots.eligible) (t.columns fact_slots.eligible) (flags b.eligible e)
      (λ q. g.changes.columns fact_slots.eligible q (λ same. omega (arith, same))) h.flags;
  facts = λ told less. elim (cases_eq (fact_number told) (fact_number f)) [
    | inl same ↦ subst (λ x. HoldsColumn e (fact_type x).shape (t.columns (fact_slots.of x)) (fact_column b e x)) (sym (same_fact told f same)) g.holds
    | inr other ↦
        still_holds e (fact_type told).shape (s.columns (fact_slots.of told)) (t.columns (fact_slots.of told)) (fact_column b e told)
        (λ q. g.changes.columns (fact_slots.of told) q (λ same. omega (arith, same, other))) (h.facts told (omega (arith, less, other)))
  ];
  blank = record { steps = g.changes.steps ∙ h.blank.steps; weights = g.changes.weights ∙ h.blank.weights; nobody = λ w. g.changes.placed w ∙ h.blank.nobody w };
}
