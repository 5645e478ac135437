-- From the start on, the plans of a book's facts reach a state that holds them, and in which nothing else is done yet.
use Rattle.std.proofs.Common.{◌≡◌, ℕ, ◌+◌, ◌<◌, List, [], ◌∷◌, length, map, refl, sym, subst, arith}
use Rattle.std.proofs.lemmas.Option.{none-some}
use Rattle.sl_law_meaning.specs.declared.book.Cond.{Cond}
use Rattle.sl_base_terms.specs.declared.shape.Shape.TheVariants as shape
use Rattle.sl_law_meaning.specs.declared.fact.Fact.{Fact}
use Rattle.sl_law_meaning.specs.declared.fact.Fact.TheVariants as facts
use Rattle.sl_law_meaning.specs.declared.fact.TheConstants.{FACTS}
use Rattle.sl_law_meaning.specs.book.Trees.{BookTree}
use Rattle.sl_law_meaning.specs.book.Typing.{fact_number}
use Rattle.sl_law_meaning.specs.returns.Election.{Election, IsElection}
use Rattle.sl_law_meaning.specs.returns.Facts.{by_party}
use Rattle.sl_law_meaning.specs.meaning.Means.{nothing_known}
use Rattle.sl_code_instructions.specs.Codes.{CountingCode}
use Rattle.sl_code_semantics.specs.State.{State, start}
use Rattle.sl_code_semantics.specs.Effects.{one_if}
use Rattle.sl_compile_plans.specs.Achieves.{Never}
use Rattle.sl_compile_plans.specs.Laid.{AchievesAll}
use Rattle.sl_compile_plans.proofs.Rules.{achieves_more}
use Rattle.sl_compile_pieces.specs.columns.Columns.{HoldsColumn}
use Rattle.sl_compile_pieces.specs.facts.Trees.{fact_tree}
use Rattle.sl_compile_pieces.specs.facts.Laws.{HasFactSlots, flags, GetsFlags}
use Rattle.sl_compile_pieces.proofs.facts.Eligible.{eligible_are_told}
use Rattle.sl_compile_pieces.proofs.facts.Facts.{facts_are_told}
use Rattle.sl_compile_pieces.specs.exprs.Slots.{fact_slots}
use Rattle.sl_compile_pieces.specs.exprs.Stages.{IsBehind}
use Rattle.sl_compile_pieces.proofs.nodes.Added.{adds_none}
use Rattle.sl_compile.specs.Conditions.{SayTheSame}
use Rattle.sl_compile.specs.Codes.{facts_pieces}
use Rattle.sl_compile.proofs.rulebooks.Told.{IsBlank, Told, AreNumbered, one_told}

-- the facts are stored, and no stage is after
pub record HasFacts (b : BookTree) (e : Election) (s : State) : Type 0 where
  pub behind : IsBehind b e nothing_known s s
  pub flags : HoldsColumn e shape.Party (s.columns fact_slots.eligible) (flags b.eligible e)
  pub blank : IsBlank s

-- few conditions that say what the book's say tell the same column
same_flags : (few conditions : List Cond) (e : Election) → SayTheSame few conditions → flags few e ≡ flags conditions e
same_flags few conditions e same = λ i. by_party e (λ party. one_if (same.same e party i))

all_numbered : (told : Fact) → fact_number told < length FACTS
all_numbered facts.House = omega arith
all_numbered told = omega arith

module _ (c : CountingCode) (few : List Cond) (b : BookTree) (e : Election) (is : IsElection e) (slots : HasFactSlots c fact_slots) (same : SayTheSame few b.eligible) where
  -- where all are stored
  all_told : (s : State) → Told b e (length FACTS) s → HasFacts b e s
  all_told s h = record {
    behind = record {
      typed = tt;
      known = record { facts = λ told. h.facts told (all_numbered told); stages = λ k t x type named. absurd (none-some t type) };
      low = λ slot q below. refl;
      adds = adds_none s s refl refl (λ winner. refl);
    };
    flags = h.flags;
    blank = h.blank;
  }

  each_told : (n : ℕ) (fs : List Fact) → AreNumbered n fs → n + length fs ≡ length FACTS → (s : State) → Told b e n s
      → AchievesAll c e (map (fact_tree fact_slots b.house.value) fs) s (HasFacts b e) Never
  each_told n [] numbered all s h = all_told s (subst (λ m. Told b e m s) (omega (arith, all)) h)
  each_told n (f ∷ fs) numbered all s h =
      let first : fact_number f ≡ n = cc in
      let rest : AreNumbered (n + 1) fs = cc in
      achieves_more (facts_are_told c b e fact_slots f s is slots h.flags)
      (λ t g.
      each_told (n + 1) fs rest (omega (arith, all)) t
      (subst (λ m. Told b e (m + 1) t) first (one_told b e f s t (subst (λ m. Told b e m s) (sym first) h) g)))
      (λ x no. no)

  eligible_told : (s : State) → GetsFlags few e fact_slots start s → Told b e 0 s
  eligible_told s h = record {
    flags = subst (λ (values : List ℕ). HoldsColumn e shape.Party (s.columns fact_slots.eligible) values) (same_flags few b.eligible e same) h.holds;
    facts = λ told less. absurd (omega (arith, less));
    blank = record { steps = h.steps; weights = h.weights; nobody = h.placed };
  }

  pub facts_achieve : AchievesAll c e (facts_pieces few b) start (HasFacts b e) Never
  facts_achieve =
      achieves_more (eligible_are_told c e fact_slots few start is slots same.shares)
      (λ s h. each_told 0 FACTS refl refl s (eligible_told s h))
      (λ x no. no)
