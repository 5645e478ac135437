-- Plans of a cell: one more in it, and a party is let in.
use Rattle.std.proofs.Common.{◌≡◌, ◌≢◌, ℕ, ◌+◌, ◌<◌, min, Bool, true, false, Some, slice_get, if◌then◌else◌, refl, sym, ap, subst, ◌∙◌, inl, inr, arith}
use Rattle.std.proofs.lemmas.Bool.{cases_eq}
use Rattle.sl_base_terms.specs.declared.shape.Shape.{Shape}
use Rattle.sl_base_terms.specs.declared.shape.Shape.TheVariants as shape
use Rattle.sl_law_meaning.specs.returns.Election.{Election}
use Rattle.sl_code_instructions.specs.Codes.{CountingCode}
use Rattle.sl_code_semantics.specs.State.{State, with_register, with_column, with_cell}
use Rattle.sl_code_semantics.specs.Places.{cell_at}
use Rattle.sl_code_semantics.specs.Effects.{most, one_if}
use Rattle.sl_code_semantics.proofs.effects.Registers.{get_does, store_does}
use Rattle.sl_code_semantics.proofs.effects.Storing.{cell_same, cell_other_place, column_same, column_other}
use Rattle.sl_compile_plans.specs.Trees.{Line, ones}
use Rattle.sl_compile_plans.specs.Achieves.{Achieves, Never}
use Rattle.sl_compile_plans.proofs.Rules.{line_ends, line_goes, achieves_so}
use Rattle.sl_compile_pieces.specs.facts.Trees.{FactSlots, cell, count_one, let_in, nothing}

-- a register is no cursor
cell_stays : (e : Election) (at : Shape) (r v : ℕ) (s : State) → cell_at e at (with_register r v s) ≡ cell_at e at s
cell_stays e shape.One r v s = refl
cell_stays e _ r v s = refl

-- in that place the column has the value, and elsewhere it is as it was
pub record Puts (place value : ℕ) (before after : ℕ → ℕ) : Type 0 where
  pub here : after place ≡ value
  pub others : (q : ℕ) → q ≢ place → after q ≡ before q

pub stored : (s : State) (slot place value : ℕ) → Puts place value (s.columns slot) ((with_cell slot place value s).columns slot)
stored s slot place value = record { here = cell_same s slot place value; others = λ q other. cell_other_place s slot place value q other }

-- a party is let in where the test says so, and else its cell is as it was
abbrev pub LetIn : FactSlots → ℕ → State → Bool → State → Type 0
LetIn x p s test t = Puts p (if test then 1 else s.columns x.eligible p) (s.columns x.eligible) (t.columns x.eligible)

-- after a whole column is written
module _ (s : State) (slot : ℕ) (cells : ℕ → ℕ) where
  pub cell_written : (q : ℕ) → (with_column slot cells s).columns slot q ≡ cells q
  cell_written q = ap (λ (f : ℕ → ℕ). f q) (column_same s slot cells)

  pub cell_not_written : (k q : ℕ) → k ≢ slot → (with_column slot cells s).columns k q ≡ s.columns k q
  cell_not_written k q other = ap (λ (f : ℕ → ℕ). f q) (column_other s slot cells k other)

-- the column counts one more in each place of which the test holds
abbrev pub CountsWhere : ℕ → (ℕ → Bool) → State → State → Type 0
CountsWhere slot test s t = (q : ℕ) → t.columns slot q ≡ s.columns slot q + one_if (test q)

none_there : (b : Bool) (n : ℕ) → b ≡ false → n ≡ n + one_if b
none_there b n fails = let none : n ≡ n + 0 = omega arith in none ∙ ap (λ b. n + one_if b) (sym fails)

one_place : (test : ℕ → Bool) (place : ℕ) (before after : ℕ → ℕ) → Puts place (before place + 1) before after → test place ≡ true → ((q : ℕ) → q ≢ place → test q ≡ false)
    → (q : ℕ) → after q ≡ before q + one_if (test q)
one_place test place before after put there nowhere q =
    elim (cases_eq q place) [
      | inl is ↦ ap after is ∙ put.here ∙ ap (λ b. before place + one_if b) (sym there) ∙ ap (λ n. before n + one_if (test n)) (sym is)
      | inr other ↦ put.others q other ∙ none_there (test q) (before q) (nowhere q other)
    ]

module _ (c : CountingCode) (e : Election) where
  counts_one : (s : State) (at : Shape) (slot place : ℕ) → slice_get c.slots slot ≡ Some at → cell_at e at s ≡ Some place → s.columns slot place < most
      → Achieves c e (Line (count_one slot)) s (λ t. Puts place (s.columns slot place + 1) (s.columns slot) (t.columns slot)) Never
  counts_one s at slot place known there below =
      let x : ℕ = s.columns slot place in
      let s1 : State = with_register cell x s in
      let s2 : State = with_register ones 1 s1 in
      let s3 : State = with_register cell (min (x + 1) most) s2 in
      let sum : min (x + 1) most ≡ x + 1 = omega (arith, below) in
      let still : cell_at e at s3 ≡ Some place = cell_stays e at cell (min (x + 1) most) s2 ∙ cell_stays e at ones 1 s1 ∙ cell_stays e at cell x s ∙ there in
      let put : Puts place (min (x + 1) most) (s.columns slot) ((with_cell slot place (min (x + 1) most) s3).columns slot) = stored s3 slot place (min (x + 1) most) in
      line_goes (get_does c e s slot at known cell place there)
      (line_goes refl (line_goes refl
      (line_goes (store_does c e s3 slot at known cell place still) (line_ends (record { here = put.here ∙ sum; others = put.others })))))

  -- from a state with the same columns
  module _ (slot : ℕ) (test : ℕ → Bool) (s u : State) (same : u.columns ≡ s.columns) where
    as_before : u.columns slot ≡ s.columns slot
    as_before = ap (λ (f : ℕ → ℕ → ℕ). f slot) same

    -- where the test holds of one place alone, and of none
    pub counts_at : (at : Shape) (place : ℕ) → slice_get c.slots slot ≡ Some at → cell_at e at u ≡ Some place → s.columns slot place < most
        → test place ≡ true → ((q : ℕ) → q ≢ place → test q ≡ false) → Achieves c e (Line (count_one slot)) u (CountsWhere slot test s) Never
    counts_at at place known there below holds nowhere =
        achieves_so (counts_one u at slot place known there (subst (λ (f : ℕ → ℕ). f place < most) (sym as_before) below))
        (λ t put. one_place test place (s.columns slot) (t.columns slot) (subst (λ (f : ℕ → ℕ). Puts place (f place + 1) f (t.columns slot)) as_before put) holds nowhere)

    pub counts_nowhere : ((q : ℕ) → test q ≡ false) → Achieves c e nothing u (CountsWhere slot test s) Never
    counts_nowhere nowhere = line_ends (λ q. ap (λ (f : ℕ → ℕ). f q) as_before ∙ none_there (test q) (s.columns slot q) (nowhere q))

  -- ---- a party is let in
  module _ (x : FactSlots) (known : slice_get c.slots x.eligible ≡ Some shape.Party) (p : ℕ) (s : State) (on : s.party ≡ Some p) (test : Bool) where
    pub lets_in : test ≡ true → Achieves c e (let_in x) s (LetIn x p s test) Never
    lets_in holds =
        let s1 : State = with_register cell 1 s in
        let put : Puts p 1 (s.columns x.eligible) ((with_cell x.eligible p 1 s1).columns x.eligible) = stored s1 x.eligible p 1 in
        let value : (if test then 1 else s.columns x.eligible p) ≡ 1 = ap (λ b. if b then 1 else s.columns x.eligible p) holds in
        line_goes refl
        (line_goes (store_does c e s1 x.eligible shape.Party known cell p on) (line_ends (record { here = put.here ∙ sym value; others = put.others })))

    pub stays_out : test ≡ false → Achieves c e nothing s (LetIn x p s test) Never
    stays_out fails =
        line_ends (record { here = sym (ap (λ b. if b then 1 else s.columns x.eligible p) fails); others = λ q other. refl })
