-- Loops over parties that let them in, and loops over winners that count them.
use Rattle.std.proofs.Common.{◌≡◌, ◌≢◌, ℕ, ◌+◌, ◌<◌, Bool, true, false, ◌||◌, length, take, Some, slice_get, count_by, if◌then◌else◌, refl, sym, ap, ◌∙◌, arith}
use Rattle.std.proofs.lemmas.List.{take_all}
use Rattle.sl_law_meaning.specs.declared.election.Win.{Win}
use Rattle.sl_law_meaning.specs.returns.Election.{Election, IsElection, parties_of}
use Rattle.sl_code_instructions.specs.Codes.{CountingCode}
use Rattle.sl_code_semantics.specs.State.{State}
use Rattle.sl_code_semantics.specs.Effects.{most, one_if, with_party, with_win}
use Rattle.sl_compile_plans.specs.declared.plan.Cursor.TheVariants as cursor
use Rattle.sl_compile_plans.specs.Trees.{Tree, Each}
use Rattle.sl_compile_plans.specs.Achieves.{Achieves, Never}
use Rattle.sl_compile_plans.specs.Frames.{may_move, may_write_register}
use Rattle.sl_compile_plans.proofs.KeepingRules.{each_keeping, wins_keeping, achieves_keeping}
use Rattle.sl_compile_pieces.specs.facts.Trees.{FactSlots}
use Rattle.sl_compile_pieces.proofs.facts.Counts.{Changed, next_changed, count_more, count_within}
use Rattle.sl_compile_pieces.proofs.facts.Holding.{WritesOnly}
use Rattle.sl_compile_pieces.proofs.facts.Cells.{LetIn, CountsWhere}

-- ---- parties

-- the column of eligible parties holds 1 for these, and 0 for any other
abbrev pub Flagged : Election → FactSlots → (ℕ → Bool) → State → Type 0
Flagged e x so t = (p : ℕ) → p < parties_of e → t.columns x.eligible p ≡ one_if (so p)

-- other columns, and the registers that no turn writes, are as they were before the loop
pub record Rest (x : FactSlots) (body : Tree) (s t : State) : Type 0 where
  pub columns : (k q : ℕ) → k ≢ x.eligible → t.columns k q ≡ s.columns k q
  pub registers : (r : ℕ) → may_write_register body r ≡ false → t.registers r ≡ s.registers r

either : (a b : Bool) → (if b then 1 else one_if a) ≡ one_if (a || b)
either true true = refl
either _ true = refl
either _ _ = refl

module _ (c : CountingCode) (e : Election) (x : FactSlots) (so test : ℕ → Bool) (body : Tree) (s : State) where
  abbrev InTurn : ℕ → State → Type 0
  InTurn j t = Changed (λ q. one_if (so q)) (λ q. one_if (so q || test q)) (parties_of e) j (t.columns x.eligible) × Rest x body s t

  pub parties_let_in : may_move body cursor.Party ≡ false → WritesOnly x.eligible body → Flagged e x so s
      → ((p : ℕ) (t : State) → p < parties_of e → Rest x body s t → Achieves c e body (with_party (Some p) t) (LetIn x p (with_party (Some p) t) (test p)) Never)
      → Achieves c e (Each cursor.Party body) s (Flagged e x (λ p. so p || test p)) Never
  parties_let_in free only flagged turn =
      each_keeping InTurn free
      (record { done = λ q less. absurd (omega arith); rest = λ q high less. flagged q less }, record { columns = λ k q other. refl; registers = λ r kept. refl })
      (λ p t less inv.
      achieves_keeping (turn p t less inv.1)
      (λ u h rest. (
        next_changed (λ q. one_if (so q)) (λ q. one_if (so q || test q)) (parties_of e) p (t.columns x.eligible) (u.columns x.eligible) inv.0 h.others
            (h.here ∙ ap (λ n. if test p then 1 else n) (inv.0.rest p (omega arith) less) ∙ either (so p) (test p)),
        record { columns = λ k q other. rest.columns k (only k other) q ∙ inv.1.columns k q other; registers = λ r kept. rest.registers r kept ∙ inv.1.registers r kept },
      )))
      (λ t inv p less. inv.0.done p less)

-- ---- winners

module _ (c : CountingCode) (e : Election) (is : IsElection e) (slot : ℕ) (test : ℕ → Win → Bool) (body : Tree) (s : State) where
  -- the cells count the first j winners
  record Counting (j : ℕ) (t : State) : Type 0 where
    cells : (q : ℕ) → t.columns slot q ≡ count_by (test q) (take j e.wins)
    kept : (k q : ℕ) → k ≢ slot → t.columns k q ≡ s.columns k q

  small : (j : ℕ) (t : State) → Counting j t → (q : ℕ) → t.columns slot q < most
  small j t h q = omega (arith, h.cells q, count_within (test q) e.wins j, is.wins, is.winners)

  pub winners_counted : may_move body cursor.Win ≡ false → WritesOnly slot body → ((q : ℕ) → s.columns slot q ≡ 0)
      → ((j : ℕ) (w : Win) (t : State) → slice_get e.wins j ≡ Some w → ((k q : ℕ) → k ≢ slot → t.columns k q ≡ s.columns k q) → ((q : ℕ) → t.columns slot q < most)
      → Achieves c e body (with_win (Some j) t) (CountsWhere slot (λ q. test q w) t) Never)
      → Achieves c e (Each cursor.Win body) s (λ t. (q : ℕ) → t.columns slot q ≡ count_by (test q) e.wins) Never
  winners_counted free only zeros turn =
      wins_keeping Counting free (record { cells = zeros; kept = λ k q other. refl })
      (λ j w t at inv.
      achieves_keeping (turn j w t at inv.kept (small j t inv))
      (λ u h rest. record {
        cells = λ q. h q ∙ ap (λ n. n + one_if (test q w)) (inv.cells q) ∙ sym (count_more (test q) e.wins j w at);
        kept = λ k q other. rest.columns k (only k other) q ∙ inv.kept k q other;
      }))
      (λ t inv q. inv.cells q ∙ ap (count_by (test q)) (take_all (length e.wins) e.wins (omega arith)))
